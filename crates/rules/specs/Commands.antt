-- The listed steps of enable, disable, rename, create, delete and repair, with refusals 6 to 10, 14, 15 and 40 to 43.
-- Assumes nothing.
use Rattle.std.specs.Prelude.{Bool, true, false, not, cond, ◌&&◌, ◌||◌, List, [], ◌∷◌, ◌++◌, map, reverse, ℕ, zero, suc, ◌+◌, ◌*◌, ◌-◌, ◌/◌, eqb, leb, ltb, take, drop, get_or, length, replicate}
use Rattle.rules.specs.Lists.{member, without, all, any, first}
use Rattle.rules.specs.Bytes.{bytes_of, block, block_size, erased_byte, multiple}
use Rattle.rules.specs.Answers.{Answer, given, unless, ◌>>=◌}
use Rattle.rules.specs.declared.Setting.{Setting}
use Rattle.rules.specs.Table.{Entry, entry_count, entries, has_name, is_fixed_name, range_inside, ranges_apart, starts, table_stands}
use Rattle.rules.specs.Pointers.{place_offset, place_count, places, order, judged, is_erased, gives, pointers_stand}
use Rattle.rules.specs.Copies.{view, boot_order, pair_agrees, agree_by}
use Rattle.rules.specs.Readers.{slot_row, slot_entry, slot_there}
use Rattle.rules.specs.Steps.{programs, rewrite, rewrite_pair}
use Rattle.rules.specs.declared.View.{View}
use Rattle.rules.specs.declared.Step.{Step}
use Rattle.rules.specs.declared.Refusal.TheVariants.{CopiesDiffer, NoSuchSlot, NotInOrder, NameNotAllowed, NameTaken, SlotEmpty, NoPlaceLeft, LengthWrong, NoRowLeft, NoStart, IsInOrder}

-- ---- a pointer block with another order

-- the eight bytes of each pointer, lowest place first
unfoldable pub pointer_bytes : List ℕ → List ℕ
pointer_bytes [] = []
pointer_bytes (v ∷ vs) = bytes_of 8 v ++ pointer_bytes vs

-- the bytes before the places as they were, then these pointers from the lowest place up, the other places erased
unfoldable pub filled : List ℕ → List ℕ → List ℕ
filled p vs =
    take (place_offset p) p
    ++ (pointer_bytes vs
    ++ (replicate (8 * (place_count p - length vs)) erased_byte
    ++ drop (place_offset p + 8 * place_count p) p))

-- the pointers of an order "from lowest priority upward"
unfoldable pub pointers_of : List ℕ → List ℕ → List ℕ
pointers_of starts o = map (λ k. get_or starts k 0) (reverse o)

-- the pointer pair rewritten with a new order
unfoldable pub reorder_steps : ℕ → ℕ → List ℕ → List ℕ → List ℕ → List Step
reorder_steps c0 c1 starts p o = rewrite_pair c0 c1 (filled p (pointers_of starts o))

-- ---- enable

-- how many places are left of a list without the erased ones at its end, when one more comes below: none if all are
-- erased, else one more
unfoldable pub below : Bool → ℕ → ℕ
below true zero = 0
below false zero = 1
below true (suc n) = suc (suc n)
below false (suc n) = suc (suc n)

-- "the lowest place such that it and all above are erased": as many places as are left without the erased ones at the
-- end, which is the count of places where the last is not erased
unfoldable pub free_place : List ℕ → List ℕ → ℕ
free_place starts [] = 0
free_place starts (v ∷ vs) = below (is_erased (judged starts v)) (free_place starts vs)

unfoldable pub is_first : ℕ → List ℕ → Bool
is_first k [] = false
is_first k (x ∷ xs) = eqb k x

-- eight bytes, lowest first, into a place of the block at an address
unfoldable pub into_place : ℕ → ℕ → List ℕ → ℕ → List Step
into_place c offset bs k = programs (c + (offset + 8 * k)) bs

-- the start of a slot into a place, "in CPB1, then in CPB0"
unfoldable pub append_steps : ℕ → ℕ → ℕ → ℕ → ℕ → List Step
append_steps c0 c1 offset k start =
    into_place c1 offset (bytes_of 8 start) k ++ into_place c0 offset (bytes_of 8 start) k

-- refusal 14: a slot "whose first 4,096 bytes are all 0xFF", by where it starts
unfoldable pub slot_empty : List ℕ → ℕ → Bool
slot_empty img start = all (λ b. eqb b erased_byte) (block img start)

-- refusal 15: the rewritten order (s, then the old one without s) does not exceed the count
unfoldable pub enough_places : List ℕ → List ℕ → ℕ → Bool
enough_places starts p k = leb (length (k ∷ without k (order starts (places p)))) (place_count p)

-- "Enable s", by where the pointer blocks are, the slots' starts and the pointer block read
unfoldable pub enable_steps : ℕ → ℕ → List ℕ → List ℕ → ℕ → List Step
enable_steps c0 c1 starts p k =
    cond (is_first k (order starts (places p))) []
    (cond (ltb (free_place starts (places p)) (place_count p))
    (append_steps c0 c1 (place_offset p) (free_place starts (places p)) (get_or starts k 0))
    (reorder_steps c0 c1 starts p (k ∷ without k (order starts (places p)))))

-- ---- disable

-- the places that give a slot, lowest first, numbered from i
unfoldable pub giving : List ℕ → ℕ → ℕ → List ℕ → List ℕ
giving starts k i [] = []
giving starts k i (v ∷ vs) =
    cond (gives k (judged starts v)) (i ∷ giving starts k (suc i) vs) (giving starts k (suc i) vs)

-- the same eight bytes into some places of the block at an address, "lowest place first and lowest byte first"
unfoldable pub into_places : ℕ → ℕ → List ℕ → List ℕ → List Step
into_places c offset bs [] = []
into_places c offset bs (k ∷ ks) = into_place c offset bs k ++ into_places c offset bs ks

-- those places to 0, "in CPB1, then CPB0"
unfoldable pub clear_steps : ℕ → ℕ → ℕ → List ℕ → List Step
clear_steps c0 c1 offset ks = into_places c1 offset (bytes_of 8 0) ks ++ into_places c0 offset (bytes_of 8 0) ks

-- "the start with its lowest 1, 2 or 3 bytes set to 0 equals another application slot's start"
unfoldable pub half_cleared_names : List ℕ → ℕ → Bool
half_cleared_names starts a =
    member (a / 0x100 * 0x100) (without a starts)
    || member (a / 0x10000 * 0x10000) (without a starts)
    || member (a / 0x1000000 * 0x1000000) (without a starts)

-- "Disable s"
unfoldable pub disable_steps : ℕ → ℕ → List ℕ → List ℕ → ℕ → List Step
disable_steps c0 c1 starts p k =
    cond (half_cleared_names starts (get_or starts k 0))
    (reorder_steps c0 c1 starts p (without k (order starts (places p))))
    (clear_steps c0 c1 (place_offset p) (giving starts k 0 (places p)))

-- ---- rename

-- "the name and zeros up to 16"
unfoldable pub padded_name : List ℕ → List ℕ
padded_name n = n ++ replicate (16 - length n) 0

-- the table with another name in an entry, "the other bytes as they were"
unfoldable pub put_name : List ℕ → ℕ → List ℕ → List ℕ
put_name t row n = take (0x20 + 32 * row) t ++ (padded_name n ++ drop (0x20 + 32 * row + 16) t)

-- refusal 9: "name of 0 or over 15 bytes, with a zero byte, or one of the six"
unfoldable pub name_allowed : List ℕ → Bool
name_allowed n =
    ltb 0 (length n) && leb (length n) 15 && all (λ b. not (eqb b 0)) n && not (is_fixed_name n)

-- refusal 10: "another entry has that name"
unfoldable pub name_free : List Entry → ℕ → List ℕ → Bool
name_free es row n = not (any (has_name n) (take row es ++ drop (suc row) es))

-- "Same name (up to the zero)"
unfoldable pub has_already : List Entry → ℕ → List ℕ → Bool
has_already es k n = has_name n (slot_entry es k)

-- "Rename s"
unfoldable pub rename_steps : ℕ → ℕ → List ℕ → ℕ → List ℕ → List Step
rename_steps t0 t1 t k n =
    cond (has_already (entries t) k n) [] (rewrite_pair t0 t1 (put_name t (slot_row (entries t) k) n))

-- ---- a table with other rows

-- another count, and other bytes from the first row on; bytes 0 to 7 and 12 to 31 "stay"
unfoldable pub with_rows : List ℕ → ℕ → List ℕ → List ℕ
with_rows t count bs = take 8 t ++ (bytes_of 4 count ++ (take 20 (drop 12 t) ++ bs))

-- n rows of a table from row i on, "each with all its 32 bytes"
unfoldable pub row_bytes : ℕ → ℕ → List ℕ → List ℕ
row_bytes i n t = take (32 * n) (drop (0x20 + 32 * i) t)

-- ---- create

-- a range that has no name yet
unfoldable pub new_range : ℕ → ℕ → Entry
new_range start size = record { name_field = []; start = start; size = size; flags = 0 }

-- "whose range fits the image and overlaps no partition, and which no place of the pointer block read holds": for an
-- image of this length, its entries, the values of the places and the length of the new slot
unfoldable pub may_start : ℕ → List Entry → List ℕ → ℕ → ℕ → Bool
may_start len es ps size a =
    range_inside len (new_range a size) && all (ranges_apart (new_range a size)) es && not (member a ps)

-- n multiples of 4,096, upward from one of them
unfoldable pub upward : ℕ → ℕ → List ℕ
upward zero a = []
upward (suc n) a = a ∷ upward n (a + block_size)

-- from one of them on, as many as an image of this length has
unfoldable pub candidates : ℕ → ℕ → List ℕ
candidates from len = upward (len / block_size) from

-- one of them may be the start
unfoldable pub has_start : ℕ → ℕ → List Entry → List ℕ → ℕ → Bool
has_start from len es ps size = any (may_start len es ps size) (candidates from len)

-- "the lowest multiple of 4,096" that may be the start, from one on; the image's length where there is none
unfoldable pub lowest_start : ℕ → ℕ → List Entry → List ℕ → ℕ → ℕ
lowest_start from len es ps size = first (may_start len es ps size) len (candidates from len)

-- "name and zeros up to 16, start, length, flags 0"
unfoldable pub new_row : List ℕ → ℕ → ℕ → List ℕ
new_row n start size = padded_name n ++ (bytes_of 8 start ++ (bytes_of 4 size ++ bytes_of 4 0))

-- "The new entry comes last"; the count is one more, and the rows behind it are as they were
unfoldable pub with_new_row : List ℕ → List ℕ → ℕ → ℕ → List ℕ
with_new_row t n start size =
    with_rows t (suc (entry_count t))
    (row_bytes 0 (entry_count t) t ++ (new_row n start size ++ drop (0x20 + 32 * suc (entry_count t)) t))

-- the start of a slot of this length, created on a flash with this view
unfoldable pub created_start : List ℕ → View → ℕ → ℕ
created_start img v size =
    lowest_start 0 (length img) (entries (block img v.table)) (places (block img v.pointers)) size

-- refusal 40: "length 0 or not a multiple of 4,096"
unfoldable pub size_right : ℕ → Bool
size_right size = not (eqb size 0) && multiple block_size size

-- "Create"
unfoldable pub create_steps : ℕ → ℕ → List ℕ → List ℕ → ℕ → ℕ → List Step
create_steps t0 t1 t n start size = rewrite_pair t0 t1 (with_new_row t n start size)

-- ---- delete

-- "Rows after it close up; the count is one less; every uncounted row becomes zero"
unfoldable pub without_row : List ℕ → ℕ → List ℕ
without_row t row =
    with_rows t (entry_count t - 1)
    (row_bytes 0 row t
    ++ (row_bytes (suc row) (entry_count t - suc row) t
    ++ replicate (32 * (128 - entry_count t)) 0))

-- "Delete s"
unfoldable pub delete_steps : ℕ → ℕ → List ℕ → ℕ → List Step
delete_steps t0 t1 t k = rewrite_pair t0 t1 (without_row t (slot_row (entries t) k))

-- ---- repair

-- "where a pair disagrees, the copy not read is rewritten from the copy read"
unfoldable pub repair_pair : (List ℕ → Bool) → List ℕ → ℕ → ℕ → ℕ → List Step
repair_pair stands img a0 a1 read =
    cond (pair_agrees stands img a0 a1) [] (rewrite (cond (eqb read a0) a1 a0) (block img read))

-- "Repair": SPT pair, then CPB pair
unfoldable pub repair_steps : Setting → List ℕ → View → List Step
repair_steps s img v =
    repair_pair (table_stands s (length img)) img v.spt0 v.spt1 v.table
    ++ repair_pair pointers_stand img v.cpb0 v.cpb1 v.pointers

-- ---- the commands

pub data Command : Type 0 where
  enable disable : ℕ → Command
  rename : ℕ → List ℕ → Command
  create : List ℕ → ℕ → Command
  delete : ℕ → Command
  repair : Command

-- the refusals after 5, in their order, or the listed steps
unfoldable pub job : Setting → List ℕ → View → Command → Answer (List Step)
job s img v (enable k) =
    unless CopiesDiffer (agree_by s img v)
    (unless NoSuchSlot (slot_there (entries (block img v.table)) k)
    (unless SlotEmpty (not (slot_empty img (get_or (starts (block img v.table)) k 0)))
    (unless NoPlaceLeft (enough_places (starts (block img v.table)) (block img v.pointers) k)
    (given (enable_steps v.cpb0 v.cpb1 (starts (block img v.table)) (block img v.pointers) k)))))
job s img v (disable k) =
    unless CopiesDiffer (agree_by s img v)
    (unless NoSuchSlot (slot_there (entries (block img v.table)) k)
    (unless NotInOrder (member k (boot_order img v))
    (given (disable_steps v.cpb0 v.cpb1 (starts (block img v.table)) (block img v.pointers) k))))
job s img v (rename k n) =
    unless CopiesDiffer (agree_by s img v)
    (unless NoSuchSlot (slot_there (entries (block img v.table)) k)
    (unless NameNotAllowed (name_allowed n)
    (unless NameTaken (name_free (entries (block img v.table)) (slot_row (entries (block img v.table)) k) n)
    (given (rename_steps v.spt0 v.spt1 (block img v.table) k n)))))
job s img v (create n size) =
    unless CopiesDiffer (agree_by s img v)
    (unless NameNotAllowed (name_allowed n)
    (unless NameTaken (not (any (has_name n) (entries (block img v.table))))
    (unless LengthWrong (size_right size)
    (unless NoRowLeft (ltb (entry_count (block img v.table)) 127)
    (unless NoStart (has_start 0 (length img) (entries (block img v.table)) (places (block img v.pointers)) size)
    (given (create_steps v.spt0 v.spt1 (block img v.table) n (created_start img v size) size)))))))
job s img v (delete k) =
    unless CopiesDiffer (agree_by s img v)
    (unless NoSuchSlot (slot_there (entries (block img v.table)) k)
    (unless IsInOrder (not (member k (boot_order img v)))
    (given (delete_steps v.spt0 v.spt1 (block img v.table) k))))
job s img v repair = given (repair_steps s img v)

-- a command started: every refusal in its order, or the listed steps
unfoldable pub start : Setting → List ℕ → Command → Answer (List Step)
start s img c = view s img >>= λ v. job s img v c
