-- What a finished command leaves, as bytes of the image before and after, without steps. Assumes nothing.
use Rattle.std.specs.Prelude.{Bool, cond, List, [], ◌∷◌, ◌++◌, ℕ, ◌+◌, ◌*◌, ◌-◌, eqb, ltb, take, drop, length, get_or, replicate}
use Rattle.rules.specs.Lists.{without}
use Rattle.rules.specs.Bytes.{bytes_of, block, block_size, erased_byte}
use Rattle.rules.specs.declared.Setting.{Setting}
use Rattle.rules.specs.Table.{entries, starts, table_stands}
use Rattle.rules.specs.Pointers.{place_offset, place_count, places, order, pointers_stand}
use Rattle.rules.specs.Copies.{pair_agrees}
use Rattle.rules.specs.Readers.{slot_row}
use Rattle.rules.specs.Commands.{Command, enable, disable, rename, create, delete, repair, filled, pointers_of, free_place, is_first, giving, half_cleared_names, put_name, has_already, created_start, with_new_row, without_row}
use Rattle.rules.specs.declared.View.{View}

-- bytes put at an address, every other byte as it was
unfoldable pub put_at : ℕ → List ℕ → List ℕ → List ℕ
put_at a bs img = take a img ++ (bs ++ drop (a + length bs) img)

-- a block put at an address; the bytes past it to its granule's end are 0xFF
unfoldable pub put_block : ℕ → ℕ → List ℕ → List ℕ → List ℕ
put_block g a b img = put_at a (b ++ replicate (g - block_size) erased_byte) img

-- the same block put at both addresses of a pair
unfoldable pub put_pair : ℕ → ℕ → ℕ → List ℕ → List ℕ → List ℕ
put_pair g a0 a1 b img = put_block g a0 b (put_block g a1 b img)

-- eight bytes put into some places of the pointer block at an address
unfoldable pub put_places : ℕ → ℕ → List ℕ → List ℕ → List ℕ → List ℕ
put_places c offset bs [] img = img
put_places c offset bs (k ∷ ks) img = put_places c offset bs ks (put_at (c + (offset + 8 * k)) bs img)

-- the same into both copies
unfoldable pub put_places_pair : ℕ → ℕ → ℕ → List ℕ → List ℕ → List ℕ → List ℕ
put_places_pair c0 c1 offset bs ks img = put_places c0 offset bs ks (put_places c1 offset bs ks img)

-- enable: nothing, a pointer in the free place of both copies, or both copies with the new order
unfoldable pub enabled : ℕ → ℕ → ℕ → List ℕ → List ℕ → ℕ → List ℕ → List ℕ
enabled g c0 c1 starts p k img =
    cond (is_first k (order starts (places p))) img
    (cond (ltb (free_place starts (places p)) (place_count p))
    (put_places_pair c0 c1 (place_offset p) (bytes_of 8 (get_or starts k 0)) (free_place starts (places p) ∷ []) img)
    (put_pair g c0 c1 (filled p (pointers_of starts (k ∷ without k (order starts (places p))))) img))

-- disable: both copies with the old order without the slot, or zeros in each place that gives it
unfoldable pub disabled : ℕ → ℕ → ℕ → List ℕ → List ℕ → ℕ → List ℕ → List ℕ
disabled g c0 c1 starts p k img =
    cond (half_cleared_names starts (get_or starts k 0))
    (put_pair g c0 c1 (filled p (pointers_of starts (without k (order starts (places p))))) img)
    (put_places_pair c0 c1 (place_offset p) (bytes_of 8 0) (giving starts k 0 (places p)) img)

-- rename: nothing, or both copies of the table with the name
unfoldable pub with_new_name : ℕ → ℕ → ℕ → List ℕ → ℕ → List ℕ → List ℕ → List ℕ
with_new_name g t0 t1 t k n img =
    cond (has_already (entries t) k n) img (put_pair g t0 t1 (put_name t (slot_row (entries t) k) n) img)

-- repair of a pair: nothing, or the copy not read equal to the copy read
unfoldable pub repaired : ℕ → (List ℕ → Bool) → ℕ → ℕ → ℕ → List ℕ → List ℕ
repaired g stands a0 a1 read img =
    cond (pair_agrees stands img a0 a1) img (put_block g (cond (eqb read a0) a1 a0) (block img read) img)

-- the image after a finished command, by the view at its start
unfoldable pub final : Setting → List ℕ → View → Command → List ℕ
final s img v (enable k) =
    enabled s.granule v.cpb0 v.cpb1 (starts (block img v.table)) (block img v.pointers) k img
final s img v (disable k) =
    disabled s.granule v.cpb0 v.cpb1 (starts (block img v.table)) (block img v.pointers) k img
final s img v (rename k n) = with_new_name s.granule v.spt0 v.spt1 (block img v.table) k n img
final s img v (create n size) =
    put_pair s.granule v.spt0 v.spt1 (with_new_row (block img v.table) n (created_start img v size) size) img
final s img v (delete k) =
    put_pair s.granule v.spt0 v.spt1
    (without_row (block img v.table) (slot_row (entries (block img v.table)) k)) img
final s img v repair =
    repaired s.granule pointers_stand v.cpb0 v.cpb1 v.pointers
    (repaired s.granule (table_stands s (length img)) v.spt0 v.spt1 v.table img)
