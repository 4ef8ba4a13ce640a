-- What holds at every cut of a few small jobs, computed: what the order of their steps protects. Assumes nothing.
use mathlib.Core.Path.{◌≡◌, refl}
use mathlib.Core.Bool.{Bool, true, false, not, ◌||◌}
use mathlib.Core.List.{List, [], ◌∷◌, ◌++◌, map}
use Prim.Native.Nat.{ℕ, zero, suc}
use lib.Dec.{eqb}
use lib.ListN.{take, drop, get_or, length}
use Rattle.rules.specs.Lists.{same, member, all}
use Rattle.rules.specs.Bytes.{little_endian, bytes_of, block}
use Rattle.rules.specs.Pointers.{values, all_ones, all_zeros, top_byte_erased, one_more, slot_at, live_or, judged, slot_given, gives, add_last, order}
use Rattle.rules.specs.Steps.{programmed, wiped, step, steps, programs, rewrite}
use Rattle.rules.specs.Cuts.{wiped_where, half_done}
use Rattle.rules.specs.Copies.{pair_agrees}
use Rattle.rules.specs.Commands.{pointer_bytes, giving, into_place, into_places, repair_pair}
use Rattle.rules.specs.declared.Step.{Step}

abbrev numbers_below : ℕ → List ℕ
numbers_below zero = []
numbers_below (suc n) = n ∷ numbers_below n

-- every choice of n bytes
abbrev choices : ℕ → List (List Bool)
choices zero = [] ∷ []
choices (suc n) = map (λ (ws : List Bool). true ∷ ws) (choices n) ++ map (λ (ws : List Bool). false ∷ ws) (choices n)

-- a test of what each number of steps, but not all of them, leaves of an image with a granule of eight bytes; if the next
-- one is an erase, with each of some choices
abbrev at_every_cut : List (List Bool) → List Step → List ℕ → (List ℕ → Bool) → Bool
at_every_cut cs ss img test =
    all (λ n. all (λ (ws : List Bool). test (half_done 8 ws (drop n ss) (steps 8 (take n ss) img))) cs)
    (numbers_below (length ss))

-- ---- the magic goes first and comes last: a block of eight bytes is rewritten

-- four equal bytes: an erase that left such a byte could put this magic back
abbrev old_block : List ℕ
old_block = 10 ∷ 10 ∷ 10 ∷ 10 ∷ 14 ∷ 15 ∷ 16 ∷ 17 ∷ []

abbrev new_block : List ℕ
new_block = 20 ∷ 21 ∷ 22 ∷ 23 ∷ 24 ∷ 25 ∷ 26 ∷ 27 ∷ []

pub no_magic_before_the_end :
    at_every_cut (choices 8) (rewrite 0 new_block) old_block (λ img. not (same (take 4 img) (take 4 new_block))) ≡ true
unfolding same all programmed wiped step steps programs rewrite wiped_where half_done
no_magic_before_the_end = refl

pub old_magic_on_the_old_block_alone :
    at_every_cut (choices 8) (rewrite 0 new_block) old_block (λ img. same img old_block || not (same (take 4 img) (take 4 old_block)))
    ≡ true
unfolding same all programmed wiped step steps programs rewrite wiped_where half_done
old_magic_on_the_old_block_alone = refl

-- ---- the lowest duplicate goes first: the slot keeps its rank in the order until it goes

-- slots 0 and 1 start at 0x1000 and 0x2000; places 0, 1 and 2 hold slots 0, 1 and 0
abbrev two_starts : List ℕ
two_starts = 0x1000 ∷ 0x2000 ∷ []

abbrev with_duplicate : List ℕ
with_duplicate = 0x1000 ∷ 0x2000 ∷ 0x1000 ∷ []

abbrev clearing : List Step
clearing = into_places 0 0 (bytes_of 8 0) (giving two_starts 0 0 with_duplicate)

abbrev order_of : List ℕ → List ℕ
order_of img = order two_starts (values 3 img)

pub old_order_or_without_the_slot :
    at_every_cut (choices 0) clearing (pointer_bytes with_duplicate)
    (λ img. same (order_of img) (0 ∷ 1 ∷ []) || same (order_of img) (1 ∷ [])) ≡ true
unfolding same member all little_endian bytes_of values all_ones all_zeros top_byte_erased one_more slot_at live_or judged slot_given gives add_last order programmed wiped step steps programs wiped_where half_done pointer_bytes giving into_place into_places
old_order_or_without_the_slot = refl

-- ---- a repair writes the copy that is not read: here a copy stands if its first byte is 7

abbrev begins_with_7 : List ℕ → Bool
begins_with_7 b = eqb (get_or b 0 0) 7

abbrev first_stands : List ℕ
first_stands = 7 ∷ 0 ∷ 0 ∷ 0 ∷ 0 ∷ 0 ∷ 0 ∷ 0 ∷ []

pub copy_1_repaired : repair_pair begins_with_7 first_stands 0 4 0 ≡ rewrite 4 (block first_stands 0)
unfolding same block pair_agrees repair_pair
copy_1_repaired = refl

abbrev second_stands : List ℕ
second_stands = 0 ∷ 0 ∷ 0 ∷ 0 ∷ 7 ∷ 0 ∷ 0 ∷ 0 ∷ []

pub copy_0_repaired : repair_pair begins_with_7 second_stands 0 4 4 ≡ rewrite 0 (block second_stands 4)
unfolding same block pair_agrees repair_pair
copy_0_repaired = refl
