-- Worked values of the final bytes: short lists, and whole quarry images before and after a command. Assumes nothing.
use mathlib.Core.Path.{◌≡◌, refl}
use mathlib.Core.List.{List, [], ◌∷◌}
use Prim.Native.Nat.{ℕ, ◌+◌}
use lib.ListN.{take, drop, replicate}
use Rattle.rules.specs.Bytes.{block_size}
use Rattle.rules.specs.Answers.{given}
use Rattle.rules.specs.Copies.{view}
use Rattle.rules.specs.Steps.{wiped}
use Rattle.rules.specs.Commands.{enable, disable, rename, repair}
use Rattle.rules.specs.Final.{put_at, put_block, put_places, final}
use Rattle.quarry.specs.Quarry.{quarry_setting, quarry_with, sent_slots, quarry_sent}
use Rattle.rules.specs.declared.View.{View}
use Rattle.quarry.proofs.Opened.{rules}

put_examples :
    (put_at 1 (7 ∷ 8 ∷ []) (1 ∷ 2 ∷ 3 ∷ 4 ∷ []) ≡ 1 ∷ 7 ∷ 8 ∷ 4 ∷ [])
    × (put_block (block_size + 2) 1 (7 ∷ []) (1 ∷ 2 ∷ 3 ∷ 4 ∷ 5 ∷ []) ≡ 1 ∷ 7 ∷ 0xFF ∷ 0xFF ∷ 5 ∷ [])
    × (put_places 1 1 (7 ∷ []) (0 ∷ []) (1 ∷ 2 ∷ 3 ∷ 4 ∷ []) ≡ 1 ∷ 2 ∷ 7 ∷ 4 ∷ [])
unfolding rules
put_examples = (refl, refl, refl)

-- ---- the quarry image

abbrev quarry_view : View
quarry_view = record {
  spt0 = 0x4000;
  spt1 = 0x5000;
  cpb0 = 0x6000;
  cpb1 = 0x7000;
  table = 0x4000;
  pointers = 0x6000;
}

quarry_viewed : view quarry_setting quarry_sent ≡ given quarry_view
unfolding rules
quarry_viewed = refl

-- case 2
enable_2_leaves : final quarry_setting quarry_sent quarry_view (enable 2) ≡ quarry_with sent_slots (0x8000 ∷ 0x9000 ∷ 0xA000 ∷ [])
unfolding rules
enable_2_leaves = refl

disable_0_leaves : final quarry_setting quarry_sent quarry_view (disable 0) ≡ quarry_with sent_slots (0 ∷ 0x9000 ∷ [])
unfolding rules
disable_0_leaves = refl

-- the name of slot 1, entry 7, in both tables
abbrev renamed_to_A : List ℕ
renamed_to_A = final quarry_setting quarry_sent quarry_view (rename 1 (65 ∷ []))

rename_1_leaves :
    (take 16 (drop 0x4100 renamed_to_A) ≡ 65 ∷ replicate 15 0)
    × (take 16 (drop 0x5100 renamed_to_A) ≡ 65 ∷ replicate 15 0)
unfolding rules
rename_1_leaves = (refl, refl)

-- CPB1 erased, then repaired
repair_leaves : final quarry_setting (wiped 0x7000 block_size quarry_sent) quarry_view repair ≡ quarry_sent
unfolding rules
repair_leaves = refl
