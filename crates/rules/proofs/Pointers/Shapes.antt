-- Two pointer blocks of different shape. They disagree even where both stand: every command but repair is refused 6, and
-- repair rewrites the copy that is not read with the bytes of the other. Assumes nothing.
use mathlib.Core.Path.{◌≡◌, refl, ap}
use mathlib.Core.Bool.{Bool, true, false, cond, ◌&&◌}
use mathlib.Core.List.{List}
use Prim.Native.Nat.{ℕ}
use lib.Dec.{eqb}
use Rattle.rules.specs.Lists.{same}
use Rattle.rules.specs.Bytes.{block}
use Rattle.rules.specs.Answers.{refused}
use Rattle.rules.specs.Pointers.{place_offset, place_count, pointers_stand}
use Rattle.rules.specs.Copies.{pair_agrees, tables_agree, pointers_agree, agree_by}
use Rattle.rules.specs.Steps.{rewrite}
use Rattle.rules.specs.Commands.{Command, repair, repair_pair, job}
use Rattle.rules.specs.declared.Setting.{Setting}
use Rattle.rules.specs.declared.View.{View}
use Rattle.rules.proofs.Lists.Tests.{by_cases, same_true}
use Rattle.rules.proofs.Claim.RefusalNumbers.{refused_6}
use Rattle.rules.specs.declared.Refusal.TheVariants.{CopiesDiffer}

module _ (s : Setting) (img : List ℕ) (v : View) where
  abbrev p0 : List ℕ
  p0 = block img v.cpb0

  abbrev p1 : List ℕ
  p1 = block img v.cpb1

  -- another offset or another count
  abbrev pub OtherShape : Type 0
  OtherShape = (place_offset p0 ≡ place_offset p1) × (place_count p0 ≡ place_count p1) → ⊥

  module _ (other : OtherShape) where
    pub shapes_disagree : pointers_agree img v ≡ false
    unfolding pointers_agree pair_agrees
    shapes_disagree =
        by_cases (same p0 p1)
        (λ t. let e = same_true p0 p1 t in absurd (other (ap place_offset e, ap place_count e)))
        (λ t. rw t (never (pointers_stand p0 && pointers_stand p1)))
      where
        never : (b : Bool) → b && false ≡ false
        never true = refl
        never false = refl

    not_agreed : agree_by s img v ≡ false
    unfolding agree_by
    not_agreed = rw shapes_disagree (by_cases (tables_agree s img) (λ t. rw t) (λ t. rw t))

    -- every command but repair
    pub shapes_refused : (c : Command) → (c ≡ repair → ⊥) → job s img v c ≡ refused CopiesDiffer
    shapes_refused = refused_6 s img v not_agreed

    pub rewritten_from_copy_read :
        repair_pair pointers_stand img v.cpb0 v.cpb1 v.pointers
        ≡ rewrite (cond (eqb v.pointers v.cpb0) v.cpb1 v.cpb0) (block img v.pointers)
    unfolding repair_pair pointers_agree
    rewritten_from_copy_read = rw shapes_disagree
