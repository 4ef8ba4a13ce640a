-- How many steps the parts of a job have. Assumes nothing.
use mathlib.Core.Path.{◌≡◌, refl, ◌∙◌}
use mathlib.Core.List.{List}
use Prim.Native.Nat.{ℕ, ◌≤◌, min}
use native.Mathlib.Omega.{arith}
use lib.ListN.{length, length-append}
use Rattle.part_steps.specs.Parts.{place_room, meant}
use Rattle.job_parts.specs.Listed.{part, listed}
use Rattle.job_parts.specs.Inner.Parts.{Sized, part_length, listed_length}
use Rattle.job_parts.specs.declared.Kind.{Kind}
use Rattle.job_parts.specs.declared.Kind.TheVariants.{Nothing, Rewrite, Places}
use Rattle.job_parts.specs.declared.Plan.{Plan}
use Rattle.part_steps.proofs.RewriteSteps.{length-rewrite}
use Rattle.part_steps.proofs.PlaceNumbers.{length_numbers}
use Rattle.part_steps.proofs.PlaceSteps.{length_places}

pub length_part : (a offset count : ℕ) (b ks v : List ℕ) (sized : Sized b ks v) (kind : Kind)
    → length (part kind a offset b (meant count ks) v) ≡ part_length kind (min count place_room)
unfolding part part_length
length_part a offset count b ks v sized Nothing = refl
length_part a offset count b ks v sized Rewrite = length-rewrite a b sized.block
length_part a offset count b ks v sized Places =
    length_places a offset v sized.value (meant count ks) ∙ rw (length_numbers (min count place_room) ks)

part_bound : (kind : Kind) (count : ℕ) → part_length kind (min count place_room) ≤ 4101
unfolding part_length
part_bound Nothing count = omega arith
part_bound Rewrite count = omega arith
part_bound Places count = omega arith

pub listed_bound : (p : Plan) → listed_length p ≤ 8202
unfolding listed_length
listed_bound p = omega (arith, part_bound p.first p.count, part_bound p.second p.count)

pub length-listed : (p : Plan) (b0 b1 ks v : List ℕ) → Sized b0 ks v → Sized b1 ks v
    → length (listed p b0 b1 ks v) ≡ listed_length p
unfolding listed listed_length
length-listed p b0 b1 ks v sized0 sized1 =
    length-append (part p.first p.at p.offset b0 (meant p.count ks) v)
    (part p.second p.after p.offset b1 (meant p.count ks) v)
    ∙ rw (
      length_part p.at p.offset p.count b0 ks v sized0 p.first,
      length_part p.after p.offset p.count b1 ks v sized1 p.second,
    )
