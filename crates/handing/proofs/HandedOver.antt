-- A job put over a buffer goes by what its steps use alone. Assumes nothing.
use mathlib.Core.Path.{◌≡◌}
use mathlib.Core.List.{List, []}
use Prim.Native.Nat.{ℕ, ◌*◌}
use native.Mathlib.Omega.{arith}
use lib.ListN.{length}
use Rattle.rules.specs.Bytes.{block_size}
use Rattle.jobs.specs.Jobs.{place_room, lent}
use Rattle.job_parts.specs.declared.Kind.{Kind}
use Rattle.job_parts.specs.declared.Kind.TheVariants.{Nothing, Rewrite, Places}
use Rattle.job_parts.specs.declared.Plan.{Plan}
use Rattle.job_bytes.specs.Form.{block_over, job_over, encoded_over}
use Rattle.job_bytes.specs.Inner.Fitting.{Fitting}

not_nothing : {A : Type 0} (k : Kind) → k ≡ Nothing → k ≡ Rewrite → A
not_nothing k e f = let z : ◌≡◌ {A = ℕ} 0 1 = cc in absurd (omega arith)

not_places : {A : Type 0} (k : Kind) → k ≡ Places → k ≡ Rewrite → A
not_places k e f = let z : ◌≡◌ {A = ℕ} 0 1 = cc in absurd (omega arith)

module _ (bs : List ℕ) (p : Plan) (b0 b1 ks v : List ℕ) where
  pub no_steps_over : (p.first ≡ Nothing) × ((p.second ≡ Nothing) × (p.count ≡ 0))
      → encoded_over bs (lent p 0 [] [] [] v) ≡ encoded_over bs (lent p 0 b0 b1 ks v)
  unfolding encoded_over job_over block_over
  no_steps_over (e, (f, g)) = rw (e, f, g)

  pub no_places_over : p.count ≡ 0
      → encoded_over bs (lent p 0 b0 b1 [] v) ≡ encoded_over bs (lent p 0 b0 b1 ks v)
  unfolding encoded_over job_over
  no_places_over e = rw e

  pub no_blocks_over : (p.first ≡ Places) × (p.second ≡ Places)
      → encoded_over bs (lent p 0 [] [] ks v) ≡ encoded_over bs (lent p 0 b0 b1 ks v)
  unfolding encoded_over job_over block_over
  no_blocks_over (e, f) = rw (e, f)

-- what its steps use is there
module _ (p : Plan) (b0 b1 ks v : List ℕ) (eight : length v ≡ 8) where
  pub no_steps_fit : (p.first ≡ Nothing) × ((p.second ≡ Nothing) × (p.count ≡ 0)) → Fitting (lent p 0 [] [] [] v)
  no_steps_fit (e, (f, g)) = record {
    value = eight;
    places = omega (arith, g);
    first = λ h. not_nothing _ e h;
    second = λ h. not_nothing _ f h;
  }

  pub no_places_fit : p.count ≡ 0 → length b0 ≡ block_size → length b1 ≡ block_size
      → Fitting (lent p 0 b0 b1 [] v)
  no_places_fit e first second = record {
    value = eight;
    places = omega (arith, e);
    first = λ _. first;
    second = λ _. second;
  }

  pub no_blocks_fit : (p.first ≡ Places) × (p.second ≡ Places) → length ks ≡ 2 * place_room
      → Fitting (lent p 0 [] [] ks v)
  no_blocks_fit (e, f) room = record {
    value = eight;
    places = omega (arith, room);
    first = λ h. not_places _ e h;
    second = λ h. not_places _ f h;
  }
