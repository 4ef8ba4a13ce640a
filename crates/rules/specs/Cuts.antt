-- Running a job under budgets, refusals 11 and 12, and a job that is cut. Assumes nothing.
use Rattle.std.specs.Prelude.{Bool, cond, ◌&&◌, List, [], ◌∷◌, ◌++◌, ℕ, ◌+◌, eqb, leb, ltb, take, drop, length}
use Rattle.rules.specs.Lists.{all}
use Rattle.rules.specs.Bytes.{erased_byte}
use Rattle.rules.specs.Answers.{Answer, given, unless}
use Rattle.rules.specs.Steps.{steps}
use Rattle.rules.specs.declared.Step.{Step}
use Rattle.rules.specs.declared.Step.TheVariants.{Program, Erase}
use Rattle.rules.specs.declared.Refusal.TheVariants.{NoStepsLeft, OutsideImage}

-- ---- one run

-- a job under way: the image, and the listed steps that remain
pub record Progress : Type 0 where
  pub image : List ℕ
  pub left : List Step

-- "does that many steps or all that remain"
unfoldable pub run : ℕ → ℕ → Progress → Progress
run g budget p = record { image = steps g (take budget p.left) p.image; left = drop budget p.left }

-- the step reaches nothing outside an image of this length
unfoldable pub inside : ℕ → ℕ → Step → Bool
inside g len (Program a v) = ltb a len
inside g len (Erase a) = leb (a + g) len

-- refusals 11 and 12, or leave to run, for a job started on an image of some length
unfoldable pub may_run : ℕ → ℕ → Progress → Answer Progress
may_run g len p =
    unless NoStepsLeft (ltb 0 (length p.left))
    (unless OutsideImage (eqb (length p.image) len && all (inside g (length p.image)) p.left)
    (given p))

-- ---- the runs of an item

-- runs with these budgets, each on what the last one left
unfoldable pub runs : ℕ → List ℕ → Progress → Progress
runs g [] p = p
runs g (n ∷ ns) p = runs g ns (run g n p)

-- some bytes, each of them 0xFF or old by a choice for it; a byte for which there is none is old
unfoldable pub wiped_where : List Bool → List ℕ → List ℕ
wiped_where [] bs = bs
wiped_where (w ∷ ws) [] = []
wiped_where (w ∷ ws) (b ∷ bs) = cond w erased_byte b ∷ wiped_where ws bs

-- what a power failure leaves of the next step: of an erase "each byte of the granule either old or 0xFF" (document
-- 02, No. 3), by a choice for each; choices past the granule are ignored
unfoldable pub half_done : ℕ → List Bool → List Step → List ℕ → List ℕ
half_done g ws [] img = img
half_done g ws (Program a v ∷ ss) img = img
half_done g ws (Erase a ∷ ss) img = take a img ++ wiped_where (take g ws) (drop a img)

-- the flash when the job is dropped
unfoldable pub dropped : ℕ → List Bool → Progress → List ℕ
dropped g ws p = half_done g ws p.left p.image
