-- Windows of a part's steps, and when those from one on stay inside an image. Assumes nothing.
use Rattle.std.specs.Prelude.{Bool, true, ◌&&◌, ◌||◌, List, [], ◌∷◌, ℕ, ◌+◌, ◌-◌, ◌*◌, leb, take, drop}
use Rattle.rules.specs.declared.Step.{Step}
use Rattle.part_steps.specs.declared.windows.Window.{Window}

-- of some steps those in a window: from one on, at most so many
unfoldable pub chosen : Window → List Step → List Step
chosen w ss = take w.n (drop w.from ss)

-- what of a window lies beyond so many steps
unfoldable pub beyond : ℕ → Window → Window
beyond size w = record { from = w.from - size; n = w.n - (size - w.from) }

-- the bytes of a block after its magic
abbrev pub rest_size : ℕ
rest_size = 4092

-- no address of a job's steps is above this
abbrev pub highest_address : ℕ
highest_address = 0x300000000

-- ---- the steps from one on reach nothing outside an image of this length

-- n bytes programmed upward from an address
unfoldable pub programs_inside : ℕ → ℕ → ℕ → ℕ → Bool
programs_inside len a n from = leb n from || leb (a + n) len

unfoldable pub erase_inside : ℕ → ℕ → ℕ → ℕ → Bool
erase_inside g len a from = leb 1 from || leb (a + g) len

-- a block rewritten: zeros over the magic, the erase, the bytes after the magic, the magic
unfoldable pub rewrite_inside : ℕ → ℕ → ℕ → ℕ → Bool
rewrite_inside g len a from =
    programs_inside len a 4 from
    && (erase_inside g len a (from - 4)
    && (programs_inside len (a + 4) rest_size (from - 4 - 1) && programs_inside len a 4 (from - 4 - 1 - rest_size)))

unfoldable pub places_inside : ℕ → ℕ → ℕ → ℕ → List ℕ → Bool
places_inside len a offset from [] = true
places_inside len a offset from (k ∷ ks) =
    programs_inside len (a + (offset + 8 * k)) 8 from && places_inside len a offset (from - 8) ks
