-- "Numbers": what the caller gives beside the image, and the tests of refusals 1 to 3. Assumes nothing.
use Rattle.std.specs.Prelude.{Bool, not, ◌&&◌, ◌||◌, ℕ, ◌+◌, eqb, leb}
use Rattle.rules.specs.Bytes.{block_size, multiple}
use Rattle.rules.specs.declared.Setting.{Setting}

-- the erase granule, and the addresses of SPT0 and SPT1
abbrev pub setting : ℕ → ℕ → ℕ → Setting
setting granule spt0 spt1 = record { granule = granule; spt0 = spt0; spt1 = spt1 }

-- the length of the longest image
abbrev pub longest : ℕ
longest = 268435456

-- refusal 1: "a multiple of 4,096, from 4,096 to 268,435,456"
unfoldable pub length_right : ℕ → Bool
length_right len = multiple block_size len && leb block_size len && leb len longest

-- refusal 2: "4,096, 32,768 or 65,536"
unfoldable pub granule_right : ℕ → Bool
granule_right g = eqb g 4096 || eqb g 32768 || eqb g 65536

-- a multiple of the granule from which a granule does not pass the image's end
unfoldable pub address_right : ℕ → ℕ → ℕ → Bool
address_right g len a = multiple g a && leb (a + g) len

-- refusal 3: the SPT addresses differ and both are right
unfoldable pub addresses_right : Setting → ℕ → Bool
addresses_right s len =
    not (eqb s.spt0 s.spt1)
    && address_right s.granule len s.spt0
    && address_right s.granule len s.spt1
