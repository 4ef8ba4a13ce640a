-- "Which copy is read": refusals 1 to 3, 50, 51 and 5, the view of a flash, when the pairs agree, two dumps. Document
-- 02's No. 8 puts 50 and 51 in the place of 4. Assumes nothing.
use Rattle.std.specs.Prelude.{Bool, false, cond, ◌&&◌, ◌||◌, List, [], ℕ, eqb, length}
use Rattle.rules.specs.Lists.{same}
use Rattle.rules.specs.Bytes.{block, block_size}
use Rattle.rules.specs.Answers.{Answer, refused, given, unless, ◌>>=◌}
use Rattle.rules.specs.Numbers.{length_right, granule_right, addresses_right}
use Rattle.rules.specs.declared.Setting.{Setting}
use Rattle.rules.specs.declared.Refusal.{Refusal}
use Rattle.rules.specs.Table.{magic_right, table_stands, fault, starts, cpb0_of, cpb1_of}
use Rattle.rules.specs.Pointers.{pointers_stand, places, order}
use Rattle.rules.specs.declared.View.{View}
use Rattle.rules.specs.declared.Refusal.TheVariants.{BadLength, BadGranule, BadAddresses, NoPointers, NoMagic, NoTable}
use Rattle.rules.specs.declared.TableFaults.{TableFaults}

-- the address of the first copy if that stands, else of the second, else that refusal
unfoldable pub copy_read : Refusal → (List ℕ → Bool) → List ℕ → ℕ → ℕ → Answer ℕ
copy_read why stands img a0 a1 =
    cond (stands (block img a0)) (given a0) (cond (stands (block img a1)) (given a1) (refused why))

-- the faults of SPT0 and of SPT1
unfoldable pub both_faults : Setting → List ℕ → TableFaults
both_faults s img =
    record { fault0 = fault s (length img) (block img s.spt0); fault1 = fault s (length img) (block img s.spt1) }

-- "50 (neither magic right) and 51 (otherwise)", with the faults of the two copies
unfoldable pub no_table : Setting → List ℕ → Refusal
no_table s img =
    cond (magic_right (block img s.spt0) || magic_right (block img s.spt1))
    (NoTable (both_faults s img))
    (NoMagic (both_faults s img))

-- "SPT0 if it stands, else SPT1"
unfoldable pub table_read : Setting → List ℕ → Answer ℕ
table_read s img = copy_read (no_table s img) (table_stands s (length img)) img s.spt0 s.spt1

-- "From that table CPB0 if it stands, else CPB1"
unfoldable pub pointers_read : List ℕ → List ℕ → Answer ℕ
pointers_read img t = copy_read NoPointers pointers_stand img (cpb0_of t) (cpb1_of t)

-- where things are, by the table at an address
unfoldable pub view_through : Setting → List ℕ → ℕ → Answer View
view_through s img at =
    pointers_read img (block img at) >>= λ p. given (record {
      spt0 = s.spt0;
      spt1 = s.spt1;
      cpb0 = cpb0_of (block img at);
      cpb1 = cpb1_of (block img at);
      table = at;
      pointers = p;
    })

-- refusals 1, 2, 3, 50 or 51, and 5 in their order, or where things are and which copies are read
unfoldable pub view : Setting → List ℕ → Answer View
view s img =
    unless BadLength (length_right (length img))
    (unless BadGranule (granule_right s.granule)
    (unless BadAddresses (addresses_right s (length img))
    (table_read s img >>= view_through s img)))

-- the boot order by a table and a pointer block
unfoldable pub order_by : List ℕ → List ℕ → List ℕ
order_by t p = order (starts t) (places p)

-- the boot order of a flash with this view
unfoldable pub boot_order : List ℕ → View → List ℕ
boot_order img v = order_by (block img v.table) (block img v.pointers)

-- ---- pairs

-- "A pair agrees if both copies stand and their 4,096 bytes are equal" (document 01's term)
unfoldable pub pair_agrees : (List ℕ → Bool) → List ℕ → ℕ → ℕ → Bool
pair_agrees stands img a0 a1 = stands (block img a0) && stands (block img a1) && same (block img a0) (block img a1)

unfoldable pub tables_agree : Setting → List ℕ → Bool
tables_agree s img = pair_agrees (table_stands s (length img)) img s.spt0 s.spt1

unfoldable pub pointers_agree : List ℕ → View → Bool
pointers_agree img v = pair_agrees pointers_stand img v.cpb0 v.cpb1

unfoldable pub agree_by : Setting → List ℕ → View → Bool
agree_by s img v = tables_agree s img && pointers_agree img v

unfoldable pub agreed : Setting → List ℕ → Answer View → Bool
agreed s img (refused n) = false
agreed s img (given v) = agree_by s img v

-- the flash can be read and its two pairs agree
unfoldable pub pairs_agree : Setting → List ℕ → Bool
pairs_agree s img = agreed s img (view s img)

-- ---- two dumps

-- "A dump of another length than 4,096 does not stand"
unfoldable pub dump_stands : List ℕ → Bool
dump_stands d = eqb (length d) block_size && pointers_stand d

-- the dump that stands, the first if both do; empty if neither does
unfoldable pub standing_dump : List ℕ → List ℕ → List ℕ
standing_dump a b = cond (dump_stands a) a (cond (dump_stands b) b [])
