-- A table in the place of another: it stands, no two of its ranges overlap, and the four blocks are where they were.
-- Assumes nothing.
use mathlib.Core.Path.{◌≡◌, ap, ◌∙◌}
use mathlib.Core.Bool.{true}
use mathlib.Core.List.{List, []}
use Prim.Native.Nat.{ℕ, ◌<◌}
use native.Mathlib.Omega.{arith}
use lib.ListN.{length, get_or}
use Rattle.rules.specs.Lists.{all, pairwise}
use Rattle.rules.specs.Bytes.{Bytes, block_size}
use Rattle.rules.specs.declared.Setting.{Setting}
use Rattle.rules.specs.Table.{Entry, entries, spt0_name, spt1_name, cpb0_name, cpb1_name, six_names, named, cpb0_of, cpb1_of, header_right, count_right, name_right, names_differ, range_aligned, range_inside, ranges_apart, six_named, boot_info_at_0, tables_as_told, blocks_on_granules, table_stands}
use Rattle.rules.proofs.Table.Standing.{Standing, stands}

-- what stays of a table, for an image of this length, in another that stands too
pub record Replaces (s : Setting) (len : ℕ) (t b : List ℕ) : Type 0 where
  pub whole : length b ≡ block_size
  pub bytes : Bytes b
  pub stands : table_stands s len b ≡ true
  pub apart : pairwise ranges_apart (entries b) ≡ true
  pub spt0_kept : (named spt0_name (entries b)).start ≡ (named spt0_name (entries t)).start
  pub spt1_kept : (named spt1_name (entries b)).start ≡ (named spt1_name (entries t)).start
  pub cpb0_kept : cpb0_of b ≡ cpb0_of t
  pub cpb1_kept : cpb1_of b ≡ cpb1_of t

-- entries that may come in the place of others: rules 3 to 8 hold of them, and the entry of each of the six names, by its
-- number among them, is the one that it was
pub record Keeps (len : ℕ) (es es' : List Entry) : Type 0 where
  pub rule3 : all name_right es' ≡ true
  pub rule4 : pairwise names_differ es' ≡ true
  pub rule5 : all range_aligned es' ≡ true
  pub rule6 : all (range_inside len) es' ≡ true
  pub rule7 : pairwise ranges_apart es' ≡ true
  pub rule8 : six_named es' ≡ true
  pub named_kept : (i : ℕ) → i < 6 → named (get_or six_names i []) es' ≡ named (get_or six_names i []) es

module _ (s : Setting) (len : ℕ) (t b : List ℕ) (es' : List Entry) (st : Standing s len t)
    (after : entries b ≡ es') (header : header_right b ≡ header_right t) (count : count_right b ≡ true)
    (kept : Keeps len (entries t) es') where
  still_stands : Standing s len b
  unfolding boot_info_at_0 tables_as_told blocks_on_granules all six_names
  still_stands = record {
    rule1 = header ∙ st.rule1;
    rule2 = count;
    rule3 = rw after kept.rule3;
    rule4 = rw after kept.rule4;
    rule5 = rw after kept.rule5;
    rule6 = rw after kept.rule6;
    rule7 = rw after kept.rule7;
    rule8 = rw after kept.rule8;
    rule9 = rw (after, kept.named_kept 0 (omega arith)) st.rule9;
    rule10 = rw (after, kept.named_kept 2 (omega arith), kept.named_kept 3 (omega arith)) st.rule10;
    rule11 =
        rw (
          after,
          kept.named_kept 2 (omega arith),
          kept.named_kept 3 (omega arith),
          kept.named_kept 4 (omega arith),
          kept.named_kept 5 (omega arith),
        )
        st.rule11;
  }

  same_start : (m : List ℕ)
      → named m es' ≡ named m (entries t)
      → (named m (entries b)).start ≡ (named m (entries t)).start
  same_start m e = ap (λ (x : List Entry). (named m x).start) after ∙ ap (λ (x : Entry). x.start) e

  pub replaces : length b ≡ block_size → Bytes b → Replaces s len t b
  unfolding cpb0_of cpb1_of six_names
  replaces whole bytes = record {
    whole = whole;
    bytes = bytes;
    stands = stands s len b still_stands;
    apart = still_stands.rule7;
    spt0_kept = same_start spt0_name (kept.named_kept 2 (omega arith));
    spt1_kept = same_start spt1_name (kept.named_kept 3 (omega arith));
    cpb0_kept = same_start cpb0_name (kept.named_kept 4 (omega arith));
    cpb1_kept = same_start cpb1_name (kept.named_kept 5 (omega arith));
  }
