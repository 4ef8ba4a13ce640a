-- Padded names differ if their fields do.
use Rattle.std.proofs.Common.{rules, subst, sym, ◌∙◌, ◌≡◌, ℕ, true}
use Rattle.rules.specs.Lists.{all}
use Rattle.rules.specs.Table.{names_differ}
use Rattle.entries.specs.Tests.{Found}
use Rattle.entry_tests.specs.Inner.Padding.{padded, fields_differ}
use Rattle.entry_tests.proofs.Padding.{same_by_fields}
use Rattle.entry_rules.proofs.FirstBroken.{clash_from_0}
use Rattle.entry_rules.proofs.naming.first_same.Goals as goal

pub returns-then-all : goal.returns-then-all
returns-then-all c =
    let es = c.args.entries.now in
    let all_padded : all padded es ≡ true = sym (c.all.ensures padded (search rules)) ∙ c.if-all.true in
    subst (λ (i : ℕ). Found es i c.first_clash.result) (clash_from_0 fields_differ es ∙ sym (same_by_fields es all_padded))
    (c.first_clash.ensures fields_differ (search rules))

pub returns : goal.returns
returns c =
    let es = c.args.entries.now in
    subst (λ (i : ℕ). Found es i c.first_clash-2.result) (clash_from_0 names_differ es)
    (c.first_clash-2.ensures names_differ (search rules))
