-- 16 bytes are the same if both words of eight are.
use Rattle.std.proofs.Common.{rules}
use borrow.Author.Tests.{eq-eqb, ne_eqb}
use Rattle.rules.specs.Bytes.{Bytes}
use Rattle.entry_tests.proofs.Padding.{same_by_words}
use Rattle.entry_tests.proofs.naming.words_differ.Goals as goal

pub returns-then-number : goal.returns-then-number
returns-then-number c =
    let x = c.args.x.now in
    let y = c.args.y.now in
    let bytes-x : Bytes x = λ i. search (rules, c.type_inv.x i) in
    let bytes-y : Bytes y = λ i. search (rules, c.type_inv.y i) in
    let differ = ne_eqb c.number.result c.number-2.result c.if-number.true in
    rw (same_by_words x y bytes-x bytes-y c.requires.0 c.requires.1, ← c.number.ensures.0, ← c.number-2.ensures.0, differ)

pub returns : goal.returns
returns c =
    let x = c.args.x.now in
    let y = c.args.y.now in
    let bytes-x : Bytes x = λ i. search (rules, c.type_inv.x i) in
    let bytes-y : Bytes y = λ i. search (rules, c.type_inv.y i) in
    let same = eq-eqb c.number.result c.number-2.result c.if-number.false in
    rw (same_by_words x y bytes-x bytes-y c.requires.0 c.requires.1, ← c.number.ensures.0, ← c.number-2.ensures.0, same, c.number-3.ensures.0, c.number-4.ensures.0)
