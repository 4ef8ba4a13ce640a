-- `entry` answers with an entry and its name, if that fits. Assumes nothing.
use mathlib.Core.Path.{sym, ap, ◌∙◌}
use mathlib.Core.List.{List}
use Prim.Native.Nat.{ℕ}
use lib.ListN.{length}
use borrow.Author.Tests.{leb-true}
use Rattle.rules.specs.Answers.{given}
use Rattle.rules.specs.Readers.{row_after}
use Rattle.rules.specs.declared.SlotInfo.{SlotInfo}
use Rattle.inspect.specs.Entries.{entry_info, entry_name}
use Rattle.codes.specs.Inner.Fitting.{fitting}
use Rattle.codes.proofs.Numbered.{number-given, kept-given}
use Rattle.codes.proofs.Fits.{fits_refused, fits_given}
use Rattle.reads_for_c.specs.Inspected.{NamedEntry, named_entry}
use Rattle.reads_for_c.proofs.Named.{put_front}
use Rattle.reads_for_c.proofs.NamedEntries.{entry_kept, name_put}
use Rattle.reads_for_c.proofs.inspects.entry.Goals as goal

unfoldable with_name : List ℕ → SlotInfo → NamedEntry
with_name it f = record { name = it; info = f }

pub returns-in-Err : goal.returns-in-Err
unfolding named_entry with_name
returns-in-Err c =
    let a = c.args in
    let info = entry_info a.setting a.image.now a.entry.0 in
    let it = entry_name a.setting a.image.now a.entry.0 in
    let room = length a.name.now in
    let e = sym c.in-Err.is
    ∙ c.fitting.ensures
    ∙ ap (λ x. fitting x (length c.entry_name-found.result.now) room) c.entry_info-known.ensures
    ∙ ap (λ x. fitting info (length x) room) c.entry_name-found.ensures in
    entry_kept a.name.now a.count.now a.start.now a.size.now a.flags.now c.number.ensures
    (fits_refused (with_name it) info (length it) room e)

pub returns-in-Ok : goal.returns-in-Ok
unfolding named_entry with_name
returns-in-Ok c =
    let a = c.args in
    let info = entry_info a.setting a.image.now a.entry.0 in
    let it = entry_name a.setting a.image.now a.entry.0 in
    let room = length a.name.now in
    let found = c.entry_name-found.ensures in
    let (fits, e) = fits_given (with_name it) info (length it) room
    (sym c.in-Ok.is
    ∙ c.fitting.ensures
    ∙ ap (λ x. fitting x (length c.entry_name-found.result.now) room) c.entry_info-known.ensures
    ∙ ap (λ x. fitting info (length x) room) found) in
    let put = put_front c.put_bytes.ensures (rw found (leb-true (length it) room fits))
    ∙ ap (λ x. row_after (given x) a.name.now) found in record {
      returned = number-given e;
      name_left = put ∙ name_put a.name.now e;
      count_left = ap length found ∙ kept-given (λ e. length e.name) a.count.now e;
      start_left = kept-given (λ e. e.info.start) a.start.now e;
      size_left = kept-given (λ e. e.info.size) a.size.now e;
      flags_left = kept-given (λ e. e.info.flags) a.flags.now e;
    }
