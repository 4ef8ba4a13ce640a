-- `slot_name` answers with the name of a slot, if it fits. Assumes nothing.
use mathlib.Core.Path.{sym, ap, ◌∙◌}
use lib.ListN.{length}
use borrow.Author.Tests.{leb-true}
use Rattle.rules.specs.Readers.{row_after, slot_info, slot_name}
use Rattle.rules.specs.Answers.{given}
use Rattle.codes.specs.Inner.Fitting.{fitting}
use Rattle.codes.proofs.Numbered.{number-given, kept-given}
use Rattle.codes.proofs.Fits.{fits_refused, fits_given}
use Rattle.reads_for_c.specs.Answered.{name_answer}
use Rattle.reads_for_c.proofs.Named.{put_front, written_refused}
use Rattle.reads_for_c.proofs.reads.slot_name.Goals as goal

pub returns-in-Err : goal.returns-in-Err
unfolding name_answer
returns-in-Err c =
    let a = c.args in
    let info = slot_info a.setting a.image.now a.slot.0 in
    let it = slot_name a.setting a.image.now a.slot.0 in
    let room = length a.name.now in
    let e = sym c.in-Err.is
    ∙ c.fitting.ensures
    ∙ ap (λ x. fitting x (length c.slot_name-found.result.now) room) c.slot_info-known.ensures
    ∙ ap (λ x. fitting info (length x) room) c.slot_name-found.ensures in
    written_refused a.name.now a.count.now c.number.ensures (fits_refused (λ _. it) info (length it) room e)

pub returns-in-Ok : goal.returns-in-Ok
unfolding name_answer
returns-in-Ok c =
    let a = c.args in
    let info = slot_info a.setting a.image.now a.slot.0 in
    let it = slot_name a.setting a.image.now a.slot.0 in
    let room = length a.name.now in
    let found = c.slot_name-found.ensures in
    let (fits, e) = fits_given (λ _. it) info (length it) room
    (sym c.in-Ok.is
    ∙ c.fitting.ensures
    ∙ ap (λ x. fitting x (length c.slot_name-found.result.now) room) c.slot_info-known.ensures
    ∙ ap (λ x. fitting info (length x) room) found) in
    record {
      returned = number-given e;
      row_left =
          put_front c.put_bytes.ensures (rw found (leb-true (length it) room fits))
          ∙ ap (λ x. row_after x a.name.now) (ap given found ∙ e);
      count_left = ap length found ∙ kept-given length a.count.now e;
    }
