-- `order` answers with the boot order, its count and its number. Assumes nothing.
use mathlib.Core.Path.{ap, ◌∙◌}
use Rattle.codes.specs.Answered.{number, kept}
use Rattle.reads_for_c.proofs.Ordered.{number_of_count, kept_count}
use Rattle.reads_for_c.proofs.reads.order.Goals as goal

pub returns : goal.returns
returns c =
    let e = c.order_list.ensures.answer in record {
      returned = c.told.ensures.returned ∙ ap number e ∙ number_of_count _;
      row_left = c.order_list.ensures.written;
      count_left = c.told.ensures.left ∙ ap (λ x. kept (λ n. n) x c.args.count.now) e ∙ kept_count _ c.args.count.now;
    }
