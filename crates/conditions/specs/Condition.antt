-- Which of the four blocks stand, and which of the two pairs agree. Assumes nothing.
use Rattle.std.specs.Prelude.{List, ℕ, length}
use Rattle.rules.specs.Bytes.{block}
use Rattle.rules.specs.Answers.{Answer, given, ◌>>=◌}
use Rattle.rules.specs.declared.Setting.{Setting}
use Rattle.rules.specs.Table.{table_stands}
use Rattle.rules.specs.Pointers.{pointers_stand}
use Rattle.rules.specs.Copies.{view, tables_agree, pointers_agree}
use Rattle.rules.specs.declared.View.{View}
use Rattle.conditions.specs.declared.Condition.{Condition}

-- by where the blocks are
unfoldable pub condition_by : Setting → List ℕ → View → Condition
condition_by s img v = record {
  spt0 = table_stands s (length img) (block img v.spt0);
  spt1 = table_stands s (length img) (block img v.spt1);
  cpb0 = pointers_stand (block img v.cpb0);
  cpb1 = pointers_stand (block img v.cpb1);
  tables = tables_agree s img;
  pointers = pointers_agree img v;
}

-- refusals 1, 2, 3, 50, 51 and 5, or the condition of the four blocks
unfoldable pub condition : Setting → List ℕ → Answer Condition
condition s img = view s img >>= λ v. given (condition_by s img v)
