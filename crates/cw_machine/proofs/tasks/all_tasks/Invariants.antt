use Rattle.std.proofs.Common.{◌≡◌, List, map, take}
use Rattle.std.specs.List.{All}
use Rattle.cw_syntax.specs.Trees.{Definition}
use Rattle.cw_value.specs.Deeds.{said_all}
use Rattle.cw_machine.specs.Knowing.{IsTask, rows_in, said_in}
use Rattle.cw_machine.proofs.tasks.all_tasks.Given as goal

abbrev pub invariant-loop-row : goal.invariant-loop-row
invariant-loop-row l =
    record {
      rows : rows_in l.tasks.items ≡ take l.row-index l.rows;
      tasks : (functions : List Definition) → map said_in l.said ≡ map (λ f. said_all f.body) functions → All (IsTask functions) l.tasks.items;
    }
