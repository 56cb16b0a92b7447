use Rattle.std.proofs.Common.{length}
use Rattle.cw_strategy_text.specs.Fields.{backs_of}
use Rattle.cw_strategy_text.proofs.Backs.{Keeps}
use Rattle.cw_strategy_text.proofs.row.read_backs.Given as goal

abbrev pub invariant-backs : goal.invariant-backs
invariant-backs l = Keeps l.fn.fields l.fields (backs_of l.backs.items) l.low

abbrev pub decreases-backs : goal.decreases-backs
decreases-backs l = length l.fields
