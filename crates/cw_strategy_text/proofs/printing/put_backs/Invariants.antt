use Rattle.std.proofs.Common.{◌≡◌, ◌++◌, ◌∷◌, map, take}
use Rattle.std.specs.List.{flat_map}
use Rattle.cw_io.specs.Written.{Follows}
use Rattle.cw_strategy_text.specs.StrategyText.{back_field}
use Rattle.cw_strategy_text.specs.Fields.{backs_of}
use Rattle.cw_strategy_text.proofs.printing.put_backs.Given as goal

abbrev pub invariant-loop-back : goal.invariant-loop-back
invariant-loop-back g l = record {
  text : l.writer.text ≡ l.initial.writer.text ++ flat_map (λ field. 32 ∷ field) (map back_field (backs_of (take l.back-index l.backs)));
  begun : l.writer.begun ≡ l.initial.writer.begun;
  follows : Follows g.S.Sink.taken g.S.Sink.faults g.S.Sink.refused l.writer l.out;
}
