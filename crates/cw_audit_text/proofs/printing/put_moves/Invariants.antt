use Rattle.std.proofs.Common.{◌≡◌, ◌++◌, ◌∷◌, [], take}
use Rattle.cw_certs.specs.declared.moves.Move.{Move}
use Rattle.cw_io.specs.Written.{Follows}
use Rattle.cw_audit_text.specs.declared.text_line.TextLine.TheVariants.{Go}
use Rattle.cw_audit_text.proofs.Puts.{Lines}
use Rattle.cw_audit_text.proofs.printing.put_moves.Given as goal

abbrev pub invariant-loop-by : goal.invariant-loop-by
invariant-loop-by g l = record {
  text : l.writer.text ≡ l.initial.writer.text ++ Lines (λ (m : Move). Go m ∷ []) (take l.by-index l.moves);
  begun : l.writer.begun ≡ l.initial.writer.begun;
  follows : Follows g.S.Sink.taken g.S.Sink.faults g.S.Sink.refused l.writer l.out;
}
