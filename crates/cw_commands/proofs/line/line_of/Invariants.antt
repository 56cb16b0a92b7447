use Rattle.std.proofs.Common.{◌≡◌, map, take}
use Rattle.clap.specs.Words.{app_of}
use Rattle.cw_commands.specs.Lines.{line_app}
use Rattle.cw_commands.proofs.line.line_of.Given as goal

abbrev pub invariant-loop-operand : goal.invariant-loop-operand
invariant-loop-operand l = app_of l.line ≡ line_app (map (λ operand. operand.now) (take l.operand-index l.operands))
