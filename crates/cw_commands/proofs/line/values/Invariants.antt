use Rattle.std.proofs.Common.{◌≡◌, length, map, drop}
use Rattle.clap.specs.Words.{found_of, rows_of}
use Rattle.cw_commands.specs.Lines.{values}
use Rattle.cw_commands.proofs.Collected.{behind}
use Rattle.cw_commands.proofs.line.values.Given as goal

abbrev pub invariant-loop-operand : goal.invariant-loop-operand
invariant-loop-operand l = record {
  found :
      values (map (λ operand. operand.now) l.operands) (rows_of (found_of l.matches))
      ≡ behind (map (λ name. name.now) l.names.items) (values (map (λ operand. operand.now) (drop l.operand-index l.operands)) (rows_of (found_of l.matches)));
  many : length l.names.items ≡ l.operand-index;
}
