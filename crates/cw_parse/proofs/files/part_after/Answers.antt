use Rattle.std.proofs.Common.{List, refl}
use Rattle.cw_syntax.specs.Trees.{File}
use Rattle.cw_grammar.specs.declared.terminals.Lexeme.{Lexeme}
use Rattle.cw_expressions.specs.declared.refusal.Refusal.{Refusal}
use Rattle.cw_expressions.specs.declared.refusal.Refusal.TheVariants as refusal
use Rattle.cw_expressions.specs.Cursor.{Fails}
use Rattle.cw_parse.specs.StatementReading.{part, one_part}
use Rattle.cw_parse.specs.StatementView.{filed}
use Rattle.cw_parse.proofs.files.part_after.Goals as goal

part_fails : (e : Refusal) (so_far : File × List Lexeme) → Fails e (part so_far.1) → Fails e (one_part so_far)
unfolding one_part
part_fails refusal.NoMemory so_far h = tt
part_fails refusal.Syntax so_far h = rw h refl
part_fails refusal.TooDeep so_far h = rw h refl

pub returns-in-Err : goal.returns-in-Err
returns-in-Err c = part_fails c.in-Err.refusal (filed c.args.before) c.in-Err.ensures
