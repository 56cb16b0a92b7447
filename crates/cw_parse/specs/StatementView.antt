-- Working definitions: what a function of the parser returned, without where it lies in memory.
use Rattle.std.specs.Prelude.{ℕ, Option, option_map, List, map}
use Rattle.std.specs.Borrow.{Bor}
use Rattle.std.specs.Global.{Vec}
use Rattle.cw_syntax.specs.declared.program.Expr.{Expr}
use Rattle.cw_syntax.specs.declared.program.Stmt.{Stmt}
use Rattle.cw_syntax.specs.declared.program.Program.{Program}
use Rattle.cw_syntax.specs.Trees.{Tree, tree_of, Statement, statement_of, Perhaps, File, file_of, declaration_of, prototype_of, definition_of, perhaps_of}
use Rattle.cw_grammar.specs.declared.terminals.Lexeme.{Lexeme}
use Rattle.cw_grammar.specs.Files.{Part, Declares, Holds, Defines}
use Rattle.cw_parse.specs.declared.files.FilePart.{FilePart}
use Rattle.cw_parse.specs.declared.files.FilePart.TheVariants.{Prototype as ProtoPart, Global as GlobalPart, Function as FunctionPart}

abbrev pub optional : (Option Expr × ℕ) × Bor (List Lexeme) → (Option Tree × ℕ) × List Lexeme
optional x = ((option_map tree_of x.0.0, x.0.1), x.1.now)

abbrev pub one : Stmt × Bor (List Lexeme) → Statement × List Lexeme
one x = (statement_of x.0, x.1.now)

abbrev pub several : Vec Stmt × Bor (List Lexeme) → List Statement × List Lexeme
several x = (map statement_of x.0.items, x.1.now)

abbrev pub perhaps : Option Stmt × Bor (List Lexeme) → Perhaps × List Lexeme
perhaps x = (perhaps_of x.0, x.1.now)

abbrev pub part_of : FilePart → Part
part_of (ProtoPart p) = Declares (prototype_of p)
part_of (GlobalPart d) = Holds (declaration_of d)
part_of (FunctionPart f) = Defines (definition_of f)

abbrev pub file_part : FilePart × Bor (List Lexeme) → Part × List Lexeme
file_part x = (part_of x.0, x.1.now)

abbrev pub filed : Program × Bor (List Lexeme) → File × List Lexeme
filed x = (file_of x.0, x.1.now)
