-- The line that tells why a source is refused, without its line feed.
use Rattle.std.specs.Prelude.{ℕ, List, ◌++◌, codes}
use Rattle.std.specs.Fmt.{decimal}
use Rattle.cw_core.specs.Quantities.{name_of}
use Rattle.cw_lex.specs.declared.lexer.LexFault.{LexFault}
use Rattle.cw_lex.specs.declared.lexer.LexFault.TheVariants as lex
use Rattle.cw_scope.specs.declared.faults.ScopeFault.{ScopeFault}
use Rattle.cw_scope.specs.declared.faults.ScopeFault.TheVariants as scope
use Rattle.cw_source.specs.declared.fault.SourceFault.{SourceFault}
use Rattle.cw_source.specs.declared.fault.SourceFault.TheVariants.{Lex, Syntax, TooDeep, Scope, NoMemory}
use Rattle.cw_source.specs.Places.{line_of, column_of}

-- `source LINE:COLUMN: WORDS`
unfoldable pub at_place : List ℕ → ℕ → List ℕ → List ℕ
at_place source at why = codes "source " ++ decimal (line_of source at) ++ codes ":" ++ decimal (column_of source at) ++ codes ": " ++ why

abbrev pub lex_line : List ℕ → LexFault → List ℕ
lex_line source (lex.BadByte at) = at_place source at (codes "bad byte")
lex_line source (lex.OpenComment at) = at_place source at (codes "open comment")
lex_line source (lex.OpenString at) = at_place source at (codes "open string")
lex_line source (lex.Number at) = at_place source at (codes "number")
lex_line source (lex.Directive at) = at_place source at (codes "directive")
lex_line source (lex.Marker at) = at_place source at (codes "marker")
lex_line source lex.NoMemory = codes "memory"

abbrev pub scope_line : List ℕ → ScopeFault → List ℕ
scope_line source scope.NoMain = codes "source: no main"
scope_line source (scope.TwoFunctions name) = at_place source name.from (codes "two functions")
scope_line source (scope.TwoLabels name) = at_place source name.from (codes "two labels")
scope_line source (scope.Arity at) = at_place source at (codes "arity")
scope_line source (scope.CallForm at) = at_place source at (codes "call form")
scope_line source (scope.MainCalled at) = at_place source at (codes "main called")
scope_line source (scope.Reserved at) = at_place source at (codes "reserved")
scope_line source (scope.Jump at) = at_place source at (codes "jump")
scope_line source (scope.Limit quantity) = codes "limit: " ++ name_of quantity
scope_line source scope.NoMemory = codes "memory"

abbrev pub fault_line : List ℕ → SourceFault → List ℕ
fault_line source (Lex fault) = lex_line source fault
fault_line source (Syntax at) = at_place source at (codes "syntax")
fault_line source TooDeep = codes "limit: nesting"
fault_line source (Scope fault) = scope_line source fault
fault_line source NoMemory = codes "memory"
