-- Working definitions: what a function of the parser returned, without where it lies in memory.
use Rattle.std.specs.Prelude.{Bool, Option, option_map, List, map}
use Rattle.std.specs.Borrow.{Bor}
use Rattle.std.specs.Global.{Vec}
use Rattle.cw_syntax.specs.declared.program.Expr.{Expr}
use Rattle.cw_syntax.specs.declared.program.Item.{Item}
use Rattle.cw_syntax.specs.declared.program.Decl.{Decl}
use Rattle.cw_syntax.specs.declared.program.Param.{Param}
use Rattle.cw_syntax.specs.declared.program.Proto.{Proto}
use Rattle.cw_syntax.specs.Trees.{Tree, Trees, tree_of, trees_of, array_of, Declared, declared_of, Declaration, declaration_of, Prototype, prototype_of}
use Rattle.cw_grammar.specs.declared.terminals.Lexeme.{Lexeme}
use Rattle.cw_grammar.specs.Declarations as grammar
use Rattle.cw_parse.specs.declared.specifiers.Specifiers.{Specifiers}

abbrev pub specifiers_of : Specifiers → grammar.Specifiers
specifiers_of s = record { external = s.external; fixed = s.fixed; constant = s.constant; base = s.base; unsigned = s.unsigned }

-- something and the tokens after it, as a call answers them
abbrev pub plain : {X : Type 0} → X × Bor (List Lexeme) → X × List Lexeme
plain x = (x.0, x.1.now)

abbrev pub specified : Specifiers × Bor (List Lexeme) → grammar.Specifiers × List Lexeme
specified x = (specifiers_of x.0, x.1.now)

abbrev pub optional : Option Expr × Bor (List Lexeme) → Option Tree × List Lexeme
optional x = (option_map tree_of x.0, x.1.now)

abbrev pub arrayed : Option (Option Expr) × Bor (List Lexeme) → Option (Option Tree) × List Lexeme
arrayed x = (array_of x.0, x.1.now)

abbrev pub expressions : Vec Expr × Bor (List Lexeme) → List Tree × List Lexeme
expressions x = (map tree_of x.0.items, x.1.now)

abbrev pub initial : (Vec Expr × Bool) × Bor (List Lexeme) → (Trees × Bool) × List Lexeme
initial x = ((trees_of x.0.0.items, x.0.1), x.1.now)

abbrev pub itemed : Item × Bor (List Lexeme) → Declared × List Lexeme
itemed x = (declared_of x.0, x.1.now)

abbrev pub items : Vec Item × Bor (List Lexeme) → List Declared × List Lexeme
items x = (map declared_of x.0.items, x.1.now)

abbrev pub declared : Decl × Bor (List Lexeme) → Declaration × List Lexeme
declared x = (declaration_of x.0, x.1.now)

abbrev pub parameters : Vec Param × Bor (List Lexeme) → List Param × List Lexeme
parameters x = (x.0.items, x.1.now)

abbrev pub headed : Proto × Bor (List Lexeme) → Prototype × List Lexeme
headed x = (prototype_of x.0, x.1.now)
