use Rattle.std.proofs.Common.{sym, ap, ◌∙◌, option_copied}
use Rattle.std.specs.Option.{option_map}
use Rattle.std.specs.Borrow.{Bor}
use Rattle.cw_syntax.specs.declared.program.Function.{Function}
use Rattle.cw_syntax.specs.Trees.{definition_of}
use Rattle.cw_scope.proofs.functions.found.Goals as goal

pub returns-in-Some : goal.returns-in-Some
returns-in-Some c = ap (option_map (λ (f : Bor Function). definition_of f.now)) (ap option_copied (sym c.in-Some.is) ∙ c.get.ensures.value) ∙ c.requires.known.first c.args.name

pub returns-in-None : goal.returns-in-None
returns-in-None c = ap (option_map (λ (f : Bor Function). definition_of f.now)) (ap option_copied (sym c.in-None.is) ∙ c.get.ensures.value) ∙ c.requires.known.first c.args.name
