use Rattle.std.proofs.Common.{map, ap, ◌∙◌}
use Rattle.cw_syntax.specs.Trees.{file_of}
use Rattle.cw_scope.specs.Rules.{wrong_arity}
use Rattle.cw_resolve.specs.Soonest.{soonest}
use Rattle.cw_scope.proofs.Mentioned.{arities_of_file}
use Rattle.cw_scope.proofs.places.wrong_arity.Goals as goal

pub returns : goal.returns
returns c =
    let source = c.args.known.now.source.now in
    let file = file_of c.args.known.now.program.now in
    c.wrong_arities.ensures ∙ ap (λ l. soonest (map (wrong_arity source file) l)) c.requires.calls ∙ arities_of_file source file
