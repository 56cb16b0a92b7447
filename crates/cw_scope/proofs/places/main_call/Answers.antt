use Rattle.std.proofs.Common.{map, ap, ◌∙◌}
use Rattle.cw_syntax.specs.Trees.{file_of}
use Rattle.cw_scope.specs.Rules.{main_call}
use Rattle.cw_resolve.specs.Soonest.{soonest}
use Rattle.cw_scope.proofs.Mentioned.{main_of_file}
use Rattle.cw_scope.proofs.places.main_call.Goals as goal

pub returns : goal.returns
returns c =
    let source = c.args.known.now.source.now in
    let file = file_of c.args.known.now.program.now in
    c.main_calls.ensures ∙ ap (λ l. soonest (map (main_call source) l)) c.requires.calls ∙ main_of_file source file
