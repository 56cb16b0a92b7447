use Rattle.std.proofs.Common.{◌≡◌, map, ap, sym, ◌∙◌, subst}
use Rattle.std.specs.Option.{option_map}
use Rattle.std.specs.Result.{IfOk}
use Rattle.cw_syntax.specs.Trees.{tree_of, file_of}
use Rattle.cw_scope.specs.Rules.{defined_call, misplaced}
use Rattle.cw_resolve.specs.Soonest.{soonest}
use Rattle.cw_scope.specs.Held.{tree_at}
use Rattle.cw_scope.proofs.Mentioned.{defined_in}
use Rattle.cw_scope.proofs.forms.misplaced.Goals as goal

pub returns-in-None : goal.returns-in-None
returns-in-None c =
    let source = c.args.known.now.source.now in
    let file = file_of c.args.known.now.program.now in
    let tree = tree_of c.args.whole.tree.now in
    c.defined_calls.ensures
    ∙ ap (λ l. soonest (map (defined_call source file) l)) c.requires.calls
    ∙ defined_in source file tree
    ∙ ap (λ o. soonest (misplaced source file o tree)) (ap (option_map tree_at) (sym c.in-None.is) ∙ c.standing_call.ensures)

pub returns-in-Some : goal.returns-in-Some
returns-in-Some c =
    let source = c.args.known.now.source.now in
    let file = file_of c.args.known.now.program.now in
    let tree = tree_of c.args.whole.tree.now in
    let same = ap (λ o. soonest (misplaced source file o tree)) (ap (option_map tree_at) (sym c.in-Some.is) ∙ c.standing_call.ensures) in
    subst (λ l. IfOk c.misplaced_in.result (λ place. place ≡ l)) same (c.misplaced_in.ensures tree)
