use Rattle.std.proofs.Common.{◌≡◌, ◌++◌, Bool, cond, false, true, None, List, map, ap, ap₂, sym, ◌∙◌}
use Rattle.std.specs.List.{list_any}
use Rattle.cw_syntax.specs.Trees.{Tree, Trees, trees_of, tree_of, file_of, parts_of}
use Rattle.cw_scope.specs.Walks.{nodes_in}
use Rattle.cw_scope.specs.Rules.{is_call, defined_call}
use Rattle.cw_resolve.specs.Soonest.{sooner, soonest}
use Rattle.cw_scope.specs.Held.{tree_at}
use Rattle.cw_scope.proofs.Operators.{parts_are}
use Rattle.cw_scope.proofs.Calling.{no_places}
use Rattle.cw_scope.proofs.forms.misplaced_in.Goals as goal

pub returns-then-not-are_calling : goal.returns-then-not-are_calling
returns-then-not-are_calling c = λ tree.
    let source = c.args.known.now.source.now in
    let file = file_of c.args.known.now.program.now in
    let call = c.args.call.now in
    let own = λ (b : Bool). cond b (defined_call source file (tree_of call)) None in
    let none : list_any is_call (nodes_in (parts_of (tree_of call))) ≡ false =
    ap (λ (ps : Trees). list_any is_call (nodes_in ps)) (parts_are call)
    ∙ sym (ap (λ l. list_any is_call (nodes_in (trees_of l))) c.deref.ensures.value)
    ∙ sym c.are_calling.ensures
    ∙ c.if-not-are_calling.true
    in
    sym (ap₂ sooner (ap own none) (no_places source file (nodes_in (parts_of (tree_of call))) none))

pub returns : goal.returns
returns c = λ tree.
    let source = c.args.known.now.source.now in
    let file = file_of c.args.known.now.program.now in
    let call = c.args.call.now in
    let own = λ (b : Bool). cond b (defined_call source file (tree_of call)) None in
    let rest = λ (l : List Tree). soonest (map (defined_call source file) l) in
    let some : true ≡ list_any is_call (nodes_in (parts_of (tree_of call))) =
    sym c.if-not-are_calling.false
    ∙ c.are_calling.ensures
    ∙ ap (λ l. list_any is_call (nodes_in (trees_of l))) c.deref.ensures.value
    ∙ sym (ap (λ (ps : Trees). list_any is_call (nodes_in ps)) (parts_are call))
    in
    let inner =
    c.in_ok-put_parts.ensures
    ∙ ap (λ l. map tree_at l ++ nodes_in (trees_of c.deref-2.result.now)) c.new-inner.ensures.items
    ∙ ap (λ l. nodes_in (trees_of l)) c.deref-2.ensures.value
    ∙ sym (ap (λ (ps : Trees). nodes_in ps) (parts_are call))
    in
    c.sooner.ensures
    ∙ ap₂ sooner (c.defined_call-own.ensures ∙ ap own some) (c.defined_calls.ensures ∙ ap rest (ap (map tree_at) c.deref-3.ensures.value ∙ inner))
