use Rattle.std.proofs.Common.{◌≤◌, length, ap, slice_get, sym, ◌∙◌, arith}
use Rattle.std.specs.List.{filter_map}
use Rattle.std.proofs.lemmas.List.{length-map}
use Rattle.cw_syntax.specs.Trees.{tree_of, file_of}
use Rattle.cw_scope.specs.Rules.{external_call}
use Rattle.cw_scope.specs.Held.{tree_at}
use Rattle.cw_scope.specs.Mentions.{calls_at}
use Rattle.cw_scope.proofs.Mentioned.{external_in, few_calls}
use Rattle.cw_scope.proofs.forms.second_external.Goals as goal

pub returns-in-empty : goal.returns-in-empty
returns-in-empty c =
    let calls = c.args.calls.now in
    let tree = tree_of c.args._tree.now in
    let few : length (calls_at tree) ≤ 1 = omega (arith, ap length c.requires.calls, length-map calls tree_at) in
    sym (few_calls c.args.known.now.source.now (file_of c.args.known.now.program.now) tree few)

pub returns-in-len1 : goal.returns-in-len1
returns-in-len1 c =
    let calls = c.args.calls.now in
    let tree = tree_of c.args._tree.now in
    let few : length (calls_at tree) ≤ 1 = omega (arith, ap length c.requires.calls, length-map calls tree_at) in
    sym (few_calls c.args.known.now.source.now (file_of c.args.known.now.program.now) tree few)

pub returns-in-len2-up : goal.returns-in-len2-up
returns-in-len2-up c =
    let source = c.args.known.now.source.now in
    let file = file_of c.args.known.now.program.now in
    c.second_call.ensures
    ∙ ap (λ l. slice_get (filter_map (external_call source file) l) 1) c.requires.calls
    ∙ ap (λ l. slice_get l 1) (external_in source file (tree_of c.args._tree.now))
