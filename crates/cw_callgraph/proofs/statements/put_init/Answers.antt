use Rattle.std.proofs.Common.{◌++◌, sym, ap, ◌∙◌}
use Rattle.std.proofs.lemmas.List.{append-nil}
use Rattle.cw_syntax.specs.Trees.{perhaps_of}
use Rattle.cw_callgraph.specs.Forbidding.{init, known_by_init}
use Rattle.cw_callgraph.specs.Walking.{scene_at, file_at}
use Rattle.cw_callgraph.proofs.Nodes.{no_start, no_start_known}
use Rattle.cw_callgraph.proofs.statements.put_init.Goals as goal

pub returns-in-For-clause-places : goal.returns-in-For-clause-places
returns-in-For-clause-places c =
    let s = scene_at c.args.setting.now in
    let file = file_at c.args.setting.now in
    let inner = c.args.inner.now.items in
    let out = c.args.out.now.items in
    let none = ap (λ i. init s file inner (perhaps_of i)) c.in-Some.is ∙ no_start s file inner c.in-Some.start c.in-For.field-0 c.in-For.field-1 c.in-For.is in
    sym (ap (λ l. out ++ l) none ∙ append-nil out)

pub returns-in-For-clause-known : goal.returns-in-For-clause-known
returns-in-For-clause-known c =
    let s = scene_at c.args.setting.now in
    let file = file_at c.args.setting.now in
    let inner = c.args.inner.now.items in
    let none = ap (λ i. known_by_init s file (perhaps_of i)) c.in-Some.is ∙ no_start_known s file c.in-Some.start c.in-For.field-0 c.in-For.field-1 c.in-For.is in
    sym (ap (λ l. inner ++ l) none ∙ append-nil inner)
