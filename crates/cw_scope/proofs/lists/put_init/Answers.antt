use Rattle.std.proofs.Common.{◌++◌, map, sym, ap, ◌∙◌}
use Rattle.std.proofs.lemmas.List.{append-nil}
use Rattle.cw_syntax.specs.Trees.{perhaps_of}
use Rattle.cw_scope.specs.Walks.{inner, init_trees}
use Rattle.cw_scope.specs.Held.{whole_of}
use Rattle.cw_scope.proofs.Shapes.{no_init_trees}
use Rattle.cw_scope.proofs.lists.put_init.Goals as goal

pub returns-in-For : goal.returns-in-For
returns-in-For c =
    let out = map whole_of c.args.out.now.items in
    let none = ap (λ i. init_trees (perhaps_of i)) c.in-Some.is ∙ no_init_trees c.in-Some.init c.in-For.field-0 c.in-For.field-1 c.in-For.is in
    sym (ap (λ l. out ++ map inner l) none ∙ append-nil out)
