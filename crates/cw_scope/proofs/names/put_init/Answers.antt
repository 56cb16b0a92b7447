use Rattle.std.proofs.Common.{◌++◌, sym, ap, ◌∙◌}
use Rattle.std.proofs.lemmas.List.{append-nil}
use Rattle.cw_syntax.specs.Trees.{perhaps_of}
use Rattle.cw_scope.specs.Names.{init_names}
use Rattle.cw_scope.proofs.Shapes.{no_init_names}
use Rattle.cw_scope.proofs.names.put_init.Goals as goal

pub returns-in-For : goal.returns-in-For
returns-in-For c =
    let out = c.args.out.now.items in
    let none = ap (λ i. init_names (perhaps_of i)) c.in-Some.is ∙ no_init_names c.in-Some.init c.in-For.field-0 c.in-For.field-1 c.in-For.is in
    sym (ap (λ l. out ++ l) none ∙ append-nil out)
