use Rattle.std.proofs.Common.{Option, length, refl, ap, ◌∙◌}
use Rattle.cw_syntax.specs.Trees.{Definition}
use Rattle.cw_value.specs.Machines.{scope_in}
use Rattle.cw_starts.specs.Sources.{source_in}
use Rattle.cw_values.proofs.Beginning.{none_behind}
use Rattle.cw_values.proofs.starting.file_scope.Goals as goal

pub returns : goal.returns
returns c =
    let s = source_in c.args.known.now.source in
    let functions = c.args.known.now.source.program.now.functions.items in
    c.scope.ensures.scope ∙ ap (λ (f : Option Definition). scope_in s f) (none_behind s functions _ refl (ap length c.deref-functions.ensures.value))
