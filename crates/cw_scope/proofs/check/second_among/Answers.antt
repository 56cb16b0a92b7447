use Rattle.std.proofs.Common.{[], sym, ap, ◌∙◌}
use Rattle.cw_syntax.specs.Trees.{file_of}
use Rattle.cw_scope.specs.Rules.{repeated}
use Rattle.cw_scope.proofs.Apart.{no_second}
use Rattle.cw_scope.proofs.check.second_among.Goals as goal

pub returns-in-None : goal.returns-in-None
returns-in-None c =
    let source = c.args.source.now in
    sym (no_second source (file_of c.args.program.now).functions
    (sym (c.in_ok-repeated.ensures ∙ ap (repeated source []) c.requires.labels) ∙ c.in-None.is))
