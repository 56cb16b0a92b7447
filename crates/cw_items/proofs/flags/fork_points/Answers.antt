use Rattle.std.proofs.Common.{map, sym, ap, ap₂, ◌++◌, ◌∙◌}
use Rattle.cw_syntax.specs.Trees.{file_of, definition_of}
use Rattle.cw_items.specs.Flags.{file_flags}
use Rattle.cw_items.proofs.Flagged.{points_flagged}
use Rattle.cw_items.proofs.flags.fork_points.Goals as goal

pub returns : goal.returns
returns c = record {
  forks = λ names.
      c.in_ok-put_functions.ensures
      ∙ ap (λ l. l ++ file_flags c.deref.result.now (map definition_of c.deref-2.result.now)) c.new-flags.ensures.items
      ∙ ap₂ (λ l fs. file_flags l (map definition_of fs)) (c.deref.ensures.value ∙ c.in_ok-forks.ensures) c.deref-2.ensures.value
      ∙ sym (points_flagged _ names c.args.checked.now.source.now (file_of c.args.checked.now.program));
}
