use Rattle.std.proofs.Common.{◌++◌, ap, ◌∙◌}
use Rattle.cw_syntax.specs.Trees.{file_of}
use Rattle.cw_scope.proofs.Mentioned.{names_of_file}
use Rattle.cw_scope.proofs.names.put_plain_names.Goals as goal

pub returns : goal.returns
returns c =
    let old = c.args.out.now.items in
    c.in_ok-extend_from_slice.ensures.items ∙ ap (λ l. old ++ l) (c.requires.plain ∙ names_of_file (file_of c.args._program.now))
