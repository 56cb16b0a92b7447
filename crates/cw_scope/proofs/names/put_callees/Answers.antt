use Rattle.std.proofs.Common.{◌≡◌, ◌++◌, ap, ◌∙◌, subst}
use Rattle.std.specs.List.{filter_map}
use Rattle.std.specs.Result.{IfOk}
use Rattle.cw_syntax.specs.Trees.{file_of}
use Rattle.cw_scope.specs.Names.{called_name}
use Rattle.cw_scope.proofs.Mentioned.{callees_of_file}
use Rattle.cw_scope.proofs.names.put_callees.Goals as goal

pub returns : goal.returns
returns c =
    let old = c.args.out.now.items in
    let is = ap (λ l. old ++ filter_map called_name l) c.requires.calls ∙ ap (λ l. old ++ l) (callees_of_file (file_of c.args._program.now)) in
    subst (λ l. IfOk c.put_called_names.result (λ _. c.put_called_names.new.out.items ≡ l)) is c.put_called_names.ensures
