use Rattle.std.proofs.Common.{subst}
use Rattle.std.specs.Result.{IfOk}
use Rattle.cw_callgraph.specs.Finding.{Finds}
use Rattle.cw_callgraph.proofs.Spelled.{spelled_at}
use Rattle.cw_callgraph.proofs.alone.find_called.Goals as goal

pub returns : goal.returns
returns c =
    let same = spelled_at c.args.scene.now c.args.functions.now c.args.function c.index-functions-function.result c.deref.result.now c.requires.within c.deref.ensures.value in
    subst (λ l. IfOk c.find_callees_of_all.result (λ _. Finds l c.args.found.now c.find_callees_of_all.new.found)) same c.find_callees_of_all.ensures
