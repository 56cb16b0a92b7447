use Rattle.std.proofs.Common.{◌≡◌, ◌<◌, List, length, ap, ◌∙◌, subst, rules}
use Rattle.cw_syntax.specs.declared.program.Stmt.{Stmt}
use Rattle.cw_resolve.specs.Scenes.{stms_in}
use Rattle.cw_callgraph.specs.Effects.{callees_all, firsts}
use Rattle.cw_callgraph.specs.Finding.{Finds, with_all}
use Rattle.cw_callgraph.proofs.Kept.{firsts_from, found_below}
use Rattle.cw_callgraph.proofs.callees.calls_of.Goals as goal

pub returns : goal.returns
returns c =
    let s = c.args.scene.now in
    let body = callees_all (stms_in s c.deref.result.now) in
    let new = c.find_callees_of_all.new.found in
    let f : Finds body c.in_ok-found.found new = c.in_ok-find_callees_of_all.ensures in
    let wide : length new.flags.items ≡ length c.args.scene.now.functions = search rules in (
      f.numbers ∙ ap (λ l. with_all l body) c.in_ok-found.ensures.0 ∙ firsts_from body ∙ ap (λ (l : List Stmt). firsts (callees_all (stms_in s l))) c.deref.ensures.value,
      λ g h. subst (λ n. g < n) wide (found_below new f.sound g h),
    )
