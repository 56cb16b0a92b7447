use Rattle.std.proofs.Common.{ℕ, List, [], ◌∷◌, ◌++◌, ap, ◌∙◌, arith}
use Rattle.cw_links.proofs.FlatRows.{no_rows, all_rows}
use Rattle.cw_links.proofs.rows.Rows.of.Goals as goal

pub loop-list-init : goal.loop-list-init
loop-list-init g c =
    no_rows c.args.trails.now c.in_ok-values.values.items c.push.new.self.items c.in_ok-values.ensures.items
    (c.in_ok-push.ensures.items ∙ ap (λ (fs : List ℕ). fs ++ 0 ∷ []) c.in_ok-firsts.ensures.items)

pub invariant_of-result : goal.invariant_of-result
invariant_of-result g c = c.loop-list.invariant.flat

pub returns : goal.returns
returns g c =
    all_rows c.args.trails.now c.loop-list.values.items c.loop-list.firsts.items c.loop-list.list (omega (arith, c.lists-list-end.ensures.value, c.loop-list-test.false)) c.loop-list.invariant
