use Rattle.std.proofs.Common.{◌++◌, ◌∷◌, [], Bool, false, List, length, get_or, sym, ap, ◌∙◌, arith}
use Rattle.std.proofs.lemmas.List.{length-take-le, take_all, take_more}
use Rattle.cw_linked.proofs.edges.ranked.Goals as goal

pub push-requires : goal.push-requires
push-requires c =
    let long = ap (λ (bs : List Bool). length bs) c.loop-flag.invariant in
    let taken = length-take-le c.loop-flag.flag-index c.args.flags.now (omega (arith, c.loop-flag-test.true)) in
    omega (arith, long, taken, c.loop-flag-test.true, c.requires)

pub loop-flag-preserved : goal.loop-flag-preserved
loop-flag-preserved c =
    let flags = c.args.flags.now in
    let i = c.loop-flag.flag-index in
    c.in_ok-push.ensures.pushed ∙ ap (λ (bs : List Bool). bs ++ get_or flags i false ∷ []) c.loop-flag.invariant ∙ sym (take_more flags i false c.loop-flag-test.true)

pub returns : goal.returns
returns c = c.loop-flag.invariant ∙ take_all c.loop-flag.flag-index c.args.flags.now c.loop-flag-test.false
