use Rattle.std.proofs.Common.{Some, length, sym, ap, ◌∙◌}
use Rattle.std.proofs.lemmas.Bool.{ltb-true}
use Rattle.std.proofs.lemmas.Option.{slice_get-get_or}
use Rattle.cw_linked.specs.declared.spans.Spans.{Spans}
use Rattle.cw_linked.proofs.spans.spans_at.Goals as goal

pub returns-in-Some : goal.returns-in-Some
returns-in-Some c =
    let own = c.in-Some.spans.now in
    let all = c.args.spans.now in
    let found = c.in-Some.ensures.lookup in
    c.requires.spans c.args.function own
    (slice_get-get_or all c.args.function own (ltb-true c.args.function (length all) (sym found.0)) ∙ ap (λ (s : Spans). Some s) (sym found.1))
