use Rattle.std.proofs.Common.{◌≤◌, ◌++◌, length, get_or, refl, ap, ◌∙◌, arith}
use Rattle.cw_detach.specs.declared.spans.Span.{Span}
use Rattle.cw_detach.proofs.Placing.{all_placed, span_more}
use Rattle.cw_detach.proofs.form.form_of.Goals as goal

pub loop-span-preserved : goal.loop-span-preserved
loop-span-preserved c =
    let loop = c.loop-span in
    let spans = c.args.spans.now in
    let d : Span = record { from = 0; to = 0 } in
    span_more c.args.source.now loop.at spans loop.span-index d (get_or spans loop.span-index d) loop.form.items c.put_span.new.form.items _ c.loop-span-test.true refl c.in_ok-put_span.ensures
    loop.invariant

pub returns : goal.returns
returns c =
    let loop = c.loop-span in
    let all : length c.args.spans.now ≤ loop.span-index = omega arith in
    all_placed c.args.source.now loop.at c.args.spans.now loop.span-index loop.form.items c.extend_from_slice.new.self.items _ all
    (c.in_ok-extend_from_slice.ensures.items ∙ ap (λ l. loop.form.items ++ l) c.rest.ensures) loop.invariant
