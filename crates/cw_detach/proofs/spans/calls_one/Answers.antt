use Rattle.std.proofs.Common.{ap, sym, ◌∙◌}
use Rattle.cw_resolve.specs.Held.{lists}
use Rattle.cw_detach.specs.Form.{is_among}
use Rattle.cw_detach.proofs.Nodes.{calls_it, calls_none}
use Rattle.cw_detach.proofs.spans.calls_one.Goals as goal

pub returns-in-Call : goal.returns-in-Call
returns-in-Call c =
    let names = lists c.args.names.now in
    c.is_among.ensures ∙ ap (is_among names) c.text.ensures.bytes ∙ sym (calls_it c.args.source.now names c.args.e.now c.in-Call.name c.in-Call.is)

pub returns-in_default : goal.returns-in_default
returns-in_default c = sym (calls_none c.args.source.now (lists c.args.names.now) c.args.e.now c.in_default.not-Call)
