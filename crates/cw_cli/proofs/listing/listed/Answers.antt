use Rattle.std.proofs.Common.{ap, ◌∙◌}
use Rattle.cw_syntax.specs.Trees.{file_of}
use Rattle.cw_resolve.specs.Held.{lists}
use Rattle.cw_cli.proofs.Listed.{listed_due}
use Rattle.cw_cli.proofs.listing.listed.Goals as goal

pub returns-clause-due : goal.returns-clause-due
returns-clause-due g c =
    let source = c.args.checked.now.source.now in
    let file = file_of c.args.checked.now.program in
    let functions = ap lists c.deref.ensures.value ∙ c.in_ok-functions.ensures.names in
    listed_due source file c.args.drawn.now c.requires.drawn (lists c.deref.result.now) (lists c.deref-2.result.now) (lists c.deref-3.result.now) c.begin-writer.result.text
    c.put_graph.new.writer.text c.begin-writer.ensures.text functions (ap lists c.deref-2.ensures.value) (ap lists c.deref-3.ensures.value) c.put_graph.ensures.text
