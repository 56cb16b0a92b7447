use Rattle.std.proofs.Common.{sym, ap, ◌∙◌}
use Rattle.std.specs.Prelude.{option_map}
use Rattle.std.proofs.lemmas.Option.{none-some}
use Rattle.cw_commands.specs.Arguments.{wish_of}
use Rattle.cw_commands.proofs.Starting.{ends_line, noted_is}
use Rattle.cw_cli.proofs.Dues.{wished}
use Rattle.cw_cli.proofs.Wanting.{is_memory}
use Rattle.cw_cli.proofs.command.capweave.Goals as goal

pub end-requires-2 : goal.end-requires-2
end-requires-2 g c =
    record { begun = ends_line g.N.Sink.taken g.N.Sink.faults g.N.Sink.refused c.args.note.now c.perform-ending.new.note c.perform-ending.result c.perform-ending.ensures.notes }

pub returns-clause-ends : goal.returns-clause-ends
returns-clause-ends g c =
    let wish = sym (ap (option_map wish_of) c.in-Some.is) ∙ c.in-Ok.ensures.wish in
    let ends = rw c.deref.ensures.value at c.perform-ending.ensures.ends in
    let ending = c.perform-ending.result in
    let began = noted_is g.N.Sink.taken g.N.Sink.faults g.N.Sink.refused c.args.note.now c.perform-ending.new.note ending c.perform-ending.ensures.notes in
    wished _ _ _ wish (ending, c.end-2.ensures.status, ends, rw began at c.end-2.ensures.noted, rw began at c.end-2.ensures.whole)

pub returns-clause-memory : goal.returns-clause-memory
returns-clause-memory g c wants = c.perform-ending.ensures.memory (is_memory c.perform-ending.result (sym c.end-2.ensures.status ∙ wants))

pub returns-clause-unread : goal.returns-clause-unread
returns-clause-unread g c none =
    let wish = sym (ap (option_map wish_of) c.in-Some.is) ∙ c.in-Ok.ensures.wish in
    absurd (none-some _ (sym none ∙ sym wish))
