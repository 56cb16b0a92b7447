use Rattle.std.proofs.Common.{[], map, sym, subst}
use Rattle.cw_commands.specs.Commands.{quantities_of}
use Rattle.cw_commands.specs.Files.{AreSized}
use Rattle.cw_commands.proofs.Sizes.{sized}
use Rattle.cw_commands.proofs.Starting.{unread_line}
use Rattle.cw_cli.proofs.Wanting.{rose_since}
use Rattle.cw_cli.proofs.command.perform.Goals as goal

pub returns-in-Err-clause-notes : goal.returns-in-Err-clause-notes
returns-in-Err-clause-notes g c =
    unread_line g.N.Sink.taken g.N.Sink.faults g.N.Sink.refused (g.F.Shelf.files c.args.shelf.now) (g.F.Shelf.faults c.args.shelf.now) (g.F.Shelf.faults c.read_files.new.shelf)
    (quantities_of c.args.command) (map (λ name. name.now) c.args.names.now) c.args.note.now c.in-Err.ending (rw c.quantities.ensures at c.in-Err.ensures.unread)

pub returns-in-Ok-due-clause-notes : goal.returns-in-Ok-due-clause-notes
returns-in-Ok-due-clause-notes g c = c.deliver.ensures.line c.args.note.now c.due.new.note c.in-Ok-due.ensures.notes

pub returns-in-Ok-due-clause-memory : goal.returns-in-Ok-due-clause-memory
returns-in-Ok-due-clause-memory g c wants =
    rose_since g.O.Sink.taken g.O.Sink.faults g.O.Sink.refused c.args.out.now c.due.new.out c.deliver.new.out c.in-Ok-due.outcome c.in-Ok-due.ensures.puts (c.deliver.ensures.memory wants)

pub due-requires-clause-sized : goal.due-requires-clause-sized
due-requires-clause-sized g c =
    subst (λ files. AreSized (quantities_of c.args.command) (map (λ file. file.items) files)) (sym c.deref.ensures.value)
    (sized (g.F.Shelf.files c.args.shelf.now) [] (quantities_of c.args.command) (map (λ name. name.now) c.args.names.now) (map (λ file. file.items) c.in-Ok.files.items)
    (rw c.quantities.ensures at c.in-Ok.ensures.read))
