use Rattle.std.proofs.Common.{inr, subst}
use Rattle.cw_lemmas.proofs.Options.{if_ok}
use Rattle.cw_syntax.specs.Trees.{file_of}
use Rattle.cw_commands.specs.Outcomes.{due_of}
use Rattle.cw_commands.proofs.Starting.{unput}
use Rattle.cw_cli.specs.Listings.{IsListed}
use Rattle.cw_cli.proofs.listing.listing_due.Goals as goal

pub returns-in-Ok-clause-due : goal.returns-in-Ok-clause-due
returns-in-Ok-clause-due g c =
    let file = file_of c.in-Ok.checked.program in
    if_ok _ _ c.of_program-outcome.result c.of_program-outcome.ensures.due (λ o d. inr (file, c.in-Ok.ensures.program, subst (λ s. IsListed s file (due_of o)) c.in-Ok.ensures.source d))

pub returns-in-Err-clause-puts : goal.returns-in-Err-clause-puts
returns-in-Err-clause-puts g c = unput g.O.Sink.taken g.O.Sink.faults g.O.Sink.refused c.args.out.now c.source_refusal.result c.source_refusal.ensures.refused
