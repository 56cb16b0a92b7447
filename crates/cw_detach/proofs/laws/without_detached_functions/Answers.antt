use Rattle.cw_detach.proofs.Plain.{form_same, taken_alone}
use Rattle.cw_detach.proofs.laws.without_detached_functions.Goals as goal

pub returns : goal.returns
returns c = record { same = form_same; taken = taken_alone }
