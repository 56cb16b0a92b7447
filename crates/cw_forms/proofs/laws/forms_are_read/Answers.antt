use Rattle.cw_forms.proofs.Free as free
use Rattle.cw_forms.proofs.laws.forms_are_read.Goals as goal

pub returns : goal.returns
returns c = record { read = free.forms_are_read; not_refused = free.forms_are_not_refused }
