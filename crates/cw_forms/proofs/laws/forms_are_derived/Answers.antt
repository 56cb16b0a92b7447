use Rattle.cw_forms.proofs.Derived.{forms_derive}
use Rattle.cw_forms.proofs.laws.forms_are_derived.Goals as goal

pub returns : goal.returns
returns c = record { derived = forms_derive }
