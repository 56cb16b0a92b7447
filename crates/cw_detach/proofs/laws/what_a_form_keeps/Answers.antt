use Rattle.cw_detach.proofs.Apart.{spans_apart}
use Rattle.cw_detach.proofs.Kept.{source_kept, form_longer}
use Rattle.cw_detach.proofs.laws.what_a_form_keeps.Goals as goal

pub returns : goal.returns
returns c = record { apart = spans_apart; kept = source_kept; longer = form_longer }
