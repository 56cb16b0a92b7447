use Rattle.cw_audit_visits.proofs.Gone.{standing_position}
use Rattle.cw_audit_visits.proofs.met.is_within.Goals as goal

pub turn-requires : goal.turn-requires
turn-requires c = standing_position c.args.game.now c.args.row_key c.requires.fair c.requires.may_stand
