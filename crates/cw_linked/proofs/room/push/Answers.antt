use Rattle.cw_linked.proofs.room.push.Goals as goal

pub returns : goal.returns
returns c = record { contexts = c.in_ok-push-2.ensures.items; bases = c.in_ok-push.ensures.items }
