use Rattle.cw_links.proofs.chains.Chains.next.Goals as goal

pub returns-clause-unlinked : goal.returns-clause-unlinked
returns-clause-unlinked g c = rw (← c.self.view_is) c.next.ensures.unlinked
