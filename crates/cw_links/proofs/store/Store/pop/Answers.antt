use Rattle.std.proofs.Common.{subst}
use Rattle.cw_links.specs.Stores.{Stored, PopsIndex, stored}
use Rattle.cw_links.proofs.Spreading.{known_popped, popped_at}
use Rattle.cw_links.proofs.store.Store.pop.Goals as goal

pub at_index-requires-clause-known : goal.at_index-requires-clause-known
at_index-requires-clause-known c = known_popped c.self.inside.flags c.self.inside.keys c.pop-popped.new.self c.pop-popped.result c.self.invariant.keys_of_links c.pop-popped.ensures

pub returns : goal.returns
returns c =
    let s = c.self.inside in
    subst (λ (v : Stored). PopsIndex v (stored s.flags c.pop-popped.new.self s.callers s.waves.items) c.at_index.result) c.self.view_is
    (popped_at s.flags s.keys c.pop-popped.new.self s.callers s.waves.items c.pop-popped.result c.at_index.result c.self.invariant.keys_of_links c.pop-popped.ensures c.at_index.ensures)
