use Rattle.std.proofs.Common.{◌≡◌, ℕ, true, sym, ap, ◌∙◌, subst, set, arith}
use Rattle.cw_links.specs.Flags.{is_flagged}
use Rattle.cw_links.proofs.Ranks.{rank_below}
use Rattle.cw_links.specs.Stores.{Stored, Ties, stored}
use Rattle.cw_links.proofs.Spreading.{tied_at}
use Rattle.cw_links.proofs.store.Store.tie.Goals as goal

pub tie-requires-clause-link : goal.tie-requires-clause-link
tie-requires-clause-link c =
    let s = c.self.inside in
    let flagged : is_flagged s.flags c.args.index ≡ true = ap (λ (v : Stored). is_flagged v.flags c.args.index) c.self.view_is ∙ c.requires.flagged in
    let below = rank_below s.flags c.args.index flagged in
    omega (arith, below, c.rank-link.ensures, c.self.invariant.lists_of_links)

pub index_mut-requires : goal.index_mut-requires
index_mut-requires c =
    let s = c.self.inside in
    let flagged : is_flagged s.flags c.args.index ≡ true = ap (λ (v : Stored). is_flagged v.flags c.args.index) c.self.view_is ∙ c.requires.flagged in
    let below = rank_below s.flags c.args.index flagged in
    omega (arith, below, c.rank-link.ensures, c.self.invariant.waves_of_links, s.waves.ok.0)

pub returns : goal.returns
returns c =
    let s = c.self.inside in
    let link = c.rank-link.result in
    let flagged : is_flagged s.flags c.args.index ≡ true = ap (λ (v : Stored). is_flagged v.flags c.args.index) c.self.view_is ∙ c.requires.flagged in
    subst (λ (v : Stored). Ties v (stored s.flags s.keys c.tie.new.self (set s.waves.items link c.args.moves)) c.args.index c.args.list c.args.moves) c.self.view_is
    (subst (λ (l : ℕ). Ties (stored s.flags s.keys s.callers s.waves.items) (stored s.flags s.keys c.tie.new.self (set s.waves.items l c.args.moves)) c.args.index c.args.list c.args.moves) (sym c.rank-link.ensures)
    (tied_at s.flags s.keys s.callers c.tie.new.self s.waves.items c.args.index c.args.list c.args.moves c.self.invariant flagged
    (c.tie.ensures.to ∙ ap (λ (l : ℕ). set s.callers.to l c.args.list) c.rank-link.ensures) c.tie.ensures.lists))
