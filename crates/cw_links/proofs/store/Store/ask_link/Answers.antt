use Rattle.std.proofs.Common.{◌≡◌, ℕ, List, true, ap, ◌∙◌, arith}
use Rattle.cw_links.specs.Flags.{is_flagged, spread}
use Rattle.cw_links.proofs.Ranks.{rank_below}
use Rattle.cw_links.specs.Keys.{lowered}
use Rattle.cw_links.specs.Stores.{Stored, stored, with_cells, with_due}
use Rattle.cw_links.proofs.Spreading.{lowered_flagged}
use Rattle.cw_links.proofs.store.Store.ask_link.Goals as goal

pub ask_link-requires-clause-within : goal.ask_link-requires-clause-within
ask_link-requires-clause-within c =
    let s = c.self.inside in
    let flagged : is_flagged s.flags c.args.index ≡ true = ap (λ (v : Stored). is_flagged v.flags c.args.index) c.self.view_is ∙ c.requires.flagged in
    let below = rank_below s.flags c.args.index flagged in
    omega (arith, below, c.rank-link.ensures, c.self.invariant.keys_of_links)

pub returns-clause-asked : goal.returns-clause-asked
returns-clause-asked c =
    let s = c.self.inside in
    let flagged : is_flagged s.flags c.args.index ≡ true = ap (λ (v : Stored). is_flagged v.flags c.args.index) c.self.view_is ∙ c.requires.flagged in
    let due : spread s.flags c.ask_link.new.self.due ≡ lowered (spread s.flags s.keys.due) c.args.index c.args.key
    = ap (λ (xs : List ℕ). spread s.flags xs) (c.in_ok-ask_link.ensures.due ∙ ap (λ (y : ℕ). lowered s.keys.due y c.args.key) c.rank-link.ensures)
    ∙ lowered_flagged s.flags s.keys.due c.args.index c.args.key c.self.invariant.keys_of_links flagged in
    let same = stored s.flags s.keys s.callers s.waves.items in
    ap (λ (heights : List ℕ). with_cells (with_due same (spread s.flags c.ask_link.new.self.due)) heights c.ask_link.new.self.asked) c.in_ok-ask_link.ensures.heights
    ∙ ap (λ (asked : List ℕ). with_cells (with_due same (spread s.flags c.ask_link.new.self.due)) s.keys.heights asked) c.in_ok-ask_link.ensures.asked
    ∙ ap (λ (d : List ℕ). with_due same d) due
    ∙ ap (λ (v : Stored). with_due v (lowered v.due c.args.index c.args.key)) c.self.view_is
