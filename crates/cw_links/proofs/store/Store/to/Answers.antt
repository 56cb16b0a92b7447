use Rattle.std.proofs.Common.{◌≡◌, ℕ, true, false, sym, ap, ◌∙◌, arith}
use Rattle.std.specs.Prelude.{slice_index}
use Rattle.cw_links.specs.Flags.{is_flagged}
use Rattle.cw_links.proofs.Ranks.{rank_below}
use Rattle.cw_links.proofs.Spreads.{spread_flagged, spread_not_flagged}
use Rattle.cw_links.specs.Stores.{Stored}
use Rattle.cw_links.proofs.store.Store.to.Goals as goal

pub to-requires : goal.to-requires
to-requires c =
    let s = c.self.inside in
    let flagged : is_flagged s.flags c.args.index ≡ true = sym c.is_flagged.ensures ∙ c.if-is_flagged.true in
    let below = rank_below s.flags c.args.index flagged in
    omega (arith, below, c.rank.ensures, c.self.invariant.lists_of_links)

pub returns-then-is_flagged : goal.returns-then-is_flagged
returns-then-is_flagged c =
    let s = c.self.inside in
    let flagged : is_flagged s.flags c.args.index ≡ true = sym c.is_flagged.ensures ∙ c.if-is_flagged.true in
    c.to.ensures ∙ ap (λ (y : ℕ). slice_index s.callers.to y) c.rank.ensures ∙ sym (spread_flagged s.flags s.callers.to c.args.index flagged)
    ∙ ap (λ (v : Stored). slice_index v.to c.args.index) c.self.view_is

pub returns-else-is_flagged : goal.returns-else-is_flagged
returns-else-is_flagged c =
    let s = c.self.inside in
    let not_flagged : is_flagged s.flags c.args.index ≡ false = sym c.is_flagged.ensures ∙ c.if-is_flagged.false in
    sym (spread_not_flagged s.flags s.callers.to c.args.index not_flagged) ∙ ap (λ (v : Stored). slice_index v.to c.args.index) c.self.view_is
