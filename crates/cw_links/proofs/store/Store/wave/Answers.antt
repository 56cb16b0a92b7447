use Rattle.std.proofs.Common.{◌≡◌, ℕ, true, false, sym, ap, ◌∙◌, arith}
use Rattle.std.specs.Prelude.{slice_index}
use Rattle.std.proofs.lemmas.List.{get_or_default}
use Rattle.cw_links.specs.Flags.{is_flagged}
use Rattle.cw_links.proofs.Ranks.{rank_below}
use Rattle.cw_links.proofs.Spreads.{spread_flagged, spread_not_flagged}
use Rattle.cw_links.specs.Stores.{Stored}
use Rattle.cw_links.proofs.store.Store.wave.Goals as goal

pub index-requires : goal.index-requires
index-requires c =
    let s = c.self.inside in
    let flagged : is_flagged s.flags c.args.index ≡ true = sym c.is_flagged.ensures ∙ c.if-is_flagged.true in
    let below = rank_below s.flags c.args.index flagged in
    omega (arith, below, c.rank.ensures, c.self.invariant.waves_of_links, s.waves.ok.0)

pub returns-then-is_flagged : goal.returns-then-is_flagged
returns-then-is_flagged c =
    let s = c.self.inside in
    let flagged : is_flagged s.flags c.args.index ≡ true = sym c.is_flagged.ensures ∙ c.if-is_flagged.true in
    let below = rank_below s.flags c.args.index flagged in
    let value : c.index.result.now ≡ slice_index s.waves.items c.rank.result
    = c.index.ensures ∙ get_or_default s.waves.items c.rank.result c.index.result.now 0 (omega (arith, below, c.rank.ensures, c.self.invariant.waves_of_links)) in
    value ∙ ap (λ (y : ℕ). slice_index s.waves.items y) c.rank.ensures ∙ sym (spread_flagged s.flags s.waves.items c.args.index flagged)
    ∙ ap (λ (v : Stored). slice_index v.waves c.args.index) c.self.view_is

pub returns-else-is_flagged : goal.returns-else-is_flagged
returns-else-is_flagged c =
    let s = c.self.inside in
    let not_flagged : is_flagged s.flags c.args.index ≡ false = sym c.is_flagged.ensures ∙ c.if-is_flagged.false in
    sym (spread_not_flagged s.flags s.waves.items c.args.index not_flagged) ∙ ap (λ (v : Stored). slice_index v.waves c.args.index) c.self.view_is
