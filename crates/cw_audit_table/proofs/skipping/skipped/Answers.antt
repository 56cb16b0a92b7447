-- A visit leads past itself; behind the visits nothing is skipped.
use Rattle.std.proofs.Common.{◌≡◌, ℕ, ◌∙◌, refl, sym, ap, Option, Some, false}
use Rattle.std.specs.Prelude.{slice_get}
use Rattle.std.proofs.lemmas.Option.{same_Some}
use Rattle.cw_rights.specs.declared.capabilities.Primitive.{Primitive}
use Rattle.cw_game.specs.declared.spots.Spot.{Spot}
use Rattle.cw_game.specs.declared.spots.Spot.TheVariants.{Visit}
use Rattle.cw_game.specs.Games.{weavers_in}
use Rattle.cw_product.specs.Product.{game_of}
use Rattle.cw_audit_table.proofs.Skips.{skip_on, stays}
use Rattle.cw_audit_table.proofs.skipping.skipped.Goals as goal

pub loop-at-preserved : goal.loop-at-preserved
loop-at-preserved c =
    let g = game_of c.args.game.now in
    let p = c.loop-at.at.0 in
    let e : slice_get g.spots p ≡ Some (Visit c.in-Visit.field-0 c.in-Visit.field-1 c.in-Visit.field-2) = sym c.spot.ensures ∙ ap (λ s. Some s) c.in-Visit.is in
    record {
      same = skip_on g p (ap weavers_in e) ∙ c.loop-at.invariant.same;
      within = c.fact_is_closed.ensures.leads p (Visit c.in-Visit.field-0 c.in-Visit.field-1 c.in-Visit.field-2) e;
    }

not_visit : (o : Option Spot) (s : Spot) → Some s ≡ o → ((j i : ℕ) (a : Primitive) → s ≡ Visit j i a → ⊥) → weavers_in o ≡ false
not_visit (Some (Visit j i a)) s e h = absurd (h j i a (same_Some s (Visit j i a) e))
not_visit _ s e h = refl

pub returns : goal.returns
returns c =
    let g = game_of c.args.game.now in
    let p = c.loop-at.at.0 in
    record {
      is = sym (stays g p (not_visit (slice_get g.spots p) c.spot.result c.spot.ensures c.in_default.not-Visit)) ∙ c.loop-at.invariant.same;
      within = c.loop-at.invariant.within;
    }
