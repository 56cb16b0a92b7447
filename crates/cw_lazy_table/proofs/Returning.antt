-- Pairs of a call and an exit.
use Rattle.std.proofs.Common.{◌≡◌, ℕ, List, cond, Option, Some, None, option_map, filter_map, sym, ap, ap₂, ◌∙◌, subst}
use Rattle.std.specs.Prelude.{slice_get}
use Rattle.std.specs.List.{Contains}
use Rattle.std.proofs.lemmas.Option.{same_Some, cond_some}
use Rattle.cw_fixpoint.specs.Closures.{Exactly}
use Rattle.cw_game.specs.declared.spots.Spot.{Spot}
use Rattle.cw_game.specs.Games.{Game}
use Rattle.cw_game.specs.Pairs.{Called, call_in, is_exit_in}
use Rattle.cw_joins.specs.Members.{IsMember, IsPair, pair_cmp}
use Rattle.cw_solve.specs.Low.{HeightsAreLow}
use Rattle.cw_lazy_table.specs.declared.key.Key.{Key}
use Rattle.cw_lazy_table.specs.Kinds as kind
use Rattle.cw_lazy_table.specs.declared.seam_key.SeamKey.{SeamKey}
use Rattle.cw_lazy_table.specs.Choices.{lost_in, set_in, choices, start_of}
use Rattle.cw_lazy_table.specs.Closing.{key, waits}
use Rattle.cw_lazy_table.specs.Laws.{CanBegin}
use Rattle.cw_lazy_table.specs.Live.{IsLive}
use Rattle.cw_lazy_table.specs.SeamKeys.{key_cmp, part_at, seam_key, key_of, IsReturn, return_cmp, return_of}
use Rattle.cw_lazy_table.proofs.Bridging.{member_live, live_member}
use Rattle.cw_lemmas.proofs.Options.{option_map_some as mapped}
use Rattle.cw_lazy_table.proofs.Choosing.{right}
use Rattle.cw_lazy_table.proofs.Listing.{images}
use Rattle.cw_lazy_table.proofs.Placing.{there_call}

pub ended_at : (k : Key) (o : Option Spot) (x : ℕ × ℕ) → cond (is_exit_in o) (Some (k.pos, k.promise)) None ≡ Some x → (k.pos, k.promise) ≡ x
ended_at k o x e = (cond_some (is_exit_in o) (k.pos, k.promise) x e).1

abbrev pub part_or : Option (ℕ × ℕ) → ℕ × ℕ
part_or None = (0, 0)
part_or (Some at) = at

abbrev pub return_at : Game → Key × Key → SeamKey × Key
return_at g ab = (seam_key ab.0 (part_or (part_at g kind.Call ab.0.pos)), ab.1)

module _ (g : Game) (functions : ℕ) (can : CanBegin g functions) (low : HeightsAreLow g) where
  abbrev Pair : Key × Key → Type 0
  Pair ab = IsPair (choices g) (start_of g) ab

  pub alive : (k : Key) → IsMember (choices g) (start_of g) k → IsLive g k.pos k.state k.promise
  alive k m = member_live g can.staged (lost_in g) (set_in g) (right g functions can low) k m

  pub listed : (p q e : ℕ) → IsLive g p q e → IsMember (choices g) (start_of g) (key p q e)
  listed p q e live = live_member g can.staged (lost_in g) (set_in g) (right g functions can low) p q e live

  -- a pair is a call with its return
  pair_call : (ab : Key × Key) → Pair ab → (c : Called) × (call_in (slice_get g.spots ab.0.pos) ≡ Some c) × (ab.1.pos ≡ g.exit c.function) × (ab.1.promise ≡ set_in g ab.0.pos ab.0.state ab.0.promise)
  pair_call ab is =
      let x = is.met.0 in
      let m = mapped (λ (c : Called). (g.exit c.function, set_in g ab.0.pos ab.0.state ab.0.promise)) (call_in (slice_get g.spots ab.0.pos)) x is.met.1 in
      let e = ended_at ab.1 (slice_get g.spots ab.1.pos) x is.met.2 ∙ sym m.2 in
      (m.0, m.1, ap (λ (y : ℕ × ℕ). y.0) e, ap (λ (y : ℕ × ℕ). y.1) e)

  pair_at : (ab : Key × Key) (c : Called) → call_in (slice_get g.spots ab.0.pos) ≡ Some c → part_at g kind.Call ab.0.pos ≡ Some (c.seam, cond c.split 1 0)
  pair_at ab c e = there_call (slice_get g.spots ab.0.pos) c e

  pub pair_return : (ab : Key × Key) → Pair ab → IsReturn g (return_at g ab)
  pair_return ab is =
      let c = pair_call ab is in
      let at = pair_at ab c.0 c.1 in
      record {
        seam_key = record {
          live = alive ab.0 is.waiting;
          at = at ∙ ap (λ (y : ℕ × ℕ). Some (y.0, y.1)) (sym (ap part_or at));
        };
        call = c.0;
        is_call = c.1;
        pos = c.2;
        promise = c.3;
        ended = alive ab.1 is.ending;
      }

  return_pair : (xb : SeamKey × Key) → IsReturn g xb → Pair (key_of xb.0, xb.1)
  return_pair xb is = record {
    waiting = listed xb.0.pos xb.0.state xb.0.promise is.seam_key.live;
    ending = listed xb.1.pos xb.1.state xb.1.promise is.ended;
    met = (
      (g.exit is.call.function, set_in g xb.0.pos xb.0.state xb.0.promise),
      ap (waits g (lost_in g) (set_in g) (key_of xb.0)) is.is_call,
      ap (λ b. cond b (Some (xb.1.pos, xb.1.promise)) None) (ap (λ (p : ℕ). is_exit_in (slice_get g.spots p)) is.pos ∙ ap is_exit_in (can.staged.ends xb.0.pos is.call is.is_call))
          ∙ ap₂ (λ (p e : ℕ). Some (p, e)) is.pos is.promise,
    );
  }

  -- the pairs as calls with their returns
  pub returns_exactly : (pairs : List (Key × Key)) (ys : List (SeamKey × Key)) → Exactly (pair_cmp key_cmp) Pair pairs → Exactly return_cmp (Contains (filter_map (return_of g) pairs)) ys
      → Exactly return_cmp (IsReturn g) ys
  returns_exactly pairs ys are e = images return_cmp Pair (IsReturn g) (return_of g) pairs ys are.1 forth back e
    where
      forth : (ab : Key × Key) (y : SeamKey × Key) → Pair ab → return_of g ab ≡ Some y → IsReturn g y
      forth ab y is f =
          let c = pair_call ab is in
          let at = pair_at ab c.0 c.1 in
          let same : return_at g ab ≡ y =
          same_Some (return_at g ab) y
          (sym (ap (λ o. option_map (λ (x : SeamKey). (x, ab.1)) (option_map (seam_key ab.0) o)) at ∙ ap (λ (y : ℕ × ℕ). Some (seam_key ab.0 y, ab.1)) (sym (ap part_or at))) ∙ f) in
          subst (IsReturn g) same (pair_return ab is)

      back : (y : SeamKey × Key) → IsReturn g y → (ab : Key × Key) × Pair ab × (return_of g ab ≡ Some y)
      back y is = ((key_of y.0, y.1), return_pair y is, ap (λ o. option_map (λ (x : SeamKey). (x, y.1)) (option_map (seam_key (key_of y.0)) o)) is.seam_key.at)
