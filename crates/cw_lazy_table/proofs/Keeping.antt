-- What is live isn't lost, where the start isn't: and it stands in a function under a promise that the game needs.
use Rattle.std.proofs.Common.{◌≡◌, ℕ, zero, suc, ◌+◌, ◌<◌, ◌≤◌, Bool, true, false, ◌&&◌, ◌||◌, Option, Some, nat_eq, refl, sym, ap, ◌∙◌, subst, arith, eqb-true, inl, inr}
use Rattle.std.specs.Prelude.{slice_get, nat_lt, Contains}
use Rattle.std.proofs.lemmas.Bool.{lt-ltb, ltb-true, cases_lt, or_from}
use Rattle.std.proofs.lemmas.Option.{none-some}
use Rattle.cw_rights.specs.declared.capabilities.Primitive.{Primitive}
use Rattle.cw_game.specs.declared.spots.Spot.{Spot}
use Rattle.cw_game.specs.declared.spots.Spot.TheVariants.{Visit, Exit}
use Rattle.cw_game.specs.Games.{Game, Config, returned, bad_in, weavers_in, Promise, holds_in, Holds, IsLost}
use Rattle.cw_game.specs.Pairs.{has, all_states, Called, call_in, call_spot, kept_at}
use Rattle.cw_game.proofs.Holding.{lost_rises, bad_fails}
use Rattle.cw_product.specs.Routed.{IsState, targets, AreRouted, IsOf}
use Rattle.cw_solve.specs.Contexts.{context, promise_at, IsSetOf, IsNeeded, of_main, of_call}
use Rattle.cw_solve.proofs.Falls.{later, return_state, back_stays, call_is}
use Rattle.cw_solve.proofs.Still.{first_of_two, second_of_two, only, holds_call}
use Rattle.cw_lazy_table.specs.Live.{IsFull, IsLive, begins, skips, tries, moves, goes_on, calls, returns}
use Rattle.cw_lazy_table.specs.Staged.{IsAsked, AreStaged}
use Rattle.cw_lazy_table.proofs.Going.{goes_to, resumes}
use Rattle.std.proofs.lemmas.Bool.{true_from_ne_false as is_true}

-- A state of the game, at a position of a function under a promise that is needed, and not lost.
pub record IsSafe (g : Game) (functions p q e : ℕ) : Type 0 where
  pub state : IsState g q
  pub kept : IsLost g p q (has e) → ⊥
  pub function : ℕ
  pub below : function < functions
  pub of : IsOf g function p
  pub needed : IsNeeded g (context function e)

module _ (g : Game) (functions : ℕ) (routed : AreRouted g functions) (staged : AreStaged g) where
  -- a number of moves within which every return is lost that is lost at all
  bound_to : (p q e set : ℕ) (call : Called) → call_in (slice_get g.spots p) ≡ Some call → IsState g q → IsFull g call q e set → (m : ℕ) → m ≤ g.states.count
      → (n : ℕ) × ((x : ℕ) → x < m → has set x ≡ false → Holds g n call.back (returned g.states (kept_at call.split q) x) (has e) ≡ false)
  bound_to p q e set call es s f zero le = (0, λ x l o. absurd (omega (arith, l)))
  bound_to p q e set call es s f (suc m) le = by (has set m) refl (bound_to p q e set call es s f m (omega (arith, le)))
    where
      back_state : (x : ℕ) → x < g.states.count → IsState g (returned g.states (kept_at call.split q) x)
      back_state x l = return_state g functions routed p x q call es l s

      by : (b : Bool) → has set m ≡ b → (n : ℕ) × ((x : ℕ) → x < m → has set x ≡ false → Holds g n call.back (returned g.states (kept_at call.split q) x) (has e) ≡ false)
          → (n : ℕ) × ((x : ℕ) → x < suc m → has set x ≡ false → Holds g n call.back (returned g.states (kept_at call.split q) x) (has e) ≡ false)
      by true t h = (
        h.0,
        λ x l o. elim (cases_lt x m) [
          | inl less ↦ h.1 x less o
          | inr more ↦ let xm : x ≡ m = omega (arith, l, more) in let w : true ≡ false = sym t ∙ ap (has set) (sym xm) ∙ o in cc
        ],
      )
      by false t h =
          let r = f.left_out m (omega (arith, le)) t in (
            h.0 + r.0,
            λ x l o. elim (cases_lt x m) [
              | inl less ↦ later g functions routed h.0 (h.0 + r.0) call.back (returned g.states (kept_at call.split q) x) (has e) (omega arith) (back_state x (omega (arith, less, le))) (h.1 x less o)
              | inr more ↦
                  let xm : x ≡ m = omega (arith, l, more) in
                  subst (λ y. Holds g (h.0 + r.0) call.back (returned g.states (kept_at call.split q) y) (has e) ≡ false) (sym xm)
                  (later g functions routed r.0 (h.0 + r.0) call.back (returned g.states (kept_at call.split q) m) (has e) (omega arith) (back_state m (omega (arith, le))) r.1)
            ],
          )

  module _ (p q e set : ℕ) (call : Called) (es : call_in (slice_get g.spots p) ≡ Some call) (s : IsState g q) (f : IsFull g call q e set) where
    abbrev Back : ℕ → ℕ → Bool
    Back n x = Holds g n call.back (returned g.states (kept_at call.split q) x) (has e)

    pub bound : (n : ℕ) × ((x : ℕ) → x < g.states.count → has set x ≡ false → Back n x ≡ false)
    bound = bound_to p q e set call es s f g.states.count (omega arith)

    -- what returns for that many moves and more is in the set
    in_set : (n x : ℕ) → bound.0 ≤ n → IsState g x → Back n x ≡ true → has set x ≡ true
    in_set n x le l h = by (has set x) refl
      where
        by : (b : Bool) → has set x ≡ b → has set x ≡ true
        by true t = t
        by false t = let w : true ≡ false = sym h ∙ later g functions routed bound.0 n call.back (returned g.states (kept_at call.split q) x) (has e) le
            (return_state g functions routed p x q call es l s) (bound.1 x l t) in cc

    -- the function begins at a pair that isn't lost under what the call promises
    pub entry_kept : (IsLost g p q (has e) → ⊥) → IsLost g (g.entry call.function) q (has set) → ⊥
    entry_kept kept l =
        let n = bound.0 + l.0 in
        kept (
          suc n,
          holds_call g functions routed (Holds g n) p q (has e) call es
              ∙ lost_rises g (IsState g) routed.closed l.0 n (g.entry call.function) q (λ x. Back n x) (has set) (omega arith) s (λ x t h. in_set n x (omega arith) t h) l.1,
        )

    -- the set is what the call promises for that many moves
    pub set_of : IsSetOf g set (promise_at g bound.0 call.back (kept_at call.split q) e)
    set_of x = by (nat_lt x g.states.count) refl (has set x) refl
      where
        by : (lt : Bool) → nat_lt x g.states.count ≡ lt → (b : Bool) → has set x ≡ b → has set x ≡ (lt && Back bound.0 x)
        by true l true t = t ∙ sym (is_true (Back bound.0 x) (λ h. f.kept x t (bound.0, h)))
        by true l false t = t ∙ sym (bound.1 x (ltb-true x g.states.count l) t)
        by false l true t = let w : true ≡ false = sym (lt-ltb x g.states.count (f.states x t)) ∙ l in cc
        by false l false t = t

  -- where a function ends what isn't lost is promised
  end_promised : (f x e : ℕ) → slice_get g.spots (g.exit f) ≡ Some (Exit f) → (f ≡ g.main → ⊥) → (IsLost g (g.exit f) x (has e) → ⊥) → has e x ≡ true
  end_promised f x e es other kept = is_true (has e x) (λ h. kept (1, ap (holds_in g (Holds g 0) (g.exit f) x (has e)) es ∙ by (nat_eq f g.main) refl h))
    where
      by : (b : Bool) → nat_eq f g.main ≡ b → has e x ≡ false → (nat_eq f g.main || has e x) ≡ false
      by true t h = absurd (other (eqb-true f g.main t))
      by false t h = ap (λ b. b || has e x) t ∙ h

  -- a pair that isn't lost isn't bad
  pub good : (p q e : ℕ) → (IsLost g p q (has e) → ⊥) → bad_in g q (slice_get g.spots p) ≡ false
  good p q e kept = by (bad_in g q (slice_get g.spots p)) refl
    where
      by : (b : Bool) → bad_in g q (slice_get g.spots p) ≡ b → bad_in g q (slice_get g.spots p) ≡ false
      by true t = absurd (kept (1, bad_fails g (Holds g 0) p q (has e) (slice_get g.spots p) t))
      by false t = t

  -- a move of the environment from a pair that isn't lost leads to one that isn't
  moved_kept : (p q e : ℕ) (next : Config) → ((h : ℕ → ℕ → Promise → Bool) (e : Promise) → h next.pos next.state e ≡ false → holds_in g h p q e (slice_get g.spots p) ≡ false)
      → (IsLost g p q (has e) → ⊥) → IsLost g next.pos next.state (has e) → ⊥
  moved_kept p q e next lost kept l = kept (suc l.0, lost (Holds g l.0) (has e) l.1)

  -- both moves of a visit are lost only where it is
  visit_kept : (p q e j i : ℕ) (a : Primitive) → slice_get g.spots p ≡ Some (Visit j i a) → IsState g q → (IsLost g p q (has e) → ⊥) → IsLost g (p + 2) q (has e) → IsLost g (p + 1) q (has e) → ⊥
  visit_kept p q e j i a es s kept l k =
      let n = l.0 + k.0 in
      kept (
        suc n,
        ap (holds_in g (Holds g n) p q (has e)) es
            ∙ or_from (Holds g n (p + 2) q (has e)) (Holds g n (p + 1) q (has e)) (later g functions routed l.0 n (p + 2) q (has e) (omega arith) s l.1)
            (later g functions routed k.0 n (p + 1) q (has e) (omega arith) s k.1),
      )

  module _ (first : IsState g g.states.start) (start : IsLost g (g.entry g.main) g.states.start (has (all_states g)) → ⊥) where
    -- the same function and promise at a target
    at_target : (p q e r x : ℕ) → IsSafe g functions p q e → Contains (targets p (slice_get g.spots p)) r → IsState g x → (IsLost g r x (has e) → ⊥) → IsSafe g functions r x e
    at_target p q e r x h c s k = record { state = s; kept = k; function = h.function; below = h.below; of = routed.stays h.function p r h.below h.of c; needed = h.needed }

    pub safe : (p q e : ℕ) → IsLive g p q e → IsSafe g functions p q e
    safe p q e begins = record { state = first; kept = start; function = g.main; below = routed.main.below; of = (omega arith, routed.main.begins); needed = of_main }
    safe r x y (skips p q e j i a live es n) =
        let h = safe p q e live in
        at_target p q e (p + 2) q h (subst (λ o. Contains (targets p o) (p + 2)) (sym es) (first_of_two (p + 2) (p + 1))) h.state n
    safe r x y (tries p q e j i a live es l) =
        let h = safe p q e live in
        at_target p q e (p + 1) q h (subst (λ o. Contains (targets p o) (p + 1)) (sym es) (second_of_two (p + 2) (p + 1))) h.state (λ k. visit_kept p q e j i a es h.state h.kept l k)
    safe r x y (moves p q e by next live w k l) =
        let h = safe p q e live in
        let z = goes_to g routed.closed p q (slice_get g.spots p) by next refl (good p q e h.kept) w k l in
        at_target p q e next.pos next.state h z.target (z.state h.state) (moved_kept p q e next z.lost h.kept)
    safe r x y (goes_on p q e pair live is n) =
        let h = safe p q e live in
        let z = resumes g routed.closed p q (slice_get g.spots p) pair is in
        at_target p q e pair.0 pair.1 h z.0 (subst (IsState g) (sym z.1) h.state) n
    safe r x y (calls p q e set call live es f) =
        let h = safe p q e live in
        let there = routed.called p call es in
        record {
          state = h.state;
          kept = entry_kept p q e set call es h.state f h.kept;
          function = call.function;
          below = there.below;
          of = (omega arith, there.begins);
          needed = of_call (context h.function e) (bound p q e set call es h.state f).0 p q set call h.needed h.of h.state es (set_of p q e set call es h.state f);
        }
    safe r x y (returns p q e set z call live es f ended) =
        let h = safe p q e live in
        let k = safe (g.exit call.function) z set ended in
        record {
          state = return_state g functions routed p z q call es k.state h.state;
          kept = f.kept z (end_promised call.function z set (staged.ends p call es) (staged.not_main p call es) k.kept);
          function = h.function;
          below = h.below;
          of = back_stays g functions routed h.function p call h.below h.of es;
          needed = h.needed;
        }

    -- what is asked is live where the skip of its visit is lost, and so is the visit
    pub came : (p q e : ℕ) → IsLive g p q e → IsAsked g p → (o : ℕ) × (j : ℕ) × (i : ℕ) × (a : Primitive) × (p ≡ o + 1) × (slice_get g.spots o ≡ Some (Visit j i a)) × IsLost g (o + 2) q (has e)
    came p q e begins k = absurd (staged.started k)
    came r x y (skips p q e j i a live es n) k = absurd (staged.skipped p j i a es k)
    came r x y (tries p q e j i a live es l) k = (p, j, i, a, refl, es, l)
    came r x y (moves p q e by next live w c l) k =
        absurd (staged.moved p next.pos w (goes_to g routed.closed p q (slice_get g.spots p) by next refl (good p q e (safe p q e live).kept) w c l).target k)
    came r x y (goes_on p q e pair live is n) k = let z = resumes g routed.closed p q (slice_get g.spots p) pair is in absurd (staged.moved p pair.0 z.2 z.0 k)
    came r x y (calls p q e set call live es f) k = absurd (staged.called p call es k)
    came r x y (returns p q e set z call live es f ended) k = absurd (staged.moved p call.back (call_turn (slice_get g.spots p) call es) (back_target p call es) k)
      where
        call_turn : (o : Option Spot) (call : Called) → call_in o ≡ Some call → weavers_in o ≡ false
        call_turn (Some (Visit j i a)) call e = absurd (none-some call e)
        call_turn _ call e = refl

        back_target : (p : ℕ) (call : Called) → call_in (slice_get g.spots p) ≡ Some call → Contains (targets p (slice_get g.spots p)) call.back
        back_target p call es = by call.split (call_is (slice_get g.spots p) call es)
          where
            by : (split : Bool) → slice_get g.spots p ≡ Some (call_spot split call.seam call.function call.back) → Contains (targets p (slice_get g.spots p)) call.back
            by true o = subst (λ s. Contains (targets p s) call.back) (sym o) (only call.back)
            by false o = subst (λ s. Contains (targets p s) call.back) (sym o) (only call.back)
