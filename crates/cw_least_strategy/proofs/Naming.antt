-- What a key names are keys, each of a lesser height.
use Rattle.std.proofs.Common.{◌≡◌, ◌⊎◌, ℕ, zero, suc, ◌+◌, ◌-◌, ◌<◌, ◌^◌, List, [], ◌∷◌, Bool, true, false, cond, not, ◌&&◌, Option, Some, None, map, nat_lt}
use Rattle.std.proofs.Common.{nat_le, refl, sym, ap, ◌∙◌, subst, arith, inl, inr}
use Rattle.std.specs.Prelude.{slice_get, option_map}
use Rattle.std.specs.List.{Contains, range_with_len}
use Rattle.std.proofs.lemmas.Bool.{lt-ltb, le-ltb, ltb-true}
use Rattle.std.proofs.lemmas.Option.{same_Some, none-some}
use Rattle.std.proofs.lemmas.List.FromFn.{length-range_with_len, get_or-range_with_len}
use Rattle.cw_certs.specs.declared.moves.Move.{Move}
use Rattle.cw_game.specs.declared.spots.Spot.{Spot}
use Rattle.cw_game.specs.declared.spots.Spot.TheVariants.{Visit, Asked, Step, Branch, Label, Open, Close, Call, SplitCall, Exit}
use Rattle.cw_game.specs.Games.{Game, Holds, holds_in, returned}
use Rattle.cw_game.specs.Pairs.{has, all_states, Called, call_in, kept_at}
use Rattle.cw_product.specs.Moves.{next_at}
use Rattle.cw_product.specs.Routed.{IsState, targets, AreRouted, IsOf}
use Rattle.cw_solve.specs.Contexts.{context, IsHeight, IsNeeded, of_main, of_call, promise_at, IsSetOf}
use Rattle.cw_solve.proofs.Falls.{holds_same, return_state, back_stays, member_is}
use Rattle.cw_solve.proofs.Still.{first_of_two, second_of_two, holds_call}
use Rattle.cw_least_strategy.specs.declared.key.Key.{Key}
use Rattle.cw_least_strategy.specs.declared.key.Way.{Way}
use Rattle.cw_least_strategy.specs.Heights.{others, height_within}
use Rattle.cw_fixpoint.specs.Closures.{Reached, first, then}
use Rattle.cw_least_strategy.specs.Kept.{IsKey, Leads, here, on}
use Rattle.cw_least_strategy.specs.Strategies.{below, moves, way, sooner, best, after_return, is_lost_after, aim_at, back_at, backs_at, Into, goes, inner, act_in, keys_in, named, start_key}
use Rattle.cw_solve.proofs.Sets.{has_set}
use Rattle.cw_least_strategy.proofs.Sets.{set_within, none_aimed}
use Rattle.cw_least_strategy.proofs.Lowest as lowest
use Rattle.cw_least_strategy.proofs.Moving.{moved}
use Rattle.std.proofs.lemmas.Bool.{or_parts as neither}
use Rattle.cw_lemmas.proofs.Lists.{map_contains as from_mapped, in_either, contains_none, from_kept}

pub in_range : (n x : ℕ) → Contains (range_with_len 0 n) x → x < n
in_range n x (i, l, e) =
    let w = length-range_with_len 0 n in
    let lt : i < n = omega (arith, l, w) in
    let v = get_or-range_with_len 0 n i x lt in
    omega (arith, lt, v, e)

module _ (g : Game) (functions : ℕ) (routed : AreRouted g functions) where
  -- a height is positive
  pub positive : (p q e n : ℕ) → IsHeight g p q e n → 0 < n
  positive p q e zero h = let w : true ≡ false = h.lost in cc
  positive p q e (suc n) h = omega arith

  -- whether a pair below is lost
  pub lost_is : (n p q e : ℕ) → IsState g q → nat_lt 0 (height_within g n p q (has e)) ≡ not (Holds g n p q (has e))
  lost_is n p q e s = by (Holds g n p q (has e)) refl
    where
      by : (b : Bool) → Holds g n p q (has e) ≡ b → nat_lt 0 (height_within g n p q (has e)) ≡ not (Holds g n p q (has e))
      by true t = ap (nat_lt 0) (lowest.absent g functions routed p q e s n t) ∙ le-ltb 0 0 (omega arith) ∙ sym (ap not t)
      by false f = lt-ltb 0 (height_within g n p q (has e)) (lowest.found g functions routed p q e s n f).2 ∙ sym (ap not f)

  module _ (k : Key) (is : IsKey g functions k) where
    abbrev n : ℕ
    n = k.height - 1

    abbrev pub Lower : Key → Type 0
    Lower b = IsKey g functions b × (b.height < k.height)

    more : k.height ≡ suc n
    more = let z = positive k.pos k.state (others g k.aim) k.height is.height in omega (arith, z)

    pub fails : holds_in g (Holds g n) k.pos k.state (has (others g k.aim)) (slice_get g.spots k.pos) ≡ false
    fails = subst (λ m. Holds g m k.pos k.state (has (others g k.aim)) ≡ false) more is.height.lost

    -- a pair that is lost one move sooner
    pub lower : (f p q aim : ℕ) → f < functions → IsOf g f p → IsState g q → IsNeeded g (context f (others g aim)) → aim < 2 ^ g.states.count
        → Holds g n p q (has (others g aim)) ≡ false → Lower (below g k p q aim)
    lower f p q aim there of s need lt h =
        let w = lowest.found g functions routed p q (others g aim) s n h in (
          record { function = f; there = there; of = of; state = s; needed = need; height = w.0; aim = lt },
          let m = more in omega (arith, w.1, m),
        )

    pub lower_here : (p q : ℕ) → Contains (targets k.pos (slice_get g.spots k.pos)) p → IsState g q → Holds g n p q (has (others g k.aim)) ≡ false → Lower (below g k p q k.aim)
    lower_here p q c s h = lower is.function p q k.aim is.there (routed.stays is.function k.pos p is.there is.of c) s is.needed is.aim h

    -- the weaver's pairs
    pub visit_lower : (j i : ℕ) (a : _) → slice_get g.spots k.pos ≡ Some (Visit j i a) → Lower (below g k (k.pos + 2) k.state k.aim) × Lower (below g k (k.pos + 1) k.state k.aim)
    visit_lower j i a es =
        let h = neither _ _ (sym (ap (holds_in g (Holds g n) k.pos k.state (has (others g k.aim))) es) ∙ fails) in (
          lower_here (k.pos + 2) k.state (subst (λ o. Contains (targets k.pos o) (k.pos + 2)) (sym es) (first_of_two (k.pos + 2) (k.pos + 1))) is.state h.0,
          lower_here (k.pos + 1) k.state (subst (λ o. Contains (targets k.pos o) (k.pos + 1)) (sym es) (second_of_two (k.pos + 2) (k.pos + 1))) is.state h.1,
        )

    -- The environment's pairs: a way that is taken is one of the moves', to a pair that is lost.
    abbrev pub Taken : Way → Type 0
    Taken w = (by : Move) × (way g k by ≡ Some w) × (0 < w.to.height)

    sooner_taken : (by : Move) (a b : Option Way) (w : Way) → way g k by ≡ a → ((v : Way) → b ≡ Some v → Taken v) → sooner a b ≡ Some w → Taken w
    sooner_taken by None b w ea rec e = rec w e
    sooner_taken by (Some a) None w ea rec e = cases (nat_lt 0 a.to.height) refl e
      where
        cases : (t : Bool) → nat_lt 0 a.to.height ≡ t → cond t (Some a) None ≡ Some w → Taken w
        cases true t e =
            let s = same_Some a w e in
            subst Taken s (by, ea, ltb-true 0 a.to.height t)
        cases false t e = absurd (none-some w e)
    sooner_taken by (Some a) (Some b) w ea rec e = cases (nat_lt 0 a.to.height) (nat_le a.to.height b.to.height) refl e
      where
        cases : (t u : Bool) → nat_lt 0 a.to.height ≡ t → cond (t && u) (Some a) (Some b) ≡ Some w → Taken w
        cases true true t e = let s = same_Some a w e in subst Taken s (by, ea, ltb-true 0 a.to.height t)
        cases true false t e = rec w e
        cases false u t e = rec w e

    pub best_taken : (bys : List Move) (w : Way) → best g k bys ≡ Some w → Taken w
    best_taken [] w e = absurd (none-some w e)
    best_taken (by ∷ bys) w e = sooner_taken by (way g k by) (best g k bys) w refl (λ v f. best_taken bys v f) e

    -- and where some move leads to a pair that is lost a way is taken
    sooner_some : (a b : Option Way) → ((w : Way) × (a ≡ Some w) × (0 < w.to.height)) ⊎ ((v : Way) × (b ≡ Some v)) → (v : Way) × (sooner a b ≡ Some v)
    sooner_some None b (inl h) = absurd (none-some h.0 h.1)
    sooner_some None b (inr h) = h
    sooner_some (Some a) None (inl h) =
        let p : 0 < a.to.height = subst (λ (w : Way). 0 < w.to.height) (sym (same_Some a h.0 h.1)) h.2 in
        (a, ap (λ t. cond t (Some a) None) (lt-ltb 0 a.to.height p))
    sooner_some (Some a) None (inr h) = absurd (none-some h.0 h.1)
    sooner_some (Some a) (Some b) h = cases (nat_lt 0 a.to.height && nat_le a.to.height b.to.height)
      where
        cases : (t : Bool) → (v : Way) × (cond t (Some a) (Some b) ≡ Some v)
        cases true = (a, refl)
        cases false = (b, refl)

    pub best_some : (bys : List Move) (by : Move) (w : Way) → Contains bys by → way g k by ≡ Some w → 0 < w.to.height → (v : Way) × (best g k bys ≡ Some v)
    best_some [] by w c e p = absurd (contains_none by c)
    best_some (b ∷ bys) by w c e p = cases (in_either b bys by c) (λ d. best_some bys by w d e p)
      where
        cases : (b ≡ by) ⊎ Contains bys by → (Contains bys by → (v : Way) × (best g k bys ≡ Some v)) → (v : Way) × (sooner (way g k b) (best g k bys) ≡ Some v)
        cases (inl s) rec = sooner_some (way g k b) (best g k bys) (inl (w, ap (way g k) s ∙ e, p))
        cases (inr d) rec = sooner_some (way g k b) (best g k bys) (inr (rec d))

    way_from : (by : Move) (o : Option (ℕ × ℕ)) (w : Way) → option_map (λ r. record { by = by; to = below g k r.0 r.1 k.aim }) o ≡ Some w
        → (r : ℕ × ℕ) × (o ≡ Some r) × (w.by ≡ by) × (w.to ≡ below g k r.0 r.1 k.aim)
    way_from by None w e = absurd (none-some w e)
    way_from by (Some r) w e =
        let a : Way = record { by = by; to = below g k r.0 r.1 k.aim } in
        let s = same_Some a w e in
        (r, refl, sym (ap (λ (w : Way). w.by) s), sym (ap (λ (w : Way). w.to) s))

    -- where a way leads
    pub taken_at : (w : Way) → Taken w → Lower w.to × ((r : ℕ × ℕ) × (next_at g k.pos k.state w.by ≡ Some r) × (w.to ≡ below g k r.0 r.1 k.aim))
    taken_at w t =
        let f = way_from t.0 (next_at g k.pos k.state t.0) w t.1 in
        let m = moved g routed.closed k.pos k.state t.0 f.0 is.state f.1 in
        let at = m.3 in
        let h : 0 < (below g k f.0.0 f.0.1 k.aim).height = subst (λ (b : Key). 0 < b.height) f.3 t.2 in
        let l = lower_here f.0.0 f.0.1 at.3 at.4 (lowest.lost_by g functions routed f.0.0 f.0.1 (others g k.aim) at.4 n h) in
        (subst Lower (sym f.3) l, (f.0, ap (next_at g k.pos k.state) f.2 ∙ f.1, f.3))

    -- A call's pairs.
    module _ (c : Called) (es : call_in (slice_get g.spots k.pos) ≡ Some c) where
      abbrev e : ℕ
      e = others g k.aim

      back_of_call : IsOf g is.function c.back
      back_of_call = back_stays g functions routed is.function k.pos c is.there is.of es

      return_at : (x : ℕ) → IsState g x → IsState g (returned g.states (kept_at c.split k.state) x)
      return_at x s = return_state g functions routed k.pos x k.state c es s is.state

      pub lost_after_is : (x : ℕ) → IsState g x → is_lost_after g k c x ≡ not (promise_at g n c.back (kept_at c.split k.state) e x)
      lost_after_is x s = lost_is n c.back (returned g.states (kept_at c.split k.state) x) e (return_at x s)

      -- what is promised where the callee's aim is aimed at is what the call promises
      pub aim_promises : IsSetOf g (others g (aim_at g k c)) (promise_at g n c.back (kept_at c.split k.state) e)
      aim_promises x = has_set (λ x. not (has (aim_at g k c) x)) g.states.count x ∙ by (nat_lt x g.states.count) refl
        where
          by : (t : Bool) → nat_lt x g.states.count ≡ t → (t && not (has (aim_at g k c) x)) ≡ (t && promise_at g n c.back (kept_at c.split k.state) e x)
          by false t = refl
          by true t =
              ap not (has_set (is_lost_after g k c) g.states.count x ∙ ap (λ b. b && is_lost_after g k c x) t ∙ lost_after_is x (ltb-true x g.states.count t))
              ∙ twice (promise_at g n c.back (kept_at c.split k.state) e x)
            where
              twice : (b : Bool) → not (not b) ≡ b
              twice true = refl
              twice false = refl

      pub callee_lower : Lower (below g k (g.entry c.function) k.state (aim_at g k c))
      callee_lower =
          let th = routed.called k.pos c es in
          let h = sym (holds_call g functions routed (Holds g n) k.pos k.state (has e) c es) ∙ fails in
          lower c.function (g.entry c.function) k.state (aim_at g k c) th.below (omega arith, th.begins) is.state
          (of_call (context is.function e) n k.pos k.state (others g (aim_at g k c)) c is.needed is.of is.state es aim_promises)
          (set_within (is_lost_after g k c) g.states.count)
          (holds_same g functions routed n (g.entry c.function) k.state (has (others g (aim_at g k c))) (promise_at g n c.back (kept_at c.split k.state) e) is.state
          (λ x s. member_is g (others g (aim_at g k c)) (promise_at g n c.back (kept_at c.split k.state) e) aim_promises x s) ∙ h)

      pub back_lower : (x : ℕ) → IsState g x → is_lost_after g k c x ≡ true → Lower (after_return g k c x)
      back_lower x s t =
          lower is.function c.back (returned g.states (kept_at c.split k.state) x) k.aim is.there back_of_call (return_at x s) is.needed is.aim
          (lowest.lost_by g functions routed c.back (returned g.states (kept_at c.split k.state) x) e (return_at x s) n (ltb-true 0 _ t))

      pub backs_lower : (b : ℕ × Key) → Contains (backs_at g k c) b → (b.0 < g.states.count) × (is_lost_after g k c b.0 ≡ true) × (b.1 ≡ after_return g k c b.0) × Lower b.1
      backs_lower b i =
          let m = from_kept (back_at g k c) (range_with_len 0 g.states.count) b i in
          let s = in_range g.states.count m.0 m.1 in
          by m.0 s (is_lost_after g k c m.0) refl m.2
        where
          Is : ℕ × Key → Type 0
          Is b = (b.0 < g.states.count) × (is_lost_after g k c b.0 ≡ true) × (b.1 ≡ after_return g k c b.0) × Lower b.1

          by : (x : ℕ) → x < g.states.count → (t : Bool) → is_lost_after g k c x ≡ t → cond t (Some (x, after_return g k c x)) None ≡ Some b → Is b
          by x s true t e = subst Is (same_Some (x, after_return g k c x) b e) (s, t, refl, back_lower x s t)
          by x s false t e = absurd (none-some b e)

      pub into_lower : (b : Key) → Contains (keys_in (Into (below g k (g.entry c.function) k.state (aim_at g k c)) (backs_at g k c))) b → Lower b
      into_lower b i = elim (in_either (below g k (g.entry c.function) k.state (aim_at g k c)) (map (λ b. b.1) (backs_at g k c)) b i) [
        | inl s ↦ subst Lower s callee_lower
        | inr d ↦ let m = from_mapped (λ (b : ℕ × Key). b.1) (backs_at g k c) b d in subst Lower m.2 (backs_lower m.0 m.1).3
      ]

    goes_lower : (o : Option Way) → best g k moves ≡ o → (b : Key) → Contains (keys_in (goes o)) b → Lower b
    goes_lower None e b i = absurd (contains_none b i)
    goes_lower (Some w) e b i = elim (in_either w.to [] b i) [
      | inl s ↦ subst Lower s (taken_at w (best_taken moves w e)).0
      | inr d ↦ absurd (contains_none b d)
    ]

    inner_lower : (s : Option Spot) → slice_get g.spots k.pos ≡ s → (b : Key) → Contains (keys_in (inner g k s)) b → Lower b
    inner_lower (Some (Visit j i a)) es b c =
        let v = visit_lower j i a es in
        let skip = below g k (k.pos + 2) k.state k.aim in
        let tried = below g k (k.pos + 1) k.state k.aim in
        elim (in_either skip (tried ∷ []) b c) [
          | inl s ↦ subst Lower s v.0
          | inr d ↦ elim (in_either tried [] b d) [
            | inl s ↦ subst Lower s v.1
            | inr f ↦ absurd (contains_none b f)
          ]
        ]
    inner_lower (Some (Exit f)) es b c = absurd (contains_none b c)
    inner_lower None es b c = goes_lower (best g k moves) refl b c
    inner_lower (Some (Asked j i a)) es b c = goes_lower (best g k moves) refl b c
    inner_lower (Some (Step m)) es b c = goes_lower (best g k moves) refl b c
    inner_lower (Some (Branch l m)) es b c = goes_lower (best g k moves) refl b c
    inner_lower (Some (Label j l m)) es b c = goes_lower (best g k moves) refl b c
    inner_lower (Some (Open j d m)) es b c = goes_lower (best g k moves) refl b c
    inner_lower (Some (Close j d m)) es b c = goes_lower (best g k moves) refl b c
    inner_lower (Some (Call j f m)) es b c = goes_lower (best g k moves) refl b c
    inner_lower (Some (SplitCall j f m)) es b c = goes_lower (best g k moves) refl b c

    -- what is named is lower
    pub named_lower : (b : Key) → Contains (named g k) b → Lower b
    named_lower b c = by (call_in (slice_get g.spots k.pos)) refl c
      where
        by : (o : Option Called) → call_in (slice_get g.spots k.pos) ≡ o → Contains (keys_in (act_in g k (slice_get g.spots k.pos) o)) b → Lower b
        by None e c = inner_lower (slice_get g.spots k.pos) refl b c
        by (Some call) e c = into_lower call e b c

-- all that the start names are keys
module _ (g : Game) (functions : ℕ) (routed : AreRouted g functions) where
  pub all_keys : (k b : Key) → IsKey g functions k → Leads (named g) k b → IsKey g functions b
  all_keys k b is (here c) = is
  all_keys k b is (on a c d i l) = all_keys c d (named_lower g functions routed k is c i).0 l

  pub reached_keys : (k b : Key) → IsKey g functions k → Reached (named g) (k ∷ []) b → IsKey g functions b
  reached_keys k b is (first c i) = elim (in_either k [] b i) [
    | inl s ↦ subst (IsKey g functions) s is
    | inr d ↦ absurd (contains_none b d)
  ]
  reached_keys k b is (then a c r i) = (named_lower g functions routed a (reached_keys k a is r) c i).0

  pub start_is : (h : ℕ) → IsState g g.states.start → IsHeight g (g.entry g.main) g.states.start (all_states g) h → IsKey g functions (start_key g h)
  start_is h s is = record {
    function = g.main;
    there = routed.main.below;
    of = (omega arith, routed.main.begins);
    state = s;
    needed = subst (λ e. IsNeeded g (context g.main e)) (sym (none_aimed g)) of_main;
    height = subst (λ e. IsHeight g (g.entry g.main) g.states.start e h) (sym (none_aimed g)) is;
    aim = one_or_more g.states.count;
  }
    where
      one_or_more : (n : ℕ) → 0 < 2 ^ n
      one_or_more zero = omega arith
      one_or_more (suc n) = let h = one_or_more n in omega (arith, h)
