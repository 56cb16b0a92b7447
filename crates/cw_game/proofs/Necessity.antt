-- A pair that is lost under a promise is forced, over every list of returns from which the exit states outside the promise are forced.
use Rattle.std.proofs.Common.{◌≡◌, ◌⊎◌, ℕ, zero, suc, ◌+◌, ◌<◌, List, [], ◌∷◌, Bool, true, false, cond, not, ◌&&◌, ◌||◌, Option, Some, None, nat_eq, refl, sym, ap, ◌∙◌, subst, inl, inr, ⊎_elim, arith}
use Rattle.std.specs.Prelude.{slice_get}
use Rattle.std.proofs.lemmas.Option.{none-some, same_Some}
use Rattle.cw_rights.specs.declared.capabilities.Primitive.{Primitive}
use Rattle.cw_rights.specs.declared.capabilities.Primitive.TheVariants.{Split}
use Rattle.cw_certs.specs.declared.moves.Move.{Move}
use Rattle.cw_certs.specs.declared.moves.Move.TheVariants.{Skip, Try, Grant, Refuse, On, Left, Right, Opened, Failed}
use Rattle.cw_game.specs.declared.spots.Spot.{Spot}
use Rattle.cw_game.specs.declared.spots.Spot.TheVariants.{Visit, Asked, Step, Branch, Label, Open, Close, Call, SplitCall, Exit}
use Rattle.cw_game.specs.Games.{Game, refuses_in, returned, Ret, Config, at_pair, leads_in, bad_in, weavers_in, Promise, holds_in, Holds, IsLost, leads_to, ForcedAt}
use Rattle.cw_game.specs.Necessity.{LeavesOutLost}
use Rattle.std.proofs.lemmas.Bool.{and_cases as either_false, or_parts as both_false}

-- where the choice is there, and what it leads to doesn't hold
chosen : (yes b : Bool) → (not yes || b) ≡ false → (yes ≡ true) × (b ≡ false)
chosen true b h = (refl, h)
chosen false b h = cc

-- the word is bad, or what follows doesn't hold
worse : (bad b : Bool) → (not bad && b) ≡ false → (bad ≡ true) ⊎ ((bad ≡ false) × (b ≡ false))
worse true b h = inl refl
worse false b h = inr (refl, h)

-- Such configurations lead to such ones, but where a letter is bad.
abbrev pub GoesOn : Game → (Config → Type 0) → Type 0
GoesOn g IsSuch = (c next : Config) (by : Move) → IsSuch c → bad_in g c.state (slice_get g.spots c.pos) ≡ false → leads_to g c by ≡ Some next → IsSuch next

-- within some number of moves
abbrev pub Eventually : Game → Config → Type 0
Eventually g c = (n : ℕ) × ForcedAt g n c

module _ (g : Game) where
  -- more moves do no harm
  forced_more : (n : ℕ) (c : Config) → ForcedAt g n c → ForcedAt g (suc n) c
  forced_more zero c h = inl h
  forced_more (suc n) c h =
      ⊎_elim (λ b. inl b) (λ r. ⊎_elim
      (λ w. inr (inl (w.0, λ by next e. forced_more n next (w.1 by next e))))
      (λ w. inr (inr (w.0, (w.1.0, w.1.1, w.1.2, forced_more n w.1.1 w.1.3)))) r) h

  pub forced_by : (k n : ℕ) (c : Config) → ForcedAt g n c → ForcedAt g (k + n) c
  forced_by zero n c h = let e : 0 + n ≡ n = omega arith in rw e h
  forced_by (suc k) n c h = let e : suc k + n ≡ suc (k + n) = omega arith in rw e (forced_more (k + n) c (forced_by k n c h))

module _ (g : Game) (IsSuch : Config → Type 0) where
  -- some such configuration ends with this state over these returns
  abbrev pub EndsIn : List Ret → ℕ → Type 0
  EndsIn rets x = (p : ℕ) × (f : ℕ) × (slice_get g.spots p ≡ Some (Exit f)) × IsSuch (at_pair p x rets)

  -- and its return is forced
  abbrev pub After : List Ret → ℕ → Type 0
  After [] x = ⊥
  After (r ∷ rets) x = Eventually g (at_pair r.back (returned g.states r.kept x) rets)

  -- Each exit state outside the promise is forced at the return.
  abbrev pub Owed : Promise → List Ret → Type 0
  Owed e rets = (x : ℕ) → EndsIn rets x → e x ≡ false → After rets x

module _ (g : Game) (IsSuch : Config → Type 0) (onward : GoesOn g IsSuch) where
  goes : (p q : ℕ) (rets : List Ret) (o : Option Spot) (by : Move) (next : Config) → slice_get g.spots p ≡ o → bad_in g q o ≡ false → leads_in g p q rets o by ≡ Some next
      → IsSuch (at_pair p q rets) → IsSuch next
  goes p q rets o by next es fine e such = onward (at_pair p q rets) next by such (ap (bad_in g q) es ∙ fine) (ap (λ s. leads_in g p q rets s by) es ∙ e)

  -- the environment moves
  moves : (p q : ℕ) (rets : List Ret) (o : Option Spot) (by : Move) (next : Config) → slice_get g.spots p ≡ o → bad_in g q o ≡ false → weavers_in o ≡ false
      → leads_in g p q rets o by ≡ Some next → IsSuch (at_pair p q rets) → (IsSuch next → Eventually g next) → Eventually g (at_pair p q rets)
  moves p q rets o by next es fine turn e such then =
      let k = then (goes p q rets o by next es fine e such) in
      (suc k.0, inr (inr (ap weavers_in es ∙ turn, (by, next, ap (λ s. leads_in g p q rets s by) es ∙ e, k.1))))

  -- both moves of the weaver
  two_ways : (p q j i : ℕ) (a : Primitive) (rets : List Ret) → slice_get g.spots p ≡ Some (Visit j i a) → Eventually g (at_pair (p + 2) q rets) → Eventually g (at_pair (p + 1) q rets)
      → Eventually g (at_pair p q rets)
  two_ways p q j i a rets es s t = (suc (t.0 + s.0), inr (inl (ap weavers_in es, λ by next e. case by next (sym (ap (λ o. leads_in g p q rets o by) es) ∙ e))))
    where
      skip : ForcedAt g (t.0 + s.0) (at_pair (p + 2) q rets)
      skip = forced_by g t.0 s.0 (at_pair (p + 2) q rets) s.1

      tried : ForcedAt g (t.0 + s.0) (at_pair (p + 1) q rets)
      tried = let e : t.0 + s.0 ≡ s.0 + t.0 = omega arith in rw e (forced_by g s.0 t.0 (at_pair (p + 1) q rets) t.1)

      case : (by : Move) (next : Config) → leads_in g p q rets (Some (Visit j i a)) by ≡ Some next → ForcedAt g (t.0 + s.0) next
      case Skip next e = subst (λ c. ForcedAt g (t.0 + s.0) c) (same_Some (at_pair (p + 2) q rets) next e) skip
      case Try next e = subst (λ c. ForcedAt g (t.0 + s.0) c) (same_Some (at_pair (p + 1) q rets) next e) tried
      case _ next e = absurd (none-some next e)

  exits : (p q f : ℕ) (rets : List Ret) → slice_get g.spots p ≡ Some (Exit f) → IsSuch (at_pair p q rets) → After g IsSuch rets q → Eventually g (at_pair p q rets)
  exits p q f [] es such k = absurd k
  exits p q f (r ∷ rets) es such k = moves p q (r ∷ rets) (Some (Exit f)) On (at_pair r.back (returned g.states r.kept q) rets) es refl refl refl such (λ y. k)

  abbrev Here : (ℕ → ℕ → Promise → Bool) → Type 0
  Here h = (p q : ℕ) (e : Promise) (rets : List Ret) → IsSuch (at_pair p q rets) → Owed g IsSuch e rets → h p q e ≡ false → Eventually g (at_pair p q rets)

  -- what is owed below a call
  returns : (h : ℕ → ℕ → Promise → Bool) → Here h → (n : ℕ) (kept : Option ℕ) (e : Promise) (rets : List Ret) → Owed g IsSuch e rets
      → Owed g IsSuch (λ x. h n (returned g.states kept x) e) (record { back = n; kept = kept } ∷ rets)
  returns h to n kept e rets owed x ends k =
      to n (returned g.states kept x) e rets (goes ends.0 x (record { back = n; kept = kept } ∷ rets) (Some (Exit ends.1)) On (at_pair n (returned g.states kept x) rets) ends.2 refl refl
      ends.3) owed k

  forced_in : (h : ℕ → ℕ → Promise → Bool) → Here h → (p q : ℕ) (e : Promise) (rets : List Ret) → IsSuch (at_pair p q rets) → Owed g IsSuch e rets → (o : Option Spot)
      → slice_get g.spots p ≡ o → holds_in g h p q e o ≡ false → Eventually g (at_pair p q rets)
  forced_in h to p q e rets such owed None es k = cc
  forced_in h to p q e rets such owed (Some (Visit j i a)) es k =
      let z = both_false (h (p + 2) q e) (h (p + 1) q e) k in
      let s = goes p q rets (Some (Visit j i a)) Skip (at_pair (p + 2) q rets) es refl refl such in
      let t = goes p q rets (Some (Visit j i a)) Try (at_pair (p + 1) q rets) es refl refl such in
      two_ways p q j i a rets es (to (p + 2) q e rets s owed z.0) (to (p + 1) q e rets t owed z.1)
  forced_in h to p q e rets such owed (Some (Asked j i Split)) es k =
      ⊎_elim
      (λ z.
      let y = chosen (g.states.may_grant q Split) (h (p + 2) q e) z in
      moves p q rets (Some (Asked j i Split)) Grant (at_pair (p + 2) q rets) es refl refl (ap (λ t. cond t (Some (at_pair (p + 2) q rets)) None) y.0) such (λ s. to (p + 2) q e rets s owed y.1))
      (λ z.
      let y = chosen (refuses_in g q Split) (h (p + 1) q e) z in
      moves p q rets (Some (Asked j i Split)) Refuse (at_pair (p + 1) q rets) es refl refl (ap (λ t. cond t (Some (at_pair (p + 1) q rets)) None) y.0) such (λ s. to (p + 1) q e rets s owed y.1))
      (either_false (not (g.states.may_grant q Split) || h (p + 2) q e) (not (refuses_in g q Split) || h (p + 1) q e) k)
  forced_in h to p q e rets such owed (Some (Asked j i a)) es k =
      ⊎_elim
      (λ z.
      let y = chosen (g.states.may_grant q a) (h (p + 1) (g.states.granted q a) e) z in
      moves p q rets (Some (Asked j i a)) Grant (at_pair (p + 1) (g.states.granted q a) rets) es refl refl (ap (λ t. cond t (Some (at_pair (p + 1) (g.states.granted q a) rets)) None) y.0)
      such (λ s. to (p + 1) (g.states.granted q a) e rets s owed y.1))
      (λ z.
      let y = chosen (refuses_in g q a) (h (p + 1) q e) z in
      moves p q rets (Some (Asked j i a)) Refuse (at_pair (p + 1) q rets) es refl refl (ap (λ t. cond t (Some (at_pair (p + 1) q rets)) None) y.0) such (λ s. to (p + 1) q e rets s owed y.1))
      (either_false (not (g.states.may_grant q a) || h (p + 1) (g.states.granted q a) e) (not (refuses_in g q a) || h (p + 1) q e) k)
  forced_in h to p q e rets such owed (Some (Step n)) es k =
      moves p q rets (Some (Step n)) On (at_pair n q rets) es refl refl refl such (λ s. to n q e rets s owed k)
  forced_in h to p q e rets such owed (Some (Branch m n)) es k =
      ⊎_elim
      (λ z. moves p q rets (Some (Branch m n)) Left (at_pair m q rets) es refl refl refl such (λ s. to m q e rets s owed z))
      (λ z. moves p q rets (Some (Branch m n)) Right (at_pair n q rets) es refl refl refl such (λ s. to n q e rets s owed z))
      (either_false (h m q e) (h n q e) k)
  forced_in h to p q e rets such owed (Some (Label j l n)) es k =
      ⊎_elim
      (λ z. (0, ap (bad_in g q) es ∙ z))
      (λ z. moves p q rets (Some (Label j l n)) On (at_pair n (g.states.lettered q l) rets) es z.0 refl refl such (λ s. to n (g.states.lettered q l) e rets s owed z.1))
      (worse (g.states.bad q l) (h n (g.states.lettered q l) e) k)
  forced_in h to p q e rets such owed (Some (Open j d n)) es k =
      ⊎_elim
      (λ z. moves p q rets (Some (Open j d n)) Opened (at_pair n (g.states.opened q d) rets) es refl refl refl such (λ s. to n (g.states.opened q d) e rets s owed z))
      (λ z. moves p q rets (Some (Open j d n)) Failed (at_pair n (g.states.closed q d) rets) es refl refl refl such (λ s. to n (g.states.closed q d) e rets s owed z))
      (either_false (h n (g.states.opened q d) e) (h n (g.states.closed q d) e) k)
  forced_in h to p q e rets such owed (Some (Close j d n)) es k =
      moves p q rets (Some (Close j d n)) On (at_pair n (g.states.closed q d) rets) es refl refl refl such (λ s. to n (g.states.closed q d) e rets s owed k)
  forced_in h to p q e rets such owed (Some (Call j f n)) es k =
      let r : Ret = record { back = n; kept = None } in
      moves p q rets (Some (Call j f n)) On (at_pair (g.entry f) q (r ∷ rets)) es refl refl refl such (λ s. to (g.entry f) q (λ x. h n x e) (r ∷ rets) s (returns h to n None e rets owed) k)
  forced_in h to p q e rets such owed (Some (SplitCall j f n)) es k =
      let r : Ret = record { back = n; kept = Some q } in
      moves p q rets (Some (SplitCall j f n)) On (at_pair (g.entry f) q (r ∷ rets)) es refl refl refl such
      (λ s. to (g.entry f) q (λ x. h n (g.states.with_rights x q) e) (r ∷ rets) s (returns h to n (Some q) e rets owed) k)
  forced_in h to p q e rets such owed (Some (Exit f)) es k =
      exits p q f rets es such (owed q (p, f, es, such) (both_false (nat_eq f g.main) (e q) k).1)

  -- by one induction on the number of moves, over all lists of returns at once
  pub lost_forced : (n p q : ℕ) (e : Promise) (rets : List Ret) → IsSuch (at_pair p q rets) → Owed g IsSuch e rets → Holds g n p q e ≡ false → Eventually g (at_pair p q rets)
  lost_forced zero p q e rets such owed k = cc
  lost_forced (suc n) p q e rets such owed k =
      forced_in (Holds g n) (λ p q e rets such owed k. lost_forced n p q e rets such owed k) p q e rets such owed (slice_get g.spots p) refl k

  pub is_forced : (p q : ℕ) (e : Promise) (rets : List Ret) → IsSuch (at_pair p q rets) → Owed g IsSuch e rets → IsLost g p q e → Eventually g (at_pair p q rets)
  is_forced p q e rets such owed l = lost_forced l.0 p q e rets such owed l.1

  -- A call hands down what is owed, where the callee's promise leaves out only states from which the return is lost.
  pub call_owed : ((c : Config) → IsSuch c → c.state < g.states.count) → (n : ℕ) (kept : Option ℕ) (e promised : Promise) (rets : List Ret) → Owed g IsSuch e rets
      → LeavesOutLost g promised n kept e → Owed g IsSuch promised (record { back = n; kept = kept } ∷ rets)
  call_owed below n kept e promised rets owed full x ends z =
      let ret : Ret = record { back = n; kept = kept } in
      let l = full x (below (at_pair ends.0 x (ret ∷ rets)) ends.3) z in
      let such = goes ends.0 x (ret ∷ rets) (Some (Exit ends.1)) On (at_pair n (returned g.states kept x) rets) ends.2 refl refl ends.3 in
      is_forced n (returned g.states kept x) e rets such owed l

  -- where all states are promised nothing is owed
  pub all_owed : ((c : Config) → IsSuch c → c.state < g.states.count) → (e : Promise) → ((x : ℕ) → x < g.states.count → e x ≡ true) → (rets : List Ret) → Owed g IsSuch e rets
  all_owed below e all rets x ends z = let w : true ≡ false = sym (all x (below (at_pair ends.0 x rets) ends.3)) ∙ z in cc
