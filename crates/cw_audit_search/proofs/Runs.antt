-- Runs are composed: one behind the other, and over more returns.
use Rattle.std.proofs.Common.{◌≡◌, ℕ, ◌+◌, List, [], ◌∷◌, ◌++◌, true, false, Option, Some, None, length, refl, sym, ap, ◌∙◌, subst, arith, append-nil, append_assoc}
use Rattle.std.proofs.Common.{length-append}
use Rattle.std.specs.Prelude.{slice_get}
use Rattle.std.proofs.lemmas.Option.{none-some, same_Some}
use Rattle.cw_certs.specs.declared.moves.Move.{Move}
use Rattle.cw_certs.specs.declared.moves.Move.TheVariants.{Skip, On, Left, Right, Opened, Failed}
use Rattle.cw_game.specs.declared.spots.Spot.{Spot}
use Rattle.cw_game.specs.declared.spots.Spot.TheVariants.{Visit, Step, Branch, Label, Open, Close, Call, SplitCall, Exit}
use Rattle.cw_game.specs.Games.{Game, Ret, Config, at_pair, leads_in, leads_to, bad_in}
use Rattle.cw_audit_table.specs.Runs.{is_step, skipped, Goes, here, skips, goes, start_at, IsEntered, at_start, by_call, IsWithin, IsHit}
use Rattle.cw_audit_table.specs.Conditions.{is_inner}
use Rattle.cw_audit_table.proofs.Skips.{rests, come}
use Rattle.cw_audit_table.proofs.Bounds.{inner_leads}
use Rattle.cw_audit_search.specs.Sound.{IsRun}

abbrev pub over : List Ret → Config → Config
over more c = at_pair c.pos c.state (c.rets ++ more)

-- what leads on leads on over more returns
pub lead_over : (g : Game) (p q : ℕ) (rets more : List Ret) (spot : Option Spot) (by : Move) (e : Config) → is_step by ≡ true → leads_in g p q rets spot by ≡ Some e
    → leads_in g p q (rets ++ more) spot by ≡ Some (over more e)
lead_over g p q rets more (Some (Step n)) On e s h = ap (λ (c : Config). Some (over more c)) (same_Some _ e h)
lead_over g p q rets more (Some (Branch m n)) Left e s h = ap (λ (c : Config). Some (over more c)) (same_Some _ e h)
lead_over g p q rets more (Some (Branch m n)) Right e s h = ap (λ (c : Config). Some (over more c)) (same_Some _ e h)
lead_over g p q rets more (Some (Label j l n)) On e s h = ap (λ (c : Config). Some (over more c)) (same_Some _ e h)
lead_over g p q rets more (Some (Open j d n)) Opened e s h = ap (λ (c : Config). Some (over more c)) (same_Some _ e h)
lead_over g p q rets more (Some (Open j d n)) Failed e s h = ap (λ (c : Config). Some (over more c)) (same_Some _ e h)
lead_over g p q rets more (Some (Close j d n)) On e s h = ap (λ (c : Config). Some (over more c)) (same_Some _ e h)
lead_over g p q rets more (Some (Call j f k)) On e s h = ap (λ (c : Config). Some (over more c)) (same_Some _ e h)
lead_over g p q rets more (Some (SplitCall j f k)) On e s h = ap (λ (c : Config). Some (over more c)) (same_Some _ e h)
lead_over g p q [] more (Some (Exit f)) On e s h = absurd (none-some e h)
lead_over g p q (r ∷ rets) more (Some (Exit f)) On e s h = ap (λ (c : Config). Some (over more c)) (same_Some _ e h)
lead_over g p q [] more (Some (Exit f)) by e s h = absurd (none-some e h)
lead_over g p q (r ∷ rets) more (Some (Exit f)) Left e s h = absurd (none-some e h)
lead_over g p q (r ∷ rets) more (Some (Exit f)) Right e s h = absurd (none-some e h)
lead_over g p q (r ∷ rets) more (Some (Exit f)) Opened e s h = absurd (none-some e h)
lead_over g p q (r ∷ rets) more (Some (Exit f)) Failed e s h = absurd (none-some e h)
lead_over g p q rets more spot On e s h = absurd (none-some e h)
lead_over g p q rets more spot Left e s h = absurd (none-some e h)
lead_over g p q rets more spot Right e s h = absurd (none-some e h)
lead_over g p q rets more spot Opened e s h = absurd (none-some e h)
lead_over g p q rets more spot Failed e s h = absurd (none-some e h)
lead_over g p q rets more spot _ e s h = cc

visit_over : (g : Game) (p q : ℕ) (rets more : List Ret) (spot : Option Spot) (e : Config) → leads_in g p q rets spot Skip ≡ Some e
    → leads_in g p q (rets ++ more) spot Skip ≡ Some (over more e)
visit_over g p q rets more (Some (Visit j i a)) e h = ap (λ (c : Config). Some (over more c)) (same_Some _ e h)
visit_over g p q [] more (Some (Exit f)) e h = absurd (none-some e h)
visit_over g p q (r ∷ rets) more (Some (Exit f)) e h = absurd (none-some e h)
visit_over g p q rets more spot e h = absurd (none-some e h)

module _ (g : Game) where
  -- one run behind the other
  pub followed : (c d e : Config) (ms ns : List Move) → Goes g c ms d → Goes g d ns e → Goes g c (ms ++ ns) e
  followed c d _ ms [] h here = subst (λ l. Goes g c l d) (sym (append-nil ms)) h
  followed c d e ms ns h (skips _ x _ k l) = skips (ms ++ ns) x e (followed c d x ms ns h k) l
  followed c d e ms _ h (goes ns x _ by k good step l) =
      subst (λ l. Goes g c l e) (append_assoc ms ns (by ∷ [])) (goes (ms ++ ns) x e by (followed c d x ms ns h k) good step l)

  -- a run over more returns
  pub deeper : (more : List Ret) (c d : Config) (ms : List Move) → Goes g c ms d → Goes g (over more c) ms (over more d)
  deeper more c _ [] here = here
  deeper more c e ms (skips _ x _ k l) = skips ms (over more x) (over more e) (deeper more c x ms k) (visit_over g x.pos x.state x.rets more (slice_get g.spots x.pos) e l)
  deeper more c e _ (goes ns x _ by k good step l) =
      goes ns (over more x) (over more e) by (deeper more c x ns k) good step (lead_over g x.pos x.state x.rets more (slice_get g.spots x.pos) by e step l)

  -- a move more
  pub one_more : (c d e : Config) (ms : List Move) (n : ℕ) (by : Move) → length ms ≡ n → Goes g c ms d → bad_in g d.state (slice_get g.spots d.pos) ≡ false → is_step by ≡ true
      → leads_to g d by ≡ Some e → (ns : List Move) × (length ns ≡ n + 1) × Goes g c ns e
  one_more c d e ms n by many h good step l = (ms ++ by ∷ [], length-append ms (by ∷ []) ∙ omega (arith, many), goes ms d e by h good step l)

  pub entry_run : (f q : ℕ) → IsRun g f q (g.entry f) q 0
  entry_run f q = ([], refl, here)

  -- a move within the function
  pub move_run : (f q p x n : ℕ) (by : Move) (c : Config) → IsWithin g f q p x n → is_inner (slice_get g.spots p) ≡ true → is_step by ≡ true
      → leads_in g p x [] (slice_get g.spots p) by ≡ Some c → IsRun g f q c.pos c.state (n + 1)
  move_run f q p x n by c w inner step l =
      one_more (at_pair (g.entry f) q []) (at_pair p x []) (at_pair c.pos c.state []) w.0 n by w.1 w.2 w.4 step (inner_leads g p x [] (slice_get g.spots p) by c inner l).0

  -- a call, the run of what is called, and the return
  pub return_run : (f q p x n j h k y m i : ℕ) → IsWithin g f q p x n → slice_get g.spots p ≡ Some (Call j h k) → IsWithin g h x (g.exit h) y m
      → slice_get g.spots (g.exit h) ≡ Some (Exit i) → IsRun g f q k y (n + m + 2)
  return_run f q p x n j h k y m i w call v exit =
      let ret : Ret = record { back = k; kept = None } in
      let a = one_more (at_pair (g.entry f) q []) (at_pair p x []) (at_pair (g.entry h) x (ret ∷ [])) w.0 n On w.1 w.2 w.4 refl (ap (λ o. leads_in g p x [] o On) call) in
      let b = followed (at_pair (g.entry f) q []) (at_pair (g.entry h) x (ret ∷ [])) (at_pair (g.exit h) y (ret ∷ [])) a.0 v.0 a.2
      (deeper (ret ∷ []) (at_pair (g.entry h) x []) (at_pair (g.exit h) y []) v.0 v.2) in
      let many : length (a.0 ++ v.0) ≡ n + 1 + m = omega (arith, length-append a.0 v.0, a.1, v.1) in
      let c = one_more (at_pair (g.entry f) q []) (at_pair (g.exit h) y (ret ∷ [])) (at_pair k y []) (a.0 ++ v.0) (n + 1 + m) On many b v.4 refl
      (ap (λ o. leads_in g (g.exit h) y (ret ∷ []) o On) exit) in
      (c.0, omega (arith, c.1), c.2)

  -- behind the skips a run is within its activation
  pub within_run : (f q p x n : ℕ) → IsRun g f q p x n → bad_in g x (slice_get g.spots (skipped g p)) ≡ false → IsWithin g f q (skipped g p) x n
  within_run f q p x n r good = (r.0, r.1, come g p x [] (at_pair (g.entry f) q []) r.0 r.2, rests g p, good)

  -- what enters a function, with the returns that wait
  pub entered_run : (f q n : ℕ) → IsEntered g f q n → (rets : List Ret) × (ms : List Move) × (length ms ≡ n) × Goes g (start_at g) ms (at_pair (g.entry f) q rets)
  entered_run f q n at_start = ([], [], refl, here)
  entered_run f q n (by_call ms c j _ k h e) =
      let l : leads_to g c On ≡ Some (at_pair (g.entry f) c.state (record { back = k; kept = None } ∷ c.rets)) = ap (λ o. leads_in g c.pos c.state c.rets o On) e in
      let z = one_more (start_at g) c (at_pair (g.entry f) c.state (record { back = k; kept = None } ∷ c.rets)) ms (length ms) On refl h (ap (bad_in g c.state) e) refl l in
      (record { back = k; kept = None } ∷ c.rets, z.0, z.1, z.2)

  -- from the start through an activation
  pub through : (f q p x n m : ℕ) → IsEntered g f q n → IsRun g f q p x m → (rets : List Ret) × (ms : List Move) × (length ms ≡ n + m) × Goes g (start_at g) ms (at_pair p x rets)
  through f q p x n m e r =
      let a = entered_run f q n e in
      let b = followed (start_at g) (at_pair (g.entry f) q a.0) (at_pair p x a.0) a.1 r.0 a.3 (deeper a.0 (at_pair (g.entry f) q []) (at_pair p x []) r.0 r.2) in
      (a.0, a.1 ++ r.0, omega (arith, length-append a.1 r.0, a.2, r.1), b)

  pub run_of : (f q p x n : ℕ) → IsWithin g f q p x n → IsRun g f q p x n
  run_of f q p x n w = (w.0, w.1, w.2)

  -- a call enters by one move more
  pub call_enters : (f q p x n m j h k : ℕ) → IsEntered g f q n → IsWithin g f q p x m → slice_get g.spots p ≡ Some (Call j h k) → IsEntered g h x (n + m + 1)
  call_enters f q p x n m j h k e w call =
      let z = through f q p x n m e (run_of f q p x m w) in
      subst (λ i. IsEntered g h x (i + 1)) z.2 (by_call z.1 (at_pair p x z.0) j h k z.3 call)

  -- a run whose pair behind the skips is bad
  pub run_hits : (f q p x n m : ℕ) → IsEntered g f q n → IsRun g f q p x m → bad_in g x (slice_get g.spots (skipped g p)) ≡ true → IsHit g (n + m)
  run_hits f q p x n m e r bad =
      let z = through f q p x n m e r in
      (z.1, z.2, (at_pair (skipped g p) x z.0, come g p x z.0 (start_at g) z.1 z.3, bad))
