-- A run that is walked move by move is the one run there is with these moves.
use Rattle.std.specs.Prelude.{IsTrue}
use Rattle.std.proofs.Common.{◌≡◌, ℕ, zero, suc, ◌+◌, ◌<◌, take, drop, get_or, arith, List, [], ◌∷◌, ◌++◌, Bool, true, false, cond, not, ◌||◌, Some, None}
use Rattle.std.proofs.Common.{option_map, length, refl, sym, ap, ◌∙◌, subst, ◌⊎◌, inl, inr, ⊎_elim}
use Rattle.std.specs.Prelude.{slice_get}
use Rattle.std.proofs.lemmas.Option.{none-some, same_Some}
use Rattle.std.proofs.lemmas.List.{same_from_push}
use Rattle.cw_lemmas.proofs.Options.{option_map_some}
use Rattle.cw_certs.specs.declared.moves.Move.{Move}
use Rattle.cw_certs.specs.declared.moves.Move.TheVariants.{Skip}
use Rattle.cw_game.specs.Games.{Game, Ret, Config, at_pair, leads_to}
use Rattle.cw_game.specs.Linked.{is_bad_at}
use Rattle.cw_audit_table.specs.Runs.{is_step, Goes, here, skips, goes, start_at}
use Rattle.cw_audit_table.specs.Tables.{Audit}
use Rattle.cw_audit_table.specs.Conditions.{IsShown}
use Rattle.cw_audit_table.proofs.Skips.{stays, skip_on, skip_leads, come}
use Rattle.cw_audit_table.proofs.Bounds.{visit_stays, bad_stays}
use Rattle.cw_audit_check.specs.Walks.{rested, stepped, Went}

-- where a step leads somewhere the pair isn't bad, and the move is the program's
pub step_parts : (g : Game) (c e : Config) (by : Move) → stepped g c by ≡ Some e → (is_bad_at g c ≡ false) × (is_step by ≡ true) × (leads_to g c by ≡ Some e)
step_parts g c e by h = cases (is_bad_at g c) (is_step by) refl refl h
  where
    cases : (bad step : Bool) → is_bad_at g c ≡ bad → is_step by ≡ step → cond (bad || not step) None (leads_to g c by) ≡ Some e
        → (is_bad_at g c ≡ false) × (is_step by ≡ true) × (leads_to g c by ≡ Some e)
    cases true step eb es h = absurd (none-some e h)
    cases false false eb es h = absurd (none-some e h)
    cases false true eb es h = (eb, es, h)

pub step_made : (g : Game) (c e : Config) (by : Move) → is_bad_at g c ≡ false → is_step by ≡ true → leads_to g c by ≡ Some e → stepped g c by ≡ Some e
step_made g c e by good step l = ap (λ b. cond (b || not (is_step by)) None (leads_to g c by)) good ∙ ap (λ b. cond (not b) None (leads_to g c by)) step ∙ l

module _ (g : Game) where
  skip_rests : (d e : Config) → leads_to g d Skip ≡ Some e → rested g e ≡ rested g d
  skip_rests d e l =
      let s = skip_leads g (slice_get g.spots d.pos) d.pos d.state d.rets e l in
      subst (λ c. rested g c ≡ rested g d) s.1 (ap (λ p. at_pair p d.state d.rets) (skip_on g d.pos s.0))

  -- a pair with a step is at rest, and so is a bad one
  step_rests : (d e : Config) (by : Move) → is_step by ≡ true → leads_to g d by ≡ Some e → rested g d ≡ d
  step_rests d e by step l = ap (λ p. at_pair p d.state d.rets) (stays g d.pos (visit_stays g d.pos d.state d.rets (slice_get g.spots d.pos) by e step l))

  bad_rests : (d : Config) → is_bad_at g d ≡ true → rested g d ≡ d
  bad_rests d bad = ap (λ p. at_pair p d.state d.rets) (stays g d.pos (bad_stays g d.state (slice_get g.spots d.pos) bad))

  -- how a run ends: where it began, but for skips, or by a step
  abbrev Ended : Config → List Move → Config → Type 0
  Ended c ns x =
      ((ns ≡ []) × (rested g x ≡ rested g c))
      ⊎ ((ms : List Move) × (by : Move) × (d : Config) × (e : Config) × (ns ≡ ms ++ by ∷ []) × Goes g c ms d × (stepped g d by ≡ Some e) × (rested g x ≡ rested g e))

  ended : (c : Config) (ns : List Move) (x : Config) → Goes g c ns x → Ended c ns x
  ended c [] _ here = inl (refl, refl)
  ended c ns x (skips _ d _ h l) =
      let s = skip_rests d x l in
      ⊎_elim (λ y. inl (y.0, s ∙ y.1)) (λ y. inr (y.0, y.1, y.2, y.3, y.4, y.5, y.6, s ∙ y.7)) (ended c ns d h)
  ended c _ x (goes ms d _ by h good step l) = inr (ms, by, d, x, refl, h, step_made g d x by good step l, refl)

  snoc_not_nil : (ms : List Move) (by : Move) → ms ++ by ∷ [] ≡ [] → ⊥
  snoc_not_nil [] by e = cc
  snoc_not_nil (m ∷ ms) by e = cc

  -- a list is empty or has a last move
  abbrev LastOf : List Move → Type 0
  LastOf ns = (ns ≡ []) ⊎ ((ms : List Move) × (by : Move) × (ns ≡ ms ++ by ∷ []))

  last_of : (ns : List Move) → LastOf ns
  last_of [] = inl refl
  last_of (n ∷ ns) = ⊎_elim (λ e. inr ([], n, ap (λ l. n ∷ l) e)) (λ y. inr (n ∷ y.0, y.1, ap (λ l. n ∷ l) y.2)) (last_of ns)

  joined : (a b c : List Move) → (a ++ b) ++ c ≡ a ++ (b ++ c)
  joined [] b c = refl
  joined (m ∷ a) b c = ap (λ l. m ∷ l) (joined a b c)

  -- each front of a run's moves has a run
  front : (c : Config) (ns : List Move) (x : Config) → Goes g c ns x → (a b : List Move) → ns ≡ a ++ b → (y : Config) × Goes g c a y
  front c [] _ here [] b e = (c, here)
  front c [] _ here (m ∷ a) b e = cc
  front c ns x (skips _ d _ h l) a b e = front c ns d h a b e
  front c ns x (goes ms d _ by h good step l) a b e =
      ⊎_elim (λ z. (x, subst (λ k. Goes g c k x) (e ∙ ap (λ k. a ++ k) z ∙ append_nil a) (goes ms d x by h good step l)))
      (λ z. let s = same_from_push ms (a ++ z.0) by z.1 (e ∙ ap (λ k. a ++ k) z.2 ∙ sym (joined a z.0 (z.1 ∷ []))) in front c ms d h a z.0 s.0) (last_of b)
    where
      append_nil : (l : List Move) → l ++ [] ≡ l
      append_nil [] = refl
      append_nil (m ∷ l) = ap (λ k. m ∷ k) (append_nil l)

  -- These moves lead from the start to c, which is at rest, and nowhere else but for skips.
  pub record Walked (ms : List Move) (c : Config) : Type 0 where
    pub reached : Goes g (start_at g) ms c
    pub only : (d : Config) → Goes g (start_at g) ms d → rested g d ≡ c

  pub begin_walk : Walked [] (rested g (start_at g))
  begin_walk = record {
    reached = come g (g.entry g.main) g.states.start [] (start_at g) [] here;
    only = λ d h.
        ⊎_elim (λ y. y.1) (λ y. absurd (snoc_not_nil y.0 y.1 (sym y.4))) (ended (start_at g) [] d h);
  }

  -- where the moves lead there is a step
  only_step : (ms : List Move) (c d e : Config) (by : Move) → Walked ms c → Goes g (start_at g) ms d → stepped g d by ≡ Some e → stepped g c by ≡ Some e
  only_step ms c d e by w h s =
      let p = step_parts g d e by s in
      let same : d ≡ c = sym (step_rests d e by p.1 p.2) ∙ w.only d h in
      subst (λ x. stepped g x by ≡ Some e) same s

  pub walk_on : (ms : List Move) (c d : Config) (by : Move) → Walked ms c → option_map (rested g) (stepped g c by) ≡ Some d → Walked (ms ++ by ∷ []) d
  walk_on ms c d by w h =
      let m = option_map_some (rested g) (stepped g c by) d h in
      let p = step_parts g c m.0 by m.1 in
      record {
        reached = subst (λ x. Goes g (start_at g) (ms ++ by ∷ []) x) m.2
            (come g m.0.pos m.0.state m.0.rets (start_at g) (ms ++ by ∷ []) (goes ms c m.0 by w.reached p.0 p.1 p.2));
        only = λ x hx.
            ⊎_elim (λ y. absurd (snoc_not_nil ms by y.0))
            (λ y.
            let s = same_from_push ms y.0 by y.1 y.4 in
            let h2 = subst (λ k. Goes g (start_at g) k y.2) (sym s.0) y.5 in
            let s2 = subst (λ b. stepped g y.2 b ≡ Some y.3) (sym s.1) y.6 in
            let e2 = only_step ms c y.2 y.3 by w h2 s2 in
            y.7 ∙ ap (rested g) (same_Some y.3 m.0 (sym e2 ∙ m.1)) ∙ m.2) (ended (start_at g) (ms ++ by ∷ []) x hx);
      }

  -- where there is no step no run goes on with this move
  pub no_walk : (ms more : List Move) (c x : Config) (by : Move) → Walked ms c → stepped g c by ≡ None → Goes g (start_at g) ((ms ++ by ∷ []) ++ more) x → ⊥
  no_walk ms more c x by w none h =
      let f = front (start_at g) ((ms ++ by ∷ []) ++ more) x h (ms ++ by ∷ []) more refl in
      ⊎_elim (λ y. snoc_not_nil ms by y.0)
      (λ y.
      let s = same_from_push ms y.0 by y.1 y.4 in
      let h2 = subst (λ k. Goes g (start_at g) k y.2) (sym s.0) y.5 in
      let s2 = subst (λ b. stepped g y.2 b ≡ Some y.3) (sym s.1) y.6 in
      none-some y.3 (sym none ∙ only_step ms c y.2 y.3 by w h2 s2)) (ended (start_at g) (ms ++ by ∷ []) f.0 f.1)

  pub walked_shows : (t : Audit) (T : ℕ) (c : Config) → t.distance ≡ Some T → length t.moves ≡ T → Walked t.moves c → is_bad_at g c ≡ true → IsShown g t
  walked_shows t T c e n w bad = λ T2 e2. (n ∙ same_Some T T2 (sym e ∙ e2), (c, w.reached, bad))

  pub shown_walked : (t : Audit) (T : ℕ) (c : Config) → t.distance ≡ Some T → Walked t.moves c → IsShown g t → is_bad_at g c ≡ true
  shown_walked t T c e w shown =
      let s = shown T e in
      subst (λ x. is_bad_at g x ≡ true) (sym (bad_rests s.1.0 s.1.2) ∙ w.only s.1.0 s.1.1) s.1.2

pub same_config : (p p2 q q2 : ℕ) (r r2 : List Ret) → p ≡ p2 → q ≡ q2 → r ≡ r2 → at_pair p q r ≡ at_pair p2 q2 r2
same_config p p2 q q2 r r2 a b c = ap (λ x. at_pair x q r) a ∙ ap (λ x. at_pair p2 x r) b ∙ ap (λ x. at_pair p2 q2 x) c

pub went_on : (g : Game) (c d : Config) (by : Move) (yes : Bool) → yes ≡ true → Went g c by d yes → option_map (rested g) (stepped g c by) ≡ Some d
went_on g c d by true e h = h
went_on g c d by false e h = cc

pub went_nowhere : (g : Game) (c d : Config) (by : Move) (yes : Bool) → yes ≡ false → Went g c by d yes → stepped g c by ≡ None
went_nowhere g c d by true e h = cc
went_nowhere g c d by false e h = h

pub no_true : IsTrue false → ⊥
no_true h = cc

-- a list up to one of its items, that item, and what is behind it
pub split_at : (xs : List Move) (n : ℕ) (d : Move) → n < length xs → xs ≡ (take n xs ++ get_or xs n d ∷ []) ++ drop (n + 1) xs
split_at [] n d lt = absurd (omega (arith, lt))
split_at (x ∷ xs) zero d lt = refl
split_at (x ∷ xs) (suc n) d lt =
    let next : suc (n + 1) ≡ suc n + 1 = omega arith in
    ap (λ l. x ∷ l) (split_at xs n d (omega (arith, lt))) ∙ ap (λ k. (take (suc n) (x ∷ xs) ++ get_or (x ∷ xs) (suc n) d ∷ []) ++ drop k (x ∷ xs)) next
