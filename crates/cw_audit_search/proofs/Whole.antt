-- A search in which all is settled has a row wherever a run within an activation comes to.
use Rattle.std.proofs.Common.{◌≡◌, ℕ, ◌+◌, List, [], ◌∷◌, Bool, true, false, Option, Some, None, refl, sym, ap, ◌∙◌, subst, arith, ◌⊎◌, inl, inr}
use Rattle.std.specs.Prelude.{slice_get}
use Rattle.std.proofs.lemmas.Option.{none-some, same_Some}
use Rattle.cw_lemmas.proofs.Truths.{not_both}
use Rattle.cw_certs.specs.declared.moves.Move.{Move}
use Rattle.cw_certs.specs.declared.moves.Move.TheVariants.{Skip, On}
use Rattle.cw_game.specs.declared.spots.Spot.{Spot}
use Rattle.cw_game.specs.declared.spots.Spot.TheVariants.{Visit, Asked, Step, Branch, Label, Open, Close, Call, SplitCall, Exit}
use Rattle.cw_game.specs.Games.{Game, Ret, Config, at_pair, returned, leads_in, leads_to, bad_in, weavers_in}
use Rattle.cw_game.specs.Linked.{is_bad_at}
use Rattle.cw_audit_table.specs.Runs.{is_step, skipped, cut, Goes, here, skips, goes, start_at, IsEntered, at_start, by_call, IsWithin}
use Rattle.cw_audit_table.specs.Conditions.{is_free, is_inner}
use Rattle.cw_audit_table.specs.Tables.{Audit}
use Rattle.cw_audit_table.specs.Stated.{IsStated}
use Rattle.cw_audit_table.proofs.Skips.{stays, skip_on, skip_leads}
use Rattle.cw_audit_table.proofs.Bounds.{inner_leads, visit_stays}
use Rattle.cw_audit_search.specs.Searches.{Found}
use Rattle.cw_audit_search.specs.Sound.{IsFair, IsSound}
use Rattle.cw_audit_search.specs.Settled.{IsCovered, IsClosedAt, IsSettled}
use Rattle.cw_audit_search.specs.Counted.{HasRow}

abbrev pub IsKnown : Found → (f q p x : ℕ) → Type 0
IsKnown s f q p x = (a : ℕ) × (s.number f q p x ≡ Some a)

-- A frame that waits for the end of f, which was entered in q, has the row of its call.
pub record Waiting (g : Game) (s : Found) (f q : ℕ) (ret : Ret) : Type 0 where
  pub function : ℕ
  pub entered : ℕ
  pub pos : ℕ
  pub seam : ℕ
  pub row : IsKnown s function entered pos q
  pub call : slice_get g.spots pos ≡ Some (Call seam f ret.back)
  pub plain : ret.kept ≡ None

abbrev pub Under : Game → Found → (f0 q0 f q : ℕ) → List Ret → Type 0
Under g s f0 q0 f q [] = (f ≡ f0) × (q ≡ q0)
Under g s f0 q0 f q (ret ∷ rets) = (w : Waiting g s f q ret) × Under g s f0 q0 w.function w.entered rets

-- The top frame has a row behind its skips, or a bad pair stands there.
abbrev pub IsNoted : Game → Found → (f q p x : ℕ) → Type 0
IsNoted g s f q p x = IsKnown s f q (skipped g p) x ⊎ (bad_in g x (slice_get g.spots (skipped g p)) ≡ true)

pub record Stands (g : Game) (s : Found) (f0 q0 : ℕ) (c : Config) : Type 0 where
  pub function : ℕ
  pub entered : ℕ
  pub known : (r : ℕ) × (s.reach function entered ≡ Some r)
  pub noted : IsNoted g s function entered c.pos c.state
  pub under : Under g s f0 q0 function entered c.rets

module _ (g : Game) (functions : ℕ) (fair : IsFair g functions) (s : Found) (sound : IsSound g functions s) (settled : IsSettled g s 65538) where
  closed_at : (f q p x : ℕ) → (row : IsKnown s f q p x) → (r : ℕ) × (s.reach f q ≡ Some r) × IsClosedAt g s f q r p x row.0
  closed_at f q p x row = let z = sound.known f q p x row.0 row.1 in (z.0, z.1, settled.closed f q z.0 p x row.0 z.1 row.1 (omega arith))

  noted : (f q r p x n : ℕ) → IsCovered g s f q r p x n → IsNoted g s f q p x
  noted f q r p x n c = by (bad_in g x (slice_get g.spots (skipped g p))) refl
    where
      by : (b : Bool) → bad_in g x (slice_get g.spots (skipped g p)) ≡ b → IsNoted g s f q p x
      by true e = inr e
      by false e = let z = c.good e in inl (z.0, z.1)

  module _ (f0 q0 : ℕ) where
    skip_stands : (d e : Config) → Stands g s f0 q0 d → leads_to g d Skip ≡ Some e → Stands g s f0 q0 e
    skip_stands d e k h =
        let z = skip_leads g (slice_get g.spots d.pos) d.pos d.state d.rets e h in
        subst (Stands g s f0 q0) z.1
        (record {
          function = k.function;
          entered = k.entered;
          known = k.known;
          noted = subst (λ p. IsKnown s k.function k.entered p d.state ⊎ (bad_in g d.state (slice_get g.spots p) ≡ true)) (sym (skip_on g d.pos z.0)) k.noted;
          under = k.under;
        })

    inner_at : (pos state : ℕ) (rets : List Ret) (e : Config) (by : Move) (f q : ℕ) → IsKnown s f q pos state → Under g s f0 q0 f q rets
        → is_inner (slice_get g.spots pos) ≡ true → is_step by ≡ true → leads_in g pos state rets (slice_get g.spots pos) by ≡ Some e → Stands g s f0 q0 e
    inner_at pos state rets e by f q row under inner step l =
        let z = inner_leads g pos state rets (slice_get g.spots pos) by e inner l in
        let c = closed_at f q pos state row in
        record {
          function = f;
          entered = q;
          known = (c.0, c.1);
          noted = noted f q c.0 e.pos e.state (cut (row.0 + 1)) (c.2.steps by (at_pair e.pos e.state []) inner step z.0);
          under = subst (Under g s f0 q0 f q) z.1 under;
        }

    call_at : (pos state : ℕ) (rets : List Ret) (f q j h k : ℕ) → IsKnown s f q pos state → Under g s f0 q0 f q rets → slice_get g.spots pos ≡ Some (Call j h k)
        → Stands g s f0 q0 (at_pair (g.entry h) state (record { back = k; kept = None } ∷ rets))
    call_at pos state rets f q j h k row under call =
        let c = (closed_at f q pos state row).2.calls j h k call in
        record {
          function = h;
          entered = state;
          known = (c.0, c.1);
          noted = noted h state c.0 (g.entry h) state 0 c.3;
          under = (record { function = f; entered = q; pos = pos; seam = j; row = row; call = call; plain = refl }, under);
        }

    exit_at : (pos state i : ℕ) (ret : Ret) (rets : List Ret) (f q : ℕ) → IsKnown s f q pos state → Under g s f0 q0 f q (ret ∷ rets) → slice_get g.spots pos ≡ Some (Exit i)
        → Stands g s f0 q0 (at_pair ret.back (returned g.states ret.kept state) rets)
    exit_at pos state i ret rets f q row under exit =
        let w = under.0 in
        let at = sound.keyed f q pos state row.0 row.1 in
        let last = fair.alone f pos i at.below at.position exit in
        let c = closed_at w.function w.entered w.pos q w.row in
        let z = c.2.returns w.seam f ret.back state row.0 w.call (subst (λ p. s.number f q p state ≡ Some row.0) last row.1) in
        let same : state ≡ returned g.states ret.kept state = sym (ap (λ o. returned g.states o state) w.plain) in
        subst (λ y. Stands g s f0 q0 (at_pair ret.back y rets)) same
        (record { function = w.function; entered = w.entered; known = (c.0, c.1); noted = noted w.function w.entered c.0 ret.back state (cut (w.row.0 + row.0 + 2)) z; under = under.1 })

    -- a step from a row
    step_at : (pos state : ℕ) (rets : List Ret) (e : Config) (by : Move) (spot : Option Spot) (f q : ℕ) → IsKnown s f q pos state → Under g s f0 q0 f q rets
        → is_free (slice_get g.spots pos) ≡ true → is_step by ≡ true → slice_get g.spots pos ≡ spot → leads_in g pos state rets spot by ≡ Some e → Stands g s f0 q0 e
    step_at pos state rets e On (Some (Call j h k)) f q row under free step es l = subst (Stands g s f0 q0) (same_Some _ e l) (call_at pos state rets f q j h k row under es)
    step_at pos state (ret ∷ rets) e On (Some (Exit i)) f q row under free step es l = subst (Stands g s f0 q0) (same_Some _ e l) (exit_at pos state i ret rets f q row under es)
    step_at pos state rets e by (Some (SplitCall j h k)) f q row under free step es l = let z : false ≡ true = sym (ap is_free es) ∙ free in cc
    step_at pos state rets e by (Some (Visit j i a)) f q row under free step es l = let z : false ≡ true = sym (ap is_free es) ∙ free in cc
    step_at pos state rets e by (Some (Asked j i a)) f q row under free step es l = let z : false ≡ true = sym (ap is_free es) ∙ free in cc
    step_at pos state rets e by None f q row under free step es l = let z : false ≡ true = sym (ap is_free es) ∙ free in cc
    step_at pos state rets e by (Some (Step m)) f q row under free step es l =
        inner_at pos state rets e by f q row under (ap is_inner es) step (ap (λ o. leads_in g pos state rets o by) es ∙ l)
    step_at pos state rets e by (Some (Branch m m2)) f q row under free step es l =
        inner_at pos state rets e by f q row under (ap is_inner es) step (ap (λ o. leads_in g pos state rets o by) es ∙ l)
    step_at pos state rets e by (Some (Label j m m2)) f q row under free step es l =
        inner_at pos state rets e by f q row under (ap is_inner es) step (ap (λ o. leads_in g pos state rets o by) es ∙ l)
    step_at pos state rets e by (Some (Open j d m)) f q row under free step es l =
        inner_at pos state rets e by f q row under (ap is_inner es) step (ap (λ o. leads_in g pos state rets o by) es ∙ l)
    step_at pos state rets e by (Some (Close j d m)) f q row under free step es l =
        inner_at pos state rets e by f q row under (ap is_inner es) step (ap (λ o. leads_in g pos state rets o by) es ∙ l)
    step_at pos state [] e by (Some (Exit i)) f q row under free step es l = absurd (none-some e l)
    step_at pos state (ret ∷ rets) e by (Some (Exit i)) f q row under free step es l = absurd (none-some e l)
    step_at pos state rets e _ _ f q row under free step es l = absurd (none-some e l)

    -- a noted pair at rest that isn't bad has its row
    row_here : (d : Config) → (k : Stands g s f0 q0 d) → weavers_in (slice_get g.spots d.pos) ≡ false → is_bad_at g d ≡ false → IsKnown s k.function k.entered d.pos d.state
    row_here d k rest good =
        let at = stays g d.pos rest in
        elim k.noted [
          | inl h ↦ subst (λ p. IsKnown s k.function k.entered p d.state) at h
          | inr h ↦ absurd (not_both (bad_in g d.state (slice_get g.spots (skipped g d.pos))) h (ap (λ p. bad_in g d.state (slice_get g.spots p)) at ∙ good))
        ]

    pub goes_stand : (c d : Config) (ms : List Move) → Stands g s f0 q0 c → Goes g c ms d → Stands g s f0 q0 d
    goes_stand c _ [] k here = k
    goes_stand c e ms k (skips _ d _ h l) = skip_stands d e (goes_stand c d ms k h) l
    goes_stand c e _ k (goes ms d _ by h good step l) =
        let z = goes_stand c d ms k h in
        let row = row_here d z (visit_stays g d.pos d.state d.rets (slice_get g.spots d.pos) by e step l) good in
        step_at d.pos d.state d.rets e by (slice_get g.spots d.pos) z.function z.entered row z.under (sound.keyed z.function z.entered d.pos d.state row.0 row.1).free step refl l

  -- what is entered has its group, and its entry is noted
  main_stands : Stands g s g.main g.states.start (start_at g)
  main_stands = record {
    function = g.main;
    entered = g.states.start;
    known = (0, sound.main);
    noted = noted g.main g.states.start 0 (g.entry g.main) g.states.start 0 settled.begins;
    under = (refl, refl);
  }

  entry_stands : (f q n : ℕ) → IsEntered g f q n → Stands g s f q (at_pair (g.entry f) q [])
  entry_stands f q n at_start = main_stands
  entry_stands f q n (by_call ms c j _ k h e) =
      let z = goes_stand g.main g.states.start (start_at g) c ms main_stands h in
      let row = row_here g.main g.states.start c z (ap weavers_in e) (ap (bad_in g c.state) e) in
      let d = (closed_at z.function z.entered c.pos c.state row).2.calls j f k e in
      record { function = f; entered = c.state; known = (d.0, d.1); noted = noted f c.state d.0 (g.entry f) c.state 0 d.3; under = (refl, refl) }

  -- The lemma.
  pub all_known : (f q p x n m : ℕ) → IsEntered g f q n → IsWithin g f q p x m → IsKnown s f q p x
  all_known f q p x n m e w =
      let z = goes_stand f q (at_pair (g.entry f) q []) (at_pair p x []) w.0 (entry_stands f q n e) w.2 in
      let row = row_here f q (at_pair p x []) z w.3 w.4 in
      subst (λ f. IsKnown s f q p x) z.under.0 (subst (λ q. IsKnown s z.function q p x) z.under.1 row)

  -- so each row of a table of the game is one of the search
  pub stated_known : (t : Audit) → IsStated g t → (f q p x : ℕ) → HasRow t f q p x → IsKnown s f q p x
  stated_known t stated f q p x h =
      let e = (stated.reached f q h.0 h.1).0 in
      let w = (stated.within f q p x h.2.0 h.0 h.1 h.2.1).0 in
      all_known f q p x e.0 w.0 e.1 w.1
