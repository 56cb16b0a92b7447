-- Rows that are closed under the moves bound each run from below, over stacks of any depth.
use Rattle.std.proofs.Common.{◌≡◌, ℕ, ◌+◌, ◌<◌, ◌≤◌, List, [], ◌∷◌, ◌++◌, true, false, Option, Some, None, length, refl, sym, ap, ◌∙◌, subst, arith}
use Rattle.std.proofs.Common.{length-append}
use Rattle.std.specs.Prelude.{slice_get}
use Rattle.std.proofs.Math.Nat.{min-le_left}
use Rattle.std.proofs.lemmas.Option.{none-some, same_Some}
use Rattle.std.proofs.lemmas.Bool.{lt-ltb}
use Rattle.cw_certs.specs.declared.moves.Move.{Move}
use Rattle.cw_certs.specs.declared.moves.Move.TheVariants.{Skip, On, Left, Right, Opened, Failed}
use Rattle.cw_game.specs.declared.spots.Spot.{Spot}
use Rattle.cw_game.specs.declared.spots.Spot.TheVariants.{Visit, Asked, Step, Branch, Label, Open, Close, Call, SplitCall, Exit}
use Rattle.cw_game.specs.Games.{Game, Ret, Config, at_pair, returned, leads_in, leads_to, bad_in, weavers_in}
use Rattle.cw_game.specs.Linked.{is_bad_at}
use Rattle.cw_lemmas.proofs.Truths.{not_both}
use Rattle.cw_lemmas.proofs.Numbers.{le_from_not_lt}
use Rattle.cw_audit_table.specs.Runs.{is_step, skipped, Goes, here, skips, goes, start_at, IsHit, cut}
use Rattle.cw_audit_table.specs.Conditions.{is_before, is_free, is_inner}
use Rattle.cw_audit_table.proofs.Skips.{stays, skip_on, skip_leads}

-- The relation of rows: `R f q r p x a` says that the group of f, entered in q at r moves from the start, has a row at the pair of p and x with the number a.
abbrev pub Rows : Type 1
Rows = (f q r p x a : ℕ) → Type 0

-- the sum is below the distance, where there is one, uncut
abbrev pub Before : Option ℕ → ℕ → Type 0
Before None n = Unit {0}
Before (Some T) n = n < T

-- The rows are closed: where a sum is below the distance D, each pair to which a row leads has a row that isn't greater.
pub record IsClosedBy (g : Game) (D : Option ℕ) (R : Rows) : Type 0 where
  pub begins : R g.main g.states.start 0 (skipped g (g.entry g.main)) g.states.start 0
  pub free : (f q r p x a : ℕ) → R f q r p x a → is_free (slice_get g.spots p) ≡ true
  pub ends : (f q r p x a k : ℕ) → R f q r p x a → slice_get g.spots p ≡ Some (Exit k) → p ≡ g.exit f
  pub good : (f q r p x a : ℕ) → R f q r p x a → bad_in g x (slice_get g.spots p) ≡ false
  pub steps : (f q r p x a : ℕ) (by : Move) (c : Config) → R f q r p x a → is_inner (slice_get g.spots p) ≡ true → is_before D (r + a + 1) ≡ true → is_step by ≡ true
      → leads_in g p x [] (slice_get g.spots p) by ≡ Some c → (b : ℕ) × R f q r (skipped g c.pos) c.state b × (b ≤ a + 1)
  pub calls : (f q r p x a j h k : ℕ) → R f q r p x a → slice_get g.spots p ≡ Some (Call j h k) → is_before D (r + a + 1) ≡ true
      → (r2 : ℕ) × R h x r2 (skipped g (g.entry h)) x 0 × (r2 ≤ r + a + 1)
  pub returns : (f q r p x a j h k r2 y e : ℕ) → R f q r p x a → slice_get g.spots p ≡ Some (Call j h k) → R h x r2 (g.exit h) y e → is_before D (r + a + e + 2) ≡ true
      → (b : ℕ) × R f q r (skipped g k) y b × (b ≤ a + e + 2)

-- A frame that waits for the end of the function f, which was entered in q: the row of its call. The numbers of the rows up to there and above
-- it, with a move for each call, are no more than the moves so far.
pub record Waits (g : Game) (R : Rows) (f q n spent : ℕ) (ret : Ret) : Type 0 where
  pub function : ℕ
  pub entered : ℕ
  pub reach : ℕ
  pub pos : ℕ
  pub inside : ℕ
  pub seam : ℕ
  pub row : R function entered reach pos q inside
  pub call : slice_get g.spots pos ≡ Some (Call seam f ret.back)
  pub plain : ret.kept ≡ None
  pub early : reach + (inside + 1 + spent) ≤ n

-- The frames below one of f, entered in q, whose rows and those above it have this number: the last is of f0, entered in q0.
abbrev pub Below : Game → Rows → (f0 q0 n f q spent : ℕ) → List Ret → Type 0
Below g R f0 q0 n f q spent [] = (f ≡ f0) × (q ≡ q0)
Below g R f0 q0 n f q spent (ret ∷ rets) = (w : Waits g R f q n spent ret) × Below g R f0 q0 n w.function w.entered (w.inside + 1 + spent) rets

-- After n moves each frame has its row, and none of the sums is greater than n.
pub record Kept (g : Game) (R : Rows) (f0 q0 n : ℕ) (c : Config) : Type 0 where
  pub function : ℕ
  pub entered : ℕ
  pub reach : ℕ
  pub inside : ℕ
  pub row : R function entered reach (skipped g c.pos) c.state inside
  pub early : reach + inside ≤ n
  pub below : Below g R f0 q0 n function entered inside c.rets

pub before_less : (D : Option ℕ) (m n : ℕ) → m ≤ n → Before D n → Before D m
before_less None m n le h = tt
before_less (Some T) m n le h = omega arith

pub before_cut : (D : Option ℕ) (m n : ℕ) → m ≤ n → Before D n → is_before D m ≡ true
before_cut None m n le h = refl
before_cut (Some T) m n le h = lt-ltb (cut m) T (omega (arith, min-le_left m 65537))

-- what leads on within a function leaves the returns alone
pub inner_leads : (g : Game) (p q : ℕ) (rets : List Ret) (spot : Option Spot) (by : Move) (e : Config) → is_inner spot ≡ true → leads_in g p q rets spot by ≡ Some e
    → (leads_in g p q [] spot by ≡ Some (at_pair e.pos e.state [])) × (rets ≡ e.rets)
inner_leads g p q rets (Some (Step n)) On e i h = let s = same_Some _ e h in (ap (λ (c : Config). Some (at_pair c.pos c.state [])) s, ap (λ (c : Config). c.rets) s)
inner_leads g p q rets (Some (Branch m n)) Left e i h = let s = same_Some _ e h in (ap (λ (c : Config). Some (at_pair c.pos c.state [])) s, ap (λ (c : Config). c.rets) s)
inner_leads g p q rets (Some (Branch m n)) Right e i h = let s = same_Some _ e h in (ap (λ (c : Config). Some (at_pair c.pos c.state [])) s, ap (λ (c : Config). c.rets) s)
inner_leads g p q rets (Some (Label j l n)) On e i h = let s = same_Some _ e h in (ap (λ (c : Config). Some (at_pair c.pos c.state [])) s, ap (λ (c : Config). c.rets) s)
inner_leads g p q rets (Some (Open j d n)) Opened e i h = let s = same_Some _ e h in (ap (λ (c : Config). Some (at_pair c.pos c.state [])) s, ap (λ (c : Config). c.rets) s)
inner_leads g p q rets (Some (Open j d n)) Failed e i h = let s = same_Some _ e h in (ap (λ (c : Config). Some (at_pair c.pos c.state [])) s, ap (λ (c : Config). c.rets) s)
inner_leads g p q rets (Some (Close j d n)) On e i h = let s = same_Some _ e h in (ap (λ (c : Config). Some (at_pair c.pos c.state [])) s, ap (λ (c : Config). c.rets) s)
inner_leads g p q rets (Some (Step n)) _ e i h = absurd (none-some e h)
inner_leads g p q rets (Some (Branch m n)) _ e i h = absurd (none-some e h)
inner_leads g p q rets (Some (Label j l n)) _ e i h = absurd (none-some e h)
inner_leads g p q rets (Some (Open j d n)) _ e i h = absurd (none-some e h)
inner_leads g p q rets (Some (Close j d n)) _ e i h = absurd (none-some e h)
inner_leads g p q rets _ by e i h = cc

-- a step leads on within a function, at a call or at an exit
pub visit_stays : (g : Game) (p q : ℕ) (rets : List Ret) (spot : Option Spot) (by : Move) (e : Config) → is_step by ≡ true → leads_in g p q rets spot by ≡ Some e
    → weavers_in spot ≡ false
visit_stays g p q rets (Some (Visit j i a)) Skip e s h = cc
visit_stays g p q rets (Some (Visit j i a)) On e s h = absurd (none-some e h)
visit_stays g p q rets (Some (Visit j i a)) Left e s h = absurd (none-some e h)
visit_stays g p q rets (Some (Visit j i a)) Right e s h = absurd (none-some e h)
visit_stays g p q rets (Some (Visit j i a)) Opened e s h = absurd (none-some e h)
visit_stays g p q rets (Some (Visit j i a)) Failed e s h = absurd (none-some e h)
visit_stays g p q rets (Some (Visit j i a)) _ e s h = cc
visit_stays g p q rets _ by e s h = refl

pub bad_stays : (g : Game) (q : ℕ) (spot : Option Spot) → bad_in g q spot ≡ true → weavers_in spot ≡ false
bad_stays g q (Some (Label j l n)) e = refl
bad_stays g q _ e = cc

module _ (g : Game) (D : Option ℕ) (R : Rows) (closed : IsClosedBy g D R) (f0 q0 : ℕ) where
  -- later, and where more was spent in the meantime
  below_later : (n n2 m f q spent spent2 : ℕ) (rets : List Ret) → spent2 ≤ spent + m → n + m ≤ n2 → Below g R f0 q0 n f q spent rets → Below g R f0 q0 n2 f q spent2 rets
  below_later n n2 m f q spent spent2 [] more late h = h
  below_later n n2 m f q spent spent2 (ret ∷ rets) more late h =
      let w = h.0 in (
        record {
          function = w.function;
          entered = w.entered;
          reach = w.reach;
          pos = w.pos;
          inside = w.inside;
          seam = w.seam;
          row = w.row;
          call = w.call;
          plain = w.plain;
          early = omega (arith, w.early);
        },
        below_later n n2 m w.function w.entered (w.inside + 1 + spent) (w.inside + 1 + spent2) rets (omega arith) late h.1,
      )

  skip_keeps : (n : ℕ) (d e : Config) → Kept g R f0 q0 n d → leads_to g d Skip ≡ Some e → Kept g R f0 q0 n e
  skip_keeps n d e k h =
      let s = skip_leads g (slice_get g.spots d.pos) d.pos d.state d.rets e h in
      subst (λ c. Kept g R f0 q0 n c) s.1
      (record {
        function = k.function;
        entered = k.entered;
        reach = k.reach;
        inside = k.inside;
        row = subst (λ p. R k.function k.entered k.reach p d.state k.inside) (sym (skip_on g d.pos s.0)) k.row;
        early = k.early;
        below = k.below;
      })

  -- a step within the function
  inner_keeps : (n : ℕ) (d e : Config) (by : Move) → Before D (n + 1) → (k : Kept g R f0 q0 n d) → R k.function k.entered k.reach d.pos d.state k.inside → is_step by ≡ true
      → is_inner (slice_get g.spots d.pos) ≡ true → leads_to g d by ≡ Some e → Kept g R f0 q0 (n + 1) e
  inner_keeps n d e by before k row step inner h =
      let l = inner_leads g d.pos d.state d.rets (slice_get g.spots d.pos) by e inner h in
      let s = closed.steps k.function k.entered k.reach d.pos d.state k.inside by (at_pair e.pos e.state []) row inner
      (before_cut D (k.reach + k.inside + 1) (n + 1) (omega (arith, k.early)) before) step l.0 in
      record {
        function = k.function;
        entered = k.entered;
        reach = k.reach;
        inside = s.0;
        row = s.1;
        early = omega (arith, k.early, s.2);
        below = subst (λ rets. Below g R f0 q0 (n + 1) k.function k.entered s.0 rets) l.1
            (below_later n (n + 1) 1 k.function k.entered k.inside s.0 d.rets (omega (arith, s.2)) (omega arith) k.below);
      }

  call_keeps : (n : ℕ) (d : Config) (j h back : ℕ) → Before D (n + 1) → (k : Kept g R f0 q0 n d) → R k.function k.entered k.reach d.pos d.state k.inside
      → slice_get g.spots d.pos ≡ Some (Call j h back) → Kept g R f0 q0 (n + 1) (at_pair (g.entry h) d.state (record { back = back; kept = None } ∷ d.rets))
  call_keeps n d j h back before k row call =
      let s = closed.calls k.function k.entered k.reach d.pos d.state k.inside j h back row call
      (before_cut D (k.reach + k.inside + 1) (n + 1) (omega (arith, k.early)) before) in
      record {
        function = h;
        entered = d.state;
        reach = s.0;
        inside = 0;
        row = s.1;
        early = omega (arith, k.early, s.2);
        below = (
          record {
            function = k.function;
            entered = k.entered;
            reach = k.reach;
            pos = d.pos;
            inside = k.inside;
            seam = j;
            row = row;
            call = call;
            plain = refl;
            early = omega (arith, k.early);
          },
          below_later n (n + 1) 1 k.function k.entered k.inside (k.inside + 1 + 0) d.rets (omega arith) (omega arith) k.below,
        );
      }

  return_keeps : (n f : ℕ) (pos state : ℕ) (ret : Ret) (rets : List Ret) → Before D (n + 1) → (k : Kept g R f0 q0 n (at_pair pos state (ret ∷ rets)))
      → R k.function k.entered k.reach pos state k.inside → slice_get g.spots pos ≡ Some (Exit f)
      → Kept g R f0 q0 (n + 1) (at_pair ret.back (returned g.states ret.kept state) rets)
  return_keeps n f pos state ret rets before k row exit =
      let w = k.below.0 in
      let at = closed.ends k.function k.entered k.reach pos state k.inside f row exit in
      let last = subst (λ p. R k.function k.entered k.reach p state k.inside) at row in
      let s = closed.returns w.function w.entered w.reach w.pos k.entered w.inside w.seam k.function ret.back k.reach state k.inside w.row w.call last
      (before_cut D (w.reach + w.inside + k.inside + 2) (n + 1) (omega (arith, w.early)) before) in
      let same : state ≡ returned g.states ret.kept state = sym (ap (λ o. returned g.states o state) w.plain) in
      record {
        function = w.function;
        entered = w.entered;
        reach = w.reach;
        inside = s.0;
        row = subst (λ y. R w.function w.entered w.reach (skipped g ret.back) y s.0) same s.1;
        early = omega (arith, w.early, s.2);
        below = below_later n (n + 1) 1 w.function w.entered (w.inside + 1 + k.inside) s.0 rets (omega (arith, s.2)) (omega arith) k.below.1;
      }

  -- by what stands there
  step_at : (n : ℕ) (pos state : ℕ) (rets : List Ret) (e : Config) (by : Move) (spot : Option Spot) → Before D (n + 1) → (k : Kept g R f0 q0 n (at_pair pos state rets))
      → R k.function k.entered k.reach pos state k.inside → is_free (slice_get g.spots pos) ≡ true → is_step by ≡ true → slice_get g.spots pos ≡ spot
      → leads_in g pos state rets spot by ≡ Some e → Kept g R f0 q0 (n + 1) e
  step_at n pos state rets e On (Some (Call j h back)) before k row free step es l =
      subst (λ c. Kept g R f0 q0 (n + 1) c) (same_Some _ e l) (call_keeps n (at_pair pos state rets) j h back before k row es)
  step_at n pos state (ret ∷ rets) e On (Some (Exit f)) before k row free step es l =
      subst (λ c. Kept g R f0 q0 (n + 1) c) (same_Some _ e l) (return_keeps n f pos state ret rets before k row es)
  step_at n pos state rets e by (Some (SplitCall j h back)) before k row free step es l = let z : false ≡ true = sym (ap is_free es) ∙ free in cc
  step_at n pos state rets e by (Some (Visit j i a)) before k row free step es l = let z : false ≡ true = sym (ap is_free es) ∙ free in cc
  step_at n pos state rets e by (Some (Asked j i a)) before k row free step es l = let z : false ≡ true = sym (ap is_free es) ∙ free in cc
  step_at n pos state rets e by None before k row free step es l = let z : false ≡ true = sym (ap is_free es) ∙ free in cc
  step_at n pos state rets e by (Some (Step m)) before k row free step es l =
      inner_keeps n (at_pair pos state rets) e by before k row step (ap is_inner es) (ap (λ o. leads_in g pos state rets o by) es ∙ l)
  step_at n pos state rets e by (Some (Branch m m2)) before k row free step es l =
      inner_keeps n (at_pair pos state rets) e by before k row step (ap is_inner es) (ap (λ o. leads_in g pos state rets o by) es ∙ l)
  step_at n pos state rets e by (Some (Label j m m2)) before k row free step es l =
      inner_keeps n (at_pair pos state rets) e by before k row step (ap is_inner es) (ap (λ o. leads_in g pos state rets o by) es ∙ l)
  step_at n pos state rets e by (Some (Open j d m)) before k row free step es l =
      inner_keeps n (at_pair pos state rets) e by before k row step (ap is_inner es) (ap (λ o. leads_in g pos state rets o by) es ∙ l)
  step_at n pos state rets e by (Some (Close j d m)) before k row free step es l =
      inner_keeps n (at_pair pos state rets) e by before k row step (ap is_inner es) (ap (λ o. leads_in g pos state rets o by) es ∙ l)
  step_at n pos state [] e by (Some (Exit f)) before k row free step es l = absurd (none-some e l)
  step_at n pos state (ret ∷ rets) e by (Some (Exit f)) before k row free step es l = absurd (none-some e l)
  step_at n pos state rets e _ _ before k row free step es l = absurd (none-some e l)

  step_keeps : (n : ℕ) (d e : Config) (by : Move) → Before D (n + 1) → Kept g R f0 q0 n d → is_step by ≡ true → leads_to g d by ≡ Some e → Kept g R f0 q0 (n + 1) e
  step_keeps n d e by before k step l =
      let rest = stays g d.pos (visit_stays g d.pos d.state d.rets (slice_get g.spots d.pos) by e step l) in
      let row = subst (λ p. R k.function k.entered k.reach p d.state k.inside) rest k.row in
      step_at n d.pos d.state d.rets e by (slice_get g.spots d.pos) before k row (closed.free k.function k.entered k.reach d.pos d.state k.inside row) step refl l

  -- The lemma: what is kept is kept along each run that stays below the distance.
  pub goes_keep : (n : ℕ) (c d : Config) (ms : List Move) → Kept g R f0 q0 n c → Goes g c ms d → Before D (n + length ms) → Kept g R f0 q0 (n + length ms) d
  goes_keep n c d [] k here before = let z : n ≡ n + 0 = omega arith in subst (λ m. Kept g R f0 q0 m c) z k
  goes_keep n c e ms k (skips _ d _ h l) before = skip_keeps (n + length ms) d e (goes_keep n c d ms k h before) l
  goes_keep n c e ns k (goes ms d _ by h good step l) before =
      let z : n + length ms + 1 ≡ n + length (ms ++ by ∷ []) = omega (arith, length-append ms (by ∷ [])) in
      subst (λ m. Kept g R f0 q0 m e) z
      (step_keeps (n + length ms) d e by (before_less D (n + length ms + 1) (n + length (ms ++ by ∷ [])) (omega (arith, z)) before)
      (goes_keep n c d ms k h (before_less D (n + length ms) (n + length (ms ++ by ∷ [])) (omega (arith, z)) before)) step l)

  -- where the run begins at the group's entry
  pub begin_kept : (r : ℕ) → R f0 q0 r (skipped g (g.entry f0)) q0 0 → Kept g R f0 q0 r (at_pair (g.entry f0) q0 [])
  begin_kept r row = record { function = f0; entered = q0; reach = r; inside = 0; row = row; early = omega arith; below = (refl, refl) }

-- Each run to a bad pair is at least as long as the distance.
module _ (g : Game) (D : Option ℕ) (R : Rows) (closed : IsClosedBy g D R) where
  good_here : (n : ℕ) (c : Config) → Kept g R g.main g.states.start n c → is_bad_at g c ≡ true → ⊥
  good_here n c k bad =
      let rest = stays g c.pos (bad_stays g c.state (slice_get g.spots c.pos) bad) in
      let row = subst (λ p. R k.function k.entered k.reach p c.state k.inside) rest k.row in
      not_both (is_bad_at g c) bad (closed.good k.function k.entered k.reach c.pos c.state k.inside row)

  hit_late : (ms : List Move) (c : Config) → Goes g (start_at g) ms c → is_bad_at g c ≡ true → Before D (length ms) → ⊥
  hit_late ms c h bad before =
      let z : 0 + length ms ≡ length ms = omega arith in
      let k = goes_keep g D R closed g.main g.states.start 0 (start_at g) c ms
      (begin_kept g D R closed g.main g.states.start 0 closed.begins) h (subst (Before D) (sym z) before) in
      good_here (0 + length ms) c k bad

  pub hits_later : (n : ℕ) → IsHit g n → (T : ℕ) × (D ≡ Some T) × (T ≤ n)
  hits_later n h = by D refl
    where
      by : (o : Option ℕ) → D ≡ o → (T : ℕ) × (D ≡ Some T) × (T ≤ n)
      by None e = absurd (hit_late h.0 h.2.0 h.2.1 h.2.2 (subst (λ o. Before o (length h.0)) (sym e) tt))
      by (Some T) e = (T, e, le_from_not_lt T n (λ l. hit_late h.0 h.2.0 h.2.1 h.2.2 (subst (λ o. Before o (length h.0)) (sym e) (omega (arith, l, h.1)))))
