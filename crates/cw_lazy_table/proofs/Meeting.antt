-- The conditions of a live row, met by the lazy table.
use Rattle.std.proofs.Common.{◌≡◌, ◌⊎◌, inl, inr, ℕ, ◌+◌, List, [], ◌∷◌, Bool, true, false, cond, not, ◌&&◌, ◌||◌, Option, Some, None, option_map, nat_eq, refl, sym, ap, ◌∙◌, subst}
use Rattle.std.specs.Prelude.{slice_get}
use Rattle.std.specs.List.{list_all, Contains}
use Rattle.std.proofs.lemmas.Option.{none-some, same_Some}
use Rattle.cw_core.specs.declared.ids.MemId.{MemId}
use Rattle.cw_rights.specs.declared.capabilities.Primitive.{Primitive}
use Rattle.cw_certs.specs.declared.moves.Move.{Move}
use Rattle.cw_certs.specs.declared.moves.Move.TheVariants.{Grant, Refuse, On, Left, Right, Opened, Failed}
use Rattle.cw_certs.specs.declared.rows.TryRow.{TryRow}
use Rattle.cw_certs.specs.declared.rows.AtRow.{AtRow}
use Rattle.cw_certs.specs.declared.rows.OpenRow.{OpenRow}
use Rattle.cw_certs.specs.Tables.{Table, try_at, after_at, open_at}
use Rattle.cw_game.specs.declared.spots.Spot.{Spot}
use Rattle.cw_game.specs.declared.spots.Spot.TheVariants.{Visit, Asked, Step, Branch, Label, Open, Close, Call, SplitCall, Exit}
use Rattle.cw_game.specs.Games.{Game, Config, at_pair, can_stop_in, may_refuse_in, resumed_in, resumed, leads_in, weavers_in, holds_in, Holds, IsLost}
use Rattle.cw_game.specs.Pairs.{has, all_states, is_live, means_it, leads, is_call_in}
use Rattle.cw_game.specs.Conditions.{is_good_pair, takes, takes_on, takes_answers, answers_on, moves_on, keeps_promise}
use Rattle.std.proofs.lemmas.Bool.{and_from as both}
use Rattle.cw_product.specs.Routed.{IsState, targets, AreRouted}
use Rattle.cw_points.specs.Graphs.{seam_id}
use Rattle.cw_lazy_table.specs.Live.{IsLive, moves, goes_on}
use Rattle.cw_lazy_table.specs.Lazy.{Means, IsAfter, GoesOn, IsRefused, IsLazyTable}
use Rattle.cw_lazy_table.specs.Staged.{AreStaged, IsKnown}
use Rattle.cw_lazy_table.proofs.Finding.{In}
use Rattle.cw_lazy_table.proofs.Going.{resumes}
use Rattle.cw_lazy_table.proofs.Keeping.{IsSafe, good, safe}
use Rattle.std.proofs.lemmas.Bool.{true_from_ne_false as is_true}
use Rattle.cw_lazy_table.proofs.Only.{tried_at}
use Rattle.cw_lazy_table.proofs.Reading.{means_to, same_means, live_to, memory, try_to, label_of, label_to, close_of, close_to, open_of, open_to}
use Rattle.cw_lazy_table.specs.Rowing.{mem_id}
use Rattle.cw_lemmas.proofs.Truths.{and_false}

-- all of a list pass, where each element does
pub all_pass : {A : Type 0} (test : A → Bool) (xs : List A) → ((x : A) → In xs x → test x ≡ true) → list_all test xs ≡ true
all_pass test [] h = refl
all_pass test (x ∷ xs) h = both (test x) (list_all test xs) (h x (inl refl)) (all_pass test xs (λ y n. h y (inr n)))

-- where a stop can answer a refusal, the refusal is no move
one_refusal : (may stops : Bool) (c : Config) (pair x : ℕ × ℕ) → cond stops (Some pair) None ≡ Some x → cond (may && not stops) (Some c) None ≡ None
one_refusal may true c pair x e = ap (λ b. cond b (Some c) None) (and_false may)
one_refusal may false c pair x e = absurd (none-some x e)

no_refusal : (g : Game) (p q : ℕ) (o : Option Spot) (pair : ℕ × ℕ) → resumed_in g p q o ≡ Some pair → leads_in g p q [] o Refuse ≡ None
no_refusal g p q (Some (Asked j i a)) pair e = one_refusal (may_refuse_in g q a) (can_stop_in g q a) (at_pair (p + 1) q []) (p + 1, q) pair e
no_refusal g p q _ pair e = absurd (none-some pair e)

abbrev label_in : Spot → ℕ
label_in (Label j l n) = l
label_in _ = 0

abbrev descriptor_in : Spot → ℕ
descriptor_in (Open j d n) = d
descriptor_in (Close j d n) = d
descriptor_in _ = 0

module _ (g : Game) (functions : ℕ) (routed : AreRouted g functions) (staged : AreStaged g) (first : IsState g g.states.start)
    (start : IsLost g (g.entry g.main) g.states.start (has (all_states g)) → ⊥)
    (known : IsKnown g) (t : Table) (lazy : IsLazyTable g t) where
  safe_at : (p q e : ℕ) → IsLive g p q e → IsSafe g functions p q e
  safe_at = safe g functions routed staged first start

  -- a memory takes what is live
  pub leads_to : (p m q e : ℕ) → Means t.mems m q e → IsLive g p q e → leads t p m q e ≡ true
  leads_to p m q e h l = both (means_it (slice_get t.mems m) q e) (is_live t p m) (means_to (slice_get t.mems m) q e h) (live_to g t lazy p m q e l h)

  takes_it : (e : ℕ) (o : Option Config) (m : Option MemId) → IsAfter t.mems e o m → ((c : Config) → o ≡ Some c → IsLive g c.pos c.state e) → takes t e m o ≡ true
  takes_it e None m h l = refl
  takes_it e (Some c) None h l = absurd h
  takes_it e (Some c) (Some m) h l = leads_to c.pos m.0 c.state e h (l c refl)

  -- a memory for what is live, where it is there
  after : (e : ℕ) (o : Option Config) → ((c : Config) → o ≡ Some c → IsLive g c.pos c.state e) → (m : Option MemId) × IsAfter t.mems e o m
  after e None l = (None, refl)
  after e (Some c) l = let m = memory g t lazy c.pos c.state e (l c refl) in (Some (mem_id m.0), m.2)

  module _ (p m q e : ℕ) (live : IsLive g p q e) (meant : Means t.mems m q e) where
    here : IsSafe g functions p q e
    here = safe_at p q e live

    -- 3
    pub is_good : is_good_pair g q (slice_get g.spots p) ≡ true
    is_good = ap not (good g functions routed staged p q e here.kept)

    moved : (o : Option Spot) (by : Move) → slice_get g.spots p ≡ o → weavers_in o ≡ false → is_call_in o ≡ false → (c : Config) → leads_in g p q [] o by ≡ Some c → IsLive g c.pos c.state e
    moved o by es w k c l = moves p q e by c live (ap weavers_in es ∙ w) (ap is_call_in es ∙ k) (ap (λ o. leads_in g p q [] o by) es ∙ l)

    known_at : (r x : ℕ) → Contains (targets p (slice_get g.spots p)) r → IsState g x → IsLost g r x (has e) ⊎ (IsLost g r x (has e) → ⊥)
    known_at r x c s = known here.function r x e here.needed (routed.stays here.function p r here.below here.of c) s

    -- 5, and what a row of tries needs
    refused_there : (o : Option Config) (w : Option (ℕ × ℕ)) → resumed g p q ≡ w → ((c : Config) → o ≡ Some c → IsLive g c.pos c.state e) → (r : Option MemId) × IsRefused g t.mems p q e o r
    refused_there (Some c) w ew l = after e (Some c) l
    refused_there None None ew l = (None, subst (λ w. GoesOn g t.mems e w None) (sym ew) refl)
    refused_there None (Some pair) ew l =
        let z = resumes g routed.closed p q (slice_get g.spots p) pair ew in
        by (known_at pair.0 pair.1 z.0 (subst (IsState g) (sym z.1) here.state))
      where
        by : IsLost g pair.0 pair.1 (has e) ⊎ (IsLost g pair.0 pair.1 (has e) → ⊥) → (r : Option MemId) × IsRefused g t.mems p q e None r
        by (inl l) = (None, subst (λ w. GoesOn g t.mems e w None) (sym ew) l)
        by (inr n) = let m = memory g t lazy pair.0 pair.1 e (goes_on p q e pair live ew n) in (Some (mem_id m.0), subst (λ w. GoesOn g t.mems e w (Some (mem_id m.0))) (sym ew) (n, m.2))

    pub asked_there : (j i : ℕ) (a : Primitive) → slice_get g.spots p ≡ Some (Asked j i a) → (r : TryRow) × (try_at t j i m ≡ Some r)
    asked_there j i a es =
        let gr = after e (leads_in g p q [] (Some (Asked j i a)) Grant) (λ c l. moved (Some (Asked j i a)) Grant es refl refl c l) in
        let re = refused_there (leads_in g p q [] (Some (Asked j i a)) Refuse) (resumed g p q) refl (λ c l. moved (Some (Asked j i a)) Refuse es refl refl c l) in
        try_to g t lazy (record { seam = seam_id j; stage = i; mem = mem_id m; granted = gr.0; refused = re.0 })
        (record { pos = p; state = q; promise = e; prim = a; live = live; asked = es; meant = meant; granted = gr.1; refused = re.1 })

    -- going on is taken
    takes_resumed : (o : Option Config) (w : Option (ℕ × ℕ)) (r : Option MemId) → resumed g p q ≡ w → ((pair : ℕ × ℕ) → w ≡ Some pair → o ≡ None) → IsRefused g t.mems p q e o r
        → takes_on t e r w ≡ true
    takes_resumed o None None ew n h = refl
    takes_resumed o None (Some r) ew n h = refl
    takes_resumed o (Some pair) None ew n h = refl
    takes_resumed o (Some pair) (Some r) ew n h =
        let k : IsRefused g t.mems p q e None (Some r) = subst (λ o. IsRefused g t.mems p q e o (Some r)) (n pair refl) h in
        let w : GoesOn g t.mems e (Some pair) (Some r) = subst (λ w. GoesOn g t.mems e w (Some r)) ew k in
        leads_to pair.0 r.0 pair.1 e w.1 (goes_on p q e pair live ew w.0)

    takes_refused : (o : Option Config) (r : Option MemId) → IsRefused g t.mems p q e o r → ((c : Config) → o ≡ Some c → IsLive g c.pos c.state e) → takes t e r o ≡ true
    takes_refused None r h l = refl
    takes_refused (Some c) r h l = takes_it e (Some c) r h l

    -- 5
    pub answers_good : (o : Option Spot) → slice_get g.spots p ≡ o → answers_on g t p q m e o ≡ true
    answers_good (Some (Asked j i a)) es =
        let z = asked_there j i a es in
        let y = tried_at g functions routed staged first start t lazy p m q e j i a z.0 es meant z.1 in
        let gr = subst (λ o. IsAfter t.mems e (leads_in g p q [] o Grant) z.0.granted) es y.granted in
        let re = subst (λ o. IsRefused g t.mems p q e (leads_in g p q [] o Refuse) z.0.refused) es y.refused in
        let s : Option Spot = Some (Asked j i a) in
        subst (λ o. takes_answers g t p q e s o ≡ true) (sym z.1)
        (both (takes t e z.0.granted (leads_in g p q [] s Grant)) _ (takes_it e (leads_in g p q [] s Grant) z.0.granted gr (λ c l. moved s Grant es refl refl c l))
        (both (takes t e z.0.refused (leads_in g p q [] s Refuse)) (takes_on t e z.0.refused (resumed_in g p q s))
        (takes_refused (leads_in g p q [] s Refuse) z.0.refused re (λ c l. moved s Refuse es refl refl c l))
        (takes_resumed (leads_in g p q [] s Refuse) (resumed_in g p q s) z.0.refused (ap (resumed_in g p q) es) (λ pair k. no_refusal g p q s pair k) re)))
    answers_good _ es = refl

    label_good : (j l n : ℕ) → slice_get g.spots p ≡ Some (Label j l n) → takes t e (option_map (λ r. r.after) (after_at t.ats j m)) (Some (at_pair n (g.states.lettered q l) [])) ≡ true
    label_good j l n es =
        let to = moved (Some (Label j l n)) On es refl refl (at_pair n (g.states.lettered q l) []) refl in
        let a = memory g t lazy n (g.states.lettered q l) e to in
        let z = label_to g t lazy (record { seam = seam_id j; mem = mem_id m; after = mem_id a.0 })
        (record { pos = p; state = q; promise = e; label = l; next = n; live = live; spot = es; meant = meant; after = a.2 }) in
        let y = label_of g t lazy j m z.0 z.1 in
        let row = y.0 in
        let at : slice_get g.spots row.pos ≡ Some (Label j row.label row.next) = row.spot ∙ ap (λ x. Some (Label x row.label row.next)) y.1 in
        let pp : row.pos ≡ p = staged.labels row.pos p j row.label l row.next n at es in
        let s = same_means t m row.state row.promise q e (subst (λ i. Means t.mems i row.state row.promise) y.2 row.meant) meant in
        let el : row.label ≡ l = ap label_in (same_Some (Label j row.label row.next) (Label j l n) (sym at ∙ ap (slice_get g.spots) pp ∙ es)) in
        let w : Means t.mems z.0.after.0 (g.states.lettered q l) e =
        subst (λ x. Means t.mems z.0.after.0 (g.states.lettered q l) x) s.1
        (subst (λ x. Means t.mems z.0.after.0 (g.states.lettered q x) row.promise) el (subst (λ x. Means t.mems z.0.after.0 (g.states.lettered x row.label) row.promise) s.0 row.after)) in
        subst (λ o. takes t e (option_map (λ (r : AtRow). r.after) o) (Some (at_pair n (g.states.lettered q l) [])) ≡ true) (sym z.1) (leads_to n z.0.after.0 (g.states.lettered q l) e w to)

    close_good : (j d n : ℕ) → slice_get g.spots p ≡ Some (Close j d n) → takes t e (option_map (λ r. r.after) (after_at t.closed j m)) (Some (at_pair n (g.states.closed q d) [])) ≡ true
    close_good j d n es =
        let to = moved (Some (Close j d n)) On es refl refl (at_pair n (g.states.closed q d) []) refl in
        let a = memory g t lazy n (g.states.closed q d) e to in
        let z = close_to g t lazy (record { seam = seam_id j; mem = mem_id m; after = mem_id a.0 })
        (record { pos = p; state = q; promise = e; descriptor = d; next = n; live = live; spot = es; meant = meant; after = a.2 }) in
        let y = close_of g t lazy j m z.0 z.1 in
        let row = y.0 in
        let at : slice_get g.spots row.pos ≡ Some (Close j row.descriptor row.next) = row.spot ∙ ap (λ x. Some (Close x row.descriptor row.next)) y.1 in
        let pp : row.pos ≡ p = staged.closes row.pos p j row.descriptor d row.next n at es in
        let s = same_means t m row.state row.promise q e (subst (λ i. Means t.mems i row.state row.promise) y.2 row.meant) meant in
        let el : row.descriptor ≡ d = ap descriptor_in (same_Some (Close j row.descriptor row.next) (Close j d n) (sym at ∙ ap (slice_get g.spots) pp ∙ es)) in
        let w : Means t.mems z.0.after.0 (g.states.closed q d) e =
        subst (λ x. Means t.mems z.0.after.0 (g.states.closed q d) x) s.1
        (subst (λ x. Means t.mems z.0.after.0 (g.states.closed q x) row.promise) el (subst (λ x. Means t.mems z.0.after.0 (g.states.closed x row.descriptor) row.promise) s.0 row.after)) in
        subst (λ o. takes t e (option_map (λ (r : AtRow). r.after) o) (Some (at_pair n (g.states.closed q d) [])) ≡ true) (sym z.1) (leads_to n z.0.after.0 (g.states.closed q d) e w to)

    -- both rows of an open
    open_good : (j d n : ℕ) → slice_get g.spots p ≡ Some (Open j d n)
        → (takes t e (option_map (λ r. r.opened) (open_at t j m)) (Some (at_pair n (g.states.opened q d) [])) ≡ true) × (takes t e (option_map (λ r. r.failed) (open_at t j m))
        (Some (at_pair n (g.states.closed q d) [])) ≡ true)
    open_good j d n es =
        let to = moved (Some (Open j d n)) Opened es refl refl (at_pair n (g.states.opened q d) []) refl in
        let no_file = moved (Some (Open j d n)) Failed es refl refl (at_pair n (g.states.closed q d) []) refl in
        let a = memory g t lazy n (g.states.opened q d) e to in
        let b = memory g t lazy n (g.states.closed q d) e no_file in
        let z = open_to g t lazy (record { seam = seam_id j; mem = mem_id m; opened = mem_id a.0; failed = mem_id b.0 })
        (record { pos = p; state = q; promise = e; descriptor = d; next = n; live = live; spot = es; meant = meant; opened = a.2; failed = b.2 }) in
        let y = open_of g t lazy j m z.0 z.1 in
        let row = y.0 in
        let at : slice_get g.spots row.pos ≡ Some (Open j row.descriptor row.next) = row.spot ∙ ap (λ x. Some (Open x row.descriptor row.next)) y.1 in
        let pp : row.pos ≡ p = staged.opens row.pos p j row.descriptor d row.next n at es in
        let s = same_means t m row.state row.promise q e (subst (λ i. Means t.mems i row.state row.promise) y.2 row.meant) meant in
        let el : row.descriptor ≡ d = ap descriptor_in (same_Some (Open j row.descriptor row.next) (Open j d n) (sym at ∙ ap (slice_get g.spots) pp ∙ es)) in
        let v : Means t.mems z.0.opened.0 (g.states.opened q d) e =
        subst (λ x. Means t.mems z.0.opened.0 (g.states.opened q d) x) s.1
        (subst (λ x. Means t.mems z.0.opened.0 (g.states.opened q x) row.promise) el (subst (λ x. Means t.mems z.0.opened.0 (g.states.opened x row.descriptor) row.promise) s.0 row.opened)) in
        let w : Means t.mems z.0.failed.0 (g.states.closed q d) e =
        subst (λ x. Means t.mems z.0.failed.0 (g.states.closed q d) x) s.1
        (subst (λ x. Means t.mems z.0.failed.0 (g.states.closed q x) row.promise) el (subst (λ x. Means t.mems z.0.failed.0 (g.states.closed x row.descriptor) row.promise) s.0 row.failed)) in (
          subst (λ o. takes t e (option_map (λ (r : OpenRow). r.opened) o) (Some (at_pair n (g.states.opened q d) [])) ≡ true) (sym z.1) (leads_to n z.0.opened.0 (g.states.opened q d) e v to),
          subst (λ o. takes t e (option_map (λ (r : OpenRow). r.failed) o) (Some (at_pair n (g.states.closed q d) [])) ≡ true) (sym z.1) (leads_to n z.0.failed.0 (g.states.closed q d) e w no_file),
        )

    -- 6
    pub moves_good : (o : Option Spot) → slice_get g.spots p ≡ o → moves_on g t p q m e o ≡ true
    moves_good None es = refl
    moves_good (Some (Visit j i a)) es = refl
    moves_good (Some (Asked j i a)) es = refl
    moves_good (Some (Step n)) es = both (leads t n m q e) _ (leads_to n m q e meant (moved (Some (Step n)) On es refl refl (at_pair n q []) refl)) refl
    moves_good (Some (Branch a b)) es =
        both (leads t a m q e) _ (leads_to a m q e meant (moved (Some (Branch a b)) Left es refl refl (at_pair a q []) refl))
        (both (leads t b m q e) _ (leads_to b m q e meant (moved (Some (Branch a b)) Right es refl refl (at_pair b q []) refl)) refl)
    moves_good (Some (Label j l n)) es = both _ _ (label_good j l n es) refl
    moves_good (Some (Open j d n)) es = let k = open_good j d n es in both _ _ k.0 (both _ _ k.1 refl)
    moves_good (Some (Close j d n)) es = both _ _ (close_good j d n es) refl
    moves_good (Some (Call j f n)) es = refl
    moves_good (Some (SplitCall j f n)) es = refl
    moves_good (Some (Exit f)) es = refl

    -- 9
    pub promise_good : (o : Option Spot) → slice_get g.spots p ≡ o → keeps_promise g q e o ≡ true
    promise_good (Some (Exit f)) es = is_true (nat_eq f g.main || has e q) (λ h. here.kept (1, ap (holds_in g (Holds g 0) p q (has e)) es ∙ h))
    promise_good _ es = refl
