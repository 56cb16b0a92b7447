-- Items among the positions: a rewriting at the front keeps the position, and a jump leads to where its spot leads.
use Rattle.std.proofs.Common.{◌≡◌, ℕ, List, [], ◌∷◌, Bool, true, false, Option, Some, None, refl, sym, ap, ◌∙◌, subst}
use Rattle.std.proofs.lemmas.Option.{none-some, same_Some}
use Rattle.cw_rights.specs.Policies.{PlainPolicy}
use Rattle.cw_syntax.specs.Plans.{Stm, Plain, Break, Continue, Return, Open, Close, Call, Group, Label, If, While, Do, For, Stms, end, then}
use Rattle.cw_syntax.specs.Frames.{Entry, Todo, Test, After, LoopEnd, End, Frame, items_of, after_if, expanded, expanded_all, settle, broken, continued, ended}
use Rattle.cw_game.specs.declared.spots.Spot.{Spot}
use Rattle.cw_game.specs.Places.{TestAt, StepAt, Situated, SituatedAll, AtIn, At}

module _ (g : List Spot) (pol : PlainPolicy) (x : ℕ) where
  pub at_items : (b c : Option ℕ) (ss : Stms) (rest : Frame) (p k : ℕ) → SituatedAll g pol x b c ss p k → AtIn g pol x b c rest k → AtIn g pol x b c (items_of ss rest) p
  at_items b c end rest p k e h = subst (λ n. AtIn g pol x b c rest n) (sym e) h
  at_items b c (then s ss) rest p k h r = (h.0, h.1, at_items b c ss rest h.0 k h.2 r)

  -- the test and the end of a loop whose parts are situated
  pub at_loop : (b c : Option ℕ) (at : ℕ) (decided stepped : Bool) (s : Stm) (rest : Frame) (t m a k : ℕ) → TestAt g decided t m k → StepAt g stepped a t
      → Situated g pol x (Some k) (Some a) s m a → AtIn g pol x b c rest k → AtIn g pol x (Some k) (Some t) (Test at decided stepped s ∷ (LoopEnd ∷ rest)) t
  at_loop b c at decided stepped s rest t m a k e1 e2 h r = (refl, (m, a, k, e1, e2, h, refl, (refl, refl, (b, c, r))))

  mutual
    pub at_expanded : (s : Stm) (b c b' c' : Option ℕ) (rest next : Frame) (p k : ℕ) → Situated g pol x b c s p k → AtIn g pol x b c rest k → AtIn g pol x b' c' next k → At g pol x (expanded s rest next) p
    at_expanded (Plain at) b c b' c' rest next p k h r t = (b, c, (k, h, r))
    at_expanded (Break at) b c b' c' rest next p k h r t = (b, c, (k, h, r))
    at_expanded (Continue at) b c b' c' rest next p k h r t = (b, c, (k, h, r))
    at_expanded (Return at) b c b' c' rest next p k h r t = (b, c, (k, h, r))
    at_expanded (Open at j d) b c b' c' rest next p k h r t = (b, c, (k, h, r))
    at_expanded (Close at j d) b c b' c' rest next p k h r t = (b, c, (k, h, r))
    at_expanded (Call at j callee) b c b' c' rest next p k h r t = (b, c, (k, h, r))
    at_expanded (Group ss) b c b' c' rest next p k h r t = at_expanded_all ss b c b' c' rest next p k h r t
    at_expanded (Label at mark j l s) b c b' c' rest next p k h r t = (b, c, (k, h, r))
    at_expanded (If at s u) b c b' c' rest next p k h r t = (b, c, (k, h, r))
    at_expanded (While at s) b c b' c' rest next p k h r t = (Some k, Some p, at_loop b c at true false s rest p h.0 p k h.1 refl h.2 r)
    at_expanded (Do at s) b c b' c' rest next p k h r t =
        let loop = at_loop b c at true false s rest h.0 p h.0 k h.1 refl h.2 r in
        at_expanded s (Some k) (Some h.0) (Some k) (Some h.0) (Test at true false s ∷ (LoopEnd ∷ rest)) (Test at true false s ∷ (LoopEnd ∷ rest)) p h.0 h.2 loop loop
    at_expanded (For at (Some place) decided stepped s) b c b' c' rest next p k h r t =
        (Some k, Some h.0, (h.0, h.3, at_loop b c at decided stepped s rest h.0 h.1 h.2 k h.4 h.5 h.6 r))
    at_expanded (For at None decided stepped s) b c b' c' rest next p k h r t =
        (Some k, Some h.0, subst (λ n. AtIn g pol x (Some k) (Some h.0) (Test at decided stepped s ∷ (LoopEnd ∷ rest)) n) (sym h.3) (at_loop b c at decided stepped s rest h.0 h.1 h.2 k h.4 h.5 h.6 r))

    pub at_expanded_all : (ss : Stms) (b c b' c' : Option ℕ) (rest next : Frame) (p k : ℕ) → SituatedAll g pol x b c ss p k → AtIn g pol x b c rest k → AtIn g pol x b' c' next k
        → At g pol x (expanded_all ss rest next) p
    at_expanded_all end b c b' c' rest next p k e r t = (b', c', subst (λ n. AtIn g pol x b' c' next n) (sym e) t)
    at_expanded_all (then s ss) b c b' c' rest next p k h r t =
        let i = at_expanded_all ss b c b' c' rest next h.0 k h.2 r t in
        at_expanded s b c i.0 i.1 (items_of ss rest) (expanded_all ss rest next) p h.0 h.1 (at_items b c ss rest h.0 k h.2 r) i.2

  -- rewriting keeps the position
  pub at_settle : (frame : Frame) (p : ℕ) → At g pol x frame p → At g pol x (settle frame) p
  at_settle [] p h = h
  at_settle (Entry f j ∷ is) p h = h
  at_settle (Todo s ∷ is) p h = let i = at_settle is h.2.0 (h.0, h.1, h.2.2) in at_expanded s h.0 h.1 i.0 i.1 is (settle is) p h.2.0 h.2.1 h.2.2 i.2
  at_settle (Test at decided stepped s ∷ is) p h = h
  at_settle (After at ∷ is) p h = h
  at_settle (LoopEnd ∷ is) p h = at_settle is p h.2.2
  at_settle (End f ∷ is) p h = h

  same_place : (p n : ℕ) (o : Option ℕ) → o ≡ Some p → o ≡ Some n → p ≡ n
  same_place p n o e f = same_Some p n (sym e ∙ f)

  -- what a `break` leaves stands where a `break` leads
  pub at_broken : (frame : Frame) (b c : Option ℕ) (p n : ℕ) → AtIn g pol x b c frame p → b ≡ Some n → (rest : Frame) × (broken frame ≡ Some rest) × At g pol x rest n
  at_broken [] b c p n h e = absurd h
  at_broken (Entry f j ∷ is) b c p n h e = at_broken is b c h.2.0 n h.2.2 e
  at_broken (Todo s ∷ is) b c p n h e = at_broken is b c h.0 n h.2 e
  at_broken (Test at decided stepped s ∷ is) b c p n h e = at_broken is b None h.1.2 n h.1.7 e
  at_broken (After at ∷ is) b c p n h e = at_broken is b (Some h.1.0) h.1.0 n h.1.2 e
  at_broken (LoopEnd ∷ is) b c p n h e = (is, refl, (h.2.0, h.2.1, subst (λ k. AtIn g pol x h.2.0 h.2.1 is k) (same_place p n b h.0 e) h.2.2))
  at_broken (End f ∷ is) b c p n h e = absurd (none-some n (sym h.0 ∙ e))

  -- and what a `continue` leaves where a `continue` leads
  pub at_continued : (frame : Frame) (b c : Option ℕ) (p n : ℕ) → AtIn g pol x b c frame p → c ≡ Some n → (rest : Frame) × (continued frame ≡ Some rest) × At g pol x rest n
  at_continued [] b c p n h e = absurd h
  at_continued (Entry f j ∷ is) b c p n h e = at_continued is b c h.2.0 n h.2.2 e
  at_continued (Todo s ∷ is) b c p n h e = at_continued is b c h.0 n h.2 e
  at_continued (Test at decided stepped s ∷ is) b c p n h e =
      (Test at decided stepped s ∷ is, refl, (b, c, subst (λ k. AtIn g pol x b c (Test at decided stepped s ∷ is) k) (same_place p n c h.0 e) h))
  at_continued (After at ∷ is) b c p n h e = (After at ∷ is, refl, (b, c, subst (λ k. AtIn g pol x b c (After at ∷ is) k) (same_place p n c h.0 e) h))
  at_continued (LoopEnd ∷ is) b c p n h e = absurd (none-some n (sym h.1 ∙ e))
  at_continued (End f ∷ is) b c p n h e = absurd (none-some n (sym h.1 ∙ e))

  -- a `return` leaves the end, which stands at the exit
  pub at_ended : (frame : Frame) (b c : Option ℕ) (p : ℕ) → AtIn g pol x b c frame p → At g pol x (ended frame) x
  at_ended [] b c p h = absurd h
  at_ended (Entry f j ∷ is) b c p h = at_ended is b c h.2.0 h.2.2
  at_ended (Todo s ∷ is) b c p h = at_ended is b c h.0 h.2
  at_ended (Test at decided stepped s ∷ is) b c p h = at_ended is b None h.1.2 h.1.7
  at_ended (After at ∷ is) b c p h = at_ended is b (Some h.1.0) h.1.0 h.1.2
  at_ended (LoopEnd ∷ is) b c p h = at_ended is h.2.0 h.2.1 p h.2.2
  at_ended (End f ∷ is) b c p h = (None, None, (refl, refl, refl, h.3, ap ended h.4))

  -- the body of a test that holds, and what follows it
  pub at_body : (b c : Option ℕ) (at : ℕ) (decided stepped : Bool) (s : Stm) (is : Frame) (p m a k : ℕ) → TestAt g decided p m k → StepAt g stepped a p
      → Situated g pol x (Some k) (Some a) s m a → AtIn g pol x (Some k) None is k → At g pol x (Todo s ∷ after_if stepped at (Test at decided stepped s ∷ is)) m
  at_body b c at decided true s is p m a k e1 e2 h r = (Some k, Some a, (a, h, (refl, (p, e2, (refl, (m, a, k, e1, e2, h, refl, r))))))
  at_body b c at decided false s is p m a k e1 e2 h r =
      let t : AtIn g pol x (Some k) (Some p) (Test at decided false s ∷ is) p = (refl, (m, a, k, e1, e2, h, refl, r)) in
      (Some k, Some a, (a, h, subst (λ n. AtIn g pol x (Some k) (Some n) (Test at decided false s ∷ is) n) (sym e2) t))
