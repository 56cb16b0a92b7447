-- Frames among the points: a rewriting at the front keeps the point, a jump leads to where its node leads, and nowhere where that leads nowhere.
use Rattle.std.proofs.Common.{ℕ, List, [], ◌∷◌, Bool, true, false, Option, Some, None, refl, sym, ap, subst}
use Rattle.cw_syntax.specs.Plans.{Stm, Plain, Break, Continue, Return, Open, Close, Call, Group, Label, If, While, Do, For, Stms, end, then, Routine}
use Rattle.cw_syntax.specs.Frames.{Item, Entry, Todo, Test, After, LoopEnd, End, Frame, items_of, new_frame, after_if, expanded, expanded_all, settle, broken, continued, ended}
use Rattle.cw_points.specs.declared.graph.Node.{Node}
use Rattle.cw_points.specs.Graphs.{test_node}
use Rattle.cw_points.proofs.Situated.{Here, StepAt, Situated, SituatedAll, AtIn, At, IsSituated}

-- what a jump leaves, and where it leads: there are both, and the one stands at the other, or there is neither
abbrev pub Jumps : List Node → List Item → ℕ → ℕ → Option Frame → Option ℕ → Type 0
Jumps ns its f x None None = Unit {0}
Jumps ns its f x (Some frame) (Some p) = At ns its f x frame p
Jumps ns its f x _ _ = ⊥

module _ (ns : List Node) (its : List Item) (f x : ℕ) where
  pub at_items : (b c : Option ℕ) (ss : Stms) (rest : Frame) (p k : ℕ) → SituatedAll ns its f x b c ss p k → AtIn ns its f x b c rest k → AtIn ns its f x b c (items_of ss rest) p
  at_items b c end rest p k e h = subst (λ n. AtIn ns its f x b c rest n) (sym e) h
  at_items b c (then s ss) rest p k h r = (h.0, h.1, at_items b c ss rest h.0 k h.2 r)

  -- the test and the end of a loop whose parts are situated
  pub at_loop : (b c : Option ℕ) (at : ℕ) (decided stepped : Bool) (s : Stm) (rest : Frame) (t m a k : ℕ) → Here ns its t (test_node f decided m k) (Test at decided stepped s)
      → StepAt ns its f at stepped a t → Situated ns its f x (Some k) (Some a) s m a → AtIn ns its f x b c rest k → AtIn ns its f x (Some k) (Some t) (Test at decided stepped s ∷ (LoopEnd ∷ rest)) t
  at_loop b c at decided stepped s rest t m a k e1 e2 h r = (refl, (m, a, k, c, e1, e2, h, refl, (refl, (b, r))))

  mutual
    pub at_expanded : (s : Stm) (b c b' c' : Option ℕ) (rest next : Frame) (p k : ℕ) → Situated ns its f x b c s p k → AtIn ns its f x b c rest k → AtIn ns its f x b' c' next k
        → At ns its f x (expanded s rest next) p
    at_expanded (Plain at) b c b' c' rest next p k h r t = (b, c, (k, h, r))
    at_expanded (Break at) b c b' c' rest next p k h r t = (b, c, (k, h, r))
    at_expanded (Continue at) b c b' c' rest next p k h r t = (b, c, (k, h, r))
    at_expanded (Return at) b c b' c' rest next p k h r t = (b, c, (k, h, r))
    at_expanded (Open at j d) b c b' c' rest next p k h r t = (b, c, (k, h, r))
    at_expanded (Close at j d) b c b' c' rest next p k h r t = (b, c, (k, h, r))
    at_expanded (Call at j callee) b c b' c' rest next p k h r t = (b, c, (k, h, r))
    at_expanded (Group ss) b c b' c' rest next p k h r t = at_expanded_all ss b c b' c' rest next p k h r t
    at_expanded (Label at mark j l s) b c b' c' rest next p k h r t = (b, c, (k, h, r))
    at_expanded (If at s u) b c b' c' rest next p k h r t = (b, c, (k, h, r))
    at_expanded (While at s) b c b' c' rest next p k h r t = (Some k, Some p, at_loop b c at true false s rest p h.0 p k h.1 refl h.2 r)
    at_expanded (Do at s) b c b' c' rest next p k h r t =
        let loop = at_loop b c at true false s rest h.0 p h.0 k h.1 refl h.2 r in
        at_expanded s (Some k) (Some h.0) (Some k) (Some h.0) (Test at true false s ∷ (LoopEnd ∷ rest)) (Test at true false s ∷ (LoopEnd ∷ rest)) p h.0 h.2 loop loop
    at_expanded (For at (Some place) decided stepped s) b c b' c' rest next p k h r t =
        (Some k, Some h.0, (h.0, h.3, at_loop b c at decided stepped s rest h.0 h.1 h.2 k h.4 h.5 h.6 r))
    at_expanded (For at None decided stepped s) b c b' c' rest next p k h r t =
        (Some k, Some h.0, subst (λ n. AtIn ns its f x (Some k) (Some h.0) (Test at decided stepped s ∷ (LoopEnd ∷ rest)) n) (sym h.3) (at_loop b c at decided stepped s rest h.0 h.1 h.2 k h.4 h.5 h.6 r))

    pub at_expanded_all : (ss : Stms) (b c b' c' : Option ℕ) (rest next : Frame) (p k : ℕ) → SituatedAll ns its f x b c ss p k → AtIn ns its f x b c rest k → AtIn ns its f x b' c' next k
        → At ns its f x (expanded_all ss rest next) p
    at_expanded_all end b c b' c' rest next p k e r t = (b', c', subst (λ n. AtIn ns its f x b' c' next n) (sym e) t)
    at_expanded_all (then s ss) b c b' c' rest next p k h r t =
        let i = at_expanded_all ss b c b' c' rest next h.0 k h.2 r t in
        at_expanded s b c i.0 i.1 (items_of ss rest) (expanded_all ss rest next) p h.0 h.1 (at_items b c ss rest h.0 k h.2 r) i.2

  -- rewriting keeps the point
  pub at_settle : (frame : Frame) (p : ℕ) → At ns its f x frame p → At ns its f x (settle frame) p
  at_settle [] p h = h
  at_settle (Entry g j ∷ is) p h = h
  at_settle (Todo s ∷ is) p h = let i = at_settle is h.2.0 (h.0, h.1, h.2.2) in at_expanded s h.0 h.1 i.0 i.1 is (settle is) p h.2.0 h.2.1 h.2.2 i.2
  at_settle (Test at decided stepped s ∷ is) p h = h
  at_settle (After at ∷ is) p h = h
  at_settle (LoopEnd ∷ is) p h = at_settle is p (h.2.1.0, h.1, h.2.1.1)
  at_settle (End g ∷ is) p h = h

  -- what a `break` leaves stands where a `break` leads
  pub at_broken : (frame : Frame) (b c : Option ℕ) (p : ℕ) → AtIn ns its f x b c frame p → Jumps ns its f x (broken frame) b
  at_broken [] b c p h = absurd h
  at_broken (Entry g j ∷ is) b c p h = at_broken is b c h.0 h.2
  at_broken (Todo s ∷ is) b c p h = at_broken is b c h.0 h.2
  at_broken (Test at decided stepped s ∷ is) b c p h = at_broken is b h.1.3 h.1.2 h.1.8
  at_broken (After at ∷ is) b c p h = at_broken is b h.1.1 h.1.0 h.1.3
  at_broken (LoopEnd ∷ is) b c p h = subst (λ o. Jumps ns its f x (Some is) o) (sym h.0) (h.1.0, c, h.1.1)
  at_broken (End g ∷ is) b c p h =
      let r : Jumps ns its f x (broken is) None = subst (λ l. Jumps ns its f x (broken l) None) (sym h.4) tt in
      subst (λ o. Jumps ns its f x (broken is) o) (sym h.0) r

  -- and what a `continue` leaves where a `continue` leads
  pub at_continued : (frame : Frame) (b c : Option ℕ) (p : ℕ) → AtIn ns its f x b c frame p → Jumps ns its f x (continued frame) c
  at_continued [] b c p h = absurd h
  at_continued (Entry g j ∷ is) b c p h = at_continued is b c h.0 h.2
  at_continued (Todo s ∷ is) b c p h = at_continued is b c h.0 h.2
  at_continued (Test at decided stepped s ∷ is) b c p h = subst (λ o. Jumps ns its f x (Some (Test at decided stepped s ∷ is)) o) (sym h.0) (b, c, h)
  at_continued (After at ∷ is) b c p h = subst (λ o. Jumps ns its f x (Some (After at ∷ is)) o) (sym h.0) (b, c, h)
  at_continued (LoopEnd ∷ is) b c p h = at_continued is h.1.0 c p h.1.1
  at_continued (End g ∷ is) b c p h =
      let r : Jumps ns its f x (continued is) None = subst (λ l. Jumps ns its f x (continued l) None) (sym h.4) tt in
      subst (λ o. Jumps ns its f x (continued is) o) (sym h.1) r

  -- a `return` leaves the end, which stands at the exit
  pub at_ended : (frame : Frame) (b c : Option ℕ) (p : ℕ) → AtIn ns its f x b c frame p → At ns its f x (ended frame) x
  at_ended [] b c p h = absurd h
  at_ended (Entry g j ∷ is) b c p h = at_ended is b c h.0 h.2
  at_ended (Todo s ∷ is) b c p h = at_ended is b c h.0 h.2
  at_ended (Test at decided stepped s ∷ is) b c p h = at_ended is b h.1.3 h.1.2 h.1.8
  at_ended (After at ∷ is) b c p h = at_ended is b h.1.1 h.1.0 h.1.3
  at_ended (LoopEnd ∷ is) b c p h = at_ended is h.1.0 c p h.1.1
  at_ended (End g ∷ is) b c p h = (None, None, (refl, refl, refl, h.3, ap ended h.4))

  -- the body of a test that holds, and what follows it
  pub at_body : (d : Option ℕ) (at : ℕ) (decided stepped : Bool) (s : Stm) (is : Frame) (p m a k : ℕ) → Here ns its p (test_node f decided m k) (Test at decided stepped s)
      → StepAt ns its f at stepped a p → Situated ns its f x (Some k) (Some a) s m a → AtIn ns its f x (Some k) d is k → At ns its f x (Todo s ∷ after_if stepped at (Test at decided stepped s ∷ is)) m
  at_body d at decided true s is p m a k e1 e2 h r = (Some k, Some a, (a, h, (refl, (p, Some p, e2, (refl, (m, a, k, d, e1, e2, h, refl, r))))))
  at_body d at decided false s is p m a k e1 e2 h r =
      let t : AtIn ns its f x (Some k) (Some p) (Test at decided false s ∷ is) p = (refl, (m, a, k, d, e1, e2, h, refl, r)) in
      (Some k, Some a, (a, h, subst (λ n. AtIn ns its f x (Some k) (Some n) (Test at decided false s ∷ is) n) (sym e2) t))

-- the new frame of a function stands at its entry
pub at_new_frame : (ns : List Node) (its : List Item) (f : ℕ) (r : Routine) (entry exit : ℕ) → IsSituated ns its f r entry exit → At ns its f exit (new_frame f r) entry
at_new_frame ns its f r entry exit h =
    let last : AtIn ns its f exit None None (End f ∷ []) exit = (refl, refl, refl, h.ends, refl) in
    (None, None, (h.body, h.begins, at_items ns its f exit None None r.body (End f ∷ []) h.body exit h.holds last))
