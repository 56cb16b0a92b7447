-- Boards that stand in the game: what a move leaves stands again.
use Rattle.std.proofs.Common.{◌≡◌, ℕ, suc, ◌+◌, List, [], ◌∷◌, ◌++◌, Bool, true, false, Option, Some, None, is_some, refl, sym, ap, ◌∙◌, subst, append-nil, arith}
use Rattle.cw_rights.specs.declared.capabilities.Caps.{Caps}
use Rattle.cw_rights.specs.declared.capabilities.Primitive.{Primitive}
use Rattle.cw_rights.specs.declared.capabilities.Primitive.TheVariants.{Split}
use Rattle.cw_rights.specs.Words.{Word}
use Rattle.cw_rights.specs.Policies.{PlainPolicy, primitives}
use Rattle.cw_syntax.specs.Plans.{Plain, Break, Continue, Return, Open, Close, Call, Group, Label, If, While, Do, For, Routine, Plan}
use Rattle.cw_syntax.specs.Frames.{Entry, Todo, Test, After, LoopEnd, End, Frame, new_frame, settle, settled}
use Rattle.cw_syntax.proofs.Settling.{settle_settled}
use Rattle.cw_model.specs.Boards.{Board, primitives_in, onward, may_grant, may_refuse, can_stop, given_back, granted, mode_of}
use Rattle.cw_game.specs.Games.{AreStates, Game, Ret, past_asked, returned, may_refuse_in, can_stop_in}
use Rattle.cw_game.specs.Places.{At}
use Rattle.cw_game.specs.Pairs.{kept_at}
use Rattle.cw_game.specs.Standing.{Meaning, FreeAt, Stage, KeptIs, StandsIn}
use Rattle.cw_game.proofs.Places.{at_settle}
use Rattle.cw_game.proofs.Fronts.{seam_settled, next_stage, after_split, in_policy, split_is_call, within_first}
use Rattle.cw_game.specs.declared.spots.Spot.{Spot}

pub same_kept : (Means : Meaning) (k : Option Caps) (o : Option ℕ) → KeptIs Means k o → is_some k ≡ is_some o
same_kept Means None None h = refl
same_kept Means (Some caps) (Some q) h = refl
same_kept Means None (Some q) h = absurd h
same_kept Means (Some caps) None h = absurd h

pub mode_kept : (Means : Meaning) (split : Bool) (q : ℕ) (word : Word) (caps : Caps) → Means q word caps → KeptIs Means (mode_of split caps) (kept_at split q)
mode_kept Means true q word caps h = (word, h)
mode_kept Means false q word caps h = tt

-- a state's meaning, where a step adds no letter
pub no_letter : (Means : Meaning) (q : ℕ) (word letters : Word) (caps : Caps) → letters ≡ [] → Means q word caps → Means q (word ++ letters) caps
no_letter Means q word letters caps e h = subst (λ w. Means q w caps) (sym (ap (λ l. word ++ l) e ∙ append-nil word)) h

two_more : (o : ℕ) → o + 1 + 1 ≡ o + 2
two_more o = omega arith

three_more : (o : ℕ) → o + 1 + 2 ≡ o + 2 + 1
three_more o = omega arith

module _ (Means : Meaning) (g : List Spot) (pol : PlainPolicy) (x : ℕ) where
  -- the next stage of a visit, or the free position behind it
  pub stage_at : (frame : Frame) (caps : Caps) (word : Word) (i : ℕ) (later : List Primitive) (p q : ℕ) → Stage g pol x frame i later p → Means q word caps
      → StandsIn Means g pol x frame caps word (onward i later) p q
  stage_at frame caps word i [] p q s h = (subst (λ y. FreeAt g pol x frame y) (sym s.4) s.3, h, seam_settled frame s.1 s.2)
  stage_at frame caps word i (a ∷ later) p q s h = (s, h)

  pub onward_at : (frame : Frame) (caps : Caps) (word : Word) (i : ℕ) (a : Primitive) (later : List Primitive) (o p q : ℕ) → Stage g pol x frame i (a ∷ later) o → p ≡ o + 2
      → Means q word caps → StandsIn Means g pol x frame caps word (onward (suc i) later) p q
  onward_at frame caps word i a later o p q s e h =
      subst (λ y. StandsIn Means g pol x frame caps word (onward (suc i) later) y q) (sym e) (stage_at frame caps word (suc i) later (o + 2) q (next_stage g pol x frame i a later o s) h)

  -- a frame begins where it stands
  pub begins_at : (frame : Frame) (caps : Caps) (word : Word) (p q : ℕ) → At g pol x frame p → Means q word caps → settled frame ≡ true
      → StandsIn Means g pol x frame caps word (onward 0 (primitives_in pol frame)) p q
  begins_at [] caps word p q a h t = absurd a.2
  begins_at (Entry f j ∷ is) caps word p q a h t = stage_at (Entry f j ∷ is) caps word 0 (primitives pol false) p q (a.2.0, j, refl, (a.0, a.1, a.2.2), a.2.1, λ b m. m) h
  begins_at (Todo (Label at mark j l s) ∷ is) caps word p q a h t =
      stage_at (Todo (Label at mark j l s) ∷ is) caps word 0 (primitives pol false) p q (a.2.1.0, j, refl, (a.0, a.1, (a.2.0, a.2.1.2, a.2.2)), a.2.1.1, λ b m. m) h
  begins_at (Todo (Call at j callee) ∷ is) caps word p q a h t =
      stage_at (Todo (Call at j callee) ∷ is) caps word 0 (primitives pol callee.split) p q (a.2.1.0, j, refl, (a.0, a.1, (a.2.0, a.2.1.2, a.2.2)), a.2.1.1, λ b m. m) h
  begins_at (Todo (Plain at) ∷ is) caps word p q a h t = (a, h, t)
  begins_at (Todo (Break at) ∷ is) caps word p q a h t = (a, h, t)
  begins_at (Todo (Continue at) ∷ is) caps word p q a h t = (a, h, t)
  begins_at (Todo (Return at) ∷ is) caps word p q a h t = (a, h, t)
  begins_at (Todo (Open at j d) ∷ is) caps word p q a h t = (a, h, t)
  begins_at (Todo (Close at j d) ∷ is) caps word p q a h t = (a, h, t)
  begins_at (Todo (Group ss) ∷ is) caps word p q a h t = (a, h, t)
  begins_at (Todo (If at s u) ∷ is) caps word p q a h t = (a, h, t)
  begins_at (Todo (While at s) ∷ is) caps word p q a h t = (a, h, t)
  begins_at (Todo (Do at s) ∷ is) caps word p q a h t = (a, h, t)
  begins_at (Todo (For at init decided stepped s) ∷ is) caps word p q a h t = (a, h, t)
  begins_at (Test at decided stepped s ∷ is) caps word p q a h t = (a, h, t)
  begins_at (After at ∷ is) caps word p q a h t = (a, h, t)
  begins_at (LoopEnd ∷ is) caps word p q a h t = (a, h, t)
  begins_at (End f ∷ is) caps word p q a h t = (a, h, t)

  -- what a step leaves, rewritten, begins where it stands
  pub lands_at : (raw : Frame) (caps : Caps) (word : Word) (p q : ℕ) → At g pol x raw p → Means q word caps
      → StandsIn Means g pol x (settle raw) caps word (onward 0 (primitives_in pol (settle raw))) p q
  lands_at raw caps word p q a h = begins_at (settle raw) caps word p q (at_settle g pol x raw p a) h (settle_settled raw)

  -- what is refused leaves the next stage
  pub refused_at : (frame : Frame) (caps : Caps) (word : Word) (i : ℕ) (a : Primitive) (later : List Primitive) (o p q : ℕ) → Stage g pol x frame i (a ∷ later) o → p ≡ o + 1
      → Means q word caps → StandsIn Means g pol x frame caps word (onward (suc i) later) (p + 1) q
  refused_at frame caps word i a later o p q s e h = onward_at frame caps word i a later o (p + 1) q s (ap (λ n. n + 1) e ∙ two_more o) h

module _ (Means : Meaning) (g : Game) (right : AreStates g.policy g.spots g.states Means) where
  -- what may be granted and refused, by the state
  pub grants_is : (x : ℕ) (frame : Frame) (caps : Caps) (word : Word) (i : ℕ) (a : Primitive) (later : List Primitive) (o q : ℕ) → Stage g.spots g.policy x frame i (a ∷ later) o
      → Means q word caps → g.states.may_grant q a ≡ may_grant caps a
  grants_is x frame caps word i a later o q s h = right.grants q word caps a (in_policy g.policy frame a (within_first g.policy frame a later s.5)) h

  pub refuses_is : (x : ℕ) (frame : Frame) (caps : Caps) (word : Word) (i : ℕ) (a : Primitive) (later : List Primitive) (o q : ℕ) → Stage g.spots g.policy x frame i (a ∷ later) o
      → Means q word caps → may_refuse_in g q a ≡ may_refuse g.policy caps a
  refuses_is x frame caps word i a later o q s h = rw (grants_is x frame caps word i a later o q s h) refl

  pub stops_is : (x : ℕ) (frame : Frame) (caps : Caps) (word : Word) (i : ℕ) (a : Primitive) (later : List Primitive) (o q : ℕ) → Stage g.spots g.policy x frame i (a ∷ later) o
      → Means q word caps → can_stop_in g q a ≡ can_stop g.policy caps a
  stops_is x frame caps word i a later o q s h = rw (grants_is x frame caps word i a later o q s h) refl

  -- what is granted leaves the next stage, with what it does to the capabilities, or a call in a process of its own
  pub granted_at : (x : ℕ) (b : Board) (frame : Frame) (i : ℕ) (a : Primitive) (later : List Primitive) (o p q : ℕ) (rets : List Ret) → Stage g.spots g.policy x frame i (a ∷ later) o
      → p ≡ o + 1 → Means q b.word b.caps → may_grant b.caps a ≡ true
      → let next = granted b i a later in let c = past_asked g p q a rets in StandsIn Means g.spots g.policy x frame next.caps next.word next.phase c.pos c.state
  granted_at x b frame i Split later o p q rets s e h y =
      let z = after_split g.spots g.policy x frame i later o s in
      let call = split_is_call g.policy frame (within_first g.policy frame Split later s.5) in
      (s.0, s.3, call, ap (λ n. n + 2) e ∙ three_more o ∙ ap (λ n. n + 1) z, h)
  granted_at x b frame i a later o p q rets s e h y =
      let m = in_policy g.policy frame a (within_first g.policy frame a later s.5) in
      onward_at Means g.spots g.policy x frame _ b.word i a later o (p + 1) (g.states.granted q a) s (ap (λ n. n + 1) e ∙ two_more o) (right.granted q b.word b.caps a m h y)

  -- the state after a return stands for the word, with the capabilities that are given back
  pub given_is : (k : Option Caps) (kept : List (Option Caps)) (o : Option ℕ) (q : ℕ) (word : Word) (caps : Caps) → KeptIs Means k o → Means q word caps
      → Means (returned g.states o q) word (given_back (k ∷ kept) caps)
  given_is None kept None q word caps h m = m
  given_is (Some before) kept (Some q2) q word caps h m = right.returned q q2 word h.0 caps before m h.1
  given_is None kept (Some q2) q word caps h m = absurd h
  given_is (Some before) kept None q word caps h m = absurd h

  -- a called function begins at its entry
  pub enters_at : (plan : Plan) (f : ℕ) (r : Routine) (caps : Caps) (word : Word) (q : ℕ) → At g.spots g.policy (g.exit f) (new_frame f r) (g.entry f) → Means q word caps
      → StandsIn Means g.spots g.policy (g.exit f) (new_frame f r) caps word (onward 0 (primitives g.policy false)) (g.entry f) q
  enters_at plan f r caps word q a h = begins_at Means g.spots g.policy (g.exit f) (new_frame f r) caps word (g.entry f) q a h refl
