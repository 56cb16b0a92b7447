-- What the weaver's moves and the answers to them leave of a phase: nothing is asked any more, and fewer primitives are to come.
use Rattle.std.proofs.Common.{◌≡◌, ℕ, suc, ◌≤◌, List, [], ◌∷◌, map, length, Bool, true, false, cond, not, ◌||◌, Some, refl, sym, ap, subst, ◌∙◌, arith}
use Rattle.std.proofs.lemmas.Option.{none-some, same_Some, cond_some}
use Rattle.std.proofs.lemmas.List.{length-append, length-map}
use Rattle.cw_rights.specs.declared.capabilities.Primitive.{Primitive}
use Rattle.cw_rights.specs.declared.capabilities.Primitive.TheVariants.{Limit, Enter, Split}
use Rattle.cw_rights.specs.Policies.{PlainPolicy, is_refusable, primitives}
use Rattle.cw_certs.specs.declared.moves.Move.{Move}
use Rattle.cw_certs.specs.declared.moves.Move.TheVariants.{Skip, Try, Grant, Refuse}
use Rattle.cw_syntax.specs.Plans.{Plain, Break, Continue, Return, Open, Close, Call, Group, Label, If, While, Do, For}
use Rattle.cw_syntax.specs.Frames.{Entry, Todo, Test, After, LoopEnd, End, Frame}
use Rattle.cw_model.specs.Boards.{Problem, Phase, Visit, Asked, Refused as RefusedPhase, Board, begin, onward, primitives_in, granted, refused, passed_by, answered, moved, may_grant, may_refuse, can_stop, is_refused}
use Rattle.cw_woven_values.specs.Standing.{IsCalm, to_come}

pub onward_calm : (stage : ℕ) (later : List Primitive) → IsCalm (onward stage later)
onward_calm stage [] = tt
onward_calm stage (a ∷ later) = tt

pub onward_come : (stage : ℕ) (later : List Primitive) → to_come (onward stage later) ≡ length later
onward_come stage [] = refl
onward_come stage (a ∷ later) = refl

-- a phase behind one with so many primitives to come
pub record IsPast (n : ℕ) (phase : Phase) : Type 0 where
  pub calm : IsCalm phase
  pub less : suc (to_come phase) ≤ n

onward_past : (stage : ℕ) (later : List Primitive) → IsPast (suc (length later)) (onward stage later)
onward_past stage later = record { calm = onward_calm stage later; less = let e = onward_come stage later in omega arith }

module _ (p : Problem) where
  abbrev phase_of : Board → Phase
  phase_of b = b.phase

  -- a skip
  pub skipped : (b next : Board) (phase : Phase) → moved p b phase Skip ≡ Some next → IsPast (to_come phase) next.phase
  skipped b next (Visit i a later) e = subst (λ z. IsPast (suc (length later)) (phase_of z)) (same_Some (passed_by b i later) next e) (onward_past (suc i) later)
  skipped b next (RefusedPhase i a later) e = subst (λ z. IsPast (suc (length later)) (phase_of z)) (same_Some (passed_by b i later) next e) (onward_past (suc i) later)
  skipped b next (Asked i a later) e = absurd (none-some next e)
  skipped b next _ e = absurd (none-some next e)

  -- a try
  pub tried : (b next : Board) (i : ℕ) (a : Primitive) (later : List Primitive) → moved p b (Visit i a later) Try ≡ Some next → next.phase ≡ Asked i a later
  tried b next i a later e = sym (ap phase_of (same_Some (record b { phase = Asked i a later }) next e))

  granted_past : (b : Board) (i : ℕ) (a : Primitive) (later : List Primitive) → IsPast (suc (length later)) (granted b i a later).phase
  granted_past b i Split later = record { calm = tt; less = omega arith }
  granted_past b i Enter later = onward_past (suc i) later
  granted_past b i (Limit l) later = onward_past (suc i) later

  refused_past : (b : Board) (i : ℕ) (a : Primitive) (later : List Primitive) → is_refused (refused p b i a later).phase ≡ false → IsPast (suc (length later)) (refused p b i a later).phase
  refused_past b i a later = on (can_stop p.policy b.caps a)
    where
      on : (stops : Bool) → is_refused (cond stops (RefusedPhase i a later) (onward (suc i) later)) ≡ false → IsPast (suc (length later)) (cond stops (RefusedPhase i a later) (onward (suc i) later))
      on true e = cc
      on false e = onward_past (suc i) later

  -- an answer after which the weaver hasn't the turn
  pub answered_past : (b next : Board) (i : ℕ) (a : Primitive) (later : List Primitive) (by : Move) → answered p b i a later by ≡ Some next → is_refused next.phase ≡ false
      → IsPast (suc (length later)) next.phase
  answered_past b next i a later Grant e n = subst (λ z. IsPast (suc (length later)) (phase_of z)) (cond_some (may_grant b.caps a) (granted b i a later) next e).1 (granted_past b i a later)
  answered_past b next i a later Refuse e n =
      let same = (cond_some (may_refuse p.policy b.caps a) (refused p b i a later) next e).1 in
      subst (λ z. IsPast (suc (length later)) (phase_of z)) same (refused_past b i a later (ap (λ z. is_refused (phase_of z)) same ∙ n))
  answered_past b next i a later _ e n = absurd (none-some next e)

  -- and one after which it has
  refused_kept : (b : Board) (i : ℕ) (a : Primitive) (later : List Primitive) → to_come (refused p b i a later).phase ≤ suc (length later)
  refused_kept b i a later = on (can_stop p.policy b.caps a)
    where
      on : (stops : Bool) → to_come (cond stops (RefusedPhase i a later) (onward (suc i) later)) ≤ suc (length later)
      on true = omega arith
      on false = let e = onward_come (suc i) later in omega arith

  pub refusal_kept : (b next : Board) (i : ℕ) (a : Primitive) (later : List Primitive) → answered p b i a later Refuse ≡ Some next → to_come next.phase ≤ suc (length later)
  refusal_kept b next i a later e =
      subst (λ z. to_come (phase_of z) ≤ suc (length later)) (cond_some (may_refuse p.policy b.caps a) (refused p b i a later) next e).1 (refused_kept b i a later)

  -- ---- which answers are moves

  pub may_grant_so : (b next : Board) (i : ℕ) (a : Primitive) (later : List Primitive) → answered p b i a later Grant ≡ Some next → may_grant b.caps a ≡ true
  may_grant_so b next i a later e = (cond_some (may_grant b.caps a) (granted b i a later) next e).0

  pub may_refuse_so : (b next : Board) (i : ℕ) (a : Primitive) (later : List Primitive) → answered p b i a later Refuse ≡ Some next → may_refuse p.policy b.caps a ≡ true
  may_refuse_so b next i a later e = (cond_some (may_refuse p.policy b.caps a) (refused p b i a later) next e).0

  -- one of them is
  pub one_answer : (b : Board) (a : Primitive) → may_grant b.caps a ≡ false → may_refuse p.policy b.caps a ≡ false → ⊥
  one_answer b a e f = absurd (let clash : true ≡ false = sym (ap (λ x. not x || is_refusable p.policy a) e) ∙ f in cc)

-- a front begins calm, with few primitives
pub begin_calm : (policy : PlainPolicy) (frame : Frame) (frames : List Frame) → IsCalm (begin policy (frame ∷ frames))
begin_calm policy frame frames = onward_calm 0 (primitives_in policy frame)

split_few : (split : Bool) → length (cond {A = List Primitive} split (Split ∷ []) []) ≤ 1
split_few true = omega arith
split_few false = omega arith

module _ (policy : PlainPolicy) (few : length policy.limits ≤ 12) where
  primitives_few : (split : Bool) → length (primitives policy split) ≤ 14
  primitives_few split =
      let a = length-append (map (λ limit. Limit limit) policy.limits) (Enter ∷ cond split (Split ∷ []) []) in
      let b = length-map policy.limits (λ limit. Limit limit) in
      let c = split_few split in
      omega arith

  front_few : (frame : Frame) → length (primitives_in policy frame) ≤ 14
  front_few [] = omega arith
  front_few (Entry f j ∷ is) = primitives_few false
  front_few (Test at d u s ∷ is) = omega arith
  front_few (After at ∷ is) = omega arith
  front_few (LoopEnd ∷ is) = omega arith
  front_few (End f ∷ is) = omega arith
  front_few (Todo (Label at mark j l s) ∷ is) = primitives_few false
  front_few (Todo (Call at j callee) ∷ is) = primitives_few callee.split
  front_few (Todo (Plain at) ∷ is) = omega arith
  front_few (Todo (Break at) ∷ is) = omega arith
  front_few (Todo (Continue at) ∷ is) = omega arith
  front_few (Todo (Return at) ∷ is) = omega arith
  front_few (Todo (Open at j d) ∷ is) = omega arith
  front_few (Todo (Close at j d) ∷ is) = omega arith
  front_few (Todo (Group ss) ∷ is) = omega arith
  front_few (Todo (If at a b) ∷ is) = omega arith
  front_few (Todo (While at a) ∷ is) = omega arith
  front_few (Todo (Do at a) ∷ is) = omega arith
  front_few (Todo (For at init d u a) ∷ is) = omega arith

  pub begin_few : (frame : Frame) (frames : List Frame) → to_come (begin policy (frame ∷ frames)) ≤ 14
  begin_few frame frames = let a = onward_come 0 (primitives_in policy frame) in let b = front_few frame in omega arith
