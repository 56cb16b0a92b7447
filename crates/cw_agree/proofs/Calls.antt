-- What holds of each call in a function's statements holds of each call in a frame of that function, however far it has come.
use Rattle.std.proofs.Common.{ℕ, ◌+◌, List, [], ◌∷◌, Bool, true, false, Option, Some, None}
use Rattle.std.specs.List.{AllByRecursion, Contains}
use Rattle.std.proofs.lemmas.List.Elements.{Contains-push, Contains-append_left, Contains-append_right}
use Rattle.cw_syntax.specs.Trees.{Statement, Stated, Form, Block, Declares, Evaluates, Empties, Labels, Chooses, Whiles, Does, Fors, Breaks, Continues, Returns, Perhaps, nothing, just, Statements, nil, cons}
use Rattle.cw_syntax.specs.Plans.{Callee, Scene, Stm, Plain, Break, Continue, Return, Open, Close, Call, Group, Label, If, While, Do, For, Stms, end, then, acting, action_of, steps_of, steps_of_form, steps_of_arm, steps_of_all, numbered, numbered_all, seams}
use Rattle.cw_syntax.specs.Frames.{Item, Entry, Todo, Test, After, LoopEnd, End, Frame, items_of, init_if, after_if, expanded, expanded_all, settle, broken, continued, ended, Way, On, Left, Right, Opened, Failed, after}
use Rattle.cw_callgraph.specs.Effects.{callees, callees_all}
use Rattle.cw_value.specs.Deeds.{said, said_if, said_init, said_all}
use Rattle.cw_agree.proofs.Forbidden.{every_both}

-- one thing of the calls with their places, the other of their numbers
abbrev mutual
  pub CallsIn : (ℕ → Callee → Type 0) → Stm → Type 0
  CallsIn P (Call at j callee) = P at callee
  CallsIn P (Group ss) = CallsInAll P ss
  CallsIn P (Label at mark j l s) = CallsIn P s
  CallsIn P (If at s t) = CallsIn P s × CallsIn P t
  CallsIn P (While at s) = CallsIn P s
  CallsIn P (Do at s) = CallsIn P s
  CallsIn P (For at init d u s) = CallsIn P s
  CallsIn P _ = Unit {0}

  pub CallsInAll : (ℕ → Callee → Type 0) → Stms → Type 0
  CallsInAll P end = Unit {0}
  CallsInAll P (then s ss) = CallsIn P s × CallsInAll P ss

module _ (P Q R : ℕ → Callee → Type 0) (join : (at : ℕ) (c : Callee) → P at c → Q at c → R at c) where
  mutual
    both_calls : (s : Stm) → CallsIn P s → CallsIn Q s → CallsIn R s
    both_calls (Call at j callee) p q = join at callee p q
    both_calls (Group ss) p q = all_calls ss p q
    both_calls (Label at mark j l s) p q = both_calls s p q
    both_calls (If at s t) p q = (both_calls s p.0 q.0, both_calls t p.1 q.1)
    both_calls (While at s) p q = both_calls s p q
    both_calls (Do at s) p q = both_calls s p q
    both_calls (For at init d u s) p q = both_calls s p q
    both_calls (Plain at) p q = tt
    both_calls (Break at) p q = tt
    both_calls (Continue at) p q = tt
    both_calls (Return at) p q = tt
    both_calls (Open at j d) p q = tt
    both_calls (Close at j d) p q = tt

    pub all_calls : (ss : Stms) → CallsInAll P ss → CallsInAll Q ss → CallsInAll R ss
    all_calls end p q = tt
    all_calls (then s ss) p q = (both_calls s p.0 q.0, all_calls ss p.1 q.1)

-- each call's number is among those that a statement calls
mutual
  numbers_in : (l : List ℕ) (s : Stm) → ((g : ℕ) → Contains (callees s) g → Contains l g) → CallsIn (λ at c. Contains l c.number) s
  numbers_in l (Call at j callee) h = h callee.number (Contains-push [] callee.number)
  numbers_in l (Group ss) h = numbers_in_all l ss h
  numbers_in l (Label at mark j k s) h = numbers_in l s h
  numbers_in l (If at s t) h =
      (numbers_in l s (λ g c. h g (Contains-append_left (callees s) (callees t) g c)), numbers_in l t (λ g c. h g (Contains-append_right (callees s) (callees t) g c)))
  numbers_in l (While at s) h = numbers_in l s h
  numbers_in l (Do at s) h = numbers_in l s h
  numbers_in l (For at init d u s) h = numbers_in l s h
  numbers_in l (Plain at) h = tt
  numbers_in l (Break at) h = tt
  numbers_in l (Continue at) h = tt
  numbers_in l (Return at) h = tt
  numbers_in l (Open at j d) h = tt
  numbers_in l (Close at j d) h = tt

  pub numbers_in_all : (l : List ℕ) (ss : Stms) → ((g : ℕ) → Contains (callees_all ss) g → Contains l g) → CallsInAll (λ at c. Contains l c.number) ss
  numbers_in_all l end h = tt
  numbers_in_all l (then s ss) h =
      (numbers_in l s (λ g c. h g (Contains-append_left (callees s) (callees_all ss) g c)), numbers_in_all l ss (λ g c. h g (Contains-append_right (callees s) (callees_all ss) g c)))

module _ (P : ℕ → Callee → Type 0) where
  -- ---- statements

  mutual
    numbered_calls : (s : Stm) (j : ℕ) → CallsIn P s → CallsIn P (numbered s j)
    numbered_calls (Call at i callee) j h = h
    numbered_calls (Group ss) j h = numbered_all_calls ss j h
    numbered_calls (Label at mark i l s) j h = numbered_calls s (j + 1) h
    numbered_calls (If at s t) j h = (numbered_calls s j h.0, numbered_calls t (j + seams s) h.1)
    numbered_calls (While at s) j h = numbered_calls s j h
    numbered_calls (Do at s) j h = numbered_calls s j h
    numbered_calls (For at init d u s) j h = numbered_calls s j h
    numbered_calls (Plain at) j h = tt
    numbered_calls (Break at) j h = tt
    numbered_calls (Continue at) j h = tt
    numbered_calls (Return at) j h = tt
    numbered_calls (Open at i d) j h = tt
    numbered_calls (Close at i d) j h = tt

    pub numbered_all_calls : (ss : Stms) (j : ℕ) → CallsInAll P ss → CallsInAll P (numbered_all ss j)
    numbered_all_calls end j h = tt
    numbered_all_calls (then s ss) j h = (numbered_calls s j h.0, numbered_all_calls ss (j + seams s) h.1)

  module _ (sc : Scene) where
    -- the call of a whole statement
    abbrev pub CalledBy : Statement → Type 0
    CalledBy (Stated (Evaluates e) from to) = CallsIn P (acting (action_of sc e) from)
    CalledBy (Stated _ from to) = Unit {0}

    mutual
      steps_call : (st : Statement) → AllByRecursion CalledBy (said st) → CallsIn P (steps_of sc st)
      steps_call (Stated form from to) h = form_calls form from to h

      form_calls : (form : Form) (from to : ℕ) → AllByRecursion CalledBy (said (Stated form from to)) → CallsIn P (steps_of_form sc from form)
      form_calls (Block ss) from to h = steps_call_all ss h.1
      form_calls (Declares d) from to h = tt
      form_calls (Evaluates e) from to h = h.0
      form_calls Empties from to h = tt
      form_calls (Labels name mark body) from to h = steps_call body h.1
      form_calls (Chooses t a b) from to h = let r = every_both CalledBy (said a) (said_if b) h.1 in (steps_call a r.0, arm_calls b r.1)
      form_calls (Whiles t a) from to h = steps_call a h.1
      form_calls (Does a t) from to h = steps_call a h.1
      form_calls (Fors i t u a) from to h = steps_call a (every_both CalledBy (said_init i) (said a) h.1).1
      form_calls Breaks from to h = tt
      form_calls Continues from to h = tt
      form_calls (Returns e) from to h = tt

      arm_calls : (p : Perhaps) → AllByRecursion CalledBy (said_if p) → CallsIn P (steps_of_arm sc p)
      arm_calls nothing h = tt
      arm_calls (just a) h = steps_call a h

      pub steps_call_all : (ss : Statements) → AllByRecursion CalledBy (said_all ss) → CallsInAll P (steps_of_all sc ss)
      steps_call_all nil h = tt
      steps_call_all (cons one rest) h = let r = every_both CalledBy (said one) (said_all rest) h in (steps_call one r.0, steps_call_all rest r.1)

  -- ---- frames

  abbrev pub ItemHas : Item → Type 0
  ItemHas (Todo s) = CallsIn P s
  ItemHas (Test at d u s) = CallsIn P s
  ItemHas _ = Unit {0}

  abbrev pub FrameHas : Frame → Type 0
  FrameHas is = AllByRecursion ItemHas is

  pub items_have : (ss : Stms) (rest : Frame) → CallsInAll P ss → FrameHas rest → FrameHas (items_of ss rest)
  items_have end rest h r = r
  items_have (then s ss) rest h r = (h.0, items_have ss rest h.1 r)

  init_has : (init : Option ℕ) (rest : Frame) → FrameHas rest → FrameHas (init_if init rest)
  init_has None rest h = h
  init_has (Some at) rest h = (tt, h)

  after_if_has : (b : Bool) (at : ℕ) (rest : Frame) → FrameHas rest → FrameHas (after_if b at rest)
  after_if_has true at rest h = (tt, h)
  after_if_has false at rest h = h

  mutual
    expanded_has : (s : Stm) (rest next : Frame) → CallsIn P s → FrameHas rest → FrameHas next → FrameHas (expanded s rest next)
    expanded_has (Plain at) rest next h r n = (tt, r)
    expanded_has (Break at) rest next h r n = (tt, r)
    expanded_has (Continue at) rest next h r n = (tt, r)
    expanded_has (Return at) rest next h r n = (tt, r)
    expanded_has (Open at j d) rest next h r n = (tt, r)
    expanded_has (Close at j d) rest next h r n = (tt, r)
    expanded_has (Call at j callee) rest next h r n = (h, r)
    expanded_has (Group ss) rest next h r n = expanded_all_has ss rest next h r n
    expanded_has (Label at mark j l s) rest next h r n = (h, r)
    expanded_has (If at s t) rest next h r n = (h, r)
    expanded_has (While at s) rest next h r n = (h, (tt, r))
    expanded_has (Do at s) rest next h r n = expanded_has s (Test at true false s ∷ (LoopEnd ∷ rest)) (Test at true false s ∷ (LoopEnd ∷ rest)) h (h, (tt, r)) (h, (tt, r))
    expanded_has (For at init d u s) rest next h r n = init_has init (Test at d u s ∷ (LoopEnd ∷ rest)) (h, (tt, r))

    expanded_all_has : (ss : Stms) (rest next : Frame) → CallsInAll P ss → FrameHas rest → FrameHas next → FrameHas (expanded_all ss rest next)
    expanded_all_has end rest next h r n = n
    expanded_all_has (then s ss) rest next h r n = expanded_has s (items_of ss rest) (expanded_all ss rest next) h.0 (items_have ss rest h.1 r) (expanded_all_has ss rest next h.1 r n)

  pub settle_has : (is : Frame) → FrameHas is → FrameHas (settle is)
  settle_has [] h = tt
  settle_has (Entry f j ∷ rest) h = h
  settle_has (Todo s ∷ rest) h = expanded_has s rest (settle rest) h.0 h.1 (settle_has rest h.1)
  settle_has (Test at d u s ∷ rest) h = h
  settle_has (After at ∷ rest) h = h
  settle_has (LoopEnd ∷ rest) h = settle_has rest h.1
  settle_has (End f ∷ rest) h = h

  abbrev pub HasIf : Option Frame → Type 0
  HasIf None = Unit {0}
  HasIf (Some is) = FrameHas is

  broken_has : (is : Frame) → FrameHas is → HasIf (broken is)
  broken_has [] h = tt
  broken_has (LoopEnd ∷ rest) h = h.1
  broken_has (Entry f j ∷ rest) h = broken_has rest h.1
  broken_has (Todo s ∷ rest) h = broken_has rest h.1
  broken_has (Test at d u s ∷ rest) h = broken_has rest h.1
  broken_has (After at ∷ rest) h = broken_has rest h.1
  broken_has (End f ∷ rest) h = broken_has rest h.1

  continued_has : (is : Frame) → FrameHas is → HasIf (continued is)
  continued_has [] h = tt
  continued_has (Test at d u s ∷ rest) h = h
  continued_has (After at ∷ rest) h = h
  continued_has (LoopEnd ∷ rest) h = continued_has rest h.1
  continued_has (Entry f j ∷ rest) h = continued_has rest h.1
  continued_has (Todo s ∷ rest) h = continued_has rest h.1
  continued_has (End f ∷ rest) h = continued_has rest h.1

  ended_has : (is : Frame) → FrameHas is → FrameHas (ended is)
  ended_has [] h = tt
  ended_has (End f ∷ rest) h = (tt, ended_has rest h.1)
  ended_has (Entry f j ∷ rest) h = ended_has rest h.1
  ended_has (Todo s ∷ rest) h = ended_has rest h.1
  ended_has (Test at d u s ∷ rest) h = ended_has rest h.1
  ended_has (After at ∷ rest) h = ended_has rest h.1
  ended_has (LoopEnd ∷ rest) h = ended_has rest h.1

  pub after_has : (i : Item) (way : Way) (rest : Frame) → ItemHas i → FrameHas rest → HasIf (after i way rest)
  after_has (Entry f j) On rest h r = r
  after_has (Entry f j) Left rest h r = tt
  after_has (Entry f j) Right rest h r = tt
  after_has (Entry f j) Opened rest h r = tt
  after_has (Entry f j) Failed rest h r = tt
  after_has (Todo (Plain at)) On rest h r = r
  after_has (Todo (Plain at)) Left rest h r = tt
  after_has (Todo (Plain at)) Right rest h r = tt
  after_has (Todo (Plain at)) Opened rest h r = tt
  after_has (Todo (Plain at)) Failed rest h r = tt
  after_has (Todo (Break at)) On rest h r = broken_has rest r
  after_has (Todo (Break at)) Left rest h r = tt
  after_has (Todo (Break at)) Right rest h r = tt
  after_has (Todo (Break at)) Opened rest h r = tt
  after_has (Todo (Break at)) Failed rest h r = tt
  after_has (Todo (Continue at)) On rest h r = continued_has rest r
  after_has (Todo (Continue at)) Left rest h r = tt
  after_has (Todo (Continue at)) Right rest h r = tt
  after_has (Todo (Continue at)) Opened rest h r = tt
  after_has (Todo (Continue at)) Failed rest h r = tt
  after_has (Todo (Return at)) On rest h r = ended_has rest r
  after_has (Todo (Return at)) Left rest h r = tt
  after_has (Todo (Return at)) Right rest h r = tt
  after_has (Todo (Return at)) Opened rest h r = tt
  after_has (Todo (Return at)) Failed rest h r = tt
  after_has (Todo (Open at j d)) On rest h r = tt
  after_has (Todo (Open at j d)) Left rest h r = tt
  after_has (Todo (Open at j d)) Right rest h r = tt
  after_has (Todo (Open at j d)) Opened rest h r = r
  after_has (Todo (Open at j d)) Failed rest h r = r
  after_has (Todo (Close at j d)) On rest h r = r
  after_has (Todo (Close at j d)) Left rest h r = tt
  after_has (Todo (Close at j d)) Right rest h r = tt
  after_has (Todo (Close at j d)) Opened rest h r = tt
  after_has (Todo (Close at j d)) Failed rest h r = tt
  after_has (Todo (Label at mark j l s)) On rest h r = (h, r)
  after_has (Todo (Label at mark j l s)) Left rest h r = tt
  after_has (Todo (Label at mark j l s)) Right rest h r = tt
  after_has (Todo (Label at mark j l s)) Opened rest h r = tt
  after_has (Todo (Label at mark j l s)) Failed rest h r = tt
  after_has (Todo (If at s t)) On rest h r = tt
  after_has (Todo (If at s t)) Left rest h r = (h.0, r)
  after_has (Todo (If at s t)) Right rest h r = (h.1, r)
  after_has (Todo (If at s t)) Opened rest h r = tt
  after_has (Todo (If at s t)) Failed rest h r = tt
  after_has (Test at true u s) On rest h r = tt
  after_has (Test at true u s) Left rest h r = (h, after_if_has u at (Test at true u s ∷ rest) (h, r))
  after_has (Test at true u s) Right rest h r = r
  after_has (Test at true u s) Opened rest h r = tt
  after_has (Test at true u s) Failed rest h r = tt
  after_has (Test at false u s) On rest h r = (h, after_if_has u at (Test at false u s ∷ rest) (h, r))
  after_has (Test at false u s) Left rest h r = tt
  after_has (Test at false u s) Right rest h r = tt
  after_has (Test at false u s) Opened rest h r = tt
  after_has (Test at false u s) Failed rest h r = tt
  after_has (After at) On rest h r = r
  after_has (After at) Left rest h r = tt
  after_has (After at) Right rest h r = tt
  after_has (After at) Opened rest h r = tt
  after_has (After at) Failed rest h r = tt
  after_has LoopEnd On rest h r = tt
  after_has LoopEnd Left rest h r = tt
  after_has LoopEnd Right rest h r = tt
  after_has LoopEnd Opened rest h r = tt
  after_has LoopEnd Failed rest h r = tt
  after_has (End f) On rest h r = tt
  after_has (End f) Left rest h r = tt
  after_has (End f) Right rest h r = tt
  after_has (End f) Opened rest h r = tt
  after_has (End f) Failed rest h r = tt
  after_has (Todo (Call at j callee)) On rest h r = tt
  after_has (Todo (Call at j callee)) Left rest h r = tt
  after_has (Todo (Call at j callee)) Right rest h r = tt
  after_has (Todo (Call at j callee)) Opened rest h r = tt
  after_has (Todo (Call at j callee)) Failed rest h r = tt
  after_has (Todo (Group ss)) On rest h r = tt
  after_has (Todo (Group ss)) Left rest h r = tt
  after_has (Todo (Group ss)) Right rest h r = tt
  after_has (Todo (Group ss)) Opened rest h r = tt
  after_has (Todo (Group ss)) Failed rest h r = tt
  after_has (Todo (While at s)) On rest h r = tt
  after_has (Todo (While at s)) Left rest h r = tt
  after_has (Todo (While at s)) Right rest h r = tt
  after_has (Todo (While at s)) Opened rest h r = tt
  after_has (Todo (While at s)) Failed rest h r = tt
  after_has (Todo (Do at s)) On rest h r = tt
  after_has (Todo (Do at s)) Left rest h r = tt
  after_has (Todo (Do at s)) Right rest h r = tt
  after_has (Todo (Do at s)) Opened rest h r = tt
  after_has (Todo (Do at s)) Failed rest h r = tt
  after_has (Todo (For at init d u s)) On rest h r = tt
  after_has (Todo (For at init d u s)) Left rest h r = tt
  after_has (Todo (For at init d u s)) Right rest h r = tt
  after_has (Todo (For at init d u s)) Opened rest h r = tt
  after_has (Todo (For at init d u s)) Failed rest h r = tt
