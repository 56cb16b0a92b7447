-- Frames of a program whose jumps stand in loops: what is at the front can be passed, and what is left is such a frame.
use Rattle.std.proofs.Common.{◌≡◌, ℕ, [], ◌∷◌, Bool, true, false, ◌&&◌, Option, Some, None, refl, sym, ap, subst, ◌∙◌, inl, inr}
use Rattle.std.proofs.lemmas.Bool.{and_from}
use Rattle.cw_lemmas.proofs.Truths.{and_first, and_second}
use Rattle.cw_syntax.specs.Plans.{Stm, Plain, Break, Continue, Return, Open, Close, Call, Group, Label, If, While, Do, For, Stms, end, then}
use Rattle.cw_syntax.specs.Frames.{Item, Entry, Todo, Test, After, LoopEnd, End, Frame, items_of, init_if, after_if, expanded, expanded_all, settle, broken, continued, ended, Way, after}
use Rattle.cw_syntax.specs.Runnable.{Lands, LandsAll}
use Rattle.cw_agree.proofs.Ways.{kind_of, IsWay}

-- the end of a loop is ahead, and its next turn
abbrev has_loop_end : Frame → Bool
has_loop_end [] = false
has_loop_end (LoopEnd ∷ rest) = true
has_loop_end (End f ∷ rest) = false
has_loop_end (Entry f j ∷ rest) = has_loop_end rest
has_loop_end (Todo s ∷ rest) = has_loop_end rest
has_loop_end (Test at d u s ∷ rest) = has_loop_end rest
has_loop_end (After at ∷ rest) = has_loop_end rest

abbrev has_turn : Frame → Bool
has_turn [] = false
has_turn (Test at d u s ∷ rest) = true
has_turn (After at ∷ rest) = true
has_turn (End f ∷ rest) = false
has_turn (LoopEnd ∷ rest) = has_turn rest
has_turn (Entry f j ∷ rest) = has_turn rest
has_turn (Todo s ∷ rest) = has_turn rest

abbrev looped : Frame → Bool
looped rest = has_loop_end rest && has_turn rest

-- a frame goes up to its end, and its jumps lead somewhere
abbrev pub Whole : Frame → Type 0
Whole [] = ⊥
Whole (End f ∷ rest) = Unit {0}
Whole (Entry f j ∷ rest) = Whole rest
Whole (LoopEnd ∷ rest) = Whole rest
Whole (After at ∷ rest) = Whole rest
Whole (Todo s ∷ rest) = Lands (looped rest) s × Whole rest
Whole (Test at d u s ∷ rest) = Lands true s × (has_loop_end rest ≡ true) × Whole rest

-- its front is one that a step passes
abbrev pub SettledItem : Item → Type 0
SettledItem (Todo (Group ss)) = ⊥
SettledItem (Todo (While at s)) = ⊥
SettledItem (Todo (Do at s)) = ⊥
SettledItem (Todo (For at i d u s)) = ⊥
SettledItem LoopEnd = ⊥
SettledItem _ = Unit {0}

abbrev pub Settled : Frame → Type 0
Settled [] = ⊥
Settled (i ∷ rest) = SettledItem i

-- ---- what is ahead in the rest of a block

mark_of : (ss : Stms) (rest : Frame) → has_loop_end (items_of ss rest) ≡ has_loop_end rest
mark_of end rest = refl
mark_of (then s ss) rest = mark_of ss rest

turn_of : (ss : Stms) (rest : Frame) → has_turn (items_of ss rest) ≡ has_turn rest
turn_of end rest = refl
turn_of (then s ss) rest = turn_of ss rest

looped_of : (ss : Stms) (rest : Frame) → looped (items_of ss rest) ≡ looped rest
looped_of ss rest = ap (λ b. b && has_turn (items_of ss rest)) (mark_of ss rest) ∙ ap (λ b. has_loop_end rest && b) (turn_of ss rest)

pub whole_items : (ss : Stms) (rest : Frame) → LandsAll (looped rest) ss → Whole rest → Whole (items_of ss rest)
whole_items end rest h w = w
whole_items (then s ss) rest h w = (subst (λ b. Lands b s) (sym (looped_of ss rest)) h.0, whole_items ss rest h.1 w)

-- ---- settling

whole_init : (init : Option ℕ) (rest : Frame) → Whole rest → Whole (init_if init rest)
whole_init None rest w = w
whole_init (Some at) rest w = (tt, w)

settled_init : (init : Option ℕ) (at : ℕ) (d u : Bool) (s : Stm) (rest : Frame) → Settled (init_if init (Test at d u s ∷ rest))
settled_init None at d u s rest = tt
settled_init (Some from) at d u s rest = tt

abbrev Done : Frame → Type 0
Done is = Whole is × Settled is

mutual
  expanded_done : (s : Stm) (rest next : Frame) → Lands (looped rest) s → Whole rest → Done next → Done (expanded s rest next)
  expanded_done (Plain at) rest next h w n = ((tt, w), tt)
  expanded_done (Break at) rest next h w n = ((h, w), tt)
  expanded_done (Continue at) rest next h w n = ((h, w), tt)
  expanded_done (Return at) rest next h w n = ((tt, w), tt)
  expanded_done (Open at j d) rest next h w n = ((tt, w), tt)
  expanded_done (Close at j d) rest next h w n = ((tt, w), tt)
  expanded_done (Call at j callee) rest next h w n = ((tt, w), tt)
  expanded_done (Group ss) rest next h w n = all_done ss rest next h w n
  expanded_done (Label at mark j l s) rest next h w n = ((h, w), tt)
  expanded_done (If at s t) rest next h w n = ((h, w), tt)
  expanded_done (While at s) rest next h w n = ((h, refl, w), tt)
  expanded_done (Do at s) rest next h w n =
      expanded_done s (Test at true false s ∷ (LoopEnd ∷ rest)) (Test at true false s ∷ (LoopEnd ∷ rest)) h (h, refl, w) ((h, refl, w), tt)
  expanded_done (For at init d u s) rest next h w n = (whole_init init (Test at d u s ∷ (LoopEnd ∷ rest)) (h, refl, w), settled_init init at d u s (LoopEnd ∷ rest))

  all_done : (ss : Stms) (rest next : Frame) → LandsAll (looped rest) ss → Whole rest → Done next → Done (expanded_all ss rest next)
  all_done end rest next h w n = n
  all_done (then s ss) rest next h w n =
      expanded_done s (items_of ss rest) (expanded_all ss rest next) (subst (λ b. Lands b s) (sym (looped_of ss rest)) h.0) (whole_items ss rest h.1 w) (all_done ss rest next h.1 w n)

pub settle_done : (is : Frame) → Whole is → Done (settle is)
settle_done [] w = absurd w
settle_done (Entry f j ∷ rest) w = (w, tt)
settle_done (Todo s ∷ rest) w = expanded_done s rest (settle rest) w.0 w.1 (settle_done rest w.1)
settle_done (Test at d u s ∷ rest) w = (w, tt)
settle_done (After at ∷ rest) w = (w, tt)
settle_done (LoopEnd ∷ rest) w = settle_done rest w
settle_done (End f ∷ rest) w = (tt, tt)

-- ---- passing the front

-- there is a frame after it, and it is whole
abbrev pub Goes : Option Frame → Type 0
Goes None = ⊥
Goes (Some is) = Whole is

broken_goes : (is : Frame) → Whole is → has_loop_end is ≡ true → Goes (broken is)
broken_goes [] w e = absurd w
broken_goes (LoopEnd ∷ rest) w e = w
broken_goes (End f ∷ rest) w e = absurd (cc)
broken_goes (Entry f j ∷ rest) w e = broken_goes rest w e
broken_goes (Todo s ∷ rest) w e = broken_goes rest w.1 e
broken_goes (Test at d u s ∷ rest) w e = broken_goes rest w.2 e
broken_goes (After at ∷ rest) w e = broken_goes rest w e

continued_goes : (is : Frame) → Whole is → has_turn is ≡ true → Goes (continued is)
continued_goes [] w e = absurd w
continued_goes (Test at d u s ∷ rest) w e = w
continued_goes (After at ∷ rest) w e = w
continued_goes (End f ∷ rest) w e = absurd (cc)
continued_goes (LoopEnd ∷ rest) w e = continued_goes rest w e
continued_goes (Entry f j ∷ rest) w e = continued_goes rest w e
continued_goes (Todo s ∷ rest) w e = continued_goes rest w.1 e

ended_whole : (is : Frame) → Whole is → Whole (ended is)
ended_whole [] w = w
ended_whole (End f ∷ rest) w = tt
ended_whole (Entry f j ∷ rest) w = ended_whole rest w
ended_whole (Todo s ∷ rest) w = ended_whole rest w.1
ended_whole (Test at d u s ∷ rest) w = ended_whole rest w.2
ended_whole (After at ∷ rest) w = ended_whole rest w
ended_whole (LoopEnd ∷ rest) w = ended_whole rest w

-- the body of a loop before its next turn
body_whole : (at : ℕ) (d u : Bool) (s : Stm) (rest : Frame) → Lands true s → has_loop_end rest ≡ true → Whole rest → Whole (Todo s ∷ after_if u at (Test at d u s ∷ rest))
body_whole at d true s rest h m w = (subst (λ b. Lands b s) (sym (and_from (has_loop_end rest) true m refl)) h, (h, m, w))
body_whole at d false s rest h m w = (subst (λ b. Lands b s) (sym (and_from (has_loop_end rest) true m refl)) h, (h, m, w))

-- what passes by the step's own item: neither a call nor an end
abbrev pub IsInner : Item → Type 0
IsInner (Todo (Call at j callee)) = ⊥
IsInner (End f) = ⊥
IsInner _ = Unit {0}

pub inner_goes : (i : Item) (way : Way) (rest : Frame) → IsInner i → SettledItem i → Whole (i ∷ rest) → IsWay (kind_of i) way → Goes (after i way rest)
inner_goes (Entry f j) way rest n t w e = subst (λ x. Goes (after (Entry f j) x rest)) (sym e) w
inner_goes (Todo (Plain at)) way rest n t w e = subst (λ x. Goes (after (Todo (Plain at)) x rest)) (sym e) w.1
inner_goes (Todo (Break at)) way rest n t w e = subst (λ x. Goes (after (Todo (Break at)) x rest)) (sym e) (broken_goes rest w.1 (and_first (has_loop_end rest) (has_turn rest) w.0))
inner_goes (Todo (Continue at)) way rest n t w e = subst (λ x. Goes (after (Todo (Continue at)) x rest)) (sym e) (continued_goes rest w.1 (and_second (has_loop_end rest) (has_turn rest) w.0))
inner_goes (Todo (Return at)) way rest n t w e = subst (λ x. Goes (after (Todo (Return at)) x rest)) (sym e) (ended_whole rest w.1)
inner_goes (Todo (Open at j d)) way rest n t w (inl e) = subst (λ x. Goes (after (Todo (Open at j d)) x rest)) (sym e) w.1
inner_goes (Todo (Open at j d)) way rest n t w (inr e) = subst (λ x. Goes (after (Todo (Open at j d)) x rest)) (sym e) w.1
inner_goes (Todo (Close at j d)) way rest n t w e = subst (λ x. Goes (after (Todo (Close at j d)) x rest)) (sym e) w.1
inner_goes (Todo (Label at m j l s)) way rest n t w e = subst (λ x. Goes (after (Todo (Label at m j l s)) x rest)) (sym e) w
inner_goes (Todo (If at a b)) way rest n t w (inl e) = subst (λ x. Goes (after (Todo (If at a b)) x rest)) (sym e) (w.0.0, w.1)
inner_goes (Todo (If at a b)) way rest n t w (inr e) = subst (λ x. Goes (after (Todo (If at a b)) x rest)) (sym e) (w.0.1, w.1)
inner_goes (Test at true u s) way rest n t w (inl e) = subst (λ x. Goes (after (Test at true u s) x rest)) (sym e) (body_whole at true u s rest w.0 w.1 w.2)
inner_goes (Test at true u s) way rest n t w (inr e) = subst (λ x. Goes (after (Test at true u s) x rest)) (sym e) w.2
inner_goes (Test at false u s) way rest n t w e = subst (λ x. Goes (after (Test at false u s) x rest)) (sym e) (body_whole at false u s rest w.0 w.1 w.2)
inner_goes (After at) way rest n t w e = subst (λ x. Goes (after (After at) x rest)) (sym e) w
inner_goes LoopEnd way rest n t w e = absurd t
inner_goes (End f) way rest n t w e = absurd n
inner_goes (Todo (Call at j callee)) way rest n t w e = absurd n
inner_goes (Todo (Group ss)) way rest n t w e = absurd t
inner_goes (Todo (While at s)) way rest n t w e = absurd t
inner_goes (Todo (Do at s)) way rest n t w e = absurd t
inner_goes (Todo (For at i d u s)) way rest n t w e = absurd t
