-- Rewritings lead to the rewritten frame, and to no other.
use Rattle.std.proofs.Common.{◌≡◌, ℕ, [], ◌∷◌, Bool, true, false, Option, Some, None, refl, ap, ◌∙◌}
use Rattle.cw_syntax.specs.Plans.{Stm, Plain, Break, Continue, Return, Open, Close, Call, Group, Label, If, While, Do, For, Stms, end, then}
use Rattle.cw_syntax.specs.Frames.{Entry, Todo, Test, After, LoopEnd, End, Frame, items_of, init_if, expanded, expanded_all, settle, settled}
use Rattle.cw_syntax.specs.Steps.{Rewrites, a_block, a_while, a_do, a_for, a_loop_end, Settles, at_rest, rewritten}

-- a frame whose front is rewritten
abbrev Rewritable : Frame → Type 0
Rewritable (Todo (Group ss) ∷ rest) = Unit {0}
Rewritable (Todo (While at s) ∷ rest) = Unit {0}
Rewritable (Todo (Do at s) ∷ rest) = Unit {0}
Rewritable (Todo (For at init decided stepped s) ∷ rest) = Unit {0}
Rewritable (LoopEnd ∷ rest) = Unit {0}
Rewritable _ = ⊥

rewritable : (frame next : Frame) → Rewrites frame next → Rewritable frame
rewritable _ _ (a_block ss rest) = tt
rewritable _ _ (a_while at s rest) = tt
rewritable _ _ (a_do at s rest) = tt
rewritable _ _ (a_for at init decided stepped s rest) = tt
rewritable _ _ (a_loop_end rest) = tt

rests : (frame : Frame) → (Rewritable frame → ⊥) → Settles frame frame
rests frame h = at_rest frame (λ next r. h (rewritable frame next r))

mutual
  expanded_settles : (s : Stm) (rest next : Frame) → Settles rest next → Settles (Todo s ∷ rest) (expanded s rest next)
  expanded_settles (Plain at) rest next h = rests (Todo (Plain at) ∷ rest) (λ x. x)
  expanded_settles (Break at) rest next h = rests (Todo (Break at) ∷ rest) (λ x. x)
  expanded_settles (Continue at) rest next h = rests (Todo (Continue at) ∷ rest) (λ x. x)
  expanded_settles (Return at) rest next h = rests (Todo (Return at) ∷ rest) (λ x. x)
  expanded_settles (Open at j d) rest next h = rests (Todo (Open at j d) ∷ rest) (λ x. x)
  expanded_settles (Close at j d) rest next h = rests (Todo (Close at j d) ∷ rest) (λ x. x)
  expanded_settles (Call at j callee) rest next h = rests (Todo (Call at j callee) ∷ rest) (λ x. x)
  expanded_settles (Group ss) rest next h = rewritten (Todo (Group ss) ∷ rest) (items_of ss rest) (expanded_all ss rest next) (a_block ss rest) (all_settle ss rest next h)
  expanded_settles (Label at mark j l s) rest next h = rests (Todo (Label at mark j l s) ∷ rest) (λ x. x)
  expanded_settles (If at s t) rest next h = rests (Todo (If at s t) ∷ rest) (λ x. x)
  expanded_settles (While at s) rest next h =
      let loop : Frame = Test at true false s ∷ (LoopEnd ∷ rest) in
      rewritten (Todo (While at s) ∷ rest) loop loop (a_while at s rest) (rests loop (λ x. x))
  expanded_settles (Do at s) rest next h =
      let loop : Frame = Test at true false s ∷ (LoopEnd ∷ rest) in
      rewritten (Todo (Do at s) ∷ rest) (Todo s ∷ loop) (expanded s loop loop) (a_do at s rest) (expanded_settles s loop loop (rests loop (λ x. x)))
  expanded_settles (For at None decided stepped s) rest next h =
      let loop : Frame = Test at decided stepped s ∷ (LoopEnd ∷ rest) in
      rewritten (Todo (For at None decided stepped s) ∷ rest) loop loop (a_for at None decided stepped s rest) (rests loop (λ x. x))
  expanded_settles (For at (Some i) decided stepped s) rest next h =
      let loop : Frame = Todo (Plain i) ∷ (Test at decided stepped s ∷ (LoopEnd ∷ rest)) in
      rewritten (Todo (For at (Some i) decided stepped s) ∷ rest) loop loop (a_for at (Some i) decided stepped s rest) (rests loop (λ x. x))

  all_settle : (ss : Stms) (rest next : Frame) → Settles rest next → Settles (items_of ss rest) (expanded_all ss rest next)
  all_settle end rest next h = h
  all_settle (then s ss) rest next h = expanded_settles s (items_of ss rest) (expanded_all ss rest next) (all_settle ss rest next h)

pub settles : (frame : Frame) → Settles frame (settle frame)
settles [] = rests [] (λ x. x)
settles (Entry f j ∷ rest) = rests (Entry f j ∷ rest) (λ x. x)
settles (Todo s ∷ rest) = expanded_settles s rest (settle rest) (settles rest)
settles (Test at decided stepped s ∷ rest) = rests (Test at decided stepped s ∷ rest) (λ x. x)
settles (After at ∷ rest) = rests (After at ∷ rest) (λ x. x)
settles (LoopEnd ∷ rest) = rewritten (LoopEnd ∷ rest) rest (settle rest) (a_loop_end rest) (settles rest)
settles (End f ∷ rest) = rests (End f ∷ rest) (λ x. x)

pub settle_all : (ss : Stms) (rest : Frame) → expanded_all ss rest (settle rest) ≡ settle (items_of ss rest)
settle_all end rest = refl
settle_all (then s ss) rest = ap (expanded s (items_of ss rest)) (settle_all ss rest)

same_settled : (frame next : Frame) → Rewrites frame next → settle frame ≡ settle next
same_settled _ _ (a_block ss rest) = settle_all ss rest
same_settled _ _ (a_while at s rest) = refl
same_settled _ _ (a_do at s rest) = refl
same_settled _ _ (a_for at None decided stepped s rest) = refl
same_settled _ _ (a_for at (Some i) decided stepped s rest) = refl
same_settled _ _ (a_loop_end rest) = refl

settled_is : (frame : Frame) → ((next : Frame) → Rewrites frame next → ⊥) → settle frame ≡ frame
settled_is [] h = refl
settled_is (Entry f j ∷ rest) h = refl
settled_is (Todo (Plain at) ∷ rest) h = refl
settled_is (Todo (Break at) ∷ rest) h = refl
settled_is (Todo (Continue at) ∷ rest) h = refl
settled_is (Todo (Return at) ∷ rest) h = refl
settled_is (Todo (Open at j d) ∷ rest) h = refl
settled_is (Todo (Close at j d) ∷ rest) h = refl
settled_is (Todo (Call at j callee) ∷ rest) h = refl
settled_is (Todo (Group ss) ∷ rest) h = absurd (h (items_of ss rest) (a_block ss rest))
settled_is (Todo (Label at mark j l s) ∷ rest) h = refl
settled_is (Todo (If at s t) ∷ rest) h = refl
settled_is (Todo (While at s) ∷ rest) h = absurd (h (Test at true false s ∷ (LoopEnd ∷ rest)) (a_while at s rest))
settled_is (Todo (Do at s) ∷ rest) h = absurd (h (Todo s ∷ (Test at true false s ∷ (LoopEnd ∷ rest))) (a_do at s rest))
settled_is (Todo (For at init decided stepped s) ∷ rest) h = absurd (h (init_if init (Test at decided stepped s ∷ (LoopEnd ∷ rest))) (a_for at init decided stepped s rest))
settled_is (Test at decided stepped s ∷ rest) h = refl
settled_is (After at ∷ rest) h = refl
settled_is (LoopEnd ∷ rest) h = absurd (h rest (a_loop_end rest))
settled_is (End f ∷ rest) h = refl

pub settles_to : (frame last : Frame) → Settles frame last → settle frame ≡ last
settles_to _ _ (at_rest frame h) = settled_is frame h
settles_to _ _ (rewritten frame next last r h) = same_settled frame next r ∙ settles_to next last h

-- Nothing is left to rewrite at the front of a rewritten frame.
settled_init : (init : Option ℕ) (at : ℕ) (decided stepped : Bool) (s : Stm) (rest : Frame) → settled (init_if init (Test at decided stepped s ∷ rest)) ≡ true
settled_init None at decided stepped s rest = refl
settled_init (Some place) at decided stepped s rest = refl

mutual
  expanded_settled : (s : Stm) (rest next : Frame) → settled next ≡ true → settled (expanded s rest next) ≡ true
  expanded_settled (Group ss) rest next e = expanded_all_settled ss rest next e
  expanded_settled (Do at s) rest next e = expanded_settled s (Test at true false s ∷ (LoopEnd ∷ rest)) (Test at true false s ∷ (LoopEnd ∷ rest)) refl
  expanded_settled (For at init decided stepped s) rest next e = settled_init init at decided stepped s (LoopEnd ∷ rest)
  expanded_settled (Plain at) rest next e = refl
  expanded_settled (Break at) rest next e = refl
  expanded_settled (Continue at) rest next e = refl
  expanded_settled (Return at) rest next e = refl
  expanded_settled (Open at j d) rest next e = refl
  expanded_settled (Close at j d) rest next e = refl
  expanded_settled (Call at j callee) rest next e = refl
  expanded_settled (Label at mark j l s) rest next e = refl
  expanded_settled (If at s u) rest next e = refl
  expanded_settled (While at s) rest next e = refl

  expanded_all_settled : (ss : Stms) (rest next : Frame) → settled next ≡ true → settled (expanded_all ss rest next) ≡ true
  expanded_all_settled end rest next e = e
  expanded_all_settled (then s ss) rest next e = expanded_settled s (items_of ss rest) (expanded_all ss rest next) (expanded_all_settled ss rest next e)

pub settle_settled : (frame : Frame) → settled (settle frame) ≡ true
settle_settled [] = refl
settle_settled (Entry f j ∷ is) = refl
settle_settled (Todo s ∷ is) = expanded_settled s is (settle is) (settle_settled is)
settle_settled (Test at decided stepped s ∷ is) = refl
settle_settled (After at ∷ is) = refl
settle_settled (LoopEnd ∷ is) = settle_settled is
settle_settled (End f ∷ is) = refl
