-- What the loop over the tokens finds, and what it says of them.
use Rattle.std.proofs.Common.{◌≡◌, ℕ, ◌+◌, ◌<◌, Bool, true, false, List, [], ◌∷◌, ◌++◌, length, take, drop, get_or, reverse, refl, sym, ap, ◌∙◌, Option, Some, None, arith}
use Rattle.std.proofs.lemmas.List.{reverse-append, take_more, take_all, take-append-drop}
use Rattle.std.specs.Prelude.{is_some, ◌&&◌, IfOk, IfSome, IfNone, Result, Ok, Err}
use Rattle.std.specs.List.{list_all}
use Rattle.cw_grammar.specs.declared.terminals.Lexeme.{Lexeme}
use Rattle.cw_recogniser.specs.declared.symbols.Symbol.{Symbol}
use Rattle.cw_recogniser.specs.Kinds.{kind_of_terminal}
use Rattle.cw_recogniser.specs.Language.{AreOfGrammar, IsFront}
use Rattle.cw_recogniser.specs.Machine.{Next, may_be_empty, feed, run, is_done, start, accepted, IsVerdict, Steps}
use Rattle.cw_recogniser.proofs.FilesRead.{and_assoc}
use Rattle.cw_recogniser.proofs.Fronts.{is_front, no_front, no_text, done_text, open_text}

go_on : Next → List Lexeme → Next
go_on None ts = None
go_on (Some stack) ts = run stack ts

run_step : (o : Next) (a b : List Lexeme) → ((next : List Symbol) → run next (a ++ b) ≡ go_on (run next a) b)
    → (elim o as (λ x. Next) [ None ↦ None | Some next ↦ run next (a ++ b) ]) ≡ go_on (elim o as (λ x. Next) [ None ↦ None | Some next ↦ run next a ]) b
unfolding go_on
run_step None a b rec = refl
run_step (Some next) a b rec = rec next

run_both : (a b : List Lexeme) (stack : List Symbol) → run stack (a ++ b) ≡ go_on (run stack a) b
unfolding go_on
run_both [] b stack = refl
run_both (t ∷ a) b stack = run_step (feed stack (kind_of_terminal t.terminal)) a b (λ next. run_both a b next)

one_token : (o : Next) → (elim o as (λ x. Next) [ None ↦ None | Some next ↦ run next [] ]) ≡ o
one_token None = refl
one_token (Some next) = refl

pub run_more : (ts : List Lexeme) (i : ℕ) (d : Lexeme) (stack : List Symbol) → i < length ts → run start (take i ts) ≡ Some stack
    → run start (take (i + 1) ts) ≡ feed stack (kind_of_terminal (get_or ts i d).terminal)
unfolding go_on
run_more ts i d stack lt e =
    ap (run start) (take_more ts i d lt)
    ∙ run_both (take i ts) (get_or ts i d ∷ []) start
    ∙ ap (λ (z : Next). go_on z (get_or ts i d ∷ [])) e
    ∙ one_token (feed stack (kind_of_terminal (get_or ts i d).terminal))

run_none : (ts : List Lexeme) (i : ℕ) → run start (take i ts) ≡ None → run start ts ≡ None
unfolding go_on
run_none ts i e = ap (run start) (sym (take-append-drop i ts)) ∙ run_both (take i ts) (drop i ts) start ∙ ap (λ (z : Next). go_on z (drop i ts)) e

pub stopped : (ts : List Lexeme) (i : ℕ) (d : Lexeme) (stack : List Symbol) → i < length ts → run start (take i ts) ≡ Some stack
    → feed stack (kind_of_terminal (get_or ts i d).terminal) ≡ None → IsVerdict ts (Some i)
stopped ts i d stack lt e f =
    let g : run start (take (i + 1) ts) ≡ None = run_more ts i d stack lt e ∙ f in
    (omega arith, ap accepted (run_none ts (i + 1) g), ap (λ (z : Next). is_some z) e, λ h. ap (λ (z : Next). is_some z) g)

done_both : (a b : List Symbol) → is_done (a ++ b) ≡ (is_done a && is_done b)
done_both [] b = refl
done_both (s ∷ a) b = ap (λ (z : Bool). may_be_empty s && z) (done_both a b) ∙ sym (and_assoc (may_be_empty s) (is_done a) (is_done b))

and_comm : (x y : Bool) → (x && (y && true)) ≡ (y && x)
and_comm true true = refl
and_comm true false = refl
and_comm false true = refl
and_comm false false = refl

done_reverse : (stack : List Symbol) → is_done (reverse stack) ≡ list_all may_be_empty stack
done_reverse [] = refl
done_reverse (s ∷ stack) =
    ap is_done (reverse-append (s ∷ []) stack)
    ∙ done_both (reverse stack) (s ∷ [])
    ∙ and_comm (is_done (reverse stack)) (may_be_empty s)
    ∙ ap (λ (z : Bool). may_be_empty s && z) (done_reverse stack)

pub ended : (ts : List Lexeme) (stack : List Symbol) → run start (take (length ts) ts) ≡ Some (reverse stack) → list_all may_be_empty stack ≡ true → IsVerdict ts None
ended ts stack e h =
    let all : take (length ts) ts ≡ ts = take_all (length ts) ts (omega arith) in
    ap accepted (ap (run start) (sym all) ∙ e) ∙ done_reverse stack ∙ h

pub unended : (ts : List Lexeme) (stack : List Symbol) → run start (take (length ts) ts) ≡ Some (reverse stack) → list_all may_be_empty stack ≡ false → IsVerdict ts (Some (length ts))
unended ts stack e h =
    let all : take (length ts) ts ≡ ts = take_all (length ts) ts (omega arith) in
    (omega arith, ap accepted (ap (run start) (sym all) ∙ e) ∙ done_reverse stack ∙ h, ap (λ (z : Next). is_some z) e, λ lt. absurd (omega arith))

-- ---- what a verdict says

accepted_text : (ts : List Lexeme) (next : Next) → run start ts ≡ next → accepted next ≡ true → AreOfGrammar ts
accepted_text ts None e h = absurd cc
accepted_text ts (Some stack) e h = done_text ts stack e h

refused_text : (ts : List Lexeme) (next : Next) → run start ts ≡ next → accepted next ≡ false → ¬ (AreOfGrammar ts)
refused_text ts None e h text = no_text ts e text
refused_text ts (Some stack) e h text = open_text ts stack e h text

taken_front : (ts : List Lexeme) (next : Next) → run start ts ≡ next → is_some next ≡ true → IsFront ts
taken_front ts None e h = absurd cc
taken_front ts (Some stack) e h = is_front ts stack e

untaken_front : (ts : List Lexeme) (next : Next) → run start ts ≡ next → is_some next ≡ false → ¬ (IsFront ts)
untaken_front ts None e h = no_front ts e
untaken_front ts (Some stack) e h = absurd cc

module _ {E : Type 0} (ts : List Lexeme) where
  pub says_text : (r : Result (Option ℕ) E) → IfOk r (λ fault. IsVerdict ts fault) → IfOk r (λ fault. IfNone fault (AreOfGrammar ts))
  says_text (Ok None) v = accepted_text ts (run start ts) refl v
  says_text (Ok (Some at)) v = tt
  says_text (Err e) v = tt

  pub says_no_text : (r : Result (Option ℕ) E) → IfOk r (λ fault. IsVerdict ts fault) → IfOk r (λ fault. IfSome fault (λ at. ¬ (AreOfGrammar ts)))
  says_no_text (Ok None) v = tt
  says_no_text (Ok (Some at)) v = refused_text ts (run start ts) refl v.1
  says_no_text (Err e) v = tt

  pub says_front : (r : Result (Option ℕ) E) → IfOk r (λ fault. IsVerdict ts fault) → IfOk r (λ fault. IfSome fault (λ at. IsFront (take at ts)))
  says_front (Ok None) v = tt
  says_front (Ok (Some at)) v = taken_front (take at ts) (run start (take at ts)) refl v.2
  says_front (Err e) v = tt

  pub says_first : (r : Result (Option ℕ) E) → IfOk r (λ fault. IsVerdict ts fault) → IfOk r (λ fault. IfSome fault (λ at. at < length ts → ¬ (IsFront (take (at + 1) ts))))
  says_first (Ok None) v = tt
  says_first (Ok (Some at)) v = λ lt. untaken_front (take (at + 1) ts) (run start (take (at + 1) ts)) refl (v.3 lt)
  says_first (Err e) v = tt

-- ---- the answers of a step

pub steps_false : (next : Next) (kept : List Symbol) (b : Bool) → Steps next kept b → b ≡ false → next ≡ None
steps_false next kept true h e = absurd cc
steps_false next kept false h e = h

pub steps_true : (next : Next) (kept : List Symbol) (b : Bool) → Steps next kept b → b ≡ true → next ≡ Some (reverse kept)
steps_true next kept true h e = h
steps_true next kept false h e = absurd cc
