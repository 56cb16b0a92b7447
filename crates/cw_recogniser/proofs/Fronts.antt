-- Tokens that are each taken are a front of a text, and others are none.
use Rattle.std.proofs.Common.{◌≡◌, true, false, List, [], ◌∷◌, ◌++◌, refl, sym, ap, subst, ◌∙◌, Some, None}
use Rattle.std.proofs.lemmas.List.{append-nil}
use Rattle.cw_grammar.specs.declared.terminals.Lexeme.{Lexeme}
use Rattle.cw_recogniser.specs.declared.symbols.Symbol.{Symbol}
use Rattle.cw_recogniser.specs.Kinds.{kind_of_terminal}
use Rattle.cw_recogniser.specs.Language.{AreOfGrammar, IsFront}
use Rattle.cw_recogniser.specs.Machine.{Next, feed, run, is_done, start}
use Rattle.cw_recogniser.proofs.Accepting.{then_done, accepts}
use Rattle.cw_recogniser.proofs.FilesRead.{reads_text}
use Rattle.cw_recogniser.proofs.Sound.{is_text}
use Rattle.cw_recogniser.proofs.Fits.{Fit, completed, completes, fed_fits}

by_feed : (o : Next) (ts more : List Lexeme) → ((next : List Symbol) → accepts next (ts ++ more) ≡ then_done (run next ts) (λ z. accepts z more))
    → then_done o (λ next. accepts next (ts ++ more)) ≡ then_done (elim o as (λ x. Next) [ None ↦ None | Some next ↦ run next ts ]) (λ z. accepts z more)
by_feed None ts more rec = refl
by_feed (Some next) ts more rec = rec next

accepts_both : (ts more : List Lexeme) (stack : List Symbol) → accepts stack (ts ++ more) ≡ then_done (run stack ts) (λ z. accepts z more)
accepts_both [] more stack = refl
accepts_both (t ∷ ts) more stack = by_feed (feed stack (kind_of_terminal t.terminal)) ts more (λ next. accepts_both ts more next)

run_fits : (ts : List Lexeme) (stack next : List Symbol) → Fit stack → run stack ts ≡ Some next → Fit next
run_fits [] stack next f e = let same : stack ≡ next = cc in subst (λ (z : List Symbol). Fit z) same f
run_fits (t ∷ ts) stack next f e = by_one (feed stack (kind_of_terminal t.terminal)) refl e (λ z g q. run_fits ts z next g q) where
  by_one : (o : Next) → feed stack (kind_of_terminal t.terminal) ≡ o → (elim o as (λ x. Next) [ None ↦ None | Some z ↦ run z ts ]) ≡ Some next
      → ((z : List Symbol) → Fit z → run z ts ≡ Some next → Fit next) → Fit next
  by_one None p q rec = absurd cc
  by_one (Some z) p q rec = rec z (fed_fits stack (kind_of_terminal t.terminal) f z p) q

-- tokens that are each taken
pub is_front : (ts : List Lexeme) (stack : List Symbol) → run start ts ≡ Some stack → IsFront ts
unfolding IsFront
is_front ts stack e =
    let fit : Fit stack = run_fits ts start stack (refl, tt) e in
    (completed stack, is_text (ts ++ completed stack) (record { ok = accepts_both ts (completed stack) start ∙ rw e ((completes stack fit).ok) }))

-- tokens of which one isn't taken
pub no_front : (ts : List Lexeme) → run start ts ≡ None → ¬ (IsFront ts)
unfolding IsFront
no_front ts e (more, text) =
    let f : accepts start (ts ++ more) ≡ false = accepts_both ts more start ∙ rw e refl in
    let g = (reads_text (ts ++ more) text).ok in
    absurd cc

-- tokens that are all taken are a text exactly where nothing more needs to come
pub done_text : (ts : List Lexeme) (stack : List Symbol) → run start ts ≡ Some stack → is_done stack ≡ true → AreOfGrammar ts
done_text ts stack e d = is_text ts (record { ok = ap (accepts start) (sym (append-nil ts)) ∙ accepts_both ts [] start ∙ rw e d })

pub open_text : (ts : List Lexeme) (stack : List Symbol) → run start ts ≡ Some stack → is_done stack ≡ false → ¬ (AreOfGrammar ts)
open_text ts stack e d text =
    let f : accepts start ts ≡ false = ap (accepts start) (sym (append-nil ts)) ∙ accepts_both ts [] start ∙ rw e d in
    let g = (reads_text ts text).ok in
    absurd cc

pub no_text : (ts : List Lexeme) → run start ts ≡ None → ¬ (AreOfGrammar ts)
no_text ts e text =
    let f : accepts start ts ≡ false = ap (accepts start) (sym (append-nil ts)) ∙ accepts_both ts [] start ∙ rw e refl in
    let g = (reads_text ts text).ok in
    absurd cc
