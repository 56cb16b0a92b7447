-- What is to come behind a token, as the code puts it together.
use Rattle.std.proofs.Common.{◌≡◌, ℕ, ◌+◌, ◌<◌, Bool, true, false, List, [], ◌∷◌, ◌++◌, length, drop, drop-cons, get_or, reverse, refl, sym, ap, ◌∙◌, add-one, append_assoc, Some, None}
use Rattle.std.proofs.lemmas.List.{append-nil, reverse-append}
use Rattle.cw_recogniser.specs.declared.kinds.TerminalKind.{TerminalKind}
use Rattle.cw_recogniser.specs.declared.symbols.Symbol.{Symbol}
use Rattle.cw_recogniser.specs.declared.symbols.Symbol.TheVariants as s
use Rattle.cw_recogniser.specs.Machine.{Next, onto, either, after, expression, qualified, specifiers, declaration, keyword, statement, params_front, semicolon, may_be_empty, fed, feed}

onto_onto : (next : Next) (a b : List Symbol) → onto (onto next a) b ≡ onto next (a ++ b)
onto_onto None a b = refl
onto_onto (Some new) a b = ap Some (append_assoc new a b)

onto_either : (x y : Next) (a : List Symbol) → onto (either x y) a ≡ either (onto x a) (onto y a)
onto_either None y a = refl
onto_either (Some new) y a = refl

pub after_open_is : (kind : TerminalKind) → after s.AfterOpen kind ≡ either (onto (qualified kind) (s.TwoStars ∷ s.Close ∷ s.Operand ∷ s.Tail false ∷ []))
    (onto (expression kind) (s.Close ∷ s.Suffixes ∷ s.Tail true ∷ []))
after_open_is kind = ap (λ (z : Next). either z (onto (expression kind) (s.Close ∷ s.Suffixes ∷ s.Tail true ∷ [])))
    (onto_onto (qualified kind) (s.TwoStars ∷ []) (s.Close ∷ s.Operand ∷ s.Tail false ∷ []))

pub after_open_operand_is : (kind : TerminalKind)
    → after s.AfterOpenOperand kind ≡ either (onto (qualified kind) (s.TwoStars ∷ s.Close ∷ s.Operand ∷ [])) (onto (expression kind) (s.Close ∷ s.Suffixes ∷ []))
after_open_operand_is kind = ap (λ (z : Next). either z (onto (expression kind) (s.Close ∷ s.Suffixes ∷ []))) (onto_onto (qualified kind) (s.TwoStars ∷ []) (s.Close ∷ s.Operand ∷ []))

pub after_open_measured_is : (kind : TerminalKind) → after s.AfterOpenMeasured kind ≡ either (onto (qualified kind) (s.TwoStars ∷ s.Close ∷ [])) (onto (expression kind) (s.Close ∷ s.Suffixes ∷ []))
after_open_measured_is kind = ap (λ (z : Next). either z (onto (expression kind) (s.Close ∷ s.Suffixes ∷ []))) (onto_onto (qualified kind) (s.TwoStars ∷ []) (s.Close ∷ []))

pub param_is : (named : Bool) (kind : TerminalKind) → after (s.Param named) kind ≡ onto (qualified kind) (s.TwoStars ∷ s.AfterType named ∷ [])
param_is named kind = onto_onto (qualified kind) (s.TwoStars ∷ []) (s.AfterType named ∷ [])

pub items_are : (kind : TerminalKind) → after s.Items kind ≡ either (onto (specifiers kind) (s.TwoStars ∷ s.Name ∷ s.Array ∷ s.Initialiser ∷ s.MoreItems ∷ s.Semicolon ∷ s.Items ∷ []))
    (either (onto (keyword kind) (s.Items ∷ [])) (onto (expression kind) (s.Semicolon ∷ s.Items ∷ [])))
items_are kind =
    onto_either (declaration kind) (statement kind) (s.Items ∷ [])
    ∙ ap (λ (z : Next). either z (onto (statement kind) (s.Items ∷ []))) (onto_onto (specifiers kind) (s.TwoStars ∷ s.Name ∷ s.Array ∷ s.Initialiser ∷ s.MoreItems ∷ s.Semicolon ∷ []) (s.Items ∷ []))
    ∙ ap (λ (z : Next). either (onto (specifiers kind) (s.TwoStars ∷ s.Name ∷ s.Array ∷ s.Initialiser ∷ s.MoreItems ∷ s.Semicolon ∷ s.Items ∷ [])) z)
    (onto_either (keyword kind) (onto (expression kind) (s.Semicolon ∷ [])) (s.Items ∷ [])
    ∙ ap (λ (z : Next). either (onto (keyword kind) (s.Items ∷ [])) z) (onto_onto (expression kind) (s.Semicolon ∷ []) (s.Items ∷ [])))

pub params_are : (kind : TerminalKind) → after s.Params kind ≡ either (params_front kind) (onto (qualified kind) (s.TwoStars ∷ s.AfterType true ∷ []))
params_are kind = ap (λ (z : Next). either (params_front kind) z) (onto_onto (qualified kind) (s.TwoStars ∷ []) (s.AfterType true ∷ []))

pub init_is : (kind : TerminalKind) → after s.ForInit kind ≡ either (semicolon kind)
    (either (onto (specifiers kind) (s.TwoStars ∷ s.Name ∷ s.Array ∷ s.Initialiser ∷ s.MoreItems ∷ s.Semicolon ∷ [])) (onto (expression kind) (s.Semicolon ∷ [])))
init_is kind = refl

pub whole_first : (x : Next) (new : List Symbol) → x ≡ Some new → x ≡ Some (new ++ [])
whole_first x new e = e ∙ ap Some (sym (append-nil new))

pub reverse_push : (below : List Symbol) (s : Symbol) → reverse (below ++ s ∷ []) ≡ s ∷ reverse below
reverse_push below s = rw (reverse-append below (s ∷ [])) refl

-- one symbol more, where those behind it are put
pub put_one : (new stack below : List Symbol) (at : ℕ) (d : Symbol) → at < length new → reverse stack ≡ drop (at + 1) new ++ below
    → reverse (stack ++ get_or new at d ∷ []) ≡ drop at new ++ below
put_one new stack below at d short e =
    let behind : drop at new ≡ get_or new at d ∷ drop (at + 1) new = drop-cons new at d short ∙ ap (λ (n : ℕ). get_or new at d ∷ drop n new) (sym (add-one at)) in
    reverse_push stack (get_or new at d)
    ∙ ap (λ (z : List Symbol). get_or new at d ∷ z) e
    ∙ ap (λ (z : List Symbol). z ++ below) (sym behind)

-- ---- one step

pub feed_some : (stack below : List Symbol) (symbol : Symbol) (kind : TerminalKind) (new : List Symbol) → stack ≡ below ++ symbol ∷ [] → after symbol kind ≡ Some new
    → feed (reverse stack) kind ≡ Some (new ++ reverse below)
feed_some stack below symbol kind new e f = rw (e, reverse_push below symbol) (ap (λ (z : Next). fed z (may_be_empty symbol) (reverse below) (feed (reverse below) kind)) f)

pub feed_pass : (stack below : List Symbol) (symbol : Symbol) (kind : TerminalKind) → stack ≡ below ++ symbol ∷ [] → after symbol kind ≡ None → may_be_empty symbol ≡ true
    → feed (reverse stack) kind ≡ feed (reverse below) kind
feed_pass stack below symbol kind e f g = rw (e, reverse_push below symbol)
    (ap (λ (z : Next). fed z (may_be_empty symbol) (reverse below) (feed (reverse below) kind)) f ∙ ap (λ (z : Bool). fed None z (reverse below) (feed (reverse below) kind)) g)

pub feed_none : (stack below : List Symbol) (symbol : Symbol) (kind : TerminalKind) → stack ≡ below ++ symbol ∷ [] → after symbol kind ≡ None → may_be_empty symbol ≡ false
    → feed (reverse stack) kind ≡ None
feed_none stack below symbol kind e f g = rw (e, reverse_push below symbol)
    (ap (λ (z : Next). fed z (may_be_empty symbol) (reverse below) (feed (reverse below) kind)) f ∙ ap (λ (z : Bool). fed None z (reverse below) (feed (reverse below) kind)) g)

pub feed_empty : (stack : List Symbol) (kind : TerminalKind) → stack ≡ [] → feed (reverse stack) kind ≡ None
feed_empty stack kind e = rw e refl

pub put_both : (first second below middle stack : List Symbol) → reverse middle ≡ second ++ reverse below → reverse stack ≡ first ++ reverse middle
    → reverse stack ≡ (first ++ second) ++ reverse below
put_both first second below middle stack e f = f ∙ ap (λ (z : List Symbol). first ++ z) e ∙ sym (append_assoc first second (reverse below))
