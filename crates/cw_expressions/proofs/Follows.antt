-- What may begin an expression, and what may follow one.
use Rattle.std.proofs.Common.{◌≡◌, ℕ, zero, suc, ◌<◌, ◌≤◌, Bool, true, false, ◌&&◌, cond, eqb, List, [], ◌∷◌, ◌++◌, length, Some, None, is_some, refl, sym, ap, subst, ◌∙◌}
use Rattle.std.proofs.Common.{append_assoc, arith, inl, inr}
use Rattle.std.proofs.lemmas.Bool.{false≢true, eqb-true}
use Rattle.cw_syntax.specs.Trees.{Tree}
use Rattle.cw_grammar.specs.declared.terminals.Lexeme.{Lexeme}
use Rattle.cw_grammar.specs.declared.terminals.Terminal.{Terminal}
use Rattle.cw_grammar.specs.declared.terminals.Terminal.TheVariants as w
use Rattle.cw_grammar.specs.declared.rules.Rule.{Rule}
use Rattle.cw_grammar.specs.declared.rules.Rule.TheVariants.{Expression, Level, Unary, Postfix}
use Rattle.cw_grammar.specs.Terminals.{same}
use Rattle.cw_grammar.specs.Operators as operators
use Rattle.cw_grammar.specs.Lexemes.{Is}
use Rattle.cw_grammar.specs.Expressions.{AreStrings, IsPrimary, IsUnary, IsLevel, IsDerived, loosest}
use Rattle.cw_grammar.proofs.SameTerminal.{is_plain, same-true}
use Rattle.cw_expressions.specs.Cursor.{begins}
use Rattle.cw_expressions.specs.TypeReading.{starts_type}
use Rattle.cw_expressions.specs.Next.{ends}
use Rattle.cw_expressions.specs.Reading.{begins_cast, next_of, goes_on_at, is_suffixed}
use Rattle.cw_lemmas.proofs.Truths.{and_false}
use Rattle.std.proofs.lemmas.Bool.{false_from_ne_true as is_false}

-- a terminal that a test takes isn't one that it refuses
pub differs : (f : Terminal → Bool) (a b : Terminal) → is_plain b ≡ true → f a ≡ true → f b ≡ false → same a b ≡ false
differs f a b plain yes_a no_b = is_false (same a b) (λ e. false≢true (sym no_b ∙ (ap f (sym (same-true a b plain e)) ∙ yes_a)))

-- ---- what begins an expression

abbrev pub starts_primary : Terminal → Bool
starts_primary w.Name = true
starts_primary (w.Number value) = true
starts_primary (w.Character value) = true
starts_primary w.Text = true
starts_primary w.Open = true
starts_primary _ = false

abbrev pub starts_expression : Terminal → Bool
starts_expression w.Name = true
starts_expression (w.Number value) = true
starts_expression (w.Character value) = true
starts_expression w.Text = true
starts_expression w.Open = true
starts_expression w.Plus = true
starts_expression w.Minus = true
starts_expression w.Exclamation = true
starts_expression w.Tilde = true
starts_expression w.Star = true
starts_expression w.Ampersand = true
starts_expression w.PlusPlus = true
starts_expression w.MinusMinus = true
starts_expression w.SizeOf = true
starts_expression _ = false

abbrev pub Starts : (Terminal → Bool) → List Lexeme → Type 0
Starts f [] = ⊥
Starts f (t ∷ ts) = f t.terminal ≡ true

pub starts_some : (f : Terminal → Bool) (ts : List Lexeme) → Starts f ts → 0 < length ts
starts_some f [] h = absurd h
starts_some f (t ∷ ts) h = omega arith

pub starts_append : (f : Terminal → Bool) (a b : List Lexeme) → Starts f a → Starts f (a ++ b)
starts_append f [] b h = absurd h
starts_append f (t ∷ a) b h = h

pub starts_never : (f : Terminal → Bool) (terminal : Terminal) → is_plain terminal ≡ true → f terminal ≡ false → (ts : List Lexeme) → Starts f ts → begins terminal ts ≡ false
starts_never f terminal plain refused [] h = absurd h
starts_never f terminal plain refused (t ∷ ts) h = differs f t.terminal terminal plain h refused

starts_with : (f : Terminal → Bool) (terminal : Terminal) (t : Lexeme) → Is terminal t → f terminal ≡ true → f t.terminal ≡ true
starts_with f terminal t is e = ap f is ∙ e

pub primary_expression : (terminal : Terminal) → starts_primary terminal ≡ true → starts_expression terminal ≡ true
primary_expression w.Name h = refl
primary_expression (w.Number value) h = refl
primary_expression (w.Character value) h = refl
primary_expression w.Text h = refl
primary_expression w.Open h = refl
primary_expression _ h = absurd (false≢true h)

sign_expression : (terminal : Terminal) (number : ℕ) → operators.sign terminal ≡ Some number → starts_expression terminal ≡ true
sign_expression w.Plus number e = refl
sign_expression w.Minus number e = refl
sign_expression w.Exclamation number e = refl
sign_expression w.Tilde number e = refl
sign_expression w.Star number e = refl
sign_expression w.Ampersand number e = refl
sign_expression _ number e = absurd (cc)

step_expression : (terminal : Terminal) (number : ℕ) → operators.step terminal ≡ Some number → starts_expression terminal ≡ true
step_expression w.PlusPlus number e = refl
step_expression w.MinusMinus number e = refl
step_expression _ number e = absurd (cc)

pub no_type : (terminal : Terminal) → starts_expression terminal ≡ true → starts_type terminal ≡ false
no_type w.Const h = absurd (false≢true h)
no_type w.Void h = absurd (false≢true h)
no_type w.Unsigned h = absurd (false≢true h)
no_type w.Char h = absurd (false≢true h)
no_type w.Int h = absurd (false≢true h)
no_type w.Long h = absurd (false≢true h)
no_type _ h = refl

primary_starts : (n : ℕ) (ts : List Lexeme) (e : Tree) → IsPrimary (IsDerived n) ts e → Starts starts_primary ts
primary_starts n ts e (inl h) = rw h.1 (starts_with starts_primary w.Name h.0 h.2 refl)
primary_starts n ts e (inr (inl h)) = rw h.3 (starts_with starts_primary w.Name h.0 h.4 refl)
primary_starts n ts e (inr (inr (inl h))) = rw h.2 (starts_with starts_primary (w.Number h.1) h.0 h.3 refl)
primary_starts n ts e (inr (inr (inr (inl h)))) = rw h.2 (starts_with starts_primary (w.Character h.1) h.0 h.3 refl)
primary_starts n ts e (inr (inr (inr (inr (inl h))))) = by_strings (subst (λ (z : List Lexeme). AreStrings z) h.2 h.3) where
  by_strings : AreStrings (h.0 ∷ h.1) → Starts starts_primary ts
  by_strings s = rw h.2 (starts_with starts_primary w.Text h.0 s.0 refl)
primary_starts n ts e (inr (inr (inr (inr (inr h))))) = rw h.3 (starts_with starts_primary w.Open h.0 h.4 refl)

pub postfix_starts : (n : ℕ) (ts : List Lexeme) (e : Tree) → IsDerived n Postfix ts e → Starts starts_primary ts
postfix_starts zero ts e h = absurd h
postfix_starts (suc n) ts e (inl h) = primary_starts n ts e h
postfix_starts (suc n) ts e (inr (inl h)) = rw h.4 (starts_append starts_primary h.0 h.1 (postfix_starts n h.0 h.2 h.5))
postfix_starts (suc n) ts e (inr (inr h)) = rw h.4 (starts_append starts_primary h.0 (h.1 ∷ []) (postfix_starts n h.0 h.3 h.6))

starts_wider : (ts : List Lexeme) → Starts starts_primary ts → Starts starts_expression ts
starts_wider [] h = absurd h
starts_wider (t ∷ ts) h = primary_expression t.terminal h

unary_starts : (n : ℕ) (ts : List Lexeme) (e : Tree) → IsUnary (IsDerived n) ts e → Starts starts_expression ts
unary_starts n ts e (inl h) = rw h.4 (sign_expression h.0.terminal h.2 h.5)
unary_starts n ts e (inr (inl h)) = rw h.4 (step_expression h.0.terminal h.2 h.5)
unary_starts n ts e (inr (inr (inl h))) = rw h.3 (starts_with starts_expression w.SizeOf h.0 h.4 refl)
unary_starts n ts e (inr (inr (inr (inl h)))) = rw h.3 (starts_with starts_expression w.SizeOf h.0 h.4 refl)
unary_starts n ts e (inr (inr (inr (inr h)))) = starts_wider ts (postfix_starts (suc n) ts e h)

-- ---- what follows an expression

-- a terminal that goes on behind a postfix, a name or a string
abbrev pub extends : Terminal → Bool
extends w.Open = true
extends w.OpenBracket = true
extends w.PlusPlus = true
extends w.MinusMinus = true
extends w.Text = true
extends _ = false

abbrev pub extended : List Lexeme → Bool
extended [] = false
extended (t ∷ ts) = extends t.terminal

-- nothing that goes on with what was read on this level is next
abbrev pub Stops : ℕ → List Lexeme → Type 0
Stops zero rest = extended rest ≡ false
Stops (suc l) rest = (goes_on_at (suc l) rest ≡ false) × Stops l rest

abbrev pub StopsAt : Rule → List Lexeme → Type 0
StopsAt Expression rest = (next_of operators.assign rest ≡ None) × Stops loosest rest
StopsAt (Level l) rest = Stops l rest
StopsAt Unary rest = Stops 0 rest
StopsAt Postfix rest = Stops 0 rest

pub stops_zero : (l : ℕ) (rest : List Lexeme) → Stops l rest → Stops 0 rest
stops_zero zero rest h = h
stops_zero (suc l) rest h = stops_zero l rest h.1

-- neither a binary operator nor what goes on behind a postfix
pub stops_all : (l : ℕ) (t : Lexeme) (ts : List Lexeme) → operators.binary t.terminal ≡ None → extends t.terminal ≡ false → Stops l (t ∷ ts)
stops_all zero t ts b e = e
stops_all (suc l) t ts b e = (rw b refl, stops_all l t ts b e)

binary_alone : (terminal : Terminal) (x : ℕ × ℕ) → operators.binary terminal ≡ Some x → extends terminal ≡ false
binary_alone w.Open x e = absurd (cc)
binary_alone w.OpenBracket x e = absurd (cc)
binary_alone w.PlusPlus x e = absurd (cc)
binary_alone w.MinusMinus x e = absurd (cc)
binary_alone w.Text x e = absurd (cc)
binary_alone _ x e = refl

-- an operator of a level stops those below
pub stops_below : (l j : ℕ) (t : Lexeme) (ts : List Lexeme) (number : ℕ) → operators.binary t.terminal ≡ Some (number, suc l) → j ≤ l → Stops j (t ∷ ts)
stops_below l zero t ts number is le = binary_alone t.terminal (number, suc l) is
stops_below l (suc j) t ts number is le =
    let other : eqb (suc l) (suc j) ≡ false = is_false (eqb (suc l) (suc j)) (λ e. let same_level : suc l ≡ suc j = eqb-true (suc l) (suc j) e in absurd (omega arith)) in
    (rw (is, other) refl, stops_below l j t ts number is (omega arith))

assign_binary : (terminal : Terminal) (number : ℕ) → operators.assign terminal ≡ Some number → operators.binary terminal ≡ None
assign_binary w.Assign number e = refl
assign_binary w.AddAssign number e = refl
assign_binary w.SubtractAssign number e = refl
assign_binary w.MultiplyAssign number e = refl
assign_binary w.DivideAssign number e = refl
assign_binary w.RemainderAssign number e = refl
assign_binary w.AndAssign number e = refl
assign_binary w.OrAssign number e = refl
assign_binary w.XorAssign number e = refl
assign_binary w.LeftShiftAssign number e = refl
assign_binary w.RightShiftAssign number e = refl
assign_binary _ number e = absurd (cc)

assign_alone : (terminal : Terminal) (number : ℕ) → operators.assign terminal ≡ Some number → extends terminal ≡ false
assign_alone w.Open number e = absurd (cc)
assign_alone w.OpenBracket number e = absurd (cc)
assign_alone w.PlusPlus number e = absurd (cc)
assign_alone w.MinusMinus number e = absurd (cc)
assign_alone w.Text number e = absurd (cc)
assign_alone _ number e = refl

pub assign_stops : (l : ℕ) (t : Lexeme) (ts : List Lexeme) (number : ℕ) → operators.assign t.terminal ≡ Some number → Stops l (t ∷ ts)
assign_stops l t ts number is = stops_all l t ts (assign_binary t.terminal number is) (assign_alone t.terminal number is)

pub ends_binary : (terminal : Terminal) → ends terminal ≡ true → operators.binary terminal ≡ None
ends_binary w.Close h = refl
ends_binary w.CloseBracket h = refl
ends_binary w.CloseBrace h = refl
ends_binary w.Comma h = refl
ends_binary w.Semicolon h = refl
ends_binary _ h = absurd (false≢true h)

ends_assign : (terminal : Terminal) → ends terminal ≡ true → operators.assign terminal ≡ None
ends_assign w.Close h = refl
ends_assign w.CloseBracket h = refl
ends_assign w.CloseBrace h = refl
ends_assign w.Comma h = refl
ends_assign w.Semicolon h = refl
ends_assign _ h = absurd (false≢true h)

pub ends_alone : (terminal : Terminal) → ends terminal ≡ true → extends terminal ≡ false
ends_alone w.Close h = refl
ends_alone w.CloseBracket h = refl
ends_alone w.CloseBrace h = refl
ends_alone w.Comma h = refl
ends_alone w.Semicolon h = refl
ends_alone _ h = absurd (false≢true h)

pub ended_at : (t : Lexeme) (ts : List Lexeme) → ends t.terminal ≡ true → StopsAt Expression (t ∷ ts)
ended_at t ts e = (ends_assign t.terminal e, stops_all loosest t ts (ends_binary t.terminal e) (ends_alone t.terminal e))

pub ended_by : (terminal : Terminal) (t : Lexeme) (ts : List Lexeme) → Is terminal t → ends terminal ≡ true → StopsAt Expression (t ∷ ts)
ended_by terminal t ts is e = ended_at t ts (ap ends is ∙ e)

nothing_follows : (l : ℕ) → Stops l []
nothing_follows zero = refl
nothing_follows (suc l) = (refl, nothing_follows l)

pub ended_nothing : StopsAt Expression []
ended_nothing = (refl, nothing_follows loosest)

-- what doesn't go on has no suffix
pub no_suffix : (rest : List Lexeme) → extended rest ≡ false → is_suffixed rest ≡ false
no_suffix [] e = refl
no_suffix (t ∷ ts) e = by_terminal t.terminal e where
  by_terminal : (terminal : Terminal) → extends terminal ≡ false → cond (same terminal w.OpenBracket) true (is_some (operators.suffix terminal)) ≡ false
  by_terminal w.Open f = absurd (false≢true (sym f))
  by_terminal w.OpenBracket f = absurd (false≢true (sym f))
  by_terminal w.PlusPlus f = absurd (false≢true (sym f))
  by_terminal w.MinusMinus f = absurd (false≢true (sym f))
  by_terminal w.Text f = absurd (false≢true (sym f))
  by_terminal _ f = refl

pub unextended : (terminal : Terminal) → is_plain terminal ≡ true → extends terminal ≡ true → (rest : List Lexeme) → extended rest ≡ false → begins terminal rest ≡ false
unextended terminal plain yes_terminal [] e = refl
unextended terminal plain yes_terminal (t ∷ ts) e = is_false (same t.terminal terminal) (λ s. false≢true (sym e ∙ ap extends (same-true t.terminal terminal plain s) ∙ yes_terminal))

-- ---- first tokens

level_starts : (n l : ℕ) → ((rule : Rule) (ts : List Lexeme) (e : Tree) → IsDerived n rule ts e → Starts starts_expression ts) → (ts : List Lexeme) (e : Tree)
    → IsLevel (IsDerived n) l ts e → Starts starts_expression ts
level_starts n zero rec ts e (inl h) = rw (h.4, h.5.3) (starts_with starts_expression w.Open h.5.0 h.5.4 refl)
level_starts n zero rec ts e (inr h) = unary_starts n ts e h
level_starts n (suc l) rec ts e (inl h) = level_starts n l rec ts e h
level_starts n (suc l) rec ts e (inr h) = rw h.6 (starts_append starts_expression h.0 (h.1 ∷ h.2) (rec (Level (suc l)) h.0 h.4 h.8))

-- an expression begins with what begins one
pub derived_starts : (n : ℕ) (rule : Rule) (ts : List Lexeme) (e : Tree) → IsDerived n rule ts e → Starts starts_expression ts
derived_starts zero rule ts e h = absurd h
derived_starts (suc n) Expression ts e (inl h) = level_starts n loosest (derived_starts n) ts e h
derived_starts (suc n) Expression ts e (inr h) = rw h.6 (starts_append starts_expression h.0 (h.1 ∷ h.2) (derived_starts n Unary h.0 h.4 h.8))
derived_starts (suc n) (Level l) ts e h = level_starts n l (derived_starts n) ts e h
derived_starts (suc n) Unary ts e h = unary_starts n ts e h
derived_starts (suc n) Postfix ts e h = starts_wider ts (postfix_starts (suc n) ts e h)

pub derived_some : (n : ℕ) (rule : Rule) (ts : List Lexeme) (e : Tree) → IsDerived n rule ts e → 0 < length ts
derived_some n rule ts e h = starts_some starts_expression ts (derived_starts n rule ts e h)

-- ---- a unary doesn't begin as a cast does

no_open : (o : Lexeme) (ts : List Lexeme) → same o.terminal w.Open ≡ false → begins_cast (o ∷ ts) ≡ false
no_open o [] e = refl
no_open o (t ∷ ts) e = rw e refl

inner_first : (o : Lexeme) (ts rest : List Lexeme) → Starts starts_expression ts → begins_cast (o ∷ ts ++ rest) ≡ false
inner_first o [] rest h = absurd h
inner_first o (t ∷ ts) rest h = rw (no_type t.terminal h) (and_false (same o.terminal w.Open))

primary_no_cast : (n : ℕ) (ts : List Lexeme) (e : Tree) (rest : List Lexeme) → IsPrimary (IsDerived n) ts e → begins_cast (ts ++ rest) ≡ false
primary_no_cast n ts e rest (inl h) = rw h.1 (no_open h.0 rest (rw h.2 refl))
primary_no_cast n ts e rest (inr (inl h)) = rw h.3 (no_open h.0 (h.1 ++ rest) (rw h.4 refl))
primary_no_cast n ts e rest (inr (inr (inl h))) = rw h.2 (no_open h.0 rest (rw h.3 refl))
primary_no_cast n ts e rest (inr (inr (inr (inl h)))) = rw h.2 (no_open h.0 rest (rw h.3 refl))
primary_no_cast n ts e rest (inr (inr (inr (inr (inl h))))) = by_strings (subst (λ (z : List Lexeme). AreStrings z) h.2 h.3) where
  by_strings : AreStrings (h.0 ∷ h.1) → begins_cast (ts ++ rest) ≡ false
  by_strings s = rw h.2 (no_open h.0 (h.1 ++ rest) (rw s.0 refl))
primary_no_cast n ts e rest (inr (inr (inr (inr (inr h))))) =
    let e2 : ts ++ rest ≡ h.0 ∷ h.1 ++ (h.2 ∷ rest) = rw h.3 (ap (λ (z : List Lexeme). h.0 ∷ z) (append_assoc h.1 (h.2 ∷ []) rest)) in
    rw e2 (inner_first h.0 h.1 (h.2 ∷ rest) (derived_starts n Expression h.1 e h.6))

postfix_no_cast : (n : ℕ) (ts : List Lexeme) (e : Tree) (rest : List Lexeme) → IsDerived n Postfix ts e → begins_cast (ts ++ rest) ≡ false
postfix_no_cast zero ts e rest h = absurd h
postfix_no_cast (suc n) ts e rest (inl h) = primary_no_cast n ts e rest h
postfix_no_cast (suc n) ts e rest (inr (inl h)) = rw (h.4, append_assoc h.0 h.1 rest) (postfix_no_cast n h.0 h.2 (h.1 ++ rest) h.5)
postfix_no_cast (suc n) ts e rest (inr (inr h)) = rw (h.4, append_assoc h.0 (h.1 ∷ []) rest) (postfix_no_cast n h.0 h.3 (h.1 ∷ rest) h.6)

pub unary_no_cast : (n : ℕ) (ts : List Lexeme) (e : Tree) (rest : List Lexeme) → IsDerived n Unary ts e → begins_cast (ts ++ rest) ≡ false
unary_no_cast zero ts e rest h = absurd h
unary_no_cast (suc n) ts e rest (inl h) = rw h.4 (no_open h.0 (h.1 ++ rest) (differs (λ terminal. is_some (operators.sign terminal)) h.0.terminal w.Open refl (rw h.5 refl) refl))
unary_no_cast (suc n) ts e rest (inr (inl h)) = rw h.4 (no_open h.0 (h.1 ++ rest) (differs (λ terminal. is_some (operators.step terminal)) h.0.terminal w.Open refl (rw h.5 refl) refl))
unary_no_cast (suc n) ts e rest (inr (inr (inl h))) = rw h.3 (no_open h.0 (h.1 ++ rest) (rw h.4 refl))
unary_no_cast (suc n) ts e rest (inr (inr (inr (inl h)))) = rw h.3 (no_open h.0 (h.1 ++ rest) (rw h.4 refl))
unary_no_cast (suc n) ts e rest (inr (inr (inr (inr h)))) = postfix_no_cast (suc n) ts e rest h
