-- A token that is all of what a rule reads, by the terminal behind it.
use Rattle.std.proofs.Common.{◌≡◌, ℕ, zero, suc, ◌≤◌, Bool, true, false, cond, Option, Some, None, is_some, List, [], ◌∷◌, length, get_or, Ok, refl, ap, ◌∙◌, arith}
use Rattle.std.proofs.lemmas.Bool.{ltb-true, false≢true}
use Rattle.cw_syntax.specs.declared.program.Op.{Op}
use Rattle.cw_syntax.specs.declared.program.Op.TheVariants as op
use Rattle.cw_grammar.specs.declared.terminals.Lexeme.{Lexeme}
use Rattle.cw_grammar.specs.declared.terminals.Terminal.{Terminal}
use Rattle.cw_grammar.specs.declared.terminals.Terminal.TheVariants as w
use Rattle.cw_grammar.specs.declared.rules.Rule.{Rule}
use Rattle.cw_grammar.specs.declared.rules.Rule.TheVariants.{Expression, Level, Unary, Postfix}
use Rattle.cw_grammar.specs.Terminals.{same}
use Rattle.cw_grammar.specs.Operators as operators
use Rattle.cw_grammar.specs.Lexemes.{Is}
use Rattle.cw_grammar.specs.Expressions.{loosest}
use Rattle.cw_expressions.specs.Cursor.{after}
use Rattle.cw_expressions.specs.Next.{ends}
use Rattle.cw_expressions.specs.Behind.{is_looser, is_behind}
use Rattle.cw_expressions.specs.Reading.{Got, Read, rest_of, built, begins_cast, next_of, goes_on_at, is_suffixed, primary, suffixed, postfix, size_of, prefixed, unary, operand}
use Rattle.cw_expressions.specs.Reading.{joined, chain, named, assigned, expression, by_rule}
use Rattle.cw_expressions.proofs.Repeat.{repeat_ends}
use Rattle.cw_expressions.proofs.Follows.{Stops, StopsAt, stops_zero, stops_all, stops_below, assign_stops, ends_binary, ends_alone, ended_at, no_suffix, unextended}

-- a terminal that is an operand by itself
abbrev pub is_leaf : Terminal → Bool
is_leaf w.Name = true
is_leaf (w.Number value) = true
is_leaf (w.Character value) = true
is_leaf _ = false

leaf_opens_not : (terminal : Terminal) → is_leaf terminal ≡ true → same terminal w.Open ≡ false
leaf_opens_not w.Name h = refl
leaf_opens_not (w.Number value) h = refl
leaf_opens_not (w.Character value) h = refl
leaf_opens_not _ h = absurd (false≢true h)

-- ---- what is behind a token that is alone

ended_stops : (l : ℕ) (u : Lexeme) (ts : List Lexeme) → ends u.terminal ≡ true → Stops l (u ∷ ts)
ended_stops l u ts e = stops_all l u ts (ends_binary u.terminal e) (ends_alone u.terminal e)

looser_stops : (l : ℕ) (u : Lexeme) (ts : List Lexeme) (x : Option (ℕ × ℕ)) → operators.binary u.terminal ≡ x → is_looser l x ≡ true → Stops l (u ∷ ts)
looser_stops l u ts None is h = absurd (false≢true h)
looser_stops l u ts (Some (number, zero)) is h = let lt = ltb-true l 0 h in absurd (omega arith)
looser_stops l u ts (Some (number, suc found)) is h = let lt = ltb-true l (suc found) h in stops_below found l u ts number is (omega arith)

assign_stops_by : (l : ℕ) (u : Lexeme) (ts : List Lexeme) (x : Option ℕ) → operators.assign u.terminal ≡ x → is_some x ≡ true → Stops l (u ∷ ts)
assign_stops_by l u ts None is h = absurd (false≢true h)
assign_stops_by l u ts (Some number) is h = assign_stops l u ts number is

level_stops : (l : ℕ) (u : Lexeme) (ts : List Lexeme) (b : Bool) → ends u.terminal ≡ b → (c : Bool) → is_some (operators.assign u.terminal) ≡ c
    → cond b true (cond c true (is_looser l (operators.binary u.terminal))) ≡ true → Stops l (u ∷ ts)
level_stops l u ts true e c f h = ended_stops l u ts e
level_stops l u ts false e true f h = assign_stops_by l u ts (operators.assign u.terminal) refl f
level_stops l u ts false e false f h = looser_stops l u ts (operators.binary u.terminal) refl h

behind_stops : (rule : Rule) (u : Lexeme) (ts : List Lexeme) → is_behind rule u.terminal ≡ true → StopsAt rule (u ∷ ts)
behind_stops Expression u ts h = ended_at u ts h
behind_stops (Level l) u ts h = level_stops l u ts (ends u.terminal) refl (is_some (operators.assign u.terminal)) refl h
behind_stops Unary u ts h = ended_stops 0 u ts h
behind_stops Postfix u ts h = ended_stops 0 u ts h

stops_alone : (rule : Rule) (us : List Lexeme) → StopsAt rule us → Stops 0 us
stops_alone Expression us stops = stops_zero loosest us stops.1
stops_alone (Level l) us stops = stops_zero l us stops
stops_alone Unary us stops = stops
stops_alone Postfix us stops = stops

module _ (read : Rule → List Lexeme → Read) (n : ℕ) (t : Lexeme) (us : List Lexeme) where
  abbrev alone : Op → Got
  alone o = built o [] true 1 t.from t.to us

  name_alone : Is w.Name t → Stops 0 us → primary read n (t ∷ us) ≡ Ok (alone op.Name)
  unfolding primary named
  name_alone is stops = rw (is, unextended w.Open refl refl us stops) refl

  number_alone : (value : ℕ) → Is (w.Number value) t → primary read n (t ∷ us) ≡ Ok (alone (op.Number value))
  unfolding primary
  number_alone value is = rw is refl

  character_alone : (value : ℕ) → Is (w.Character value) t → primary read n (t ∷ us) ≡ Ok (alone (op.Char value))
  unfolding primary
  character_alone value is = rw is refl

  no_cast : is_leaf t.terminal ≡ true → begins_cast (t ∷ us) ≡ false
  no_cast leaf = by_rest us where
    by_rest : (vs : List Lexeme) → begins_cast (t ∷ vs) ≡ false
    by_rest [] = refl
    by_rest (v ∷ vs) = rw (leaf_opens_not t.terminal leaf) refl

  module _ (o : Op) (leaf : is_leaf t.terminal ≡ true) (is : primary read n (t ∷ us) ≡ Ok (alone o)) where
    postfix_alone : Stops 0 us → postfix read n (t ∷ us) ≡ Ok (alone o)
    unfolding postfix
    postfix_alone stops = rw is (repeat_ends rest_of is_suffixed (suffixed read n) (length us) (alone o) (no_suffix us stops))

    unary_alone : Stops 0 us → unary read n (t ∷ us) ≡ Ok (alone o)
    unfolding unary
    unary_alone stops = by_terminal t.terminal leaf where
      by_terminal : (terminal : Terminal) → is_leaf terminal ≡ true → elim (operators.sign terminal) as
          (λ z. Read) [
            | Some number ↦ prefixed read n number (Level 0) t us
            | None ↦ elim (operators.step terminal) as
                (λ z. Read) [ Some number ↦ prefixed read n number Unary t us | None ↦ cond (same terminal w.SizeOf) (size_of read n t us) (postfix read n (t ∷ us)) ]
          ] ≡ Ok (alone o)
      by_terminal w.Name h = postfix_alone stops
      by_terminal (w.Number value) h = postfix_alone stops
      by_terminal (w.Character value) h = postfix_alone stops
      by_terminal _ h = absurd (false≢true h)

    chain_alone : (level : ℕ) → Stops level us → chain read n level (t ∷ us) ≡ Ok (alone o)
    unfolding chain operand
    chain_alone zero stops = rw (no_cast leaf) (unary_alone stops)
    chain_alone (suc level) stops = rw (chain_alone level stops.1) (repeat_ends rest_of (goes_on_at (suc level)) (joined read n level) (length us) (alone o) stops.0)

    -- behind what may be a target
    abbrev behind : Got → Read
    behind x = elim (next_of operators.assign x.rest) as (λ z. Read) [ Some number ↦ cond x.unary (assigned read n number x) (Ok x) | None ↦ Ok x ]

    target_alone : Stops loosest us → expression read n (t ∷ us) ≡ behind (alone o)
    unfolding expression
    target_alone stops = rw (chain_alone loosest stops) refl

    expression_alone : StopsAt Expression us → expression read n (t ∷ us) ≡ Ok (alone o)
    expression_alone stops = target_alone stops.1 ∙ rw (stops.0, behind) refl

    rule_alone : (rule : Rule) → StopsAt rule us → by_rule read n rule (t ∷ us) ≡ Ok (alone o)
    rule_alone Expression stops = expression_alone stops
    rule_alone (Level l) stops = chain_alone l stops
    rule_alone Unary stops = unary_alone stops
    rule_alone Postfix stops = postfix_alone stops

-- the first token, where there is one
abbrev none : Lexeme
none = record { terminal = w.Extern; from = 0; to = 0 }

module _ (read : Rule → List Lexeme → Read) (n : ℕ) (rule : Rule) where
  pub name_next : (ts : List Lexeme) → 2 ≤ length ts → is_behind rule (get_or ts 1 none).terminal ≡ true → Is w.Name (get_or ts 0 none)
      → by_rule read n rule ts ≡ Ok (built op.Name [] true 1 (get_or ts 0 none).from (get_or ts 0 none).to (after ts))
  name_next [] some ended is = absurd (omega arith)
  name_next (t ∷ []) some ended is = absurd (omega arith)
  name_next (t ∷ u ∷ ts) some ended is =
      let stops = behind_stops rule u ts ended in
      rule_alone read n t (u ∷ ts) op.Name (ap is_leaf is) (name_alone read n t (u ∷ ts) is (stops_alone rule (u ∷ ts) stops)) rule stops

  pub number_next : (ts : List Lexeme) → 2 ≤ length ts → is_behind rule (get_or ts 1 none).terminal ≡ true → (value : ℕ) → Is (w.Number value) (get_or ts 0 none)
      → by_rule read n rule ts ≡ Ok (built (op.Number value) [] true 1 (get_or ts 0 none).from (get_or ts 0 none).to (after ts))
  number_next [] some ended value is = absurd (omega arith)
  number_next (t ∷ []) some ended value is = absurd (omega arith)
  number_next (t ∷ u ∷ ts) some ended value is = rule_alone read n t (u ∷ ts) (op.Number value) (ap is_leaf is) (number_alone read n t (u ∷ ts) value is) rule (behind_stops rule u ts ended)

  pub character_next : (ts : List Lexeme) → 2 ≤ length ts → is_behind rule (get_or ts 1 none).terminal ≡ true → (value : ℕ) → Is (w.Character value) (get_or ts 0 none)
      → by_rule read n rule ts ≡ Ok (built (op.Char value) [] true 1 (get_or ts 0 none).from (get_or ts 0 none).to (after ts))
  character_next [] some ended value is = absurd (omega arith)
  character_next (t ∷ []) some ended value is = absurd (omega arith)
  character_next (t ∷ u ∷ ts) some ended value is = rule_alone read n t (u ∷ ts) (op.Char value) (ap is_leaf is) (character_alone read n t (u ∷ ts) value is) rule (behind_stops rule u ts ended)
