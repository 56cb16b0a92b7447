-- What derives a source derives its form, of the tokens that stand there for those of the source.
use Rattle.std.proofs.Common.{max}
use Rattle.std.proofs.Common.{◌≡◌, ℕ, zero, suc, ◌+◌, ◌<◌, ◌≤◌, Bool, true, false, cond, List, [], ◌∷◌, ◌++◌, map, Option, None, refl, sym, ap, ap₂, subst, ◌∙◌, arith}
use Rattle.std.proofs.Common.{inl, inr}
use Rattle.std.proofs.lemmas.List.{append-nil, append_assoc}
use Rattle.std.proofs.Math.Nat.{le-max_left, le-max_right, max-eq_left}
use Rattle.cw_syntax.specs.declared.program.Name.{Name}
use Rattle.cw_syntax.specs.declared.program.Op.TheVariants as op
use Rattle.cw_syntax.specs.Trees.{Tree, Statement, Stated, Form, Block, Declares, Evaluates, Empties, Labels, Chooses, Whiles, Does, Fors, Breaks, Continues, Returns, Perhaps, nothing, just}
use Rattle.cw_syntax.specs.Trees.{Statements}
use Rattle.cw_grammar.specs.declared.terminals.Terminal.TheVariants as w
use Rattle.cw_grammar.specs.declared.terminals.Lexeme.{Lexeme}
use Rattle.cw_grammar.specs.declared.rules.Rule.TheVariants.{Expression}
use Rattle.cw_grammar.specs.Lexemes.{name_of, from_of, to_of, IsOptional, AreAll, IsBetween, IsEnded, statements}
use Rattle.cw_grammar.specs.Expressions.{loosest, Derives, IsPrimary, IsPostfix, IsUnary, IsOperand, IsLevel, IsRule, IsDerived, IsExpression}
use Rattle.cw_grammar.specs.Declarations.{Expressions}
use Rattle.cw_grammar.specs.Statements.{Setting, InBlock, BeforeElse, Elsewhere, last, IsInit, IsForm, IsStatement}
use Rattle.cw_grammar.proofs.Deeper.{statement_deeper}
use Rattle.cw_scope.specs.Walks.{Nested, nested, nested_within, nested_all, init_trees, inner}
use Rattle.cw_scope.specs.Names.{init_names}
use Rattle.cw_detach.specs.Form.{calls_one, nesting, nesting_in, nesting_all}
use Rattle.cw_forms.specs.Moved.{moved, Pairs, AreKept, SameName, Alike}
use Rattle.cw_forms.specs.Declared.{Both}
use Rattle.cw_forms.specs.Stretches.{Calls, call_tokens, rights, IsBrought}
use Rattle.cw_forms.specs.Statements.{pair_at, pairs_in, SamePlaced, StandFor}
use Rattle.cw_forms.proofs.Kept.{terminals_moved, parts_moved, three_moved, kept_as, kept_parts, between_moves, ended_moves}
use Rattle.cw_forms.proofs.Expressions.{expression_moves}
use Rattle.cw_forms.proofs.Declarations.{declaration_moves, optional_moves}
use Rattle.cw_forms.proofs.Parts.{Part, KeptAs, Then, kept_part, part_then, part_as, stand_for_both}
use Rattle.cw_forms.proofs.Brought.{stated, exit as exit_tree, test as test_tree, whole as whole_statement, brought_is}
use Rattle.cw_forms.proofs.Observed.{given_pairs, declaration_pairs, declared_pairs, inner_pairs, pairs_both, one_more, called_is}
use Rattle.cw_detach.proofs.Plain.{calls_none}

-- ---- an expression has tokens

append_some : (a : List Lexeme) (t : Lexeme) (b : List Lexeme) → (x : Lexeme) × (xs : List Lexeme) × (a ++ t ∷ b ≡ x ∷ xs)
append_some [] t b = (t, b, refl)
append_some (x ∷ a) t b = (x, a ++ t ∷ b, refl)

abbrev HasSome : List Lexeme → Type 0
HasSome ts = (x : Lexeme) × (xs : List Lexeme) × (ts ≡ x ∷ xs)

middle_some : (ts a : List Lexeme) (t : Lexeme) (b : List Lexeme) → ts ≡ a ++ t ∷ b → HasSome ts
middle_some ts a t b whole = let p = append_some a t b in (p.0, p.1, whole ∙ p.2)

module _ (P : Derives) where
  primary_some : (ts : List Lexeme) (e : Tree) → IsPrimary P ts e → HasSome ts
  primary_some ts e (inl (n, whole, is, e_is)) = (n, [], whole)
  primary_some ts e (inr (inl (n, b, xs, whole, is, inner, e_is))) = (n, b, whole)
  primary_some ts e (inr (inr (inl (n, value, whole, is, e_is)))) = (n, [], whole)
  primary_some ts e (inr (inr (inr (inl (n, value, whole, is, e_is))))) = (n, [], whole)
  primary_some ts e (inr (inr (inr (inr (inl (t, rest, whole, are, e_is)))))) = (t, rest, whole)
  primary_some ts e (inr (inr (inr (inr (inr (o, inner, c, whole, p, q, is)))))) = (o, inner ++ c ∷ [], whole)

  postfix_some : (ts : List Lexeme) (e : Tree) → IsPostfix P ts e → HasSome ts
  postfix_some ts e (inl h) = primary_some ts e h
  postfix_some ts e (inr (inl (a, b, x, y, whole, first, (o, inner, c, within, p, q, is), e_is))) = middle_some ts a o (inner ++ c ∷ []) (whole ∙ ap (λ (z : List Lexeme). a ++ z) within)
  postfix_some ts e (inr (inr (a, t, number, x, whole, suffix, first, e_is))) = middle_some ts a t [] whole

  unary_some : (ts : List Lexeme) (e : Tree) → IsUnary P ts e → HasSome ts
  unary_some ts e (inl (t, b, number, x, whole, sign, first, e_is)) = (t, b, whole)
  unary_some ts e (inr (inl (t, b, number, x, whole, step, first, e_is))) = (t, b, whole)
  unary_some ts e (inr (inr (inl (t, b, x, whole, is, first, e_is)))) = (t, b, whole)
  unary_some ts e (inr (inr (inr (inl (t, b, kind, whole, is, type, e_is))))) = (t, b, whole)
  unary_some ts e (inr (inr (inr (inr h)))) = postfix_some ts e h

  operand_some : (ts : List Lexeme) (e : Tree) → IsOperand P ts e → HasSome ts
  operand_some ts e (inl (a, b, kind, x, whole, (o, inner, c, within, p, q, is), first, e_is)) = (o, (inner ++ c ∷ []) ++ b, whole ∙ ap (λ (z : List Lexeme). z ++ b) within)
  operand_some ts e (inr h) = unary_some ts e h

  level_some : (l : ℕ) (ts : List Lexeme) (e : Tree) → IsLevel P l ts e → HasSome ts
  level_some zero ts e h = operand_some ts e h
  level_some (suc l) ts e (inl h) = level_some l ts e h
  level_some (suc l) ts e (inr (a, t, b, number, x, y, whole, binary, first, second, e_is)) = middle_some ts a t b whole

  expression_some : (ts : List Lexeme) (e : Tree) → IsRule P Expression ts e → HasSome ts
  expression_some ts e (inl h) = level_some loosest ts e h
  expression_some ts e (inr (a, t, b, number, x, y, whole, assign, first, second, e_is)) = middle_some ts a t b whole

derived_some : (n : ℕ) (ts : List Lexeme) (e : Tree) → IsExpression n ts e → HasSome ts
derived_some zero ts e h = absurd h
derived_some (suc n) ts e h = expression_some (IsDerived n) ts e h

last_to : (t : Lexeme) (ys : List Lexeme) (c : Lexeme) → to_of (t ∷ (ys ++ c ∷ [])) ≡ c.to
last_to t [] c = refl
last_to t (y ∷ ys) c = last_to y ys c

-- ---- how deep it nests

no_arm : (n : ℕ) → max n 0 + 1 ≡ n + 1
no_arm n = let le : 0 ≤ n = omega arith in ap (λ (j : ℕ). j + 1) (max-eq_left le)

-- ---- statements

module _ (source form : List ℕ) (names : List (List ℕ)) (limit : ℕ) (enough : 2 ≤ limit) where
  abbrev E : Expressions
  E = IsExpression limit

  abbrev m : ℕ → List Lexeme → List Lexeme
  m d ts = map (moved d) ts

  abbrev Made : ℕ → Setting → Bool → List Nested → (v : ℕ) → ℕ → List Lexeme → Type 0
  Made n setting looped ps v d us = (st : Statement) × IsStatement limit n setting us st × StandFor source form ps (nested looped st) × (nesting form [] st ≡ v)

  abbrev MadeAll : ℕ → Bool → List Nested → (v : ℕ) → ℕ → List Lexeme → Type 0
  MadeAll n looped ps v d us =
      (ss : List Statement) × AreAll (IsStatement limit n InBlock) us ss × StandFor source form ps (nested_all looped (statements ss)) × (nesting_all form [] (statements ss) ≡ v)

  abbrev P : List Lexeme → List Nested → (ℕ → List Lexeme → Type 0) → Type 0
  P ts ps R = Part source form names ts ps R

  abbrev K : List Lexeme → ℕ → List Lexeme → Type 0
  K ts d us = KeptAs source form names ts d us

  -- tokens that are all kept
  kept_with : (ts : List Lexeme) (ps : List Nested) (S : ℕ → List Lexeme → Type 0) → pairs_in source names ps ≡ [] → ((d : ℕ) → AreKept source form d ts → S d (m d ts)) → P ts ps S
  kept_with ts ps S none g = part_as source form names ts ts [] ps (K ts) S refl none (λ d us k. subst (λ (z : List Lexeme). S d z) (sym k.0) (g d k.1)) (kept_part source form names ts)

  tests : (d : ℕ) (ts : List Lexeme) (e : Tree) → AreKept source form d ts → IsBetween w.Open w.Close E ts e → (f : Tree) × IsBetween w.Open w.Close E (m d ts) f × Alike source form e f
  tests d ts e k h = between_moves source form d E (Alike source form) (expression_moves source form d limit) w.Open w.Close ts e k h

  maybe : (d : ℕ) (right : _) (ts : List Lexeme) (e : Option Tree) → AreKept source form d ts → IsEnded right (IsOptional E) ts e
      → (f : Option Tree) × IsEnded right (IsOptional E) (m d ts) f × Both (Alike source form) e f
  maybe d right ts e k h =
      ended_moves source form d (IsOptional E) (Both (Alike source form)) (optional_moves source form d E (Alike source form) (expression_moves source form d limit)) right ts e k h

  -- the head of a `for`
  abbrev SameInit : Perhaps → Perhaps → Type 0
  SameInit a b = Pairs (Alike source form) (init_trees a) (init_trees b) × Pairs (SameName source form) (init_names a) (init_names b)

  inits : (d : ℕ) (ts : List Lexeme) (a : Perhaps) → AreKept source form d ts → IsInit E ts a → (b : Perhaps) × IsInit E (m d ts) b × SameInit a b
  inits d ts nothing k h = (nothing, terminals_moved d ts ∙ h, (tt, tt))
  inits d ts (just (Stated (Evaluates e) from to)) k (p, q, h) =
      let r = ended_moves source form d E (Alike source form) (expression_moves source form d limit) w.Semicolon ts e k h in
      (just (Stated (Evaluates r.0) (from_of (m d ts)) (to_of (m d ts))), (refl, refl, r.1), ((r.2, tt), tt))
  inits d ts (just (Stated (Declares x) from to)) k (p, q, h) =
      let r = declaration_moves source form d E (expression_moves source form d limit) ts x k h in
      (just (Stated (Declares r.0) (from_of (m d ts)) (to_of (m d ts))), (refl, refl, r.1), (declaration_pairs source form d x r.0 r.2, declared_pairs source form d x r.0 r.2))
  inits d ts (just (Stated (Block kids) from to)) k h = absurd h
  inits d ts (just (Stated Empties from to)) k h = absurd h
  inits d ts (just (Stated (Labels name mark body) from to)) k h = absurd h
  inits d ts (just (Stated (Chooses test body other) from to)) k h = absurd h
  inits d ts (just (Stated (Whiles test body) from to)) k h = absurd h
  inits d ts (just (Stated (Does body test) from to)) k h = absurd h
  inits d ts (just (Stated (Fors init test step body) from to)) k h = absurd h
  inits d ts (just (Stated Breaks from to)) k h = absurd h
  inits d ts (just (Stated Continues from to)) k h = absurd h
  inits d ts (just (Stated (Returns value) from to)) k h = absurd h

  -- a statement without statements in it
  alone : (n : ℕ) (setting : Setting) (ts : List Lexeme) (fm : Form) (looped : Bool) → nested_within looped fm ≡ [] → pair_at source names fm (from_of ts) (to_of ts) ≡ None
      → ((d : ℕ) → AreKept source form d ts → (made : Form) × IsForm E (IsStatement limit n) setting (m d ts) made × (nested_within looped made ≡ [])
      × SamePlaced source form (record { statement = stated fm ts; looped = looped }) (record { statement = stated made (m d ts); looped = looped })
      × (nesting_in form [] made ≡ nesting_in source names fm))
      → P ts (nested looped (stated fm ts)) (Made (suc n) setting looped (nested looped (stated fm ts)) (nesting_in source names fm))
  alone n setting ts fm looped leaf other g =
      kept_with ts (nested looped (stated fm ts)) (Made (suc n) setting looped (nested looped (stated fm ts)) (nesting_in source names fm)) (rw (other, leaf) refl)
      (λ d k. (let r = g d k in (stated r.0 (m d ts), (refl, refl, r.1), one_more source form _ _ (nested_within looped fm) (nested_within looped r.0) r.3 (rw leaf r.2), r.4)))

  whole_nests : (p q : ℕ) (us : List Lexeme) (again : Tree) (is : IsStatement limit 2 InBlock us (stated (Evaluates again) us))
      → nesting form [] (whole_statement limit enough p q us (stated (Evaluates again) us) is) ≡ 5
  whole_nests p q us again is = rw (calls_none form again) refl

  -- the call of a statement that gets the two texts
  called : (n : ℕ) (setting : Setting) (ts : List Lexeme) (e : Tree) (looped : Bool) → calls_one source names e ≡ true → 5 ≤ n → IsEnded w.Semicolon E ts e
      → P ts (nested looped (stated (Evaluates e) ts)) (Made n setting looped (nested looped (stated (Evaluates e) ts)) (nesting_in source names (Evaluates e)))
  called n setting ts e looped calls deep (inner_tokens, c, whole_ts, closes, is) =
      let some = derived_some limit inner_tokens e is in
      let t = some.0 in
      let ys = some.1 in
      let all : call_tokens t ys c ≡ ts = ap (λ (z : List Lexeme). z ++ c ∷ []) (sym some.2) ∙ sym whole_ts in
      let split : t ∷ ys ≡ inner_tokens = sym some.2 in
      record {
        stretches = Calls t ys c ∷ [];
        left = append-nil (call_tokens t ys c) ∙ all;
        spans = span_is t ys c all;
        ended = (closes, tt);
        right = λ d h. made t ys c d (IsEnded-as t ys c all split) h.0 h.1;
      }
    where
      IsEnded-as : (t : Lexeme) (ys : List Lexeme) (c : Lexeme) → call_tokens t ys c ≡ ts → t ∷ ys ≡ inner_tokens → IsEnded w.Semicolon E (call_tokens t ys c) e
      IsEnded-as t ys x same split = subst (λ (z : List Lexeme). IsEnded w.Semicolon E z e) (sym same) (inner_tokens, c, whole_ts, closes, is)

      span_is : (t : Lexeme) (ys : List Lexeme) (c : Lexeme) → call_tokens t ys c ≡ ts → (t.from, c.to) ∷ [] ≡ pairs_in source names (nested looped (stated (Evaluates e) ts))
      span_is t ys c same = rw calls (ap₂ (λ (a b : ℕ). (a, b) ∷ []) (ap from_of same) (sym (last_to t ys c) ∙ ap to_of same))

      made : (t : Lexeme) (ys : List Lexeme) (c : Lexeme) (d : ℕ) → IsEnded w.Semicolon E (call_tokens t ys c) e → AreKept source form (d + 13) (call_tokens t ys c)
          → IsBrought form (t.from + d) (c.to + (d + 13)) → Made n setting looped (nested looped (stated (Evaluates e) ts)) (nesting_in source names (Evaluates e)) d (rights d (Calls t ys c ∷ []))
      made t ys c d ended kept brought =
          let r = ended_moves source form (d + 13) E (Alike source form) (expression_moves source form (d + 13) limit) w.Semicolon (call_tokens t ys c) e kept ended in
          let us = m (d + 13) (call_tokens t ys c) in
          let p = t.from + d in
          let q = c.to + (d + 13) in
          let first : Statement = stated (Evaluates r.0) us in
          let five = brought_is limit enough p q us first (refl, refl, r.1) setting in
          let stands = called_is source form e r.0 (exit_tree limit enough p q us first (refl, refl, r.1)) (test_tree limit enough p q us first
          (refl, refl, r.1)) looped _ _ _ _ _ _ _ _ _ _ _ _ _ _ _ _ r.2
          (_, _, _, _, _, refl, brought.0) (_, _, _, _, _, refl, brought.1) in (
            whole_statement limit enough p q us first (refl, refl, r.1),
            statement_deeper limit limit 5 n (omega arith) deep setting _ _ five,
            (nested looped (whole_statement limit enough p q us first (refl, refl, r.1)), [], sym (append-nil _), inr stands, refl),
            rw calls (whole_nests p q us r.0 (refl, refl, r.1)),
          )

  abbrev Forms : ℕ → ℕ → Type 0
  Forms n k =
      (setting : Setting) (ts : List Lexeme) (st : Statement) (looped : Bool) → IsStatement limit n setting ts st → nesting source names st ≤ k
      → P ts (nested looped st) (Made k setting looped (nested looped st) (nesting source names st))

  -- a rule, where the statements in it are formed
  module _ (n k : ℕ) (h : Forms n k) where
    pub all_formed : (ts : List Lexeme) (ss : List Statement) (looped : Bool) → AreAll (IsStatement limit n InBlock) ts ss → nesting_all source names (statements ss) ≤ k
        → P ts (nested_all looped (statements ss)) (MadeAll k looped (nested_all looped (statements ss)) (nesting_all source names (statements ss)))
    all_formed ts [] looped none deep = kept_with ts [] (MadeAll k looped [] 0) refl (λ d l. ([], ap (m d) none, refl, refl))
    all_formed ts (st ∷ ss) looped (x, y, whole, first, rest) deep =
        let one = le-max_left (nesting source names st) (nesting_all source names (statements ss)) in
        let other = le-max_right (nesting source names st) (nesting_all source names (statements ss)) in
        let ps = nested looped st in
        let qs = nested_all looped (statements ss) in
        let vs = nesting source names st in
        let ws = nesting_all source names (statements ss) in
        part_as source form names (x ++ y) ts (ps ++ qs) (ps ++ qs) (Then source form names (Made k InBlock looped ps vs) (MadeAll k looped qs ws)) (MadeAll k looped (ps ++ qs)
        (max vs ws)) whole refl
        (λ d us t. (t.4.0 ∷ t.5.0, (t.0, t.1, t.3, t.4.1, t.5.1), stand_for_both source form ps qs (nested looped t.4.0) (nested_all looped (statements t.5.0)) t.4.2 t.5.2, ap₂ max t.4.3 t.5.3))
        (part_then source form names x y ps qs (Made k InBlock looped ps vs) (MadeAll k looped qs ws) (h InBlock x st looped first (omega (arith, one, deep))) (all_formed y ss looped rest (omega
        (arith, other, deep))))

    -- kept tokens, then a statement
    abbrev Front : List Lexeme → Setting → Bool → List Nested → (v : ℕ) → ℕ → List Lexeme → Type 0
    Front a setting looped ps v d us = Then source form names (K a) (Made k setting looped ps v) d us

    front : (a ts : List Lexeme) (setting : Setting) (st : Statement) (looped : Bool) → IsStatement limit n setting ts st → nesting source names st ≤ k
        → P (a ++ ts) (nested looped st) (Front a setting looped (nested looped st) (nesting source names st))
    front a ts setting st looped is deep = part_then source form names a ts [] (nested looped st) (K a) (Made k setting looped (nested looped st) (nesting source names st))
        (kept_part source form names a)
        (h setting ts st looped is deep)

    front_is : (a : List Lexeme) (setting : Setting) (looped : Bool) (ps : List Nested) (v d : ℕ) (us : List Lexeme) (t : Front a setting looped ps v d us) → us ≡ m d a ++ t.1
    front_is a setting looped ps v d us t = t.3 ∙ ap (λ (z : List Lexeme). z ++ t.1) t.4.0

    -- a form with one statement at its end
    with_one : (setting : Setting) (ts a b : List Lexeme) (fm : Form) (body : Statement) (at : Setting) (looped turned : Bool) → ts ≡ a ++ b
        → IsStatement limit n at b body → nesting source names body ≤ k
        → nested_within looped fm ≡ nested turned body → pair_at source names fm (from_of ts) (to_of ts) ≡ None → nesting_in source names fm ≡ nesting source names body + 1
        → ((d : ℕ) (us y : List Lexeme) (st : Statement) → us ≡ m d a ++ y → AreKept source form d a → IsStatement limit k at y st → (made : Form) × IsForm E (IsStatement limit k) setting us made
        × (nested_within looped made ≡ nested turned st) × SamePlaced source form (record { statement = stated fm ts; looped = looped }) (record { statement = stated made us; looped = looped })
        × (nesting_in form [] made ≡ nesting form [] st + 1))
        → P ts (nested looped (stated fm ts)) (Made (suc k) setting looped (nested looped (stated fm ts)) (nesting_in source names fm))
    with_one setting ts a b fm body at looped turned whole is deep own other nests g =
        part_as source form names (a ++ b) ts (nested turned body) (nested looped (stated fm ts)) (Front a at turned (nested turned body) (nesting source names body)) (Made
        (suc k) setting looped (nested looped
        (stated fm ts)) (nesting_in source names fm)) whole
        (rw (other, own) refl)
        (λ d us t. (
        let r = g d us t.1 t.5.0 (front_is a at turned (nested turned body) (nesting source names body) d us t) t.4.1 t.5.1 in (
          stated r.0 us,
          (refl, refl, r.1),
          one_more source form (record { statement = stated fm ts; looped = looped }) (record { statement = stated r.0 us; looped = looped }) (nested_within looped fm)
              (nested_within looped r.0) r.3 (rw (own, r.2) t.5.2),
          r.4 ∙ ap (λ (j : ℕ). j + 1) t.5.3 ∙ sym nests,
        )))
        (front a b at body turned is deep)

    block : (setting : Setting) (ts : List Lexeme) (inner : List Statement) (looped : Bool) → IsBetween w.OpenBrace w.CloseBrace (AreAll (IsStatement limit n InBlock)) ts inner
        → nesting_all source names (statements inner) ≤ k
        → P ts (nested looped (stated (Block (statements inner)) ts)) (Made (suc k) setting looped (nested looped (stated (Block (statements inner)) ts)) (nesting_all source names
        (statements inner) + 1))
    block setting ts inner looped (o, x, c, whole, opens, closes, all) deep =
        let ps = nested_all looped (statements inner) in
        part_as source form names (o ∷ (x ++ c ∷ [])) ts (ps ++ []) (nested looped (stated (Block (statements inner)) ts))
        (Then source form names (K (o ∷ [])) (Then source form names (MadeAll k looped ps (nesting_all source names (statements inner))) (K (c ∷ [])))) (Made (suc k) setting looped
        (nested looped (stated (Block (statements inner)) ts)) (nesting_all source names (statements inner) + 1)) whole
        (ap (pairs_in source names) (sym (append-nil ps)))
        (λ d us t. (
        let u = t.5 in
        let us_is : us ≡ moved d o ∷ (u.0 ++ moved u.2 c ∷ []) =
        t.3 ∙ ap (λ (z : List Lexeme). z ++ t.1) t.4.0 ∙ ap (λ (z : List Lexeme). moved d o ∷ z) (u.3 ∙ ap (λ (z : List Lexeme). u.0 ++ z) u.5.0) in (
          stated (Block (statements u.4.0)) us,
          (refl, refl, (u.4.0, refl, (moved d o, u.0, moved u.2 c, us_is, opens, closes, u.4.1))),
          one_more source form _ _ ps (nested_all looped (statements u.4.0)) (record { looped = refl; wholes = tt; labels = tt; locals = tt; jump = refl }) u.4.2,
          ap (λ (j : ℕ). j + 1) u.4.3,
        )))
        (part_then source form names (o ∷ []) (x ++ c ∷ []) [] (ps ++ []) (K (o ∷ [])) (Then source form names (MadeAll k looped ps (nesting_all source names (statements inner))) (K
        (c ∷ []))) (kept_part source form names (o ∷ []))
        (part_then source form names x (c ∷ []) ps [] (MadeAll k looped ps (nesting_all source names (statements inner))) (K (c ∷ [])) (all_formed x inner looped all deep)
        (kept_part source form names (c ∷ []))))

    arms : (setting : Setting) (ts : List Lexeme) (test : Tree) (body other : Statement) (looped : Bool) → IsForm E (IsStatement limit n) setting ts (Chooses test body (just other))
        → nesting source names body ≤ k → nesting source names other ≤ k
        → P ts (nested looped (stated (Chooses test body (just other)) ts)) (Made (suc k) setting looped (nested looped (stated (Chooses test body (just other)) ts)) (max
        (nesting source names body) (nesting source names other) + 1))
    arms setting ts test body other looped (i, x, y, e, z, whole, i_is, test_is, is, e_is, other_is) deep too =
        let ps = nested looped body in
        let qs = nested looped other in
        let a = i ∷ x in
        part_as source form names (a ++ (y ++ e ∷ z)) ts (ps ++ qs) (nested looped (stated (Chooses test body (just other)) ts))
        (Then source form names (K a) (Then source form names (Made k BeforeElse looped ps (nesting source names body)) (Front (e ∷ []) (last setting) looped qs (nesting source names other))))
        (Made (suc k) setting looped (nested looped (stated (Chooses test body (just other)) ts)) (max (nesting source names body) (nesting source names other) + 1)) whole refl
        (λ d us t. (
        let u = t.5 in
        let v = u.5 in
        let us_is : us ≡ moved d i ∷ m d x ++ (u.0 ++ moved u.2 e ∷ v.1) =
        t.3 ∙ ap (λ (l : List Lexeme). l ++ t.1) t.4.0 ∙ ap (λ (l : List Lexeme). m d a ++ l) (u.3
        ∙ ap (λ (l : List Lexeme). u.0 ++ l) (front_is (e ∷ []) (last setting) looped qs (nesting source names other) u.2 u.1 v)) in
        let r = tests d x test t.4.1.1 test_is in (
          stated (Chooses r.0 u.4.0 (just v.5.0)) us,
          (refl, refl, (moved d i, m d x, u.0, moved u.2 e, v.1, us_is, i_is, r.1, u.4.1, e_is, v.5.1)),
          one_more source form _ _ (ps ++ qs) (nested looped u.4.0 ++ nested looped v.5.0) (record { looped = refl; wholes = ((r.2, refl), tt); labels = tt; locals = tt; jump = refl })
              (stand_for_both source form ps qs (nested looped u.4.0) (nested looped v.5.0) u.4.2 v.5.2),
          ap₂ (λ (i j : ℕ). max i j + 1) u.4.3 v.5.3,
        )))
        (part_then source form names a (y ++ e ∷ z) [] (ps ++ qs) (K a) (Then source form names (Made k BeforeElse looped ps (nesting source names body)) (Front (e ∷ [])
        (last setting) looped qs (nesting source names other))) (kept_part source form names a)
        (part_then source form names y (e ∷ z) ps qs (Made k BeforeElse looped ps (nesting source names body)) (Front (e ∷ []) (last setting) looped qs (nesting source names other))
        (h BeforeElse y body looped is deep) (front (e ∷ []) z
        (last setting) other looped other_is too)))

    does : (setting : Setting) (ts : List Lexeme) (body : Statement) (test : Tree) (looped : Bool) → IsForm E (IsStatement limit n) setting ts (Does body test) → nesting source names body ≤ k
        → P ts (nested looped (stated (Does body test) ts)) (Made (suc k) setting looped (nested looped (stated (Does body test) ts)) (nesting source names body + 1))
    does setting ts body test looped (o, x, i, y, c, whole, o_is, is, i_is, test_is, c_is) deep =
        let ps = nested true body in
        let b = i ∷ (y ++ c ∷ []) in
        part_as source form names (o ∷ (x ++ b)) ts (ps ++ []) (nested looped (stated (Does body test) ts))
        (Then source form names (Front (o ∷ []) Elsewhere true ps (nesting source names body)) (K b)) (Made (suc k) setting looped (nested looped (stated (Does body test) ts))
        (nesting source names body + 1)) whole
        (ap (pairs_in source names) (sym (append-nil ps)))
        (λ d us t. (
        let u = t.4 in
        let there : m t.2 b ≡ moved t.2 i ∷ m t.2 y ++ moved t.2 c ∷ [] = ap (λ (l : List Lexeme). moved t.2 i ∷ l) (parts_moved t.2 (y ++ c ∷ []) y (c ∷ []) refl) in
        let us_is : us ≡ moved d o ∷ u.1 ++ (moved t.2 i ∷ m t.2 y ++ moved t.2 c ∷ []) =
        t.3 ∙ ap (λ (l : List Lexeme). l ++ t.1) (front_is (o ∷ []) Elsewhere true ps (nesting source names body) d t.0 u) ∙ ap (λ (l : List Lexeme). moved d o ∷ (u.1 ++ l)) (t.5.0 ∙ there) in
        let r = tests t.2 y test (kept_parts source form t.2 (y ++ c ∷ []) y (c ∷ []) refl t.5.1.1).0 test_is in (
          stated (Does u.5.0 r.0) us,
          (refl, refl, (moved d o, u.1, moved t.2 i, m t.2 y, moved t.2 c, us_is, o_is, u.5.1, i_is, r.1, c_is)),
          one_more source form _ _ ps (nested true u.5.0) (record { looped = refl; wholes = ((r.2, refl), tt); labels = tt; locals = tt; jump = refl }) u.5.2,
          ap (λ (j : ℕ). j + 1) u.5.3,
        )))
        (part_then source form names (o ∷ x) b ps [] (Front (o ∷ []) Elsewhere true ps (nesting source names body)) (K b) (front (o ∷ []) x Elsewhere body true is deep)
        (kept_part source form names b))

    fors_tokens : (d : ℕ) (f o : Lexeme) (a b c y : List Lexeme) → m d (f ∷ o ∷ (a ++ (b ++ c))) ++ y ≡ moved d f ∷ moved d o ∷ m d a ++ (m d b ++ (m d c ++ y))
    fors_tokens d f o a b c y =
        ap (λ (l : List Lexeme). moved d f ∷ moved d o ∷ l)
        (ap (λ (l : List Lexeme). l ++ y) (three_moved d (a ++ (b ++ c)) a b c refl) ∙ append_assoc (m d a) (m d b ++ m d c) y ∙ ap (λ (l : List Lexeme). m d a ++ l) (append_assoc (m d b) (m d c) y))

    form_formed : (setting : Setting) (ts : List Lexeme) (fm : Form) (looped : Bool) → IsForm E (IsStatement limit n) setting ts fm → nesting_in source names fm ≤ suc k
        → P ts (nested looped (stated fm ts)) (Made (suc k) setting looped (nested looped (stated fm ts)) (nesting_in source names fm))
    form_formed setting ts (Block kids) looped (inner, kids_are, between) deep =
        let same : nesting_all source names kids ≡ nesting_all source names (statements inner) = ap (nesting_all source names) kids_are in
        subst (λ (z : Statements). P ts (nested looped (stated (Block z) ts)) (Made (suc k) setting looped (nested looped (stated (Block z) ts)) (nesting_all source names z + 1))) (sym kids_are)
        (block setting ts inner looped between (omega (arith, same, deep)))
    form_formed setting ts (Declares x) looped (block_setting, is) deep = alone k setting ts (Declares x) looped refl refl (λ d l. (
        let r = declaration_moves source form d E (expression_moves source form d limit) ts x l is in (
          Declares r.0,
          (block_setting, r.1),
          refl,
          record {
            looped = refl;
            wholes = inner_pairs source form _ _ (declaration_pairs source form d x r.0 r.2);
            labels = tt;
            locals = declared_pairs source form d x r.0 r.2;
            jump = refl;
          },
          refl,
        )))
    form_formed setting ts (Evaluates e) looped is deep = by (calls_one source names e) refl deep
      where
        by : (b : Bool) → calls_one source names e ≡ b → cond b 5 1 ≤ suc k
            → P ts (nested looped (stated (Evaluates e) ts)) (Made (suc k) setting looped (nested looped (stated (Evaluates e) ts)) (nesting_in source names (Evaluates e)))
        by true calls low = called (suc k) setting ts e looped calls low is
        by false calls low = alone k setting ts (Evaluates e) looped refl (rw calls refl) (λ d l. (
            let r = ended_moves source form d E (Alike source form) (expression_moves source form d limit) w.Semicolon ts e l is in
            (Evaluates r.0, r.1, refl, record { looped = refl; wholes = ((r.2, refl), tt); labels = tt; locals = tt; jump = refl }, rw (calls, calls_none form r.0) refl)))
    form_formed setting ts Empties looped is deep = alone k setting ts Empties looped refl refl
        (λ d l. (Empties, terminals_moved d ts ∙ is, refl, record { looped = refl; wholes = tt; labels = tt; locals = tt; jump = refl }, refl))
    form_formed setting ts (Labels name mark body) looped (t, c, x, whole, t_is, c_is, name_is, mark_is, is) deep =
        with_one setting ts (t ∷ c ∷ []) x (Labels name mark body) body (last setting) looped looped whole is (omega arith) refl refl refl (λ d us y st us_is l st_is. (
          Labels (name_of (moved d t)) (moved d c).to st,
          (moved d t, moved d c, y, us_is, t_is, c_is, refl, refl, st_is),
          refl,
          record { looped = refl; wholes = tt; labels = (subst (λ (z : Name). SameName source form z (name_of (moved d t))) (sym name_is) l.0, tt); locals = tt; jump = refl },
          refl,
        ))
    form_formed setting ts (Chooses test body nothing) looped (i, x, y, whole, ne, i_is, test_is, is) deep =
        let low = le-max_left (nesting source names body) 0 in
        with_one setting ts (i ∷ x) y (Chooses test body nothing) body Elsewhere looped looped whole is (omega (arith, low, deep)) (append-nil (nested looped body)) refl (no_arm
        (nesting source names body)) (λ d us z st us_is l st_is. (
        let r = tests d x test l.1 test_is in (
          Chooses r.0 st nothing,
          (moved d i, m d x, z, us_is, ne, i_is, r.1, st_is),
          append-nil (nested looped st),
          record { looped = refl; wholes = ((r.2, refl), tt); labels = tt; locals = tt; jump = refl },
          no_arm (nesting form [] st),
        )))
    form_formed setting ts (Chooses test body (just other)) looped is deep =
        let low = le-max_left (nesting source names body) (nesting source names other) in
        let too = le-max_right (nesting source names body) (nesting source names other) in
        arms setting ts test body other looped is (omega (arith, low, deep)) (omega (arith, too, deep))
    form_formed setting ts (Whiles test body) looped (i, x, y, whole, i_is, test_is, is) deep =
        with_one setting ts (i ∷ x) y (Whiles test body) body (last setting) looped true whole is (omega arith) refl refl refl (λ d us z st us_is l st_is. (
        let r = tests d x test l.1 test_is in
        (Whiles r.0 st, (moved d i, m d x, z, us_is, i_is, r.1, st_is), refl, record { looped = refl; wholes = ((r.2, refl), tt); labels = tt; locals = tt; jump = refl }, refl)))
    form_formed setting ts (Does body test) looped is deep = does setting ts body test looped is (omega arith)
    form_formed setting ts (Fors init test step body) looped (f, o, a, b, c, y, whole, f_is, o_is, init_is, test_is, step_is, is) deep =
        let front_tokens = f ∷ o ∷ (a ++ (b ++ c)) in
        let split : ts ≡ front_tokens ++ y =
        whole ∙ ap (λ (l : List Lexeme). f ∷ o ∷ l) (ap (λ (l : List Lexeme). a ++ l) (sym (append_assoc b c y)) ∙ sym (append_assoc a (b ++ c) y)) in
        with_one setting ts front_tokens y (Fors init test step body) body (last setting) looped true split is (omega arith) refl refl refl (λ d us z st us_is l st_is. (
        let own = kept_parts source form d (a ++ (b ++ c)) a (b ++ c) refl l.1.1 in
        let rest = kept_parts source form d (b ++ c) b c refl own.1 in
        let p = inits d a init own.0 init_is in
        let q = maybe d w.Semicolon b test rest.0 test_is in
        let r = maybe d w.Close c step rest.1 step_is in (
          Fors p.0 q.0 r.0 st,
          (moved d f, moved d o, m d a, m d b, m d c, z, us_is ∙ fors_tokens d f o a b c z, f_is, o_is, p.1, q.1, r.1, st_is),
          refl,
          record {
            looped = refl;
            wholes = inner_pairs source form _ _ (pairs_both (Alike source form) _ _ _ _ (pairs_both (Alike source form) _ _ _ _ p.2.0 (given_pairs source form test q.0 q.2))
                (given_pairs source form step r.0 r.2));
            labels = tt;
            locals = p.2.1;
            jump = refl;
          },
          refl,
        )))
    form_formed setting ts Breaks looped is deep = alone k setting ts Breaks looped refl refl
        (λ d l. (Breaks, terminals_moved d ts ∙ is, refl, record { looped = refl; wholes = tt; labels = tt; locals = tt; jump = refl }, refl))
    form_formed setting ts Continues looped is deep = alone k setting ts Continues looped refl refl
        (λ d l. (Continues, terminals_moved d ts ∙ is, refl, record { looped = refl; wholes = tt; labels = tt; locals = tt; jump = refl }, refl))
    form_formed setting ts (Returns value) looped (t, b, whole, t_is, ended) deep = alone k setting ts (Returns value) looped refl refl (λ d l. (
        let own = kept_as source form d ts (t ∷ b) whole l in
        let r = maybe d w.Semicolon b value own.1 ended in (
          Returns r.0,
          (moved d t, m d b, ap (m d) whole, t_is, r.1),
          refl,
          record { looped = refl; wholes = inner_pairs source form _ _ (given_pairs source form value r.0 r.2); labels = tt; locals = tt; jump = refl },
          refl,
        )))

  nests_some : (fm : Form) → 0 < nesting_in source names fm
  nests_some (Block kids) = omega arith
  nests_some (Declares x) = omega arith
  nests_some (Evaluates e) = by (calls_one source names e)
    where
      by : (b : Bool) → 0 < cond b 5 1
      by true = omega arith
      by false = omega arith
  nests_some Empties = omega arith
  nests_some (Labels name mark body) = omega arith
  nests_some (Chooses test body other) = omega arith
  nests_some (Whiles test body) = omega arith
  nests_some (Does body test) = omega arith
  nests_some (Fors init test step body) = omega arith
  nests_some Breaks = omega arith
  nests_some Continues = omega arith
  nests_some (Returns value) = omega arith

  pub statement_formed : (n k : ℕ) → Forms n k
  statement_formed zero k setting ts st looped is deep = absurd is
  statement_formed (suc n) zero setting ts (Stated fm from to) looped is deep = absurd (let some = nests_some fm in omega (arith, some, deep))
  statement_formed (suc n) (suc k) setting ts (Stated fm from to) looped (from_is, to_is, is) deep =
      subst (λ (z : ℕ). P ts (nested looped (Stated fm z to)) (Made (suc k) setting looped (nested looped (Stated fm z to)) (nesting_in source names fm))) (sym from_is)
      (subst (λ (z : ℕ). P ts (nested looped (Stated fm (from_of ts) z)) (Made (suc k) setting looped (nested looped (Stated fm (from_of ts) z)) (nesting_in source names fm))) (sym to_is)
      (form_formed n k (statement_formed n k) setting ts fm looped is deep))
