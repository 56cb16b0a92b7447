-- What is read derives its tree.
use Rattle.std.proofs.Common.{◌≡◌, ℕ, zero, suc, ◌+◌, ◌<◌, ◌≤◌, max, Bool, true, false, cond, ltb, eqb, List, [], ◌∷◌, ◌++◌, length, Ok, Err, Option, Some, None, refl, sym, ap, add-one as one_deeper}
use Rattle.std.proofs.Common.{◌∙◌, append_assoc, arith, length-append, inl, inr}
use Rattle.std.specs.Prelude.{IfOk}
use Rattle.std.proofs.lemmas.Bool.{ltb-false, false≢true, eqb-true}
use Rattle.std.proofs.lemmas.Result.{IfOk-weaker}
use Rattle.cw_syntax.specs.declared.program.Op.{Op}
use Rattle.cw_syntax.specs.declared.program.Op.TheVariants as op
use Rattle.cw_syntax.specs.Trees.{Tree, Node}
use Rattle.cw_grammar.specs.declared.terminals.Lexeme.{Lexeme}
use Rattle.cw_grammar.specs.declared.terminals.Terminal.{Terminal}
use Rattle.cw_grammar.specs.declared.terminals.Terminal.TheVariants as w
use Rattle.cw_grammar.specs.declared.rules.Rule.{Rule}
use Rattle.cw_grammar.specs.declared.rules.Rule.TheVariants.{Expression, Level, Unary, Postfix}
use Rattle.cw_grammar.specs.Terminals.{same}
use Rattle.cw_grammar.specs.Operators as operators
use Rattle.cw_grammar.specs.Lexemes.{Is, name_of, from_of, to_of, AreSeparated, trees}
use Rattle.cw_grammar.specs.Expressions.{node, IsDerived, AreStrings, loosest}
use Rattle.cw_grammar.proofs.SameTerminal.{same-true}
use Rattle.cw_expressions.specs.declared.refusal.Refusal.TheVariants as refusal
use Rattle.cw_expressions.specs.Cursor.{begins, after, first, known, expect, repeat}
use Rattle.cw_expressions.specs.TypeReading.{type_between}
use Rattle.cw_expressions.specs.Reading.{Got, Read, Arguments, rest_of, rest_of_arguments, built, begins_cast, past_strings, next_of, at_level, binary_at, goes_on_at, is_suffixed}
use Rattle.cw_expressions.specs.Reading.{argument, arguments, named, between, primary, suffixed, postfix, size_of, prefixed, unary, cast, operand, joined, chain, assigned}
use Rattle.cw_expressions.specs.Reading.{expression, by_rule, read_at}
use Rattle.cw_expressions.proofs.Steps.{if_bind, if_cond, known_is, first_takes, expect_takes, begins_takes, from_of_append, to_of_cons, to_of_append}
use Rattle.cw_expressions.proofs.Repeat.{repeat_keeps}
use Rattle.cw_expressions.proofs.TypesSound.{type_between_takes}
use Rattle.cw_grammar.proofs.Deeper.{separated_weaker, derived_deeper}
use Rattle.cw_expressions.proofs.Levels.{postfix_unary, unary_operand, level_above, loosest_expression}

-- A front of the tokens derives what was read by this rule, with at most this nesting.
pub record IsRead (n : ℕ) (rule : Rule) (ts : List Lexeme) (x : Got) : Type 0 where
  pub front : List Lexeme
  pub parts : ts ≡ front ++ x.rest
  pub some : 0 < length front
  pub fits : x.depth ≤ n
  pub from : x.from ≡ from_of front
  pub to : x.to ≡ to_of front
  pub derived : IsDerived x.depth rule front x.tree
  pub unary : x.unary ≡ true → IsDerived x.depth Unary front x.tree

-- read by one rule, and so by another
pub read_as : (n : ℕ) (rule wider : Rule) (ts : List Lexeme) (x : Got) → ((front : List Lexeme) → IsDerived x.depth rule front x.tree → IsDerived x.depth wider front x.tree)
    → IsRead n rule ts x → IsRead n wider ts x
read_as n rule wider ts x f r = record { front = r.front; parts = r.parts; some = r.some; fits = r.fits; from = r.from; to = r.to; derived = f r.front r.derived; unary = r.unary }

-- a node by its places
placed : (o : Op) (parts : List Tree) (from to : ℕ) (ts : List Lexeme) → from ≡ from_of ts → to ≡ to_of ts → Node o (trees parts) from to ≡ node o parts ts
placed o parts from to ts p q = cc

-- what was read over tokens in brackets
abbrev pub AreRead : ℕ → List Lexeme → Arguments → Type 0
AreRead n ts x = (front : List Lexeme) × (ts ≡ front ++ x.rest) × (x.depth ≤ n) × AreSeparated (IsDerived x.depth Expression) front x.list

-- one more behind a comma
separated_more : (P : List Lexeme → Tree → Type 0) (es : List Tree) (ts : List Lexeme) (c : Lexeme) (b : List Lexeme) (y : Tree) → 0 < length es → AreSeparated P ts es
    → Is w.Comma c → P b y → AreSeparated P (ts ++ c ∷ b) (es ++ y ∷ [])
separated_more P [] ts c b y some h comma p = absurd (omega arith)
separated_more P (x ∷ []) ts c b y some h comma p = (ts, c, b, refl, comma, h, p)
separated_more P (x ∷ z ∷ es) ts c b y some h comma p =
    (h.0, h.1, h.2 ++ c ∷ b, rw h.3 (append_assoc h.0 (h.1 ∷ h.2) (c ∷ b)), h.4, h.5, separated_more P (z ∷ es) h.2 c b y (omega arith) h.6 comma p)

binary_found : (level number : ℕ) (ts : List Lexeme) → binary_at level ts ≡ Some number → (t : Lexeme) × (ts ≡ t ∷ after ts) × (operators.binary t.terminal ≡ Some (number, level))
binary_found level number [] e = absurd (cc)
binary_found level number (t ∷ ts) e = by_option (operators.binary t.terminal) refl e where
  by_test : (m k : ℕ) (b : Bool) → operators.binary t.terminal ≡ Some (m, k) → eqb k level ≡ b → cond b (Some m) None ≡ Some number → (u : Lexeme) × (t ∷ ts ≡ u ∷ ts)
      × (operators.binary u.terminal ≡ Some (number, level))
  by_test m k true is f g = let l : k ≡ level = eqb-true k level f in (t, refl, cc)
  by_test m k false is f g = absurd (cc)

  by_option : (o : Option (ℕ × ℕ)) → operators.binary t.terminal ≡ o → at_level level o ≡ Some number → (u : Lexeme) × (t ∷ ts ≡ u ∷ ts) × (operators.binary u.terminal ≡ Some (number, level))
  by_option None is f = absurd (cc)
  by_option (Some x) is f = by_test x.0 x.1 (eqb x.1 level) is refl f

next_found : {X : Type 0} (table : Terminal → Option X) (x : X) (ts : List Lexeme) → next_of table ts ≡ Some x → (t : Lexeme) × (ts ≡ t ∷ after ts) × (table t.terminal ≡ Some x)
next_found table x [] e = absurd (cc)
next_found table x (t ∷ ts) e = (t, refl, e)

-- strings to the last
abbrev Strings : Lexeme → List Lexeme → ℕ × List Lexeme → Type 0
Strings t ts x = (a : List Lexeme) × (ts ≡ a ++ x.1) × AreStrings (t ∷ a) × (x.0 ≡ to_of (t ∷ a))

strings_by : (t u : Lexeme) (ts : List Lexeme) → Is w.Text t → (Is w.Text u → Strings u ts (past_strings u.to ts)) → (b : Bool) → same u.terminal w.Text ≡ b
    → Strings t (u ∷ ts) (cond b (past_strings u.to ts) (t.to, u ∷ ts))
strings_by t u ts is rec true e =
    let p = rec (same-true u.terminal w.Text refl e) in
    (u ∷ p.0, ap (λ (z : List Lexeme). u ∷ z) p.1, (is, p.2), p.3)
strings_by t u ts is rec false e = ([], refl, (is, tt), refl)

strings_take : (t : Lexeme) (ts : List Lexeme) → Is w.Text t → Strings t ts (past_strings t.to ts)
strings_take t [] is = ([], refl, (is, tt), refl)
strings_take t (u ∷ ts) is = strings_by t u ts is (λ next. strings_take u ts next) (same u.terminal w.Text) refl

module _ (n : ℕ) (read : Rule → List Lexeme → Read) (h : (rule : Rule) (ts : List Lexeme) → IfOk (read rule ts) (IsRead n rule ts)) where
  -- ---- primary

  argument_sound : (ts : List Lexeme) (x : Arguments) → 0 < length x.list → begins w.Comma x.rest ≡ true → AreRead n ts x → IfOk (argument read n x) (λ y. (0 < length y.list) × AreRead n ts y)
  unfolding argument
  argument_sound ts x some go f =
      let c = begins_takes w.Comma refl x.rest go in
      if_bind (read Expression (after x.rest)) _ _ _ (h Expression (after x.rest)) (λ y r.
      let deep = max x.depth y.depth in
      let wider : AreSeparated (IsDerived deep Expression) f.0 x.list =
      separated_weaker (IsDerived x.depth Expression) (IsDerived deep Expression) (derived_deeper x.depth deep (omega arith) Expression) x.list f.0 f.3 in
      let one : IsDerived deep Expression r.front y.tree = derived_deeper y.depth deep (omega arith) Expression r.front y.tree r.derived in (
        omega (arith, length-append x.list (y.tree ∷ [])),
        (
          f.0 ++ c.0 ∷ r.front,
          f.1 ∙ ap (λ (z : List Lexeme). f.0 ++ z) (c.1 ∙ ap (λ (z : List Lexeme). c.0 ∷ z) r.parts) ∙ sym (append_assoc f.0 (c.0 ∷ r.front) y.rest),
          (let p = f.2 in let q = r.fits in omega arith),
          separated_more (IsDerived deep Expression) x.list f.0 c.0 r.front y.tree some wider c.2 one,
        ),
      ))

  arguments_sound : (ts : List Lexeme) → IfOk (arguments read n ts) (AreRead n ts)
  unfolding arguments
  arguments_sound ts =
      if_cond (begins w.Close ts) _ _ _
      (λ e. ([], refl, omega arith, refl))
      (λ e.
      if_bind (read Expression ts) _ _ _ (h Expression ts) (λ x r.
      let start : Arguments = record { list = x.tree ∷ []; depth = x.depth; rest = x.rest } in
      IfOk-weaker (repeat rest_of_arguments (begins w.Comma) (argument read n) (suc (length x.rest)) start) _ _ (λ y q. q.1)
      (repeat_keeps rest_of_arguments (begins w.Comma) (argument read n) (λ y. (0 < length y.list) × AreRead n ts y) (λ y go q. argument_sound ts y q.0 go q.1) (suc (length x.rest)) start
      (omega arith, (r.front, r.parts, r.fits, r.derived)))))

  -- a leaf of one token
  leaf_sound : (t : Lexeme) (ts : List Lexeme) (o : Op) → IsDerived 1 Postfix (t ∷ []) (node o [] (t ∷ [])) → IsRead (suc n) Postfix (t ∷ ts) (built o [] true 1 t.from t.to ts)
  leaf_sound t ts o d = record {
    front = t ∷ [];
    parts = refl;
    some = omega arith;
    fits = omega arith;
    from = refl;
    to = refl;
    derived = d;
    unary =
        λ e. postfix_unary 1 (t ∷ []) (node o [] (t ∷ [])) d;
  }

  named_sound : (t : Lexeme) (ts : List Lexeme) → Is w.Name t → IfOk (named read n t ts) (IsRead (suc n) Postfix (t ∷ ts))
  unfolding named
  named_sound t ts is =
      if_cond (begins w.Open ts) _ _ _
      (λ e.
      let o = begins_takes w.Open refl ts e in
      if_bind (arguments read n (after ts)) _ _ _ (arguments_sound (after ts)) (λ xs f.
      if_bind (expect w.Close xs.rest) _ _ _ (expect_takes w.Close refl xs.rest) (λ c q.
      let front : List Lexeme = t ∷ o.0 ∷ f.0 ++ c.0 ∷ [] in
      let ends : c.0.to ≡ to_of front = sym (to_of_append (t ∷ o.0 ∷ f.0) (c.0 ∷ []) (omega arith)) in
      let d : IsDerived (xs.depth + 1) Postfix front (Node (op.Call (name_of t)) (trees xs.list) t.from c.0.to) =
      rw one_deeper (inl (inr (inl (t, o.0 ∷ f.0 ++ c.0 ∷ [], xs.list, refl, is, (o.0, f.0, c.0, refl, o.2, q.1, f.3), placed (op.Call (name_of t)) xs.list t.from c.0.to front refl ends)))) in
      record {
        front = front;
        parts = ap (λ (z : List Lexeme). t ∷ z) (o.1 ∙ ap (λ (z : List Lexeme). o.0 ∷ z) (f.1 ∙ ap (λ (z : List Lexeme). f.0 ++ z) q.0 ∙ sym (append_assoc f.0 (c.0 ∷ []) c.1)));
        some = omega arith;
        fits = let p = f.2 in omega arith;
        from = refl;
        to = ends;
        derived = d;
        unary = λ u. postfix_unary (xs.depth + 1) front (Node (op.Call (name_of t)) (trees xs.list) t.from c.0.to) d;
      })))
      (λ e. leaf_sound t ts op.Name (inl (inl (t, refl, is, refl))))

  between_sound : (t : Lexeme) (ts : List Lexeme) → Is w.Open t → IfOk (between read n t ts) (IsRead (suc n) Postfix (t ∷ ts))
  unfolding between
  between_sound t ts is =
      if_bind (read Expression ts) _ _ _ (h Expression ts) (λ x f.
      if_bind (expect w.Close x.rest) _ _ _ (expect_takes w.Close refl x.rest) (λ c q.
      let front : List Lexeme = t ∷ f.front ++ c.0 ∷ [] in
      let d : IsDerived (x.depth + 1) Postfix front x.tree = rw one_deeper (inl (inr (inr (inr (inr (inr (t, f.front, c.0, refl, is, q.1, f.derived))))))) in
      record {
        front = front;
        parts = ap (λ (z : List Lexeme). t ∷ z) (f.parts ∙ ap (λ (z : List Lexeme). f.front ++ z) q.0 ∙ sym (append_assoc f.front (c.0 ∷ []) c.1));
        some = omega arith;
        fits = let p = f.fits in omega arith;
        from = refl;
        to = sym (to_of_append (t ∷ f.front) (c.0 ∷ []) (omega arith));
        derived = d;
        unary = λ u. postfix_unary (x.depth + 1) front x.tree d;
      }))

  text_sound : (t : Lexeme) (ts : List Lexeme) → Is w.Text t → IsRead (suc n) Postfix (t ∷ ts) (built op.Text [] true 1 t.from (past_strings t.to ts).0 (past_strings t.to ts).1)
  text_sound t ts is =
      let p = strings_take t ts is in
      let d : IsDerived 1 Postfix (t ∷ p.0) (Node op.Text (trees []) t.from (past_strings t.to ts).0) =
      inl (inr (inr (inr (inr (inl (t, p.0, refl, p.2, placed op.Text [] t.from (past_strings t.to ts).0 (t ∷ p.0) refl p.3)))))) in
      record {
        front = t ∷ p.0;
        parts = ap (λ (z : List Lexeme). t ∷ z) p.1;
        some = omega arith;
        fits = omega arith;
        from = refl;
        to = p.3;
        derived = d;
        unary =
            λ u. postfix_unary 1 (t ∷ p.0) (Node op.Text (trees []) t.from (past_strings t.to ts).0) d;
      }

  primary_by_terminal : (t : Lexeme) (ts : List Lexeme) (terminal : Terminal) → Is terminal t
      → IfOk (elim terminal [
        | w.Name ↦ named read n t ts
        | w.Number value ↦ Ok (built (op.Number value) [] true 1 t.from t.to ts)
        | w.Character value ↦ Ok
            (built (op.Char value) [] true 1 t.from t.to ts)
        | w.Text ↦
            (let s = past_strings t.to ts in Ok (built op.Text [] true 1 t.from s.0 s.1))
        | w.Open ↦ between read n t ts
        | _ ↦ Err refusal.Syntax
      ]) (IsRead (suc n) Postfix (t ∷ ts))
  primary_by_terminal t ts w.Name is = named_sound t ts is
  primary_by_terminal t ts (w.Number value) is = leaf_sound t ts (op.Number value) (inl (inr (inr (inl (t, value, refl, is, refl)))))
  primary_by_terminal t ts (w.Character value) is = leaf_sound t ts (op.Char value) (inl (inr (inr (inr (inl (t, value, refl, is, refl))))))
  primary_by_terminal t ts w.Text is = text_sound t ts is
  primary_by_terminal t ts w.Open is = between_sound t ts is
  primary_by_terminal t ts _ is = tt

  primary_sound : (ts : List Lexeme) → IfOk (primary read n ts) (IsRead (suc n) Postfix ts)
  unfolding primary
  primary_sound [] = tt
  primary_sound (t ∷ ts) = primary_by_terminal t ts t.terminal refl

  -- ---- postfix

  -- two parts that were read
  index_sound : (ts : List Lexeme) (x : Got) → begins w.OpenBracket x.rest ≡ true → IsRead (suc n) Postfix ts x → (y : Got) → IsRead n Expression (after x.rest) y
      → (c : Lexeme × List Lexeme) → (y.rest ≡ c.0 ∷ c.1) × Is w.CloseBracket c.0 → max x.depth y.depth ≤ n
      → IsRead (suc n) Postfix ts (built op.Index (x.tree ∷ y.tree ∷ []) true (max x.depth y.depth + 1) x.from c.0.to c.1)
  index_sound ts x go f y g c q le =
      let o = begins_takes w.OpenBracket refl x.rest go in
      let deep = max x.depth y.depth in
      let b : List Lexeme = o.0 ∷ g.front ++ c.0 ∷ [] in
      let front : List Lexeme = f.front ++ b in
      let begin : x.from ≡ from_of front = f.from ∙ sym (from_of_append f.front b f.some) in
      let ends : c.0.to ≡ to_of front = sym (to_of_append f.front b (omega arith) ∙ to_of_append (o.0 ∷ g.front) (c.0 ∷ []) (omega arith)) in
      let d : IsDerived (deep + 1) Postfix front (Node op.Index (trees (x.tree ∷ y.tree ∷ [])) x.from c.0.to) =
      rw one_deeper (inr (inl (
        f.front,
        b,
        x.tree,
        y.tree,
        refl,
        derived_deeper x.depth deep (omega arith) Postfix f.front x.tree f.derived,
        (o.0, g.front, c.0, refl, o.2, q.1, derived_deeper y.depth deep (omega arith) Expression g.front y.tree g.derived),
        placed op.Index
            (x.tree ∷ y.tree ∷ []) x.from c.0.to front begin ends,
      ))) in
      record {
        front = front;
        parts = f.parts ∙ ap (λ (z : List Lexeme). f.front ++ z)
            (o.1 ∙ ap (λ (z : List Lexeme). o.0 ∷ z) (g.parts ∙ ap (λ (z : List Lexeme). g.front ++ z) q.0 ∙ sym (append_assoc g.front (c.0 ∷ []) c.1))) ∙ sym (append_assoc f.front b c.1);
        some = let s = f.some in omega (arith, length-append f.front b);
        fits = omega arith;
        from = begin;
        to = ends;
        derived = d;
        unary = λ u. postfix_unary (deep + 1) front (Node op.Index (trees (x.tree ∷ y.tree ∷ [])) x.from c.0.to) d;
      }

  suffix_sound : (ts : List Lexeme) (x : Got) → IsRead (suc n) Postfix ts x → (t : Lexeme × List Lexeme) → x.rest ≡ t.0 ∷ t.1 → (number : ℕ) → operators.suffix t.0.terminal ≡ Some number → x.depth ≤ n
      → IsRead (suc n) Postfix ts (built (op.Suffix number) (x.tree ∷ []) true (x.depth + 1) x.from t.0.to t.1)
  suffix_sound ts x f t e number is le =
      let front : List Lexeme = f.front ++ t.0 ∷ [] in
      let begin : x.from ≡ from_of front = f.from ∙ sym (from_of_append f.front (t.0 ∷ []) f.some) in
      let ends : t.0.to ≡ to_of front = sym (to_of_append f.front (t.0 ∷ []) (omega arith)) in
      let d : IsDerived (x.depth + 1) Postfix front (Node (op.Suffix number) (trees (x.tree ∷ [])) x.from t.0.to) =
      rw one_deeper (inr (inr (f.front, t.0, number, x.tree, refl, is, f.derived, placed (op.Suffix number) (x.tree ∷ []) x.from t.0.to front begin ends))) in
      record {
        front = front;
        parts = f.parts ∙ ap (λ (z : List Lexeme). f.front ++ z) e ∙ sym (append_assoc f.front (t.0 ∷ []) t.1);
        some = let s = f.some in omega (arith, length-append f.front (t.0 ∷ []));
        fits = omega arith;
        from = begin;
        to = ends;
        derived = d;
        unary = λ u. postfix_unary (x.depth + 1) front (Node (op.Suffix number) (trees (x.tree ∷ [])) x.from t.0.to) d;
      }

  suffixed_sound : (ts : List Lexeme) (x : Got) → IsRead (suc n) Postfix ts x → IfOk (suffixed read n x) (IsRead (suc n) Postfix ts)
  unfolding suffixed
  suffixed_sound ts x f =
      if_cond (begins w.OpenBracket x.rest) _ _ _
      (λ go.
      if_bind (read Expression (after x.rest)) _ _ _ (h Expression (after x.rest)) (λ y g.
      if_bind (expect w.CloseBracket y.rest) _ _ _ (expect_takes w.CloseBracket refl y.rest) (λ c q.
      if_cond (ltb n (max x.depth y.depth)) _ _ _ (λ e. tt) (λ e.
      index_sound ts x go f y g c q (ltb-false n (max x.depth y.depth) e)))))
      (λ go.
      if_bind (first x.rest) _ _ _ (first_takes x.rest) (λ t q.
      if_bind (known (operators.suffix t.0.terminal)) _ _ _ (known_is (operators.suffix t.0.terminal)) (λ number is.
      if_cond (ltb n x.depth) _ _ _ (λ e. tt) (λ e.
      suffix_sound ts x f t q number is (ltb-false n x.depth e)))))

  postfix_sound : (ts : List Lexeme) → IfOk (postfix read n ts) (IsRead (suc n) Postfix ts)
  unfolding postfix
  postfix_sound ts =
      if_bind (primary read n ts) _ _ _ (primary_sound ts) (λ x f.
      repeat_keeps rest_of is_suffixed (suffixed read n) (IsRead (suc n) Postfix ts) (λ y go q. suffixed_sound ts y q) (suc (length x.rest)) x f)

  -- ---- unary

  -- a part behind a token
  before_sound : (wider : Rule) (t : Lexeme) (ts : List Lexeme) (o : Op) (x : Got) (rule : Rule) → IsRead n rule ts x
      → ((front : List Lexeme) → IsDerived x.depth rule front x.tree → (e : Tree) → e ≡ node o (x.tree ∷ []) (t ∷ front) → IsDerived (suc x.depth) Unary (t ∷ front) e)
      → IsRead (suc n) Unary (t ∷ ts) (built o (x.tree ∷ []) true (x.depth + 1) t.from x.to x.rest)
  before_sound wider t ts o x rule f derive =
      let ends : x.to ≡ to_of (t ∷ f.front) = f.to ∙ sym (to_of_cons t f.front f.some) in
      let d : IsDerived (x.depth + 1) Unary (t ∷ f.front) (Node o (trees (x.tree ∷ [])) t.from x.to) =
      rw one_deeper (derive f.front f.derived (Node o (trees (x.tree ∷ [])) t.from x.to) (placed o (x.tree ∷ []) t.from x.to (t ∷ f.front) refl ends)) in
      record {
        front = t ∷ f.front;
        parts = ap (λ (z : List Lexeme). t ∷ z) f.parts;
        some = omega arith;
        fits = let p = f.fits in omega arith;
        from = refl;
        to = ends;
        derived = d;
        unary = λ u. d;
      }

  signed_sound : (t : Lexeme) (ts : List Lexeme) (number : ℕ) → operators.sign t.terminal ≡ Some number → IfOk (prefixed read n number (Level 0) t ts) (IsRead (suc n) Unary (t ∷ ts))
  unfolding prefixed
  signed_sound t ts number is =
      if_bind (read (Level 0) ts) _ _ _ (h (Level 0) ts) (λ x f.
      before_sound Unary t ts (op.Prefix number) x (Level 0) f (λ front d e same. inl (t, front, number, x.tree, refl, is, d, same)))

  stepped_sound : (t : Lexeme) (ts : List Lexeme) (number : ℕ) → operators.step t.terminal ≡ Some number → IfOk (prefixed read n number Unary t ts) (IsRead (suc n) Unary (t ∷ ts))
  unfolding prefixed
  stepped_sound t ts number is =
      if_bind (read Unary ts) _ _ _ (h Unary ts) (λ x f.
      before_sound Unary t ts (op.Prefix number) x Unary f (λ front d e same. inr (inl (t, front, number, x.tree, refl, is, d, same))))

  size_of_sound : (t : Lexeme) (ts : List Lexeme) → Is w.SizeOf t → IfOk (size_of read n t ts) (IsRead (suc n) Unary (t ∷ ts))
  unfolding size_of
  size_of_sound t ts is =
      if_cond (begins_cast ts) _ _ _
      (λ e.
      if_bind (type_between ts) _ _ _ (type_between_takes ts) (λ k p.
      let ends : k.0.1.1 ≡ to_of (t ∷ p.0) = p.5 ∙ sym (to_of_cons t p.0 p.2) in
      let d : IsDerived 1 Unary (t ∷ p.0) (Node (op.SizeOfType k.0.0) (trees []) t.from k.0.1.1) =
      inr (inr (inr (inl (t, p.0, k.0.0, refl, is, p.3, placed (op.SizeOfType k.0.0) [] t.from k.0.1.1 (t ∷ p.0) refl ends)))) in
      record {
        front = t ∷ p.0;
        parts = ap (λ (z : List Lexeme). t ∷ z) p.1;
        some = omega arith;
        fits = omega arith;
        from = refl;
        to = ends;
        derived = d;
        unary = λ u. d;
      }))
      (λ e.
      if_bind (read Unary ts) _ _ _ (h Unary ts) (λ x f.
      before_sound Unary t ts op.SizeOf x Unary f (λ front d tree same. inr (inr (inl (t, front, x.tree, refl, is, d, same))))))

  unary_by : (t : Lexeme) (ts : List Lexeme) (a b : Option ℕ) → operators.sign t.terminal ≡ a → operators.step t.terminal ≡ b
      → IfOk (elim a [
        | Some number ↦ prefixed read n number
            (Level 0) t ts
        | None ↦ elim b [ Some number ↦ prefixed read n number Unary t ts | None ↦ cond (same t.terminal w.SizeOf) (size_of read n t ts) (postfix read n (t ∷ ts)) ]
      ])
      (IsRead (suc n) Unary (t ∷ ts))
  unary_by t ts (Some number) b p q = signed_sound t ts number p
  unary_by t ts None (Some number) p q = stepped_sound t ts number q
  unary_by t ts None None p q =
      if_cond (same t.terminal w.SizeOf) _ _ _
      (λ e. size_of_sound t ts (same-true t.terminal w.SizeOf refl e))
      (λ e. IfOk-weaker (postfix read n (t ∷ ts)) _ _ (λ x f. read_as (suc n) Postfix Unary (t ∷ ts) x (λ front d. postfix_unary x.depth front x.tree d) f) (postfix_sound (t ∷ ts)))

  unary_sound : (ts : List Lexeme) → IfOk (unary read n ts) (IsRead (suc n) Unary ts)
  unfolding unary
  unary_sound [] = tt
  unary_sound (t ∷ ts) = unary_by t ts (operators.sign t.terminal) (operators.step t.terminal) refl refl

  -- ---- operands and levels

  cast_sound : (ts : List Lexeme) → IfOk (cast read n ts) (IsRead (suc n) (Level 0) ts)
  unfolding cast
  cast_sound ts =
      if_bind (type_between ts) _ _ _ (type_between_takes ts) (λ k p.
      if_bind (read (Level 0) k.1) _ _ _ (h (Level 0) k.1) (λ x f.
      let front : List Lexeme = p.0 ++ f.front in
      let begin : k.0.1.0 ≡ from_of front = p.4 ∙ sym (from_of_append p.0 f.front p.2) in
      let ends : x.to ≡ to_of front = f.to ∙ sym (to_of_append p.0 f.front f.some) in
      record {
        front = front;
        parts = p.1 ∙ ap (λ (z : List Lexeme). p.0 ++ z) f.parts ∙ sym (append_assoc p.0 f.front x.rest);
        some = let s = p.2 in omega (arith, length-append p.0 f.front);
        fits = let s = f.fits in omega arith;
        from = begin;
        to = ends;
        derived = rw one_deeper (inl (p.0, f.front, k.0.0, x.tree, refl, p.3, f.derived, placed (op.Cast k.0.0) (x.tree ∷ []) k.0.1.0 x.to front begin ends));
        unary = λ u. absurd (false≢true u);
      }))

  operand_sound : (ts : List Lexeme) → IfOk (operand read n ts) (IsRead (suc n) (Level 0) ts)
  unfolding operand
  operand_sound ts =
      if_cond (begins_cast ts) _ _ _
      (λ e. cast_sound ts)
      (λ e. IfOk-weaker (unary read n ts) _ _ (λ x f. read_as (suc n) Unary (Level 0) ts x (λ front d. unary_operand x.depth front x.tree d) f) (unary_sound ts))

  -- two parts with a token between them
  pair_sound : (ts : List Lexeme) (o : Op) (left right whole : Rule) (x y : Got) (t : Lexeme) → x.rest ≡ t ∷ after x.rest → IsRead (suc n) left ts x
      → IsRead n right (after x.rest) y → max x.depth y.depth ≤ n
      → ((a b : List Lexeme) → IsDerived (max x.depth y.depth) left a x.tree → IsDerived (max x.depth y.depth) right b y.tree → (e : Tree)
      → e ≡ node o (x.tree ∷ y.tree ∷ []) (a ++ t ∷ b) → IsDerived (suc (max x.depth y.depth)) whole (a ++ t ∷ b) e)
      → IsRead (suc n) whole ts (built o (x.tree ∷ y.tree ∷ []) false (max x.depth y.depth + 1) x.from y.to y.rest)
  pair_sound ts o left right whole x y t is f g le derive =
      let deep = max x.depth y.depth in
      let front : List Lexeme = f.front ++ t ∷ g.front in
      let begin : x.from ≡ from_of front = f.from ∙ sym (from_of_append f.front (t ∷ g.front) f.some) in
      let ends : y.to ≡ to_of front = g.to ∙ sym (to_of_append f.front (t ∷ g.front) (omega arith) ∙ to_of_cons t g.front g.some) in
      record {
        front = front;
        parts = f.parts ∙ ap (λ (z : List Lexeme). f.front ++ z) (is ∙ ap (λ (z : List Lexeme). t ∷ z) g.parts) ∙ sym (append_assoc f.front (t ∷ g.front) y.rest);
        some = let s = f.some in omega (arith, length-append f.front (t ∷ g.front));
        fits = omega arith;
        from = begin;
        to = ends;
        derived = rw one_deeper (derive f.front g.front (derived_deeper x.depth deep (omega arith) left f.front x.tree f.derived)
            (derived_deeper y.depth deep (omega arith) right g.front y.tree g.derived) (Node o (trees (x.tree ∷ y.tree ∷ [])) x.from y.to)
            (placed o (x.tree ∷ y.tree ∷ []) x.from y.to front begin ends));
        unary = λ u. absurd (false≢true u);
      }

  joined_sound : (below : ℕ) (ts : List Lexeme) (x : Got) → IsRead (suc n) (Level (suc below)) ts x → IfOk (joined read n below x) (IsRead (suc n) (Level (suc below)) ts)
  unfolding joined
  joined_sound below ts x f =
      if_bind (known (binary_at (suc below) x.rest)) _ _ _ (known_is (binary_at (suc below) x.rest)) (λ number is.
      let t = binary_found (suc below) number x.rest is in
      if_bind (read (Level below) (after x.rest)) _ _ _ (h (Level below) (after x.rest)) (λ y g.
      if_cond (ltb n (max x.depth y.depth)) _ _ _ (λ e. tt) (λ e.
      pair_sound ts (op.Binary number) (Level (suc below)) (Level below) (Level (suc below)) x y t.0 t.1 f g (ltb-false n (max x.depth y.depth) e)
      (λ a b p q tree same. inr (a, t.0, b, number, x.tree, y.tree, refl, t.2, p, q, same)))))

  chain_sound : (l : ℕ) (ts : List Lexeme) → IfOk (chain read n l ts) (IsRead (suc n) (Level l) ts)
  unfolding chain
  chain_sound zero ts = operand_sound ts
  chain_sound (suc l) ts =
      if_bind (chain read n l ts) _ _ _ (chain_sound l ts) (λ x f.
      repeat_keeps rest_of (goes_on_at (suc l)) (joined read n l) (IsRead (suc n) (Level (suc l)) ts) (λ y go q. joined_sound l ts y q) (suc (length x.rest)) x
      (read_as (suc n) (Level l) (Level (suc l)) ts x (λ front d. level_above x.depth l front x.tree d) f))

  -- ---- expressions

  assigned_sound : (ts : List Lexeme) (x : Got) (number : ℕ) → next_of operators.assign x.rest ≡ Some number → x.unary ≡ true → IsRead (suc n) (Level loosest) ts x
      → IfOk (assigned read n number x) (IsRead (suc n) Expression ts)
  unfolding assigned
  assigned_sound ts x number is u f =
      let t = next_found operators.assign number x.rest is in
      let target : IsRead (suc n) Unary ts x = record { front = f.front; parts = f.parts; some = f.some; fits = f.fits; from = f.from; to = f.to; derived = f.unary u; unary = f.unary } in
      if_bind (read Expression (after x.rest)) _ _ _ (h Expression (after x.rest)) (λ y g.
      if_cond (ltb n (max x.depth y.depth)) _ _ _ (λ e. tt) (λ e.
      pair_sound ts (op.Assign number) Unary Expression Expression x y t.0 t.1 target g (ltb-false n (max x.depth y.depth) e)
      (λ a b p q tree same. inr (a, t.0, b, number, x.tree, y.tree, refl, t.2, p, q, same))))

  expression_by : (ts : List Lexeme) (x : Got) → IsRead (suc n) (Level loosest) ts x → (o : Option ℕ) → next_of operators.assign x.rest ≡ o
      → IfOk (elim o [ Some number ↦ cond x.unary (assigned read n number x) (Ok x) | None ↦ Ok x ]) (IsRead (suc n) Expression ts)
  expression_by ts x f (Some number) e =
      if_cond x.unary _ _ _
      (λ u. assigned_sound ts x number e u f)
      (λ u. read_as (suc n) (Level loosest) Expression ts x (λ front d. loosest_expression x.depth front x.tree d) f)
  expression_by ts x f None e = read_as (suc n) (Level loosest) Expression ts x (λ front d. loosest_expression x.depth front x.tree d) f

  expression_sound : (ts : List Lexeme) → IfOk (expression read n ts) (IsRead (suc n) Expression ts)
  unfolding expression
  expression_sound ts =
      if_bind (chain read n loosest ts) _ _ _ (chain_sound loosest ts) (λ x f.
      expression_by ts x f (next_of operators.assign x.rest) refl)

  rule_sound : (rule : Rule) (ts : List Lexeme) → IfOk (by_rule read n rule ts) (IsRead (suc n) rule ts)
  rule_sound Expression ts = expression_sound ts
  rule_sound (Level l) ts = chain_sound l ts
  rule_sound Unary ts = unary_sound ts
  rule_sound Postfix ts = postfix_sound ts

pub read_sound : (n : ℕ) (rule : Rule) (ts : List Lexeme) → IfOk (read_at n rule ts) (IsRead n rule ts)
unfolding read_at
read_sound zero rule ts = tt
read_sound (suc n) rule ts = rule_sound n (read_at n) (read_sound n) rule ts
