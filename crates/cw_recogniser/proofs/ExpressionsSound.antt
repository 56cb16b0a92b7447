-- What the recogniser takes for an expression is one.
use Rattle.std.proofs.Common.{◌≡◌, ℕ, zero, suc, max, Bool, true, false, List, [], ◌∷◌, ◌++◌, refl, sym, ap, subst, ◌∙◌, append_assoc, inl, inr, ◌⊎◌, Some, arith}
use Rattle.std.proofs.lemmas.List.{append-nil}
use Rattle.cw_syntax.specs.declared.program.Op.TheVariants as op
use Rattle.cw_syntax.specs.Trees.{Tree}
use Rattle.cw_grammar.specs.declared.terminals.Terminal.TheVariants as w
use Rattle.cw_grammar.specs.declared.terminals.Lexeme.{Lexeme}
use Rattle.cw_grammar.specs.declared.rules.Rule.{Rule}
use Rattle.cw_grammar.specs.declared.rules.Rule.TheVariants.{Expression, Level, Unary, Postfix}
use Rattle.cw_grammar.specs.Lexemes.{Is, name_of, AreSeparated}
use Rattle.cw_grammar.specs.Operators as operators
use Rattle.cw_grammar.specs.Expressions.{loosest, node, AreStrings, IsDerived, IsExpression}
use Rattle.cw_recogniser.specs.declared.kinds.TerminalKind.{TerminalKind}
use Rattle.cw_recogniser.specs.declared.kinds.TerminalKind.TheVariants as k
use Rattle.cw_recogniser.specs.declared.symbols.Symbol.TheVariants as s
use Rattle.cw_recogniser.specs.Kinds.{kind_of_terminal}
use Rattle.cw_recogniser.specs.Machine.{onto, unary, expression, operand, plain_unary, measured, call, texts, suffixes, operator, assignment, more_arguments, type_name, after}
use Rattle.cw_recogniser.proofs.TerminalKinds.{is_constant, is_sign, is_step, is_suffix, is_binary, is_assign}
use Rattle.cw_grammar.proofs.Deeper.{derived_deeper, expression_deeper, separated_weaker}
use Rattle.cw_recogniser.proofs.Chains.{Stands, stands, raise, joined}
use Rattle.cw_recogniser.proofs.Meanings.{Punctuator, SomeTypeName, SomeArguments, Means, Given, split_onto, split_either, exact}
use Rattle.cw_recogniser.proofs.TypesSound.{type_name_sound}

abbrev pub along : (rule : Rule) {a b : List Lexeme} → a ≡ b → Stands rule b → Stands rule a
along rule e h = subst (λ (z : List Lexeme). Stands rule z) (sym e) h

-- ---- from rule to rule

wider : (m n : Rule) (a : List Lexeme) → ((k : ℕ) (x : Tree) → IsDerived k m a x → IsDerived k n a x) → Stands m a → Stands n a
wider m n a f h = record { nesting = h.nesting; tree = h.tree; derives = f h.nesting h.tree h.derives }

pub postfix_unary : (a : List Lexeme) → Stands Postfix a → Stands Unary a
postfix_unary a h = wider Postfix Unary a f h where
  f : (k : ℕ) (x : Tree) → IsDerived k Postfix a x → IsDerived k Unary a x
  f zero x d = absurd d
  f (suc k) x d = inr (inr (inr (inr d)))

pub unary_operand : (a : List Lexeme) → Stands Unary a → Stands (Level 0) a
unary_operand a h = wider Unary (Level 0) a f h where
  f : (k : ℕ) (x : Tree) → IsDerived k Unary a x → IsDerived k (Level 0) a x
  f zero x d = absurd d
  f (suc k) x d = inr d

pub operand_chain : (a : List Lexeme) → Stands (Level 0) a → Stands (Level 10) a
operand_chain a h = record { nesting = h.nesting; tree = h.tree; derives = raise h.nesting 0 10 (omega arith) a h.tree h.derives }

pub chain_expression : (a : List Lexeme) → Stands (Level 10) a → Stands Expression a
unfolding loosest
chain_expression a h = wider (Level 10) Expression a f h where
  f : (k : ℕ) (x : Tree) → IsDerived k (Level 10) a x → IsDerived k Expression a x
  f zero x d = absurd d
  f (suc k) x d = inl d

-- ---- each rule

number_postfix : (t : Lexeme) (value : ℕ) → t.terminal ≡ w.Number value → Stands Postfix (t ∷ [])
number_postfix t value e = stands 1 Postfix (t ∷ []) (node (op.Number value) [] (t ∷ [])) (inl (inr (inr (inl (t, value, refl, e, refl)))))

character_postfix : (t : Lexeme) (value : ℕ) → t.terminal ≡ w.Character value → Stands Postfix (t ∷ [])
character_postfix t value e = stands 1 Postfix (t ∷ []) (node (op.Char value) [] (t ∷ [])) (inl (inr (inr (inr (inl (t, value, refl, e, refl))))))

constant_postfix : (t : Lexeme) → kind_of_terminal t.terminal ≡ k.Constant → Stands Postfix (t ∷ [])
constant_postfix t e = by_terminal (is_constant t.terminal e) where
  by_terminal : ((value : ℕ) × (t.terminal ≡ w.Number value)) ⊎ ((value : ℕ) × (t.terminal ≡ w.Character value)) → Stands Postfix (t ∷ [])
  by_terminal (inl (value, p)) = number_postfix t value p
  by_terminal (inr (value, p)) = character_postfix t value p

pub name_postfix : (t : Lexeme) → Is w.Name t → Stands Postfix (t ∷ [])
name_postfix t is = stands 1 Postfix (t ∷ []) (node op.Name [] (t ∷ [])) (inl (inl (t, refl, is, refl)))

text_postfix : (t : Lexeme) (a : List Lexeme) → Is w.Text t → AreStrings a → Stands Postfix (t ∷ a)
text_postfix t a is d = stands 1 Postfix (t ∷ a) (node op.Text [] (t ∷ a)) (inl (inr (inr (inr (inr (inl (t, a, refl, (is, d), refl)))))))

pub call_postfix : (t o c : Lexeme) (a : List Lexeme) → Is w.Name t → Is w.Open o → Is w.Close c → SomeArguments a → Stands Postfix (t ∷ o ∷ (a ++ (c ∷ [])))
call_postfix t o c a is p q (n, xs, d) = stands (suc n) Postfix (t ∷ o ∷ (a ++ (c ∷ []))) (node (op.Call (name_of t)) xs (t ∷ o ∷ (a ++ (c ∷ []))))
    (inl (inr (inl (t, o ∷ (a ++ (c ∷ [])), xs, refl, is, (o, a, c, refl, p, q, d), refl))))

paren_postfix : (o c : Lexeme) (a : List Lexeme) → Is w.Open o → Is w.Close c → Stands Expression a → Stands Postfix (o ∷ (a ++ (c ∷ [])))
paren_postfix o c a p q h = stands (suc h.nesting) Postfix (o ∷ (a ++ (c ∷ []))) h.tree (inl (inr (inr (inr (inr (inr (o, a, c, refl, p, q, h.derives)))))))

index_postfix : (b a : List Lexeme) (o c : Lexeme) → Is w.OpenBracket o → Is w.CloseBracket c → Stands Postfix b → Stands Expression a → Stands Postfix (b ++ (o ∷ (a ++ (c ∷ []))))
index_postfix b a o c p q h i =
    let n = max h.nesting i.nesting in
    let whole = b ++ (o ∷ (a ++ (c ∷ []))) in
    stands (suc n) Postfix whole (node op.Index (h.tree ∷ i.tree ∷ []) whole)
    (inr (inl (
      b,
      o ∷ (a ++ (c ∷ [])),
      h.tree,
      i.tree,
      refl,
      derived_deeper h.nesting n (omega arith) Postfix b h.tree h.derives,
      (o, a, c, refl, p, q, derived_deeper i.nesting n (omega arith) Expression a i.tree i.derives),
      refl,
    )))

suffix_postfix : (b : List Lexeme) (t : Lexeme) (number : ℕ) → operators.suffix t.terminal ≡ Some number → Stands Postfix b → Stands Postfix (b ++ (t ∷ []))
suffix_postfix b t number e h = stands (suc h.nesting) Postfix (b ++ (t ∷ [])) (node (op.Suffix number) (h.tree ∷ []) (b ++ (t ∷ []))) (inr (inr (b, t, number, h.tree, refl, e, h.derives, refl)))

signed_unary : (t : Lexeme) (a : List Lexeme) (number : ℕ) → operators.sign t.terminal ≡ Some number → Stands (Level 0) a → Stands Unary (t ∷ a)
signed_unary t a number e h = stands (suc h.nesting) Unary (t ∷ a) (node (op.Prefix number) (h.tree ∷ []) (t ∷ a)) (inl (t, a, number, h.tree, refl, e, h.derives, refl))

stepped_unary : (t : Lexeme) (a : List Lexeme) (number : ℕ) → operators.step t.terminal ≡ Some number → Stands Unary a → Stands Unary (t ∷ a)
stepped_unary t a number e h = stands (suc h.nesting) Unary (t ∷ a) (node (op.Prefix number) (h.tree ∷ []) (t ∷ a)) (inr (inl (t, a, number, h.tree, refl, e, h.derives, refl)))

measured_unary : (t : Lexeme) (a : List Lexeme) → Is w.SizeOf t → Stands Unary a → Stands Unary (t ∷ a)
measured_unary t a is h = stands (suc h.nesting) Unary (t ∷ a) (node op.SizeOf (h.tree ∷ []) (t ∷ a)) (inr (inr (inl (t, a, h.tree, refl, is, h.derives, refl))))

measured_type : (t o c : Lexeme) (a : List Lexeme) → Is w.SizeOf t → Is w.Open o → Is w.Close c → SomeTypeName a → Stands Unary (t ∷ o ∷ (a ++ (c ∷ [])))
measured_type t o c a is p q (kind, d) = let whole = t ∷ o ∷ (a ++ (c ∷ [])) in
    stands 1 Unary whole (node (op.SizeOfType kind) [] whole) (inr (inr (inr (inl (t, o ∷ (a ++ (c ∷ [])), kind, refl, is, (o, a, c, refl, p, q, d), refl)))))

cast_operand : (o c : Lexeme) (a b : List Lexeme) → Is w.Open o → Is w.Close c → SomeTypeName a → Stands (Level 0) b → Stands (Level 0) (o ∷ (a ++ (c ∷ b)))
cast_operand o c a b p q (kind, d) h =
    let whole = (o ∷ (a ++ (c ∷ []))) ++ b in
    along (Level 0) (ap (λ (z : List Lexeme). o ∷ z) (sym (append_assoc a (c ∷ []) b)))
    (stands (suc h.nesting) (Level 0) whole (node (op.Cast kind) (h.tree ∷ []) whole) (inl (o ∷ (a ++ (c ∷ [])), b, kind, h.tree, refl, (o, a, c, refl, p, q, d), h.derives, refl)))

assigned : (a b : List Lexeme) (t : Lexeme) (number : ℕ) → operators.assign t.terminal ≡ Some number → Stands Unary a → Stands Expression b → Stands Expression (a ++ (t ∷ b))
assigned a b t number e h i =
    let n = max h.nesting i.nesting in
    stands (suc n) Expression (a ++ (t ∷ b)) (node (op.Assign number) (h.tree ∷ i.tree ∷ []) (a ++ (t ∷ b)))
    (inr (
      a,
      t,
      b,
      number,
      h.tree,
      i.tree,
      refl,
      e,
      derived_deeper h.nesting n (omega arith) Unary a h.tree h.derives,
      derived_deeper i.nesting n
          (omega arith) Expression b i.tree i.derives,
      refl,
    ))

-- ---- what may be empty

pub suffixes_none : (rest : List Lexeme) → Means s.Suffixes [] rest
suffixes_none rest b h = along Postfix (append-nil b) h

pub call_none : (rest : List Lexeme) → Means s.Call [] rest
call_none rest t is = name_postfix t is

pub tail_none : (may : Bool) (rest : List Lexeme) → Means (s.Tail may) [] rest
tail_none true rest = λ b h. along Expression (append-nil b) (chain_expression b (operand_chain b (unary_operand b h)))
tail_none false rest = λ b h. along (Level 10) (append-nil b) (operand_chain b h)

pub more_arguments_none : (rest : List Lexeme) → Means s.MoreArguments [] rest
more_arguments_none rest b h = (h.nesting, h.tree, [], subst (λ (z : List Lexeme). IsExpression h.nesting z h.tree) (sym (append-nil b)) h.derives)

-- ---- the symbols of expressions

-- parentheses, and what makes a larger postfix of them
parens : (o : Lexeme) (a rest : List Lexeme) → Is w.Open o → (b : List Lexeme) × (c : List Lexeme) × (a ≡ b ++ c) × Stands Expression b
    × ((l : List Lexeme) × (d : List Lexeme) × (c ≡ l ++ d) × Punctuator w.Close l × Means s.Suffixes d rest) → Stands Unary (o ∷ a)
parens o a rest is (b, c, e, h, (l, d, f, (z, g, q), suffixes)) =
    let ok = suffixes (o ∷ (b ++ (z ∷ []))) (paren_postfix o z b is q h) in
    along Unary (ap (λ (y : List Lexeme). o ∷ y) (rw (e, f, g) (sym (append_assoc b (z ∷ []) d)))) (postfix_unary ((o ∷ (b ++ (z ∷ []))) ++ d) ok)

pub unary_sound : (kind : TerminalKind) (t : Lexeme) (a rest : List Lexeme) → kind_of_terminal t.terminal ≡ kind → Given (unary kind) a rest → Stands Unary (t ∷ a)
unary_sound k.Name t a rest e (b, c, f, called, suffixes) =
    let ok = suffixes (t ∷ b) (called t (exact t k.Name w.Name e refl)) in
    along Unary (ap (λ (z : List Lexeme). t ∷ z) f) (postfix_unary ((t ∷ b) ++ c) ok)
unary_sound k.Constant t a rest e suffixes = postfix_unary (t ∷ a) (suffixes (t ∷ []) (constant_postfix t e))
unary_sound k.Text t a rest e (b, c, f, d, suffixes) =
    let ok = suffixes (t ∷ b) (text_postfix t b (exact t k.Text w.Text e refl) d) in
    along Unary (ap (λ (z : List Lexeme). t ∷ z) f) (postfix_unary ((t ∷ b) ++ c) ok)
unary_sound k.SizeOf t a rest e h = h t (exact t k.SizeOf w.SizeOf e refl)
unary_sound k.Sign t a rest e h = let x = is_sign t.terminal (ap unary e) in signed_unary t a x.0 x.1 h
unary_sound k.Both t a rest e h = let x = is_sign t.terminal (ap unary e) in signed_unary t a x.0 x.1 h
unary_sound k.Star t a rest e h = let x = is_sign t.terminal (ap unary e) in signed_unary t a x.0 x.1 h
unary_sound k.Step t a rest e h = let x = is_step t.terminal e in stepped_unary t a x.0 x.1 h
unary_sound _ t a rest e h = absurd h

pub expression_sound : (kind : TerminalKind) (t : Lexeme) (a rest : List Lexeme) → kind_of_terminal t.terminal ≡ kind → Given (expression kind) a rest → Stands Expression (t ∷ a)
expression_sound k.Open t a rest e h = h t (exact t k.Open w.Open e refl)
expression_sound kind t a rest e h =
    let x = split_onto (unary kind) (s.Tail true) [] a rest h in
    along Expression (ap (λ (z : List Lexeme). t ∷ z) x.2) (x.4 (t ∷ x.0) (unary_sound kind t x.0 (x.1 ++ rest) e x.3))

pub operand_sound : (kind : TerminalKind) (t : Lexeme) (a rest : List Lexeme) → kind_of_terminal t.terminal ≡ kind → Given (operand kind) a rest → Stands (Level 0) (t ∷ a)
operand_sound k.Open t a rest e h = h t (exact t k.Open w.Open e refl)
operand_sound kind t a rest e h = unary_operand (t ∷ a) (unary_sound kind t a rest e h)

pub plain_unary_sound : (kind : TerminalKind) (t : Lexeme) (a rest : List Lexeme) → kind_of_terminal t.terminal ≡ kind → Given (plain_unary kind) a rest → Stands Unary (t ∷ a)
plain_unary_sound k.Open t a rest e h = parens t a rest (exact t k.Open w.Open e refl) h
plain_unary_sound kind t a rest e h = unary_sound kind t a rest e h

pub measured_sound : (kind : TerminalKind) (t : Lexeme) (a rest : List Lexeme) → kind_of_terminal t.terminal ≡ kind → Given (measured kind) a rest → Means s.Measured (t ∷ a) rest
measured_sound k.Open t a rest e h = λ z is. h z t is (exact t k.Open w.Open e refl)
measured_sound kind t a rest e h = λ z is. measured_unary z (t ∷ a) is (unary_sound kind t a rest e h)

by_parens : (kind : TerminalKind) (o t : Lexeme) (a rest : List Lexeme) → Is w.Open o → kind_of_terminal t.terminal ≡ kind → Given (onto (expression kind) (s.Close ∷ s.Suffixes ∷ [])) a rest
    → Stands Unary (o ∷ t ∷ a)
by_parens kind o t a rest is e h =
    let x = split_onto (expression kind) s.Close (s.Suffixes ∷ []) a rest h in
    parens o (t ∷ a) rest is (t ∷ x.0, x.1, ap (λ (z : List Lexeme). t ∷ z) x.2, expression_sound kind t x.0 (x.1 ++ rest) e x.3, x.4)

by_cast : (kind : TerminalKind) (o t : Lexeme) (a rest : List Lexeme) → Is w.Open o → kind_of_terminal t.terminal ≡ kind → Given (onto (type_name kind) (s.Close ∷ s.Operand ∷ [])) a rest
    → Stands (Level 0) (o ∷ t ∷ a)
by_cast kind o t a rest is e h =
    let x = split_onto (type_name kind) s.Close (s.Operand ∷ []) a rest h in
    cast x.0 x.1 x.2 (type_name_sound kind t x.0 (x.1 ++ rest) e x.3) x.4 where
      cast : (b c : List Lexeme) → a ≡ b ++ c → SomeTypeName (t ∷ b) → (l : List Lexeme) × (d : List Lexeme) × (c ≡ l ++ d) × Punctuator w.Close l × Stands (Level 0) d → Stands (Level 0) (o ∷ t ∷ a)
      cast b c f n (l, d, g, (z, i, q), h) = along (Level 0) (ap (λ (y : List Lexeme). o ∷ t ∷ y) (rw (f, g, i) refl)) (cast_operand o z (t ∷ b) d is q n h)

pub after_open_sound : (kind : TerminalKind) (t : Lexeme) (a rest : List Lexeme) → kind_of_terminal t.terminal ≡ kind → Given (after s.AfterOpen kind) a rest → Means s.AfterOpen (t ∷ a) rest
after_open_sound kind t a rest e h = λ o is. by_form o is (split_either (onto (type_name kind) (s.Close ∷ s.Operand ∷ s.Tail false ∷ []))
    (onto (expression kind) (s.Close ∷ s.Suffixes ∷ s.Tail true ∷ [])) a rest h) where
      cast : (o : Lexeme) → Is w.Open o → (b c : List Lexeme) → a ≡ b ++ c → SomeTypeName (t ∷ b) → (l : List Lexeme) × (d : List Lexeme) × (c ≡ l ++ d) × Punctuator w.Close l
          × ((u : List Lexeme) × (v : List Lexeme) × (d ≡ u ++ v) × Stands (Level 0) u × Means (s.Tail false) v rest) → Stands Expression (o ∷ t ∷ a)
      cast o is b c f n (l, d, g, (z, i, q), (u, v, j, h, tail)) =
          let first = cast_operand o z (t ∷ b) u is q n h in
          let ok = tail (o ∷ ((t ∷ b) ++ (z ∷ u))) first in
          along Expression (ap (λ (y : List Lexeme). o ∷ t ∷ y) (rw (f, g, i, j) (sym (append_assoc b (z ∷ u) v)))) (chain_expression ((o ∷ ((t ∷ b) ++ (z ∷ u))) ++ v) ok)

      paren : (o : Lexeme) → Is w.Open o → (b c : List Lexeme) → a ≡ b ++ c → Stands Expression (t ∷ b) → (l : List Lexeme) × (d : List Lexeme) × (c ≡ l ++ d) × Punctuator w.Close l
          × ((u : List Lexeme) × (v : List Lexeme) × (d ≡ u ++ v) × Means s.Suffixes u (v ++ rest) × Means (s.Tail true) v rest) → Stands Expression (o ∷ t ∷ a)
      paren o is b c f h (l, d, g, (z, i, q), (u, v, j, suffixes, tail)) =
          let first = suffixes (o ∷ ((t ∷ b) ++ (z ∷ []))) (paren_postfix o z (t ∷ b) is q h) in
          let ok = tail ((o ∷ ((t ∷ b) ++ (z ∷ []))) ++ u) (postfix_unary ((o ∷ ((t ∷ b) ++ (z ∷ []))) ++ u) first) in
          along Expression (ap (λ (y : List Lexeme). o ∷ t ∷ y) (rw (f, g, i, j) (sym (ap (λ (y : List Lexeme). y ++ v) (append_assoc b (z ∷ []) u) ∙ append_assoc b (z ∷ u) v)))) ok

      by_form : (o : Lexeme) → Is w.Open o → Given (onto (type_name kind) (s.Close ∷ s.Operand ∷ s.Tail false ∷ [])) a rest
          ⊎ Given (onto (expression kind) (s.Close ∷ s.Suffixes ∷ s.Tail true ∷ [])) a rest → Stands Expression (o ∷ t ∷ a)
      by_form o is (inl g) = let x = split_onto (type_name kind) s.Close (s.Operand ∷ s.Tail false ∷ []) a rest g in cast o is x.0 x.1 x.2 (type_name_sound kind t x.0 (x.1 ++ rest) e x.3) x.4
      by_form o is (inr g) = let x = split_onto (expression kind) s.Close (s.Suffixes ∷ s.Tail true ∷ []) a rest g in paren o is x.0 x.1 x.2 (expression_sound kind t x.0 (x.1 ++ rest) e x.3) x.4

pub after_open_operand_sound : (kind : TerminalKind) (t : Lexeme) (a rest : List Lexeme) → kind_of_terminal t.terminal ≡ kind → Given (after s.AfterOpenOperand kind) a rest
    → Means s.AfterOpenOperand (t ∷ a) rest
after_open_operand_sound kind t a rest e h = λ o is. by_form o is (split_either (onto (type_name kind) (s.Close ∷ s.Operand ∷ [])) (onto (expression kind) (s.Close ∷ s.Suffixes ∷ [])) a rest h) where
  by_form : (o : Lexeme) → Is w.Open o → Given (onto (type_name kind) (s.Close ∷ s.Operand ∷ [])) a rest ⊎ Given (onto (expression kind) (s.Close ∷ s.Suffixes ∷ [])) a rest
      → Stands (Level 0) (o ∷ t ∷ a)
  by_form o is (inl g) = by_cast kind o t a rest is e g
  by_form o is (inr g) = unary_operand (o ∷ t ∷ a) (by_parens kind o t a rest is e g)

pub after_open_measured_sound : (kind : TerminalKind) (t : Lexeme) (a rest : List Lexeme) → kind_of_terminal t.terminal ≡ kind → Given (after s.AfterOpenMeasured kind) a rest
    → Means s.AfterOpenMeasured (t ∷ a) rest
after_open_measured_sound kind t a rest e h = λ z o p is. by_form z o p is (split_either (onto (type_name kind) (s.Close ∷ [])) (onto (expression kind) (s.Close ∷ s.Suffixes ∷ [])) a rest h) where
  sized : (z o : Lexeme) → Is w.SizeOf z → Is w.Open o → (b c : List Lexeme) → a ≡ b ++ c → SomeTypeName (t ∷ b) → Punctuator w.Close c → Stands Unary (z ∷ o ∷ t ∷ a)
  sized z o p is b c f n (l, g, q) = along Unary (ap (λ (y : List Lexeme). z ∷ o ∷ t ∷ y) (rw (f, g) refl)) (measured_type z o l (t ∷ b) p is q n)

  by_form : (z o : Lexeme) → Is w.SizeOf z → Is w.Open o → Given (onto (type_name kind) (s.Close ∷ [])) a rest ⊎ Given (onto (expression kind) (s.Close ∷ s.Suffixes ∷ [])) a rest
      → Stands Unary (z ∷ o ∷ t ∷ a)
  by_form z o p is (inl g) = let x = split_onto (type_name kind) s.Close [] a rest g in sized z o p is x.0 x.1 x.2 (type_name_sound kind t x.0 (x.1 ++ rest) e x.3) x.4
  by_form z o p is (inr g) = measured_unary z (o ∷ t ∷ a) p (by_parens kind o t a rest is e g)

pub call_sound : (kind : TerminalKind) (t : Lexeme) (a rest : List Lexeme) → kind_of_terminal t.terminal ≡ kind → Given (call kind) a rest → Means s.Call (t ∷ a) rest
call_sound k.Open t a rest e (b, c, f, xs, (z, g, q)) = λ m is. along Postfix (ap (λ (y : List Lexeme). m ∷ t ∷ y) (rw (f, g) refl)) (call_postfix m t z b is (exact t k.Open w.Open e refl) q xs)
call_sound _ t a rest e h = absurd h

pub texts_sound : (kind : TerminalKind) (t : Lexeme) (a rest : List Lexeme) → kind_of_terminal t.terminal ≡ kind → Given (texts kind) a rest → Means s.Texts (t ∷ a) rest
texts_sound k.Text t a rest e h = (exact t k.Text w.Text e refl, h)
texts_sound _ t a rest e h = absurd h

pub suffixes_sound : (kind : TerminalKind) (t : Lexeme) (a rest : List Lexeme) → kind_of_terminal t.terminal ≡ kind → Given (suffixes kind) a rest → Means s.Suffixes (t ∷ a) rest
suffixes_sound k.OpenBracket t a rest e (b, c, f, h, (l, d, g, (z, i, q), others)) = λ m p.
    let ok = others (m ++ (t ∷ (b ++ (z ∷ [])))) (index_postfix m b t z (exact t k.OpenBracket w.OpenBracket e refl) q p h) in
    along Postfix (rw (f, g, i) (sym (append_assoc m (t ∷ (b ++ (z ∷ []))) d ∙ ap (λ (y : List Lexeme). m ++ (t ∷ y)) (append_assoc b (z ∷ []) d)))) ok
suffixes_sound k.Step t a rest e others = λ m p.
    let x = is_suffix t.terminal e in
    along Postfix (sym (append_assoc m (t ∷ []) a)) (others (m ++ (t ∷ [])) (suffix_postfix m t x.0 x.1 p))
suffixes_sound _ t a rest e h = absurd h

by_operator : (t : Lexeme) (a rest : List Lexeme) → operator (kind_of_terminal t.terminal) ≡ Some (s.Operand ∷ s.Tail false ∷ []) → (b : List Lexeme) × (c : List Lexeme) × (a ≡ b ++ c)
    × Stands (Level 0) b × Means (s.Tail false) c rest → Means (s.Tail false) (t ∷ a) rest
by_operator t a rest e (b, c, f, h, tail) m first =
    let x = is_binary t.terminal e in
    let ok = joined m (b ++ c) t x.0 x.1 x.2 x.3 first (tail b h) in
    along (Level 10) (rw f refl) ok

pub operator_sound : (kind : TerminalKind) (t : Lexeme) (a rest : List Lexeme) → kind_of_terminal t.terminal ≡ kind → Given (operator kind) a rest → Means (s.Tail false) (t ∷ a) rest
operator_sound k.Star t a rest e h = by_operator t a rest (ap operator e) h
operator_sound k.Both t a rest e h = by_operator t a rest (ap operator e) h
operator_sound k.Binary t a rest e h = by_operator t a rest (ap operator e) h
operator_sound _ t a rest e h = absurd h

pub assignment_sound : (kind : TerminalKind) (t : Lexeme) (a rest : List Lexeme) → kind_of_terminal t.terminal ≡ kind → Given (assignment kind) a rest → Means (s.Tail true) (t ∷ a) rest
assignment_sound k.Assign t a rest e h = λ m p. let x = is_assign t.terminal (ap assignment e) in assigned m a t x.0 x.1 p h
assignment_sound k.Update t a rest e h = λ m p. let x = is_assign t.terminal (ap assignment e) in assigned m a t x.0 x.1 p h
assignment_sound kind t a rest e h = λ m p. chain_expression (m ++ (t ∷ a)) (operator_sound kind t a rest e h m (unary_operand m p))

-- ---- arguments

pub more_arguments_sound : (kind : TerminalKind) (t : Lexeme) (a rest : List Lexeme) → kind_of_terminal t.terminal ≡ kind → Given (more_arguments kind) a rest → Means s.MoreArguments (t ∷ a) rest
more_arguments_sound k.Comma t a rest e (b, c, f, h, others) = λ m p.
    let x = others b h in
    let n = max p.nesting x.0 in (
      n,
      p.tree,
      x.1 ∷ x.2,
      (
        m,
        t,
        b ++ c,
        rw f refl,
        exact t k.Comma w.Comma e refl,
        derived_deeper p.nesting n (omega arith) Expression m p.tree p.derives,
        separated_weaker
            (IsExpression x.0) (IsExpression n) (expression_deeper x.0 n (omega arith)) (x.1 ∷ x.2) (b ++ c) x.3,
      ),
    )
more_arguments_sound _ t a rest e h = absurd h

pub arguments_sound : (kind : TerminalKind) (t : Lexeme) (a rest : List Lexeme) → kind_of_terminal t.terminal ≡ kind → Given (after s.Arguments kind) a rest → SomeArguments (t ∷ a)
arguments_sound kind t a rest e h =
    let x = split_onto (expression kind) s.MoreArguments [] a rest h in
    let y = x.4 (t ∷ x.0) (expression_sound kind t x.0 (x.1 ++ rest) e x.3) in
    (y.0, y.1 ∷ y.2, subst (λ (z : List Lexeme). AreSeparated (IsExpression y.0) z (y.1 ∷ y.2)) (ap (λ (z : List Lexeme). t ∷ z) (sym x.2)) y.3)

pub maybe_sound : (kind : TerminalKind) (t : Lexeme) (a rest : List Lexeme) → kind_of_terminal t.terminal ≡ kind → Given (expression kind) a rest → Means s.MaybeExpression (t ∷ a) rest
maybe_sound kind t a rest e h = let x = expression_sound kind t a rest e h in (x.nesting, Some x.tree, x.derives)
