-- What derives an expression derives one that is alike of the tokens that are kept.
use Rattle.std.proofs.Common.{◌≡◌, ℕ, zero, suc, List, [], ◌∷◌, map, refl, sym, ap, subst, ◌∙◌, inl, inr}
use Rattle.cw_syntax.specs.declared.program.Op.{Op}
use Rattle.cw_syntax.specs.declared.program.Op.TheVariants as op
use Rattle.cw_syntax.specs.Trees.{Tree}
use Rattle.cw_grammar.specs.declared.terminals.Terminal.TheVariants as w
use Rattle.cw_grammar.specs.declared.terminals.Lexeme.{Lexeme}
use Rattle.cw_grammar.specs.declared.rules.Rule.{Rule}
use Rattle.cw_grammar.specs.declared.rules.Rule.TheVariants.{Expression, Level, Unary, Postfix}
use Rattle.cw_grammar.specs.Lexemes.{name_of, AreSeparated}
use Rattle.cw_grammar.specs.Expressions.{loosest, Derives, node, AreStrings, IsPrimary, IsPostfix, IsUnary, IsOperand, IsLevel, IsRule, IsDerived, IsExpression}
use Rattle.cw_forms.specs.Moved.{moved, Pairs, SameOp, Alike}
use Rattle.cw_forms.proofs.Kept.{parts_moved, between_moved, type_name_moved, kept_as, kept_parts, Moves, separated_moves, between_moves, trees_alike}

strings_moved : (d : ℕ) (ts : List Lexeme) → AreStrings ts → AreStrings (map (moved d) ts)
strings_moved d [] h = tt
strings_moved d (t ∷ ts) h = (h.0, strings_moved d ts h.1)

module _ (source form : List ℕ) (d : ℕ) where
  abbrev L : Tree → Tree → Type 0
  L x y = Alike source form x y

  abbrev m : List Lexeme → List Lexeme
  m ts = map (moved d) ts

  -- a tree that is such a node is alike to one that is alike to the node
  as_node : (e n f : Tree) → e ≡ n → L n f → L e f
  as_node e n f is h = subst (λ (z : Tree). L z f) (sym is) h

  separated_list : (Q : List Lexeme → Tree → Type 0) → Moves source form d Q L → Moves source form d (AreSeparated Q) (Pairs L)
  separated_list Q f us ys own is = separated_moves source form d Q L f ys us own is

  module _ (P : Derives) (rec : (rule : Rule) → Moves source form d (P rule) L) where
    one : (o : Op) (ts : List Lexeme) (e x y : Tree) → ((a b a' b' : ℕ) → SameOp source form o a b o a' b') → e ≡ node o (x ∷ []) ts → L x y → L e (node o (y ∷ []) (m ts))
    one o ts e x y same is h = as_node e (node o (x ∷ []) ts) (node o (y ∷ []) (m ts)) is (same _ _ _ _, (h, tt))

    two : (o : Op) (ts : List Lexeme) (e x y x' y' : Tree) → ((a b a' b' : ℕ) → SameOp source form o a b o a' b') → e ≡ node o (x ∷ y ∷ []) ts → L x x' → L y y' → L e (node o (x' ∷ y' ∷ []) (m ts))
    two o ts e x y x' y' same is h k = as_node e (node o (x ∷ y ∷ []) ts) (node o (x' ∷ y' ∷ []) (m ts)) is (same _ _ _ _, (h, (k, tt)))

    primary : Moves source form d (IsPrimary P) L
    primary ts e k (inl (n, whole, is, e_is)) =
        let own = kept_as source form d ts (n ∷ []) whole k in
        let there : m ts ≡ moved d n ∷ [] = ap m whole in
        let tree : e ≡ node op.Name [] (n ∷ []) = e_is ∙ ap (λ (z : List Lexeme). node op.Name [] z) whole in
        (node op.Name [] (m ts), inl (moved d n, there, is, refl), as_node e _ _ tree (subst (λ (z : List Lexeme). L (node op.Name [] (n ∷ [])) (node op.Name [] z)) (sym there) ((refl, own.0), tt)))
    primary ts e k (inr (inl (n, b, xs, whole, is, inner, e_is))) =
        let own = kept_as source form d ts (n ∷ b) whole k in
        let there : m ts ≡ moved d n ∷ m b = ap m whole in
        let q = between_moves source form d _ _ (separated_list (P Expression) (rec Expression)) w.Open w.Close b xs own.1 inner in (
          node (op.Call (name_of (moved d n))) q.0 (m ts),
          inr (inl (moved d n, m b, q.0, there, is, q.1, refl)),
          as_node e (node (op.Call (name_of n)) xs ts) _ e_is ((name_of (moved d n), refl, own.0), trees_alike source form d xs q.0 q.2),
        )
    primary ts e k (inr (inr (inl (n, value, whole, is, e_is)))) =
        (node (op.Number value) [] (m ts), inr (inr (inl (moved d n, value, ap m whole, is, refl))), as_node e _ _ e_is (refl, tt))
    primary ts e k (inr (inr (inr (inl (n, value, whole, is, e_is))))) =
        (node (op.Char value) [] (m ts), inr (inr (inr (inl (moved d n, value, ap m whole, is, refl)))), as_node e _ _ e_is (refl, tt))
    primary ts e k (inr (inr (inr (inr (inl (t, rest, whole, are, e_is)))))) =
        (node op.Text [] (m ts), inr (inr (inr (inr (inl (moved d t, m rest, ap m whole, strings_moved d ts are, refl))))), as_node e _ _ e_is (refl, tt))
    primary ts e k (inr (inr (inr (inr (inr inner))))) =
        let q = between_moves source form d (P Expression) L (rec Expression) w.Open w.Close ts e k inner in
        (q.0, inr (inr (inr (inr (inr q.1)))), q.2)

    postfix : Moves source form d (IsPostfix P) L
    postfix ts e k (inl h) = let q = primary ts e k h in (q.0, inl q.1, q.2)
    postfix ts e k (inr (inl (a, b, x, y, whole, first, second, e_is))) =
        let own = kept_parts source form d ts a b whole k in
        let p = rec Postfix a x own.0 first in
        let q = between_moves source form d (P Expression) L (rec Expression) w.OpenBracket w.CloseBracket b y own.1 second in
        (node op.Index (p.0 ∷ q.0 ∷ []) (m ts), inr (inl (m a, m b, p.0, q.0, parts_moved d ts a b whole, p.1, q.1, refl)), two op.Index ts e x y p.0 q.0 (λ a b a' b'. refl) e_is p.2 q.2)
    postfix ts e k (inr (inr (a, t, number, x, whole, suffix, first, e_is))) =
        let own = kept_parts source form d ts a (t ∷ []) whole k in
        let p = rec Postfix a x own.0 first in (
          node (op.Suffix number) (p.0 ∷ []) (m ts),
          inr (inr (m a, moved d t, number, p.0, parts_moved d ts a (t ∷ []) whole, suffix, p.1, refl)),
          one (op.Suffix number) ts e x p.0
              (λ a b a' b'. refl) e_is p.2,
        )

    unary : Moves source form d (IsUnary P) L
    unary ts e k (inl (t, b, number, x, whole, sign, first, e_is)) =
        let own = kept_as source form d ts (t ∷ b) whole k in
        let p = rec (Level 0) b x own.1 first in
        (node (op.Prefix number) (p.0 ∷ []) (m ts), inl (moved d t, m b, number, p.0, ap m whole, sign, p.1, refl), one (op.Prefix number) ts e x p.0 (λ a b a' b'. refl) e_is p.2)
    unary ts e k (inr (inl (t, b, number, x, whole, step, first, e_is))) =
        let own = kept_as source form d ts (t ∷ b) whole k in
        let p = rec Unary b x own.1 first in
        (node (op.Prefix number) (p.0 ∷ []) (m ts), inr (inl (moved d t, m b, number, p.0, ap m whole, step, p.1, refl)), one (op.Prefix number) ts e x p.0 (λ a b a' b'. refl) e_is p.2)
    unary ts e k (inr (inr (inl (t, b, x, whole, is, first, e_is)))) =
        let own = kept_as source form d ts (t ∷ b) whole k in
        let p = rec Unary b x own.1 first in
        (node op.SizeOf (p.0 ∷ []) (m ts), inr (inr (inl (moved d t, m b, p.0, ap m whole, is, p.1, refl))), one op.SizeOf ts e x p.0 (λ a b a' b'. refl) e_is p.2)
    unary ts e k (inr (inr (inr (inl (t, b, kind, whole, is, (o, inner, c, within, opens, closes, name), e_is))))) = (
      node (op.SizeOfType kind) [] (m ts),
      inr (inr (inr (inl (moved d t, m b, kind, ap m whole, is, (moved d o, m inner, moved d c, between_moved d b inner o c within, opens, closes, type_name_moved d inner kind name), refl)))),
      as_node e _ _ e_is (refl, tt),
    )
    unary ts e k (inr (inr (inr (inr h)))) = let q = postfix ts e k h in (q.0, inr (inr (inr (inr q.1))), q.2)

    operand : Moves source form d (IsOperand P) L
    operand ts e k (inl (a, b, kind, x, whole, (o, inner, c, within, opens, closes, name), first, e_is)) =
        let own = kept_parts source form d ts a b whole k in
        let p = rec (Level 0) b x own.1 first in (
          node (op.Cast kind) (p.0 ∷ []) (m ts),
          inl (m a, m b, kind, p.0, parts_moved d ts a b whole, (moved d o, m inner, moved d c, between_moved d a inner o c within, opens, closes, type_name_moved d inner kind name), p.1, refl),
          one (op.Cast kind) ts e x p.0 (λ a b a' b'. refl) e_is p.2,
        )
    operand ts e k (inr h) = let q = unary ts e k h in (q.0, inr q.1, q.2)

    level : (l : ℕ) → Moves source form d (IsLevel P l) L
    level zero ts e k h = operand ts e k h
    level (suc l) ts e k (inl h) = let q = level l ts e k h in (q.0, inl q.1, q.2)
    level (suc l) ts e k (inr (a, t, b, number, x, y, whole, binary, first, second, e_is)) =
        let own = kept_parts source form d ts a (t ∷ b) whole k in
        let p = rec (Level (suc l)) a x own.0 first in
        let q = rec (Level l) b y own.1.1 second in (
          node (op.Binary number) (p.0 ∷ q.0 ∷ []) (m ts),
          inr (m a, moved d t, m b, number, p.0, q.0, parts_moved d ts a (t ∷ b) whole, binary, p.1, q.1, refl),
          two (op.Binary number) ts e x y p.0 q.0 (λ a b a' b'. refl) e_is p.2 q.2,
        )

    rules : (rule : Rule) → Moves source form d (IsRule P rule) L
    rules Expression ts e k (inl h) = let q = level loosest ts e k h in (q.0, inl q.1, q.2)
    rules Expression ts e k (inr (a, t, b, number, x, y, whole, assign, first, second, e_is)) =
        let own = kept_parts source form d ts a (t ∷ b) whole k in
        let p = rec Unary a x own.0 first in
        let q = rec Expression b y own.1.1 second in (
          node (op.Assign number) (p.0 ∷ q.0 ∷ []) (m ts),
          inr (m a, moved d t, m b, number, p.0, q.0, parts_moved d ts a (t ∷ b) whole, assign, p.1, q.1, refl),
          two (op.Assign number) ts e x y p.0 q.0 (λ a b a' b'. refl) e_is p.2 q.2,
        )
    rules (Level l) ts e k h = level l ts e k h
    rules Unary ts e k h = unary ts e k h
    rules Postfix ts e k h = postfix ts e k h

  pub derived_moves : (n : ℕ) (rule : Rule) → Moves source form d (IsDerived n rule) L
  derived_moves zero rule ts e k h = absurd h
  derived_moves (suc n) rule ts e k h = rules (IsDerived n) (derived_moves n) rule ts e k h

pub expression_moves : (source form : List ℕ) (d n : ℕ) → Moves source form d (IsExpression n) (Alike source form)
expression_moves source form d n = derived_moves source form d n Expression
