-- Operands with operators between them are an expression, whatever the operators' levels are.
use Rattle.std.proofs.Common.{◌≡◌, ℕ, zero, suc, ◌≤◌, ◌<◌, ◌+◌, ◌-◌, max, List, [], ◌∷◌, ◌++◌, refl, sym, ap, subst, ◌∙◌, append_assoc, inl, inr, ◌⊎◌, Some, arith}
use Rattle.cw_syntax.specs.Trees.{Tree}
use Rattle.cw_syntax.specs.declared.program.Op.TheVariants as op
use Rattle.cw_grammar.specs.declared.terminals.Lexeme.{Lexeme}
use Rattle.cw_grammar.specs.declared.rules.Rule.{Rule}
use Rattle.cw_grammar.specs.declared.rules.Rule.TheVariants.{Level}
use Rattle.cw_grammar.specs.Operators as operators
use Rattle.cw_grammar.specs.Expressions.{node, IsLevel, IsDerived}
use Rattle.cw_grammar.proofs.Deeper.{derived_deeper}

-- the tokens derive some tree by this rule
pub record Stands (rule : Rule) (ts : List Lexeme) : Type 0 where
  pub nesting : ℕ
  pub tree : Tree
  pub derives : IsDerived nesting rule ts tree

pub stands : (n : ℕ) (rule : Rule) (ts : List Lexeme) (x : Tree) → IsDerived n rule ts x → Stands rule ts
stands n rule ts x h = record { nesting = n; tree = x; derives = h }

order : (l m : ℕ) → (l ≡ m) ⊎ ((m < l) ⊎ (l < m))
order zero zero = inl refl
order zero (suc m) = inr (inr (omega arith))
order (suc l) zero = inr (inl (omega arith))
order (suc l) (suc m) = elim (order l m) [ inl e ↦ inl (ap suc e) | inr p ↦ elim p [ inl q ↦ inr (inl (omega arith)) | inr q ↦ inr (inr (omega arith)) ] ]

raise_by : (n l d : ℕ) (ts : List Lexeme) (x : Tree) → IsDerived (suc n) (Level l) ts x → IsDerived (suc n) (Level (d + l)) ts x
raise_by n l zero ts x h = let e : 0 + l ≡ l = omega arith in rw e h
raise_by n l (suc d) ts x h = let e : suc d + l ≡ suc (d + l) = omega arith in rw e (inl (raise_by n l d ts x h))

-- what is of a level is of each looser one
pub raise : (n l m : ℕ) → l ≤ m → (ts : List Lexeme) (x : Tree) → IsDerived n (Level l) ts x → IsDerived n (Level m) ts x
raise zero l m le ts x h = absurd h
raise (suc n) l m le ts x h = let e : m ≡ (m - l) + l = omega arith in rw e (raise_by n l (m - l) ts x h)

binary : (n below number : ℕ) (a b : List Lexeme) (t : Lexeme) (x y : Tree) → operators.binary t.terminal ≡ Some (number, suc below) → IsDerived n (Level (suc below)) a x
    → IsDerived n (Level below) b y → Stands (Level (suc below)) (a ++ (t ∷ b))
binary n below number a b t x y e p q = record {
  nesting = suc n;
  tree = node (op.Binary number) (x ∷ y ∷ []) (a ++ (t ∷ b));
  derives = inr (a, t, b, number, x, y, refl, e, p, q, refl);
}

module _ (a : List Lexeme) (t : Lexeme) (number below : ℕ) (e : operators.binary t.terminal ≡ Some (number, suc below)) (first : Stands (Level 0) a) where
  -- before what is of a tighter level, the operator is the outermost one
  outermost : (n : ℕ) (b : List Lexeme) (y : Tree) → IsDerived n (Level below) b y → Stands (Level (suc below)) (a ++ (t ∷ b))
  outermost n b y h =
      let d = max first.nesting n in
      binary d below number a b t first.tree y e (raise d 0 (suc below) (omega arith) a first.tree
      (derived_deeper first.nesting d (omega arith) (Level 0) a first.tree first.derives)) (derived_deeper n d (omega arith) (Level below) b y h)

  looser : {ts : List Lexeme} (l m : ℕ) → l ≤ m → Stands (Level l) ts → Stands (Level m) ts
  looser {ts} l m le h = record { nesting = h.nesting; tree = h.tree; derives = raise h.nesting l m le ts h.tree h.derives }

  by_order : (n l : ℕ) (b : List Lexeme) (y : Tree) → (l ≡ below) ⊎ ((below < l) ⊎ (l < below)) → (below < l → Stands (Level l) (a ++ (t ∷ b))) → below < suc l
      → IsLevel (IsDerived n) l b y → Stands (Level (suc l)) (a ++ (t ∷ b))
  by_order n l b y (inl s) rec lt h =
      let g : IsDerived (suc n) (Level below) b y = subst (λ (z : ℕ). IsDerived (suc n) (Level z) b y) s h in
      subst (λ (z : ℕ). Stands (Level (suc z)) (a ++ (t ∷ b))) (sym s) (outermost (suc n) b y g)
  by_order n l b y (inr (inl s)) rec lt h = looser l (suc l) (omega arith) (rec s)
  by_order n l b y (inr (inr s)) rec lt h = absurd (omega arith)

  at_level : (n : ℕ) → ((l : ℕ) → below < l → (b : List Lexeme) (y : Tree) → IsDerived n (Level l) b y → Stands (Level l) (a ++ (t ∷ b))) → (l : ℕ) → below < l
      → (b : List Lexeme) (y : Tree) → IsLevel (IsDerived n) l b y → Stands (Level l) (a ++ (t ∷ b))
  at_level n again zero lt b y h = absurd (omega arith)
  at_level n again (suc l) lt b y (inr (c, u, d, other, v, w, f, g, p, q, _)) =
      let x = again (suc l) lt c v p in
      let k = max x.nesting n in
      let ok = binary k l other (a ++ (t ∷ c)) d u x.tree w g (derived_deeper x.nesting k (omega arith) (Level (suc l)) (a ++ (t ∷ c)) x.tree x.derives)
      (derived_deeper n k (omega arith) (Level l) d w q) in
      subst (λ (z : List Lexeme). Stands (Level (suc l)) z) (append_assoc a (t ∷ c) (u ∷ d) ∙ ap (λ (z : List Lexeme). a ++ (t ∷ z)) (sym f)) ok
  at_level n again (suc l) lt b y (inl h) = by_order n l b y (order l below) (λ lt. at_level n again l lt b y h) lt h

  before : (n l : ℕ) → below < l → (b : List Lexeme) (y : Tree) → IsDerived n (Level l) b y → Stands (Level l) (a ++ (t ∷ b))
  before zero l lt b y h = absurd h
  before (suc n) l lt b y h = at_level n (before n) l lt b y h

-- an operand, an operator, and an expression without assignment
pub joined : (a b : List Lexeme) (t : Lexeme) (number below : ℕ) → below < 10 → operators.binary t.terminal ≡ Some (number, suc below) → Stands (Level 0) a → Stands (Level 10) b
    → Stands (Level 10) (a ++ (t ∷ b))
joined a b t number below lt e first h = before a t number below e first h.nesting 10 lt b h.tree h.derives
