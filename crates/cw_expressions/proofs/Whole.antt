-- The expression that is next, both ways.
use Rattle.std.proofs.Common.{◌≡◌, ℕ, ◌<◌, ◌≤◌, max, false, List, [], ◌∷◌, ◌++◌, Result, Ok, Err, refl, sym, ap, subst, ◌∙◌, arith, inl, inr}
use Rattle.std.specs.Prelude.{◌⊎◌, IfOk}
use Rattle.std.specs.Borrow.{Bor}
use Rattle.cw_syntax.specs.declared.program.Expr.{Expr}
use Rattle.cw_syntax.specs.Trees.{Tree, tree_of}
use Rattle.cw_grammar.specs.declared.terminals.Lexeme.{Lexeme}
use Rattle.cw_grammar.specs.declared.rules.Rule.TheVariants.{Expression}
use Rattle.cw_grammar.specs.Expressions.{nesting_limit}
use Rattle.cw_expressions.specs.declared.refusal.Refusal.{Refusal}
use Rattle.cw_expressions.specs.declared.refusal.Refusal.TheVariants as refusal
use Rattle.cw_expressions.specs.Cursor.{◌>>=◌, Fails, Gives}
use Rattle.cw_expressions.specs.Reading.{Read, read_at}
use Rattle.cw_expressions.specs.Next.{IsNext, IsEnd, Answer, answer, refused, next_expression}
use Rattle.cw_expressions.specs.View.{seen}
use Rattle.cw_expressions.proofs.Steps.{if_bind}
use Rattle.cw_grammar.proofs.Deeper.{derived_deeper}
use Rattle.cw_expressions.proofs.Sound.{read_sound}
use Rattle.cw_expressions.proofs.Follows.{StopsAt, ended_at, ended_nothing}
use Rattle.cw_expressions.proofs.Again.{Again}
use Rattle.cw_expressions.proofs.Complete.{read_again}

pub end_stops : (rest : List Lexeme) → IsEnd rest → StopsAt Expression rest
end_stops [] h = ended_nothing
end_stops (t ∷ ts) h = ended_at t ts h

pub next_sound : (ts : List Lexeme) → IfOk (next_expression ts) (λ x. IsNext nesting_limit ts x.0 x.1)
unfolding next_expression
next_sound ts =
    if_bind (read_at nesting_limit Expression ts) _ _ _ (read_sound nesting_limit Expression ts) (λ x f.
    (f.front, f.parts, derived_deeper x.depth nesting_limit f.fits Expression f.front x.tree f.derived))

by_outcome : (limit n : ℕ) (r : Read) (front : List Lexeme) (e : Tree) (rest : List Lexeme) → Again limit n false r front e rest
    → ((r >>= λ x. answer x.tree x.rest) ≡ answer e rest) ⊎ ((limit < n) × ((r >>= λ x. answer x.tree x.rest) ≡ Err refusal.TooDeep))
by_outcome limit n r front e rest (inl h) = inl (rw h.is refl)
by_outcome limit n r front e rest (inr h) = inr (h.0, rw h.1 refl)

-- what is next is read, unless it nests too deep
pub next_again : (n : ℕ) (ts : List Lexeme) (e : Tree) (rest : List Lexeme) → IsNext n ts e rest → IsEnd rest → (next_expression ts ≡ answer e rest)
    ⊎ ((nesting_limit < n) × (next_expression ts ≡ Err refusal.TooDeep))
unfolding next_expression
next_again n ts e rest (front, parts, h) stop =
    rw parts (by_outcome nesting_limit n (read_at nesting_limit Expression (front ++ rest)) front e rest (read_again nesting_limit n Expression front e rest h (end_stops rest stop)))

pub next_is : (ts : List Lexeme) (e : Tree) (rest : List Lexeme) → IsNext nesting_limit ts e rest → IsEnd rest → next_expression ts ≡ answer e rest
next_is ts e rest h stop = by_case (next_again nesting_limit ts e rest h stop) where
  by_case : (next_expression ts ≡ answer e rest) ⊎ ((nesting_limit < nesting_limit) × (next_expression ts ≡ Err refusal.TooDeep)) → next_expression ts ≡ answer e rest
  by_case (inl p) = p
  by_case (inr p) = let lt = p.0 in absurd (omega arith)

-- ---- what a call of the parser says

module _ (ts : List Lexeme) (r : Result (Expr × Bor (List Lexeme)) Refusal) (given : Gives seen r (next_expression ts)) where
  pub is_found : IfOk r (λ x. IsNext nesting_limit ts (tree_of x.0) x.1.now)
  is_found = by_result r given where
    by_result : (q : Result (Expr × Bor (List Lexeme)) Refusal) → Gives seen q (next_expression ts) → IfOk q (λ x. IsNext nesting_limit ts (tree_of x.0) x.1.now)
    by_result (Ok x) g = let p : IfOk (next_expression ts) (λ y. IsNext nesting_limit ts y.0 y.1) = next_sound ts in rw g at p
    by_result (Err e) g = tt

  pub is_only : (e : Tree) (rest : List Lexeme) → IsNext nesting_limit ts e rest → IsEnd rest → Gives seen r (answer e rest)
  is_only e rest h stop = subst (λ (z : Answer). Gives seen r z) (next_is ts e rest h stop) given

  pub is_deep : (n : ℕ) (e : Tree) (rest : List Lexeme) → IsNext n ts e rest → IsEnd rest → ¬ (IsNext nesting_limit ts e rest) → Gives seen r (refused refusal.TooDeep)
  is_deep n e rest h stop never = by_case (next_again n ts e rest h stop) where
    by_case : (next_expression ts ≡ answer e rest) ⊎ ((nesting_limit < n) × (next_expression ts ≡ Err refusal.TooDeep)) → Gives seen r (refused refusal.TooDeep)
    by_case (inl p) = let s : IfOk (next_expression ts) (λ y. IsNext nesting_limit ts y.0 y.1) = next_sound ts in absurd (never (rw p at s))
    by_case (inr p) = subst (λ (z : Answer). Gives seen r z) p.1 given

  pub is_syntax : r ≡ Err refusal.Syntax → (n : ℕ) (e : Tree) (rest : List Lexeme) → IsNext n ts e rest → IsEnd rest → ⊥
  is_syntax fault n e rest h stop = by_case (next_again n ts e rest h stop) where
    fails : Fails refusal.Syntax (next_expression ts)
    fails = let g : Gives seen r (next_expression ts) = given in rw fault at g

    by_case : (next_expression ts ≡ answer e rest) ⊎ ((nesting_limit < n) × (next_expression ts ≡ Err refusal.TooDeep)) → ⊥
    by_case (inl p) = let f : next_expression ts ≡ Err refusal.Syntax = fails in absurd (cc)
    by_case (inr p) = let f : next_expression ts ≡ Err refusal.Syntax = fails in let q = p.1 in absurd (cc)

-- ---- one tree

read_is : (n : ℕ) (ts : List Lexeme) (e : Tree) (rest : List Lexeme) → IsNext n ts e rest → IsEnd rest → (k : ℕ) → n ≤ k → (read_at k Expression ts >>= λ x. answer x.tree x.rest) ≡ answer e rest
read_is n ts e rest (front, parts, h) stop k le = rw parts
    (by_case (by_outcome k n (read_at k Expression (front ++ rest)) front e rest (read_again k n Expression front e rest h (end_stops rest stop)))) where
      by_case : ((read_at k Expression (front ++ rest) >>= λ x. answer x.tree x.rest) ≡ answer e rest)
          ⊎ ((k < n) × ((read_at k Expression (front ++ rest) >>= λ x. answer x.tree x.rest) ≡ Err refusal.TooDeep))
          → (read_at k Expression (front ++ rest) >>= λ x. answer x.tree x.rest) ≡ answer e rest
      by_case (inl p) = p
      by_case (inr p) = let lt = p.0 in absurd (omega arith)

abbrev pair : Tree → List Lexeme → Tree × List Lexeme
pair e rest = (e, rest)

pub one_next : (m n : ℕ) (ts : List Lexeme) (e f : Tree) (a b : List Lexeme) → IsNext m ts e a → IsEnd a → IsNext n ts f b → IsEnd b → (e ≡ f) × (a ≡ b)
one_next m n ts e f a b p pa q qb =
    let g : answer e a ≡ answer f b = sym (read_is m ts e a p pa (max m n) (omega arith)) ∙ read_is n ts f b q qb (max m n) (omega arith) in
    let same : pair e a ≡ pair f b = cc in
    (ap (λ (z : Tree × List Lexeme). z.0) same, ap (λ (z : Tree × List Lexeme). z.1) same)
