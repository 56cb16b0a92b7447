-- The rows of a table.
use Rattle.std.proofs.Common.{◌≡◌, ◌<◌, ℕ, zero, suc, List, [], ◌∷◌, length, get_or, Vec, Global, sym, ap, ◌∙◌, subst, arith}
use Rattle.std.specs.List.{All}
use Rattle.std.proofs.lemmas.List.{length-map}
use Rattle.cw_callgraph.specs.Finding.{AreBelow, lists_of, next_in}

-- a row of a table
pub row_is : (rows : List (Vec ℕ Global)) (i : ℕ) (row : Vec ℕ Global) (l : List ℕ) → i < length rows → row ≡ get_or rows i row → l ≡ row.items → l ≡ next_in rows i
row_is [] i row l m e f = absurd (omega arith)
row_is (r ∷ rows) zero row l m e f = f ∙ ap (λ (v : Vec ℕ Global). v.items) e
row_is (r ∷ rows) (suc i) row l m e f = row_is rows i row l (omega arith) e f

pub row_below : (n : ℕ) (rows : List (Vec ℕ Global)) (i : ℕ) (l : List ℕ) → All (AreBelow n) (lists_of rows) → i < length rows → l ≡ next_in rows i → AreBelow n l
row_below n rows i l a m e = subst (AreBelow n) (sym e) (a i [] (let z = length-map rows (λ (v : Vec ℕ Global). v.items) in omega arith))
