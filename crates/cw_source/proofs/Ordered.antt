-- Marks that stand one after the other.
use Rattle.std.proofs.Common.{ℕ, ◌≤◌, List, [], ◌∷◌, ◌++◌, arith}
use Rattle.cw_syntax.specs.Marks.{SeamMark, AreInOrder}

pub wider : (a b c d : ℕ) (ms : List SeamMark) → c ≤ a → b ≤ d → AreInOrder a b ms → AreInOrder c d ms
wider a b c d [] p q h = omega arith
wider a b c d (m ∷ ms) p q h = ((let r = h.0 in omega arith), (let r = h.1 in omega arith), wider m.place b m.place d ms (omega arith) q h.2)

pub order_le : (from to : ℕ) (ms : List SeamMark) → AreInOrder from to ms → from ≤ to
order_le from to [] h = h
order_le from to (m ∷ ms) h = let p = h.0 in let q = h.1 in omega arith

pub joined : (from at to : ℕ) (xs ys : List SeamMark) → AreInOrder from at xs → AreInOrder at to ys → AreInOrder from to (xs ++ ys)
joined from at to [] ys h k = wider at to from to ys h (omega arith) k
joined from at to (x ∷ xs) ys h k = (h.0, (let p = h.1 in let q = order_le at to ys k in omega arith), joined x.place at to xs ys h.2 k)
