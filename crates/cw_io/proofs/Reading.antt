-- Reads in a row, as one read.
use Rattle.std.proofs.Common.{◌≡◌, ℕ, List, ◌++◌, take, drop, Option, Some, None, sym, ap, ◌∙◌, append_assoc}
use Rattle.std.proofs.lemmas.List.{take-append-drop}
use Rattle.std.specs.Io.KnownBytes.{Consumes}

-- bytes that were consumed, and then more that stand behind them
pub consumes_more : (old mid new : Option (List ℕ)) (n : ℕ) (xs ys : List ℕ) → take n ys ≡ xs → Consumes old mid xs → Consumes mid new (drop n ys) → Consumes old new ys
consumes_more None mid new n xs ys front p q = tt
consumes_more (Some old) None new n xs ys front p q = absurd p
consumes_more (Some old) (Some mid) None n xs ys front p q = absurd q
consumes_more (Some old) (Some mid) (Some new) n xs ys front p q =
    let whole : xs ++ drop n ys ≡ ys = ap (λ (z : List ℕ). z ++ drop n ys) (sym front) ∙ take-append-drop n ys in
    p ∙ ap (λ (rest : List ℕ). xs ++ rest) q ∙ sym (append_assoc xs (drop n ys) new) ∙ ap (λ (all : List ℕ). all ++ new) whole
