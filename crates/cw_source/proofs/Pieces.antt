-- A text that is put piece by piece.
use Rattle.std.proofs.Common.{◌≡◌, ℕ, List, ◌++◌, ap, ◌∙◌}
use Rattle.std.proofs.lemmas.List.{append_assoc}

-- a piece behind those that were put before
behind : (text one two first second : List ℕ) → one ≡ text ++ first → two ≡ one ++ second → two ≡ text ++ (first ++ second)
behind text one two first second e f = f ∙ ap (λ (t : List ℕ). t ++ second) e ∙ append_assoc text first second

-- six pieces, one after another
pub six_pieces : (text one two three four five six p q r s t u : List ℕ) → one ≡ text ++ p → two ≡ one ++ q → three ≡ two ++ r → four ≡ three ++ s → five ≡ four ++ t → six ≡ five ++ u
    → six ≡ text ++ (p ++ q ++ r ++ s ++ t ++ u)
six_pieces text one two three four five six p q r s t u e1 e2 e3 e4 e5 e6 =
    let b2 = behind text one two p q e1 e2 in
    let b3 = behind text two three (p ++ q) r b2 e3 in
    let b4 = behind text three four (p ++ q ++ r) s b3 e4 in
    let b5 = behind text four five (p ++ q ++ r ++ s) t b4 e5 in
    behind text five six (p ++ q ++ r ++ s ++ t) u b5 e6
