-- One line more of numbered lines.
use Rattle.std.proofs.Common.{◌≡◌, ℕ, zero, suc, ◌+◌, ◌<◌, List, [], ◌∷◌, ◌++◌, length, take, map, get_or, sym, ap, ◌∙◌, append_assoc, append-nil, add-one, arith}
use Rattle.std.specs.List.{flat_map, enumerate_from}
use Rattle.cw_text.specs.RowLines.{numbered}

from : {A : Type 0} → (ℕ → A → List ℕ) → ℕ → List A → List ℕ
from f n xs = flat_map (λ row. f row.0 row.1) (enumerate_from n xs)

more : {A : Type 0} (f : ℕ → A → List ℕ) (n : ℕ) (xs : List A) (i : ℕ) (x : A) → i < length xs → x ≡ get_or xs i x → from f n (take (suc i) xs) ≡ from f n (take i xs) ++ f (n + i) x
unfolding from
more f n [] i x lt is = absurd (omega arith)
more f n (y ∷ ys) zero x lt is =
    let e : n + 0 ≡ n = omega arith in
    rw e (append-nil (f n y) ∙ ap (f n) (sym is))
more f n (y ∷ ys) (suc i) x lt is =
    let e : (n + 1) + i ≡ n + suc i = omega arith in
    ap (λ (t : List ℕ). f n y ++ t) (more f (n + 1) ys i x (omega arith) is ∙ ap (λ (k : ℕ). from f (n + 1) (take i ys) ++ f k x) e)
    ∙ sym (append_assoc (f n y) (from f (n + 1) (take i ys)) (f (n + suc i) x))

also : {A B : Type 0} (f : ℕ → B → List ℕ) (g : A → B) (n : ℕ) (xs : List A) (i : ℕ) (x : A) → i < length xs → x ≡ get_or xs i x → from f n (map g (take (suc i) xs)) ≡ from f n (map g (take i xs)) ++ f (n + i) (g x)
unfolding from
also f g n [] i x lt is = absurd (omega arith)
also f g n (y ∷ ys) zero x lt is =
    let e : n + 0 ≡ n = omega arith in
    rw e (append-nil (f n (g y)) ∙ ap (λ z. f n (g z)) (sym is))
also f g n (y ∷ ys) (suc i) x lt is =
    let e : (n + 1) + i ≡ n + suc i = omega arith in
    ap (λ (t : List ℕ). f n (g y) ++ t) (also f g (n + 1) ys i x (omega arith) is ∙ ap (λ (k : ℕ). from f (n + 1) (map g (take i ys)) ++ f k (g x)) e)
    ∙ sym (append_assoc (f n (g y)) (from f (n + 1) (map g (take i ys))) (f (n + suc i) (g x)))

pub numbered_step : {A : Type 0} (f : ℕ → A → List ℕ) (xs : List A) (i : ℕ) (x : A) → i < length xs → x ≡ get_or xs i x → numbered f (take (i + 1) xs) ≡ numbered f (take i xs) ++ f i x
unfolding from
numbered_step f xs i x lt is =
    let e : 0 + i ≡ i = omega arith in
    rw add-one (more f 0 xs i x lt is ∙ ap (λ (k : ℕ). from f 0 (take i xs) ++ f k x) e)

-- the same for rows that stand for others
pub mapped_step : {A B : Type 0} (f : ℕ → B → List ℕ) (g : A → B) (xs : List A) (i : ℕ) (x : A) → i < length xs → x ≡ get_or xs i x → numbered f (map g (take (i + 1) xs)) ≡ numbered f (map g (take i xs)) ++ f i (g x)
unfolding from
mapped_step f g xs i x lt is =
    let e : 0 + i ≡ i = omega arith in
    rw add-one (also f g 0 xs i x lt is ∙ ap (λ (k : ℕ). from f 0 (map g (take i xs)) ++ f k (g x)) e)

-- what was put so far, and one piece more
pub one_more : (old now new a b whole : List ℕ) → now ≡ old ++ a → new ≡ now ++ b → whole ≡ a ++ b → new ≡ old ++ whole
one_more old now new a b whole so_far piece both = rw (piece, so_far, both) (append_assoc old a b)

-- three pieces, one after another
pub three_pieces : (t0 t1 t2 t3 a b c : List ℕ) → t1 ≡ t0 ++ a → t2 ≡ t1 ++ b → t3 ≡ t2 ++ c → t3 ≡ t0 ++ ((a ++ b) ++ c)
three_pieces t0 t1 t2 t3 a b c h0 h1 h2 = rw (h2, h1, h0) (simp append_assoc)
