-- Lists with one element more.
use Rattle.std.proofs.Common.{◌≡◌, ℕ, ◌+◌, ◌-◌, ◌<◌, ◌≤◌, List, [], ◌∷◌, ◌++◌, map, take, drop, length, get_or, append-nil, refl, ap, sym, ◌∙◌}
use Rattle.std.proofs.Math.Seq.{drop-append_seam}
use Rattle.std.proofs.Math.ListN.{drop_of_length-le}
use Rattle.std.proofs.lemmas.List.{append_assoc, drop-map, drop_more, length-map, take_rest}

one_more : {X Y : Type 0} (f : X → Y) (old : List X) (x : X) (rest : List Y) → map f (old ++ x ∷ []) ++ rest ≡ map f old ++ (f x ∷ rest)
one_more f [] x rest = refl
one_more f (y ∷ ys) x rest = ap (λ l. f y ∷ l) (one_more f ys x rest)

pub pushed : {X Y : Type 0} (f : X → Y) (old new : List X) (x : X) (rest : List Y) → new ≡ old ++ x ∷ [] → map f new ++ rest ≡ map f old ++ (f x ∷ rest)
pushed f old new x rest e = ap (λ l. map f l ++ rest) e ∙ one_more f old x rest

-- what stands behind those that were there
pub behind_old : {X Y : Type 0} (f : X → Y) (old new all : List X) (from : ℕ) (ns : List Y) → all ≡ new → from ≡ length old
    → map f new ≡ map f old ++ ns → map f (take (length all - from) (drop from all)) ≡ ns
behind_old f old new all from ns e at is =
    let same : from ≡ length (map f old) = at ∙ sym (length-map old f) in
    ap (map f) (rw (e, at) (take_rest new (length old)))
    ∙ sym (drop-map f (length old) new)
    ∙ rw is (ap (λ n. drop n (map f old ++ ns)) (sym (length-map old f)) ∙ drop-append_seam (map f old) ns)

-- A loop that appends what `rest` gives for the elements that are left: one element further, and where none is left.
pub further : {X Z : Type 0} (rest : List X → List Z) (xs : List X) (i : ℕ) (x : X) (old new added whole : List Z) → i < length xs → x ≡ get_or xs i x
    → ((ys : List X) → rest (x ∷ ys) ≡ added ++ rest ys) → new ≡ old ++ added → old ++ rest (drop i xs) ≡ whole → new ++ rest (drop (i + 1) xs) ≡ whole
further rest xs i x old new added whole lt at each is before =
    let left = drop (i + 1) xs in
    ap (λ l. l ++ rest left) is
    ∙ append_assoc old added (rest left)
    ∙ ap (λ l. old ++ l) (sym (each left) ∙ ap rest (ap (λ y. y ∷ left) at ∙ sym (drop_more xs i x lt)))
    ∙ before

pub all_gone : {X Z : Type 0} (rest : List X → List Z) (xs : List X) (i : ℕ) (old whole : List Z) → rest [] ≡ [] → length xs ≤ i → old ++ rest (drop i xs) ≡ whole → old ≡ whole
all_gone rest xs i old whole none le before = sym (append-nil old) ∙ ap (λ l. old ++ l) (sym none ∙ ap rest (sym (drop_of_length-le xs le))) ∙ before
