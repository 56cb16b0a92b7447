-- The first file of a name: its index among the files as they are kept, and its bytes.
use Rattle.std.proofs.Common.{◌≡◌, ℕ, ◌+◌, ◌<◌, zero, suc, Bool, true, false, List, [], ◌∷◌, map, length, get_or, Some, None, option_map, position, find, bytes_eq, refl, sym, ap, ◌∙◌, arith}
use Rattle.std.specs.Global.{Vec}
use Rattle.std.specs.List.{position_from}
use Rattle.std.proofs.lemmas.Iterator.Adapters.{position_from-zero}
use Rattle.std.proofs.Math.ListN.{get_or-map}
use Rattle.std.proofs.lemmas.List.Quantifiers.{position-Some}
use Rattle.cw_io.specs.Shelves.{listed, content_of, index_of}
use Rattle.cw_lemmas.proofs.Options.{position_none as find_none}

-- indices in a list that was mapped
position_from-map : {X Y : Type 0} (f : X → Y) (p : Y → Bool) (i : ℕ) (xs : List X) → position_from p i (map f xs) ≡ position_from (λ x. p (f x)) i xs
position_from-map f p i [] = refl
position_from-map f p i (x ∷ xs) = rw (position_from-map f p (i + 1) xs) refl

pub position-map : {X Y : Type 0} (f : X → Y) (p : Y → Bool) (xs : List X) → position p (map f xs) ≡ position (λ x. p (f x)) xs
position-map f p xs = position_from-zero p (map f xs) ∙ position_from-map f p 0 xs ∙ sym (position_from-zero (λ x. p (f x)) xs)

-- the index among the files as they are kept is that among the names and bytes
pub index_listed : (files : List (Vec ℕ × Vec ℕ)) (name : List ℕ) → position (λ (file : Vec ℕ × Vec ℕ). bytes_eq file.0.items name) files ≡ index_of (listed files) name
index_listed files name = sym (position-map (λ (file : Vec ℕ × Vec ℕ). (file.0.items, file.1.items)) (λ (file : List ℕ × List ℕ). bytes_eq file.0 name) files)

-- what is found is what stands at the first index that passes
find_first : {X : Type 0} (p : X → Bool) (xs : List X) (i : ℕ) (d : X) → i < length xs → p (get_or xs i d) ≡ true → ((k : ℕ) → k < i → p (get_or xs k d) ≡ false) → find p xs ≡ Some (get_or xs i d)
find_first p [] i d within passes before = absurd (omega (arith, within))
find_first p (x ∷ xs) zero d within passes before = rw passes refl
find_first p (x ∷ xs) (suc i) d within passes before =
    let first = before 0 (omega arith) in
    rw first (find_first p xs i d (omega arith) passes (λ k below. before (suc k) (omega arith)))

-- the bytes of the file at the index of a name, as the files are kept
pub content_at : (files : List (Vec ℕ × Vec ℕ)) (name : List ℕ) (i : ℕ) (file : Vec ℕ × Vec ℕ) → index_of (listed files) name ≡ Some i → content_of (listed files) name ≡ Some (get_or files i file).1.items
content_at files name i file index =
    let d : List ℕ × List ℕ = (file.0.items, file.1.items) in
    let passes : List ℕ × List ℕ → Bool = λ f. bytes_eq f.0 name in
    let first = position-Some passes (listed files) i d index in
    let is = get_or-map (λ (f : Vec ℕ × Vec ℕ). (f.0.items, f.1.items)) files i file in
    let found = find_first passes (listed files) i d first.0 first.1 first.2 in
    ap (option_map (λ (f : List ℕ × List ℕ). f.1)) (found ∙ ap (λ (f : List ℕ × List ℕ). Some f) is)

-- no index, no bytes
pub content_none : (files : List (Vec ℕ × Vec ℕ)) (name : List ℕ) → index_of (listed files) name ≡ None → content_of (listed files) name ≡ None
content_none files name none =
    let p : List ℕ × List ℕ → Bool = λ f. bytes_eq f.0 name in
    ap (option_map (λ (f : List ℕ × List ℕ). f.1)) (find_none p 0 (listed files) (sym (position_from-zero p (listed files)) ∙ none))
