-- Kinds that are found by their names.
use Rattle.std.proofs.Common.{◌≡◌, refl, ap, sym, subst, ℕ, List, [], ◌∷◌, length, Bool, true, false, cond, Option, Some}
use Rattle.std.specs.List.{AllByRecursion}
use Rattle.std.specs.Str.{bytes_eq}
use Rattle.std.proofs.lemmas.Option.{none-some, same_Some}
use Rattle.std.proofs.lemmas.Slice.Eq.{HasBytesAt, text_from_reads, bytes_eq-Decides}
use Rattle.cw_text.specs.KindsByName.{kind_by}

-- a name that was read byte by byte
pub kind_read : {A : Type 0} (kinds : List (List ℕ × A)) (name read : List ℕ) → length name ≡ length read → HasBytesAt name 0 read → kind_by kinds read ≡ kind_by kinds name
kind_read kinds name read len bytes = ap (kind_by kinds) (sym (text_from_reads name read len bytes))

found_cond : {A : Type 0} (P : List ℕ → A → Type 0) (b : Bool) (name word : List ℕ) (m k : A) (o : Option A) → (b ≡ true → name ≡ word) → P word m → (o ≡ Some k → P name k)
    → cond b (Some m) o ≡ Some k → P name k
found_cond P true name word m k o same is h e = subst (P name) (same_Some m k e) (subst (λ w. P w m) (sym (same refl)) is)
found_cond P false name word m k o same is h e = h e

-- what is so of each name with its kind is so of a name and the kind that is found
pub kind_found : {A : Type 0} (P : List ℕ → A → Type 0) (kinds : List (List ℕ × A)) (name : List ℕ) (k : A) → AllByRecursion (λ (r : List ℕ × A). P r.0 r.1) kinds
    → kind_by kinds name ≡ Some k → P name k
kind_found P [] name k all e = absurd (none-some k e)
kind_found P (r ∷ rest) name k all e =
    found_cond P (bytes_eq name r.0) name r.0 r.1 k (kind_by rest name) ((bytes_eq-Decides name r.0).0) all.0 (kind_found P rest name k all.1) e
