-- The numbers of names: what a name more changes, and what all names make.
use Rattle.std.proofs.Common.{◌≡◌, ℕ, zero, suc, ◌+◌, ◌<◌, ◌≤◌, List, [], ◌∷◌, length, drop, get_or, Bool, true, false, ◌||◌, cond, Some, is_some, map, refl, sym, ap, ap₂, ◌∙◌, arith}
use Rattle.std.specs.Map.{lookup}
use Rattle.std.specs.List.{list_any, position_from}
use Rattle.std.specs.Prelude.{position}
use Rattle.std.specs.Borrow.{Bor}
use Rattle.std.specs.Str.{bytes_eq}
use Rattle.std.proofs.lemmas.Iterator.Adapters.{position_from-zero}
use Rattle.std.proofs.lemmas.Cmp.{nat_list_eq_equiv}
use Rattle.std.proofs.lemmas.List.{drop_more}
use Rattle.cw_syntax.specs.Names.{number_in}
use Rattle.cw_resolve.specs.Listed.{HaveNumbers, HaveNumbersFrom, number_from, text_at}

abbrev Entries : Type 0
Entries = List (Bor (List ℕ) × ℕ)

numbered_on : (name : List ℕ) (n : ℕ) (ts : List (Bor (List ℕ))) → number_from name n ts ≡ position_from (bytes_eq name) n (map text_at ts)
numbered_on name n [] = refl
numbered_on name n (t ∷ ts) = ap (cond (bytes_eq name t.now) (Some n)) (numbered_on name (n + 1) ts)

numbered : (name : List ℕ) (ts : List (Bor (List ℕ))) → number_from name 0 ts ≡ number_in (map text_at ts) name
numbered name ts = numbered_on name 0 ts ∙ sym (position_from-zero (bytes_eq name) (map text_at ts))

pub have_numbers : (es : Entries) (ts : List (Bor (List ℕ))) (at : ℕ) → at ≤ 0 → HaveNumbersFrom at es (drop at ts) → HaveNumbers es ts
have_numbers es ts zero none h name = h name ∙ numbered name.now ts
have_numbers es ts (suc at) none h name = absurd (omega (arith, none))

-- the entries with a name put in that stands before the others in the list
one_before : (n : ℕ) (t : Bor (List ℕ)) (ts : List (Bor (List ℕ))) (old new : Entries)
    → ((q : Bor (List ℕ)) → lookup (λ k. bytes_eq q.now k.now) new ≡ cond (bytes_eq t.now q.now) (Some n) (lookup (λ k. bytes_eq q.now k.now) old))
    → HaveNumbersFrom (n + 1) old ts → HaveNumbersFrom n new (t ∷ ts)
one_before n t ts old new updates rest name =
    updates name
    ∙ ap₂ (λ b later. cond b (Some n) later) (nat_list_eq_equiv.symm t.now name.now) (rest name)

-- from an index on, where the next index's names have their numbers
pub one_more : (ts : List (Bor (List ℕ))) (i : ℕ) (none : Bor (List ℕ)) (old new : Entries) → i < length ts
    → ((q : Bor (List ℕ)) → lookup (λ k. bytes_eq q.now k.now) new ≡ cond (bytes_eq (get_or ts i none).now q.now) (Some i) (lookup (λ k. bytes_eq q.now k.now) old))
    → HaveNumbersFrom (i + 1) old (drop (i + 1) ts) → HaveNumbersFrom i new (drop i ts)
one_more ts i none old new short updates rest name =
    one_before i (get_or ts i none) (drop (i + 1) ts) old new updates rest name ∙ ap (number_from name.now i) (sym (drop_more ts i none short))

module _ {X : Type 0} (p : X → Bool) where
  some_from : (n : ℕ) (xs : List X) → is_some (position_from p n xs) ≡ list_any p xs
  some_from n [] = refl
  some_from n (x ∷ xs) = by (p x) (some_from (n + 1) xs)
    where
      by : (b : Bool) → is_some (position_from p (n + 1) xs) ≡ list_any p xs → is_some (cond b (Some n) (position_from p (n + 1) xs)) ≡ (b || list_any p xs)
      by true h = refl
      by false h = h

  -- an index is found where some item passes
  pub some_index : (xs : List X) → is_some (position p xs) ≡ list_any p xs
  some_index xs = ap is_some (position_from-zero p xs) ∙ some_from 0 xs
