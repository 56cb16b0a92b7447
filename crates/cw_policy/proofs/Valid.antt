-- Each policy that is spelled is valid: its descriptors, names and limits.
use Rattle.std.proofs.Common.{◌≡◌, ◌≢◌, ◌<◌, ◌≤◌, ◌⊎◌, inl, inr, ℕ, suc, ◌+◌, List, [], ◌∷◌, ◌++◌}
use Rattle.std.proofs.Common.{Bool, true, false, ◌||◌, cond, Option, Some, None, length, All, IsTrue, refl, sym, ap, ◌∙◌, subst, arith, eqb-true, append-nil, append_assoc}
use Rattle.std.specs.Prelude.{codes, nat_eq, IfSome}
use Rattle.std.specs.List.{list_any}
use Rattle.std.specs.Str.{bytes_eq}
use Rattle.std.proofs.lemmas.Bool.{true≢false}
use Rattle.std.proofs.lemmas.Bool.Decides.{nat_tests}
use Rattle.std.proofs.lemmas.List.Elements.{All-nil, All-cons, All-push}
use Rattle.std.proofs.lemmas.List.Quantifiers.{all_pairs_push}
use Rattle.std.proofs.lemmas.Option.{none-some}
use Rattle.std.proofs.lemmas.Slice.Eq.{bytes_eq-Decides}
use Rattle.toml.specs.Data.{Data, Items, no_items, item, get}
use Rattle.cw_rights.specs.Names.{right_mask, all_rights}
use Rattle.cw_rights.proofs.Named.{mask_within}
use Rattle.cw_rights.specs.Valid.{is_name, IsDigit, IsNumberOf, IsDescriptorName, IsDistinct, IsLimitWithin, IsValidDescriptor}
use Rattle.cw_regex.specs.Grammar.{is_digit, is_descriptor}
use Rattle.cw_regex.specs.Labels.{AreNames}
use Rattle.cw_regex.specs.Meaning.{with_name}
use Rattle.cw_policy.specs.declared.fault.PolicyFault.{PolicyFault}
use Rattle.cw_policy.specs.Form.{first_in, items_at, text_at}
use Rattle.cw_policy.specs.Names.{name_of, is_among, limit_unknown, repeated}
use Rattle.cw_policy.specs.Parts.{with_rights, rights_of, rights_at, digit_of, descriptor_in, descriptors_in, limit_in, limits_in, labels_from}
use Rattle.cw_policy.proofs.Formed.{EachItem, IsNamed, IsLabelled, label_in}
use Rattle.cw_policy.proofs.Rights.{within_both}
use Rattle.cw_policy.proofs.Whole.{both_none}
use Rattle.std.proofs.lemmas.Bool.{or_parts as either_false}
use Rattle.cw_regex.proofs.Parsing.{same_bytes as same_text}
use Rattle.cw_regex.proofs.Kept.{apart_kept}
use Rattle.cw_regex.proofs.Within.{number_below}

-- ---- sets of rights

with_small : (r : ℕ) (o : Option ℕ) → r ≤ all_rights → IfSome o (λ n. n ≤ all_rights) → with_rights r o ≤ all_rights
with_small r None h s = h
with_small r (Some more) h s = within_both r more h s

rights_small : (format r : ℕ) (ds : Items) → r ≤ all_rights → rights_of format r ds ≤ all_rights
rights_small format r no_items h = h
rights_small format r (item d ds) h =
    let more = right_mask format (name_of d) in
    rights_small format (with_rights r more) ds (with_small r more h (mask_within format (name_of d)))

rights_at_small : (format : ℕ) (o : Option Data) → (rights_at format o).0 ≤ all_rights
rights_at_small format None = omega arith
rights_at_small format (Some d) = rights_small format 0 (items_at (Some d)) (omega arith)

-- ---- descriptors

digit_in : (w : List ℕ) → is_digit w ≡ true → (n : ℕ) × IsDigit w n
digit_in [] h = absurd (true≢false (sym h))
digit_in (b ∷ (c ∷ rest)) h = absurd (true≢false (sym h))
digit_in (b ∷ []) h = by (nat_eq b 48) refl (nat_eq b 49) refl (nat_eq b 50) refl h
  where
    by : (x : Bool) → nat_eq b 48 ≡ x → (y : Bool) → nat_eq b 49 ≡ y → (z : Bool) → nat_eq b 50 ≡ z → (x || y || z) ≡ true → (n : ℕ) × IsDigit (b ∷ []) n
    by true e y f z g h = (0, (omega arith, ap (λ k. k ∷ []) (eqb-true b 48 e)))
    by false e true f z g h = (1, (omega arith, ap (λ k. k ∷ []) (eqb-true b 49 f)))
    by false e false f true g h = (2, (omega arith, ap (λ k. k ∷ []) (eqb-true b 50 g)))
    by false e false f false g h = absurd (true≢false (sym h))

descriptor_name : (w : List ℕ) → is_descriptor w ≡ true → IsDescriptorName w
descriptor_name w h = by (is_name w) refl h
  where
    by : (b : Bool) → is_name w ≡ b → (b || is_digit w) ≡ true → IsDescriptorName w
    by true e h = inl e
    by false e h = inr (digit_in w h)

below_three : (n : ℕ) → n < 3 → (n ≡ 0) ⊎ ((n ≡ 1) ⊎ (n ≡ 2))
below_three n l = by (nat_eq n 0) refl (nat_eq n 1) refl
  where
    by : (x : Bool) → nat_eq n 0 ≡ x → (y : Bool) → nat_eq n 1 ≡ y → (n ≡ 0) ⊎ ((n ≡ 1) ⊎ (n ≡ 2))
    by true e y f = inl (eqb-true n 0 e)
    by false e true f = inr (inl (eqb-true n 1 f))
    by false e false f = let two : n ≡ 2 = grind (arith, nat_tests) in inr (inr two)

other_text : (w v : List ℕ) → bytes_eq w v ≡ false → w ≡ v → ⊥
other_text w v e s = true≢false (sym ((bytes_eq-Decides w v).1 s) ∙ e)

no_digit : (w : List ℕ) → bytes_eq w (codes "0") ≡ false → bytes_eq w (codes "1") ≡ false → bytes_eq w (codes "2") ≡ false → (n : ℕ) → IsDigit w n → ⊥
no_digit w e f g n (l, is) = by (below_three n l)
  where
    by : (n ≡ 0) ⊎ ((n ≡ 1) ⊎ (n ≡ 2)) → ⊥
    by (inl z) = other_text w (codes "0") e (is ∙ ap (λ k. (48 + k) ∷ []) z)
    by (inr (inl z)) = other_text w (codes "1") f (is ∙ ap (λ k. (48 + k) ∷ []) z)
    by (inr (inr z)) = other_text w (codes "2") g (is ∙ ap (λ k. (48 + k) ∷ []) z)

number_of_name : (w : List ℕ) → IsNumberOf w (digit_of w)
number_of_name w = by (bytes_eq w (codes "0")) refl (bytes_eq w (codes "1")) refl (bytes_eq w (codes "2")) refl
  where
    by : (x : Bool) → bytes_eq w (codes "0") ≡ x → (y : Bool) → bytes_eq w (codes "1") ≡ y → (z : Bool) → bytes_eq w (codes "2") ≡ z
        → IsNumberOf w (cond x (Some 0) (cond y (Some 1) (cond z (Some 2) None)))
    by true e y f z g = (omega arith, same_text w (codes "0") e)
    by false e true f z g = (omega arith, same_text w (codes "1") f)
    by false e false f true g = (omega arith, same_text w (codes "2") g)
    by false e false f false g = no_digit w e f g

valid_descriptor : (format : ℕ) (d : Data) → IsNamed d → IsValidDescriptor (descriptor_in format d)
valid_descriptor format d h = record { name = descriptor_name (name_of d) h; number = number_of_name (name_of d); rights = rights_at_small format (get (codes "rights") d) }

pub valid_descriptors : (format : ℕ) (ds : Items) → EachItem IsNamed ds → All IsValidDescriptor (descriptors_in format ds)
valid_descriptors format no_items h = All-nil IsValidDescriptor
valid_descriptors format (item d ds) h =
    All-cons IsValidDescriptor (descriptor_in format d) (descriptors_in format ds) (valid_descriptor format d h.0) (valid_descriptors format ds h.1)

-- ---- names that don't stand twice

others : (names : List (List ℕ)) (w : List ℕ) → is_among names w ≡ false → All (λ v. v ≢ w) names
others [] w e = All-nil (λ v. v ≢ w)
others (n ∷ names) w e =
    let x = either_false (bytes_eq w n) (list_any (bytes_eq w) names) e in
    All-cons (λ v. v ≢ w) n names (λ s. other_text w n x.0 (sym s)) (others names w x.1)

one_more : (names : List (List ℕ)) (w : List ℕ) → IsDistinct names → is_among names w ≡ false → IsDistinct (names ++ w ∷ [])
one_more names w a e = all_pairs_push (λ v w. v ≢ w) names w a (others names w e)

pub not_twice : (seen : List (List ℕ)) (n : ℕ) (ws : List (List ℕ)) → repeated seen n ws ≡ None → IsDistinct seen → IsDistinct (seen ++ ws)
not_twice seen n [] e h = subst IsDistinct (sym (append-nil seen)) h
not_twice seen n (w ∷ ws) e h = by (not_twice (seen ++ w ∷ []) (suc n) ws) (is_among seen w) refl e
  where
    by : (repeated (seen ++ w ∷ []) (suc n) ws ≡ None → IsDistinct (seen ++ w ∷ []) → IsDistinct ((seen ++ w ∷ []) ++ ws))
        → (b : Bool) → is_among seen w ≡ b → cond b (Some n) (repeated (seen ++ w ∷ []) (suc n) ws) ≡ None → IsDistinct (seen ++ w ∷ ws)
    by more true f e = absurd (none-some _ (sym e))
    by more false f e = subst IsDistinct (append_assoc seen (w ∷ []) ws) (more e (one_more seen w h f))

-- ---- labels of the tables `at`

name_kept : (names : List (List ℕ)) (w : List ℕ) → AreNames names → is_name w ≡ true → AreNames (with_name names w)
name_kept names w a n = by (list_any (bytes_eq w) names)
  where
    by : (b : Bool) → AreNames (cond b names (names ++ w ∷ []))
    by true = a
    by false = All-push (λ w. IsTrue (is_name w)) names w a n

pub labels_named : (labels : List (List ℕ)) (ds : Items) → AreNames labels → EachItem IsLabelled ds → AreNames (labels_from labels ds)
labels_named labels no_items a h = a
labels_named labels (item d ds) a h = labels_named (with_name labels (label_in d)) ds (name_kept labels (label_in d) a h.0) h.1

pub labels_apart : (labels : List (List ℕ)) (ds : Items) → IsDistinct labels → IsDistinct (labels_from labels ds)
labels_apart labels no_items a = a
labels_apart labels (item d ds) a = labels_apart (with_name labels (label_in d)) ds (apart_kept labels (label_in d) a)

-- ---- limits

not_empty : (w : List ℕ) (names : List (List ℕ)) → is_among names w ≡ true → 0 < length names
not_empty w [] e = absurd (true≢false (sym e))
not_empty w (n ∷ names) e = omega arith

known_limit : (b : Bool) (x : Option PolicyFault) (f : PolicyFault) → cond b x (Some f) ≡ None → b ≡ true
known_limit true x f e = refl
known_limit false x f e = absurd (none-some _ (sym e))

limit_within : (format : ℕ) (names : List (List ℕ)) (i : ℕ) (d : Data) → limit_unknown format names i d ≡ None → IsLimitWithin (length names) (limit_in format names d)
limit_within format names i d e =
    let w = text_at (get (codes "descriptor") d) in
    let known : is_among names w ≡ true = known_limit (is_among names w) _ _ e in
    (number_below w names (not_empty w names known), rights_small format 0 (items_at (get (codes "keep") d)) (omega arith))

pub limits_within : (format : ℕ) (names : List (List ℕ)) (i : ℕ) (ds : Items) → first_in (limit_unknown format names) i ds ≡ None
    → All (IsLimitWithin (length names)) (limits_in format names ds)
limits_within format names i no_items e = All-nil (IsLimitWithin (length names))
limits_within format names i (item d ds) e =
    let (here, more) = both_none (limit_unknown format names i d) (first_in (limit_unknown format names) (suc i) ds) e in
    All-cons (IsLimitWithin (length names)) (limit_in format names d) (limits_in format names ds) (limit_within format names i d here) (limits_within format names (suc i) ds more)
