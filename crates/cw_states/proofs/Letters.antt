-- The letters of a policy, and their masks.
use Rattle.std.proofs.Common.{◌≡◌, ℕ, zero, suc, ◌<◌, ◌≤◌, List, [], ◌∷◌, Bool, true, false, map, length, nat_eq, refl, sym, ap, ap₂, ◌∙◌, subst, arith, eqb-true, ⊎_elim}
use Rattle.std.specs.Int.RustNames.{bit_and}
use Rattle.std.specs.List.{Contains}
use Rattle.std.specs.Ordering.{nat_cmp}
use Rattle.cw_fixpoint.specs.Closures.{Exactly, HasMore}
use Rattle.std.proofs.lemmas.Bool.Decides.{nat_tests}
use Rattle.std.proofs.lemmas.List.{get_or-map, length-map}
use Rattle.std.proofs.lemmas.List.Elements.{Contains-append_left, Contains-append_right, Contains-append_cases}
use Rattle.cw_rights.specs.declared.capabilities.Caps.{Caps}
use Rattle.cw_rights.specs.declared.words.Letter.{Letter}
use Rattle.cw_rights.specs.Policies.{PlainPolicy, PlainRule}
use Rattle.cw_dfa.specs.Positions.{bad_of}
use Rattle.cw_dfa.specs.States.{AreMasks, AreReached, Reached}
use Rattle.cw_dfa.specs.Tables.{matching, named, tested}
use Rattle.cw_dfa.proofs.Picked.{matching_both}
use Rattle.cw_game.specs.Games.{letter_of}
use Rattle.cw_states.specs.declared.fault.StatesFault.{StatesFault}
use Rattle.cw_states.specs.declared.fault.StatesFault.TheVariants.{TooManyCaps, TooManyWords, TooManyStates, NoMemory}
use Rattle.cw_states.specs.declared.uses.Uses.{Uses}
use Rattle.cw_states.specs.Kept.{IsManyWords}
use Rattle.cw_states.specs.Masks.{HaveSame, met}
use Rattle.cw_states.specs.Rights.{IsRightsState, caps_cmp}
use Rattle.cw_states.specs.States.{IsCause, letters_below, letters_of, label_count}
use Rattle.cw_states.specs.Tables.{tabled}
use Rattle.cw_lemmas.proofs.Lists.{contains_none, contains_one}
use Rattle.cw_states.proofs.Tabled.{tabled_length, tabled_at}
use Rattle.cw_lemmas.proofs.Lists.{contains_map as map_by, map_contains as map_from, head_in}

letter_in : (rights : List Caps) (c : Caps) (label : ℕ) → Contains rights c → Contains (map (letter_of label) rights) (letter_of label c)
letter_in rights c label (k, l, e) =
    let n = length-map rights (letter_of label) in
    (k, omega (arith, l, n), get_or-map (letter_of label) rights k c (letter_of label c) l ∙ ap (letter_of label) e)

pub letter_below : (rights : List Caps) (c : Caps) (label n : ℕ) → label < n → Contains rights c → Contains (letters_below n rights) (letter_of label c)
letter_below rights c label zero l h = absurd (omega arith)
letter_below rights c label (suc n) l h = by (nat_eq label n) refl (letter_below rights c label n)
  where
    by : (b : Bool) → nat_eq label n ≡ b → (label < n → Contains rights c → Contains (letters_below n rights) (letter_of label c))
        → Contains (letters_below (suc n) rights) (letter_of label c)
    by true e rec =
        Contains-append_right (letters_below n rights) (map (letter_of n) rights) (letter_of label c)
        (subst (λ m. Contains (map (letter_of m) rights) (letter_of label c)) (eqb-true label n e) (letter_in rights c label h))
    by false e rec =
        let below : label < n = grind (arith, nat_tests) in
        Contains-append_left (letters_below n rights) (map (letter_of n) rights) (letter_of label c) (rec below h)

-- the first values of a function
table_by : (f : ℕ → ℕ) (n i : ℕ) → i < n → Contains (tabled f n) (f i)
table_by f n i l = let m = tabled_length f n in (i, omega (arith, l, m), tabled_at f n i (f i) l)

table_from : (f : ℕ → ℕ) (n x : ℕ) → Contains (tabled f n) x → (i : ℕ) × (i < n) × (f i ≡ x)
table_from f n x (k, l, e) =
    let m = tabled_length f n in
    let below : k < n = omega (arith, l, m) in
    (k, below, sym (tabled_at f n k x below) ∙ e)

-- each of some sets with each of others
met_by : (xs ys : List ℕ) (a b : ℕ) → Contains xs a → Contains ys b → Contains (met xs ys) (bit_and a b)
met_by [] ys a b c d = absurd (contains_none a c)
met_by (x ∷ xs) ys a b c d = ⊎_elim (λ h. Contains-append_left (map (bit_and x) ys) (met xs ys) (bit_and a b)
    (subst (λ z. Contains (map (bit_and z) ys) (bit_and a b)) (sym (contains_one x a h)) (map_by (bit_and a) ys b d)))
    (λ h. Contains-append_right (map (bit_and x) ys) (met xs ys) (bit_and a b) (met_by xs ys a b h d)) (Contains-append_cases (x ∷ []) xs a c)

met_from : (xs ys : List ℕ) (m : ℕ) → Contains (met xs ys) m → (a : ℕ) × (b : ℕ) × Contains xs a × Contains ys b × (bit_and a b ≡ m)
met_from [] ys m c = absurd (contains_none m c)
met_from (x ∷ xs) ys m c = ⊎_elim (λ h. let r = map_from (bit_and x) ys m h in (x, r.0, head_in x xs, r.1, r.2))
    (λ h. let r = met_from xs ys m h in (r.0, r.1, Contains-append_right (x ∷ []) xs r.0 r.2, r.3, r.4))
    (Contains-append_cases (map (bit_and x) ys) (met xs ys) m c)

letter_from : (rights : List Caps) (n : ℕ) (c : Letter) → Contains (letters_below n rights) c → (label : ℕ) × (caps : Caps) × (label < n) × Contains rights caps
    × (letter_of label caps ≡ c)
letter_from rights zero c h = absurd (contains_none c h)
letter_from rights (suc n) c h = ⊎_elim (λ h. let r = letter_from rights n c h in let l = r.2 in (r.0, r.1, omega (arith, l), r.3, r.4))
    (λ h. let r = map_from (letter_of n) rights c h in (n, r.0, omega arith, r.1, r.2))
    (Contains-append_cases (letters_below n rights) (map (letter_of n) rights) c h)

abbrev mask_in : List PlainRule → Letter → ℕ
mask_in rules c = matching (bad_of rules) 1 c

-- the masks of the letters are what names a label met with the tests that hold of a rights state
pub are_masks : (rules : List PlainRule) (n : ℕ) (rights : List Caps) (names tests masks : List ℕ) → HaveSame names (tabled (named rules) n)
    → HaveSame tests (map (tested rules) rights) → masks ≡ met names tests → AreMasks rules (letters_below n rights) masks
are_masks rules n rights names tests masks f g e m = (λ h. there (subst (λ (l : List ℕ). Contains l m) e h), λ h. subst (λ (l : List ℕ). Contains l m) (sym e) (back h))
  where
    there : Contains (met names tests) m → Contains (map (mask_in rules) (letters_below n rights)) m
    there h =
        let r = met_from names tests m h in
        let a = table_from (named rules) n r.0 ((f r.0).0 r.2) in
        let b = map_from (tested rules) rights r.1 ((g r.1).0 r.3) in
        let is : mask_in rules (letter_of a.0 b.0) ≡ m = matching_both rules (letter_of a.0 b.0) ∙ ap₂ bit_and a.2 b.2 ∙ r.4 in
        subst (Contains (map (mask_in rules) (letters_below n rights))) is
        (map_by (mask_in rules) (letters_below n rights) (letter_of a.0 b.0) (letter_below rights b.0 a.0 n a.1 b.1))

    back : Contains (map (mask_in rules) (letters_below n rights)) m → Contains (met names tests) m
    back h =
        let r = map_from (mask_in rules) (letters_below n rights) m h in
        let c = letter_from rights n r.0 r.1 in
        let is : bit_and (named rules c.0) (tested rules c.1) ≡ m = sym (matching_both rules (letter_of c.0 c.1)) ∙ ap (mask_in rules) c.4 ∙ r.2 in
        subst (Contains (met names tests)) is (met_by names tests (named rules c.0) (tested rules c.1)
        ((f (named rules c.0)).1 (table_by (named rules) n c.0 c.2)) ((g (tested rules c.1)).1 (map_by (tested rules) rights c.1 c.3)))

-- the policy states over the letters of a policy, by their masks
module _ (policy : PlainPolicy) (uses : Uses) (own : List PlainRule) (rights seen : List Caps) (n : ℕ) (masks shown : List ℕ) (same_rules : own ≡ policy.rules)
    (same_rights : seen ≡ rights) (same_count : n ≡ label_count policy uses) (same_masks : shown ≡ masks) (are : AreMasks own (letters_below n seen) masks) where
  here : AreMasks own (letters_of policy uses rights) shown
  here = subst (AreMasks own (letters_of policy uses rights)) (sym same_masks)
      (subst (λ (l : List Letter). AreMasks own l masks) (ap₂ letters_below same_count same_rights) are)

  pub sets_reached : (sets : List ℕ) → AreReached own shown sets → Exactly nat_cmp (Reached policy.rules (letters_of policy uses rights)) sets
  sets_reached sets h =
      subst (λ (r : List PlainRule). Exactly nat_cmp (Reached r (letters_of policy uses rights)) sets) same_rules (h (letters_of policy uses rights) here)

  pub many_cause : Exactly caps_cmp (IsRightsState policy uses) rights → length rights ≤ 128 → (fault : StatesFault) → IsManyWords own shown fault → IsCause policy uses fault
  many_cause all few NoMemory h = tt
  many_cause all few TooManyWords h = (
    rights,
    all,
    few,
    subst (λ (r : List PlainRule). HasMore nat_cmp (Reached r (letters_of policy uses rights)) 64) same_rules
        (h (letters_of policy uses rights) here),
  )
  many_cause all few TooManyCaps h = absurd h
  many_cause all few TooManyStates h = absurd h
