-- Numbers that are found one after the other.
use Rattle.std.proofs.Common.{◌≡◌, ◌≢◌, ◌<◌, ◌≤◌, ℕ, zero, suc, List, [], ◌∷◌, ◌++◌, Bool, true, false, cond, not, ◌||◌, ◌&&◌, nat_eq, eqb-true, eq-eqb, length, get_or, set, replicate, nat_lt, refl, sym, ap, ap₂, ◌∙◌, subst, append_assoc}
use Rattle.std.specs.Prelude.{Result, Ok, Err}
use Rattle.std.specs.Result.{IfOk}
use Rattle.std.specs.List.{filter, Contains, IsDistinct}
use Rattle.std.proofs.lemmas.List.{append-nil, get_or-set_same, get_or-set_other, get_or_past, length-set}
use Rattle.std.proofs.lemmas.Bool.{ltb-true, ltb-false}
use Rattle.std.proofs.lemmas.List.Folds.{list_any-append, list_any_at}
use Rattle.std.proofs.lemmas.Map.Views.{Contains-from_any, list_any-from_Contains}
use Rattle.std.proofs.lemmas.Map.Keys.{IsDistinct-push}
use Rattle.std.proofs.lemmas.Cmp.{nat_eq_equiv}
use Rattle.cw_callgraph.specs.declared.found.Found.{Found}
use Rattle.cw_callgraph.specs.Finding.{has, with_one, with_all, IsFound, Finds, AreBelow}
use Rattle.cw_callgraph.specs.Effects.{firsts}
use Rattle.cw_lemmas.proofs.Truths.{and_false, and_true, or_false}
use Rattle.std.proofs.lemmas.Bool.{or_right}

or_assoc : (a b c : Bool) → ((a || b) || c) ≡ (a || (b || c))
or_assoc true b c = refl
or_assoc false b c = refl

-- between tests and membership
pub contained : (xs : List ℕ) (g : ℕ) → has xs g ≡ true → Contains xs g
contained xs g e = Contains-from_any {eq = nat_eq} eqb-true g xs e

pub had : (xs : List ℕ) (g : ℕ) → Contains xs g → has xs g ≡ true
had xs g c = list_any-from_Contains nat_eq_equiv g xs c

-- what is found with one number more
pub has_one : (found : List ℕ) (g q : ℕ) → has (with_one found g) q ≡ (has found q || nat_eq q g)
has_one found g q = by (has found g) refl
  where
    there : (b : Bool) → nat_eq q g ≡ b → has found g ≡ true → has found q ≡ (has found q || b)
    there false e h = sym (or_false (has found q))
    there true e h =
        let z : q ≡ g = eqb-true q g e in
        let y : has found q ≡ true = subst (λ n. has found n ≡ true) (sym z) h in
        y ∙ sym (ap (λ b. b || true) y)

    by : (b : Bool) → has found g ≡ b → has (cond b found (found ++ g ∷ [])) q ≡ (has found q || nat_eq q g)
    by true e = there (nat_eq q g) refl e
    by false e = list_any-append (nat_eq q) found (g ∷ []) ∙ ap (λ b. has found q || b) (or_false (nat_eq q g))

pub has_all : (found gs : List ℕ) (q : ℕ) → has (with_all found gs) q ≡ (has found q || has gs q)
has_all found [] q = sym (or_false (has found q))
has_all found (g ∷ gs) q =
    has_all (with_one found g) gs q
    ∙ ap (λ b. b || has gs q) (has_one found g q)
    ∙ or_assoc (has found q) (nat_eq q g) (has gs q)

-- what was found stays, in its place
one_more : (found : List ℕ) (g : ℕ) → (more : List ℕ) × (with_one found g ≡ found ++ more)
one_more found g = by (has found g) refl
  where
    by : (b : Bool) → has found g ≡ b → (more : List ℕ) × (cond b found (found ++ g ∷ []) ≡ found ++ more)
    by true e = ([], sym (append-nil found))
    by false e = (g ∷ [], refl)

pub all_more : (found gs : List ℕ) → (more : List ℕ) × (with_all found gs ≡ found ++ more)
all_more found [] = ([], sym (append-nil found))
all_more found (g ∷ gs) =
    let h = all_more (with_one found g) gs in
    let k = one_more found g in
    (k.0 ++ h.0, h.1 ∙ ap (λ l. l ++ h.0) k.1 ∙ append_assoc found k.0 h.0)

pub with_both : (found xs ys : List ℕ) → with_all found (xs ++ ys) ≡ with_all (with_all found xs) ys
with_both found [] ys = refl
with_both found (x ∷ xs) ys = with_both (with_one found x) xs ys

-- found from nothing on, each number stands once, in the order of first occurrences
abbrev pub outside : List ℕ → ℕ → Bool
outside found g = not (has found g)

both_filters : (p q r : ℕ → Bool) (xs : List ℕ) → ((x : ℕ) → r x ≡ (p x && q x)) → filter p (filter q xs) ≡ filter r xs
both_filters p q r [] h = refl
both_filters p q r (x ∷ xs) h = by (p x) refl (q x) refl (both_filters p q r xs h)
  where
    by : (a : Bool) → p x ≡ a → (b : Bool) → q x ≡ b → filter p (filter q xs) ≡ filter r xs → filter p (filter q (x ∷ xs)) ≡ filter r (x ∷ xs)
    by true e true f k = let z : r x ≡ true = h x ∙ ap₂ (λ a b. a && b) e f in rw f (rw e (rw z (ap (λ l. x ∷ l) k)))
    by false e true f k = let z : r x ≡ false = h x ∙ ap₂ (λ a b. a && b) e f in rw f (rw e (rw z k))
    by true e false f k = let z : r x ≡ false = h x ∙ ap₂ (λ a b. a && b) e f in rw f (rw z k)
    by false e false f k = let z : r x ≡ false = h x ∙ ap₂ (λ a b. a && b) e f in rw f (rw z k)

-- of what is outside, the number itself
same_outside : (found : List ℕ) (g q : ℕ) → has found g ≡ true → outside found q ≡ (outside found q && not (nat_eq g q))
same_outside found g q h = by (nat_eq g q) refl
  where
    by : (b : Bool) → nat_eq g q ≡ b → outside found q ≡ (outside found q && not b)
    by true e =
        let z : g ≡ q = eqb-true g q e in
        let y : outside found q ≡ false = ap not (subst (λ n. has found n ≡ true) z h) in
        y ∙ sym (and_false (outside found q))
    by false e = sym (and_true (outside found q))

less_outside : (found : List ℕ) (g q : ℕ) → outside (found ++ g ∷ []) q ≡ (outside found q && not (nat_eq g q))
less_outside found g q = ap not (list_any-append (nat_eq q) found (g ∷ [])) ∙ by (nat_eq g q) refl
  where
    by : (b : Bool) → nat_eq g q ≡ b → not (has found q || (nat_eq q g || false)) ≡ (outside found q && not b)
    by true e =
        let z : g ≡ q = eqb-true g q e in
        let y : nat_eq q g ≡ true = eq-eqb q g (sym z) in
        ap not (or_right (has found q) (nat_eq q g || false) (ap (λ b. b || false) y)) ∙ sym (and_false (outside found q))
    by false e =
        let y : nat_eq q g ≡ false = turned (nat_eq q g) refl in
        ap (λ b. not (has found q || (b || false))) y ∙ ap not (or_false (has found q)) ∙ sym (and_true (outside found q))
      where
        turned : (b : Bool) → nat_eq q g ≡ b → nat_eq q g ≡ false
        turned true k = let z : nat_eq g q ≡ true = eq-eqb g q (sym (eqb-true q g k)) in let y : false ≡ true = sym e ∙ z in absurd (cc)
        turned false k = k

pub firsts_are : (found gs : List ℕ) → with_all found gs ≡ found ++ filter (outside found) (firsts gs)
firsts_are found [] = sym (append-nil found)
firsts_are found (g ∷ gs) = by (has found g) refl (firsts_are found gs) (firsts_are (found ++ g ∷ []) gs)
  where
    by : (b : Bool) → has found g ≡ b → with_all found gs ≡ found ++ filter (outside found) (firsts gs) → with_all (found ++ g ∷ []) gs ≡ (found ++ g ∷ []) ++ filter (outside (found ++ g ∷ [])) (firsts gs) → with_all (cond b found (found ++ g ∷ [])) gs ≡ found ++ cond (outside found g) (g ∷ filter (outside found) (filter (λ q. not (nat_eq g q)) (firsts gs))) (filter (outside found) (filter (λ q. not (nat_eq g q)) (firsts gs)))
    by true e h k =
        h
        ∙ ap (λ l. found ++ l) (sym (both_filters (outside found) (λ q. not (nat_eq g q)) (outside found) (firsts gs) (λ q. same_outside found g q e)))
        ∙ sym (ap (λ b. found ++ cond (not b) (g ∷ filter (outside found) (filter (λ q. not (nat_eq g q)) (firsts gs))) (filter (outside found) (filter (λ q. not (nat_eq g q)) (firsts gs)))) e)
    by false e h k =
        k
        ∙ append_assoc found (g ∷ []) (filter (outside (found ++ g ∷ [])) (firsts gs))
        ∙ ap (λ l. found ++ (g ∷ l)) (sym (both_filters (outside found) (λ q. not (nat_eq g q)) (outside (found ++ g ∷ [])) (firsts gs) (λ q. less_outside found g q)))
        ∙ sym (ap (λ b. found ++ cond (not b) (g ∷ filter (outside found) (filter (λ q. not (nat_eq g q)) (firsts gs))) (filter (outside found) (filter (λ q. not (nat_eq g q)) (firsts gs)))) e)

all_outside : (gs : List ℕ) → filter (outside []) gs ≡ gs
all_outside [] = refl
all_outside (g ∷ gs) = ap (λ l. g ∷ l) (all_outside gs)

-- from nothing on
pub firsts_from : (gs : List ℕ) → with_all [] gs ≡ firsts gs
firsts_from gs = firsts_are [] gs ∙ all_outside (firsts gs)

-- one number is found that was not
pub newly : (before after : Found) (n : ℕ) → n < length before.flags.items → IsFound before → get_or before.flags.items n false ≡ false → after.flags.items ≡ set before.flags.items n true → after.numbers.items ≡ before.numbers.items ++ n ∷ [] → Finds (n ∷ []) before after
newly before after n l s free e f = record {
  numbers = f ∙ sym (ap (λ b. cond b before.numbers.items (before.numbers.items ++ n ∷ [])) absent);
  sound = record { flagged = λ g. ap (λ ms. get_or ms g false) e ∙ at (nat_eq g n) g refl ∙ sym (ap (λ ns. has ns g) f); apart = subst (IsDistinct nat_eq) (sym f) (IsDistinct-push nat_eq_equiv before.numbers.items n s.apart absent) };
  wide = ap length e ∙ length-set before.flags.items n true;
}
  where
    absent : has before.numbers.items n ≡ false
    absent = sym (s.flagged n) ∙ free

    at : (b : Bool) (g : ℕ) → nat_eq g n ≡ b → get_or (set before.flags.items n true) g false ≡ has (before.numbers.items ++ n ∷ []) g
    at true g q =
        let z : g ≡ n = eqb-true g n q in
        ap (λ k. get_or (set before.flags.items n true) k false) z
        ∙ get_or-set_same before.flags.items n true false l
        ∙ sym (list_any-append (nat_eq g) before.numbers.items (n ∷ []) ∙ or_right (has before.numbers.items g) (nat_eq g n || false) (ap (λ b. b || false) q))
    at false g q =
        let z : g ≢ n = λ e. let k : nat_eq g n ≡ true = eq-eqb g n e in let y : false ≡ true = sym q ∙ k in absurd (cc) in
        get_or-set_other before.flags.items n g true false z
        ∙ s.flagged g
        ∙ sym (list_any-append (nat_eq g) before.numbers.items (n ∷ []) ∙ ap (λ b. has before.numbers.items g || (b || false)) q ∙ or_false (has before.numbers.items g))

none_apart : IsDistinct nat_eq []
unfolding IsDistinct
none_apart = tt

-- before any number is found
pub nothing_found : (n : ℕ) (found : Found) → found.numbers.items ≡ [] → found.flags.items ≡ replicate n false → IsFound found
nothing_found n found e f = record {
  flagged = λ g. ap (λ ms. get_or ms g false) f ∙ unmarked n g ∙ sym (ap (λ ns. has ns g) e);
  apart = subst (IsDistinct nat_eq) (sym e) none_apart;
}
  where
    unmarked : (n g : ℕ) → get_or (replicate n false) g false ≡ false
    unmarked zero g = refl
    unmarked (suc n) zero = refl
    unmarked (suc n) (suc g) = unmarked n g

pub still : {T E : Type 0} (r : Result T E) (P Q : T → Type 0) → IfOk r P → ((x : T) → P x → Q x) → IfOk r Q
still (Ok x) P Q p f = f x p
still (Err e) P Q p f = tt

pub finds_both : (xs ys : List ℕ) (a b c : Found) → Finds xs a b → Finds ys b c → Finds (xs ++ ys) a c
finds_both xs ys a b c f g = record {
  numbers = g.numbers ∙ ap (λ l. with_all l ys) f.numbers ∙ sym (with_both a.numbers.items xs ys);
  sound = g.sound;
  wide = g.wide ∙ f.wide;
}

pub below_at : (n : ℕ) (xs : List ℕ) (i x : ℕ) → AreBelow n xs → i < length xs → x ≡ get_or xs i x → x < n
below_at n xs i x b l e = b x (list_any_at (nat_eq x) xs i x l (eq-eqb x (get_or xs i x) e))

-- what is found is below the number of the flags
pub found_below : (found : Found) → IsFound found → AreBelow (length found.flags.items) found.numbers.items
found_below found s g h = by (nat_lt g (length found.flags.items)) refl
  where
    by : (b : Bool) → nat_lt g (length found.flags.items) ≡ b → g < length found.flags.items
    by true e = ltb-true g (length found.flags.items) e
    by false e =
        let k : length found.flags.items ≤ g = ltb-false g (length found.flags.items) e in
        let z : get_or found.flags.items g false ≡ false = get_or_past found.flags.items g false k in
        let y : false ≡ true = sym z ∙ s.flagged g ∙ h in
        absurd (cc)
