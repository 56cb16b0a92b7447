-- What waits under the two keys that are used most, apart from what waits later.
use Rattle.std.proofs.Common.{◌≡◌, ℕ, zero, suc, ◌+◌, ◌<◌, ◌≤◌, List, [], ◌∷◌, ◌++◌, true, false, length, get_or, drop, reverse, refl, sym, ap, ◌∙◌, subst, arith, append_assoc, inl, inr}
use Rattle.std.specs.Prelude.{◌⊎◌, ◌==◌, Bool, Option, Some, None, IfSome, IfNone}
use Rattle.std.proofs.lemmas.Bool.{cases_eq, cases_lt, eq-eqb, eqb-true, false≢true}
use Rattle.std.proofs.lemmas.List.{length-append, drop_more, reverse-append}
use Rattle.cw_links.specs.Lists.{list_at}
use Rattle.cw_links.specs.Queues.{AreAlike, AreNone, Puts, Takes}
use Rattle.cw_links.specs.declared.nearest.Near.{Near}
use Rattle.cw_links.specs.Nearest.{with_stack, all_stacks, AreNear, Advances, IsSameNear}

-- an element more at the end of a vector is the first of its stack
stack_more : (xs : List ℕ) (x : ℕ) → reverse (xs ++ x ∷ []) ≡ x ∷ reverse xs
stack_more xs x = rw (reverse-append xs (x ∷ [])) refl

stack_none : (xs : List ℕ) → length xs ≡ 0 → reverse xs ≡ []
stack_none [] e = refl
stack_none (x ∷ xs) e = absurd (omega (arith, e))

-- what waits under the key, and under another one
with_here : (ls : List (List ℕ)) (k : ℕ) (xs : List ℕ) → list_at (with_stack ls k xs) k ≡ xs ++ list_at ls k
with_here [] zero xs = refl
with_here [] (suc k) xs = with_here [] k xs
with_here (ys ∷ ls) zero xs = refl
with_here (ys ∷ ls) (suc k) xs = with_here ls k xs

with_other : (ls : List (List ℕ)) (k : ℕ) (xs : List ℕ) (j : ℕ) → (j ≡ k → ⊥) → list_at (with_stack ls k xs) j ≡ list_at ls j
with_other [] zero xs zero ne = absurd (ne refl)
with_other [] zero xs (suc j) ne = refl
with_other [] (suc k) xs zero ne = refl
with_other [] (suc k) xs (suc j) ne = with_other [] k xs j (λ e. ne (ap suc e))
with_other (ys ∷ ls) zero xs zero ne = absurd (ne refl)
with_other (ys ∷ ls) zero xs (suc j) ne = refl
with_other (ys ∷ ls) (suc k) xs zero ne = refl
with_other (ys ∷ ls) (suc k) xs (suc j) ne = with_other ls k xs j (λ e. ne (ap suc e))

-- the same stands behind the same
with_same : (ls ms : List (List ℕ)) (k : ℕ) (xs : List ℕ) (j : ℕ) → list_at ls j ≡ list_at ms j → list_at (with_stack ls k xs) j ≡ list_at (with_stack ms k xs) j
with_same ls ms k xs j e =
    elim (cases_eq j k) [
      | inl here ↦
          let at : list_at ls k ≡ list_at ms k = subst (λ (y : ℕ). list_at ls y ≡ list_at ms y) here e in
          subst (λ (y : ℕ). list_at (with_stack ls k xs) y ≡ list_at (with_stack ms k xs) y) (sym here)
          (with_here ls k xs ∙ ap (λ (ys : List ℕ). xs ++ ys) at ∙ sym (with_here ms k xs))
      | inr ne ↦ with_other ls k xs j ne ∙ e ∙ sym (with_other ms k xs j ne)
    ]

-- where nothing stands apart under this key
pub passed : (ls : List (List ℕ)) (k : ℕ) (xs : List ℕ) (j : ℕ) → (length xs ≡ 0) ⊎ (j ≡ k → ⊥) → list_at (with_stack ls k (reverse xs)) j ≡ list_at ls j
passed ls k xs j (inr ne) = with_other ls k (reverse xs) j ne
passed ls k xs j (inl none) =
    elim (cases_eq j k) [
      | inr ne ↦ with_other ls k (reverse xs) j ne
      | inl here ↦
          subst (λ (y : ℕ). list_at (with_stack ls k (reverse xs)) y ≡ list_at ls y) (sym here)
          (with_here ls k (reverse xs) ∙ ap (λ (ys : List ℕ). ys ++ list_at ls k) (stack_none xs none))
    ]

-- an element more apart
front_more : (ls : List (List ℕ)) (k : ℕ) (xs : List ℕ) (x : ℕ) → list_at (with_stack ls k (reverse (xs ++ x ∷ []))) k ≡ x ∷ list_at (with_stack ls k (reverse xs)) k
front_more ls k xs x =
    with_here ls k (reverse (xs ++ x ∷ [])) ∙ ap (λ (ys : List ℕ). ys ++ list_at ls k) (stack_more xs x) ∙ ap (λ (ys : List ℕ). x ∷ ys) (sym (with_here ls k (reverse xs)))

-- the stacks of three parts
abbrev pub three : (now : List ℕ) (now_key : ℕ) (soon : List ℕ) (soon_key : ℕ) → List (List ℕ) → List (List ℕ)
three now now_key soon soon_key later = with_stack (with_stack later now_key (reverse now)) soon_key (reverse soon)

module _ (now : List ℕ) (now_key : ℕ) (soon : List ℕ) (soon_key : ℕ) (later : List (List ℕ)) (behind : 0 < length soon → now_key < soon_key) where
  -- what waits soon doesn't wait now
  unlike : (j : ℕ) → j ≤ now_key → (length soon ≡ 0) ⊎ (j ≡ soon_key → ⊥)
  unlike j le =
      elim (cases_lt 0 (length soon)) [
        | inl some ↦ let lt = behind some in inr (λ e. omega (arith, e, lt, le))
        | inr none ↦ inl (omega (arith, none))
      ]

  pub puts_now : (element : ℕ) → Puts (three now now_key soon soon_key later) (three (now ++ element ∷ []) now_key soon soon_key later) element now_key
  puts_now element =
      let out = unlike now_key (omega arith) in
      let inner = λ (xs : List ℕ). with_stack later now_key (reverse xs) in
      record {
        here = passed (inner (now ++ element ∷ [])) soon_key soon now_key out ∙ front_more later now_key now element
            ∙ ap (λ (ys : List ℕ). element ∷ ys) (sym (passed (inner now) soon_key soon now_key out));
        others = λ k ne. with_same (inner (now ++ element ∷ [])) (inner now) soon_key (reverse soon) k
            (with_other later now_key (reverse (now ++ element ∷ [])) k ne ∙ sym (with_other later now_key (reverse now) k ne));
      }

  pub puts_soon : (element : ℕ) → Puts (three now now_key soon soon_key later) (three now now_key (soon ++ element ∷ []) soon_key later) element soon_key
  puts_soon element =
      let inner = with_stack later now_key (reverse now) in
      record {
        here = front_more inner soon_key soon element;
        others = λ k ne. with_other inner soon_key (reverse (soon ++ element ∷ [])) k ne ∙ sym (with_other inner soon_key (reverse soon) k ne);
      }

  -- .. where nothing else does yet
  pub puts_next : (element key : ℕ) → length soon ≡ 0 → Puts (three now now_key soon soon_key later) (three now now_key (soon ++ element ∷ []) key later) element key
  puts_next element key none =
      let inner = with_stack later now_key (reverse now) in
      record {
        here = front_more inner key soon element ∙ ap (λ (ys : List ℕ). element ∷ ys) (passed inner key soon key (inl none) ∙ sym (passed inner soon_key soon key (inl none)));
        others = λ k ne. with_other inner key (reverse (soon ++ element ∷ [])) k ne ∙ sym (passed inner soon_key soon k (inl none));
      }

  -- now, where nothing else waits now or soon
  pub puts_first : (element key : ℕ) → length now ≡ 0 → length soon ≡ 0 → Puts (three now now_key soon soon_key later) (three (now ++ element ∷ []) key soon soon_key later) element key
  puts_first element key not_now not_soon =
      let old = with_stack later now_key (reverse now) in
      let new = with_stack later key (reverse (now ++ element ∷ [])) in
      let before : (k : ℕ) → list_at (three now now_key soon soon_key later) k ≡ list_at later k = λ k. passed old soon_key soon k (inl not_soon) ∙ passed later now_key now k (inl not_now) in
      record {
        here = passed new soon_key soon key (inl not_soon) ∙ front_more later key now element ∙ ap (λ (ys : List ℕ). element ∷ ys) (passed later key now key (inl not_now) ∙ sym (before key));
        others = λ k ne. passed new soon_key soon k (inl not_soon) ∙ with_other later key (reverse (now ++ element ∷ [])) k ne ∙ sym (before k);
      }

  pub puts_later : (more : List (List ℕ)) (element key : ℕ) → (length now ≡ 0) ⊎ (key ≡ now_key → ⊥) → (length soon ≡ 0) ⊎ (key ≡ soon_key → ⊥) → Puts later more element key
      → Puts (three now now_key soon soon_key later) (three now now_key soon soon_key more) element key
  puts_later more element key not_now not_soon p =
      let inner = λ (ls : List (List ℕ)). with_stack ls now_key (reverse now) in
      let under = λ (ls : List (List ℕ)). passed (inner ls) soon_key soon key not_soon ∙ passed ls now_key now key not_now in
      record {
        here = under more ∙ p.here ∙ ap (λ (ys : List ℕ). element ∷ ys) (sym (under later));
        others = λ k ne. with_same (inner more) (inner later) soon_key (reverse soon) k (with_same more later now_key (reverse now) k (p.others k ne));
      }

  -- what is below a key stands nowhere
  none_below : (key j : ℕ) → j < key → (length now ≡ 0) ⊎ (key ≤ now_key) → (length now ≡ 0 → length soon ≡ 0) → list_at later j ≡ [] → list_at (three now now_key soon soon_key later) j ≡ []
  none_below key j lt ahead alone none =
      let not_now : (length now ≡ 0) ⊎ (j ≡ now_key → ⊥) = elim ahead [ inl e ↦ inl e | inr le ↦ inr (λ e. omega (arith, e, le, lt)) ] in
      let not_soon : (length soon ≡ 0) ⊎ (j ≡ soon_key → ⊥) = elim ahead [ inl e ↦ inl (alone e) | inr le ↦ unlike j (omega (arith, le, lt)) ] in
      passed (with_stack later now_key (reverse now)) soon_key soon j not_soon ∙ passed later now_key now j not_now ∙ none

-- The last element that waits now is taken.
pub takes_now : (now : List ℕ) (now_key : ℕ) (soon : List ℕ) (soon_key : ℕ) (later : List (List ℕ)) (rest : List ℕ) (element : ℕ) → (0 < length soon → now_key < soon_key)
    → now ≡ rest ++ element ∷ [] → 0 < now_key → ((k : ℕ) → k < now_key → list_at later k ≡ [])
    → Takes (three now now_key soon soon_key later) (three rest now_key soon soon_key later) element now_key
takes_now now now_key soon soon_key later rest element behind e some none = record {
  some = some;
  least = λ k lt. none_below now now_key soon soon_key later behind now_key k lt (inr (omega arith)) (λ z. absurd (no_more z)) (none k lt);
  undone = subst (λ (xs : List ℕ). Puts (three rest now_key soon soon_key later) (three xs now_key soon soon_key later) element now_key) (sym e)
      (puts_now rest now_key soon soon_key later behind element);
}
  where
    no_more : length now ≡ 0 → ⊥
    no_more z = let h = ap (λ (xs : List ℕ). length xs) e in omega (arith, h, length-append rest (element ∷ []), z)

-- What waits later is taken, where what waits now has no lower key.
pub takes_later : (now : List ℕ) (now_key : ℕ) (soon : List ℕ) (soon_key : ℕ) (later less : List (List ℕ)) (element key : ℕ) → (0 < length soon → now_key < soon_key)
    → (length now ≡ 0 → length soon ≡ 0) → (length now ≡ 0) ⊎ ((k : ℕ) × (k < now_key) × (list_at later k ≡ [] → ⊥)) → Takes later less element key
    → Takes (three now now_key soon soon_key later) (three now now_key soon soon_key less) element key
takes_later now now_key soon soon_key later less element key behind alone lower_or_none t =
    let ahead : (length now ≡ 0) ⊎ (key < now_key) = elim lower_or_none [
      | inl e ↦ inl e
      | inr lower ↦ elim (cases_lt lower.0 key) [
        | inl lt ↦ absurd (lower.2 (t.least lower.0 lt))
        | inr ge ↦ let lt = lower.1 in inr (omega (arith, ge, lt))
      ]
    ] in
    let not_now : (length now ≡ 0) ⊎ (key ≡ now_key → ⊥) = elim ahead [ inl e ↦ inl e | inr lt ↦ inr (λ e. omega (arith, e, lt)) ] in
    let not_soon : (length soon ≡ 0) ⊎ (key ≡ soon_key → ⊥) = elim ahead [ inl e ↦ inl (alone e) | inr lt ↦ unlike now now_key soon soon_key later behind key (omega (arith, lt)) ] in
    record {
      some = t.some;
      least = λ k lt. none_below now now_key soon soon_key later behind key k lt (elim ahead [ inl e ↦ inl e | inr less ↦ inr (omega (arith, less)) ]) alone (t.least k lt);
      undone = puts_later now now_key soon soon_key less behind later element key not_now not_soon t.undone;
    }

-- What waits soon waits now, where nothing else does.
pub advanced : (now : List ℕ) (now_key : ℕ) (soon : List ℕ) (soon_key : ℕ) (later : List (List ℕ)) (j : ℕ) → length now ≡ 0
    → list_at (three soon soon_key now soon_key later) j ≡ list_at (three now now_key soon soon_key later) j
advanced now now_key soon soon_key later j none =
    passed (with_stack later soon_key (reverse soon)) soon_key now j (inl none)
    ∙ with_same later (with_stack later now_key (reverse now)) soon_key (reverse soon) j (sym (passed later now_key now j (inl none)))

-- What stood apart waits later.

-- one more of a vector's elements, in their order
pub one_aside : (xs : List ℕ) (i key : ℕ) (mid new : List (List ℕ)) → i < length xs → Puts mid new (get_or xs i 0) key
    → reverse (drop (i + 1) xs) ++ list_at new key ≡ reverse (drop i xs) ++ list_at mid key
one_aside xs i key mid new lt p =
    let x = get_or xs i 0 in
    let rest = drop (i + 1) xs in
    let first : reverse (drop i xs) ≡ reverse rest ++ x ∷ [] = ap (λ (ys : List ℕ). reverse ys) (drop_more xs i 0 lt) ∙ reverse-append (x ∷ []) rest in
    ap (λ (ys : List ℕ). reverse rest ++ ys) p.here ∙ sym (append_assoc (reverse rest) (x ∷ []) (list_at mid key)) ∙ ap (λ (ys : List ℕ). ys ++ list_at mid key) (sym first)

aside_at : (ls ms : List (List ℕ)) (k : ℕ) (xs ys : List ℕ) → ys ++ list_at ms k ≡ xs ++ list_at ls k → ((j : ℕ) → (j ≡ k → ⊥) → list_at ms j ≡ list_at ls j)
    → AreAlike (with_stack ls k xs) (with_stack ms k ys)
aside_at ls ms k xs ys here others j =
    elim (cases_eq j k) [
      | inl e ↦ subst (λ (y : ℕ). list_at (with_stack ms k ys) y ≡ list_at (with_stack ls k xs) y) (sym e) (with_here ms k ys ∙ here ∙ sym (with_here ls k xs))
      | inr ne ↦ with_other ms k ys j ne ∙ others j ne ∙ sym (with_other ls k xs j ne)
    ]

module _ (now left : List ℕ) (now_key : ℕ) (soon : List ℕ) (soon_key : ℕ) (later more : List (List ℕ)) (here : reverse left ++ list_at more now_key ≡ reverse now ++ list_at later now_key)
    (others : (j : ℕ) → (j ≡ now_key → ⊥) → list_at more j ≡ list_at later j) where
  -- what waits now
  pub now_aside : AreAlike (three now now_key soon soon_key later) (three left now_key soon soon_key more)
  now_aside j =
      with_same (with_stack more now_key (reverse left)) (with_stack later now_key (reverse now)) soon_key (reverse soon) j
      (aside_at later more now_key (reverse now) (reverse left) here others j)

  -- .. after it what waits soon
  module _ (gone : length left ≡ 0) (rest : List ℕ) (most : List (List ℕ)) (here_too : reverse rest ++ list_at most soon_key ≡ reverse soon ++ list_at more soon_key)
      (others_too : (j : ℕ) → (j ≡ soon_key → ⊥) → list_at most j ≡ list_at more j) where
    pub soon_aside : AreAlike (three now now_key soon soon_key later) (three left now_key rest soon_key most)
    soon_aside j =
        let under : AreAlike more (with_stack more now_key (reverse left)) = λ i. passed more now_key left i (inl gone) in
        let above : AreAlike most (with_stack most now_key (reverse left)) = λ i. passed most now_key left i (inl gone) in
        aside_at (with_stack more now_key (reverse left)) (with_stack most now_key (reverse left)) soon_key (reverse soon) (reverse rest)
        (ap (λ (ys : List ℕ). reverse rest ++ ys) (above soon_key) ∙ here_too ∙ ap (λ (ys : List ℕ). reverse soon ++ ys) (sym (under soon_key)))
        (λ i ne. above i ∙ others_too i ne ∙ sym (under i)) j
        ∙ now_aside j

    -- .. when any key may be that of what waits now
    pub all_aside : (key : ℕ) → AreAlike (three now now_key soon soon_key later) (three left key rest soon_key most)
    all_aside key j =
        with_same (with_stack most key (reverse left)) (with_stack most now_key (reverse left)) soon_key (reverse rest) j
        (passed most key left j (inl gone) ∙ sym (passed most now_key left j (inl gone)))
        ∙ soon_aside j

-- the same stacks take the same put
pub puts_same : (old mid new : List (List ℕ)) (element key : ℕ) → AreAlike old mid → Puts mid new element key → Puts old new element key
puts_same old mid new element key same p = record { here = p.here ∙ ap (λ (ys : List ℕ). element ∷ ys) (same key); others = λ k ne. p.others k ne ∙ same k }

-- the same stacks give the same take
pub takes_same : (old mid new : List (List ℕ)) (element key : ℕ) → ((k : ℕ) → list_at mid k ≡ list_at old k) → Takes mid new element key → Takes old new element key
takes_same old mid new element key same t = record {
  some = t.some;
  least = λ k lt. sym (same k) ∙ t.least k lt;
  undone = record { here = sym (same key) ∙ t.undone.here; others = λ k ne. sym (same k) ∙ t.undone.others k ne };
}

-- something waited, where something is taken
pub taken_some : (old new : List (List ℕ)) (element key : ℕ) → Takes old new element key → AreNone old → ⊥
taken_some old new element key t none =
    let e : suc (length (list_at new key)) ≡ 0 = ap (λ (w : List ℕ). length w) (sym t.undone.here ∙ none key) in
    omega (arith, e)

-- nothing waits where nothing waits now, soon or later
pub none_waits : (now : List ℕ) (now_key : ℕ) (soon : List ℕ) (soon_key : ℕ) (later : List (List ℕ)) → length now ≡ 0 → length soon ≡ 0 → AreNone later
    → AreNone (three now now_key soon soon_key later)
none_waits now now_key soon soon_key later not_now not_soon none j = passed (with_stack later now_key (reverse now)) soon_key soon j (inl not_soon) ∙ passed later now_key now j (inl not_now) ∙ none j

-- what is said of a value that is there, and of none
pub some_still : {X : Type 0} {P Q : X → Type 0} (o : Option X) → ((x : X) → P x → Q x) → IfSome o P → IfSome o Q
some_still None f h = tt
some_still (Some x) f h = f x h

pub none_still : {X : Type 0} {P Q : Type 0} (o : Option X) → (P → Q) → IfNone o P → IfNone o Q
none_still None f h = f h
none_still (Some x) f h = tt

pub none_both : {X : Type 0} {P Q R : Type 0} (o : Option X) → (P → Q → R) → IfNone o P → IfNone o Q → IfNone o R
none_both None f h k = f h k
none_both (Some x) f h k = tt

-- another floor leaves the stacks
module _ (old new : Near) (later : List (List ℕ)) (same : IsSameNear old new) where
  pub stacks_still : all_stacks new later ≡ all_stacks old later
  stacks_still = rw (same.now, same.now_key, same.soon, same.soon_key) refl

  pub near_still : ((key : ℕ) → key < new.floor → list_at later key ≡ []) → AreNear old later → AreNear new later
  near_still above are = record {
    some = λ lt. let k = are.some (subst (λ (xs : List ℕ). 0 < length xs) same.now lt) in omega (arith, k, same.now_key);
    behind = λ lt. let b = are.behind (subst (λ (xs : List ℕ). 0 < length xs) same.soon lt) in omega (arith, b, same.now_key, same.soon_key);
    above = above;
  }

-- .. also after what waits soon was made to wait now
pub same_then : (old mid new : Near) (later same_later : List (List ℕ)) → same_later ≡ later → Advances old mid → IsSameNear mid new
    → (key : ℕ) → list_at (all_stacks new same_later) key ≡ list_at (all_stacks old later) key
same_then old mid new later same_later e advances same key =
    ap (λ (ls : List (List ℕ)). list_at (all_stacks new ls) key) e ∙ ap (λ (ls : List (List ℕ)). list_at ls key) (stacks_still mid new later same) ∙ advances.same later key

-- whether a vector is empty
pub none_there : (n long : ℕ) (empty : Bool) → long ≡ n → empty ≡ (long == 0) → empty ≡ true → n ≡ 0
none_there n long empty e is holds = let z : long ≡ 0 = eqb-true long 0 (sym is ∙ holds) in omega (arith, e, z)

pub some_there : (n long : ℕ) (empty : Bool) → long ≡ n → empty ≡ (long == 0) → empty ≡ false → 0 < n
some_there n long empty e is fails =
    elim (cases_lt 0 n) [
      | inl lt ↦ lt
      | inr le ↦ absurd (false≢true (sym fails ∙ is ∙ eq-eqb long 0 (omega (arith, e, le))))
    ]
