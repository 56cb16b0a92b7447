-- Elements that wait under the least keys, a vector for each key, and what waits behind them.
use Rattle.std.proofs.Common.{◌≡◌, ℕ, zero, suc, ◌+◌, ◌<◌, ◌≤◌, List, [], ◌∷◌, ◌++◌, length, get_or, set, reverse, refl, sym, ap, ◌∙◌, arith, inl, inr}
use Rattle.std.specs.Prelude.{Result, Ok, Err, OnErr}
use Rattle.std.specs.Global.{Vec}
use Rattle.std.proofs.lemmas.Bool.{cases_lt}
use Rattle.std.proofs.lemmas.List.{length-set, reverse-append, get_or_past}
use Rattle.cw_links.specs.Lists.{list_at}
use Rattle.cw_links.specs.Low.{stacks_in, AreLow, joined, AreBehind}
use Rattle.cw_links.specs.Queues.{AreNone, HasLower, Puts, Takes}

-- one more vector, without elements
pub none_more : (vs : List (Vec ℕ)) (v : Vec ℕ) → v.items ≡ [] → AreNone (stacks_in vs) → AreNone (stacks_in (vs ++ v ∷ []))
none_more [] v e none zero = ap (λ (xs : List ℕ). reverse xs) e
none_more [] v e none (suc k) = refl
none_more (w ∷ vs) v e none zero = none zero
none_more (w ∷ vs) v e none (suc k) = none_more vs v e (λ j. none (suc j)) k

-- what waits under a key has its vector
pub stack_of : (vs : List (Vec ℕ)) (k : ℕ) (d : Vec ℕ) → k < length vs → list_at (stacks_in vs) k ≡ reverse (get_or vs k d).items
stack_of [] k d lt = absurd (omega (arith, lt))
stack_of (v ∷ vs) zero d lt = refl
stack_of (v ∷ vs) (suc k) d lt = stack_of vs k d (omega (arith, lt))

-- .. under the first keys, and under those behind them
pub joined_below : (low stacks : List (List ℕ)) (k : ℕ) → k < length low → list_at (joined low stacks) k ≡ list_at low k
joined_below [] stacks k lt = absurd (omega (arith, lt))
joined_below (l ∷ ls) [] zero lt = refl
joined_below (l ∷ ls) [] (suc k) lt = joined_below ls [] k (omega (arith, lt))
joined_below (l ∷ ls) (s ∷ ss) zero lt = refl
joined_below (l ∷ ls) (s ∷ ss) (suc k) lt = joined_below ls ss k (omega (arith, lt))

pub joined_from : (low stacks : List (List ℕ)) (k : ℕ) → length low ≤ k → list_at (joined low stacks) k ≡ list_at stacks k
joined_from [] stacks k le = refl
joined_from (l ∷ ls) [] zero le = absurd (omega (arith, le))
joined_from (l ∷ ls) [] (suc k) le = joined_from ls [] k (omega (arith, le))
joined_from (l ∷ ls) (s ∷ ss) zero le = absurd (omega (arith, le))
joined_from (l ∷ ls) (s ∷ ss) (suc k) le = joined_from ls ss k (omega (arith, le))

-- an element more under one of the first keys, and under one behind them
pub puts_low : (old new stacks : List (List ℕ)) (element key : ℕ) → length new ≡ length old → key < length old → Puts old new element key → Puts (joined old stacks) (joined new stacks) element key
puts_low old new stacks element key long lt p = record {
  here = joined_below new stacks key (omega (arith, long, lt)) ∙ p.here ∙ ap (λ (ys : List ℕ). element ∷ ys) (sym (joined_below old stacks key lt));
  others = λ k ne. elim (cases_lt k (length old)) [
    | inl below ↦ joined_below new stacks k (omega (arith, below, long)) ∙ p.others k ne ∙ sym (joined_below old stacks k below)
    | inr from ↦ joined_from new stacks k (omega (arith, from, long)) ∙ sym (joined_from old stacks k (omega (arith, from)))
  ];
}

pub puts_behind : (low old new : List (List ℕ)) (element key : ℕ) → length low ≤ key → Puts old new element key → Puts (joined low old) (joined low new) element key
puts_behind low old new element key le p = record {
  here = joined_from low new key le ∙ p.here ∙ ap (λ (ys : List ℕ). element ∷ ys) (sym (joined_from low old key le));
  others = λ k ne. elim (cases_lt k (length low)) [
    | inl below ↦ joined_below low new k below ∙ sym (joined_below low old k below)
    | inr from ↦ joined_from low new k (omega (arith, from)) ∙ p.others k ne ∙ sym (joined_from low old k (omega (arith, from)))
  ];
}

-- the first element is taken from under one of the first keys
pub takes_low : (old new stacks : List (List ℕ)) (element key : ℕ) → length new ≡ length old → key < length old → Takes old new element key
    → Takes (joined old stacks) (joined new stacks) element key
takes_low old new stacks element key long within t = record {
  some = t.some;
  least = λ k lt. joined_below old stacks k (omega (arith, lt, within)) ∙ t.least k lt;
  undone = puts_low new old stacks element key (sym long) (omega (arith, long, within)) t.undone;
}

-- .. from behind them, where nothing waits under these
from_behind : (keys : ℕ) (old new : List (List ℕ)) (element key : ℕ) → AreBehind keys old → Takes old new element key → keys ≤ key
from_behind keys old new element key none t =
    elim (cases_lt key keys) [
      | inl lt ↦ let z : 0 ≡ suc (length (list_at new key)) = ap (λ (w : List ℕ). length w) (sym (none key lt) ∙ t.undone.here) in absurd (omega (arith, z))
      | inr le ↦ omega (arith, le)
    ]

pub takes_behind : (low old new : List (List ℕ)) (element key : ℕ) → AreNone low → AreBehind (length low) old → Takes old new element key → Takes (joined low old) (joined low new) element key
takes_behind low old new element key no_low none t = record {
  some = t.some;
  least = λ k lt. elim (cases_lt k (length low)) [
    | inl below ↦ joined_below low old k below ∙ no_low k
    | inr from ↦ joined_from low old k (omega (arith, from)) ∙ t.least k lt
  ];
  undone = puts_behind low new old element key (from_behind (length low) old new element key none t) t.undone;
}

-- nothing waits where nothing waits under the first keys and behind them
pub none_joined : (low stacks : List (List ℕ)) → AreNone low → AreNone stacks → AreNone (joined low stacks)
none_joined low stacks no_low none k =
    elim (cases_lt k (length low)) [
      | inl below ↦ joined_below low stacks k below ∙ no_low k
      | inr from ↦ joined_from low stacks k (omega (arith, from)) ∙ none k
    ]

-- .. and neither under these nor behind them
pub none_low : (low stacks : List (List ℕ)) → AreNone (joined low stacks) → AreNone low
none_low low stacks none k =
    elim (cases_lt k (length low)) [
      | inl below ↦ sym (joined_below low stacks k below) ∙ none k
      | inr from ↦ get_or_past low k [] (omega (arith, from))
    ]

pub none_behind : (low stacks : List (List ℕ)) → AreBehind (length low) stacks → AreNone (joined low stacks) → AreNone stacks
none_behind low stacks behind none k =
    elim (cases_lt k (length low)) [
      | inl below ↦ behind k below
      | inr from ↦ sym (joined_from low stacks k (omega (arith, from))) ∙ none k
    ]

-- whether something waits under a lower key
pub clear_joined : (low stacks : List (List ℕ)) (key : ℕ) → ((k : ℕ) → k < key → list_at low k ≡ []) → ((k : ℕ) → k < key → list_at stacks k ≡ []) → (k : ℕ) → k < key → list_at (joined low stacks) k ≡ []
clear_joined low stacks key here there k lt =
    elim (cases_lt k (length low)) [
      | inl below ↦ joined_below low stacks k below ∙ here k lt
      | inr from ↦ joined_from low stacks k (omega (arith, from)) ∙ there k lt
    ]

pub lower_low : (low stacks : List (List ℕ)) (key : ℕ) → HasLower low key → HasLower (joined low stacks) key
lower_low low stacks key h =
    elim (cases_lt h.0 (length low)) [
      | inl below ↦ (h.0, h.1, λ e. h.2 (sym (joined_below low stacks h.0 below) ∙ e))
      | inr from ↦ absurd (h.2 (get_or_past low h.0 [] (omega (arith, from))))
    ]

pub lower_behind : (low stacks : List (List ℕ)) (key : ℕ) → AreBehind (length low) stacks → HasLower stacks key → HasLower (joined low stacks) key
lower_behind low stacks key behind h =
    elim (cases_lt h.0 (length low)) [
      | inl below ↦ absurd (h.2 (behind h.0 below))
      | inr from ↦ (h.0, h.1, λ e. h.2 (sym (joined_from low stacks h.0 (omega (arith, from))) ∙ e))
    ]

-- an error's clause
pub err_holds : {X E P : Type 0} (r : Result X E) → P → OnErr r P
err_holds (Ok x) p = tt
err_holds (Err e) p = p

pub stacks_long : (vs : List (Vec ℕ)) → length (stacks_in vs) ≡ length vs
stacks_long [] = refl
stacks_long (v ∷ vs) = ap suc (stacks_long vs)

pub within_vectors : (vs : List (Vec ℕ)) (low : List (List ℕ)) (k : ℕ) → stacks_in vs ≡ low → k < length low → k < length vs
within_vectors vs low k is lt = let long = ap (λ (ls : List (List ℕ)). length ls) is in omega (arith, lt, long, stacks_long vs)

-- what waits where one vector is another one
stack_here : (vs : List (Vec ℕ)) (k : ℕ) (v : Vec ℕ) → k < length vs → list_at (stacks_in (set vs k v)) k ≡ reverse v.items
stack_here [] k v lt = absurd (omega (arith, lt))
stack_here (w ∷ vs) zero v lt = refl
stack_here (w ∷ vs) (suc k) v lt = stack_here vs k v (omega (arith, lt))

stack_other : (vs : List (Vec ℕ)) (k j : ℕ) (v : Vec ℕ) → (j ≡ k → ⊥) → list_at (stacks_in (set vs k v)) j ≡ list_at (stacks_in vs) j
stack_other [] zero j v ne = refl
stack_other [] (suc k) j v ne = refl
stack_other (w ∷ vs) zero zero v ne = absurd (ne refl)
stack_other (w ∷ vs) zero (suc j) v ne = refl
stack_other (w ∷ vs) (suc k) zero v ne = refl
stack_other (w ∷ vs) (suc k) (suc j) v ne = stack_other vs k j v (λ e. ne (ap suc e))

stack_same : (vs : List (Vec ℕ)) (k : ℕ) (v : Vec ℕ) → k < length vs → list_at (stacks_in vs) k ≡ reverse v.items → stacks_in (set vs k v) ≡ stacks_in vs
stack_same [] k v lt e = absurd (omega (arith, lt))
stack_same (w ∷ vs) zero v lt e = ap (λ (xs : List ℕ). xs ∷ stacks_in vs) (sym e)
stack_same (w ∷ vs) (suc k) v lt e = ap (λ (ls : List (List ℕ)). reverse w.items ∷ ls) (stack_same vs k v (omega (arith, lt)) e)

pub stacks_set : (vs : List (Vec ℕ)) (k : ℕ) (v : Vec ℕ) → length (stacks_in (set vs k v)) ≡ length (stacks_in vs)
stacks_set vs k v = stacks_long (set vs k v) ∙ length-set vs k v ∙ sym (stacks_long vs)

reverse_none : (xs : List ℕ) → length xs ≡ 0 → reverse xs ≡ []
reverse_none [] e = refl
reverse_none (x ∷ xs) e = absurd (omega (arith, e))

-- of vectors one is another one: with an element more at its end, with one less, with the same elements
module _ (vs : List (Vec ℕ)) (key : ℕ) (old new : Vec ℕ) (within : key < length vs) (is : old ≡ get_or vs key old) where
  here : list_at (stacks_in vs) key ≡ reverse old.items
  here = stack_of vs key old within ∙ ap (λ (v : Vec ℕ). reverse v.items) (sym is)

  pub pushes_vector : (element : ℕ) → new.items ≡ old.items ++ element ∷ [] → Puts (stacks_in vs) (stacks_in (set vs key new)) element key
  pushes_vector element pushed = record {
    here = stack_here vs key new within ∙ ap (λ (xs : List ℕ). reverse xs) pushed ∙ reverse-append old.items (element ∷ []) ∙ ap (λ (ys : List ℕ). element ∷ ys) (sym here);
    others = λ k ne. stack_other vs key k new ne;
  }

  pub pops_vector : (element : ℕ) → old.items ≡ new.items ++ element ∷ [] → Puts (stacks_in (set vs key new)) (stacks_in vs) element key
  pops_vector element popped = record {
    here = here ∙ ap (λ (xs : List ℕ). reverse xs) popped ∙ reverse-append new.items (element ∷ []) ∙ ap (λ (ys : List ℕ). element ∷ ys) (sym (stack_here vs key new within));
    others = λ k ne. sym (stack_other vs key k new ne);
  }

  pub same_vector : new.items ≡ old.items → stacks_in (set vs key new) ≡ stacks_in vs
  same_vector e = stack_same vs key new within (here ∙ ap (λ (xs : List ℕ). reverse xs) (sym e))

  pub no_vector : length old.items ≡ 0 → list_at (stacks_in vs) key ≡ []
  no_vector e = here ∙ reverse_none old.items e

-- whatever its vector has then, nothing waits before a key
pub low_set : (vs : List (Vec ℕ)) (floor key : ℕ) (new : Vec ℕ) → AreLow (stacks_in vs) floor → floor ≤ key → ((k : ℕ) → floor ≤ k → k < key → list_at (stacks_in vs) k ≡ [])
    → AreLow (stacks_in (set vs key new)) key
low_set vs floor key new low from clear = record {
  few = (let few = low.few in omega (arith, stacks_set vs key new, few));
  above = (let above = low.above in omega (arith, above, from));
  lowest = λ k lt. stack_other vs key k new (λ e. omega (arith, e, lt)) ∙ elim (cases_lt k floor) [ inl below ↦ low.lowest k below | inr le ↦ clear k (omega (arith, le)) lt ];
}

-- the floor is no higher than a key under which an element is put ..
pub low_put : (old new : List (List ℕ)) (floor key element least : ℕ) → AreLow old floor → Puts old new element key → length new ≡ length old
    → 0 < least → least ≤ floor → least ≤ key → AreLow new least
low_put old new floor key element least low puts long some le_floor le_key = record {
  few = (let few = low.few in omega (arith, long, few));
  above = some;
  lowest = λ k lt. puts.others k (λ e. omega (arith, e, lt, le_key)) ∙ low.lowest k (omega (arith, lt, le_floor));
}

-- .. and is raised to one below which nothing waits
module _ (old : List (List ℕ)) (floor key : ℕ) (low : AreLow old floor) (from : floor ≤ key) (clear : (k : ℕ) → floor ≤ k → k < key → list_at old k ≡ []) where
  pub clear_before : (k : ℕ) → k < key → list_at old k ≡ []
  clear_before k lt = elim (cases_lt k floor) [ inl below ↦ low.lowest k below | inr le ↦ clear k (omega (arith, le)) lt ]

  pub low_raised : AreLow old key
  low_raised = record { few = low.few; above = (let above = low.above in omega (arith, above, from)); lowest = clear_before }

  pub low_none : length old ≤ key → AreNone old
  low_none le k = elim (cases_lt k key) [ inl lt ↦ clear_before k lt | inr more ↦ get_or_past old k [] (omega (arith, le, more)) ]

  module _ (new : List (List ℕ)) (element : ℕ) (puts : Puts new old element key) where
    pub low_take : length new ≡ length old → AreLow new key
    low_take long = record {
      few = (let few = low.few in omega (arith, long, few));
      above = (let above = low.above in omega (arith, above, from));
      lowest = λ k lt. sym (puts.others k (λ e. omega (arith, e, lt))) ∙ clear_before k lt;
    }

    pub takes_first : Takes old new element key
    takes_first = record { some = (let above = low.above in omega (arith, above, from)); least = clear_before; undone = puts }
