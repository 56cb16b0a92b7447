-- Elements that wait under keys, of which those under two keys stand apart: under one what waits now, and under a greater one what waits soon.
use Rattle.std.specs.Prelude.{◌≡◌, ◌⊎◌, ℕ, zero, suc, ◌<◌, ◌≤◌, List, [], ◌∷◌, ◌++◌, Bool, true, false, length, reverse}
use Rattle.cw_links.specs.Lists.{list_at}
use Rattle.cw_links.specs.Queues.{HasLower}
use Rattle.cw_links.specs.declared.nearest.Near.{Near}
use Rattle.cw_links.specs.declared.nearest.Apart.{Apart}
use Rattle.cw_links.specs.declared.nearest.Apart.TheVariants.{Now, Soon, Next, Later, Before}

-- the stacks with some elements in front of what waits under a key
abbrev pub with_stack : List (List ℕ) → ℕ → List ℕ → List (List ℕ)
with_stack [] zero xs = (xs ++ []) ∷ []
with_stack [] (suc key) xs = [] ∷ with_stack [] key xs
with_stack (ys ∷ stacks) zero xs = (xs ++ ys) ∷ stacks
with_stack (ys ∷ stacks) (suc key) xs = ys ∷ with_stack stacks key xs

-- the stacks of what waits now, soon and later: of a vector the last element is first
abbrev pub all_stacks : Near → List (List ℕ) → List (List ℕ)
all_stacks near later = with_stack (with_stack later near.present_key (reverse near.present.items)) near.soon_key (reverse near.soon.items)

-- what waits now has a key, what waits soon a greater one, and below the floor nothing waits later
pub record AreNear (near : Near) (later : List (List ℕ)) : Type 0 where
  pub some : 0 < length near.present.items → 0 < near.present_key
  pub behind : 0 < length near.soon.items → near.present_key < near.soon_key
  pub above : (key : ℕ) → key < near.floor → list_at later key ≡ []

-- where an element belongs that is to wait under a key: soon it can begin to wait only where nothing else does
abbrev pub IsApart : Near → (key : ℕ) → Apart → Type 0
IsApart near key Now = key ≡ near.present_key
IsApart near key Soon = (0 < length near.soon.items) × (key ≡ near.soon_key)
IsApart near key Next = (length near.soon.items ≡ 0) × (near.present_key < key)
IsApart near key Later = (near.present_key < key) × (key ≡ near.soon_key → ⊥)
IsApart near key Before = key < near.present_key

-- nothing waits now or soon, and any key may be that of what waits now
pub record IsSetAside (near : Near) : Type 0 where
  pub now : length near.present.items ≡ 0
  pub soon : length near.soon.items ≡ 0
  pub least : near.present_key ≡ 0

-- what waits soon waits now, where nothing else did
pub record Advances (old new : Near) : Type 0 where
  pub same : (later : List (List ℕ)) (key : ℕ) → list_at (all_stacks new later) key ≡ list_at (all_stacks old later) key
  pub kept : (later : List (List ℕ)) → AreNear old later → AreNear new later
  pub none : length new.present.items ≡ 0 → (length new.soon.items ≡ 0) × (new ≡ old)

-- the same but for the floor
pub record IsSameNear (old new : Near) : Type 0 where
  pub now : new.present.items ≡ old.present.items
  pub now_key : new.present_key ≡ old.present_key
  pub soon : new.soon.items ≡ old.soon.items
  pub soon_key : new.soon_key ≡ old.soon_key

-- whether what waits now has the least key, as another floor tells
pub record IsFirst (old new : Near) (later : List (List ℕ)) (first : Bool) : Type 0 where
  pub same : IsSameNear old new
  pub above : (key : ℕ) → key < new.floor → list_at later key ≡ []
  pub yes : first ≡ true → (0 < length old.present.items) × (old.present_key ≤ new.floor)
  pub no : first ≡ false → (length old.present.items ≡ 0) ⊎ HasLower later old.present_key
