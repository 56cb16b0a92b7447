-- A search for the table of an audit, seen by its look-ups alone.
use Rattle.std.specs.Prelude.{◌≡◌, ℕ, Bool, cond, ◌&&◌, Option, Some, None, nat_eq}

-- What was found so far, each number cut: how many moves the entry of a function in a state is from the start; how many moves a pair is from the entry of its group, in the
-- same activation; and how many moves the nearest violation is from the start.
pub record Found : Type 0 where
  pub reach : (f q : ℕ) → Option ℕ
  pub number : (f q p x : ℕ) → Option ℕ
  pub best : Option ℕ

abbrev pub nothing : Found
nothing = record { reach = λ f q. None; number = λ f q p x. None; best = None }

abbrev pub is_group : (f q f2 q2 : ℕ) → Bool
is_group f q f2 q2 = nat_eq f2 f && nat_eq q2 q

abbrev pub is_row : (f q p x f2 q2 p2 x2 : ℕ) → Bool
is_row f q p x f2 q2 p2 x2 = nat_eq f2 f && (nat_eq q2 q && (nat_eq p2 p && nat_eq x2 x))

-- The second has this number at one row key, and is else as the first.
pub record IsNumberSet (s s2 : Found) (f q p x n : ℕ) : Type 0 where
  pub reach : (f2 q2 : ℕ) → s2.reach f2 q2 ≡ s.reach f2 q2
  pub number : (f2 q2 p2 x2 : ℕ) → s2.number f2 q2 p2 x2 ≡ cond (is_row f q p x f2 q2 p2 x2) (Some n) (s.number f2 q2 p2 x2)
  pub best : s2.best ≡ s.best

pub record IsReachSet (s s2 : Found) (f q r : ℕ) : Type 0 where
  pub reach : (f2 q2 : ℕ) → s2.reach f2 q2 ≡ cond (is_group f q f2 q2) (Some r) (s.reach f2 q2)
  pub number : (f2 q2 p2 x2 : ℕ) → s2.number f2 q2 p2 x2 ≡ s.number f2 q2 p2 x2
  pub best : s2.best ≡ s.best

pub record IsBestSet (s s2 : Found) (k : ℕ) : Type 0 where
  pub reach : (f2 q2 : ℕ) → s2.reach f2 q2 ≡ s.reach f2 q2
  pub number : (f2 q2 p2 x2 : ℕ) → s2.number f2 q2 p2 x2 ≡ s.number f2 q2 p2 x2
  pub best : s2.best ≡ Some k
