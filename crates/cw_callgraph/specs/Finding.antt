-- Working definitions: numbers that are found one after the other, each kept once; and what is reached along the rows of a
-- table.
use Rattle.std.specs.Prelude.{◌≡◌, ◌<◌, ◌≤◌, ◌==◌, ℕ, List, [], ◌∷◌, ◌++◌, Bool, true, false, cond, length, map, Vec, Option, slice_index_or}
use Rattle.std.specs.List.{Contains, list_any, IsDistinct}
use Rattle.std.specs.List.Sorted.{IsStrictlyIncreasing}
use Rattle.cw_fixpoint.specs.Closures.{Reached}
use Rattle.std.specs.declared.alloc.Global.{Global}
use Rattle.cw_syntax.specs.declared.program.Function.{Function}
use Rattle.cw_syntax.specs.Plans.{Scene}
use Rattle.cw_resolve.specs.Scenes.{stms_in}
use Rattle.cw_callgraph.specs.declared.found.Found.{Found}
use Rattle.cw_callgraph.specs.declared.table.Effect.{Effect}
use Rattle.cw_callgraph.specs.Effects.{callees_all, firsts, Each}
use Rattle.cw_callgraph.specs.Lowest.{forbidden}

abbrev pub has : List ℕ → ℕ → Bool
has found g = list_any (λ h. g == h) found

abbrev pub with_one : List ℕ → ℕ → List ℕ
with_one found g = cond (has found g) found (found ++ g ∷ [])

abbrev pub with_all : List ℕ → List ℕ → List ℕ
with_all found [] = found
with_all found (g ∷ gs) = with_all (with_one found g) gs

-- the flags are those of the numbers, and each number stands there once
pub record IsFound (found : Found) : Type 0 where
  pub flagged : (g : ℕ) → slice_index_or found.flags.items g false ≡ has found.numbers.items g
  pub apart : IsDistinct (λ g h. g == h) found.numbers.items

-- these numbers were found, one after the other
pub record Finds (gs : List ℕ) (before after : Found) : Type 0 where
  pub numbers : after.numbers.items ≡ with_all before.numbers.items gs
  pub sound : IsFound after
  pub wide : length after.flags.items ≡ length before.flags.items

abbrev pub AreBelow : ℕ → List ℕ → Type 0
AreBelow n found = (g : ℕ) → has found g ≡ true → g < n

-- the lists of a table, and the one with this number
abbrev pub lists_of : List (Vec ℕ Global) → List (List ℕ)
lists_of rows = map (λ row. row.items) rows

abbrev pub next_in : List (Vec ℕ Global) → ℕ → List ℕ
next_in rows f = slice_index_or (lists_of rows) f []

-- just what f leads to
abbrev pub AreReached : (ℕ → List ℕ) → ℕ → List ℕ → Type 0
AreReached next f numbers = (g : ℕ) → (Contains numbers g → Reached next (next f) g) × (Reached next (next f) g → Contains numbers g)

-- a walk from f came to these numbers, and went on from the first i of them
pub record IsWalked (next : ℕ → List ℕ) (f : ℕ) (found : List ℕ) (i : ℕ) : Type 0 where
  pub needed : (g : ℕ) → Contains found g → Reached next (next f) g
  pub begins : (g : ℕ) → Contains (next f) g → Contains found g
  pub closed : (j : ℕ) → j < i → (g : ℕ) → Contains (next (slice_index_or found j 0)) g → Contains found g
  pub far : i ≤ length found

-- ascending, each once, and just what f leads to
abbrev pub IsReach : (ℕ → List ℕ) → ℕ → List ℕ → Type 0
IsReach next f reach = IsStrictlyIncreasing reach × AreReached next f reach

-- what a function calls, by its statements
abbrev pub direct : Scene → Function → List ℕ
direct s f = firsts (callees_all (stms_in s f.body.items))

-- the same, each call by itself; and that of the function with this number
abbrev pub spelled : Scene → Function → List ℕ
spelled s f = callees_all (stms_in s f.body.items)

abbrev pub spelled_in : Scene → List Function → ℕ → List ℕ
spelled_in s fs f = slice_index_or (map (spelled s) fs) f []

-- the effects of the first functions of a table of calls, under the least places in heads and in bodies
pub record AreEffects (rows : List (Vec ℕ Global)) (heads bodies : List (Option ℕ)) (n : ℕ) (effects : List Effect) : Type 0 where
  pub count : length effects ≡ n
  pub calls : Each (λ f effect. effect.calls.items ≡ next_in rows f) effects
  pub reaches : Each (λ f effect. IsReach (next_in rows) f effect.reaches.items) effects
  pub forbids : Each (λ f effect. effect.forbids ≡ forbidden heads bodies f effect.reaches.items) effects
