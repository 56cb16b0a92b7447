-- The first function to be split that may not be, by what the effects are found out from.
use Rattle.std.proofs.Common.{◌≡◌, ◌<◌, ◌≤◌, ◌+◌, ◌⊎◌, inl, inr, ℕ, List, Vec, Global, map, length, get_or, Option, None, Some, refl, sym, ap, ◌∙◌, subst, arith}
use Rattle.std.specs.Prelude.{Result, Ok, Err, IfOk, IfSome, IfNone, slice_get, option_map}
use Rattle.std.specs.List.{All}
use Rattle.std.proofs.lemmas.Bool.{cases_lt}
use Rattle.std.proofs.lemmas.Option.{same_Some, slice_get-map, slice_get_read, slice_get-get_or}
use Rattle.cw_syntax.specs.declared.checked.Checked.{Checked}
use Rattle.cw_syntax.specs.Names.{number_in}
use Rattle.cw_syntax.specs.Trees.{definition_of, file_of}
use Rattle.cw_syntax.specs.Plans.{function_names, Scene}
use Rattle.cw_rights.specs.Policies.{PlainPolicy}
use Rattle.cw_resolve.specs.Scenes.{names_of, scene_in}
use Rattle.cw_callgraph.specs.declared.table.Parts.{Parts}
use Rattle.cw_callgraph.specs.Finding.{AreReached, next_in, spelled_in}
use Rattle.cw_callgraph.specs.Fitting.{MayBeSplit}
use Rattle.cw_callgraph.specs.Forbidding.{IsLeast, Forbids, body_places}
use Rattle.cw_callgraph.specs.Lowest.{forbidden, lowest}
use Rattle.cw_callgraph.specs.Parts.{ArePartsOf, IsBarred}
use Rattle.cw_callgraph.specs.Walking.{head_bar}
use Rattle.cw_callgraph.proofs.Spelled.{least_alone}
use Rattle.cw_callgraph.proofs.Parted.{least_is}

module _ (checked : Checked) (policy : PlainPolicy) where
  abbrev pub IsBar : ℕ → Option ℕ → Type 0
  IsBar function place = IsLeast (Forbids (names_of policy) checked.source.now (file_of checked.program) function) place

  -- by what the effects are found out from
  pub by_parts : {E : Type 0} (parts : Parts) → ArePartsOf checked policy parts → (function : ℕ) (r : Result (Option ℕ) E)
      → IfOk r (λ place. (reaches : List ℕ) × AreReached (next_in parts.calls.rows.items) function reaches × (place ≡ forbidden parts.bars.heads.items parts.bars.bodies.items function reaches))
      → IfOk r (IsBar function)
  by_parts parts are function (Err e) b = tt
  by_parts parts are function (Ok place) b = least_is checked policy parts are function b.0 place b.1 b.2

  -- by a walk over statements
  abbrev pub IsWalkedBar : Scene → ℕ → Option ℕ → Type 0
  IsWalkedBar s function place =
      (reaches : List ℕ) × AreReached (spelled_in s checked.program.functions.items) function reaches
      × (place ≡ forbidden (map head_bar checked.program.functions.items) (map (λ f. lowest (body_places s (file_of checked.program) (definition_of f))) checked.program.functions.items) function reaches)

  walked_bar : {E : Type 0} (function : ℕ) (r : Result (Option ℕ) E) → IfOk r (IsWalkedBar (scene_in checked policy) function) → IfOk r (IsBar function)
  walked_bar function (Err e) b = tt
  walked_bar function (Ok place) b = least_alone checked policy function b.0 place b.1 b.2

  pub by_walk : {E : Type 0} (s : Scene) → s ≡ scene_in checked policy → (function : ℕ) (r : Result (Option ℕ) E) → IfOk r (IsWalkedBar s function) → IfOk r (IsBar function)
  by_walk s is function r b = walked_bar function r (subst (λ t. IfOk r (IsWalkedBar t function)) is b)

  module _ (name : List ℕ) (function : ℕ) (number : Some function ≡ number_in (function_names checked.source.now (file_of checked.program)) name) where
    pub none_bars : {E : Type 0} (r : Result (Option ℕ) E) → IfOk r (IsBar function) → IfOk r (λ place. IfNone place (MayBeSplit checked.source.now (file_of checked.program) (names_of policy) name))
    none_bars (Err e) b = tt
    none_bars (Ok (Some p)) b = tt
    none_bars (Ok None) b = λ f e. subst (λ g. IsBar g None) (same_Some function f (number ∙ e)) b

    pub one_bars : {E : Type 0} (r : Result (Option ℕ) E) → IfOk r (IsBar function) → IfOk r (λ place. IfSome place (IsBarred checked.source.now (file_of checked.program) (names_of policy) name))
    one_bars (Err e) b = tt
    one_bars (Ok None) b = tt
    one_bars (Ok (Some p)) b = record { function = function; defined = sym number; least = b }

-- the name at a place
pub name_at : (names : List (Vec ℕ Global)) (i : ℕ) (x : Vec ℕ Global) → i < length names → x ≡ get_or names i x
    → slice_get (map (λ (n : Vec ℕ Global). n.items) names) i ≡ Some x.items
name_at names i x lt e = slice_get-map (λ (n : Vec ℕ Global). n.items) names i ∙ ap (option_map (λ (n : Vec ℕ Global). n.items)) (slice_get_read names (length names) i x refl lt e)

-- what holds of the first names and of one more
pub one_more : (names : List (Vec ℕ Global)) (P : List ℕ → Type 0) (i : ℕ) (x : Vec ℕ Global) → i < length names → x ≡ get_or names i x
    → ((j : ℕ) (before : List ℕ) → j < i → slice_get (map (λ (n : Vec ℕ Global). n.items) names) j ≡ Some before → P before) → P x.items
    → (j : ℕ) (before : List ℕ) → j < i + 1 → slice_get (map (λ (n : Vec ℕ Global). n.items) names) j ≡ Some before → P before
one_more names P i x lt e earlier here j before l at = by (cases_lt j i)
  where
    by : (j < i) ⊎ (i ≤ j) → P before
    by (inl below) = earlier j before below at
    by (inr past) =
        let is : j ≡ i = omega (arith, l, past) in
        subst P (same_Some x.items before (sym (name_at names i x lt e) ∙ sym (ap (λ k. slice_get (map (λ (n : Vec ℕ Global). n.items) names) k) is) ∙ at)) here

pub all_of : (names : List (List ℕ)) (P : List ℕ → Type 0) (i : ℕ) → length names ≤ i
    → ((j : ℕ) (before : List ℕ) → j < i → slice_get names j ≡ Some before → P before) → All P names
all_of names P i l h = λ k d lt. h k (get_or names k d) (omega (arith, lt, l)) (slice_get-get_or names k d lt)
