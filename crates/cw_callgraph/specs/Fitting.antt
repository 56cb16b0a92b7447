-- Which policies fit a source: every label that the policy names stands in it, every function that it splits is defined in it, and each of
-- these may be split.
use Rattle.std.specs.Prelude.{◌≡◌, ◌<◌, ℕ, List, not, Bool, Option, Some, None, is_none, slice_get}
use Rattle.std.specs.List.{All, list_any, position_from}
use Rattle.std.specs.Str.{bytes_eq}
use Rattle.cw_syntax.specs.Names.{Names, number_in}
use Rattle.cw_syntax.specs.Trees.{File}
use Rattle.cw_syntax.specs.Plans.{function_names}
use Rattle.cw_rights.specs.Policies.{PlainPolicy}
use Rattle.cw_resolve.specs.Scenes.{names_of}
use Rattle.cw_resolve.specs.Labels.{label_names}
use Rattle.cw_callgraph.specs.declared.fit.FitFault.{FitFault}
use Rattle.cw_callgraph.specs.declared.fit.FitFault.TheVariants.{NoLabel, NoFunction, NotSplittable}
use Rattle.cw_callgraph.specs.Forbidding.{Forbids, IsLeast}

module _ (source : List ℕ) (file : File) where
  abbrev pub has_label : List ℕ → Bool
  has_label name = list_any (bytes_eq name) (label_names source file)

  -- the first of these names that no label has, and the first that no function has
  abbrev pub first_unlabelled : List (List ℕ) → Option ℕ
  first_unlabelled names = position_from (λ name. not (has_label name)) 0 names

  abbrev pub first_undefined : List (List ℕ) → Option ℕ
  first_undefined names = position_from (λ name. is_none (number_in (function_names source file) name)) 0 names

  -- no place forbids splitting the function of this name
  abbrev pub MayBeSplit : Names → List ℕ → Type 0
  MayBeSplit names name = (f : ℕ) → number_in (function_names source file) name ≡ Some f → IsLeast (Forbids names source file f) None

  -- the function with this number in the list of those to be split is the first that may not be, and this is the least place that forbids it
  pub record IsFirstForbidden (names : Names) (split : List (List ℕ)) (i place : ℕ) : Type 0 where
    pub name : List ℕ
    pub named : slice_get split i ≡ Some name
    pub function : ℕ
    pub defined : number_in (function_names source file) name ≡ Some function
    pub least : IsLeast (Forbids names source file function) (Some place)
    pub earlier : (j : ℕ) (before : List ℕ) → j < i → slice_get split j ≡ Some before → MayBeSplit names before

  abbrev pub Fits : PlainPolicy → Type 0
  Fits policy = (first_unlabelled policy.labels ≡ None) × (first_undefined policy.split ≡ None) × All (MayBeSplit (names_of policy)) policy.split

  -- what is answered where a policy doesn't fit
  abbrev pub IsFitFault : PlainPolicy → FitFault → Type 0
  IsFitFault policy (NoLabel i) = first_unlabelled policy.labels ≡ Some i
  IsFitFault policy (NoFunction i) = (first_unlabelled policy.labels ≡ None) × (first_undefined policy.split ≡ Some i)
  IsFitFault policy (NotSplittable i place) =
      (first_unlabelled policy.labels ≡ None) × (first_undefined policy.split ≡ None) × IsFirstForbidden (names_of policy) policy.split i place
