-- A call may be split off exactly where its function's part says so.
use Rattle.std.proofs.Common.{◌≡◌, ℕ, zero, suc, ◌+◌, ◌<◌, List, [], ◌∷◌, length, get_or, Bool, true, false, cond, Option, Some, None, refl, sym}
use Rattle.std.proofs.Common.{ap, ◌∙◌, arith}
use Rattle.std.specs.Prelude.{slice_get, option_map, is_some, codes}
use Rattle.std.specs.Str.{bytes_eq}
use Rattle.std.proofs.lemmas.Option.{none-some, same_Some, slice_get-get_or, slice_get-map}
use Rattle.std.proofs.lemmas.Slice.Eq.{bytes_eq-Decides}
use Rattle.std.proofs.lemmas.List.{length-map}
use Rattle.std.proofs.lemmas.List.Quantifiers.{position-Some}
use Rattle.cw_syntax.specs.declared.program.Name.{Name}
use Rattle.cw_syntax.specs.declared.program.Op.TheVariants.{Name as NameOp, Call as CallOp, Assign}
use Rattle.cw_syntax.specs.Names.{Names, text, number_in}
use Rattle.cw_syntax.specs.Trees.{Tree, Node as TreeNode, Trees, none, more, Definition, File}
use Rattle.cw_syntax.specs.Plans.{Action, Computes, Opens, Closes, Invokes, action_of, call_action, assigned_action, closed_by, closes_if, opens_if}
use Rattle.cw_syntax.specs.Plans.{descriptor_of, Scene, Routine, scene_of, function_names}
use Rattle.cw_points.specs.declared.graph.Part.{Part}
use Rattle.cw_points.specs.Graphs.{parts_from, splits_of, exit_of}
use Rattle.cw_positions.specs.Positions.{is_split}

-- the part of a function that has one says what the list says
split_part : (rs : List Routine) (splits : List Bool) (n f : ℕ) (b : Bool) → f < length rs → slice_get splits f ≡ Some b
    → is_split (parts_from rs splits n) f ≡ b
split_part [] splits n f b h e = absurd (omega arith)
split_part (r ∷ rs) [] n f b h e = absurd (none-some b e)
split_part (r ∷ rs) (split ∷ splits) n zero b h e = same_Some split b e
split_part (r ∷ rs) (split ∷ splits) n (suc f) b h e = split_part rs splits (exit_of r n + 1) f b (omega arith) e

-- a name's place in a list of names has that name
pub named_at : (names : List (List ℕ)) (name : List ℕ) (i : ℕ) → number_in names name ≡ Some i → slice_get names i ≡ Some name
named_at names name i e =
    let p = position-Some (bytes_eq name) names i [] e in
    slice_get-get_or names i [] p.0 ∙ ap Some (sym ((bytes_eq-Decides name (get_or names i [])).0 p.1))

through : {A B C : Type 0} (t : A → B) (h : B → C) (o : Option A) (b : B) → option_map t o ≡ Some b → option_map (λ x. h (t x)) o ≡ Some (h b)
through t h None b e = absurd (none-some b e)
through t h (Some a) b e = ap (λ x. Some (h x)) (same_Some (t a) b e)

module _ (names : Names) (source : List ℕ) (file : File) where
  abbrev scene : Scene
  scene = scene_of names source file

  -- whether it may be split off, of a function with this name
  split_at : (name : List ℕ) (f : ℕ) → number_in (function_names source file) name ≡ Some f
      → slice_get (splits_of names source file) f ≡ Some (is_some (number_in names.splits name))
  split_at name f e =
      let t = λ (d : Definition). text source d.name in
      let h = λ (n : List ℕ). is_some (number_in names.splits n) in
      let named : option_map t (slice_get file.functions f) ≡ Some name =
      sym (slice_get-map t file.functions f) ∙ named_at (function_names source file) name f e in
      slice_get-map (λ (d : Definition). h (t d)) file.functions f ∙ through t h (slice_get file.functions f) name named

  module _ (rs : List Routine) (many : length rs ≡ length file.functions) where
    abbrev parts : List Part
    parts = parts_from rs (splits_of names source file) 0

    abbrev pub SplitsAs : Action → Type 0
    SplitsAs Computes = Unit {0}
    SplitsAs (Opens d) = Unit {0}
    SplitsAs (Closes d) = Unit {0}
    SplitsAs (Invokes callee) = callee.split ≡ is_split (parts_from rs (splits_of names source file) 0) callee.number

    callee_splits : (name : List ℕ) (f : ℕ) → number_in (function_names source file) name ≡ Some f
        → is_some (number_in names.splits name) ≡ is_split (parts_from rs (splits_of names source file) 0) f
    callee_splits name f e =
        let p = position-Some (bytes_eq name) (function_names source file) f [] e in
        let within : f < length rs = omega (arith, p.0, many, length-map file.functions (λ (d : Definition). text source d.name)) in
        sym (split_part rs (splits_of names source file) 0 f (is_some (number_in names.splits name)) within (split_at name f e))

    opens_split : (o : Option ℕ) → SplitsAs (opens_if o)
    opens_split None = tt
    opens_split (Some d) = tt

    closes_split : (o : Option ℕ) → SplitsAs (closes_if o)
    closes_split None = tt
    closes_split (Some d) = tt

    closing_splits : (b : Bool) (t : Tree) → SplitsAs (cond b (closes_if (descriptor_of (scene_of names source file) t)) Computes)
    closing_splits true t = closes_split (descriptor_of scene t)
    closing_splits false t = tt

    closed_splits : (name : List ℕ) (ts : Trees) → SplitsAs (closed_by (scene_of names source file) name ts)
    closed_splits name (more t none) = closing_splits (bytes_eq name (codes "close")) t
    closed_splits name none = tt
    closed_splits name (more t (more u ts)) = tt

    call_splits : (name : List ℕ) (ts : Trees) (o : Option ℕ) → ((f : ℕ) → o ≡ Some f → number_in (function_names source file) name ≡ Some f)
        → SplitsAs (call_action (scene_of names source file) name ts o)
    call_splits name ts (Some f) h = callee_splits name f (h f refl)
    call_splits name ts None h = closed_splits name ts

    assigned_splits : (x : Name) (name : List ℕ) (o : Option ℕ) → ((f : ℕ) → o ≡ Some f → number_in (function_names source file) name ≡ Some f)
        → SplitsAs (assigned_action (scene_of names source file) x name o)
    assigned_splits x name (Some f) h = callee_splits name f (h f refl)
    assigned_splits x name None h = opens_split (number_in names.descriptors (text source x))

    pub acts_split : (t : Tree) → SplitsAs (action_of (scene_of names source file) t)
    acts_split (TreeNode (CallOp f) arguments from to) =
        call_splits (text source f) arguments (number_in (function_names source file) (text source f)) (λ n e. e)
    acts_split (TreeNode (Assign zero) (more (TreeNode NameOp parts at end) (more (TreeNode (CallOp f) arguments at' end') none)) from to) =
        assigned_splits (record { from = at; to = end }) (text source f) (number_in (function_names source file) (text source f)) (λ n e. e)
    acts_split _ = tt
