-- What a program opens is a variable of the policy.
use Rattle.std.proofs.Common.{◌≡◌, ℕ, zero, suc, ◌+◌, ◌<◌, List, Bool, true, false, cond, Option, Some, None, refl, sym, ap, ◌∙◌, subst, arith}
use Rattle.std.specs.Prelude.{slice_get, option_map, codes, IsTrue, All}
use Rattle.std.specs.Str.{bytes_eq}
use Rattle.std.proofs.lemmas.Option.{none-some, same_Some, slice_get-map, get_or_from_slice_get, slice_get_within}
use Rattle.cw_rights.specs.Policies.{PlainPolicy, PlainDescriptor}
use Rattle.cw_rights.specs.Valid.{is_name_start, IsDigit, IsNumberOf, IsValidDescriptor, IsValid}
use Rattle.cw_syntax.specs.declared.program.Name.{Name}
use Rattle.cw_syntax.specs.declared.program.Op.TheVariants.{Name as NameOp, Call as CallOp, Assign}
use Rattle.cw_syntax.specs.Names.{text, number_in}
use Rattle.cw_syntax.specs.Trees.{Tree, Node as TreeNode, Trees, none, more, File}
use Rattle.cw_syntax.specs.Plans.{Callee, Action, Computes, action_of, call_action, assigned_action, closed_by, closes_if, opens_if, descriptor_of}
use Rattle.cw_syntax.specs.Plans.{Routine, scene_of, plan_of}
use Rattle.cw_resolve.specs.Scenes.{names_of}
use Rattle.cw_points.specs.declared.graph.Point.{Point}
use Rattle.cw_points.specs.declared.graph.Point.TheVariants as point
use Rattle.cw_points.specs.declared.graph.Node.{Node}
use Rattle.cw_points.specs.declared.graph.Graph.{Graph}
use Rattle.cw_points.specs.Graphs.{nodes, IsGraph}
use Rattle.cw_positions.specs.Opens.{begins_name, AssignsName, AssignsNames, OpensVariable}
use Rattle.cw_positions.proofs.Fitting.{ActFits, PointFits, routine_fits_where, points_fit_from, point_fits}
use Rattle.cw_positions.proofs.Programs.{of_graph}
use Rattle.cw_positions.proofs.Splitting.{named_at}

-- a variable of the policy
abbrev Variable : PlainPolicy → ℕ → Type 0
Variable policy d = (descriptor : PlainDescriptor) × (slice_get policy.descriptors d ≡ Some descriptor) × (descriptor.number ≡ None)

-- what an action opens is one
abbrev OpensFit : PlainPolicy → Action → Type 0
OpensFit policy a = ActFits (Variable policy) (λ d. Unit {0}) (λ l. Unit {0}) (λ callee. Unit {0}) a

-- a digit begins no C name
starts_none : (n : ℕ) → n < 3 → is_name_start (48 + n) ≡ false
starts_none zero h = let z : 48 + 0 ≡ 48 = omega arith in ap is_name_start z
starts_none (suc zero) h = let z : 48 + suc zero ≡ 49 = omega arith in ap is_name_start z
starts_none (suc (suc zero)) h = let z : 48 + suc (suc zero) ≡ 50 = omega arith in ap is_name_start z
starts_none (suc (suc (suc n))) h = absurd (omega arith)

no_digit : (name : List ℕ) (n : ℕ) → IsTrue (begins_name name) → IsDigit name n → ⊥
no_digit name n h d =
    let w : is_name_start (48 + n) ≡ true = sym (ap begins_name d.1) ∙ h in
    let v : false ≡ true = sym (starts_none n d.0) ∙ w in
    absurd (cc)

no_number : (name : List ℕ) (o : Option ℕ) → IsTrue (begins_name name) → IsNumberOf name o → o ≡ None
no_number name None h d = refl
no_number name (Some n) h d = absurd (no_digit name n h d)

get_all : {A : Type 0} (P : A → Type 0) (xs : List A) (i : ℕ) (x : A) → All P xs → slice_get xs i ≡ Some x → P x
get_all P xs i x h e = subst P (get_or_from_slice_get xs i x x e) (h i x (slice_get_within xs i x e))

module _ (policy : PlainPolicy) (valid : IsValid policy) where
  found_name : (o : Option PlainDescriptor) (name : List ℕ) → option_map (λ (d : PlainDescriptor). d.name) o ≡ Some name
      → (descriptor : PlainDescriptor) × (o ≡ Some descriptor) × (descriptor.name ≡ name)
  found_name None name e = absurd (none-some name e)
  found_name (Some d) name e = (d, refl, same_Some d.name name e)

  named_variable : (name : List ℕ) (d : ℕ) → IsTrue (begins_name name) → number_in (names_of policy).descriptors name ≡ Some d → Variable policy d
  named_variable name d h e =
      let at = sym (slice_get-map (λ (k : PlainDescriptor). k.name) policy.descriptors d) ∙ named_at (names_of policy).descriptors name d e in
      let r = found_name (slice_get policy.descriptors d) name at in
      let v = get_all IsValidDescriptor policy.descriptors d r.0 valid.descriptors r.1 in
      (r.0, r.1, no_number r.0.name r.0.number (subst (λ k. IsTrue (begins_name k)) (sym r.2) h) v.number)

  module _ (source : List ℕ) (file : File) where
    opens_variable : (name : List ℕ) (o : Option ℕ) → IsTrue (begins_name name)
        → ((d : ℕ) → o ≡ Some d → number_in (names_of policy).descriptors name ≡ Some d)
        → OpensFit policy (opens_if o)
    opens_variable name None h e = tt
    opens_variable name (Some d) h e = named_variable name d h (e d refl)

    closes_none : (o : Option ℕ) → OpensFit policy (closes_if o)
    closes_none None = tt
    closes_none (Some d) = tt

    closing_none : (b : Bool) (t : Tree)
        → OpensFit policy (cond b (closes_if (descriptor_of (scene_of (names_of policy) source file) t)) Computes)
    closing_none true t = closes_none (descriptor_of (scene_of (names_of policy) source file) t)
    closing_none false t = tt

    closed_none : (name : List ℕ) (ts : Trees)
        → OpensFit policy (closed_by (scene_of (names_of policy) source file) name ts)
    closed_none name (more t none) = closing_none (bytes_eq name (codes "close")) t
    closed_none name none = tt
    closed_none name (more t (more u ts)) = tt

    call_opens : (name : List ℕ) (ts : Trees) (o : Option ℕ)
        → OpensFit policy (call_action (scene_of (names_of policy) source file) name ts o)
    call_opens name ts (Some f) = tt
    call_opens name ts None = closed_none name ts

    assigned_opens : (x : Name) (name : List ℕ) (o : Option ℕ) → IsTrue (begins_name (text source x))
        → OpensFit policy (assigned_action (scene_of (names_of policy) source file) x name o)
    assigned_opens x name (Some f) h = tt
    assigned_opens x name None h = opens_variable (text source x) (number_in (names_of policy).descriptors (text source x)) h (λ d e. e)

    acts_open : (t : Tree) → AssignsName source t
        → OpensFit policy (action_of (scene_of (names_of policy) source file) t)
    acts_open (TreeNode (CallOp f) arguments from to) h =
        call_opens (text source f) arguments (number_in (scene_of (names_of policy) source file).functions (text source f))
    acts_open (TreeNode (Assign zero) (more (TreeNode NameOp parts at end) (more (TreeNode (CallOp f) arguments at' end') none)) from to) h =
        let x : Name = record { from = at; to = end } in
        assigned_opens x (text source f) (number_in (scene_of (names_of policy) source file).functions (text source f)) (h x refl)
    acts_open _ h = tt

    point_opens : (w : Point) → PointFits (Variable policy) (λ d. Unit {0}) (λ l. Unit {0}) (λ callee. Unit {0}) (λ f. Unit {0}) (λ callee h. tt) w
        → (d : ℕ) → w ≡ point.Open d → Variable policy d
    point_opens (point.Open d) h e z = let same : d ≡ e = cc in subst (Variable policy) same h
    point_opens point.Entry h e z = cc
    point_opens point.Step h e z = cc
    point_opens point.Branch h e z = cc
    point_opens (point.Label l) h e z = cc
    point_opens (point.Close d) h e z = cc
    point_opens (point.Call f) h e z = cc
    point_opens point.Exit h e z = cc

    plan_opens : AssignsNames source file → (p : ℕ) (n : Node) → slice_get (nodes (plan_of (names_of policy) source file)) p ≡ Some n → (d : ℕ)
        → n.point ≡ point.Open d → Variable policy d
    plan_opens assigns p n e =
        let names = names_of policy in
        let c = scene_of names source file in
        let rs = (plan_of names source file).routines in
        let U = λ (d : ℕ). Unit {0} in
        let K = λ (callee : Callee). Unit {0} in
        let each = λ (f : ℕ) (r : Routine) (s : slice_get rs f ≡ Some r).
        routine_fits_where (Variable policy) U U K c (AssignsName source) acts_open (λ name. tt) file.functions 0 f r assigns s in
        point_opens n.point (point_fits (Variable policy) U U K U (λ callee h. tt) (nodes (plan_of names source file)) p n
        (points_fit_from (Variable policy) U U K U (λ callee h. tt) 0 rs 0 each) e)

pub programs_open_variables : (policy : PlainPolicy) (source : List ℕ) (file : File) (g : Graph) → IsValid policy
    → IsGraph (names_of policy) source file g → AssignsNames source file
    → (p : ℕ) (n : Node) → slice_get g.nodes.items p ≡ Some n → OpensVariable policy n
programs_open_variables policy source file g valid i assigns p n e =
    of_graph (names_of policy) source file g (λ ns ps m. slice_get ns p ≡ Some n → OpensVariable policy n) i
    (plan_opens policy valid source file assigns p n) e
