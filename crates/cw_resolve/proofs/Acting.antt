-- What an expression does, by its operator and its parts.
use Rattle.std.proofs.Common.{◌≡◌, ◌≢◌, ℕ, List, [], ◌∷◌, None, length, refl, ap, ap₂, ◌∙◌}
use Rattle.cw_syntax.specs.declared.program.Name.{Name}
use Rattle.cw_syntax.specs.declared.program.Op.{Op}
use Rattle.cw_syntax.specs.declared.program.Op.TheVariants.{Name as NameOp, Number, Call as CallOp, Assign}
use Rattle.cw_syntax.specs.declared.program.Expr.{Expr, out-Expr}
use Rattle.std.specs.Fmt.{decimal}
use Rattle.cw_syntax.specs.Names.{slice, text, number_in}
use Rattle.cw_syntax.specs.Trees.{Tree, Node, Trees, none, more, tree_of, trees_of}
use Rattle.cw_syntax.specs.Plans.{Scene, Action, Computes, Opens, Closes, Invokes, action_of, call_action, assigned_action, descriptor_of, closed_by}
use Rattle.cw_resolve.specs.declared.actions.Act.{Act}
use Rattle.cw_resolve.specs.declared.actions.Act.TheVariants.{Computes as ComputesAct, Opens as OpensAct, Closes as ClosesAct, Invokes as InvokesAct}
use Rattle.cw_syntax.proofs.Shapes.{node_is}
use Rattle.cw_resolve.specs.Acts.{act_of}

module _ (s : Scene) where
  pub names_one : (op : Op) (ts : Trees) (a b : ℕ) → op ≡ NameOp → descriptor_of s (Node op ts a b) ≡ number_in s.names.descriptors (slice s.source a b)
  names_one op ts a b e = ap (λ o. descriptor_of s (Node o ts a b)) e

  pub numbers_one : (op : Op) (ts : Trees) (a b n : ℕ) → op ≡ Number n → descriptor_of s (Node op ts a b) ≡ number_in s.names.descriptors (decimal n)
  numbers_one op ts a b n e = ap (λ o. descriptor_of s (Node o ts a b)) e

  pub names_none : (op : Op) (ts : Trees) (a b : ℕ) → (op ≢ NameOp) → ((n : ℕ) → op ≢ Number n) → descriptor_of s (Node op ts a b) ≡ None
  names_none NameOp ts a b h k = absurd (h refl)
  names_none (Number n) ts a b h k = absurd (k n refl)
  names_none _ ts a b h k = refl

  pub closes_none : (name : List ℕ) (es : List Expr) → (length es ≢ 1) → closed_by s name (trees_of es) ≡ Computes
  closes_none name [] h = refl
  closes_none name (e ∷ []) h = absurd (h refl)
  closes_none name (e ∷ (f ∷ es)) h = refl

  pub calls : (op : Op) (ts : Trees) (a b : ℕ) (f : Name) → op ≡ CallOp f → action_of s (Node op ts a b) ≡ call_action s (text s.source f) ts (number_in s.functions (text s.source f))
  calls op ts a b f e = ap (λ o. action_of s (Node o ts a b)) e

  pub computes : (op : Op) (ts : Trees) (a b : ℕ) → ((f : Name) → op ≢ CallOp f) → ((n : ℕ) → op ≢ Assign n) → action_of s (Node op ts a b) ≡ Computes
  computes (CallOp f) ts a b h k = absurd (h f refl)
  computes (Assign n) ts a b h k = absurd (k n refl)
  computes _ ts a b h k = refl

  -- an assignment whose first part is no name, and one whose second is no call
  other_first : (op : Op) (qs : Trees) (c d : ℕ) (rest : Trees) (a b : ℕ) → (op ≢ NameOp) → action_of s (Node (Assign 0) (more (Node op qs c d) rest) a b) ≡ Computes
  other_first NameOp qs c d rest a b h = absurd (h refl)
  other_first (CallOp f) qs c d rest a b h = refl
  other_first _ qs c d rest a b h = refl

  other_second : (qs : Trees) (c d : ℕ) (op : Op) (rs : Trees) (e f : ℕ) (a b : ℕ) → ((g : Name) → op ≢ CallOp g)
      → action_of s (Node (Assign 0) (more (Node NameOp qs c d) (more (Node op rs e f) none)) a b) ≡ Computes
  other_second qs c d (CallOp g) rs e f a b h = absurd (h g refl)
  other_second qs c d _ rs e f a b h = refl

  pub first_is_other : (t : Tree) (op : Op) (qs : Trees) (c d : ℕ) (rest : Trees) (a b : ℕ) → t ≡ Node op qs c d → (op ≢ NameOp) → action_of s (Node (Assign 0) (more t rest) a b) ≡ Computes
  first_is_other t op qs c d rest a b e h = ap (λ u. action_of s (Node (Assign 0) (more u rest) a b)) e ∙ other_first op qs c d rest a b h

  pub second_is_other : (t u : Tree) (op op' : Op) (qs rs : Trees) (c d e f : ℕ) (a b : ℕ) → t ≡ Node op qs c d → u ≡ Node op' rs e f → op ≡ NameOp → ((g : Name) → op' ≢ CallOp g)
      → action_of s (Node (Assign 0) (more t (more u none)) a b) ≡ Computes
  second_is_other t u op op' qs rs c d e f a b p q o h =
      ap₂ (λ x y. action_of s (Node (Assign 0) (more x (more y none)) a b)) (p ∙ ap (λ o. Node o qs c d) o) q ∙ other_second qs c d op' rs e f a b h

  pub assigns : (t u : Tree) (op op' : Op) (qs rs : Trees) (c d e f : ℕ) (a b : ℕ) (g : Name) → t ≡ Node op qs c d → u ≡ Node op' rs e f → op ≡ NameOp → op' ≡ CallOp g
      → action_of s (Node (Assign 0) (more t (more u none)) a b) ≡ assigned_action s (record { from = c; to = d }) (text s.source g) (number_in s.functions (text s.source g))
  assigns t u op op' qs rs c d e f a b g p q o o' =
      ap₂ (λ x y. action_of s (Node (Assign 0) (more x (more y none)) a b)) (p ∙ ap (λ o. Node o qs c d) o) (q ∙ ap (λ o. Node o rs e f) o')

  one_part : (op : Op) (qs : Trees) (c d a b : ℕ) → action_of s (Node (Assign 0) (more (Node op qs c d) none) a b) ≡ Computes
  one_part NameOp qs c d a b = refl
  one_part _ qs c d a b = refl

  three_parts : (op op' : Op) (qs rs : Trees) (c d e f : ℕ) (v : Tree) (rest : Trees) (a b : ℕ)
      → action_of s (Node (Assign 0) (more (Node op qs c d) (more (Node op' rs e f) (more v rest))) a b) ≡ Computes
  three_parts NameOp (CallOp g) qs rs c d e f v rest a b = refl
  three_parts NameOp _ qs rs c d e f v rest a b = refl
  three_parts _ op' qs rs c d e f v rest a b = refl

  pub not_two : (es : List Expr) (a b : ℕ) → (length es ≢ 2) → action_of s (Node (Assign 0) (trees_of es) a b) ≡ Computes
  not_two [] a b h = refl
  not_two (e ∷ []) a b h = ap (λ t. action_of s (Node (Assign 0) (more t none) a b)) (node_is e) ∙ one_part (out-Expr e).op (trees_of (out-Expr e).parts.items) (out-Expr e).from (out-Expr e).to a b
  not_two (e ∷ (f ∷ [])) a b h = absurd (h refl)
  not_two (e ∷ (f ∷ (g ∷ es))) a b h =
      ap₂ (λ t u. action_of s (Node (Assign 0) (more t (more u (more (tree_of g) (trees_of es)))) a b)) (node_is e) (node_is f)
      ∙ three_parts (out-Expr e).op (out-Expr f).op (trees_of (out-Expr e).parts.items) (trees_of (out-Expr f).parts.items) (out-Expr e).from (out-Expr e).to (out-Expr f).from (out-Expr f).to
      (tree_of g) (trees_of es) a b

-- the action that an act stands for
abbrev pub action_in : Act → Action
action_in ComputesAct = Computes
action_in (OpensAct d) = Opens d
action_in (ClosesAct d) = Closes d
action_in (InvokesAct number split result) = Invokes (record { number = number; split = split; result = result })

pub acts_back : (a : Action) → action_in (act_of a) ≡ a
acts_back Computes = refl
acts_back (Opens d) = refl
acts_back (Closes d) = refl
acts_back (Invokes callee) = refl
