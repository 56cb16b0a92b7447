-- What one function reaches, by the statements of what it reaches, and the least place that forbids splitting it.
use Rattle.std.proofs.Common.{◌≡◌, ◌<◌, ℕ, zero, suc, List, [], ◌∷◌, length, map, get_or, Option, refl, sym, ap, ◌∙◌, subst, arith}
use Rattle.std.specs.List.{Contains}
use Rattle.cw_fixpoint.specs.Closures.{Reached, first, then}
use Rattle.cw_syntax.specs.declared.checked.Checked.{Checked}
use Rattle.cw_syntax.specs.declared.program.Function.{Function}
use Rattle.cw_syntax.specs.declared.program.Stmt.{Stmt}
use Rattle.cw_syntax.specs.Trees.{definition_of, file_of}
use Rattle.cw_syntax.specs.Plans.{Plan, Scene}
use Rattle.cw_rights.specs.Policies.{PlainPolicy}
use Rattle.cw_resolve.specs.Scenes.{scene_in, stms_in, names_of, plan_in}
use Rattle.cw_callgraph.specs.Effects.{callees_all, calls, firsts, Reaches, directly, further}
use Rattle.cw_callgraph.specs.Finding.{direct, spelled_in, AreReached}
use Rattle.cw_callgraph.specs.Forbidding.{Forbids, IsLeast, body_places}
use Rattle.cw_callgraph.specs.Lowest.{at, forbidden, lowest}
use Rattle.cw_callgraph.specs.Walking.{head_bar}
use Rattle.cw_callgraph.proofs.Calling.{calls_at}
use Rattle.cw_callgraph.proofs.Kept.{firsts_from}
use Rattle.cw_callgraph.proofs.Least.{forbidden_is}
use Rattle.cw_callgraph.proofs.Walked.{in_more, none_or, of_either}

-- what the statements of a function call, by its number
pub spelled_at : (s : Scene) (fs : List Function) (f : ℕ) (x : Function) (body : List Stmt) → f < length fs → body ≡ (get_or fs f x).body.items
    → callees_all (stms_in s body) ≡ spelled_in s fs f
spelled_at s [] f x body l b = absurd (omega arith)
spelled_at s (y ∷ ys) zero x body l b = ap (λ (xs : List Stmt). callees_all (stms_in s xs)) b
spelled_at s (y ∷ ys) (suc f) x body l b = spelled_at s ys f x body (omega arith) b

pub bar_at : (F : Function → Option ℕ) (fs : List Function) (f : ℕ) (x : Function) → f < length fs → x ≡ get_or fs f x → F x ≡ at (map F fs) f
bar_at F [] f x l e = absurd (omega arith)
bar_at F (y ∷ ys) zero x l e = ap F e
bar_at F (y ∷ ys) (suc f) x l e = bar_at F ys f x (omega arith) e

-- what a function calls is each of its calls once
once : (s : Scene) (fs : List Function) (f : ℕ) → get_or (map (direct s) fs) f [] ≡ firsts (spelled_in s fs f)
once s [] f = refl
once s (x ∷ xs) zero = refl
once s (x ∷ xs) (suc f) = once s xs f

module _ (plan : Plan) (next : ℕ → List ℕ) (same : (h : ℕ) → calls plan h ≡ firsts (next h)) where
  called : (h g : ℕ) → Contains (next h) g → Contains (calls plan h) g
  called h g c = subst (λ l. Contains l g) (firsts_from (next h) ∙ sym (same h)) (in_more [] (next h) g c)

  spelt : (h g : ℕ) → Contains (calls plan h) g → Contains (next h) g
  spelt h g c = none_or (next h) g (of_either [] (next h) g (subst (λ l. Contains l g) (same h ∙ sym (firsts_from (next h))) c))

  reached : (f g : ℕ) → Reached next (next f) g → Reaches plan f g
  reached f g (first i c) = directly i (called f i c)
  reached f g (then h i l c) = further h i (reached f h l) (called h i c)

  led : (f g : ℕ) → Reaches plan f g → Reached next (next f) g
  led f g (directly i c) = first i (spelt f i c)
  led f g (further h i r c) = then h i (led f h r) (spelt h i c)

module _ (checked : Checked) (policy : PlainPolicy) where
  abbrev functions : List Function
  functions = checked.program.functions.items

  abbrev scene : Scene
  scene = scene_in checked policy

  abbrev bodies : List (Option ℕ)
  bodies = map (λ f. lowest (body_places scene (file_of checked.program) (definition_of f))) functions

  same : (h : ℕ) → calls (plan_in checked policy) h ≡ firsts (spelled_in scene functions h)
  same h = calls_at scene functions 0 h ∙ once scene functions h

  pub least_alone : (f : ℕ) (numbers : List ℕ) (place : Option ℕ) → AreReached (spelled_in scene functions) f numbers
      → place ≡ forbidden (map head_bar functions) bodies f numbers
      → IsLeast (Forbids (names_of policy) checked.source.now (file_of checked.program) f) place
  least_alone f numbers place r e =
      subst (IsLeast (Forbids (names_of policy) checked.source.now (file_of checked.program) f)) (sym e)
      (forbidden_is (names_of policy) checked.source.now (file_of checked.program) functions refl (map head_bar functions) bodies refl refl f numbers
      (λ g. (λ c. reached (plan_in checked policy) (spelled_in scene functions) same f g ((r g).0 c), λ q. (r g).1 (led (plan_in checked policy) (spelled_in scene functions) same f g q))))
