-- The steps of blocks and of `for` loops, by the statements that they hold.
use Rattle.std.proofs.Common.{◌≡◌, ℕ, Vec, Box, Option, Some, None, Global, refl, ap, ap₂, ◌∙◌}
use Rattle.std.specs.Prelude.{option_map, is_some}
use denote.Hole.Carrier
use Rattle.cw_syntax.specs.declared.program.Expr.{Expr}
use Rattle.cw_syntax.specs.declared.program.Stmt.{Stmt}
use Rattle.cw_syntax.specs.declared.program.What.{What}
use Rattle.cw_syntax.specs.declared.program.Head.{Head, Head', out-Head, Head-init-None', Head-init-Some'}
use Rattle.cw_syntax.specs.declared.program.What.TheVariants.{Block, For as ForWhat}
use Rattle.cw_syntax.specs.Trees.{Statement, form_of, for_of, tree_of, statement_of}
use Rattle.cw_syntax.specs.Plans.{Stm, Group, For, Scene, steps_of, steps_of_form}
use Rattle.cw_syntax.proofs.Shapes.{block_form}
use Rattle.cw_resolve.specs.Scenes.{stm_in, stms_in}

some_tree : (e : Option Expr) → is_some (option_map tree_of e) ≡ is_some e
some_tree None = refl
some_tree (Some e) = refl

module _ (s : Scene) where
  -- the steps of a block
  pub block_steps : (at : ℕ) (w : What) (v : Vec Stmt Global) → w ≡ Block v → steps_of_form s at (form_of w) ≡ Group (stms_in s v.items)
  block_steps at w v e = ap (steps_of_form s at) (block_form w v e)

  -- a `for` with this head: the place of its init, whether it has a condition, whether it has a step
  abbrev pub for_by : ℕ → Head → Stm → Stm
  for_by at h body = For at (option_map (λ i. i.from) (out-Head h).init) (is_some (out-Head h).test) (is_some (out-Head h).step) body

  pub head_steps : (at : ℕ) (h : Head) (body : Statement) → steps_of_form s at (for_of h body) ≡ for_by at h (steps_of s body)
  unfolding out-Head Carrier.out
  head_steps at (Head' Head-init-None' test step) body = ap₂ (λ t u. For at None t u (steps_of s body)) (some_tree test) (some_tree step)
  head_steps at (Head' (Head-init-Some' what from to) test step) body = ap₂ (λ t u. For at (Some from) t u (steps_of s body)) (some_tree test) (some_tree step)

  -- the steps of a `for`
  pub for_steps : (at : ℕ) (w : What) (h : Box Head Global) (b : Box Stmt Global) → w ≡ ForWhat h b → steps_of_form s at (form_of w) ≡ for_by at h.value (stm_in s b.value)
  for_steps at w h b e = ap (λ w. steps_of_form s at (form_of w)) e ∙ head_steps at h.value (statement_of b.value)
