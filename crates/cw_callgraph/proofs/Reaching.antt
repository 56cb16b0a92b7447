-- What a function reaches, by the rows of a table.
use Rattle.std.proofs.Common.{◌≡◌, ℕ, List, sym, subst}
use Rattle.std.specs.List.{Contains}
use Rattle.cw_fixpoint.specs.Closures.{Reached, first, then}
use Rattle.cw_syntax.specs.Plans.{Plan}
use Rattle.cw_callgraph.specs.Effects.{calls, Reaches, directly, further}
use Rattle.cw_callgraph.specs.Finding.{AreReached}

module _ (plan : Plan) (next : ℕ → List ℕ) (same : (h : ℕ) → next h ≡ calls plan h) where
  pub reached : (f g : ℕ) → Reached next (next f) g → Reaches plan f g
  reached f g (first i c) = directly i (subst (λ l. Contains l i) (same f) c)
  reached f g (then h i l c) = further h i (reached f h l) (subst (λ l. Contains l i) (same h) c)

  pub led : (f g : ℕ) → Reaches plan f g → Reached next (next f) g
  led f g (directly i c) = first i (subst (λ l. Contains l i) (sym (same f)) c)
  led f g (further h i r c) = then h i (led f h r) (subst (λ l. Contains l i) (sym (same h)) c)

-- what is reached by the rows is what is reached by the plan
pub same_reach : (plan : Plan) (next : ℕ → List ℕ) → ((h : ℕ) → next h ≡ calls plan h) → (f : ℕ) (numbers : List ℕ) → AreReached next f numbers
    → (g : ℕ) → (Contains numbers g → Reaches plan f g) × (Reaches plan f g → Contains numbers g)
same_reach plan next same f numbers r g = (λ there. reached plan next same f g ((r g).0 there), λ reaches. (r g).1 (led plan next same f g reaches))
