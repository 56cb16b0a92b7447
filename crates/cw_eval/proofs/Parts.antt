-- Arguments, one after the other.
use Rattle.std.proofs.Common.{◌≡◌, ℕ, ◌+◌, List, [], ◌∷◌, map, refl, ap}
use Rattle.cw_syntax.specs.declared.program.Expr.{Expr}
use Rattle.cw_syntax.specs.Trees.{declared_of, tree_of, trees_of}
use Rattle.cw_value.specs.Expressions.{Scope, Memory, Outcome, gives, stops, ◌and◌, Location, arguments, value}
use Rattle.cw_syntax.specs.declared.program.Item.{Item}
use Rattle.cw_value.specs.Declarations.{declares_all, filled}
use Rattle.cw_value.specs.Deeds.{values}
use Rattle.cw_eval.specs.Parts.{argument, declared_one, listed_at}
use Rattle.cw_eval.proofs.Along.{along}
use Rattle.cw_eval.proofs.Each.{each}

same_and : {A B : Type 0} (o : Outcome A) (f g : A → Memory → Outcome B) → ((x : A) (k : Memory) → f x k ≡ g x k) → (o and f) ≡ (o and g)
same_and (gives x k) f g same = same x k
same_and (stops s k) f g same = refl

pub arguments_each : (s : Scope) (es : List Expr) (m : Memory) → arguments s (trees_of es) m ≡ each (λ e. argument s (tree_of e)) es m
arguments_each s [] m = refl
arguments_each s (e ∷ es) m =
    same_and (argument s (tree_of e) m) (λ a k. arguments s (trees_of es) k and (λ rest l. gives (a ∷ rest) l)) (λ a k. each (λ e. argument s (tree_of e)) es k and (λ rest l. gives (a ∷ rest) l))
    (λ a k. ap (λ o. o and (λ rest l. gives (a ∷ rest) l)) (arguments_each s es k))

pub filled_along : (s : Scope) (p : Location) (size i : ℕ) (es : List Expr) (m : Memory) → filled s p size i (trees_of es) m ≡ along (λ i e. listed_at s p size i (tree_of e)) i es m
filled_along s p size i [] m = refl
filled_along s p size i (e ∷ es) m =
    same_and (listed_at s p size i (tree_of e) m) (λ d k. filled s p size (i + 1) (trees_of es) k) (λ d k. along (λ i e. listed_at s p size i (tree_of e)) (i + 1) es k)
    (λ d k. filled_along s p size (i + 1) es k)

pub declares_along : (s : Scope) (i : ℕ) (is : List Item) (m : Memory) → declares_all s (map declared_of is) m ≡ along (λ i d. declared_one s (declared_of d)) i is m
declares_along s i [] m = refl
declares_along s i (d ∷ ds) m =
    same_and (declared_one s (declared_of d) m) (λ _ k. declares_all s (map declared_of ds) k) (λ _ k. along (λ i d. declared_one s (declared_of d)) (i + 1) ds k)
    (λ _ k. declares_along s (i + 1) ds k)

pub values_each : (s : Scope) (es : List Expr) (m : Memory) → values s (trees_of es) m ≡ each (λ e. value s (tree_of e)) es m
values_each s [] m = refl
values_each s (e ∷ es) m =
    same_and (value s (tree_of e) m) (λ z k. values s (trees_of es) k and (λ zs l. gives (z ∷ zs) l)) (λ z k. each (λ e. value s (tree_of e)) es k and (λ zs l. gives (z ∷ zs) l))
    (λ z k. ap (λ o. o and (λ zs l. gives (z ∷ zs) l)) (values_each s es k))
