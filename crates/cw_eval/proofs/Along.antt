-- Outcomes that give nothing but a memory, one after the other, and what is left of them in a loop.
use Rattle.std.proofs.Common.{◌≡◌, ℕ, ◌+◌, ◌<◌, ◌≤◌, List, [], ◌∷◌, drop, length, get_or, ap, sym, ◌∙◌}
use Rattle.std.proofs.lemmas.List.{at_drop_more, at_drop_all}
use Rattle.cw_value.specs.declared.values.Stop.{Stop}
use Rattle.cw_value.specs.Expressions.{Memory, Outcome, gives, stops, ◌and◌}
use Rattle.cw_value.specs.Declarations.{Done, done}

abbrev pub along : {X : Type 0} → (ℕ → X → Memory → Outcome Done) → ℕ → List X → Memory → Outcome Done
along f i [] m = gives done m
along f i (x ∷ xs) m = f i x m and (λ d k. along f (i + 1) xs k)

module _ {X : Type 0} (f : ℕ → X → Memory → Outcome Done) (xs : List X) (i : ℕ) (m : Memory) where
  unfolded : (x : X) → i < length xs → x ≡ get_or xs i x → along f i (drop i xs) m ≡ (f i x m and (λ d k. along f (i + 1) (drop (i + 1) xs) k))
  unfolded x within is = at_drop_more (λ l. along f i l m) xs i x within ∙ ap (λ x'. along f i (x' ∷ drop (i + 1) xs) m) (sym is)

  pub step_stops : (x : X) (s : Stop) (k : Memory) → i < length xs → x ≡ get_or xs i x → f i x m ≡ stops s k → along f i (drop i xs) m ≡ stops s k
  step_stops x s k within is stopped = unfolded x within is ∙ ap (λ o. o and (λ d k. along f (i + 1) (drop (i + 1) xs) k)) stopped

  pub all_done : length xs ≤ i → along f i (drop i xs) m ≡ gives done m
  all_done le = at_drop_all (λ l. along f i l m) xs i le
