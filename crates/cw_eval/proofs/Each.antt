-- Outcomes one after the other, and what is left of them in a loop.
use Rattle.std.proofs.Common.{◌≡◌, ℕ, ◌+◌, ◌<◌, ◌≤◌, List, [], ◌∷◌, ◌++◌, drop, length, get_or, refl, ap, sym, ◌∙◌, append-nil}
use Rattle.std.proofs.lemmas.List.{append_assoc, at_drop_more, at_drop_all}
use Rattle.cw_value.specs.declared.values.Stop.{Stop}
use Rattle.cw_value.specs.Expressions.{Memory, Outcome, gives, stops, ◌and◌}
use Rattle.cw_eval.specs.declared.halt.Halt.{Halt}
use Rattle.cw_eval.specs.declared.halt.Halt.TheVariants as halt
use Rattle.cw_eval.specs.Shown.{IsHalt}

abbrev pub each : {X Y : Type 0} → (X → Memory → Outcome Y) → List X → Memory → Outcome (List Y)
each f [] m = gives [] m
each f (x ∷ xs) m = f x m and (λ y k. each f xs k and (λ ys l. gives (y ∷ ys) l))

-- those before it are known
abbrev pub behind : {Y : Type 0} → List Y → Outcome (List Y) → Outcome (List Y)
behind before o = o and (λ ys k. gives (before ++ ys) k)

behind_one : {Y : Type 0} (before : List Y) (y : Y) (o : Outcome (List Y)) → behind before (o and (λ ys l. gives (y ∷ ys) l)) ≡ behind (before ++ y ∷ []) o
behind_one before y (gives ys k) = ap (λ zs. gives zs k) (sym (append_assoc before (y ∷ []) ys))
behind_one before y (stops x k) = refl

abbrev pub left : {X Y : Type 0} → (X → Memory → Outcome Y) → List X → ℕ → List Y → Memory → Outcome (List Y)
left f xs i before m = behind before (each f (drop i xs) m)

module _ {X Y : Type 0} (f : X → Memory → Outcome Y) (xs : List X) (i : ℕ) (before : List Y) (m : Memory) where
  unfolded : (x : X) → i < length xs → x ≡ get_or xs i x → left f xs i before m ≡ behind before (f x m and (λ y k. each f (drop (i + 1) xs) k and (λ ys l. gives (y ∷ ys) l)))
  unfolded x within is = at_drop_more (λ l. behind before (each f l m)) xs i x within ∙ ap (λ x'. behind before (each f (x' ∷ drop (i + 1) xs) m)) (sym is)

  pub one_more : (x : X) (y : Y) (k : Memory) → i < length xs → x ≡ get_or xs i x → f x m ≡ gives y k → left f xs i before m ≡ left f xs (i + 1) (before ++ y ∷ []) k
  one_more x y k within is gave =
      unfolded x within is
      ∙ ap (λ o. behind before (o and (λ y k. each f (drop (i + 1) xs) k and (λ ys l. gives (y ∷ ys) l)))) gave
      ∙ behind_one before y (each f (drop (i + 1) xs) k)

  pub one_stops : (x : X) (s : Stop) (k : Memory) → i < length xs → x ≡ get_or xs i x → f x m ≡ stops s k → left f xs i before m ≡ stops s k
  one_stops x s k within is stopped =
      unfolded x within is ∙ ap (λ o. behind before (o and (λ y k. each f (drop (i + 1) xs) k and (λ ys l. gives (y ∷ ys) l)))) stopped

  pub none_left : length xs ≤ i → left f xs i before m ≡ gives before m
  none_left le = at_drop_all (λ l. behind before (each f l m)) xs i le ∙ ap (λ l. gives l m) (append-nil before)

-- an error is that of what it stops
pub halts_too : {A B : Type 0} (h : Halt) (k : Memory) (o : Outcome A) (p : Outcome B) → ((s : Stop) → o ≡ stops s k → p ≡ stops s k) → IsHalt h k o → IsHalt h k p
halts_too (halt.Stop s) k o p on is = on s is
halts_too halt.NoMemory k o p on is = tt
