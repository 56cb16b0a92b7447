-- What holds for a number of moves under a promise holds for fewer, and under every promise that has its states.
use Rattle.std.proofs.Common.{◌≡◌, ℕ, zero, suc, ◌+◌, ◌≤◌, Bool, true, false, not, ◌&&◌, ◌||◌, Option, Some, None, nat_eq, refl, sym, ap, ap₂, ◌∙◌, arith}
use Rattle.std.specs.Prelude.{slice_get}
use Rattle.cw_rights.specs.declared.capabilities.Primitive.TheVariants.{Split}
use Rattle.cw_game.specs.declared.spots.Spot.{Spot}
use Rattle.cw_game.specs.declared.spots.Spot.TheVariants.{Visit, Asked, Step, Branch, Label, Open, Close, Call, SplitCall, Exit}
use Rattle.cw_game.specs.Games.{Game, refuses_in, bad_in, Promise, holds_in, Holds}
pub use Rattle.cw_game.specs.Staying.{AreClosed}

-- a bad pair doesn't hold for any move
pub bad_fails : (g : Game) (h : ℕ → ℕ → Promise → Bool) (p q : ℕ) (e : Promise) (o : Option Spot) → bad_in g q o ≡ true → holds_in g h p q e o ≡ false
bad_fails g h p q e (Some (Label j l n)) b = rw b refl
bad_fails g h p q e None b = cc
bad_fails g h p q e (Some _) b = cc

-- if the one is true so is the other
abbrev pub Gives : Bool → Bool → Type 0
Gives a b = a ≡ true → b ≡ true

pub gives_or : (a b c d : Bool) → Gives a c → Gives b d → Gives (a || b) (c || d)
gives_or true b c d f g h = ap (λ z. z || d) (f refl)
gives_or false true true d f g h = refl
gives_or false true false d f g h = g refl
gives_or false false c d f g h = cc

pub gives_and : (a b c d : Bool) → Gives a c → Gives b d → Gives (a && b) (c && d)
gives_and true true c d f g h = ap₂ (λ y z. y && z) (f refl) (g refl)
gives_and true false c d f g h = cc
gives_and false b c d f g h = cc

-- where the choice is there, and where it isn't
gives_where : (yes a b : Bool) → (yes ≡ true → Gives a b) → Gives (not yes || a) (not yes || b)
gives_where true a b f h = f refl h
gives_where false a b f h = refl

gives_unless : (yes a b : Bool) → (yes ≡ false → Gives a b) → Gives (not yes && a) (not yes && b)
gives_unless true a b f h = cc
gives_unless false a b f h = f refl h

module _ (g : Game) (IsState : ℕ → Type 0) (closed : AreClosed g IsState) where
  -- the one promise has the states of the other
  abbrev pub IsWithin : Promise → Promise → Type 0
  IsWithin e e' = (x : ℕ) → IsState x → Gives (e x) (e' x)

  abbrev Rises : (ℕ → ℕ → Promise → Bool) → (ℕ → ℕ → Promise → Bool) → Type 0
  Rises h h' = (p q : ℕ) (e e' : Promise) → IsState q → IsWithin e e' → Gives (h p q e) (h' p q e')

  rises_in : (h h' : ℕ → ℕ → Promise → Bool) → Rises h h' → (p q : ℕ) (e e' : Promise) → IsState q → IsWithin e e' → (o : Option Spot) → slice_get g.spots p ≡ o
      → Gives (holds_in g h p q e o) (holds_in g h' p q e' o)
  rises_in h h' to p q e e' s w None es k = refl
  rises_in h h' to p q e e' s w (Some (Visit j i a)) es k = gives_or (h (p + 2) q e) (h (p + 1) q e) (h' (p + 2) q e') (h' (p + 1) q e') (to (p + 2) q e e' s w) (to (p + 1) q e e' s w) k
  rises_in h h' to p q e e' s w (Some (Asked j i Split)) es k =
      gives_and _ _ _ _
      (gives_where (g.states.may_grant q Split) (h (p + 2) q e) (h' (p + 2) q e') (λ y. to (p + 2) q e e' s w))
      (gives_where (refuses_in g q Split) (h (p + 1) q e) (h' (p + 1) q e') (λ y. to (p + 1) q e e' s w)) k
  rises_in h h' to p q e e' s w (Some (Asked j i a)) es k =
      gives_and _ _ _ _
      (gives_where (g.states.may_grant q a) (h (p + 1) (g.states.granted q a) e) (h' (p + 1) (g.states.granted q a) e')
      (λ y. to (p + 1) (g.states.granted q a) e e' (closed.granted p j i q a es y s) w))
      (gives_where (refuses_in g q a) (h (p + 1) q e) (h' (p + 1) q e') (λ y. to (p + 1) q e e' s w)) k
  rises_in h h' to p q e e' s w (Some (Step n)) es k = to n q e e' s w k
  rises_in h h' to p q e e' s w (Some (Branch m n)) es k = gives_and (h m q e) (h n q e) (h' m q e') (h' n q e') (to m q e e' s w) (to n q e e' s w) k
  rises_in h h' to p q e e' s w (Some (Label j l n)) es k =
      gives_unless (g.states.bad q l) (h n (g.states.lettered q l) e) (h' n (g.states.lettered q l) e') (λ y. to n (g.states.lettered q l) e e' (closed.lettered p j l n q es y s) w) k
  rises_in h h' to p q e e' s w (Some (Open j d n)) es k =
      gives_and (h n (g.states.opened q d) e) (h n (g.states.closed q d) e) (h' n (g.states.opened q d) e') (h' n (g.states.closed q d) e')
      (to n (g.states.opened q d) e e' (closed.opened p j d n q es s) w) (to n (g.states.closed q d) e e' (closed.failed p j d n q es s) w) k
  rises_in h h' to p q e e' s w (Some (Close j d n)) es k = to n (g.states.closed q d) e e' (closed.closed p j d n q es s) w k
  rises_in h h' to p q e e' s w (Some (Call j f n)) es k = to (g.entry f) q (λ x. h n x e) (λ x. h' n x e') s (λ x t. to n x e e' t w) k
  rises_in h h' to p q e e' s w (Some (SplitCall j f n)) es k =
      to (g.entry f) q (λ x. h n (g.states.with_rights x q) e) (λ x. h' n (g.states.with_rights x q) e') s (λ x t. to n (g.states.with_rights x q) e e' (closed.returned p j f n x q es t s) w) k
  rises_in h h' to p q e e' s w (Some (Exit f)) es k = gives_or (nat_eq f g.main) (e q) (nat_eq f g.main) (e' q) (λ y. y) (w q s) k

  -- both at once
  pub holds_rises : (m n p q : ℕ) (e e' : Promise) → m ≤ n → IsState q → IsWithin e e' → Gives (Holds g n p q e) (Holds g m p q e')
  holds_rises zero n p q e e' le s w k = refl
  holds_rises (suc m) zero p q e e' le s w k = absurd (omega (arith, le))
  holds_rises (suc m) (suc n) p q e e' le s w k =
      rises_in (Holds g n) (Holds g m) (λ p q e e' s w. holds_rises m n p q e e' (omega (arith, le)) s w) p q e e' s w (slice_get g.spots p) refl k

  -- what is lost within a number of moves is so within more, and under every promise that has fewer states
  pub lost_rises : (m n p q : ℕ) (e e' : Promise) → m ≤ n → IsState q → IsWithin e e' → Holds g m p q e' ≡ false → Holds g n p q e ≡ false
  lost_rises m n p q e e' le s w h = by (Holds g n p q e) refl
    where
      by : (b : Bool) → Holds g n p q e ≡ b → Holds g n p q e ≡ false
      by false t = t
      by true t = let y : true ≡ false = sym (holds_rises m n p q e e' le s w t) ∙ h in cc
