-- Under a policy that stops nothing is changed where nothing can be refused: neither the moves, nor what holds, nor what is needed.
use Rattle.std.proofs.Common.{◌≡◌, ℕ, zero, suc, ◌+◌, List, [], ◌∷◌, Bool, true, false, cond, not, ◌&&◌, ◌||◌, nat_eq, Option, Some, None, refl, sym, ap, ap₂, ◌∙◌}
use Rattle.std.specs.Prelude.{slice_get, nat_lt}
use Rattle.cw_rights.specs.declared.capabilities.Primitive.{Primitive}
use Rattle.cw_rights.specs.declared.capabilities.Primitive.TheVariants.{Limit, Enter, Split}
use Rattle.cw_rights.specs.Policies.{PlainPolicy, is_refusable}
use Rattle.cw_certs.specs.declared.moves.Move.{Move}
use Rattle.cw_certs.specs.declared.moves.Move.TheVariants.{Skip, Try, Grant, Refuse, On, Left, Right, Opened, Failed}
use Rattle.cw_game.specs.declared.spots.Spot.{Spot}
use Rattle.cw_game.specs.declared.spots.Spot.TheVariants.{Visit, Asked, Step, Branch, Label, Open, Close, Call, SplitCall, Exit}
use Rattle.cw_game.specs.Games.{Game, Ret, at_pair, refuses_in, returned, leads_in, Promise, holds_in, Holds, IsLost}
use Rattle.cw_game.specs.Pairs.{has, kept_at}
use Rattle.cw_solve.specs.declared.contexts.Context.{Context}
use Rattle.cw_solve.specs.Contexts.{IsHeight, IsNeeded, of_main, of_call}
use Rattle.cw_audit_laws.specs.Refusing.{ruled_by}
use Rattle.cw_consequences.specs.Unrefused.{unrefused}
use Rattle.cw_consequences.specs.Stopping.{StopKeepsTheGame}

refusable_none : (policy : PlainPolicy) (a : Primitive) → is_refusable (unrefused policy) a ≡ false
refusable_none policy (Limit limit) = refl
refusable_none policy Enter = refl
refusable_none policy Split = refl

-- by stop, whether it can be refused, whether it may be granted
abbrev refuses_by : Bool → Bool → Bool → Bool
refuses_by stop refusable may = (not may || refusable) && not (stop && (refusable && may))

never_matters : (stop refusable may : Bool) → stop ≡ true → refuses_by stop refusable may ≡ refuses_by stop false may
never_matters true true true e = refl
never_matters true true false e = refl
never_matters true false may e = refl
never_matters false refusable may e = cc

-- games of the same positions and states that refuse alike
module _ (g : Game) (x y : PlainPolicy) (refuses : (q : ℕ) (a : Primitive) → refuses_in (ruled_by g x) q a ≡ refuses_in (ruled_by g y) q a) where
  abbrev u : Game
  u = ruled_by g x

  abbrev v : Game
  v = ruled_by g y

  pub leads_same : (p q : ℕ) (rets : List Ret) (s : Option Spot) (by : Move) → leads_in (ruled_by g x) p q rets s by ≡ leads_in (ruled_by g y) p q rets s by
  leads_same p q rets None by = refl
  leads_same p q rets (Some (Visit j i a)) Skip = refl
  leads_same p q rets (Some (Visit j i a)) Try = refl
  leads_same p q rets (Some (Visit j i a)) _ = refl
  leads_same p q rets (Some (Asked j i Split)) Grant = refl
  leads_same p q rets (Some (Asked j i Enter)) Grant = refl
  leads_same p q rets (Some (Asked j i (Limit limit))) Grant = refl
  leads_same p q rets (Some (Asked j i a)) Refuse = ap (λ b. cond b (Some (at_pair (p + 1) q rets)) None) (refuses q a)
  leads_same p q rets (Some (Asked j i a)) _ = refl
  leads_same p q rets (Some (Step n)) On = refl
  leads_same p q rets (Some (Step n)) _ = refl
  leads_same p q rets (Some (Branch m n)) Left = refl
  leads_same p q rets (Some (Branch m n)) Right = refl
  leads_same p q rets (Some (Branch m n)) _ = refl
  leads_same p q rets (Some (Label j l n)) On = refl
  leads_same p q rets (Some (Label j l n)) _ = refl
  leads_same p q rets (Some (Open j d n)) Opened = refl
  leads_same p q rets (Some (Open j d n)) Failed = refl
  leads_same p q rets (Some (Open j d n)) _ = refl
  leads_same p q rets (Some (Close j d n)) On = refl
  leads_same p q rets (Some (Close j d n)) _ = refl
  leads_same p q rets (Some (Call j f n)) On = refl
  leads_same p q rets (Some (Call j f n)) _ = refl
  leads_same p q rets (Some (SplitCall j f n)) On = refl
  leads_same p q rets (Some (SplitCall j f n)) _ = refl
  leads_same p q [] (Some (Exit f)) by = refl
  leads_same p q (r ∷ rets) (Some (Exit f)) On = refl
  leads_same p q (r ∷ rets) (Some (Exit f)) _ = refl

  abbrev Alike : (ℕ → ℕ → Promise → Bool) → (ℕ → ℕ → Promise → Bool) → Type 0
  Alike h k = (p q : ℕ) (e f : Promise) → ((z : ℕ) → e z ≡ f z) → h p q e ≡ k p q f

  holds_in_same : (h k : ℕ → ℕ → Promise → Bool) → Alike h k → (p q : ℕ) (e f : Promise) → ((z : ℕ) → e z ≡ f z) → (s : Option Spot)
      → holds_in (ruled_by g x) h p q e s ≡ holds_in (ruled_by g y) k p q f s
  holds_in_same h k a p q e f w (Some (Visit j i b)) = ap₂ (λ m n. m || n) (a (p + 2) q e f w) (a (p + 1) q e f w)
  holds_in_same h k a p q e f w (Some (Asked j i Split)) =
      ap₂ (λ m n. m && n) (ap (λ n. not (g.states.may_grant q Split) || n) (a (p + 2) q e f w)) (ap₂ (λ m n. not m || n) (refuses q Split) (a (p + 1) q e f w))
  holds_in_same h k a p q e f w (Some (Asked j i Enter)) =
      ap₂ (λ m n. m && n) (ap (λ n. not (g.states.may_grant q Enter) || n) (a (p + 1) (g.states.granted q Enter) e f w)) (ap₂ (λ m n. not m || n) (refuses q Enter) (a (p + 1) q e f w))
  holds_in_same h k a p q e f w (Some (Asked j i (Limit l))) =
      ap₂ (λ m n. m && n) (ap (λ n. not (g.states.may_grant q (Limit l)) || n) (a (p + 1) (g.states.granted q (Limit l)) e f w)) (ap₂ (λ m n. not m || n) (refuses q (Limit l)) (a (p + 1) q e f w))
  holds_in_same h k a p q e f w (Some (Step n)) = a n q e f w
  holds_in_same h k a p q e f w (Some (Branch m n)) = ap₂ (λ b c. b && c) (a m q e f w) (a n q e f w)
  holds_in_same h k a p q e f w (Some (Label j l n)) = ap (λ b. not (g.states.bad q l) && b) (a n (g.states.lettered q l) e f w)
  holds_in_same h k a p q e f w (Some (Open j d n)) = ap₂ (λ b c. b && c) (a n (g.states.opened q d) e f w) (a n (g.states.closed q d) e f w)
  holds_in_same h k a p q e f w (Some (Close j d n)) = a n (g.states.closed q d) e f w
  holds_in_same h k a p q e f w (Some (Call j c n)) = a (g.entry c) q (λ z. h n z e) (λ z. k n z f) (λ z. a n z e f w)
  holds_in_same h k a p q e f w (Some (SplitCall j c n)) = a (g.entry c) q (λ z. h n (g.states.with_rights z q) e) (λ z. k n (g.states.with_rights z q) f) (λ z. a n (g.states.with_rights z q) e f w)
  holds_in_same h k a p q e f w (Some (Exit c)) = ap (λ b. nat_eq c g.main || b) (w q)
  holds_in_same h k a p q e f w None = refl

  holds_alike : (n : ℕ) → Alike (Holds (ruled_by g x) n) (Holds (ruled_by g y) n)
  holds_alike zero p q e f w = refl
  holds_alike (suc n) p q e f w = holds_in_same (Holds u n) (Holds v n) (holds_alike n) p q e f w (slice_get g.spots p)

  pub holds_same : (n p q : ℕ) (e : Promise) → Holds (ruled_by g x) n p q e ≡ Holds (ruled_by g y) n p q e
  holds_same n p q e = holds_alike n p q e e (λ z. refl)

  pub lost_same : (p q : ℕ) (e : Promise) → IsLost (ruled_by g x) p q e → IsLost (ruled_by g y) p q e
  lost_same p q e l = (l.0, sym (holds_same l.0 p q e) ∙ l.1)

  pub height_same : (p q e n : ℕ) → IsHeight (ruled_by g x) p q e n → IsHeight (ruled_by g y) p q e n
  height_same p q e n h = record { lost = sym (holds_same n p q (has e)) ∙ h.lost; least = λ m l. sym (holds_same m p q (has e)) ∙ h.least m l }

  pub needed_same : (c : Context) → IsNeeded (ruled_by g x) c → IsNeeded (ruled_by g y) c
  needed_same _ of_main = of_main
  needed_same _ (of_call c n p q set call need of s es is) =
      of_call c n p q set call (needed_same c need) of s es
      (λ z. is z ∙ ap (λ b. nat_lt z g.states.count && b) (holds_same n call.back (returned g.states (kept_at call.split q) z) (has c.promise)))

-- stop makes both refuse alike
pub refuse_alike : (g : Game) → g.policy.stop ≡ true → (q : ℕ) (a : Primitive) → refuses_in (ruled_by g g.policy) q a ≡ refuses_in (ruled_by g (unrefused g.policy)) q a
refuse_alike g stop q a =
    never_matters g.policy.stop (is_refusable g.policy a) (g.states.may_grant q a) stop
    ∙ sym (ap (λ r. refuses_by g.policy.stop r (g.states.may_grant q a)) (refusable_none g.policy a))

pub refuse_back : (g : Game) → g.policy.stop ≡ true → (q : ℕ) (a : Primitive) → refuses_in (ruled_by g (unrefused g.policy)) q a ≡ refuses_in (ruled_by g g.policy) q a
refuse_back g stop q a = sym (refuse_alike g stop q a)

pub played_alike : StopKeepsTheGame
played_alike g stop = record {
  moves = leads_same g g.policy (unrefused g.policy) (refuse_alike g stop);
  holds = holds_same g g.policy (unrefused g.policy) (refuse_alike g stop);
  needed = λ c. (
    needed_same g g.policy (unrefused g.policy) (refuse_alike g stop) c,
    needed_same g (unrefused g.policy) g.policy (refuse_back g stop) c,
  );
}
