-- Policies under which a game is played alike: the same one, under a stop the one of which nothing can be refused, and the same one in another format.
use Rattle.std.proofs.Common.{◌≡◌, ℕ, ◌+◌, List, true, cond, not, ◌&&◌, ◌||◌, Option, Some, None, refl, sym, ap, ◌∙◌, subst}
use Rattle.std.specs.Prelude.{slice_get}
use Rattle.cw_core.specs.declared.ids.StateId.{StateId}
use Rattle.cw_core.specs.declared.ids.MemId.{MemId}
use Rattle.cw_rights.specs.declared.capabilities.Primitive.{Primitive}
use Rattle.cw_rights.specs.declared.capabilities.Primitive.TheVariants.{Limit, Enter, Split}
use Rattle.cw_rights.specs.Policies.{PlainPolicy, is_refusable}
use Rattle.cw_game.specs.declared.spots.Spot.{Spot}
use Rattle.cw_game.specs.declared.spots.Spot.TheVariants.{Asked}
use Rattle.cw_game.specs.Games.{Game, refuses_in, resumed, resumed_in}
use Rattle.cw_game.specs.Pairs.{has}
use Rattle.cw_lazy_table.specs.Lazy.{GoesOn}
use Rattle.cw_lazy_table.specs.Live.{IsLive, goes_on}
use Rattle.cw_audit_laws.specs.Refusing.{ruled_by}
use Rattle.cw_consequences.specs.Unrefused.{unrefused}
use Rattle.cw_consequences.proofs.Alike.{lost_same, refuse_alike, refuse_back}
use Rattle.cw_consequences.proofs.Rowed.{live_same, table_kept, table_same}
use Rattle.cw_consequences.specs.Alike.{in_format}
use Rattle.cw_consequences.proofs.Outcomes.{IsLike}

pub same_like : (g : Game) → IsLike g g.policy
same_like g = record { forth = λ q a. refl; back = λ q a. refl; tables = λ functions can t. ((λ h. h), (λ h. h)) }

pub unrefused_like : (g : Game) → g.policy.stop ≡ true → IsLike g (unrefused g.policy)
unrefused_like g stop = record {
  forth = refuse_alike g stop;
  back = refuse_back g stop;
  tables = λ functions can t. (table_kept g functions stop can).1 t;
}

-- ---- a format

refusable_same : (format : ℕ) (policy : PlainPolicy) (a : Primitive) → is_refusable policy a ≡ is_refusable (in_format format policy) a
refusable_same format policy (Limit limit) = refl
refusable_same format policy Enter = refl
refusable_same format policy Split = refl

module _ (format : ℕ) (g : Game) where
  abbrev x : PlainPolicy
  x = g.policy

  abbrev y : PlainPolicy
  y = in_format format g.policy

  forth : (q : ℕ) (a : Primitive) → refuses_in (ruled_by g g.policy) q a ≡ refuses_in (ruled_by g (in_format format g.policy)) q a
  forth q a = ap (λ r. (not (g.states.may_grant q a) || r) && not (g.policy.stop && (r && g.states.may_grant q a))) (refusable_same format g.policy a)

  back : (q : ℕ) (a : Primitive) → refuses_in (ruled_by g (in_format format g.policy)) q a ≡ refuses_in (ruled_by g g.policy) q a
  back q a = sym (forth q a)

  resumes_in : (p q : ℕ) (s : Option Spot) → resumed_in (ruled_by g g.policy) p q s ≡ resumed_in (ruled_by g (in_format format g.policy)) p q s
  resumes_in p q (Some (Asked j i a)) = ap (λ r. cond (g.policy.stop && (r && g.states.may_grant q a)) (Some (p + 1, q)) None) (refusable_same format g.policy a)
  resumes_in p q None = refl
  resumes_in p q (Some _) = refl

  resumes : (p q : ℕ) → resumed (ruled_by g g.policy) p q ≡ resumed (ruled_by g (in_format format g.policy)) p q
  resumes p q = resumes_in p q (slice_get g.spots p)

  live_forth : (p q e : ℕ) → IsLive (ruled_by g g.policy) p q e → IsLive (ruled_by g (in_format format g.policy)) p q e
  live_forth =
      live_same g x y forth back (λ p q e pair live same is n.
      goes_on p q e pair same (sym (resumes p q) ∙ is) (λ l. n (lost_same g y x back pair.0 pair.1 (has e) l)))

  live_back : (p q e : ℕ) → IsLive (ruled_by g (in_format format g.policy)) p q e → IsLive (ruled_by g g.policy) p q e
  live_back =
      live_same g y x back forth (λ p q e pair live same is n.
      goes_on p q e pair same (resumes p q ∙ is) (λ l. n (lost_same g x y forth pair.0 pair.1 (has e) l)))

  goes_forth : (ms : List (StateId × ℕ)) (e : ℕ) (o : Option (ℕ × ℕ)) (m : Option MemId) → GoesOn (ruled_by g g.policy) ms e o m → GoesOn (ruled_by g (in_format format g.policy)) ms e o m
  goes_forth ms e None m h = h
  goes_forth ms e (Some pair) None l = lost_same g x y forth pair.0 pair.1 (has e) l
  goes_forth ms e (Some pair) (Some m) h = ((λ l. h.0 (lost_same g y x back pair.0 pair.1 (has e) l)), h.1)

  goes_back : (ms : List (StateId × ℕ)) (e : ℕ) (o : Option (ℕ × ℕ)) (m : Option MemId) → GoesOn (ruled_by g (in_format format g.policy)) ms e o m → GoesOn (ruled_by g g.policy) ms e o m
  goes_back ms e None m h = h
  goes_back ms e (Some pair) None l = lost_same g y x back pair.0 pair.1 (has e) l
  goes_back ms e (Some pair) (Some m) h = ((λ l. h.0 (lost_same g x y forth pair.0 pair.1 (has e) l)), h.1)

  goes : (ms : List (StateId × ℕ)) (p q e j i : ℕ) (a : Primitive) (m : Option MemId) → IsLive (ruled_by g g.policy) p q e → slice_get g.spots p ≡ Some (Asked j i a)
      → GoesOn (ruled_by g g.policy) ms e (resumed (ruled_by g g.policy) p q) m → GoesOn (ruled_by g (in_format format g.policy)) ms e (resumed (ruled_by g (in_format format g.policy)) p q) m
  goes ms p q e j i a m live es h = subst (λ o. GoesOn (ruled_by g y) ms e o m) (resumes p q) (goes_forth ms e (resumed (ruled_by g x) p q) m h)

  comes : (ms : List (StateId × ℕ)) (p q e j i : ℕ) (a : Primitive) (m : Option MemId) → IsLive (ruled_by g (in_format format g.policy)) p q e → slice_get g.spots p ≡ Some (Asked j i a)
      → GoesOn (ruled_by g (in_format format g.policy)) ms e (resumed (ruled_by g (in_format format g.policy)) p q) m → GoesOn (ruled_by g g.policy) ms e (resumed (ruled_by g g.policy) p q) m
  comes ms p q e j i a m live es h = subst (λ o. GoesOn (ruled_by g x) ms e o m) (sym (resumes p q)) (goes_back ms e (resumed (ruled_by g y) p q) m h)

  pub format_like : IsLike g (in_format format g.policy)
  format_like = record {
    forth = forth;
    back = back;
    tables = λ functions can t. (
      table_same g x y forth back live_forth live_back goes comes t,
      table_same g y x back forth live_back live_forth comes goes t,
    );
  }
