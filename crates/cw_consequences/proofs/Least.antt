-- Under a policy that stops the strategy by least heights is the same where nothing can be refused.
use Rattle.std.proofs.Common.{◌≡◌, ℕ, zero, suc, ◌+◌, ◌-◌, List, [], ◌∷◌, cond, ◌||◌, map, Option, Some, None, refl, ap, ap₂, ◌∙◌, subst}
use Rattle.std.specs.Prelude.{slice_get, option_map, nat_lt, filter_map, Contains}
use Rattle.std.specs.List.{range_with_len}
use Rattle.cw_rights.specs.declared.capabilities.Primitive.{Primitive}
use Rattle.cw_rights.specs.Policies.{PlainPolicy}
use Rattle.cw_certs.specs.declared.moves.Move.{Move}
use Rattle.cw_certs.specs.Strategies.{Strategy}
use Rattle.cw_fixpoint.specs.Closures.{Reached, first, then}
use Rattle.cw_game.specs.declared.spots.Spot.{Spot}
use Rattle.cw_game.specs.declared.spots.Spot.TheVariants.{Visit, Label, Exit}
use Rattle.cw_game.specs.Games.{Game, refuses_in, returned, bad_in, Promise, Holds}
use Rattle.cw_game.specs.Pairs.{has, Called, call_in, is_call_in, is_exit_in, kept_at, all_states}
use Rattle.cw_product.specs.Moves.{pair_of, next_at}
use Rattle.cw_solve.specs.Sets.{set_of}
use Rattle.cw_least_strategy.specs.declared.key.Key.{Key}
use Rattle.cw_least_strategy.specs.declared.key.Way.{Way}
use Rattle.cw_least_strategy.specs.Heights.{others, height_within}
use Rattle.cw_least_strategy.specs.Strategies.{key_cmp, below, moves, way, sooner, best, after_return, is_lost_after, aim_at, back_at, backs_at, Both, Into, goes, inner, act_in, act}
use Rattle.cw_least_strategy.specs.Strategies.{keys_in, named, how_by, row_at, start_key, IsLeastStrategy}
use Rattle.cw_audit_laws.specs.Refusing.{ruled_by}
use Rattle.cw_consequences.specs.Unrefused.{unrefused}
use Rattle.cw_consequences.specs.Stopping.{StopKeepsTheStrategy}
use Rattle.cw_consequences.proofs.Alike.{leads_same, holds_same, height_same, refuse_alike, refuse_back}
use Rattle.cw_consequences.proofs.Rowed.{exactly}

pub same_functions : {A B : Type 0} (f h : A → B) → ((z : A) → f z ≡ h z) → f ≡ h
same_functions f h w = λ i z. w z i

module _ (g : Game) (x y : PlainPolicy) (refuses : (q : ℕ) (a : Primitive) → refuses_in (ruled_by g x) q a ≡ refuses_in (ruled_by g y) q a) where
  abbrev u : Game
  u = ruled_by g x

  abbrev v : Game
  v = ruled_by g y

  within_same : (n p q : ℕ) (e : Promise) → height_within (ruled_by g x) n p q e ≡ height_within (ruled_by g y) n p q e
  within_same zero p q e = refl
  within_same (suc n) p q e =
      ap (λ b. cond b (cond (Holds u (suc n) p q e) 0 (suc n)) (height_within u n p q e)) (holds_same g x y refuses n p q e)
      ∙ ap (λ b. cond (Holds v n p q e) (cond b 0 (suc n)) (height_within u n p q e)) (holds_same g x y refuses (suc n) p q e)
      ∙ ap (λ h. cond (Holds v n p q e) (cond (Holds v (suc n) p q e) 0 (suc n)) h) (within_same n p q e)

  below_same : (k : Key) (p q aim : ℕ) → below (ruled_by g x) k p q aim ≡ below (ruled_by g y) k p q aim
  below_same k p q aim = ap (λ h. record { height = h; pos = p; state = q; aim = aim }) (within_same (k.height - 1) p q (has (others g aim)))

  bad_same : (q : ℕ) (s : Option Spot) → bad_in (ruled_by g x) q s ≡ bad_in (ruled_by g y) q s
  bad_same q (Some (Label j l n)) = refl
  bad_same q None = refl
  bad_same q (Some _) = refl

  next_same : (p q : ℕ) (by : Move) → next_at (ruled_by g x) p q by ≡ next_at (ruled_by g y) p q by
  next_same p q by =
      let s = slice_get g.spots p in
      ap₂ (λ b c. cond (b || (is_call_in s || is_exit_in s)) None (option_map pair_of c)) (bad_same q s) (leads_same g x y refuses p q [] s by)

  way_same : (k : Key) (by : Move) → way (ruled_by g x) k by ≡ way (ruled_by g y) k by
  way_same k by = ap (option_map to_u) (next_same k.pos k.state by) ∙ ap (λ f. option_map f (next_at v k.pos k.state by)) (same_functions to_u to_v ways)
    where
      to_u : ℕ × ℕ → Way
      to_u r = record { by = by; to = below (ruled_by g x) k r.0 r.1 k.aim }

      to_v : ℕ × ℕ → Way
      to_v r = record { by = by; to = below (ruled_by g y) k r.0 r.1 k.aim }

      ways : (r : ℕ × ℕ) → to_u r ≡ to_v r
      ways r = ap (λ (t : Key). record { by = by; to = t }) (below_same k r.0 r.1 k.aim)

  best_same : (k : Key) (ms : List Move) → best (ruled_by g x) k ms ≡ best (ruled_by g y) k ms
  best_same k [] = refl
  best_same k (by ∷ later) = ap₂ sooner (way_same k by) (best_same k later)

  after_same : (k : Key) (c : Called) (z : ℕ) → after_return (ruled_by g x) k c z ≡ after_return (ruled_by g y) k c z
  after_same k c z = below_same k c.back (returned g.states (kept_at c.split k.state) z) k.aim

  lost_same : (k : Key) (c : Called) (z : ℕ) → is_lost_after (ruled_by g x) k c z ≡ is_lost_after (ruled_by g y) k c z
  lost_same k c z = ap (λ (r : Key). nat_lt 0 r.height) (after_same k c z)

  aim_same : (k : Key) (c : Called) → aim_at (ruled_by g x) k c ≡ aim_at (ruled_by g y) k c
  aim_same k c = ap (λ f. set_of f g.states.count) (same_functions (is_lost_after u k c) (is_lost_after v k c) (lost_same k c))

  back_same : (k : Key) (c : Called) (z : ℕ) → back_at (ruled_by g x) k c z ≡ back_at (ruled_by g y) k c z
  back_same k c z = ap₂ (λ b r. cond b (Some (z, r)) None) (lost_same k c z) (after_same k c z)

  backs_same : (k : Key) (c : Called) → backs_at (ruled_by g x) k c ≡ backs_at (ruled_by g y) k c
  backs_same k c = ap (λ f. filter_map f (range_with_len 0 g.states.count)) (same_functions (back_at u k c) (back_at v k c) (back_same k c))

  inner_same : (k : Key) (s : Option Spot) → inner (ruled_by g x) k s ≡ inner (ruled_by g y) k s
  inner_same k (Some (Visit j i a)) = ap₂ Both (below_same k (k.pos + 2) k.state k.aim) (below_same k (k.pos + 1) k.state k.aim)
  inner_same k (Some (Exit f)) = refl
  inner_same k None = ap goes (best_same k moves)
  inner_same k (Some _) = ap goes (best_same k moves)

  act_in_same : (k : Key) (s : Option Spot) (o : Option Called) → act_in (ruled_by g x) k s o ≡ act_in (ruled_by g y) k s o
  act_in_same k s None = inner_same k s
  act_in_same k s (Some c) =
      ap₂ Into (below_same k (g.entry c.function) k.state (aim_at u k c) ∙ ap (below v k (g.entry c.function) k.state) (aim_same k c)) (backs_same k c)

  act_same : (k : Key) → act (ruled_by g x) k ≡ act (ruled_by g y) k
  act_same k = act_in_same k (slice_get g.spots k.pos) (call_in (slice_get g.spots k.pos))

  reached_same : (starts : List Key) (k : Key) → Reached (named (ruled_by g x)) starts k → Reached (named (ruled_by g y)) starts k
  reached_same starts k (first _ c) = first k c
  reached_same starts k (then a _ r c) = then a k (reached_same starts a r) (subst (λ l. Contains l k) (ap keys_in (act_same a)) c)

  rows_same : (keys : List Key) → map (row_at (ruled_by g x) keys) keys ≡ map (row_at (ruled_by g y) keys) keys
  rows_same keys = ap (λ f. map f keys) (same_functions (row_at u keys) (row_at v keys) rows)
    where
      rows : (k : Key) → row_at (ruled_by g x) keys k ≡ row_at (ruled_by g y) keys k
      rows k = ap (λ a. record { pos = k.pos; state = k.state; aim = k.aim; how = how_by keys a }) (act_same k)

module _ (g : Game) (x y : PlainPolicy)
    (forth : (q : ℕ) (a : Primitive) → refuses_in (ruled_by g x) q a ≡ refuses_in (ruled_by g y) q a)
    (back : (q : ℕ) (a : Primitive) → refuses_in (ruled_by g y) q a ≡ refuses_in (ruled_by g x) q a) where
  pub strategy_same : (s : Strategy) → IsLeastStrategy (ruled_by g x) s → IsLeastStrategy (ruled_by g y) s
  strategy_same s h =
      let starts = start_key g h.height ∷ [] in
      record {
        height = h.height;
        is_height = height_same g x y forth (g.entry g.main) g.states.start (all_states g) h.height h.is_height;
        keys = h.keys;
        exactly = exactly key_cmp (Reached (named (ruled_by g x)) starts) (Reached (named (ruled_by g y)) starts) h.keys (reached_same g x y forth starts) (reached_same g y x back starts) h.exactly;
        states = h.states;
        rows = h.rows ∙ rows_same g x y forth h.keys;
      }

pub strategy_kept : StopKeepsTheStrategy
strategy_kept g stop s = (
  strategy_same g g.policy (unrefused g.policy) (refuse_alike g stop) (refuse_back g stop) s,
  strategy_same g (unrefused g.policy) g.policy (refuse_back g stop) (refuse_alike g stop) s,
)
