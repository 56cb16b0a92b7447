-- Working definitions: what is live as the members of a closure, by a test that tells what is lost and a set for each call.
use Rattle.std.specs.Prelude.{◌≡◌, ℕ, ◌+◌, List, [], ◌∷◌, ◌++◌, Bool, true, false, cond, ◌||◌, Option, Some, None, option_map, filter_map, slice_get}
use Rattle.cw_rights.specs.declared.capabilities.Primitive.{Primitive}
use Rattle.cw_certs.specs.declared.moves.Move.{Move}
use Rattle.cw_certs.specs.declared.moves.Move.TheVariants.{Grant, Refuse, On, Left, Right, Opened, Failed}
use Rattle.cw_game.specs.declared.spots.Spot.{Spot}
use Rattle.cw_game.specs.declared.spots.Spot.TheVariants.{Visit}
use Rattle.cw_game.specs.Games.{Game, Config, resumed, returned, leads_in, weavers_in, IsLost}
use Rattle.cw_game.specs.Pairs.{has, Called, call_in, is_call_in, is_exit_in, kept_at}
use Rattle.cw_joins.specs.Members.{Rules}
use Rattle.cw_lazy_table.specs.declared.key.Key.{Key}
use Rattle.cw_lazy_table.specs.Live.{IsFull, IsLive}

abbrev pub key : (p q e : ℕ) → Key
key p q e = record { pos = p; state = q; promise = e }

abbrev pub moves_on : List Move
moves_on = Grant ∷ Refuse ∷ On ∷ Left ∷ Right ∷ Opened ∷ Failed ∷ []

module _ (g : Game) (lost : (p q e : ℕ) → Bool) (set : (p q e : ℕ) → ℕ) where
  abbrev pub visited : Key → Option Spot → List Key
  visited k o = cond (weavers_in o) (key (cond (lost (k.pos + 2) k.state k.promise) (k.pos + 1) (k.pos + 2)) k.state k.promise ∷ []) []

  abbrev pub begun : Key → Option Called → List Key
  begun k None = []
  begun k (Some call) = key (g.entry call.function) k.state (set k.pos k.state k.promise) ∷ []

  abbrev pub answered : Key → Option Spot → List Key
  answered k o = cond (weavers_in o || is_call_in o) [] (filter_map (λ by. option_map (λ (c : Config). key c.pos c.state k.promise) (leads_in g k.pos k.state [] o by)) moves_on)

  abbrev pub gone_on : Key → Option (ℕ × ℕ) → List Key
  gone_on k None = []
  gone_on k (Some pair) = cond (lost pair.0 pair.1 k.promise) [] (key pair.0 pair.1 k.promise ∷ [])

  abbrev pub after : Key → Option Spot → List Key
  after k o = (visited k o ++ begun k (call_in o)) ++ (answered k o ++ gone_on k (resumed g k.pos k.state))

  -- a call waits for the position where the function ends and what is promised to it
  abbrev pub waits : Key → Option Called → Option (ℕ × ℕ)
  waits k call = option_map (λ c. (g.exit c.function, set k.pos k.state k.promise)) call

  abbrev pub ends : Key → Option Spot → Option (ℕ × ℕ)
  ends k o = cond (is_exit_in o) (Some (k.pos, k.promise)) None

  abbrev pub back : Key → Option Called → Key → Key
  back a None b = a
  back a (Some call) b = key call.back (returned g.states (kept_at call.split a.state) b.state) a.promise

  abbrev pub rules : Rules Key (ℕ × ℕ)
  rules = record {
    after = λ k. after k (slice_get g.spots k.pos);
    waits = λ k. waits k (call_in (slice_get g.spots k.pos));
    ends = λ k. ends k (slice_get g.spots k.pos);
    join = λ a b. back a (call_in (slice_get g.spots a.pos)) b;
  }

  -- the test and the sets are right wherever something is live
  pub record AreRight : Type 0 where
    pub skip_lost : (p q e j i : ℕ) (a : Primitive) → IsLive g p q e → slice_get g.spots p ≡ Some (Visit j i a) → lost (p + 2) q e ≡ true → IsLost g (p + 2) q (has e)
    pub skip_kept : (p q e j i : ℕ) (a : Primitive) → IsLive g p q e → slice_get g.spots p ≡ Some (Visit j i a) → lost (p + 2) q e ≡ false → IsLost g (p + 2) q (has e) → ⊥
    pub on_lost : (p q e : ℕ) (pair : ℕ × ℕ) → IsLive g p q e → resumed g p q ≡ Some pair → lost pair.0 pair.1 e ≡ true → IsLost g pair.0 pair.1 (has e)
    pub on_kept : (p q e : ℕ) (pair : ℕ × ℕ) → IsLive g p q e → resumed g p q ≡ Some pair → lost pair.0 pair.1 e ≡ false → IsLost g pair.0 pair.1 (has e) → ⊥
    pub full : (p q e : ℕ) (call : Called) → IsLive g p q e → call_in (slice_get g.spots p) ≡ Some call → IsFull g call q e (set p q e)
