-- What follows a key, by whose turn it is.
use Rattle.std.proofs.Common.{◌≡◌, ℕ, ◌+◌, ◌<◌, List, [], ◌∷◌, ◌++◌, ◌≤◌, Bool, true, false, cond, ◌||◌, Option, Some, None, filter_map, Result, Ok, Err, length}
use Rattle.std.proofs.Common.{append-nil, refl, sym, ap, ap₂, ◌∙◌, subst, arith}
use Rattle.std.specs.Prelude.{slice_get, option_map, Contains, OnOk}
use Rattle.std.specs.List.{cons_option}
use Rattle.cw_core.specs.declared.ids.PosId.{PosId}
use Rattle.cw_core.specs.declared.ids.StateId.{StateId}
use Rattle.cw_certs.specs.declared.moves.Move.{Move}
use Rattle.cw_game.specs.declared.spots.Spot.{Spot}
use Rattle.cw_game.specs.declared.spots.Spot.TheVariants.{Visit, Asked, Step, Branch, Label, Open, Close, Call, SplitCall, Exit}
use Rattle.cw_game.specs.Games.{Game, Config, leads_in, resumed, resumed_in, bad_in}
use Rattle.cw_game.specs.Pairs.{call_in}
use Rattle.cw_product.specs.declared.turn.Turn.{Turn}
use Rattle.cw_product.specs.declared.turn.Turn.TheVariants as turn
use Rattle.cw_product.specs.Moves.{IsPosition, IsState, pair_of, numbers, is_left_in, next_in, turn_in}
use Rattle.cw_product.specs.Product.{Held as HeldGame, game_of}
use Rattle.cw_solve.specs.Contexts.{context}
use Rattle.cw_product.specs.Routed.{targets}
use Rattle.cw_solve.specs.Solved.{Held}
use Rattle.cw_solve.proofs.Calling.{the_call, called}
use Rattle.cw_solve.proofs.Falls.{back_stays}
use Rattle.cw_solve.proofs.Still.{first_of_two}
use Rattle.cw_solve.proofs.Tabling.{there}
use Rattle.cw_solve.proofs.Turning.{turn_call, turn_visit}
use Rattle.cw_lazy_table.specs.declared.key.Key.{Key}
use Rattle.cw_solve.specs.Numbering.{IsUnder}
use Rattle.cw_lazy_table.specs.Choices.{lost_in, set_in, CanFollow}
use Rattle.cw_lazy_table.specs.Closing.{key, moves_on, visited, begun, answered, gone_on, rules, ends}
use Rattle.cw_lazy_table.specs.Following.{moved_by, put_if}
use Rattle.cw_lazy_table.specs.Live.{IsLive}
use Rattle.cw_lazy_table.proofs.Bridging.{member_live}
use Rattle.cw_lazy_table.proofs.Choosing.{safe_at, right}
use Rattle.cw_lazy_table.proofs.Going.{resumes}
use Rattle.cw_lazy_table.proofs.Keeping.{IsSafe, good}

maps_same : {A B : Type 0} (f h : A → Option B) (xs : List A) → ((x : A) → f x ≡ h x) → filter_map f xs ≡ filter_map h xs
maps_same f h [] e = refl
maps_same f h (x ∷ xs) e = ap₂ cons_option (e x) (maps_same f h xs e)

pub on_ok : {A E : Type 0} (P Q : Type 0) (r : Result A E) → (P → Q) → OnOk r P → OnOk r Q
on_ok P Q (Ok a) f h = f h
on_ok P Q (Err e) f h = h

-- a pair is put as what a move gives
pub put_is : (keys : List Key) (pair : Option (PosId × StateId)) (e : ℕ) (o : Option (ℕ × ℕ)) → numbers pair ≡ o → put_if keys pair e ≡ keys ++ cons_option (option_map (λ r. key r.0 r.1 e) o) []
put_is keys None e o h = sym (append-nil keys) ∙ ap (λ (o : Option (ℕ × ℕ)). keys ++ cons_option (option_map (λ r. key r.0 r.1 e) o) []) h
put_is keys (Some pair) e o h = ap (λ (o : Option (ℕ × ℕ)). keys ++ cons_option (option_map (λ r. key r.0 r.1 e) o) []) h

module _ (g : Game) where
  -- whoever's turn it is, a call promises something and waits, and nothing else does
  module _ (k : Key) where
    abbrev spot : Option Spot
    spot = slice_get g.spots k.pos

    abbrev Turns : Turn → Type 0
    Turns t = Some t ≡ option_map (turn_in g) spot

    pub call_is : (f : ℕ) (split : Bool) (b : PosId) → Turns (turn.Call f split b) → (j : ℕ) × (call_in spot ≡ Some (the_call j f b.0 split))
    call_is f split b e = let c = turn_call g spot f split b e in (c.0, called spot split c.0 f b.0 c.1)

    module _ (lost : (p q e : ℕ) → Bool) (set : (p q e : ℕ) → ℕ) where
      -- what follows
      abbrev after_in : Option Spot → List Key
      after_in o =
          (visited g lost set k o ++ begun g lost set k (call_in o))
          ++ (answered g lost set k o ++ gone_on g lost set k (resumed_in g k.pos k.state o))

      abbrev moved_in : Option Spot → Move → Option Key
      moved_in o by = option_map (λ r. key r.0 r.1 k.promise) (next_in g k.pos k.state o by)

      abbrev led_in : Option Spot → Move → Option Key
      led_in o by = option_map (λ (c : Config). key c.pos c.state k.promise) (leads_in g k.pos k.state [] o by)

      by_pairs : (x : Option Config) → option_map (λ r. key r.0 r.1 k.promise) (option_map pair_of x) ≡ option_map (λ (c : Config). key c.pos c.state k.promise) x
      by_pairs None = refl
      by_pairs (Some c) = refl

      leads_same : (o : Option Spot) → is_left_in g k.state o ≡ false → filter_map (moved_in o) moves_on ≡ filter_map (led_in o) moves_on
      leads_same o f =
          maps_same (moved_in o) (led_in o) moves_on
          (λ by. ap (λ b. option_map (λ r. key r.0 r.1 k.promise) (cond b None (option_map pair_of (leads_in g k.pos k.state [] o by)))) f ∙ by_pairs (leads_in g k.pos k.state [] o by))

      abbrev gone : Option Spot → List Key
      gone o = gone_on g lost set k (resumed_in g k.pos k.state o)

      left_if : (b : Bool) → b ≡ false → (b || (false || false)) ≡ false
      left_if true e = cc
      left_if false e = refl

      answers_in : (o : Option Spot) → Some turn.Environment ≡ option_map (turn_in g) o → bad_in g k.state o ≡ false → filter_map (moved_in o) moves_on ++ gone o ≡ after_in o
      answers_in (Some (Asked j i a)) e b = ap (λ l. l ++ gone (Some (Asked j i a))) (leads_same (Some (Asked j i a)) (left_if _ b))
      answers_in (Some (Step m)) e b = ap (λ l. l ++ gone (Some (Step m))) (leads_same (Some (Step m)) (left_if _ b))
      answers_in (Some (Branch l m)) e b = ap (λ x. x ++ gone (Some (Branch l m))) (leads_same (Some (Branch l m)) (left_if _ b))
      answers_in (Some (Label j l m)) e b = ap (λ x. x ++ gone (Some (Label j l m))) (leads_same (Some (Label j l m)) (left_if _ b))
      answers_in (Some (Open j d m)) e b = ap (λ l. l ++ gone (Some (Open j d m))) (leads_same (Some (Open j d m)) (left_if _ b))
      answers_in (Some (Close j d m)) e b = ap (λ l. l ++ gone (Some (Close j d m))) (leads_same (Some (Close j d m)) (left_if _ b))
      answers_in None e b = cc
      answers_in (Some (Exit f)) e b = cc
      answers_in (Some (Visit j i a)) e b = cc
      answers_in (Some (Call j f m)) e b = cc
      answers_in (Some (SplitCall j f m)) e b = cc

      pub answers_after : Turns turn.Environment → bad_in g k.state spot ≡ false
          → filter_map (moved_by g k) moves_on ++ gone_on g lost set k (resumed g k.pos k.state) ≡ (rules g lost set).after k
      answers_after e b = answers_in spot e b

-- what holds at a key that is live
module _ (h : HeldGame) (s : Held) (k : Key) (can : CanFollow h s k) where
  abbrev g : Game
  g = game_of h

  abbrev functions : ℕ
  functions = length h.graph.parts.items

  pub live : IsLive g k.pos k.state k.promise
  live = member_live g can.ready.begins.staged (lost_in g) (set_in g) (right g functions can.ready.begins can.ready.low) k can.member

  pub is_safe : IsSafe g functions k.pos k.state k.promise
  is_safe = safe_at g functions can.ready.begins k.pos k.state k.promise live

  pub within : (p e : ℕ) → IsUnder g p e → IsPosition g p
  within p e is = let th = there g functions can.ready.begins.routed (context is.0 e) is.2 in omega (arith, is.1.1, th.ends)

  pub stands : IsUnder g k.pos k.promise
  stands = (is_safe.function, is_safe.of, is_safe.needed)

  pub position : IsPosition g k.pos
  position = within k.pos k.promise stands

  pub state : IsState g k.state
  state = is_safe.state

  pub is_good : bad_in g k.state (slice_get g.spots k.pos) ≡ false
  is_good = good g functions can.ready.begins.routed can.ready.begins.staged k.pos k.state k.promise is_safe.kept

  pub skip_there : Some turn.Weaver ≡ option_map (turn_in g) (slice_get g.spots k.pos) → IsUnder g (k.pos + 2) k.promise
  skip_there e =
      let v = turn_visit g (slice_get g.spots k.pos) e in (
        is_safe.function,
        can.ready.begins.routed.stays is_safe.function k.pos (k.pos + 2) is_safe.below is_safe.of
            (subst (λ o. Contains (targets k.pos o) (k.pos + 2)) (sym v.3) (first_of_two (k.pos + 2) (k.pos + 1))),
        is_safe.needed,
      )

  pub skip_short : Some turn.Weaver ≡ option_map (turn_in g) (slice_get g.spots k.pos) → k.pos + 2 ≤ 1048576
  skip_short e =
      let lt = within (k.pos + 2) k.promise (skip_there e) in
      let few = can.ready.begins.routed.short in
      omega (arith, lt, few)

  pub back_there : (f : ℕ) (split : Bool) (b : PosId) → Some (turn.Call f split b) ≡ option_map (turn_in g) (slice_get g.spots k.pos) → IsUnder g b.0 k.promise
  back_there f split b e =
      let c = call_is g k f split b e in
      (is_safe.function, back_stays g functions can.ready.begins.routed is_safe.function k.pos (the_call c.0 f b.0 split) is_safe.below is_safe.of c.1, is_safe.needed)

  pub callee_below : (f : ℕ) (split : Bool) (b : PosId) → Some (turn.Call f split b) ≡ option_map (turn_in g) (slice_get g.spots k.pos) → f < functions
  callee_below f split b e = let c = call_is g k f split b e in (can.ready.begins.routed.called k.pos (the_call c.0 f b.0 split) c.1).below

  pub on_there : (pair : ℕ × ℕ) → resumed g k.pos k.state ≡ Some pair → IsUnder g pair.0 k.promise
  on_there pair is =
      let z = resumes g can.ready.begins.routed.closed k.pos k.state (slice_get g.spots k.pos) pair is in
      (is_safe.function, can.ready.begins.routed.stays is_safe.function k.pos pair.0 is_safe.below is_safe.of z.0, is_safe.needed)
