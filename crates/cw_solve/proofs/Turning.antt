-- Whose turn it is tells what stands at a position.
use Rattle.std.proofs.Common.{◌≡◌, ℕ, Bool, true, false, not, ◌&&◌, ◌||◌, Option, Some, None, refl, sym, ap, ◌∙◌}
use Rattle.std.specs.Prelude.{option_map}
use Rattle.std.proofs.lemmas.Bool.{false≢true}
use Rattle.std.proofs.lemmas.Option.{same_Some, none-some}
use Rattle.cw_core.specs.declared.ids.PosId.{PosId}
use Rattle.cw_rights.specs.declared.capabilities.Primitive.{Primitive}
use Rattle.cw_game.specs.declared.spots.Spot.{Spot}
use Rattle.cw_game.specs.declared.spots.Spot.TheVariants.{Visit, Asked, Step, Branch, Label, Open, Close, Call, SplitCall, Exit}
use Rattle.cw_game.specs.Games.{Game, bad_in, Promise, holds_in}
use Rattle.cw_game.specs.Pairs.{call_spot, is_call_in, is_exit_in}
use Rattle.cw_game.proofs.Holding.{bad_fails}
use Rattle.cw_product.specs.declared.turn.Turn.{Turn}
use Rattle.cw_product.specs.declared.turn.Turn.TheVariants as turn
use Rattle.cw_product.specs.Moves.{turn_in}
use Rattle.cw_solve.specs.Asking.{holds_by_moves}
use Rattle.cw_solve.proofs.Moves.{by_moves}

-- what a call says
abbrev callee_in : Turn → ℕ
callee_in (turn.Call f split back) = f
callee_in _ = 0

abbrev split_in : Turn → Bool
split_in (turn.Call f split back) = split
split_in _ = false

abbrev back_in : Turn → ℕ
back_in (turn.Call f split back) = back.0
back_in _ = 0

abbrev pub is_call : Turn → Bool
is_call (turn.Call f split back) = true
is_call _ = false

abbrev pub is_exit : Turn → Bool
is_exit (turn.Exit main) = true
is_exit _ = false

abbrev is_mains : Turn → Bool
is_mains (turn.Exit main) = main
is_mains _ = false

module _ (g : Game) where
  turns : (o : Option Spot) (t : Turn) → Some t ≡ option_map (turn_in g) o → (s : Spot) × (o ≡ Some s) × (turn_in g s ≡ t)
  turns None t e = absurd (none-some t (sym e))
  turns (Some s) t e = (s, refl, same_Some (turn_in g s) t (sym e))

  call_spot_is : (s : Spot) (f n : ℕ) (split : Bool) (t : Turn) → turn_in g s ≡ t → callee_in t ≡ f → split_in t ≡ split → back_in t ≡ n → is_call t ≡ true → (seam : ℕ)
      × (s ≡ call_spot split seam f n)
  call_spot_is (Call j h m) f n split t e a b c k =
      let x = ap callee_in e ∙ a in
      let y = ap split_in e ∙ b in
      let z = ap back_in e ∙ c in
      (j, rw (sym x, sym z, sym y) refl)
  call_spot_is (SplitCall j h m) f n split t e a b c k =
      let x = ap callee_in e ∙ a in
      let y = ap split_in e ∙ b in
      let z = ap back_in e ∙ c in
      (j, rw (sym x, sym z, sym y) refl)
  call_spot_is (Visit j i a) f n split t e x b c k = absurd (false≢true (ap is_call e ∙ k))
  call_spot_is (Asked j i a) f n split t e x b c k = absurd (false≢true (ap is_call e ∙ k))
  call_spot_is (Step m) f n split t e x b c k = absurd (false≢true (ap is_call e ∙ k))
  call_spot_is (Branch m o) f n split t e x b c k = absurd (false≢true (ap is_call e ∙ k))
  call_spot_is (Label j l m) f n split t e x b c k = absurd (false≢true (ap is_call e ∙ k))
  call_spot_is (Open j d m) f n split t e x b c k = absurd (false≢true (ap is_call e ∙ k))
  call_spot_is (Close j d m) f n split t e x b c k = absurd (false≢true (ap is_call e ∙ k))
  call_spot_is (Exit h) f n split t e x b c k = absurd (false≢true (ap is_call e ∙ k))

  pub turn_call : (o : Option Spot) (f : ℕ) (split : Bool) (back : PosId) → Some (turn.Call f split back) ≡ option_map (turn_in g) o → (seam : ℕ) × (o ≡ Some (call_spot split seam f back.0))
  turn_call o f split back e =
      let t = turns o (turn.Call f split back) e in
      let c = call_spot_is t.0 f back.0 split (turn.Call f split back) t.2 refl refl refl refl in
      (c.0, t.1 ∙ ap (λ (s : Spot). Some s) c.1)

  -- a visit
  pub turn_visit : (o : Option Spot) → Some turn.Weaver ≡ option_map (turn_in g) o → (j : ℕ) × (i : ℕ) × (a : Primitive) × (o ≡ Some (Visit j i a))
  turn_visit (Some (Visit j i a)) e = (j, i, a, refl)
  turn_visit None e = cc
  turn_visit (Some (Exit f)) e = cc
  turn_visit (Some (Asked j i a)) e = cc
  turn_visit (Some (Step m)) e = cc
  turn_visit (Some (Branch l m)) e = cc
  turn_visit (Some (Label j l m)) e = cc
  turn_visit (Some (Open j d m)) e = cc
  turn_visit (Some (Close j d m)) e = cc
  turn_visit (Some (Call j f m)) e = cc
  turn_visit (Some (SplitCall j f m)) e = cc

  -- the end of a function
  pub turn_exit : (h : ℕ → ℕ → Promise → Bool) (p q : ℕ) (e : Promise) (o : Option Spot) (main : Bool) → Some (turn.Exit main) ≡ option_map (turn_in g) o → (main || e q) ≡ holds_in g h p q e o
  turn_exit h p q e (Some (Exit f)) main k = ap (λ b. b || e q) (sym (ap is_mains (same_Some _ _ (sym k))))
  turn_exit h p q e None main k = absurd (none-some _ (sym k))
  turn_exit h p q e (Some (Visit j i a)) main k = absurd (false≢true (ap is_exit (same_Some _ _ (sym k))))
  turn_exit h p q e (Some (Asked j i a)) main k = absurd (false≢true (ap is_exit (same_Some _ _ (sym k))))
  turn_exit h p q e (Some (Step m)) main k = absurd (false≢true (ap is_exit (same_Some _ _ (sym k))))
  turn_exit h p q e (Some (Branch m o)) main k = absurd (false≢true (ap is_exit (same_Some _ _ (sym k))))
  turn_exit h p q e (Some (Label j l m)) main k = absurd (false≢true (ap is_exit (same_Some _ _ (sym k))))
  turn_exit h p q e (Some (Open j d m)) main k = absurd (false≢true (ap is_exit (same_Some _ _ (sym k))))
  turn_exit h p q e (Some (Close j d m)) main k = absurd (false≢true (ap is_exit (same_Some _ _ (sym k))))
  turn_exit h p q e (Some (Call j f m)) main k = absurd (false≢true (ap is_exit (same_Some _ _ (sym k))))
  turn_exit h p q e (Some (SplitCall j f m)) main k = absurd (false≢true (ap is_exit (same_Some _ _ (sym k))))

  abbrev pub is_inner : Turn → Bool
  is_inner t = not (is_call t) && not (is_exit t)

  inner : (s : Spot) → is_inner (turn_in g s) ≡ true → (is_call_in (Some s) ≡ false) × (is_exit_in (Some s) ≡ false)
  inner (Call j f m) k = absurd (false≢true k)
  inner (SplitCall j f m) k = absurd (false≢true k)
  inner (Exit f) k = absurd (false≢true k)
  inner (Visit j i a) k = (refl, refl)
  inner (Asked j i a) k = (refl, refl)
  inner (Step m) k = (refl, refl)
  inner (Branch m o) k = (refl, refl)
  inner (Label j l m) k = (refl, refl)
  inner (Open j d m) k = (refl, refl)
  inner (Close j d m) k = (refl, refl)

  -- a position within its function: no call and no exit
  pub turn_inner : (o : Option Spot) (t : Turn) → Some t ≡ option_map (turn_in g) o → is_inner t ≡ true → (is_call_in o ≡ false) × (is_exit_in o ≡ false)
  turn_inner None t e k = absurd (none-some t (sym e))
  turn_inner (Some s) t e k = inner s (ap is_inner (same_Some (turn_in g s) t (sym e)) ∙ k)

  -- where no call is nothing is asked for, and what holds is read off the moves
  pub inner_holds : (h : ℕ → ℕ → Promise → Bool) (p q : ℕ) (e : Promise) (o : Option Spot) (bad held : Bool) → (is_call_in o ≡ false) × (is_exit_in o ≡ false) → bad ≡ bad_in g q o
      → held ≡ holds_by_moves g h p q e o
      → (not bad && held) ≡ holds_in g h p q e o
  inner_holds h p q e o true held k b m = sym (bad_fails g h p q e o (sym b))
  inner_holds h p q e o false held k b m = m ∙ by_moves g h p q e o (sym b) k.0 k.1
