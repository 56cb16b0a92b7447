-- The game of a program is fair.
use Rattle.std.proofs.Common.{◌≡◌, ℕ, zero, suc, ◌+◌, ◌<◌, [], true, cond, Option, Some, length, refl, sym, subst, arith, inl, inr}
use Rattle.std.specs.Prelude.{slice_get}
use Rattle.std.proofs.lemmas.Option.{none-some, same_Some}
use Rattle.cw_certs.specs.declared.moves.Move.{Move}
use Rattle.cw_certs.specs.declared.moves.Move.TheVariants.{On, Left, Right, Opened, Failed}
use Rattle.cw_model.specs.Boards.{Problem}
use Rattle.cw_game.specs.declared.spots.Spot.{Spot}
use Rattle.cw_game.specs.declared.spots.Spot.TheVariants.{Visit, Step, Branch, Label, Open, Close, Call}
use Rattle.cw_game.specs.Games.{Game, Config, leads_in, weavers_in}
use Rattle.cw_game.specs.Standing.{IsGameOf}
use Rattle.cw_positions.specs.Closed.{LeadsWithin}
use Rattle.cw_states.specs.Below.{StayBelow}
use Rattle.cw_product.specs.Routes.{IsBetween, IsRoute}
use Rattle.cw_product.specs.Routed.{IsOf}
use Rattle.cw_audit_table.specs.Runs.{skip_by, skipped}
use Rattle.cw_audit_table.specs.Conditions.{is_inner}
use Rattle.cw_audit_search.specs.Sound.{IsFunction, IsFair}
use Rattle.cw_audit_search.proofs.Laid.{start_below, entry_good, exit_ends, rests_free}

module _ (g : Game) (functions : ℕ) (leads : (p : ℕ) (s : Spot) → slice_get g.spots p ≡ Some s → LeadsWithin (length g.spots) functions p s) (main : g.main < functions)
    (routes : (f : ℕ) → f < functions → IsRoute g f) (states : StayBelow g.states) where
  below : (f : ℕ) → IsFunction g f → f < functions
  below f h = elim h [ inl e ↦ subst (λ f. f < functions) (sym e) main | inr c ↦ (leads c.0 (Call c.1 f c.2) c.3).0 ]

  -- skips keep to the function
  skips_stay : (f : ℕ) → f < functions → (n p : ℕ) → IsBetween (g.entry f) (g.exit f) p → IsBetween (g.entry f) (g.exit f) (skip_by n g p)
  skips_stay f l zero p h = h
  skips_stay f l (suc n) p h = by (slice_get g.spots p) refl (λ q k. skips_stay f l n q k)
    where
      by : (o : Option Spot) → slice_get g.spots p ≡ o → ((q : ℕ) → IsBetween (g.entry f) (g.exit f) q → IsBetween (g.entry f) (g.exit f) (skip_by n g q))
          → IsBetween (g.entry f) (g.exit f) (cond (weavers_in o) (skip_by n g (p + 2)) p)
      by (Some (Visit j i a)) e k = let s = (routes f l).stays p (Visit j i a) h e in k (p + 2) (omega (arith, h.0), s)
      by _ e k = h

  stay : (f : ℕ) → f < functions → (p : ℕ) → IsBetween (g.entry f) (g.exit f) p → IsOf g f (skipped g p)
  stay f l p h = skips_stay f l (length g.spots) p h

  abbrev IsNext : (f : ℕ) → Config → Type 0
  IsNext f c = IsOf g f (skipped g c.pos) × (c.state < g.states.count)

  moves_stay : (f p x : ℕ) (by : Move) (c : Config) (o : Option Spot) → f < functions → IsOf g f p → x < g.states.count → slice_get g.spots p ≡ o → is_inner o ≡ true
      → leads_in g p x [] o by ≡ Some c → IsNext f c
  moves_stay f p x On c (Some (Step n)) l h q e i k = subst (IsNext f) (same_Some _ c k) (stay f l n ((routes f l).stays p (Step n) h e), q)
  moves_stay f p x Left c (Some (Branch m n)) l h q e i k = subst (IsNext f) (same_Some _ c k) (stay f l m ((routes f l).stays p (Branch m n) h e).0, q)
  moves_stay f p x Right c (Some (Branch m n)) l h q e i k = subst (IsNext f) (same_Some _ c k) (stay f l n ((routes f l).stays p (Branch m n) h e).1, q)
  moves_stay f p x On c (Some (Label j m n)) l h q e i k = subst (IsNext f) (same_Some _ c k) (stay f l n ((routes f l).stays p (Label j m n) h e), states.lettered x m q)
  moves_stay f p x Opened c (Some (Open j d n)) l h q e i k = subst (IsNext f) (same_Some _ c k) (stay f l n ((routes f l).stays p (Open j d n) h e), states.opened x d q)
  moves_stay f p x Failed c (Some (Open j d n)) l h q e i k = subst (IsNext f) (same_Some _ c k) (stay f l n ((routes f l).stays p (Open j d n) h e), states.closed x d q)
  moves_stay f p x On c (Some (Close j d n)) l h q e i k = subst (IsNext f) (same_Some _ c k) (stay f l n ((routes f l).stays p (Close j d n) h e), states.closed x d q)
  moves_stay f p x _ c (Some (Step n)) l h q e i k = absurd (none-some c k)
  moves_stay f p x _ c (Some (Branch m n)) l h q e i k = absurd (none-some c k)
  moves_stay f p x _ c (Some (Label j m n)) l h q e i k = absurd (none-some c k)
  moves_stay f p x _ c (Some (Open j d n)) l h q e i k = absurd (none-some c k)
  moves_stay f p x _ c (Some (Close j d n)) l h q e i k = absurd (none-some c k)
  moves_stay f p x by c _ l h q e i k = cc

  -- Of a program's game, by what its calls promise.
  pub is_fair : (p : Problem) → IsGameOf p g → IsFair g functions
  is_fair p game = record {
    below = below;
    short = λ f h. (routes f (below f h)).ends;
    begins = λ f h. let r = routes f (below f h) in stay f (below f h) (g.entry f) (omega arith, r.begins);
    start = start_below p g game;
    good = entry_good p g game g.main g.states.start (inl refl);
    alone = λ f n k l h e. (routes f l).alone n k h e;
    moves = λ f n x by c h at q inner good step e. moves_stay f n x by c (slice_get g.spots n) (below f h) at q refl inner e;
    returns = λ f n j h k i at e. stay f (below f i) k ((routes f (below f i)).stays n (Call j h k) at e);
    ends = exit_ends p g game;
    free = rests_free p g game;
  }
