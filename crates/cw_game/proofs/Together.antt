-- Boards and pairs that go together stand together, and go on together.
use Rattle.std.proofs.Common.{◌≡◌, ◌⊎◌, ℕ, suc, List, [], ◌∷◌, Bool, true, false, cond, Option, Some, None, is_some, option_map, refl, sym, ap, ◌∙◌, subst, inl, inr}
use Rattle.std.specs.Prelude.{slice_get}
use Rattle.std.proofs.lemmas.Option.{none-some, same_Some, cond_some}
use Rattle.cw_rights.specs.declared.capabilities.Caps.{Caps}
use Rattle.cw_rights.specs.declared.capabilities.Primitive.{Primitive}
use Rattle.cw_rights.specs.declared.capabilities.Primitive.TheVariants.{Split}
use Rattle.cw_rights.specs.Words.{Word}
use Rattle.cw_rights.specs.Policies.{PlainPolicy}
use Rattle.cw_certs.specs.declared.moves.Move.{Move}
use Rattle.cw_certs.specs.declared.moves.Move.TheVariants.{Skip, Try, Grant, Refuse, Stop}
use Rattle.cw_syntax.specs.Frames.{Frame, Way, pass}
use Rattle.cw_model.specs.Boards.{Problem, Phase, Visit, Asked, Refused, Free, FreeSplit, Over, Board, onward, begin, start_board, Violates, landed, granted, refused, stepped}
use Rattle.cw_model.specs.Boards.{may_grant, may_refuse, can_stop, way_of, moved, Moves, stop_answers, is_refused}
use Rattle.cw_game.specs.declared.spots.Spot.TheVariants.{Exit}
use Rattle.cw_game.specs.Games.{Game, resumed, Ret, Config, at_pair, leads_in, leads_to}
use Rattle.cw_game.specs.Reached.{Reached}
use Rattle.cw_game.specs.Standing.{Meaning, standing, StandsBy, IsGameOf}
use Rattle.cw_game.specs.Linked.{is_bad_at, IsLastEnd, AreLinkedBy}
use Rattle.cw_game.specs.Together.{Together, at_start, by_move, by_refusal, by_going_on, GoTogether}
use Rattle.cw_game.proofs.Linking.{linked}

-- ---- a board in Refused can be stopped

onward_never : (stage i : ℕ) (a : Primitive) (all later : List Primitive) → onward stage all ≡ Refused i a later → ⊥
onward_never stage i a [] later e = cc
onward_never stage i a (b ∷ all) later e = cc

begin_never : (policy : PlainPolicy) (stack : List Frame) (i : ℕ) (a : Primitive) (later : List Primitive) → begin policy stack ≡ Refused i a later → ⊥
begin_never policy [] i a later e = cc
begin_never policy (frame ∷ frames) i a later e = onward_never 0 i a _ later e

granted_never : (b : Board) (stage : ℕ) (x : Primitive) (all : List Primitive) (i : ℕ) (a : Primitive) (later : List Primitive) → (granted b stage x all).phase ≡ Refused i a later → ⊥
granted_never b stage Split all i a later e = cc
granted_never b stage x all i a later e = onward_never (suc stage) i a all later e

module _ (p : Problem) where
  landed_never : (mode : Option Caps) (b next : Board) (way : Way) (o : Option (List Frame)) (i : ℕ) (a : Primitive) (later : List Primitive)
      → option_map (landed p mode b way) o ≡ Some next → next.phase ≡ Refused i a later → ⊥
  landed_never mode b next way None i a later e r = none-some next e
  landed_never mode b next way (Some stack) i a later e r =
      begin_never p.policy stack i a later (ap (λ (z : Board). z.phase) (same_Some (landed p mode b way stack) next e) ∙ r)

  stepped_never : (mode : Option Caps) (b next : Board) (o : Option Way) (i : ℕ) (a : Primitive) (later : List Primitive) → stepped p mode b o ≡ Some next → next.phase ≡ Refused i a later → ⊥
  stepped_never mode b next None i a later e r = none-some next e
  stepped_never mode b next (Some way) i a later e r = landed_never mode b next way (pass p.plan b.stack way) i a later e r

  waits_only : (b next : Board) (stage : ℕ) (x : Primitive) (all : List Primitive) (stops : Bool) (i : ℕ) (a : Primitive) (later : List Primitive)
      → record b { phase = cond stops (Refused stage x all) (onward (suc stage) all) } ≡ next → next.phase ≡ Refused i a later → (stops ≡ true) × (x ≡ a) × (b.caps ≡ next.caps)
  waits_only b next stage x all true i a later e r =
      let z : Refused stage x all ≡ Refused i a later = ap (λ (z : Board). z.phase) e ∙ r in
      let y : x ≡ a = cc in
      (refl, y, ap (λ (z : Board). z.caps) e)
  waits_only b next stage x all false i a later e r = absurd (onward_never (suc stage) i a all later (ap (λ (z : Board). z.phase) e ∙ r))

  -- only a refusal that a stop can answer leads to Refused
  refused_after : (b : Board) (phase : Phase) (by : Move) (next : Board) (i : ℕ) (a : Primitive) (later : List Primitive) → moved p b phase by ≡ Some next → next.phase ≡ Refused i a later
      → can_stop p.policy next.caps a ≡ true
  refused_after b (Visit stage x all) Skip next i a later e r = absurd (onward_never (suc stage) i a all later (ap (λ (z : Board). z.phase) (same_Some _ next e) ∙ r))
  refused_after b (Visit stage x all) Try next i a later e r = let z : Asked stage x all ≡ Refused i a later = ap (λ (z : Board). z.phase) (same_Some _ next e) ∙ r in cc
  refused_after b (Visit stage x all) _ next i a later e r = absurd (none-some next e)
  refused_after b (Asked stage x all) Grant next i a later e r =
      absurd (granted_never b stage x all i a later (ap (λ (z : Board). z.phase) (cond_some (may_grant b.caps x) (granted b stage x all) next e).1 ∙ r))
  refused_after b (Asked stage x all) Refuse next i a later e r =
      let w = waits_only b next stage x all (can_stop p.policy b.caps x) i a later (cond_some (may_refuse p.policy b.caps x) (refused p b stage x all) next e).1 r in
      ap (λ (c : Caps). can_stop p.policy c a) (sym w.2) ∙ ap (can_stop p.policy b.caps) (sym w.1) ∙ w.0
  refused_after b (Asked stage x all) _ next i a later e r = absurd (none-some next e)
  refused_after b (Refused stage x all) Skip next i a later e r = absurd (onward_never (suc stage) i a all later (ap (λ (z : Board). z.phase) (same_Some _ next e) ∙ r))
  refused_after b (Refused stage x all) Stop next i a later e r = let z : Over ≡ Refused i a later = ap (λ (z : Board). z.phase) (same_Some _ next e) ∙ r in cc
  refused_after b (Refused stage x all) _ next i a later e r = absurd (none-some next e)
  refused_after b Free by next i a later e r = absurd (stepped_never None b next (way_of by) i a later e r)
  refused_after b FreeSplit by next i a later e r = absurd (stepped_never (Some b.caps) b next (way_of by) i a later e r)
  refused_after b Over by next i a later e r = absurd (none-some next e)

  module _ (g : Game) where
    can_answer : (b : Board) (c : Config) → Together p g b c → (i : ℕ) (a : Primitive) (later : List Primitive) → b.phase ≡ Refused i a later → can_stop p.policy b.caps a ≡ true
    can_answer _ _ at_start i a later r = absurd (begin_never p.policy (start_board p).stack i a later r)
    can_answer _ _ (by_move b c by next d t m e) i a later r = refused_after b b.phase by next i a later m.1 r
    can_answer _ _ (by_refusal b c by next t s m) i a later r = refused_after b b.phase by next i a later m.1 r
    can_answer _ _ (by_going_on b c pair next t w e m) i a later r = refused_after b b.phase Skip next i a later m.1 r

-- ---- a board in Refused has no move that is the pair's

module _ (Means : Meaning) (p : Problem) (g : Game) where
  refused_leads : (stack : List Frame) (kept : List (Option Caps)) (caps : Caps) (word : Word) (phase : Phase) (pos q : ℕ) (rets : List Ret) (by : Move) (next : Board)
      → let b : Board = record { stack = stack; kept = kept; caps = caps; word = word; phase = phase } in StandsBy Means g b (at_pair pos q rets) → is_refused phase ≡ true
      → moved p b phase by ≡ Some next → leads_in g pos q rets (slice_get g.spots pos) by ≡ None
  refused_leads [] kept caps word phase pos q rets by next h r e = absurd h
  refused_leads (frame ∷ frames) kept caps word (Refused i a later) pos q rets Skip next h r e =
      ap (λ o. leads_in g pos q rets o Skip) (ap (slice_get g.spots) h.1.2 ∙ h.1.1.4.1)
  refused_leads (frame ∷ frames) kept caps word (Refused i a later) pos q rets Stop next h r e =
      ap (λ o. leads_in g pos q rets o Stop) (ap (slice_get g.spots) h.1.2 ∙ h.1.1.4.1)
  refused_leads (frame ∷ frames) kept caps word (Refused i a later) pos q rets _ next h r e = absurd (none-some next e)
  refused_leads (frame ∷ frames) kept caps word _ pos q rets by next h r e = cc

  no_lead : (b : Board) (c d : Config) (by : Move) (next : Board) → StandsBy Means g b c → is_refused b.phase ≡ true → moved p b b.phase by ≡ Some next → leads_to g c by ≡ Some d → ⊥
  no_lead b c d by next h r m e = none-some d (sym (refused_leads b.stack b.kept b.caps b.word b.phase c.pos c.state c.rets by next h r m) ∙ e)

  same_pair : (o : Option Config) (c d : Config) → o ≡ Some c → o ≡ Some d → c ≡ d
  same_pair o c d e f = same_Some c d (sym e ∙ f)

  over_or_not : (phase : Phase) → (phase ≡ Over) ⊎ (phase ≡ Over → ⊥)
  over_or_not Over = inl refl
  over_or_not (Visit i a later) = inr (λ e. cc)
  over_or_not (Asked i a later) = inr (λ e. cc)
  over_or_not (Refused i a later) = inr (λ e. cc)
  over_or_not Free = inr (λ e. cc)
  over_or_not FreeSplit = inr (λ e. cc)

  some_pair : (o : Option (ℕ × ℕ)) → is_some o ≡ true → (pair : ℕ × ℕ) × (o ≡ Some pair)
  some_pair None e = cc
  some_pair (Some pair) e = (pair, refl)

  module _ (link : AreLinkedBy Means p g) where
    good_here : (b : Board) (c : Config) → StandsBy Means g b c → (Violates p b → ⊥) → (bad : Bool) → is_bad_at g c ≡ bad → is_bad_at g c ≡ false
    good_here b c h fine true e = absurd (fine (link.is_bad b c h e))
    good_here b c h fine false e = e

    unanswered : (b : Board) (c d : Config) (by : Move) → StandsBy Means g b c → leads_to g c by ≡ Some d → (y : Bool) → stop_answers p.policy b.caps b.phase by ≡ y
        → stop_answers p.policy b.caps b.phase by ≡ false
    unanswered b c d by h e true s = absurd (none-some d (sym (link.stops_at b c by h s).0 ∙ e))
    unanswered b c d by h e false s = s

    -- the last end leads nowhere
    not_last : (c d : Config) (by : Move) → leads_to g c by ≡ Some d → IsLastEnd g c → ⊥
    not_last c d by e l =
        none-some d (sym (ap (λ o. leads_in g c.pos c.state c.rets o by) l.1 ∙ ap (λ r. leads_in g c.pos c.state r (Some (Exit l.0)) by) l.2) ∙ e)

    stands : (b : Board) (c : Config) → Together p g b c → StandsBy Means g b c
    stands _ _ at_start = link.starts
    stands _ _ (by_move b c by next d t m e) = go (is_refused b.phase) refl (stands b c t)
      where
        go : (r : Bool) → is_refused b.phase ≡ r → StandsBy Means g b c → StandsBy Means g next d
        go true r h = absurd (no_lead b c d by next h r m.1 e)
        go false r h =
            let good = good_here b c h m.0 (is_bad_at g c) refl in
            let never = unanswered b c d by h e (stop_answers p.policy b.caps b.phase by) refl in
            let k = (link.moves b c by h r good (not_last c d by e) never).to_pair next m in
            subst (λ z. StandsBy Means g next z) (same_pair (leads_to g c by) k.0 d k.1 e) k.2
    stands _ _ (by_refusal b c by next t s m) = ((link.stops_at b c by (stands b c t) s).1 next m).0
    stands _ _ (by_going_on b c pair next t w e m) = link.goes_on b c pair next (stands b c t) w e m

    goes_free : (b : Board) (c : Config) (by : Move) (next : Board) → Together p g b c → Moves p b by next → (next.phase ≡ Over → ⊥) → is_refused b.phase ≡ false
        → (y : Bool) → stop_answers p.policy b.caps b.phase by ≡ y → (d : Config) × Together p g next d
    goes_free b c by next t m never r true s = (c, by_refusal b c by next t s m)
    goes_free b c by next t m never r false s =
        let h = stands b c t in
        let good = good_here b c h m.0 (is_bad_at g c) refl in
        let k = (link.moves b c by h r good (λ last. never (link.ends b c by next h r last m).1) s).to_pair next m in
        (k.0, by_move b c by next k.0 t m k.1)

    goes_waiting : (b : Board) (c : Config) (phase : Phase) (by : Move) (next : Board) → b.phase ≡ phase → is_refused phase ≡ true → Together p g b c → Moves p b by next
        → (next.phase ≡ Over → ⊥) → moved p b phase by ≡ Some next → (d : Config) × Together p g next d
    goes_waiting b c (Refused i a later) Skip next e r t m never k =
        let pair = some_pair (resumed g c.pos c.state) (link.resumes b c i a later (stands b c t) (ap standing e) ∙ can_answer p g b c t i a later e) in
        (at_pair pair.0.0 pair.0.1 c.rets, by_going_on b c pair.0 next t (ap is_refused e) pair.1 m)
    goes_waiting b c (Refused i a later) Stop next e r t m never k = absurd (never (sym (ap (λ (z : Board). z.phase) (same_Some _ next k))))
    goes_waiting b c (Refused i a later) _ next e r t m never k = absurd (none-some next k)
    goes_waiting b c _ by next e r t m never k = cc

    goes : (b : Board) (c : Config) (by : Move) (next : Board) → Together p g b c → Moves p b by next → (next.phase ≡ Over) ⊎ ((d : Config) × Together p g next d)
    goes b c by next t m = elim (over_or_not next.phase) [ inl o ↦ inl o | inr never ↦ inr (go never (is_refused b.phase) refl) ]
      where
        go : (next.phase ≡ Over → ⊥) → (r : Bool) → is_refused b.phase ≡ r → (d : Config) × Together p g next d
        go never false r = goes_free b c by next t m never r (stop_answers p.policy b.caps b.phase by) refl
        go never true r = goes_waiting b c b.phase by next refl r t m never m.1

    pub go_together : ((b : Board) (c : Config) → Together p g b c → StandsBy Means g b c)
        × ((b : Board) (c : Config) (by : Move) (next : Board) → Together p g b c → Moves p b by next → (next.phase ≡ Over) ⊎ ((d : Config) × Together p g next d))
    go_together = (stands, goes)

pub together : (p : Problem) (g : Game) → IsGameOf p g → GoTogether p g
together p g of = let k = go_together (Reached g.policy g.spots g.states) p g (linked p g of) in record { stands = k.0; goes = k.1 }
