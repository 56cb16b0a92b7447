-- Plays on boards and runs over pairs.
use Rattle.std.proofs.Common.{◌≡◌, ℕ, suc, List, [], ◌∷◌, Bool, true, false, Option, Some, None, option_map, refl, sym, ap, ◌∙◌, subst, ◌⊎◌, inl, inr, ⊎_elim, length}
use Rattle.std.proofs.Common.{◌≤◌}
use Rattle.std.proofs.lemmas.Option.{none-some, same_Some}
use Rattle.cw_rights.specs.declared.capabilities.Primitive.{Primitive}
use Rattle.cw_rights.specs.Policies.{PlainPolicy}
use Rattle.cw_certs.specs.declared.moves.Move.{Move}
use Rattle.cw_certs.specs.declared.moves.Move.TheVariants.{Skip, On, Left, Right, Opened, Failed}
use Rattle.cw_syntax.specs.Frames.{Frame, Way, pass}
use Rattle.cw_model.specs.Boards.{Problem, Phase, Visit, Asked, Refused, Free, Over, Board, onward, begin, start_board, moved, stepped, landed, way_of, Moves, turn_of, Environment}
use Rattle.cw_model.proofs.Moving.{one_party, over_has_none}
use Rattle.cw_model.specs.Boards.{stop_answers, is_refused}
use Rattle.cw_model.specs.Laws.{party_of}
use Rattle.cw_game.specs.declared.spots.Spot.{Spot}
use Rattle.cw_game.specs.declared.spots.Spot.TheVariants.{Exit}
use Rattle.cw_game.specs.Games.{Game, Ret, Config, leads_in, leads_to}
use Rattle.cw_game.specs.Standing.{IsGameOf, StandsAt}
use Rattle.cw_game.specs.Laws.{AreLinked as AreTied}
use Rattle.cw_game.specs.Linked.{spot_at, IsLastEnd}
use Rattle.cw_game.specs.Linked.{is_bad_at}
use Rattle.cw_game.proofs.Linking.{linked}
use Rattle.cw_game.proofs.Link.{weavers_good}
use Rattle.cw_audit_table.specs.Plays.{Played, begins, skips, goes, IsViolating, IsVerdict, IsUnasked}
use Rattle.cw_audit_table.specs.Runs.{is_step, Goes, here, skips as skips_to, goes as goes_to, start_at, IsHit}
use Rattle.cw_audit_table.specs.Laws.{NothingIsAsked, HitsAreViolations, GoodAuditsHold, ShownAuditsAreExact}
use Rattle.cw_audit_table.proofs.Skips.{skip_leads}
use Rattle.cw_audit_table.proofs.Bounds.{hits_later}
use Rattle.cw_audit_table.proofs.Closing.{RowAt, closed}

onward_unasked : (i : ℕ) (later : List Primitive) → IsUnasked (onward i later)
onward_unasked i [] = tt
onward_unasked i (a ∷ later) = tt

begin_unasked : (policy : PlainPolicy) (stack : List Frame) → IsUnasked (begin policy stack)
begin_unasked policy [] = tt
begin_unasked policy (frame ∷ frames) = onward_unasked 0 _

landed_unasked : (p : Problem) (b next : Board) (way : Way) (o : Option (List Frame)) → option_map (landed p None b way) o ≡ Some next → IsUnasked next.phase
landed_unasked p b next way None e = absurd (none-some next e)
landed_unasked p b next way (Some stack) e = subst (λ (n : Board). IsUnasked n.phase) (same_Some (landed p None b way stack) next e) (begin_unasked p.policy stack)

stepped_unasked : (p : Problem) (b next : Board) (o : Option Way) → stepped p None b o ≡ Some next → IsUnasked next.phase
stepped_unasked p b next None e = absurd (none-some next e)
stepped_unasked p b next (Some way) e = landed_unasked p b next way (pass p.plan b.stack way) e

skip_unasked : (p : Problem) (b next : Board) (phase : Phase) → IsUnasked phase → moved p b phase Skip ≡ Some next → IsUnasked next.phase
skip_unasked p b next (Visit i a later) u e = subst (λ (n : Board). IsUnasked n.phase) (same_Some _ next e) (onward_unasked (suc i) later)
skip_unasked p b next Free u e = stepped_unasked p b next (way_of Skip) e
skip_unasked p b next Over u e = absurd (none-some next e)
skip_unasked p b next _ u e = absurd u

goes_unasked : (p : Problem) (b next : Board) (phase : Phase) (by : Move) → IsUnasked phase → turn_of phase ≡ Some Environment → moved p b phase by ≡ Some next → IsUnasked next.phase
goes_unasked p b next (Visit i a later) by u t e = let z = same_Some _ _ t in cc
goes_unasked p b next Free by u t e = stepped_unasked p b next (way_of by) e
goes_unasked p b next Over by u t e = absurd (none-some next e)
goes_unasked p b next _ by u t e = absurd u

pub nothing_is_asked : NothingIsAsked
nothing_is_asked p [] _ begins = begin_unasked p.policy _
nothing_is_asked p ms next (skips _ b _ h m) = skip_unasked p b next b.phase (nothing_is_asked p ms b h) m.1
nothing_is_asked p _ next (goes ms b _ by h t m) = goes_unasked p b next b.phase by (nothing_is_asked p ms b h) t m.1

-- what an unasked phase is not
unrefused : (phase : Phase) → IsUnasked phase → is_refused phase ≡ false
unrefused (Refused i a later) u = absurd u
unrefused _ u = refl

unanswered : (policy : PlainPolicy) (caps : _) (phase : Phase) (by : Move) → IsUnasked phase → stop_answers policy caps phase by ≡ false
unanswered policy caps (Asked i a later) by u = absurd u
unanswered policy caps _ by u = refl

-- at an unasked board on the environment's turn the program moves
stepped_by : (p : Problem) (b next : Board) (by : Move) (o : Option Way) → way_of by ≡ o → stepped p None b o ≡ Some next → is_step by ≡ true
stepped_by p b next by None eo e = absurd (none-some next e)
stepped_by p b next On (Some way) eo e = refl
stepped_by p b next Left (Some way) eo e = refl
stepped_by p b next Right (Some way) eo e = refl
stepped_by p b next Opened (Some way) eo e = refl
stepped_by p b next Failed (Some way) eo e = refl
stepped_by p b next _ (Some way) eo e = absurd (none-some way eo)

goes_step : (p : Problem) (b next : Board) (phase : Phase) (by : Move) → IsUnasked phase → turn_of phase ≡ Some Environment → moved p b phase by ≡ Some next → is_step by ≡ true
goes_step p b next (Visit i a later) by u t e = let z = same_Some _ _ t in cc
goes_step p b next Free by u t e = stepped_by p b next by (way_of by) refl e
goes_step p b next Over by u t e = absurd (none-some next e)
goes_step p b next _ by u t e = absurd u

step_party : (by : Move) → is_step by ≡ true → party_of by ≡ Environment
step_party On s = refl
step_party Left s = refl
step_party Right s = refl
step_party Opened s = refl
step_party Failed s = refl
step_party _ s = cc

-- whether `main` ends there
last_end : (g : Game) (c : Config) (spot : Option Spot) (rets : List Ret) → spot_at g c ≡ spot → c.rets ≡ rets → IsLastEnd g c ⊎ (IsLastEnd g c → ⊥)
last_end g c (Some (Exit f)) [] es er = inl (f, es, er)
last_end g c spot (r ∷ rets) es er = inr (λ (h : IsLastEnd g c). let z : r ∷ rets ≡ [] = sym er ∙ h.2 in cc)
last_end g c spot [] es er = inr (λ (h : IsLastEnd g c). let z = sym es ∙ h.1 in cc)

no_last : (g : Game) (c e : Config) (by : Move) → leads_to g c by ≡ Some e → IsLastEnd g c → ⊥
no_last g c e by l h = none-some e (sym (ends_none g c.pos c.state c.rets h.0 by h.2) ∙ sym (ap (λ o. leads_in g c.pos c.state c.rets o by) h.1) ∙ l)
  where
    ends_none : (g : Game) (p q : ℕ) (rets : List Ret) (f : ℕ) (by : Move) → rets ≡ [] → leads_in g p q rets (Some (Exit f)) by ≡ None
    ends_none g p q [] f by e = refl
    ends_none g p q (r ∷ rets) f by e = cc

module _ (p : Problem) (g : Game) (game : IsGameOf p g) where
  abbrev tied : AreTied p g
  tied = linked p g game

  -- a board with a move stands at a pair that isn't bad
  good_at : (b next : Board) (c : Config) (by : Move) → StandsAt g b c → Moves p b by next → is_bad_at g c ≡ false
  good_at b next c by s m = by_bad (is_bad_at g c) refl
    where
      by_bad : (bad : Bool) → is_bad_at g c ≡ bad → is_bad_at g c ≡ false
      by_bad true e = absurd (m.0 (tied.is_bad b c s e))
      by_bad false e = e

  -- the pair at which the board of a play stands, and the run to it; where all is over there is none
  abbrev IsMet : List Move → Board → Type 0
  IsMet ms b = (b.phase ≡ Over) ⊎ ((c : Config) × StandsAt g b c × Goes g (start_at g) ms c)

  moved_to : (ms : List Move) (b next : Board) (c : Config) (by : Move) → IsUnasked b.phase → StandsAt g b c → Moves p b by next
      → (next.phase ≡ Over) ⊎ ((d : Config) × (leads_to g c by ≡ Some d) × StandsAt g next d)
  moved_to ms b next c by u s m =
      ⊎_elim (λ l. inl (tied.ends b c by next s (unrefused b.phase u) l m).1)
      (λ l. let t = tied.moves b c by s (unrefused b.phase u) (good_at b next c by s m) l (unanswered p.policy b.caps b.phase by u) in
      let d = t.to_pair next m in inr (d.0, d.1, d.2)) (last_end g c (spot_at g c) c.rets refl refl)

  pub played_goes : (ms : List Move) (b : Board) → Played p ms b → IsMet ms b
  played_goes [] _ begins = inr (start_at g, tied.starts, here)
  played_goes ms next (skips _ b _ h m) =
      ⊎_elim (λ o. absurd (over_has_none p b Skip next o m)) (λ w.
      ⊎_elim (λ o. inl o) (λ d. inr (d.0, d.2, skips_to ms w.0 d.0 w.2 d.1)) (moved_to ms b next w.0 Skip (nothing_is_asked p ms b h) w.1 m)) (played_goes ms b h)
  played_goes _ next (goes ms b _ by h t m) =
      let u = nothing_is_asked p ms b h in
      ⊎_elim (λ o. absurd (over_has_none p b by next o m)) (λ w.
      ⊎_elim (λ o. inl o) (λ d. inr (d.0, d.2, goes_to ms w.0 d.0 by w.2 (good_at b next w.0 by w.1 m) (goes_step p b next b.phase by u t m.1) d.1))
      (moved_to ms b next w.0 by u w.1 m)) (played_goes ms b h)

  back_to : (ms : List Move) (b : Board) (c e : Config) (by : Move) → IsUnasked b.phase → StandsAt g b c → is_bad_at g c ≡ false → leads_to g c by ≡ Some e
      → (next : Board) × Moves p b by next × StandsAt g next e
  back_to ms b c e by u s good l =
      let t = tied.moves b c by s (unrefused b.phase u) good (no_last g c e by l) (unanswered p.policy b.caps b.phase by u) in
      let n = t.to_board e l in
      (n.0, n.1, n.2)

  pub goes_played : (ms : List Move) (c : Config) → Goes g (start_at g) ms c → (b : Board) × Played p ms b × StandsAt g b c
  goes_played [] _ here = (start_board p, begins, tied.starts)
  goes_played ms e (skips_to _ d _ h l) =
      let w = goes_played ms d h in
      let v = skip_leads g (spot_at g d) d.pos d.state d.rets e l in
      let n = back_to ms w.0 d e Skip (nothing_is_asked p ms w.0 w.1) w.2 (weavers_good g d.state (spot_at g d) v.0) l in
      (n.0, skips ms w.0 n.0 w.1 n.1, n.2)
  goes_played _ e (goes_to ms d _ by h good step l) =
      let w = goes_played ms d h in
      let n = back_to ms w.0 d e by (nothing_is_asked p ms w.0 w.1) w.2 good l in
      let turn = one_party p w.0 by n.0 n.1 ∙ ap (λ party. Some party) (step_party by step) in
      (n.0, goes ms w.0 n.0 by w.1 turn n.1, n.2)

  to_hit : (ms : List Move) → IsViolating p ms → IsHit g (length ms)
  to_hit ms v =
      ⊎_elim (λ o. let z : Over ≡ Free = sym o ∙ v.2.0 in absurd (cc)) (λ w. (ms, refl, (w.0, w.2, tied.violates v.0 w.0 w.1 v.2))) (played_goes ms v.0 v.1)

  to_violation : (n : ℕ) → IsHit g n → (ms : List Move) × (length ms ≡ n) × IsViolating p ms
  to_violation n h = let w = goes_played h.0 h.2.0 h.2.1 in (h.0, h.1, (w.0, w.1, tied.is_bad w.0 h.2.0 w.2 h.2.2))

pub hits_are : HitsAreViolations
hits_are p g game = record { to_game = to_hit p g game; to_program = to_violation p g game }

pub good_hold : GoodAuditsHold
good_hold p g functions t game alone good ms v = hits_later g t.distance (RowAt t) (closed g functions t alone good) (length ms) (to_hit p g game ms v)

pub shown_exact : ShownAuditsAreExact
shown_exact p g functions t game alone good shown = by t.distance refl
  where
    by : (D : Option ℕ) → t.distance ≡ D → IsVerdict p D
    by None e = λ ms v. let w = good_hold p g functions t game alone good ms v in absurd (none-some w.0 (sym e ∙ w.1))
    by (Some T) e =
        let s = shown T e in (
          to_violation p g game T (t.moves, s.0, s.1),
          λ ms v. let w = good_hold p g functions t game alone good ms v in subst (λ n. n ≤ length ms) (same_Some w.0 T (sym w.1 ∙ e)) w.2,
        )
