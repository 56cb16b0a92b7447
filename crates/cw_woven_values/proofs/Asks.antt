-- What is answered to a try, and what the weaver does after a refusal that a stop can answer.
use Rattle.std.proofs.Common.{◌≡◌, ◌≢◌, ℕ, suc, ◌≤◌, List, [], ◌∷◌, length, Bool, true, false, cond, Option, Some, None, option_map, is_some, refl, sym, ap, ap₂, ◌∙◌, subst, arith}
use Rattle.std.specs.Prelude.{slice_get, IfSome}
use Rattle.std.specs.List.{All}
use Rattle.std.proofs.lemmas.List.Elements.{All-head, All-tail}
use Rattle.std.proofs.lemmas.Option.{none-some, same_Some}
use Rattle.cw_core.specs.declared.ids.SeamId.{SeamId}
use Rattle.cw_certs.specs.declared.moves.Move.{Move}
use Rattle.cw_certs.specs.declared.moves.Move.TheVariants.{Skip, Grant, Refuse, On, Stop as StopMove}
use Rattle.cw_certs.specs.Tables.{Table}
use Rattle.cw_model.specs.Boards.{Asked, Free, Over, Board, moved, answered, granted, refused, may_grant, may_refuse, Violates}
use Rattle.cw_model.specs.Runs.{front_seam, State, WovenStep}
use Rattle.cw_game.specs.declared.spots.Spot.{Spot}
use Rattle.cw_game.specs.declared.spots.Spot.TheVariants.{Asked as AskedSpot}
use Rattle.cw_game.specs.Games.{Game, weavers_in}
use Rattle.cw_product.specs.Product.{Held}
use Rattle.cw_run.specs.declared.walk.Next.{Next as NextData}
use Rattle.cw_run.specs.declared.walk.Next.TheVariants as next_data
use Rattle.cw_run.specs.Walks.{Here, Wait, IsNextIn, next_is, next_of, Next, To, Into, Back, Over as AllOver, Resumed, Stopped}
use Rattle.cw_value.specs.declared.values.Stop.TheVariants.{Refused}
use Rattle.cw_value.specs.Machines.{Source}
use Rattle.cw_value.specs.Shown.{IsAnswer}
use Rattle.cw_value.specs.Runs.{Going, Ends, IsWeaving, weaves, quits, asks, answer, answer_by}
use Rattle.cw_agree.proofs.Paired.{weave_stays, answer_stays, weaving_on}
use Rattle.cw_agree.proofs.Invariants.{Inv, invariant}
use Rattle.cw_woven_values.specs.Standing.{IsWoven, IsAsked, to_come, problem, policy, Weaves, by_answer, given}
use Rattle.cw_woven_values.specs.Visiting.{Goes, IsVisited, Quits, Visits, visited_by}
use Rattle.cw_woven_values.proofs.Found.{g, Moved, Refusal, Finished, Found, found}
use Rattle.cw_woven_values.proofs.Seeing.{AskedSeen, asked_seen, Seen, seen, never_refused, comes_on, stuck}
use Rattle.cw_woven_values.proofs.Passing.{skipped, answered_past, refusal_kept, may_grant_so, may_refuse_so, one_answer}
use Rattle.cw_woven_values.proofs.Visits.{Beside, after, beside_after}

-- ---- what is given is an answer

given_answer : (og or : Option Next) (left : List Move) → All IsAnswer left → IsAnswer (given og or left).0 × All IsAnswer (given og or left).1
given_answer (Some a) (Some b) [] all = (tt, all)
given_answer (Some a) (Some b) (m ∷ rest) all = (All-head IsAnswer m rest all, All-tail IsAnswer m rest all)
given_answer (Some a) None left all = (tt, all)
given_answer None (Some b) left all = (tt, all)
given_answer None None left all = (tt, all)

some_answer : (a b : Next) (m : Move) → by_answer (Some a) (Some b) m ≡ None → ⊥
some_answer a b Refuse e = absurd (none-some b (sym e))
some_answer a b _ e = absurd (none-some a (sym e))

none_given : (og or : Option Next) (left : List Move) → by_answer og or (given og or left).0 ≡ None → (og ≡ None) × (or ≡ None)
none_given (Some a) (Some b) left e = absurd (some_answer a b (given (Some a) (Some b) left).0 e)
none_given (Some a) None left e = absurd (none-some a (sym e))
none_given None (Some b) left e = absurd (none-some b (sym e))
none_given None None left e = (refl, refl)

not_on : (m : Move) → IsAnswer m → m ≡ On → ⊥
not_on m k e = subst IsAnswer e k

module _ (h : Held) (s : Source) (t : Table) (w : IsWoven h s t) (plain : Going) (here : Here) (waits : List Wait) (left : List Move) (made : ℕ) (run : Going)
    (on : Weaves h s t w plain here waits left made run) (asked : IsAsked run.woven.board.phase) where
  abbrev b : Board
  b = run.woven.board

  pub at : Seen h s t w run.woven here
  at = seen h s t w run.woven here waits on.sits

  pub q : AskedSeen b.phase at.spot
  q = asked_seen at.frame b.phase at.spot at.sees asked

  abbrev lead : Move → Option Next
  lead by = next_of (g h s t w) t here waits at.spot by

  environments : weavers_in (Some at.spot) ≡ false
  environments = ap (λ z. weavers_in (Some z)) q.is_spot

  found_here : (by : Move) (n : Next) → lead by ≡ Some n → Found h s t w run.woven waits by n
  found_here by n e = found h s t w run.woven here waits on.sits at.spot by n at.at environments e

  moves : (by : Move) (next : State) → WovenStep (problem h s t) t run.woven by next → answered (problem h s t) b q.stage q.what q.later by ≡ Some next.board
  moves by next k = ap (λ ph. moved (problem h s t) b ph by) (sym q.is_phase) ∙ k.0.1

  step_of : (by : Move) (n : Next) → Found h s t w run.woven waits by n → (next : State) × WovenStep (problem h s t) t run.woven by next
  step_of by (To to) k = (k.next, k.step)
  step_of by (Into to call) k = (k.1.next, k.1.step)
  step_of by (Back to) k = (k.1.next, k.1.step)
  step_of by AllOver k = (k.1.next, k.1.step)
  step_of by (Resumed to) k = (k.1.refusal.first, subst (λ m. WovenStep (problem h s t) t run.woven m k.1.refusal.first) (sym k.0) k.1.refusal.step)
  step_of by (Stopped seam) k = (k.1.refusal.first, subst (λ m. WovenStep (problem h s t) t run.woven m k.1.refusal.first) (sym k.0) k.1.refusal.step)

  -- ---- which answers are moves

  never_violates : Violates (problem h s t) b → ⊥
  never_violates v = absurd (let clash : Asked q.stage q.what q.later ≡ Free = sym q.is_phase ∙ v.0 in cc)

  no_move : (by : Move) → lead by ≡ None → (next : Board) → answered (problem h s t) b q.stage q.what q.later by ≡ Some next → ⊥
  no_move by e next k =
      stuck h s t w run.woven here waits by at.spot on.sits on.comes at.at environments e next
      (never_violates, ap (λ ph. moved (problem h s t) b ph by) q.is_phase ∙ k)

  grants : (o : Option Next) → lead Grant ≡ o → may_grant b.caps q.what ≡ is_some o
  grants (Some n) e = let f = step_of Grant n (found_here Grant n e) in may_grant_so (problem h s t) b f.0.board q.stage q.what q.later (moves Grant f.0 f.1)
  grants None e = by (may_grant b.caps q.what) refl
    where
      by : (yes : Bool) → may_grant b.caps q.what ≡ yes → may_grant b.caps q.what ≡ false
      by true c = absurd (no_move Grant e (granted b q.stage q.what q.later) (ap (λ z. cond z (Some (granted b q.stage q.what q.later)) None) c))
      by false c = c

  refuses : (o : Option Next) → lead Refuse ≡ o → may_refuse (policy h s t) b.caps q.what ≡ is_some o
  refuses (Some n) e = let f = step_of Refuse n (found_here Refuse n e) in may_refuse_so (problem h s t) b f.0.board q.stage q.what q.later (moves Refuse f.0 f.1)
  refuses None e = by (may_refuse (policy h s t) b.caps q.what) refl
    where
      by : (yes : Bool) → may_refuse (policy h s t) b.caps q.what ≡ yes → may_refuse (policy h s t) b.caps q.what ≡ false
      by true c = absurd (no_move Refuse e (refused (problem h s t) b q.stage q.what q.later) (ap (λ z. cond z (Some (refused (problem h s t) b q.stage q.what q.later)) None) c))
      by false c = c

  abbrev ans : Move × List Move
  ans = answer (problem h s t) b q.what run.tries

  answer_is : (og or : Option Next) → lead Grant ≡ og → lead Refuse ≡ or → ans ≡ given og or left
  answer_is og or eg er = ap₂ (λ x y. answer_by x y run.tries) (grants og eg) (refuses or er) ∙ ap (λ l. answer_by (is_some og) (is_some or) l) on.tries

  -- ---- where an answer leads

  abbrev Leaves : List Move → Next → Type 0
  Leaves rest (To to) = (now : Going) × Goes h s t w plain waits rest made run to now
  Leaves rest (Resumed to) = (now : Going) × Goes h s t w plain waits rest made run to now
  Leaves rest (Stopped seam) = (id : SeamId) → id.0 ≡ seam → Quits h s t w plain waits rest made run id
  Leaves rest (Into to call) = ⊥
  Leaves rest (Back to) = ⊥
  Leaves rest AllOver = ⊥

  not_over : b.phase ≢ Over
  not_over e = absurd (let clash : Asked q.stage q.what q.later ≡ Over = sym q.is_phase ∙ e in cc)

  come_is : to_come b.phase ≡ suc (length q.later)
  come_is = ap to_come q.is_phase

  -- the state behind an answer
  beside_answer : (by : Move) (next : State) (tries : List Move) → WovenStep (problem h s t) t run.woven by next → Beside h s t w plain (after h s t w plain run next tries run.tried)
  beside_answer by next tries k =
      beside_after h s t w plain run next tries run.tried on.paired not_over (answer_stays s (problem h s t) b next.board q.stage q.what q.later by q.is_phase (moves by next k))

  goes_to : (to : Here) → Moved h s t w run.woven ans.0 to waits → All IsAnswer ans.1 → (now : Going) × Goes h s t w plain waits ans.1 made run to now
  goes_to to move all =
      let past = answered_past (problem h s t) b move.next.board q.stage q.what q.later ans.0 (moves ans.0 move.next move.step) (never_refused h s t w move.next to waits move.sits) in (
        after h s t w plain run move.next ans.1 run.tried,
        record {
          weaves = record {
            paired = beside_answer ans.0 move.next ans.1 move.step;
            sits = move.sits;
            comes = comes_on h s t w run.woven move.next ans.0 on.comes move.step;
            tries = refl;
            answers = all;
            tried = on.tried;
          };
          calm = past.calm;
          machine = refl;
          less = subst (λ n. suc (to_come move.next.board.phase) ≤ n) (sym come_is) past.less;
          ends = λ n v rest. asks n run q.stage q.what q.later move.next v q.is_phase move.step rest;
        },
      )

  -- a refusal that a stop can answer, and what comes behind it
  module _ (r : Refusal h s t w run.woven) (is : ans.0 ≡ Refuse) where
    abbrev refused_run : Going
    refused_run = after h s t w plain run r.first ans.1 run.tried

    refusing : WovenStep (problem h s t) t run.woven ans.0 r.first
    refusing = subst (λ m. WovenStep (problem h s t) t run.woven m r.first) (sym is) r.step

    refused_weaving : IsWeaving r.first.board.phase
    refused_weaving = subst IsWeaving (sym r.phase) tt

    resumes_to : (to : Here) → Moved h s t w r.first Skip to waits → All IsAnswer ans.1 → (now : Going) × Goes h s t w plain waits ans.1 made run to now
    resumes_to to move all =
        let past = skipped (problem h s t) r.first.board move.next.board r.first.board.phase move.step.0.1 in
        let kept = refusal_kept (problem h s t) b r.first.board q.stage q.what q.later (moves Refuse r.first r.step) in
        let come = come_is in
        let less = past.less in (
          after h s t w plain refused_run move.next ans.1 run.tried,
          record {
            weaves = record {
              paired = beside_after h s t w plain refused_run move.next ans.1 run.tried (beside_answer Refuse r.first ans.1 r.step)
                  (weaving_on s (problem h s t) (Some t) (Inv (policy h s t) s w.fits) (invariant (policy h s t) s w.fits) r.first.board.phase refused_weaving)
                  (weave_stays s (problem h s t) r.first.board move.next.board r.first.board.phase Skip refl refused_weaving (λ e. absurd (cc)) move.step.0.1);
              sits = move.sits;
              comes = comes_on h s t w r.first move.next Skip (comes_on h s t w run.woven r.first Refuse on.comes r.step) move.step;
              tries = refl;
              answers = all;
              tried = on.tried;
            };
            calm = past.calm;
            machine = refl;
            less = omega arith;
            ends = λ n v rest. asks n run q.stage q.what q.later r.first v q.is_phase refusing (weaves n refused_run Skip move.next v refused_weaving tt (λ e. absurd (cc)) move.step rest);
          },
        )

    stops_at : (seam : ℕ) → Finished h s t w r.first StopMove → front_seam r.first.board.stack ≡ Some seam → (id : SeamId) → id.0 ≡ seam → Quits h s t w plain waits ans.1 made run id
    stops_at seam over front id e = λ n.
        subst (λ (k : ℕ). Ends s (problem h s t) (Some t) (suc n) run (record { made = run.machine.made; tried = k; stop = Refused id })) on.tried
        (asks n run q.stage q.what q.later r.first _ q.is_phase refusing (quits n refused_run over.next id refused_weaving tt over.step (front ∙ ap Some (sym e))))

  asks_done : (n : Next) → lead ans.0 ≡ Some n → (ans.0 ≡ On → ⊥) → All IsAnswer ans.1 → Leaves ans.1 n
  asks_done n e other all = by n (found_here ans.0 n e)
    where
      by : (n : Next) → Found h s t w run.woven waits ans.0 n → Leaves ans.1 n
      by (To to) k = goes_to to k all
      by (Into to call) k = absurd (other k.0)
      by (Back to) k = absurd (other k.0)
      by AllOver k = absurd (other k.0)
      by (Resumed to) k = resumes_to k.1.refusal k.0 to k.1.then all
      by (Stopped seam) k = stops_at k.1.refusal k.0 seam k.1.then k.1.at

  -- the move of what is given leads where it is said
  leads_so : (og or : Option Next) → lead Grant ≡ og → lead Refuse ≡ or → (m : Move) → IsAnswer m → lead m ≡ by_answer og or m
  leads_so og or eg er Grant k = eg
  leads_so og or eg er Refuse k = er
  leads_so og or eg er _ k = absurd k

  abbrev LeavesIf : List Move → Option Next → Type 0
  LeavesIf rest None = ⊥
  LeavesIf rest (Some n) = Leaves rest n

  asks_so : (og or : Option Next) → lead Grant ≡ og → lead Refuse ≡ or → (o : Option Next) → o ≡ by_answer og or (given og or left).0 → LeavesIf (given og or left).1 o
  asks_so og or eg er None e =
      let n = none_given og or left (sym e) in
      one_answer (problem h s t) b q.what (grants og eg ∙ ap is_some n.0) (refuses or er ∙ ap is_some n.1)
  asks_so og or eg er (Some n) e =
      let ga = given_answer og or left on.answers in
      let is = answer_is og or eg er in
      let to : lead ans.0 ≡ Some n = ap (λ (x : Move × List Move). lead x.0) is ∙ leads_so og or eg er (given og or left).0 ga.0 ∙ sym e in
      subst (λ (x : Move × List Move). Leaves x.1 n) is
      (asks_done n to (λ x. not_on (given og or left).0 ga.0 (sym (ap (λ (y : Move × List Move). y.0) is) ∙ x)) (subst (λ (x : Move × List Move). All IsAnswer x.1) (sym is) ga.1))

  visits_of : (rest : List Move) (n : NextData) → Leaves rest (next_is n) → Visits h s t w plain waits rest made run (visited_by n)
  visits_of rest (next_data.To to) k = k
  visits_of rest (next_data.Into to call) k = absurd k
  visits_of rest (next_data.Back to) k = absurd k
  visits_of rest next_data.Over k = absurd k
  visits_of rest (next_data.Resumed to) k = k
  visits_of rest (next_data.Stopped seam) k = k seam refl

  -- a call that waits has no weight where something is asked
  any_waits : (spot : Spot) → slice_get (g h s t w).spots here.pos ≡ Some spot → (by : Move) → lead by ≡ next_of (g h s t w) t here [] spot by
  any_waits spot es by =
      let same : spot ≡ AskedSpot q.seam q.stage q.what = same_Some spot at.spot (sym es ∙ at.at) ∙ q.is_spot in
      ap (λ z. next_of (g h s t w) t here waits z by) q.is_spot ∙ sym (ap (λ z. next_of (g h s t w) t here [] z by) same)

  abbrev pub VisitsIf : List Move → Option NextData → Type 0
  VisitsIf rest None = ⊥
  VisitsIf rest (Some n) = Visits h s t w plain waits rest made run (visited_by n)

  pub asks_visit : (spot : Spot) → slice_get (g h s t w).spots here.pos ≡ Some spot → (granted refused chosen : Option NextData) (rest : List Move)
      → option_map next_is granted ≡ next_of (g h s t w) t here [] spot Grant → option_map next_is refused ≡ next_of (g h s t w) t here [] spot Refuse
      → option_map next_is chosen ≡ by_answer (option_map next_is granted) (option_map next_is refused) (given (option_map next_is granted) (option_map next_is refused) left).0
      → rest ≡ (given (option_map next_is granted) (option_map next_is refused) left).1 → VisitsIf rest chosen
  asks_visit spot es granted refused chosen rest eg er ec el =
      let og = option_map next_is granted in
      let or = option_map next_is refused in
      by chosen (asks_so og or (any_waits spot es Grant ∙ sym eg) (any_waits spot es Refuse ∙ sym er) (option_map next_is chosen) ec)
    where
      by : (chosen : Option NextData) → LeavesIf (given (option_map next_is granted) (option_map next_is refused) left).1 (option_map next_is chosen) → VisitsIf rest chosen
      by None k = k
      by (Some n) k = subst (λ l. Visits h s t w plain waits l made run (visited_by n)) (sym el) (visits_of (given (option_map next_is granted) (option_map next_is refused) left).1 n k)

-- ---- what is chosen leads to positions and states of the game

chosen_in : (g : Game) (og or : Option Next) (m : Move) → IfSome og (IsNextIn g) → IfSome or (IsNextIn g) → IfSome (by_answer og or m) (IsNextIn g)
chosen_in g og or Refuse a b = b
chosen_in g og or _ a b = a

shown_in : (g : Game) (o : Option NextData) → IfSome o (λ n. IsNextIn g (next_is n)) → IfSome (option_map next_is o) (IsNextIn g)
shown_in g None k = tt
shown_in g (Some n) k = k

visited_in : (g : Game) (n : NextData) → IsNextIn g (next_is n) → IsVisited g (visited_by n)
visited_in g (next_data.To to) k = k
visited_in g (next_data.Into to call) k = k.0
visited_in g (next_data.Back to) k = k
visited_in g next_data.Over k = tt
visited_in g (next_data.Resumed to) k = k
visited_in g (next_data.Stopped seam) k = tt

pub chosen_range : (g : Game) (granted refused : Option NextData) (n : NextData) (m : Move) → IfSome granted (λ n. IsNextIn g (next_is n)) → IfSome refused (λ n. IsNextIn g (next_is n))
    → Some (next_is n) ≡ by_answer (option_map next_is granted) (option_map next_is refused) m → IsVisited g (visited_by n)
chosen_range g granted refused n m a b e =
    visited_in g n (subst (λ (o : Option Next). IfSome o (IsNextIn g)) (sym e) (chosen_in g (option_map next_is granted) (option_map next_is refused) m (shown_in g granted a) (shown_in g refused b)))
