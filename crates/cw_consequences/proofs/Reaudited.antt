-- What `audit` writes, `reaudit` accepts, and nothing else is due for it.
use Rattle.std.proofs.Common.{◌≡◌, ℕ, zero, suc, ◌+◌, ◌≤◌, List, [], ◌∷◌, length, map, true, Option, Some, None, refl, sym, ap, ◌∙◌, subst, arith, inl, inr}
use Rattle.std.specs.Prelude.{slice_get}
use Rattle.std.specs.List.{AllByRecursion, flat_map}
use Rattle.std.proofs.lemmas.Bool.{and_parts, ltb-true}
use Rattle.std.proofs.lemmas.List.{map-append}
use Rattle.std.proofs.lemmas.List.Elements.{All-from_recursion}
use Rattle.cw_lemmas.proofs.Lists.{all_append}
use Rattle.cw_rights.specs.Policies.{PlainPolicy}
use Rattle.cw_syntax.specs.Trees.{File}
use Rattle.cw_resolve.specs.Scenes.{names_of}
use Rattle.cw_certs.specs.declared.moves.Move.{Move}
use Rattle.cw_certs.specs.declared.moves.Move.TheVariants.{On, Left, Right, Opened, Failed}
use Rattle.cw_points.specs.declared.graph.Graph.{Graph}
use Rattle.cw_positions.proofs.Programs.{is_whole, parts_length}
use Rattle.cw_model.specs.Boards.{problem_of}
use Rattle.cw_game.specs.Conditions.{is_position, is_state}
use Rattle.cw_game.specs.Games.{Game, Config}
use Rattle.cw_product.specs.Product.{Held, game_of}
use Rattle.cw_audit_table.specs.Runs.{Goes, here, skips, goes, is_step}
use Rattle.cw_audit_table.specs.Tables.{PlainRow, PlainGroup, Audit}
use Rattle.cw_audit_table.specs.Stated.{IsStated}
use Rattle.cw_audit_table.specs.Conditions.{IsGoodAudit}
use Rattle.cw_audit_table.proofs.Closing.{holds_at, parts}
use Rattle.cw_audit_search.proofs.Ascending.{group_there, row_there}
use Rattle.cw_audit_search.proofs.Counting.{ranges_ascend}
use Rattle.cw_audit.specs.Audits.{IsAuditOf, IsFew}
use Rattle.cw_answer_texts.specs.Spelled.{IsGameMade}
use Rattle.cw_answer_texts.proofs.Bounds.{few_states, state_small, position_small}
use Rattle.cw_text.specs.Moves.{IsEnvironments}
use Rattle.cw_audit_text.specs.declared.text_line.TextLine.TheVariants.{Go}
use Rattle.cw_audit_text.specs.TextLines.{FitsLine}
use Rattle.cw_audit_text.specs.AuditText.{audit_text, body_of, group_lines, row_line, Fits as AuditFits, FitsDistance, HasNoMoves, Spells}
use Rattle.cw_commands.specs.declared.outcome.Reply.{Reply}
use Rattle.cw_commands.specs.declared.outcome.Reply.TheVariants.{Yes, No}
use Rattle.cw_commands.specs.Outcomes.{Due, Told}
use Rattle.cw_stages.specs.Refusals.{yes}
use Rattle.cw_auditing.specs.Auditing.{IsAuditDue, IsTrueOf, reply_of}
use Rattle.cw_auditing.specs.Reauditing.{IsReauditDue}
use Rattle.cw_cli.proofs.Winning.{IsPlayed, game_made, never_game, never_unread}
use Rattle.cw_consequences.specs.Auditing.{AuditIsAccepted}
use Rattle.cw_consequences.proofs.Audited.{one_reaudit}

-- ---- each line fits

all_rows : (rows : List PlainRow) → ((n : ℕ) (r : PlainRow) → slice_get rows n ≡ Some r → FitsLine (row_line r)) → AllByRecursion FitsLine (map row_line rows)
all_rows [] h = tt
all_rows (r ∷ rows) h = (h zero r refl, all_rows rows (λ n x e. h (suc n) x e))

all_groups : (groups : List PlainGroup) → ((i : ℕ) (grp : PlainGroup) → slice_get groups i ≡ Some grp → AllByRecursion FitsLine (group_lines grp))
    → AllByRecursion FitsLine (flat_map group_lines groups)
all_groups [] h = tt
all_groups (x ∷ groups) h = all_append FitsLine (group_lines x) (flat_map group_lines groups) (h zero x refl) (all_groups groups (λ i grp e. h (suc i) grp e))

step_fits : (by : Move) → is_step by ≡ true → IsEnvironments by
step_fits On e = tt
step_fits Left e = tt
step_fits Right e = tt
step_fits Opened e = tt
step_fits Failed e = tt
step_fits _ e = cc

-- the moves of a run are the program's own
run_fits : (g : Game) (c d : Config) (ms : List Move) → Goes g c ms d → AllByRecursion FitsLine (map Go ms)
run_fits g c _ [] here = tt
run_fits g c d ms (skips _ x _ before leads) = run_fits g c x ms before
run_fits g c d _ (goes ns x _ by before good step leads) =
    subst (AllByRecursion FitsLine) (sym (map-append Go ns (by ∷ []))) (all_append FitsLine (map Go ns) (Go by ∷ []) (run_fits g c x ns before) (step_fits by step, tt))

distance_fits : (o : Option ℕ) → IsFew o → FitsDistance o
distance_fits None few = tt
distance_fits (Some T) few = omega (arith, few)

no_moves : (o : Option ℕ) (ms : List Move) → (o ≡ None → ms ≡ []) → HasNoMoves o ms
no_moves None ms h = h refl
no_moves (Some T) ms h = tt

-- ---- the audit of a game has a text

module _ (h : Held) (is : IsGameMade h) (functions : ℕ) (few : functions ≤ 4096) (t : Audit) (good : IsGoodAudit (game_of h) functions t) (stated : IsStated (game_of h) t) where
  group_fits : (i : ℕ) (grp : PlainGroup) → slice_get t.groups i ≡ Some grp → AllByRecursion FitsLine (group_lines grp)
  group_fits i grp e =
      let g = game_of h in
      let order = ranges_ascend g functions 0 None t.groups (parts g functions t good).ranges in
      let holds = holds_at g functions t good i grp e in
      let own = and_parts _ (is_state g grp.entered) holds.group in
      let function = ltb-true grp.function functions own.0 in
      let some = ltb-true grp.entered g.states.count own.1 in
      let there = group_there t.groups i grp grp.function grp.entered order.0 e refl refl in
      let reach = (stated.reached grp.function grp.entered grp there).0.2 in
      let entered = state_small h is grp.entered own.1 in (
        (omega (arith, function, few), omega (arith, entered), omega (arith, reach)),
        all_rows grp.rows (λ n r er.
            let pair = and_parts (is_position g r.pos) _ (holds.rows n r er).pair in
            let state = state_small h is r.state (and_parts (is_state g r.state) _ pair.1).0 in
            let pos = position_small h is r.pos (omega (arith, some)) pair.0 in
            let inside = (stated.within grp.function grp.entered r.pos r.state r.inside grp there (row_there grp.rows n r r.pos r.state (order.1 i grp e) er refl refl)).0.2 in
            (omega (arith, pos), omega (arith, state), omega (arith, inside))),
      )

pub audit_fits : (h : Held) → IsGameMade h → (functions : ℕ) → functions ≤ 4096 → (t : Audit) → IsAuditOf (game_of h) functions t → AuditFits t
audit_fits h is functions few t of =
    let states = of.stated.states in
    let many = few_states h is in
    record {
      states = omega (arith, states, many);
      distance = distance_fits t.distance of.few_moves;
      moves = no_moves t.distance t.moves of.needed;
      items = All-from_recursion FitsLine (body_of t)
          (all_append FitsLine (map Go t.moves) (flat_map group_lines t.groups) (moves t.distance refl) (all_groups t.groups (group_fits h is functions few t of.good of.stated)));
    }
  where
    moves : (o : Option ℕ) → t.distance ≡ o → AllByRecursion FitsLine (map Go t.moves)
    moves None e = subst (λ ms. AllByRecursion FitsLine (map Go ms)) (sym (of.needed e)) tt
    moves (Some T) e = let s = (of.shown T e).1 in run_fits (game_of h) _ s.0 t.moves s.1

-- ---- what is known where an audit is told

abbrev text_in : Due → List ℕ
text_in (Told r text) = text
text_in _ = []

abbrev reply_in : Due → Reply
reply_in (Told r text) = r
reply_in _ = No

pub record IsAuditTold (source : List ℕ) (r : Reply) (text : List ℕ) (whole : PlainPolicy) (file : File) (held : Held) : Type 0 where
  pub audit : Audit
  pub is : IsAuditOf (game_of held) (length file.functions) audit
  pub true_of : IsTrueOf (problem_of whole source file) audit
  pub reply_is : r ≡ reply_of audit.distance
  pub text_is : text ≡ audit_text audit

abbrev pub IsToldOf : (policy source : List ℕ) (r : Reply) (text : List ℕ) → Type 0
IsToldOf policy source r text = IsPlayed policy source (IsAuditTold source r text)

pub told_of : (policy source : List ℕ) (r : Reply) (text : List ℕ) → IsAuditDue policy source (Told r text) → IsToldOf policy source r text
told_of policy source r text (inl u) = absurd (never_unread policy source r text u)
told_of policy source r text (inr (whole, file, are, inl (f, is, e))) = absurd cc
told_of policy source r text (inr (whole, file, are, inr (fits, inl (many, e)))) = absurd cc
told_of policy source r text (inr (whole, file, are, inr (fits, inr (few, graph, drawn, inl (f, ne, is, e))))) = absurd (never_game r text f e)
told_of policy source r text (inr (whole, file, are, inr (fits, inr (few, graph, drawn, inr (held, is_game, made, of, inl (many, e)))))) = absurd cc
told_of policy source r text (inr (whole, file, are, inr (fits, inr (few, graph, drawn, inr (held, is_game, made, of, inr (inl (many, e))))))) = absurd cc
told_of policy source r text (inr (whole, file, are, inr (fits, inr (few, graph, drawn, inr (held, is_game, made, of, inr (inr (t, is, true_of, e))))))) = record {
  whole = whole;
  file = file;
  graph = graph;
  held = held;
  are = are;
  fits = fits;
  few = few;
  drawn = drawn;
  is_game = is_game;
  made = made;
  of = of;
  verdict = record { audit = t; is = is; true_of = true_of; reply_is = ap reply_in e; text_is = ap text_in e };
}

module _ (policy source : List ℕ) (r : Reply) (text : List ℕ) (w : IsToldOf policy source r text) where
  functions_few : length w.file.functions ≤ 4096
  functions_few =
      let made = game_made w.whole source w.file w.graph w.held w.drawn w.few w.is_game w.made in
      let points = subst (λ (k : Graph). length k.nodes.items ≤ 8192) w.is_game.graph_is made.points in
      let whole = (is_whole (names_of w.whole) source w.file w.graph w.drawn).few in
      let many = ap length w.drawn.parts ∙ parts_length (names_of w.whole) source w.file in
      omega (arith, points, whole, many)

  pub spelled : Spells text w.verdict.audit
  spelled = record {
    fits = audit_fits w.held (game_made w.whole source w.file w.graph w.held w.drawn w.few w.is_game w.made) (length w.file.functions) functions_few w.verdict.audit w.verdict.is;
    spelled = w.verdict.text_is;
  }

  accepted : IsReauditDue policy source text (Told Yes yes)
  accepted =
      inr (w.whole, w.file, w.are, inr (w.verdict.audit, spelled, inr (w.fits, inr (w.few, w.graph, w.drawn, inr (w.held, w.is_game, w.made, w.of, inl (w.verdict.is.good, w.verdict.is.shown, refl, w.verdict.true_of.verdict))))))

pub audit_is_accepted : AuditIsAccepted
audit_is_accepted policy source text r due =
    let w = told_of policy source r text due in
    let yes_due = accepted policy source r text w in
    (yes_due, λ other is. one_reaudit policy source text other (Told Yes yes) is yes_due)
