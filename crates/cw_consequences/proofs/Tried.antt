-- What an audit tells of the answer of `weave`, that audits under policies with the same rules say the same, and that those of one differ in their moves alone.
use Rattle.std.proofs.Common.{◌≡◌, ℕ, List, length, Option, Some, None, Result, Ok, refl, sym, ap, ◌∙◌, subst, arith}
use Rattle.cw_rights.specs.Policies.{PlainPolicy}
use Rattle.cw_syntax.specs.Trees.{File}
use Rattle.cw_resolve.specs.Scenes.{names_of}
use Rattle.cw_points.specs.declared.graph.Graph.{Graph}
use Rattle.cw_points.specs.Graphs.{IsGraph}
use Rattle.cw_positions.proofs.Programs.{parts_length}
use Rattle.cw_game.specs.Games.{Game}
use Rattle.cw_product.specs.Product.{game_of}
use Rattle.cw_product.proofs.Routed.{routed}
use Rattle.cw_policy.proofs.Same.{one_policy}
use Rattle.cw_source.proofs.OneAnswer.{one_program}
use Rattle.cw_model.specs.Boards.{Problem, problem_of}
use Rattle.cw_audit_table.specs.Plays.{IsVerdict}
use Rattle.cw_audit_table.specs.Tables.{Audit}
use Rattle.cw_audit_table.specs.Conditions.{EndAlone, IsGoodAudit}
use Rattle.cw_audit_table.specs.Stated.{IsStated}
use Rattle.cw_audit_search.proofs.One.{tables_one}
use Rattle.cw_audit_text.specs.declared.fault.AuditTextFault.{AuditTextFault}
use Rattle.cw_audit_text.specs.AuditText.{Spells as AuditSpells}
use Rattle.cw_audit_text.proofs.OneAnswer.{one_answer as one_audit_answer}
use Rattle.cw_audit_laws.proofs.Ruled.{rules_alone}
use Rattle.cw_audit_laws.proofs.Tries.{forced_violated, meets_untried}
use Rattle.cw_commands.specs.declared.outcome.Reply.{Reply}
use Rattle.cw_commands.specs.declared.outcome.Reply.TheVariants.{Yes, No}
use Rattle.cw_stages.specs.Games.{IsGame}
use Rattle.cw_stages.proofs.OneGame.{one_game}
use Rattle.cw_auditing.specs.Auditing.{reply_of}
use Rattle.cw_cli.proofs.Winning.{won}
use Rattle.cw_cli.proofs.Agreeing.{alike}
use Rattle.cw_consequences.specs.Auditing.{AreButMoves, AuditTellsWhatIsTried, WhatIsRefutedViolates, AuditsSayTheSame, AuditsDifferInMoves}
use Rattle.cw_consequences.proofs.Reaudited.{IsToldOf, told_of, spelled}

-- ---- the distance of a program is one

verdict_one : (p : Problem) (D E : Option ℕ) → IsVerdict p D → IsVerdict p E → D ≡ E
verdict_one p None None h k = refl
verdict_one p None (Some T) h ((ms, many, v), least) = absurd (h ms v)
verdict_one p (Some T) None ((ms, many, v), least) k = absurd (k ms v)
verdict_one p (Some T) (Some U) ((ms, many, v), least) ((ns, more, w), low) =
    let a = least ns w in
    let b = low ms v in
    ap (λ n. Some n) (omega (arith, many, more, a, b))

-- yes is told of none
none_of : (D : Option ℕ) → reply_of D ≡ Yes → D ≡ None
none_of None e = refl
none_of (Some T) e = cc

never_none : (p : Problem) (D : Option ℕ) → IsVerdict p None → IsVerdict p D → reply_of D ≡ Yes
never_none p D none h = ap reply_of (verdict_one p D None h none)

violated_none : (p : Problem) (D : Option ℕ) → (IsVerdict p None → ⊥) → IsVerdict p D → reply_of D ≡ No
violated_none p None never h = absurd (never h)
violated_none p (Some T) never h = refl

-- ---- an audit for the same policy and source as another answer

module _ (policy source : List ℕ) (reply : Reply) (text : List ℕ) (a : IsToldOf policy source reply text) (whole : PlainPolicy) (file : File) where
  -- the audit's verdict is on the problem that another way of reading gives
  verdict_for : a.whole ≡ whole → a.file ≡ file → IsVerdict (problem_of whole source file) a.verdict.audit.distance
  verdict_for wholes files =
      subst (λ (f : File). IsVerdict (problem_of whole source f) a.verdict.audit.distance) files
      (subst (λ (x : PlainPolicy). IsVerdict (problem_of x source a.file) a.verdict.audit.distance) wholes a.verdict.true_of.verdict)

pub tells_tried : AuditTellsWhatIsTried
tells_tried policy source woven text reply won_due audit_due =
    let w = won policy source Yes woven won_due in
    let a = told_of policy source reply text audit_due in
    let p = problem_of w.whole source w.file in
    let verdict = verdict_for policy source reply text a w.whole w.file (one_policy policy a.whole w.whole a.are.spelled w.are.spelled) (one_program source a.file w.file a.are.reads w.are.reads) in
    let law = meets_untried p w.verdict.table w.verdict.sound w.verdict.lazy in
    record {
      whole = w.whole;
      file = w.file;
      table = w.verdict.table;
      are = w.are;
      stands = w.verdict.stands;
      tried = (
        (λ e. law.0 (subst (IsVerdict p) (none_of a.verdict.audit.distance (sym a.verdict.reply_is ∙ e)) verdict)),
        (λ never. a.verdict.reply_is ∙ never_none p a.verdict.audit.distance (law.1 never) verdict),
      );
    }

pub refuted_violates : WhatIsRefutedViolates
refuted_violates policy source strategy text reply won_due audit_due =
    let w = won policy source No strategy won_due in
    let a = told_of policy source reply text audit_due in
    let p = problem_of w.whole source w.file in
    let verdict = verdict_for policy source reply text a w.whole w.file (one_policy policy a.whole w.whole a.are.spelled w.are.spelled) (one_program source a.file w.file a.are.reads w.are.reads) in
    let v = forced_violated p w.verdict.forced.0 w.verdict.forced.1 in
    a.verdict.reply_is ∙ violated_none p a.verdict.audit.distance (λ (none : IsVerdict p None). none v.0 v.1) verdict

-- ---- two policies with the same rules

-- a text is that of one audit
one_audit : (text : List ℕ) (t u : Audit) → AuditSpells text t → AuditSpells text u → t ≡ u
one_audit text t u h k = let same : ◌≡◌ {A = Result Audit AuditTextFault} (Ok t) (Ok u) = one_audit_answer text (Ok t) (Ok u) h k in cc

pub say_same : AuditsSayTheSame
say_same policy other source text answer reply again x y spells spelled_too same due behind =
    let a = told_of policy source reply text due in
    let b = told_of other source again answer behind in
    let files : b.file ≡ a.file = one_program source b.file a.file b.are.reads a.are.reads in
    let first = verdict_for policy source reply text a x a.file (one_policy policy a.whole x a.are.spelled spells) refl in
    let second = verdict_for other source again answer b y a.file (one_policy other b.whole y b.are.spelled spelled_too) files in
    let moved = ((rules_alone x y source a.file same).verdicts a.verdict.audit.distance).0 first in
    let one : a.verdict.audit.distance ≡ b.verdict.audit.distance = verdict_one (problem_of y source a.file) a.verdict.audit.distance b.verdict.audit.distance moved second in (
      a.verdict.reply_is ∙ ap reply_of one ∙ sym b.verdict.reply_is,
      λ t u h k.
          ap (λ (z : Audit). z.distance) (one_audit text t a.verdict.audit h (spelled policy source reply text a))
          ∙ one
          ∙ ap (λ (z : Audit). z.distance) (one_audit answer b.verdict.audit u (spelled other source again answer b) k),
    )

-- ---- two audits of one policy

but_moves : (t u v w : Audit) → t ≡ v → u ≡ w → AreButMoves v w → AreButMoves t u
but_moves t u v w e f h = record {
  states = ap (λ (z : Audit). z.states) e ∙ h.states ∙ sym (ap (λ (z : Audit). z.states) f);
  distance = ap (λ (z : Audit). z.distance) e ∙ h.distance ∙ sym (ap (λ (z : Audit). z.distance) f);
  groups = ap (λ (z : Audit). z.groups) e ∙ h.groups ∙ sym (ap (λ (z : Audit). z.groups) f);
}

module _ (policy source : List ℕ) (reply : Reply) (text : List ℕ) (a : IsToldOf policy source reply text) where
  functions_many : length a.held.graph.parts.items ≡ length a.file.functions
  functions_many = ap (λ (k : Graph). length k.parts.items) a.is_game.graph_is ∙ ap length a.drawn.parts ∙ parts_length (names_of a.whole) source a.file

  -- an exit stands at the end of each function alone
  end_alone : EndAlone (game_of a.held) (length a.file.functions)
  end_alone = subst (EndAlone (game_of a.held)) functions_many (λ f p k lt low high e. (routed a.held a.made.graph f lt).alone p k (low, high) e)

  module _ (again : Reply) (answer : List ℕ) (b : IsToldOf policy source again answer) where
    wholes : b.whole ≡ a.whole
    wholes = one_policy policy b.whole a.whole b.are.spelled a.are.spelled

    files : b.file ≡ a.file
    files = one_program source b.file a.file b.are.reads a.are.reads

    drawn : IsGraph (names_of a.whole) source a.file b.graph
    drawn = subst (λ (x : File). IsGraph (names_of a.whole) source x b.graph) files (subst (λ (x : PlainPolicy). IsGraph (names_of x) source b.file b.graph) wholes b.drawn)

    games : game_of b.held ≡ game_of a.held
    games =
        one_game a.whole b.graph a.graph (alike a.whole source a.file b.graph a.graph drawn a.drawn) b.held a.held
        (subst (λ (x : PlainPolicy). IsGame x b.graph b.held) wholes b.is_game) a.is_game

    good : IsGoodAudit (game_of a.held) (length a.file.functions) b.verdict.audit
    good = subst (λ (x : File). IsGoodAudit (game_of a.held) (length x.functions) b.verdict.audit) files (subst (λ (x : Game). IsGoodAudit x (length b.file.functions) b.verdict.audit) games b.verdict.is.good)

    one : AreButMoves a.verdict.audit b.verdict.audit
    one =
        let z = tables_one (game_of a.held) (length a.file.functions) a.verdict.audit b.verdict.audit end_alone a.verdict.is.good a.verdict.is.stated good (subst (λ (x : Game). IsStated x b.verdict.audit) games b.verdict.is.stated) in
        record { states = z.0; distance = z.1; groups = z.2 }

pub differ_in_moves : AuditsDifferInMoves
differ_in_moves policy source text answer reply again due behind =
    let a = told_of policy source reply text due in
    let b = told_of policy source again answer behind in
    let same = one policy source reply text a again answer b in (
      a.verdict.reply_is ∙ ap reply_of same.distance ∙ sym b.verdict.reply_is,
      λ t u h k. but_moves t u a.verdict.audit b.verdict.audit (one_audit text t a.verdict.audit h (spelled policy source reply text a)) (one_audit answer u b.verdict.audit k (spelled policy source again answer b)) same,
    )
