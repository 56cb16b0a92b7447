-- What is known where a text is due for `procs`, and that without detached functions `procs` is `weave`.
use Rattle.std.proofs.Common.{◌≡◌, ◌≤◌, inl, inr, List, [], ℕ, None, length, sym, ap, ◌∙◌, subst, refl}
use Rattle.std.proofs.lemmas.Option.{none-some}
use Rattle.cw_core.specs.Quantities.{limit_of}
use Rattle.cw_core.specs.declared.quantity.Quantity.TheVariants.{Points, SourceBytes}
use Rattle.cw_rights.specs.Policies.{PlainPolicy}
use Rattle.cw_policy.proofs.Same.{one_policy}
use Rattle.cw_syntax.specs.Plans.{plan_of}
use Rattle.cw_syntax.specs.Trees.{File}
use Rattle.cw_resolve.specs.Scenes.{names_of}
use Rattle.cw_lex.specs.declared.tokens.Token.{Token}
use Rattle.cw_lex.specs.Tokens.{AreTokens}
use Rattle.cw_source.proofs.OneAnswer.{one_program}
use Rattle.cw_callgraph.specs.Fitting.{Fits}
use Rattle.cw_points.specs.declared.graph.Graph.{Graph}
use Rattle.cw_points.specs.Graphs.{IsGraph}
use Rattle.cw_points.specs.Points.{point_count}
use Rattle.cw_model.specs.Boards.{problem_of}
use Rattle.cw_game.specs.Games.{Game}
use Rattle.cw_game.specs.Standing.{IsGameOf}
use Rattle.cw_product.specs.Made.{IsMade}
use Rattle.cw_product.specs.Product.{Held, game_of}
use Rattle.cw_worlds.specs.Forks.{fork_places}
use Rattle.cw_worlds.proofs.Meeting.{worlds_meet}
use Rattle.cw_detach.specs.declared.faults.ProcFault.{ProcFault}
use Rattle.cw_detach.specs.declared.faults.ProcFault.TheVariants.{NoFunction, Both, Taken, Result, Limit, NoMemory}
use Rattle.cw_detach.specs.Faults.{taken, IsFirstFault}
use Rattle.cw_detach.specs.Form.{form_of}
use Rattle.cw_detach.proofs.Plain.{form_same, taken_alone}
use Rattle.cw_detach.proofs.Rules.{form_few}
use Rattle.cw_commands.specs.declared.outcome.Reply.{Reply}
use Rattle.cw_commands.specs.declared.outcome.Reply.TheVariants.{Yes, No}
use Rattle.cw_commands.specs.Outcomes.{Due, Told, Refused}
use Rattle.cw_stages.specs.Games.{IsGame, WhereFits}
use Rattle.cw_stages.specs.Reading.{AreRead}
use Rattle.cw_stages.specs.Refusals.{yes}
use Rattle.cw_stages.specs.Verdicts.{AfterGame, IsVerdict}
use Rattle.cw_stages.proofs.Onward.{by_fit}
use Rattle.cw_checking.specs.Refuting.{IsRefuteDue}
use Rattle.cw_parting.specs.Parting.{IsParted, IsProcsDue, OfForm}
use Rattle.cw_parting.specs.Refusals.{form_refusal}
use Rattle.cw_parting.proofs.Behind.{is_verdict}
use Rattle.cw_cli.specs.Weaving.{AfterPair, IsWeaveDue}
use Rattle.cw_cli.proofs.Agreeing.{checked_won, judged_won, only_checked, only_judged}
use Rattle.cw_cli.proofs.Winning.{IsWon, never_game, never_unread}
use Rattle.cw_cli.specs.Agreeing.{IsOnly}
use Rattle.cw_consequences.specs.Laws.{FormIsChecked, FormIsJudged, ProcsIsWeave}

-- ---- a text that is due is won for the form

never_form : (source : List ℕ) (whole : PlainPolicy) (r : Reply) (text : List ℕ) (f : ProcFault) → Told r text ≡ form_refusal source whole f → ⊥
never_form source whole r text (NoFunction i) e = cc
never_form source whole r text (Both i) e = cc
never_form source whole r text (Taken at) e = cc
never_form source whole r text (Result at) e = cc
never_form source whole r text (Limit quantity) e = cc
never_form source whole r text NoMemory e = cc

module _ (policy form : List ℕ) (whole : PlainPolicy) (file : File) (r : Reply) (text : List ℕ) (are : AreRead policy form whole file) where
  won_game : Fits form file whole → point_count (plan_of (names_of whole) form file) ≤ limit_of Points → (graph : Graph) → IsGraph (names_of whole) form file graph → (held : Held)
      → IsGame whole graph held → IsMade held → IsGameOf (problem_of whole form file) (game_of held) → AfterGame (IsVerdict whole form file) (game_of held) (Told r text) → IsWon policy form r text
  won_game fits few graph drawn held is_game made of (inl (cells, e)) = absurd cc
  won_game fits few graph drawn held is_game made of (inr (cells, inl (rows, e))) = absurd cc
  won_game fits few graph drawn held is_game made of (inr (cells, inr verdict)) = record {
    whole = whole;
    file = file;
    graph = graph;
    held = held;
    are = are;
    fits = fits;
    few = few;
    drawn = drawn;
    is_game = is_game;
    made = made;
    of = of;
    verdict = verdict;
  }

  won_fits : WhereFits (AfterGame (IsParted whole form file)) form whole file (Told r text) → IsWon policy form r text
  won_fits (inl (f, is, e)) = absurd cc
  won_fits (inr (fits, inl (many, e))) = absurd cc
  won_fits (inr (fits, inr (few, graph, drawn, inl (f, ne, is, e)))) = absurd (never_game r text f e)
  won_fits (inr (fits, inr (few, graph, drawn, inr (held, is_game, made, of, behind)))) =
      won_game fits few graph drawn held is_game made of (is_verdict whole form file (game_of held) (Told r text) behind)

-- what is known where a text is due
record IsFormWon (policy source : List ℕ) (r : Reply) (text : List ℕ) : Type 0 where
  whole : PlainPolicy
  file : File
  are : AreRead policy source whole file
  few : length (form_of source whole.detached file) ≤ limit_of SourceBytes
  won : IsWon policy (form_of source whole.detached file) r text

won_form : (policy source : List ℕ) (r : Reply) (text : List ℕ) → IsProcsDue policy source (Told r text) → IsFormWon policy source r text
won_form policy source r text (inl u) = absurd (never_unread policy source r text u)
won_form policy source r text (inr (whole, file, are, inl (f, ne, is, e))) = absurd (never_form source whole r text f e)
won_form policy source r text (inr (whole, file, are, inr (clear, (read, reads, none, behind)))) = record {
  whole = whole;
  file = file;
  are = are;
  few = form_few source file whole clear;
  won = won_fits policy (form_of source whole.detached file) whole read r text (record { spelled = are.spelled; reads = reads; descriptors = none }) behind;
}

pub form_is_checked : FormIsChecked
form_is_checked policy source text due =
    let w = won_form policy source Yes text due in
    let form = form_of source w.whole.detached w.file in
    (checked_won policy form text w.few w.won, only_checked policy form text w.few w.won)

pub form_is_judged : FormIsJudged
form_is_judged policy source text whole file are due =
    let w = won_form policy source No text due in
    let form = form_of source w.whole.detached w.file in
    let policies : w.whole ≡ whole = one_policy policy w.whole whole w.are.spelled are.spelled in
    let files : w.file ≡ file = one_program source w.file file w.are.reads are.reads in
    let same : form ≡ form_of source whole.detached file =
    ap (λ (p : PlainPolicy). form_of source p.detached w.file) policies ∙ ap (λ (x : File). form_of source whole.detached x) files in
    subst (λ (s : List ℕ). IsOnly (IsRefuteDue policy s text) (Told Yes yes)) same (judged_won policy form text w.won, only_judged policy form text w.won)

-- ---- without detached functions

verdict_of : (whole : PlainPolicy) (source : List ℕ) (file : File) (due : Due) (g : Game) → IsParted whole source file g due → IsVerdict whole source file g due
verdict_of whole source file (Told Yes text) g (woven, meets) = woven
verdict_of whole source file (Told No text) g h = h
verdict_of whole source file (Refused cause line) g h = absurd h

parted_of : (whole : PlainPolicy) (source : List ℕ) (file : File) (due : Due) (g : Game) → IsVerdict whole source file g due → IsParted whole source file g due
parted_of whole source file (Told Yes text) g woven = (woven, worlds_meet (problem_of whole source file) woven.table (fork_places source file) woven.sound)
parted_of whole source file (Told No text) g h = h
parted_of whole source file (Refused cause line) g h = absurd h

module _ (policy source : List ℕ) (tokens : List Token) (short : length source ≤ limit_of SourceBytes) (lexed : AreTokens source tokens) (none_taken : taken source tokens ≡ None)
    (attached : (p : PlainPolicy) (file : File) → AreRead policy source p file → p.detached ≡ []) where
  source_is : (p : PlainPolicy) (file : File) → AreRead policy source p file → form_of source p.detached file ≡ source
  source_is p file are = ap (λ (names : List (List ℕ)). form_of source names file) (attached p file are) ∙ form_same source file

  to_weave : (due : Due) → IsProcsDue policy source due → IsWeaveDue policy source due
  to_weave due (inl u) = inl u
  to_weave due (inr (p, file, are, inl (f, ne, is, e))) =
      absurd (none-some f (sym none_taken ∙ sym (taken_alone source tokens file p _ are.reads short (attached p file are) lexed is)))
  to_weave due (inr (p, file, are, inr (clear, of_form))) = by (subst (λ (s : List ℕ). OfForm p s due) (source_is p file are) of_form)
    where
      by : OfForm p source due → IsWeaveDue policy source due
      by (other, reads, none, behind) = inr (
        p,
        other,
        record { spelled = are.spelled; reads = reads; descriptors = none },
        fitted (by_fit (IsParted p source other) (IsVerdict p source other) due (verdict_of p source other due) source p other behind),
      )
        where
          fitted : WhereFits (AfterGame (IsVerdict p source other)) source p other due → AfterPair (IsVerdict p source other) source p other due
          fitted (inl refusal) = inl refusal
          fitted (inr (fits, rest)) = inr (fits, inr (attached p file are, rest))

  from_weave : (due : Due) → IsWeaveDue policy source due → IsProcsDue policy source due
  from_weave due (inl u) = inl u
  from_weave due (inr (p, file, are, behind)) =
      inr (p, file, are, inr (clear, subst (λ (s : List ℕ). OfForm p s due) (sym (source_is p file are)) (file, are.reads, are.descriptors, fitted behind)))
    where
      clear : IsFirstFault source file p None
      clear = (tokens, lexed, sym (taken_alone source tokens file p _ are.reads short (attached p file are) lexed (tokens, lexed, refl) ∙ none_taken))

      parts : WhereFits (AfterGame (IsVerdict p source file)) source p file due → WhereFits (AfterGame (IsParted p source file)) source p file due
      parts h = by_fit (IsVerdict p source file) (IsParted p source file) due (parted_of p source file due) source p file h

      fitted : AfterPair (IsVerdict p source file) source p file due → WhereFits (AfterGame (IsParted p source file)) source p file due
      fitted (inl refusal) = inl refusal
      fitted (inr (fits, inl (some, e))) = absurd (some (attached p file are))
      fitted (inr (fits, inr (none, rest))) = parts (inr (fits, rest))

pub procs_is_weave : ProcsIsWeave
procs_is_weave policy source whole file tokens are short none lexed none_taken due =
    (to_weave policy source tokens short lexed none_taken attached due, from_weave policy source tokens short lexed none_taken attached due)
  where
    attached : (p : PlainPolicy) (other : File) → AreRead policy source p other → p.detached ≡ []
    attached p other read = ap (λ (q : PlainPolicy). q.detached) (one_policy policy p whole read.spelled are.spelled) ∙ none
