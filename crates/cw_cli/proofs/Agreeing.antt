-- What `weave` writes, `check` and `refute` accept, and nothing else is due for it.
use Rattle.std.proofs.Common.{◌≡◌, ℕ, ◌≤◌, List, [], length, Some, None, Ok, Err, refl, sym, ap, ◌∙◌, subst, arith, inl, inr}
use Rattle.std.proofs.lemmas.Option.{get_or_from_slice_get, none-some, slice_get_within}
use Rattle.cw_core.specs.Quantities.{limit_of}
use Rattle.cw_core.specs.declared.quantity.Quantity.TheVariants.{SourceBytes}
use Rattle.cw_rights.specs.Policies.{PlainPolicy}
use Rattle.cw_rights.specs.Valid.{IsValid}
use Rattle.cw_syntax.specs.Trees.{File}
use Rattle.cw_resolve.specs.Scenes.{names_of}
use Rattle.cw_callgraph.specs.declared.fit.FitFault.{FitFault}
use Rattle.cw_callgraph.specs.declared.fit.FitFault.TheVariants.{NoLabel, NoFunction, NotSplittable}
use Rattle.cw_callgraph.specs.Fitting.{Fits, IsFitFault, MayBeSplit}
use Rattle.cw_callgraph.specs.Forbidding.{Forbids, IsLeast}
use Rattle.cw_points.specs.declared.graph.Graph.{Graph}
use Rattle.cw_points.specs.Graphs.{IsGraph}
use Rattle.cw_certs.specs.Strategies.{Strategy}
use Rattle.cw_certs.specs.Tables.{Table}
use Rattle.cw_game.specs.Games.{Game}
use Rattle.cw_game.specs.Conditions.{strategy_fault, table_fault}
use Rattle.cw_policy.proofs.Kept.{is_valid}
use Rattle.cw_policy.proofs.Same.{one_policy, refused_spells_none}
use Rattle.cw_scope.specs.Descriptors.{descriptor_fault}
use Rattle.cw_source.proofs.OneAnswer.{never_both, one_program}
use Rattle.cw_strategy_text.specs.StrategyText.{Spells, Fits as StrategyFits}
use Rattle.cw_strategy_text.proofs.OneAnswer.{one_answer}
use Rattle.cw_table_text.specs.Grammar.{IsTable}
use Rattle.cw_answer_texts.proofs.Stated.{strategies_have_texts}
use Rattle.cw_answer_texts.proofs.Tabled.{tables_have_texts}
use Rattle.cw_woven.specs.Reading.{IsAccepted, ReadsWoven}
use Rattle.cw_woven.proofs.Again.{reads}
use Rattle.cw_woven.proofs.Apart.{no_fault, one_reading}
use Rattle.cw_woven.proofs.Opening.{is_fault}
use Rattle.cw_commands.specs.declared.outcome.Reply.TheVariants.{Yes, No}
use Rattle.cw_commands.specs.Outcomes.{Due, Told}
use Rattle.cw_stages.specs.Reading.{IsUnread}
use Rattle.cw_stages.specs.Refusals.{yes}
use Rattle.cw_stages.proofs.OneGame.{AreAlike, no_cause, one_game}
use Rattle.cw_checking.specs.Checking.{AfterPolicy, AfterWoven, IsCheckDue}
use Rattle.cw_checking.specs.Refuting.{AfterPair as AfterRefutePair, AfterStrategy, IsRefuteDue}
use Rattle.cw_cli.specs.Agreeing.{RefutedIsJudged, WovenIsChecked}
use Rattle.cw_cli.proofs.Winning.{IsWon, game_made, won}

-- the graphs of a program are alike
pub alike : (whole : PlainPolicy) (source : List ℕ) (file : File) (g k : Graph) → IsGraph (names_of whole) source file g → IsGraph (names_of whole) source file k → AreAlike g k
alike whole source file g k is of = record { nodes = is.nodes ∙ sym of.nodes; parts = is.parts ∙ sym of.parts; main = is.main ∙ sym of.main }

-- a policy that fits has no fault of fitting
pub fits_once : (source : List ℕ) (file : File) (whole : PlainPolicy) (f : FitFault) → Fits source file whole → IsFitFault source file whole f → ⊥
fits_once source file whole (NoLabel i) fits e = none-some i (sym fits.0 ∙ e)
fits_once source file whole (NoFunction i) fits (labels, e) = none-some i (sym fits.1 ∙ e)
fits_once source file whole (NotSplittable i place) fits (labels, functions, first) =
    let within = slice_get_within whole.split i first.name first.named in
    let may : MayBeSplit source file (names_of whole) first.name =
    subst (MayBeSplit source file (names_of whole)) (get_or_from_slice_get whole.split i first.name [] first.named) (fits.2 i [] within) in
    once (may first.function first.defined) first.least
  where
    once : IsLeast (Forbids (names_of whole) source file first.function) None → IsLeast (Forbids (names_of whole) source file first.function) (Some place) → ⊥
    once none some = none place some.0

module _ (policy source text : List ℕ) where
  module _ (short : length source ≤ limit_of SourceBytes) (w : IsWon policy source Yes text) where
    abbrev table : Table
    table = w.verdict.table

    valid_won : IsValid w.whole
    valid_won = is_valid policy w.whole w.are.spelled

    -- the text is read as the source and the table
    read_won : ReadsWoven w.whole text source w.file table
    read_won =
        let accepted : IsAccepted w.whole source w.file = record { short = short; reads = w.are.reads; descriptors = w.are.descriptors; few = w.few } in
        let has = tables_have_texts w.held table (game_made w.whole source w.file w.graph w.held w.drawn w.few w.is_game w.made) w.verdict.good w.verdict.ascends w.verdict.few in
        reads w.whole text source w.file table valid_won accepted (subst (λ (p : PlainPolicy). IsTable p.format table) w.is_game.policy_is has) w.verdict.stands

    pub checked_won : IsCheckDue policy text (Told Yes yes)
    checked_won =
        inr (w.whole, w.are.spelled, inr (source, w.file, table, read_won, inr (w.fits, w.graph, w.drawn, inr (w.held, w.is_game, w.made, w.of, inl (w.verdict.good, refl, w.verdict.sound)))))

    after_reading : (due : Due) → AfterWoven source w.whole w.file table due → due ≡ Told Yes yes
    after_reading due (inl (f, is, e)) = absurd (fits_once source w.file w.whole f w.fits is)
    after_reading due (inr (fits, graph, drawn, inl (f, ne, cause, e))) =
        absurd (no_cause w.whole w.graph graph (alike w.whole source w.file w.graph graph w.drawn drawn) w.held f w.is_game w.made ne cause)
    after_reading due (inr (fits, graph, drawn, inr (held, is, made, of, inl (good, e, sound)))) = e
    after_reading due (inr (fits, graph, drawn, inr (held, is, made, of, inr (f, fails, e)))) =
        let same = one_game w.whole w.graph graph (alike w.whole source w.file w.graph graph w.drawn drawn) w.held held w.is_game is in
        absurd (none-some f (sym w.verdict.good ∙ ap (λ (g : Game). table_fault g table) same ∙ fails))

    after_policy : (due : Due) → AfterPolicy text w.whole due → due ≡ Told Yes yes
    after_policy due (inl (other, f, wrong, ne, e)) = absurd (no_fault w.whole valid_won text source w.file table read_won f ne (is_fault w.whole text other f wrong))
    after_policy due (inr (other, file, t, read, after)) =
        let same = one_reading w.whole valid_won text source w.file table read_won other file t read in
        after_reading due
        (subst (λ (s : List ℕ). AfterWoven s w.whole w.file table due) (sym same.0)
        (subst (λ (x : File). AfterWoven other w.whole x table due) (sym same.1) (subst (λ (u : Table). AfterWoven other w.whole file u due) (sym same.2) after)))

    pub only_checked : (due : Due) → IsCheckDue policy text due → due ≡ Told Yes yes
    only_checked due (inl (f, is, ne, e)) = absurd (ne (refused_spells_none policy w.whole f w.are.spelled is))
    only_checked due (inr (whole, spelled, after)) = after_policy due (subst (λ (p : PlainPolicy). AfterPolicy text p due) (one_policy policy whole w.whole spelled w.are.spelled) after)

  module _ (w : IsWon policy source No text) where
    abbrev strategy : Strategy
    strategy = w.verdict.strategy

    spelled_won : Spells w.whole.format text strategy
    spelled_won =
        let has = strategies_have_texts w.held strategy (game_made w.whole source w.file w.graph w.held w.drawn w.few w.is_game w.made) w.verdict.good w.verdict.ascend w.verdict.few in
        record { fits = subst (λ (p : PlainPolicy). StrategyFits p.format strategy) w.is_game.policy_is has; spelled = w.verdict.spelled }

    pub judged_won : IsRefuteDue policy source text (Told Yes yes)
    judged_won =
        inr (w.whole, w.file, w.are, inr (strategy, spelled_won, inr (w.fits, inr (w.few, w.graph, w.drawn, inr (w.held, w.is_game, w.made, w.of, inl (w.verdict.good, refl, w.verdict.wins))))))

    after_strategy : (due : Due) → AfterStrategy source w.whole w.file strategy due → due ≡ Told Yes yes
    after_strategy due (inl (f, is, e)) = absurd (fits_once source w.file w.whole f w.fits is)
    after_strategy due (inr (fits, inl (many, e))) = let few = w.few in absurd (omega (arith, many, few))
    after_strategy due (inr (fits, inr (few, graph, drawn, inl (f, ne, cause, e)))) =
        absurd (no_cause w.whole w.graph graph (alike w.whole source w.file w.graph graph w.drawn drawn) w.held f w.is_game w.made ne cause)
    after_strategy due (inr (fits, inr (few, graph, drawn, inr (held, is, made, of, inl (good, e, wins))))) = e
    after_strategy due (inr (fits, inr (few, graph, drawn, inr (held, is, made, of, inr (f, fails, e))))) =
        let same = one_game w.whole w.graph graph (alike w.whole source w.file w.graph graph w.drawn drawn) w.held held w.is_game is in
        absurd (none-some f (sym w.verdict.good ∙ ap (λ (g : Game). strategy_fault g strategy) same ∙ fails))

    after_pair : (due : Due) → AfterRefutePair source text w.whole w.file due → due ≡ Told Yes yes
    after_pair due (inl (f, wrong, e)) = let never : Ok strategy ≡ Err f = one_answer w.whole.format text (Ok strategy) (Err f) spelled_won wrong in absurd cc
    after_pair due (inr (s, spells, after)) =
        let both : Ok strategy ≡ Ok s = one_answer w.whole.format text (Ok strategy) (Ok s) spelled_won spells in
        let same : strategy ≡ s = cc in
        after_strategy due (subst (λ (u : Strategy). AfterStrategy source w.whole w.file u due) (sym same) after)

    never_unread_won : (due : Due) → IsUnread policy source due → ⊥
    never_unread_won due (inl (f, is, ne, e)) = ne (refused_spells_none policy w.whole f w.are.spelled is)
    never_unread_won due (inr (whole, spelled, inl (f, is, ne, e))) = never_both source w.file f ne w.are.reads is
    never_unread_won due (inr (whole, spelled, inr (file, reads, (f, is, e)))) =
        let policies = one_policy policy whole w.whole spelled w.are.spelled in
        let files = one_program source file w.file reads w.are.reads in
        none-some f (sym w.are.descriptors ∙ sym (ap (λ (p : PlainPolicy). descriptor_fault source w.file p) policies) ∙ sym (ap (λ (x : File). descriptor_fault source x whole) files) ∙ is)

    pub only_judged : (due : Due) → IsRefuteDue policy source text due → due ≡ Told Yes yes
    only_judged due (inl u) = absurd (never_unread_won due u)
    only_judged due (inr (whole, file, are, after)) =
        let policies = one_policy policy whole w.whole are.spelled w.are.spelled in
        let files = one_program source file w.file are.reads w.are.reads in
        after_pair due (subst (λ (x : File). AfterRefutePair source text w.whole x due) files (subst (λ (p : PlainPolicy). AfterRefutePair source text p file due) policies after))

pub woven_is_checked : WovenIsChecked
woven_is_checked policy source text short due =
    let w = won policy source Yes text due in
    (checked_won policy source text short w, only_checked policy source text short w)

pub refuted_is_judged : RefutedIsJudged
refuted_is_judged policy source text due =
    let w = won policy source No text due in
    (judged_won policy source text w, only_judged policy source text w)
