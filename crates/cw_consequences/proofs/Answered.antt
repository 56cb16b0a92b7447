-- For the files of a command one answer is due.
use Rattle.std.proofs.Common.{◌≡◌, inl, inr, ℕ, List, [], ◌∷◌, true, false, length, refl, sym, ap, ap₂, ◌∙◌, subst, arith}
use Rattle.std.proofs.lemmas.Bool.{cases_lt}
use Rattle.std.proofs.lemmas.Option.{none-some, same_Some}
use Rattle.cw_core.specs.Quantities.{limit_of}
use Rattle.cw_core.specs.declared.quantity.Quantity.TheVariants.{Points}
use Rattle.cw_rights.specs.Policies.{PlainPolicy}
use Rattle.cw_rights.specs.Valid.{IsValid}
use Rattle.cw_policy.proofs.Kept.{is_valid}
use Rattle.cw_syntax.specs.Plans.{plan_of, function_names}
use Rattle.cw_syntax.specs.Trees.{File}
use Rattle.cw_resolve.specs.Labels.{label_names}
use Rattle.cw_resolve.specs.Scenes.{names_of}
use Rattle.cw_certs.specs.declared.moves.Move.{Move}
use Rattle.cw_certs.specs.Strategies.{Strategy}
use Rattle.cw_certs.specs.Tables.{Table}
use Rattle.cw_points.specs.declared.graph.Graph.{Graph}
use Rattle.cw_points.specs.Points.{point_count}
use Rattle.cw_model.specs.Boards.{problem_of}
use Rattle.cw_emit.specs.Cut.{cut}
use Rattle.cw_game.specs.Games.{Game}
use Rattle.cw_game.specs.Conditions.{RowFault, TableFault}
use Rattle.cw_echeck.specs.Beating.{IsStartRow}
use Rattle.cw_listing.specs.Listing.{graph_text}
use Rattle.cw_play.specs.declared.end.PlayEnd.{PlayEnd}
use Rattle.cw_play.specs.Plays.{IsPlayBy}
use Rattle.cw_play.proofs.OnePlay.{one_play}
use Rattle.cw_source.proofs.OneAnswer.{never_both, one_fault, one_program}
use Rattle.cw_trace.specs.Labels.{names_of as told_names}
use Rattle.cw_trace.specs.Steps.{End, Step, run_trace}
use Rattle.cw_trace.specs.Traces.{Taken, trace}
use Rattle.cw_trace.proofs.OneRun.{one_run}
use Rattle.cw_woven.specs.declared.fault.WovenFault.{WovenFault}
use Rattle.cw_woven.specs.declared.fault.WovenFault.TheVariants as woven
use Rattle.cw_woven.specs.Reading.{the_prologue, IsFaultOver}
use Rattle.cw_woven.proofs.Apart.{no_fault, one_reading as one_woven_reading}
use Rattle.cw_woven.proofs.Cutting.{closed}
use Rattle.cw_woven.proofs.OneFault.{one_fault as one_woven_fault}
use Rattle.cw_woven.proofs.Opening.{is_fault}
use Rattle.cw_commands.specs.declared.outcome.Reply.TheVariants.{Yes, No}
use Rattle.cw_commands.specs.Outcomes.{Due, Told}
use Rattle.cw_stages.specs.Games.{WhereFits, WhereWovenFits}
use Rattle.cw_stages.specs.Refusals.{source_refusal}
use Rattle.cw_stages.specs.Strategies.{told as strategy_told}
use Rattle.cw_stages.specs.Tables.{told as table_told, woven_refusal, IsWovenRefusal, WithWoven}
use Rattle.cw_checking.specs.Checking.{AfterPolicy as AfterCheckPolicy, AfterWoven, IsChecked, IsCheckDue}
use Rattle.cw_checking.specs.Refuting.{AfterPair as AfterRefutePair, AfterStrategy as AfterRefuteStrategy, IsJudged, IsRefuteDue}
use Rattle.cw_playing.specs.Playing.{play_told, AfterPair as AfterPlayPair, AfterStrategy as AfterPlayStrategy, IsPlayDue, IsPlayTold, IsShown}
use Rattle.cw_playing.specs.Running.{run_told, AfterPolicy as AfterRunPolicy, AfterWoven as AfterRunWoven, IsRunDue, IsRunShown, IsRunTold}
use Rattle.cw_cli.specs.Listings.{call_lists, own_names, IsListed, IsListing, IsListingDue}
use Rattle.cw_lemmas.proofs.Numbers.{lt_not_le as apart}
use Rattle.cw_consequences.proofs.Singles.{IsOne, one_behind, one_reading, one_strategy, one_tape, one_where_fits, one_where_woven_fits}

-- ---- `graph`

module _ (source : List ℕ) (file : File) where
  text_same : (functions labels descriptors calls : List (List ℕ)) (g k : Graph) → g.nodes.items ≡ k.nodes.items → g.parts.items ≡ k.parts.items
      → graph_text functions labels descriptors calls g ≡ graph_text functions labels descriptors calls k
  unfolding graph_text
  text_same functions labels descriptors calls g k nodes parts = simp (nodes, parts)

  one_listing : (text other : List ℕ) → IsListing source file text → IsListing source file other → text ≡ other
  one_listing text other (g, is, a) (k, of, b) =
      a
      ∙ text_same (function_names source file) (label_names source file) [] (call_lists (plan_of (own_names source file) source file) (length file.functions)) g k
      (is.nodes ∙ sym of.nodes) (is.parts ∙ sym of.parts)
      ∙ sym b

  one_listed : IsOne (IsListed source file)
  one_listed due answer (inl (many, a)) (inl (more, b)) = a ∙ sym b
  one_listed due answer (inl (many, a)) (inr (few, text, is, b)) = absurd (apart (limit_of Points) (point_count (plan_of (own_names source file) source file)) many few)
  one_listed due answer (inr (few, text, is, a)) (inl (many, b)) = absurd (apart (limit_of Points) (point_count (plan_of (own_names source file) source file)) many few)
  one_listed due answer (inr (few, text, is, a)) (inr (less, other, of, b)) = a ∙ ap (Told Yes) (one_listing text other is of) ∙ sym b

pub one_graph : (source : List ℕ) → IsOne (IsListingDue source)
one_graph source due answer (inl (f, is, ne, a)) (inl (g, other, nor, b)) = a ∙ ap (source_refusal source) (one_fault source f g ne nor is other) ∙ sym b
one_graph source due answer (inl (f, is, ne, a)) (inr (file, reads, b)) = absurd (never_both source file f ne reads is)
one_graph source due answer (inr (file, reads, a)) (inl (f, is, ne, b)) = absurd (never_both source file f ne reads is)
one_graph source due answer (inr (file, reads, a)) (inr (other, reading, b)) =
    let files : other ≡ file = one_program source other file reading reads in
    one_listed source file due answer a (subst (λ (z : File). IsListed source z answer) files b)

-- ---- `refute` and `play`

module _ (source : List ℕ) (p : PlainPolicy) (file : File) (s : Strategy) where
  one_judged : (g : Game) → IsOne (IsJudged (problem_of p source file) g s)
  one_judged g due answer (inl (good, a, wins)) (inl (other, b, others)) = a ∙ sym b
  one_judged g due answer (inl (good, a, wins)) (inr (f, fails, b)) = absurd (none-some f (sym good ∙ fails))
  one_judged g due answer (inr (f, fails, a)) (inl (good, b, wins)) = absurd (none-some f (sym good ∙ fails))
  one_judged g due answer (inr (f, fails, a)) (inr (k, other, b)) = a ∙ ap (λ (z : RowFault). Told No (strategy_told z)) (same_Some f k (sym fails ∙ other)) ∙ sym b

  one_row : (g : Game) (i j : ℕ) → IsStartRow g s i → IsStartRow g s j → i ≡ j
  one_row g i j a b = elim (cases_lt i j) [
    | inl lt ↦ absurd (b.first i lt a.stands)
    | inr le ↦ elim (cases_lt j i) [
      | inl lt ↦ absurd (a.first j lt b.stands)
      | inr ge ↦ omega (arith, le, ge)
    ]
  ]

  one_told : (g : Game) (tape : List Move) → IsOne (IsPlayTold source p file g s tape)
  one_told g tape due answer a b =
      let rows : b.row ≡ a.row = one_row g b.row a.row b.start a.start in
      let other : IsPlayBy (problem_of p source file) s a.row tape b.end b.steps = subst (λ n. IsPlayBy (problem_of p source file) s n tape b.end b.steps) rows b.play in
      let same = one_play (problem_of p source file) s a.row tape a.end b.end a.steps b.steps a.play other in
      a.due_is
      ∙ ap₂ (λ (e : PlayEnd) (steps : List Taken). play_told p e (trace (told_names source file (plan_of (names_of p) source file)) (problem_of p source file) steps)) same.0 same.1
      ∙ sym b.due_is

  one_shown : (tape : List Move) (g : Game) → IsOne (IsShown source p file s tape g)
  one_shown tape g due answer (inl (good, a)) (inl (other, b)) = one_told g tape due answer a b
  one_shown tape g due answer (inl (good, a)) (inr (f, fails, b)) = absurd (none-some f (sym good ∙ fails))
  one_shown tape g due answer (inr (f, fails, a)) (inl (good, b)) = absurd (none-some f (sym good ∙ fails))
  one_shown tape g due answer (inr (f, fails, a)) (inr (k, other, b)) = a ∙ ap (λ (z : RowFault). Told No (strategy_told z)) (same_Some f k (sym fails ∙ other)) ∙ sym b

pub one_refute : (policy source text : List ℕ) → IsOne (IsRefuteDue policy source text)
one_refute policy source text =
    one_reading policy source (AfterRefutePair source text)
    (λ p file. one_strategy (AfterRefuteStrategy source p file)
    (λ s. one_where_fits source p file (λ g due. IsJudged (problem_of p source file) g s due) (λ g of. one_judged source p file s g)) p.format text)

pub one_played : (policy source text tape : List ℕ) → IsOne (IsPlayDue policy source text tape)
one_played policy source text tape =
    one_reading policy source (AfterPlayPair source text tape)
    (λ p file. one_strategy (AfterPlayStrategy source tape p file)
    (λ s. one_tape (λ moves. WhereFits (IsShown source p file s moves) source p file)
    (λ moves. one_where_fits source p file (IsShown source p file s moves) (λ g of. one_shown source p file s moves g)) true tape)
    p.format text)

-- ---- `check` and `run`

module _ (p : PlainPolicy) (valid : IsValid p) (text : List ℕ) where
  -- a fault of the source of a woven text is one of what `cut` leaves
  cut_is : (source : List ℕ) (f : WovenFault) → IsFaultOver p text source f → woven_refusal p source f ≡ woven_refusal p (cut text) f
  cut_is source (woven.Mark at) h = refl
  cut_is source (woven.Table why) h = refl
  cut_is source (woven.Misplaced n) h = refl
  cut_is source woven.NoMemory h = refl
  cut_is source (woven.Source why) (marks, left, table, has, e, r) =
      let same : cut text ≡ source = closed text (the_prologue has.lines ∷ marks) left has.parted.begins.parts has.parted.whole ∙ sym e in
      ap (λ (z : List ℕ). woven_refusal p z (woven.Source why)) (sym same)

  one_woven_refusal : IsOne (IsWovenRefusal p text)
  one_woven_refusal due answer (s, f, is, ne, a) (t, g, other, nor, b) =
      let same : f ≡ g = one_woven_fault p valid text f g ne nor (is_fault p text s f is) (is_fault p text t g other) in
      a ∙ cut_is s f is ∙ ap (woven_refusal p (cut text)) same ∙ sym (cut_is t g other) ∙ sym b

  module _ (Next : List ℕ → File → Table → Due → Type 0) (one : (source : List ℕ) (file : File) (t : Table) → IsOne (Next source file t)) where
    pub one_with_woven : IsOne (WithWoven Next text p)
    one_with_woven due answer (inl a) (inl b) = one_woven_refusal due answer a b
    one_with_woven due answer (inl (other, f, wrong, ne, a)) (inr (source, file, t, read, after)) =
        absurd (no_fault p valid text source file t read f ne (is_fault p text other f wrong))
    one_with_woven due answer (inr (source, file, t, read, after)) (inl (other, f, wrong, ne, b)) =
        absurd (no_fault p valid text source file t read f ne (is_fault p text other f wrong))
    one_with_woven due answer (inr (source, file, t, read, after)) (inr (source2, file2, u, reads, behind)) =
        let same = one_woven_reading p valid text source file t read source2 file2 u reads in
        one source file t due answer after
        (subst (λ (z : List ℕ). Next z file t answer) (sym same.0)
        (subst (λ (z : File). Next source2 z t answer) (sym same.1) (subst (λ (z : Table). Next source2 file2 z answer) (sym same.2) behind)))

module _ (source : List ℕ) (p : PlainPolicy) (file : File) (t : Table) where
  one_checked : (g : Game) → IsOne (IsChecked (problem_of p source file) g t)
  one_checked g due answer (inl (good, a, sound)) (inl (other, b, sounds)) = a ∙ sym b
  one_checked g due answer (inl (good, a, sound)) (inr (f, fails, b)) = absurd (none-some f (sym good ∙ fails))
  one_checked g due answer (inr (f, fails, a)) (inl (good, b, sound)) = absurd (none-some f (sym good ∙ fails))
  one_checked g due answer (inr (f, fails, a)) (inr (k, other, b)) = a ∙ ap (λ (z : TableFault). Told No (table_told z)) (same_Some f k (sym fails ∙ other)) ∙ sym b

  one_ran : (tape : List Move) → IsOne (IsRunTold source p file t tape)
  one_ran tape due answer a b =
      let same = one_run (problem_of p source file) t tape a.end b.end a.steps b.steps a.run b.run in
      a.due_is ∙ ap₂ (λ (e : End) (steps : List Step). run_told e (run_trace (told_names source file (plan_of (names_of p) source file)) (problem_of p source file) steps)) same.0 same.1 ∙ sym b.due_is

  one_run_shown : (tape : List Move) (g : Game) → IsOne (IsRunShown source p file t tape g)
  one_run_shown tape g due answer (inl (good, a)) (inl (other, b)) = one_ran tape due answer a b
  one_run_shown tape g due answer (inl (good, a)) (inr (f, fails, b)) = absurd (none-some f (sym good ∙ fails))
  one_run_shown tape g due answer (inr (f, fails, a)) (inl (good, b)) = absurd (none-some f (sym good ∙ fails))
  one_run_shown tape g due answer (inr (f, fails, a)) (inr (k, other, b)) = a ∙ ap (λ (z : TableFault). Told No (table_told z)) (same_Some f k (sym fails ∙ other)) ∙ sym b

pub one_check : (policy text : List ℕ) → IsOne (IsCheckDue policy text)
one_check policy text =
    one_behind policy (AfterCheckPolicy text)
    (λ p spells. one_with_woven p (is_valid policy p spells) text (λ source file t due. AfterWoven source p file t due)
    (λ source file t. one_where_woven_fits source p file (λ g due. IsChecked (problem_of p source file) g t due) (λ g of. one_checked source p file t g)))

pub one_run_due : (policy text tape : List ℕ) → IsOne (IsRunDue policy text tape)
one_run_due policy text tape =
    one_behind policy (AfterRunPolicy text tape)
    (λ p spells. one_with_woven p (is_valid policy p spells) text (λ source file t. AfterRunWoven tape source p file t)
    (λ source file t. one_tape (λ moves. WhereWovenFits (IsRunShown source p file t moves) source p file)
    (λ moves. one_where_woven_fits source p file (IsRunShown source p file t moves) (λ g of. one_run_shown source p file t moves g)) false tape))
