-- Stages of which one answer is due, where one is behind them.
use Rattle.std.proofs.Common.{◌≡◌, inl, inr, ◌⊎◌, ℕ, ◌<◌, List, Ok, Err, sym, ap, ◌∙◌, subst, le_refl, lt_irrefl}
use Rattle.std.specs.Prelude.{Bool}
use Rattle.std.proofs.lemmas.Option.{same_Some}
use Rattle.cw_core.specs.Quantities.{limit_in, limit_of}
use Rattle.cw_core.specs.declared.quantity.Quantity.TheVariants.{Points, ProductStates}
use Rattle.cw_rights.specs.Policies.{PlainPolicy}
use Rattle.cw_syntax.specs.Plans.{plan_of}
use Rattle.cw_syntax.specs.Trees.{File}
use Rattle.cw_resolve.specs.Scenes.{names_of}
use Rattle.cw_callgraph.specs.declared.fit.FitFault.{FitFault}
use Rattle.cw_certs.specs.declared.moves.Move.{Move}
use Rattle.cw_certs.specs.Strategies.{Strategy}
use Rattle.cw_points.specs.declared.graph.Graph.{Graph}
use Rattle.cw_points.specs.Graphs.{IsGraph}
use Rattle.cw_points.specs.Points.{point_count}
use Rattle.cw_model.specs.Boards.{problem_of}
use Rattle.cw_game.specs.Games.{Game}
use Rattle.cw_game.specs.Standing.{IsGameOf}
use Rattle.cw_product.specs.declared.fault.GameFault.TheVariants.{TooManyStates}
use Rattle.cw_product.specs.Product.{game_of}
use Rattle.cw_policy.specs.Answer.{Spells}
use Rattle.cw_policy.proofs.Same.{one_fault as one_policy_fault, one_policy}
use Rattle.cw_scope.specs.declared.descriptors.DescriptorFault.{DescriptorFault}
use Rattle.cw_scope.specs.Descriptors.{descriptor_fault}
use Rattle.cw_source.proofs.OneAnswer.{never_both, one_fault, one_program}
use Rattle.cw_text.specs.declared.fault.TextFault.TheVariants as fault
use Rattle.cw_text.proofs.OneAnswer.{one_answer as one_tape_answer}
use Rattle.cw_strategy_text.proofs.OneAnswer.{one_answer as one_strategy_answer}
use Rattle.cw_commands.specs.declared.outcome.Cause.TheVariants.{Policy, Source}
use Rattle.cw_commands.specs.Outcomes.{Due, Refused}
use Rattle.cw_stages.specs.Fitting.{fit_line, IsFitRefusal}
use Rattle.cw_stages.specs.Games.{game_refusal, WhereFits, WhereWovenFits, WithGame, WithGraph}
use Rattle.cw_stages.specs.Reading.{AfterReading, IsSourceUnread, WithSource, BehindPolicy}
use Rattle.cw_stages.specs.Refusals.{descriptor_line, policy_refusal, source_refusal, IsPolicyRefusal}
use Rattle.cw_stages.specs.Strategies.{strategy_refusal, WithStrategy}
use Rattle.cw_stages.specs.Tapes.{tape_refusal, WithTape}
use Rattle.cw_stages.proofs.OneGame.{no_cause, one_game}
use Rattle.cw_stages.proofs.Unread.{never_spelled, never_unread}
use Rattle.cw_cli.proofs.Agreeing.{alike, fits_once}
use Rattle.cw_lemmas.proofs.Numbers.{lt_not_le as apart}
use Rattle.cw_consequences.proofs.Causes.{both_refused}
use Rattle.cw_consequences.proofs.Fits.{one_fit}

-- two answers of which this holds are one
abbrev pub IsOne : (Due → Type 0) → Type 0
IsOne Is = (due answer : Due) → Is due → Is answer → due ≡ answer

-- ---- reading

module _ (source : List ℕ) (p : PlainPolicy) where
  one_unread : IsOne (IsSourceUnread source p)
  one_unread due answer (inl (f, is, ne, a)) (inl (g, other, nor, b)) = a ∙ ap (source_refusal source) (one_fault source f g ne nor is other) ∙ sym b
  one_unread due answer (inl (f, is, ne, a)) (inr (file, reads, (g, some, b))) = absurd (never_both source file f ne reads is)
  one_unread due answer (inr (file, reads, (f, some, a))) (inl (g, is, ne, b)) = absurd (never_both source file g ne reads is)
  one_unread due answer (inr (file, reads, (f, some, a))) (inr (other, reading, (g, any, b))) =
      let files : other ≡ file = one_program source other file reading reads in
      let faults : f ≡ g = same_Some f g (sym some ∙ sym (ap (λ (z : File). descriptor_fault source z p) files) ∙ any) in
      a ∙ ap (λ (z : DescriptorFault). Refused Source (descriptor_line source p z)) faults ∙ sym b

  module _ (Next : File → Due → Type 0) (one : (file : File) → IsOne (Next file)) where
    pub one_source : IsOne (WithSource Next source p)
    one_source due answer (inl u) (inl w) = one_unread due answer u w
    one_source due answer (inl u) (inr (file, reads, none, after)) = absurd (never_unread source p file due reads none u)
    one_source due answer (inr (file, reads, none, after)) (inl w) = absurd (never_unread source p file answer reads none w)
    one_source due answer (inr (file, reads, none, after)) (inr (other, reading, nor, behind)) =
        let files : other ≡ file = one_program source other file reading reads in
        one file due answer after (subst (λ (z : File). Next z answer) files behind)

one_refusal : (policy : List ℕ) → IsOne (IsPolicyRefusal policy)
one_refusal policy due answer (f, is, ne, a) (g, other, nor, b) = a ∙ ap policy_refusal (one_policy_fault policy f g ne nor is other) ∙ sym b

-- the policy is read first
module _ (policy : List ℕ) (Next : PlainPolicy → Due → Type 0) (one : (p : PlainPolicy) → Spells policy p → IsOne (Next p)) where
  pub one_behind : IsOne (BehindPolicy Next policy)
  one_behind due answer (inl a) (inl b) = one_refusal policy due answer a b
  one_behind due answer (inl a) (inr (p, spells, after)) = absurd (never_spelled policy p due a spells)
  one_behind due answer (inr (p, spells, after)) (inl b) = absurd (never_spelled policy p answer b spells)
  one_behind due answer (inr (p, spells, after)) (inr (q, other, behind)) =
      one p spells due answer after (subst (λ (z : PlainPolicy). Next z answer) (one_policy policy q p other spells) behind)

module _ (policy source : List ℕ) (Next : PlainPolicy → File → Due → Type 0) (one : (p : PlainPolicy) (file : File) → IsOne (Next p file)) where
  split : (due : Due) → AfterReading Next policy source due → BehindPolicy (λ p. WithSource (Next p) source p) policy due
  split due (inl (inl refusal)) = inl refusal
  split due (inl (inr (p, spells, unread))) = inr (p, spells, inl unread)
  split due (inr (p, file, are, after)) = inr (p, are.spelled, inr (file, are.reads, are.descriptors, after))

  pub one_reading : IsOne (AfterReading Next policy source)
  one_reading due answer a b =
      one_behind policy (λ p. WithSource (Next p) source p) (λ p spells. one_source source p (Next p) (one p)) due answer (split due a) (split answer b)

-- ---- a strategy and a tape

module _ (Next : Strategy → Due → Type 0) (one : (s : Strategy) → IsOne (Next s)) (format : ℕ) (text : List ℕ) where
  pub one_strategy : IsOne (WithStrategy Next format text)
  one_strategy due answer (inl (f, is, a)) (inl (g, other, b)) =
      let same : Err f ≡ Err g = one_strategy_answer format text (Err f) (Err g) is other in
      let faults : f ≡ g = cc in
      a ∙ ap strategy_refusal faults ∙ sym b
  one_strategy due answer (inl (f, is, a)) (inr (s, spells, after)) = let never : Err f ≡ Ok s = one_strategy_answer format text (Err f) (Ok s) is spells in absurd cc
  one_strategy due answer (inr (s, spells, after)) (inl (f, is, b)) = let never : Ok s ≡ Err f = one_strategy_answer format text (Ok s) (Err f) spells is in absurd cc
  one_strategy due answer (inr (s, spells, after)) (inr (t, other, behind)) =
      let same : Ok t ≡ Ok s = one_strategy_answer format text (Ok t) (Ok s) other spells in
      let strategies : t ≡ s = cc in
      one s due answer after (subst (λ (z : Strategy). Next z answer) strategies behind)

module _ (Next : List Move → Due → Type 0) (one : (moves : List Move) → IsOne (Next moves)) (play : Bool) (text : List ℕ) where
  pub one_tape : IsOne (WithTape Next play text)
  one_tape due answer (inl (m, is, a)) (inl (n, other, b)) =
      let same : Err (fault.Line m) ≡ Err (fault.Line n) = one_tape_answer play text (Err (fault.Line m)) (Err (fault.Line n)) is other in
      let lines : m ≡ n = cc in
      a ∙ ap tape_refusal lines ∙ sym b
  one_tape due answer (inl (m, is, a)) (inr (moves, tape, after)) =
      let never : Err (fault.Line m) ≡ Ok moves = one_tape_answer play text (Err (fault.Line m)) (Ok moves) is tape in absurd cc
  one_tape due answer (inr (moves, tape, after)) (inl (m, is, b)) =
      let never : Ok moves ≡ Err (fault.Line m) = one_tape_answer play text (Ok moves) (Err (fault.Line m)) tape is in absurd cc
  one_tape due answer (inr (moves, tape, after)) (inr (others, other, behind)) =
      let same : Ok others ≡ Ok moves = one_tape_answer play text (Ok others) (Ok moves) other tape in
      let lists : others ≡ moves = cc in
      one moves due answer after (subst (λ (z : List Move). Next z answer) lists behind)

-- ---- a game

module _ (source : List ℕ) (p : PlainPolicy) (file : File) where
  pub one_fit_refusal : IsOne (IsFitRefusal source file p)
  one_fit_refusal due answer (f, is, a) (g, other, b) = a ∙ ap (λ (z : FitFault). Refused Policy (fit_line source p z)) (one_fit source file p f g is other) ∙ sym b

module _ (source : List ℕ) (p : PlainPolicy) (file : File) (Next : Game → Due → Type 0) (one : (g : Game) → IsGameOf (problem_of p source file) g → IsOne (Next g)) where
  one_with_game : (g k : Graph) (due answer : Due) → IsGraph (names_of p) source file g → IsGraph (names_of p) source file k
      → WithGame Next source p file g due → WithGame Next source p file k answer → due ≡ answer
  one_with_game g k due answer drawn draws (inl (f, ne, cause, a)) (inl (e, nor, because, b)) =
      by (both_refused p p.refuse_limit p.refuse_enter p.refuse_split p.stop p.format g k (alike p source file g k drawn draws) (le_refl (limit_in p.format ProductStates)) f e ne nor cause because)
    where
      by : ((f ≡ TooManyStates) × (limit_in p.format ProductStates < limit_in p.format ProductStates)) ⊎ (f ≡ e) → due ≡ answer
      by (inl (same, lt)) = absurd (lt_irrefl (limit_in p.format ProductStates) lt)
      by (inr same) = a ∙ ap game_refusal same ∙ sym b
  one_with_game g k due answer drawn draws (inl (f, ne, cause, a)) (inr (l, is, made, of, behind)) =
      absurd (no_cause p k g (alike p source file k g draws drawn) l f is made ne cause)
  one_with_game g k due answer drawn draws (inr (h, is, made, of, after)) (inl (e, nor, because, b)) =
      absurd (no_cause p g k (alike p source file g k drawn draws) h e is made nor because)
  one_with_game g k due answer drawn draws (inr (h, is, made, of, after)) (inr (l, other, makes, ofs, behind)) =
      let same : game_of h ≡ game_of l = one_game p g k (alike p source file g k drawn draws) h l is other in
      one (game_of l) ofs due answer (subst (λ (x : Game). Next x due) same after) behind

  pub one_with_graph : IsOne (WithGraph Next source p file)
  one_with_graph due answer (inl (many, a)) (inl (more, b)) = a ∙ sym b
  one_with_graph due answer (inl (many, a)) (inr (few, k, draws, behind)) = absurd (apart (limit_of Points) (point_count (plan_of (names_of p) source file)) many few)
  one_with_graph due answer (inr (few, g, drawn, after)) (inl (many, b)) = absurd (apart (limit_of Points) (point_count (plan_of (names_of p) source file)) many few)
  one_with_graph due answer (inr (few, g, drawn, after)) (inr (less, k, draws, behind)) = one_with_game g k due answer drawn draws after behind

  pub one_where_fits : IsOne (WhereFits Next source p file)
  one_where_fits due answer (inl a) (inl b) = one_fit_refusal source p file due answer a b
  one_where_fits due answer (inl (f, is, a)) (inr (fits, behind)) = absurd (fits_once source file p f fits is)
  one_where_fits due answer (inr (fits, after)) (inl (f, is, b)) = absurd (fits_once source file p f fits is)
  one_where_fits due answer (inr (fits, after)) (inr (fit, behind)) = one_with_graph due answer after behind

  pub one_where_woven_fits : IsOne (WhereWovenFits Next source p file)
  one_where_woven_fits due answer (inl a) (inl b) = one_fit_refusal source p file due answer a b
  one_where_woven_fits due answer (inl (f, is, a)) (inr (fits, k, draws, behind)) = absurd (fits_once source file p f fits is)
  one_where_woven_fits due answer (inr (fits, g, drawn, after)) (inl (f, is, b)) = absurd (fits_once source file p f fits is)
  one_where_woven_fits due answer (inr (fits, g, drawn, after)) (inr (fit, k, draws, behind)) = one_with_game g k due answer drawn draws after behind
