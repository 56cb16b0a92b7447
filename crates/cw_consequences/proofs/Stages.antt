-- What is due behind the reading for a policy and for the policy varied says the same, stage by stage.
use Rattle.std.proofs.Common.{◌≡◌, ◌⊎◌, inl, inr, ⊎_elim, ℕ, ◌<◌, ◌≤◌, List, Bool, length, sym, ap, ◌∙◌, subst}
use Rattle.cw_core.specs.Quantities.{limit_in, limit_of}
use Rattle.cw_core.specs.declared.quantity.Quantity.TheVariants.{Points, ProductStates}
use Rattle.cw_rights.specs.Policies.{PlainPolicy, policy_of}
use Rattle.cw_syntax.specs.Plans.{plan_of}
use Rattle.cw_syntax.specs.Trees.{File}
use Rattle.cw_resolve.specs.Scenes.{names_of}
use Rattle.cw_callgraph.specs.declared.fit.FitFault.{FitFault}
use Rattle.cw_points.specs.declared.graph.Graph.{Graph}
use Rattle.cw_points.specs.Graphs.{IsGraph}
use Rattle.cw_points.specs.Points.{point_count}
use Rattle.cw_model.specs.Boards.{problem_of}
use Rattle.cw_game.specs.Games.{Game}
use Rattle.cw_game.specs.Standing.{IsGameOf}
use Rattle.cw_product.specs.declared.fault.GameFault.{GameFault}
use Rattle.cw_product.specs.declared.fault.GameFault.TheVariants.{TooManyCaps, TooManyWords, TooManyStates, TooManyPositions, NoMemory}
use Rattle.cw_product.specs.Product.{Held, game_of}
use Rattle.cw_product.specs.Made.{IsMade}
use Rattle.cw_source.specs.Read.{ReadsAs}
use Rattle.cw_lazy_table.proofs.Made.{can_begin}
use Rattle.cw_audit_laws.specs.Refusing.{ruled_by}
use Rattle.cw_consequences.specs.Unrefused.{varied}
use Rattle.cw_consequences.proofs.Listed.{game_varied}
use Rattle.cw_commands.specs.declared.outcome.Cause.{Cause}
use Rattle.cw_commands.specs.declared.outcome.Cause.TheVariants.{Policy}
use Rattle.cw_commands.specs.declared.outcome.Reply.TheVariants.{Yes, No}
use Rattle.cw_commands.specs.Outcomes.{Due, Told, Refused}
use Rattle.cw_stages.specs.Fitting.{fit_line}
use Rattle.cw_stages.specs.Refusals.{over}
use Rattle.cw_stages.specs.Games.{game_refusal, IsGame, WithGame, WithGraph}
use Rattle.cw_stages.specs.Verdicts.{AfterGame, IsVerdict}
use Rattle.cw_cli.specs.Weaving.{AfterFit, AfterPair}
use Rattle.cw_cli.proofs.Agreeing.{alike, fits_once}
use Rattle.cw_consequences.specs.Alike.{AreAlike, refused, refuted, woven}
use Rattle.cw_consequences.proofs.Causes.{both_refused, first_refused, second_refused}
use Rattle.cw_consequences.proofs.Fits.{fit_same, line_same, one_fit}
use Rattle.cw_consequences.proofs.Outcomes.{Outcome, ManyCells, ManyRows, Woven, Refuted, Ends, Says, IsLike, ends, moved, one_outcome}
use Rattle.cw_lemmas.proofs.Numbers.{lt_not_le as apart}

module _ (source : List ℕ) (x y : PlainPolicy) where
  -- the same refusal
  pub refused_alike : (cause : Cause) (line : List ℕ) (due answer : Due) → due ≡ Refused cause line → answer ≡ Refused cause line → AreAlike source x y due answer
  refused_alike cause line due answer a b =
      subst (λ (d : Due). AreAlike source x y d answer) (sym a) (subst (λ (d : Due). AreAlike source x y (Refused cause line) d) (sym b) (refused cause line))

  fault_alike : (f : GameFault) (due answer : Due) → due ≡ game_refusal f → answer ≡ game_refusal f → AreAlike source x y due answer
  fault_alike TooManyCaps due answer a b = refused_alike _ _ due answer a b
  fault_alike TooManyWords due answer a b = refused_alike _ _ due answer a b
  fault_alike TooManyStates due answer a b = refused_alike _ _ due answer a b
  fault_alike TooManyPositions due answer a b = refused_alike _ _ due answer a b
  fault_alike NoMemory due answer a b = refused_alike _ _ due answer a b

  -- what is told of one outcome
  says_alike : (file : File) (o : Outcome) (due answer : Due) → ReadsAs source file → Says source file x o due → Says source file y o answer → AreAlike source x y due answer
  says_alike file ManyCells due answer reads a b = refused_alike _ _ due answer a b
  says_alike file ManyRows due answer reads a b = refused_alike _ _ due answer a b
  says_alike file (Woven t) due answer reads (text, a, stands) (other, b, stood) =
      subst (λ (d : Due). AreAlike source x y d answer) (sym a) (subst (λ (d : Due). AreAlike source x y (Told Yes text) d) (sym b) (woven file t text other reads stands stood))
  says_alike file (Refuted s) due answer reads (text, a, spelled) (other, b, spells) =
      subst (λ (d : Due). AreAlike source x y d answer) (sym a) (subst (λ (d : Due). AreAlike source x y (Told No text) d) (sym b) (refuted s text other spelled spells))

module _ (source : List ℕ) (file : File) (reads : ReadsAs source file) (p : PlainPolicy) (limit enter split stop : Bool) (format : ℕ)
    (like : (g : Game) → g.policy ≡ p → IsLike g (varied p limit enter split stop format))
    (wide : limit_in p.format ProductStates ≤ limit_in format ProductStates) where
  abbrev y : PlainPolicy
  y = varied p limit enter split stop format

  -- that they say the same, or the policy has too many product states where more are allowed under the policy varied
  abbrev Agree : Due → Due → Type 0
  Agree due answer = ((due ≡ over ProductStates) × (limit_in p.format ProductStates < limit_in format ProductStates)) ⊎ AreAlike source p y due answer

  by_states : (f : GameFault) (due answer : Due) → due ≡ game_refusal f → (f ≡ TooManyStates) × (limit_in p.format ProductStates < limit_in format ProductStates) → Agree due answer
  by_states f due answer a (e, lt) = inl (a ∙ ap game_refusal e, lt)

  after_games : (g k : Graph) (h l : Held) (due answer : Due) → IsGraph (names_of p) source file g → IsGraph (names_of p) source file k
      → IsGame p g h → IsMade h → IsGameOf (problem_of p source file) (game_of h) → AfterGame (IsVerdict p source file) (game_of h) due
      → IsGame y k l → IsMade l → IsGameOf (problem_of y source file) (game_of l) → AfterGame (IsVerdict y source file) (game_of l) answer
      → AreAlike source p y due answer
  after_games g k h l due answer drawn draws is made of after other makes ofs behind =
      let like_graphs = alike p source file g k drawn draws in
      let own = policy_of h.states.policy in
      let policies : policy_of l.states.policy ≡ varied own limit enter split stop format =
      other.policy_is ∙ sym (ap (λ (q : PlainPolicy). varied q limit enter split stop format) is.policy_is) in
      let nodes : l.graph.nodes.items ≡ h.graph.nodes.items =
      ap (λ (m : Graph). m.nodes.items) other.graph_is ∙ sym like_graphs.nodes ∙ sym (ap (λ (m : Graph). m.nodes.items) is.graph_is) in
      let parts : l.graph.parts.items ≡ h.graph.parts.items =
      ap (λ (m : Graph). m.parts.items) other.graph_is ∙ sym like_graphs.parts ∙ sym (ap (λ (m : Graph). m.parts.items) is.graph_is) in
      let main : l.graph.main ≡ h.graph.main =
      ap (λ (m : Graph). m.main) other.graph_is ∙ sym like_graphs.main ∙ sym (ap (λ (m : Graph). m.main) is.graph_is) in
      let games : game_of l ≡ ruled_by (game_of h) (varied p limit enter split stop format) =
      game_varied h l limit enter split stop format made.lists makes.lists nodes parts main policies
      ∙ ap (λ (q : PlainPolicy). ruled_by (game_of h) (varied q limit enter split stop format)) is.policy_is in
      let first = ends source file p (game_of h) due of after in
      let second = ends source file y (game_of l) answer ofs behind in
      let here : Ends (ruled_by (game_of h) y) first.0 = moved (game_of h) y (like (game_of h) is.policy_is) (length h.graph.parts.items) (λ holds. can_begin h made holds) first.0 first.1 in
      let there : Ends (ruled_by (game_of h) y) second.0 = subst (λ (m : Game). Ends m second.0) games second.1 in
      let same : first.0 ≡ second.0 = one_outcome (ruled_by (game_of h) y) first.0 second.0 here there in
      says_alike source p y file second.0 due answer reads (subst (λ (o : Outcome). Says source file p o due) same first.2) second.2

  after_graphs : (g k : Graph) (due answer : Due) → IsGraph (names_of p) source file g → IsGraph (names_of p) source file k
      → WithGame (AfterGame (IsVerdict p source file)) source p file g due → WithGame (AfterGame (IsVerdict y source file)) source y file k answer → Agree due answer
  after_graphs g k due answer drawn draws (inl (f, ne, cause, a)) (inl (e, other, because, b)) =
      ⊎_elim (by_states f due answer a) (λ same. inr (fault_alike source p y e due answer (a ∙ ap game_refusal same) b))
      (both_refused p limit enter split stop format g k (alike p source file g k drawn draws) wide f e ne other cause because)
  after_graphs g k due answer drawn draws (inl (f, ne, cause, a)) (inr (l, is, made, of, after)) =
      by_states f due answer a (first_refused p limit enter split stop format g k (alike p source file g k drawn draws) wide f l ne cause is made)
  after_graphs g k due answer drawn draws (inr (h, is, made, of, after)) (inl (e, ne, because, b)) =
      absurd (second_refused p limit enter split stop format g k (alike p source file g k drawn draws) wide e h ne is made because)
  after_graphs g k due answer drawn draws (inr (h, is, made, of, after)) (inr (l, other, makes, ofs, behind)) =
      inr (after_games g k h l due answer drawn draws is made of after other makes ofs behind)

  after_fitting : (due answer : Due) → WithGraph (AfterGame (IsVerdict p source file)) source p file due → WithGraph (AfterGame (IsVerdict y source file)) source y file answer → Agree due answer
  after_fitting due answer (inl (many, a)) (inl (more, b)) = inr (refused_alike source p y _ _ due answer a b)
  after_fitting due answer (inl (many, a)) (inr (few, k, draws, behind)) = absurd (apart (limit_of Points) (point_count (plan_of (names_of p) source file)) many few)
  after_fitting due answer (inr (few, g, drawn, after)) (inl (many, b)) = absurd (apart (limit_of Points) (point_count (plan_of (names_of p) source file)) many few)
  after_fitting due answer (inr (few, g, drawn, after)) (inr (less, k, draws, behind)) = after_graphs g k due answer drawn draws after behind

  after_fit : (due answer : Due) → AfterFit (IsVerdict p source file) source p file due → AfterFit (IsVerdict y source file) source y file answer → Agree due answer
  after_fit due answer (inl (some, a)) (inl (more, b)) = inr (refused_alike source p y _ _ due answer a b)
  after_fit due answer (inl (some, a)) (inr (none, behind)) = absurd (some none)
  after_fit due answer (inr (none, after)) (inl (some, b)) = absurd (some none)
  after_fit due answer (inr (none, after)) (inr (no_more, behind)) = after_fitting due answer after behind

  pub after_pair : (due answer : Due) → AfterPair (IsVerdict p source file) source p file due
      → AfterPair (IsVerdict (varied p limit enter split stop format) source file) source (varied p limit enter split stop format) file answer
      → ((due ≡ over ProductStates) × (limit_in p.format ProductStates < limit_in format ProductStates))
      ⊎ AreAlike source p (varied p limit enter split stop format) due answer
  after_pair due answer (inl (f, fault, a)) (inl (e, other, b)) =
      let same : f ≡ e = one_fit source file p f e fault (fit_same source file p limit enter split stop format e other) in
      inr
      (refused_alike source p y _ _ due answer (a ∙ ap (λ (z : FitFault). Refused Policy (fit_line source p z)) same)
      (b ∙ ap (λ (l : List ℕ). Refused Policy l) (line_same source file p limit enter split stop format e)))
  after_pair due answer (inl (f, fault, a)) (inr (fits, behind)) = absurd (fits_once source file p f fits fault)
  after_pair due answer (inr (fits, after)) (inl (e, other, b)) = absurd (fits_once source file p e fits (fit_same source file p limit enter split stop format e other))
  after_pair due answer (inr (fits, after)) (inr (fit, behind)) = after_fit due answer after behind
