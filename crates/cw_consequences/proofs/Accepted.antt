-- For what is accepted a text is due, and so the status is that of one.
use Rattle.std.proofs.Common.{◌≡◌, ◌⊎◌, inl, inr, ℕ, zero, suc, ◌<◌, ◌≤◌, List, [], ◌∷◌, Some, length, refl, sym, ap, ◌∙◌, subst, arith}
use Rattle.std.specs.Prelude.{slice_get, IsSomeAnd}
use Rattle.std.proofs.lemmas.Option.{same_Some, slice_get_within}
use Rattle.cw_core.specs.Quantities.{limit_in, limit_of}
use Rattle.cw_core.specs.declared.quantity.Quantity.{Quantity}
use Rattle.cw_core.specs.declared.quantity.Quantity.TheVariants.{Points, PolicyBytes, SourceBytes}
use Rattle.cw_io.specs.Files.{FilesByName}
use Rattle.cw_rights.specs.Policies.{PlainPolicy}
use Rattle.cw_syntax.specs.Plans.{plan_of}
use Rattle.cw_syntax.specs.Trees.{File}
use Rattle.cw_resolve.specs.Scenes.{names_of}
use Rattle.cw_points.specs.Points.{point_count}
use Rattle.cw_game.specs.Games.{Game}
use Rattle.cw_product.specs.Product.{game_of}
use Rattle.cw_policy.proofs.Same.{one_policy}
use Rattle.cw_source.proofs.OneAnswer.{never_both, one_program}
use Rattle.cw_commands.specs.declared.command.Command.TheVariants.{Graph, Weave}
use Rattle.cw_commands.specs.declared.outcome.Reply.{Reply}
use Rattle.cw_commands.specs.declared.outcome.Reply.TheVariants.{Yes, No}
use Rattle.cw_commands.specs.Commands.{quantities_of}
use Rattle.cw_commands.specs.Endings.{status_of}
use Rattle.cw_commands.specs.Files.{HaveBytes, IsOver, first as front}
use Rattle.cw_commands.specs.Outcomes.{Due, Told, Refused, reply_status}
use Rattle.cw_commands.specs.Statuses.{IsText, Accepts, OneIsLonger}
use Rattle.cw_commands.proofs.Statuses.{ends_well, told}
use Rattle.cw_stages.specs.Games.{WithGraph}
use Rattle.cw_stages.specs.Reading.{IsSourceUnread}
use Rattle.cw_stages.specs.Verdicts.{AfterGame, IsVerdict}
use Rattle.cw_stages.proofs.OneGame.{no_cause, one_game}
use Rattle.cw_stages.proofs.Unread.{never_spelled, never_unread}
use Rattle.cw_cli.specs.Due.{IsDue}
use Rattle.cw_cli.specs.Listings.{own_names, IsListed, IsListingDue}
use Rattle.cw_cli.specs.Weaving.{AfterPair, IsWeaveDue}
use Rattle.cw_cli.proofs.Agreeing.{alike, fits_once}
use Rattle.cw_consequences.specs.Accepting.{AreAccepted, IsAccepted, WeaveEndsWell, GraphEndsWell}
use Rattle.cw_consequences.proofs.Outcomes.{cells_clash}
use Rattle.cw_lemmas.proofs.Numbers.{lt_not_le as apart}

-- ---- `weave`

module _ (policy source : List ℕ) (a : AreAccepted policy source) where
  game_text : (due : Due) → AfterGame (IsVerdict a.whole source a.file) (game_of a.held) due → IsText due
  game_text due (inl (many, e)) = absurd (cells_clash (game_of a.held) many a.cells)
  game_text due (inr (few, inl (many, e))) = absurd (a.rows many)
  game_text (Told Yes text) (inr (few, inr w)) = tt
  game_text (Told No text) (inr (few, inr w)) = tt
  game_text (Refused cause line) (inr (few, inr w)) = absurd w

  graph_text : (due : Due) → WithGraph (AfterGame (IsVerdict a.whole source a.file)) source a.whole a.file due → IsText due
  graph_text due (inl (many, e)) = absurd (apart (limit_of Points) (point_count (plan_of (names_of a.whole) source a.file)) many a.points)
  graph_text due (inr (few, k, drawn, inl (f, ne, cause, e))) =
      absurd (no_cause a.whole a.graph k (alike a.whole source a.file a.graph k a.drawn drawn) a.held f a.game a.made ne cause)
  graph_text due (inr (few, k, drawn, inr (l, is, made, of, after))) =
      let same : game_of l ≡ game_of a.held = one_game a.whole k a.graph (alike a.whole source a.file k a.graph drawn a.drawn) l a.held is a.game in
      game_text due (subst (λ (g : Game). AfterGame (IsVerdict a.whole source a.file) g due) same after)

  pair_text : (due : Due) → AfterPair (IsVerdict a.whole source a.file) source a.whole a.file due → IsText due
  pair_text due (inl (f, is, e)) = absurd (fits_once source a.file a.whole f a.fits is)
  pair_text due (inr (fits, inl (some, e))) = absurd (some a.attached)
  pair_text due (inr (fits, inr (none, after))) = graph_text due after

  weave_text : (due : Due) → IsWeaveDue policy source due → IsText due
  weave_text due (inl (inl refusal)) = absurd (never_spelled policy a.whole due refusal a.read.spelled)
  weave_text due (inl (inr (p, spells, unread))) =
      absurd (never_unread source a.whole a.file due a.read.reads a.read.descriptors
      (subst (λ (q : PlainPolicy). IsSourceUnread source q due) (one_policy policy p a.whole spells a.read.spelled) unread))
  weave_text due (inr (p, file, are, after)) =
      let policies : p ≡ a.whole = one_policy policy p a.whole are.spelled a.read.spelled in
      let files : file ≡ a.file = one_program source file a.file are.reads a.read.reads in
      pair_text due
      (subst (λ (z : File). AfterPair (IsVerdict a.whole source z) source a.whole z due) files
      (subst (λ (q : PlainPolicy). AfterPair (IsVerdict q source file) source q file due) policies after))

-- ---- the files

never_over : (before : List ℕ) (quantity : Quantity) (count : ℕ) → limit_in 2 quantity ≡ limit_of quantity → count ≤ limit_of quantity → IsOver before quantity count → ⊥
never_over before quantity count e le (inl lt) = apart (limit_of quantity) count (subst (λ n. n < count) e lt) le
never_over before quantity count e le (inr (lt, never)) = apart (limit_of quantity) count lt le

module _ (files : FilesByName) where
  -- a file of these bytes isn't longer
  kept : (before : List ℕ) (quantity wanted : Quantity) (name named bytes : List ℕ) → files named ≡ Some bytes → limit_in 2 wanted ≡ limit_of wanted → length bytes ≤ limit_of wanted
      → Some wanted ≡ Some quantity → Some named ≡ Some name → IsSomeAnd (files name) (λ found. IsOver before quantity (length found)) → ⊥
  kept before quantity wanted name named bytes held e le q n longer =
      let quantities : quantity ≡ wanted = sym (same_Some wanted quantity q) in
      let here : files name ≡ Some bytes = ap files (sym (same_Some named name n)) ∙ held in
      never_over before wanted (length bytes) e le
      (subst (λ (z : Quantity). IsOver before z (length bytes)) quantities (subst (λ o. IsSomeAnd o (λ found. IsOver before quantity (length found))) here longer))

  module _ (first second policy source : List ℕ) (one : files first ≡ Some policy) (two : files second ≡ Some source) (a : AreAccepted policy source) where
    weave_short : OneIsLonger (Some files) (quantities_of Weave) (first ∷ (second ∷ [])) → ⊥
    weave_short o = go o.index o.is_quantity o.is_name
      where
        go : (index : ℕ) → slice_get (PolicyBytes ∷ (SourceBytes ∷ [])) index ≡ Some o.quantity → slice_get (first ∷ (second ∷ [])) index ≡ Some o.name → ⊥
        go zero q n = kept (front o.before) o.quantity PolicyBytes o.name first policy one refl a.short_policy q n o.longer
        go (suc zero) q n = kept (front o.before) o.quantity SourceBytes o.name second source two refl a.short q n o.longer
        go (suc (suc index)) q n = let lt = slice_get_within (PolicyBytes ∷ (SourceBytes ∷ [])) (suc (suc index)) o.quantity q in omega (arith, lt)

    weave_told : (bytes : List (List ℕ)) (due : Due) → HaveBytes (Some files) [] (quantities_of Weave) (first ∷ (second ∷ [])) bytes → IsDue Weave bytes due → IsText due
    weave_told [] due h d = absurd h
    weave_told (x ∷ []) due h d = absurd h.1
    weave_told (x ∷ (y ∷ [])) due h d =
        let p : x ≡ policy = same_Some x policy (sym h.0.0 ∙ one) in
        let s : y ≡ source = same_Some y source (sym h.1.0.0 ∙ two) in
        weave_text policy source a due (subst (λ (z : List ℕ). IsWeaveDue policy z due) s (subst (λ (z : List ℕ). IsWeaveDue z y due) p d))
    weave_told (x ∷ (y ∷ (z ∷ rest))) due h d = absurd d

pub weave_well : (N : Type 0) → WeaveEndsWell N
weave_well N files first second policy source ending one two a run =
    ends_well N (IsDue Weave) (Some files) run.counts run.later run.old run.new run.faults run.more (quantities_of Weave) (first ∷ (second ∷ [])) ending run.ends run.unfailed
    (record { short = weave_short files first second policy source one two a; told = weave_told files first second policy source one two a })

-- ---- `graph`

module _ (source : List ℕ) (a : IsAccepted source) where
  graph_told : (due : Due) → IsListingDue source due → (text : List ℕ) × (due ≡ Told Yes text)
  graph_told due (inl (f, is, ne, e)) = absurd (never_both source a.file f ne a.reads is)
  graph_told due (inr (file, reads, listed)) = go (subst (λ (z : File). IsListed source z due) (one_program source file a.file reads a.reads) listed)
    where
      go : IsListed source a.file due → (text : List ℕ) × (due ≡ Told Yes text)
      go (inl (many, e)) = absurd (apart (limit_of Points) (point_count (plan_of (own_names source a.file) source a.file)) many a.points)
      go (inr (few, text, is, e)) = (text, e)

  module _ (files : FilesByName) (name : List ℕ) (one : files name ≡ Some source) where
    graph_short : OneIsLonger (Some files) (quantities_of Graph) (name ∷ []) → ⊥
    graph_short o = go o.index o.is_quantity o.is_name
      where
        go : (index : ℕ) → slice_get (SourceBytes ∷ []) index ≡ Some o.quantity → slice_get (name ∷ []) index ≡ Some o.name → ⊥
        go zero q n = kept files (front o.before) o.quantity SourceBytes o.name name source one refl a.short q n o.longer
        go (suc index) q n = let lt = slice_get_within (SourceBytes ∷ []) (suc index) o.quantity q in omega (arith, lt)

    -- the source is the one file
    graph_due : (bytes : List (List ℕ)) (due : Due) → HaveBytes (Some files) [] (quantities_of Graph) (name ∷ []) bytes → IsDue Graph bytes due → (text : List ℕ) × (due ≡ Told Yes text)
    graph_due [] due h d = absurd h
    graph_due (x ∷ []) due h d = graph_told due (subst (λ (z : List ℕ). IsListingDue z due) (same_Some x source (sym h.0.0 ∙ one)) d)
    graph_due (x ∷ (y ∷ rest)) due h d = absurd d

    graph_accepts : Accepts (IsDue Graph) (Some files) (quantities_of Graph) (name ∷ [])
    graph_accepts = record { short = graph_short; told = λ bytes due h d. let t = graph_due bytes due h d in subst IsText (sym t.1) tt }

pub graph_well : (N : Type 0) → GraphEndsWell N
graph_well N files name source ending one a run =
    go (told (IsDue Graph) (Some files) run.counts run.later run.old run.new run.faults run.more (quantities_of Graph) (name ∷ []) run.unfailed (graph_accepts source a files name one) ending run.ends)
  where
    yes : (reply : Reply) (text : List ℕ) → ((other : List ℕ) × (Told reply text ≡ Told Yes other)) → reply_status reply ≡ 0
    yes Yes text e = refl
    yes No text e = absurd cc

    go : (status_of ending ≡ 8) ⊎ ((bytes : List (List ℕ)) × (reply : Reply) × (text : List ℕ) × HaveBytes (Some files) [] (quantities_of Graph) (name ∷ []) bytes
        × IsDue Graph bytes (Told reply text) × (status_of ending ≡ reply_status reply)) → (status_of ending ≡ 0) ⊎ (status_of ending ≡ 8)
    go (inl e) = inr e
    go (inr (bytes, reply, text, have, is, e)) = inl (e ∙ yes reply text (graph_due source a files name one bytes (Told reply text) have is))
