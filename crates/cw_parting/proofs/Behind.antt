-- What comes behind the stages of a form: the verdict with its numbers, and the verdict alone.
use Rattle.std.proofs.Common.{◌≡◌, ◌≢◌, ◌≤◌, List, ℕ, None, inl, inr, subst, ⊎_elim}
use Rattle.cw_core.specs.Quantities.{limit_of}
use Rattle.cw_core.specs.declared.quantity.Quantity.TheVariants.{Points}
use Rattle.cw_rights.specs.Policies.{PlainPolicy}
use Rattle.cw_syntax.specs.Plans.{plan_of}
use Rattle.cw_syntax.specs.Trees.{File}
use Rattle.cw_resolve.specs.Scenes.{names_of}
use Rattle.cw_points.specs.declared.graph.Graph.{Graph}
use Rattle.cw_points.specs.Graphs.{IsGraph}
use Rattle.cw_points.specs.Points.{point_count}
use Rattle.cw_scope.specs.Descriptors.{descriptor_fault}
use Rattle.cw_source.specs.Read.{ReadsAs}
use Rattle.cw_detach.specs.declared.faults.ProcFault.{ProcFault}
use Rattle.cw_detach.specs.declared.faults.ProcFault.TheVariants.{NoMemory}
use Rattle.cw_detach.specs.Faults.{IsDetachFault, IsFirstFault}
use Rattle.cw_detach.specs.Form.{form_of}
use Rattle.cw_forms.proofs.Free.{forms_are_read}
use Rattle.cw_model.specs.Boards.{problem_of}
use Rattle.cw_game.specs.Games.{Game}
use Rattle.cw_game.specs.Standing.{IsGameOf}
use Rattle.cw_product.specs.Made.{IsMade}
use Rattle.cw_product.specs.Product.{Held, game_of}
use Rattle.cw_callgraph.specs.Fitting.{Fits}
use Rattle.cw_commands.specs.declared.outcome.Reply.TheVariants.{Yes, No}
use Rattle.cw_commands.specs.Outcomes.{Due, Told, Refused}
use Rattle.cw_stages.specs.declared.numbers.Numbers.{Numbers}
use Rattle.cw_stages.specs.Counting.{IsCounted}
use Rattle.cw_stages.specs.Games.{IsGame, WhereFits}
use Rattle.cw_stages.specs.Verdicts.{AfterGame, IsVerdict}
use Rattle.cw_stages.specs.Reading.{WithSource}
use Rattle.cw_stages.proofs.Onward.{by_game, by_fit}
use Rattle.cw_parting.specs.Parting.{AfterForm, IsParted, OfForm}
use Rattle.cw_worlds.specs.Forks.{fork_places}
use Rattle.cw_worlds.proofs.Meeting.{worlds_meet}
use Rattle.cw_parting.specs.Refusals.{form_refusal}

module _ (whole : PlainPolicy) (source : List ℕ) (file : File) where
  parted_of : (numbers : Numbers) (due : Due) (g : Game) → IsCounted numbers whole source file g due → IsParted whole source file g due
  parted_of numbers (Told Yes text) g (woven, rows, are) = (woven, worlds_meet (problem_of whole source file) woven.table (fork_places source file) woven.sound)
  parted_of numbers (Told No text) g (refuted, rows, are) = refuted
  parted_of numbers (Refused cause line) g h = absurd h

  verdict_of : (due : Due) (g : Game) → IsParted whole source file g due → IsVerdict whole source file g due
  verdict_of (Told Yes text) g (woven, meets) = woven
  verdict_of (Told No text) g h = h
  verdict_of (Refused cause line) g h = absurd h

  -- what is due with its numbers is due for the form, and what is due with no verdict whatever that is
  pub parted_due : (numbers : Numbers) (due : Due) → WhereFits (AfterGame (IsCounted numbers whole source file)) source whole file due
      → WhereFits (AfterGame (IsParted whole source file)) source whole file due
  parted_due numbers due h = by_fit (IsCounted numbers whole source file) (IsParted whole source file) due (parted_of numbers due) source whole file h

  -- and it has a verdict of `weave`
  pub is_verdict : (g : Game) (due : Due) → AfterGame (IsParted whole source file) g due → AfterGame (IsVerdict whole source file) g due
  is_verdict g due h = by_game (IsParted whole source file) (IsVerdict whole source file) due (verdict_of due) g h

-- what comes behind the game of a program comes behind the program
pub behind_game : (Next : Game → Due → Type 0) (source : List ℕ) (whole : PlainPolicy) (file : File) (due : Due) → Fits source file whole
    → point_count (plan_of (names_of whole) source file) ≤ limit_of Points → (graph : Graph) → IsGraph (names_of whole) source file graph → (held : Held) → IsGame whole graph held → IsMade held
    → IsGameOf (problem_of whole source file) (game_of held) → AfterGame Next (game_of held) due → WhereFits (AfterGame Next) source whole file due
behind_game Next source whole file due fits few graph drawn held is made of h = inr (fits, inr (few, graph, drawn, inr (held, is, made, of, h)))

-- what is due for the form of a source that was read, or for the rule that forbids one, is due for the source
module _ (source : List ℕ) (whole : PlainPolicy) (file : File) (due : Due) (reads : ReadsAs source file) (none : descriptor_fault source file whole ≡ None) where
  pub formed : (form : List ℕ) → form ≡ form_of source whole.detached file → IsFirstFault source file whole None → OfForm whole form due → WithSource (AfterForm source whole) source whole due
  formed form is clear h = inr (file, reads, none, inr (clear, subst (λ (l : List ℕ). OfForm whole l due) is h))

  pub unformed : (f : ProcFault) → IsDetachFault source file whole f → f ≢ NoMemory → due ≡ form_refusal source whole f → WithSource (AfterForm source whole) source whole due
  unformed f is ne e = inr (file, reads, none, inl (f, ne, ⊎_elim (λ n. absurd (ne n)) (λ first. first) is, e))

-- a form is read, and the policy's descriptors keep their rules in it: so no refusal of the reader is due for it, nor one by the rules of descriptors
pub read_form : (source : List ℕ) (whole : PlainPolicy) (file : File) → ReadsAs source file → descriptor_fault source file whole ≡ None → IsFirstFault source file whole None
    → (made : File) × ReadsAs (form_of source whole.detached file) made × (descriptor_fault (form_of source whole.detached file) made whole ≡ None)
read_form source whole file reads none clear = let form = forms_are_read source file whole reads none clear in (form.made, form.reads, form.declared)
