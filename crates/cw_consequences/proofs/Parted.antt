-- For `procs` one answer is due.
use Rattle.std.proofs.Common.{◌≡◌, inl, inr, List, ℕ, Option, None, Some, sym, ap, ◌∙◌, subst}
use Rattle.std.proofs.lemmas.Option.{none-some, same_Some}
use Rattle.cw_rights.specs.Policies.{PlainPolicy}
use Rattle.cw_syntax.specs.Trees.{File}
use Rattle.cw_lex.specs.declared.tokens.Token.{Token}
use Rattle.cw_lex.proofs.Listing.{one_list}
use Rattle.cw_model.specs.Boards.{problem_of}
use Rattle.cw_game.specs.Games.{Game}
use Rattle.cw_game.specs.Standing.{IsGameOf}
use Rattle.cw_detach.specs.declared.faults.ProcFault.{ProcFault}
use Rattle.cw_detach.specs.Faults.{name_fault, text_fault, IsFirstFault, ◌or_else◌}
use Rattle.cw_detach.specs.Form.{form_of}
use Rattle.cw_commands.specs.Outcomes.{Due, Told}
use Rattle.cw_commands.specs.declared.outcome.Reply.TheVariants.{Yes, No}
use Rattle.cw_stages.specs.Games.{WhereFits}
use Rattle.cw_stages.specs.Verdicts.{AfterGame}
use Rattle.cw_parting.specs.Parting.{AfterForm, IsParted, IsProcsDue, OfForm}
use Rattle.cw_parting.specs.Refusals.{form_refusal, IsFormRefusal}
use Rattle.cw_parting.proofs.Behind.{is_verdict}
use Rattle.cw_consequences.proofs.Outcomes.{Outcome, ManyCells, ManyRows, Woven, Refuted, Says, ends, one_outcome}
use Rattle.cw_consequences.proofs.Singles.{IsOne, one_reading, one_source, one_where_fits}

-- what is told of one outcome is one
one_said : (source : List ℕ) (file : File) (p : PlainPolicy) (o : Outcome) → IsOne (Says source file p o)
one_said source file p ManyCells due answer a b = a ∙ sym b
one_said source file p ManyRows due answer a b = a ∙ sym b
one_said source file p (Woven t) due answer (text, a, stands) (other, b, stood) = a ∙ ap (Told Yes) (stands ∙ sym stood) ∙ sym b
one_said source file p (Refuted s) due answer (text, a, spelled) (other, b, spells) = a ∙ ap (Told No) (spelled ∙ sym spells) ∙ sym b

module _ (source : List ℕ) (p : PlainPolicy) (file : File) where
  one_parted : (g : Game) → IsGameOf (problem_of p source file) g → IsOne (AfterGame (IsParted p source file) g)
  one_parted g of due answer a b =
      let first = ends source file p g due of (is_verdict p source file g due a) in
      let second = ends source file p g answer of (is_verdict p source file g answer b) in
      let same : first.0 ≡ second.0 = one_outcome g first.0 second.0 first.1 second.1 in
      one_said source file p second.0 due answer (subst (λ (o : Outcome). Says source file p o due) same first.2) second.2

  -- a source has one first fault under a policy, or none
  one_first : (fault other : Option ProcFault) → IsFirstFault source file p fault → IsFirstFault source file p other → fault ≡ other
  one_first fault other (tokens, lexed, a) (others, lexes, b) =
      let same : tokens ≡ others = one_list source tokens others lexed lexes in
      a ∙ ap (λ (ts : List Token). name_fault source file p or_else text_fault source ts file p.detached) same ∙ sym b

  one_form_refusal : IsOne (IsFormRefusal source file p)
  one_form_refusal due answer (f, ne, is, a) (g, nor, other, b) =
      a ∙ ap (λ (z : ProcFault). form_refusal source p z) (same_Some f g (one_first (Some f) (Some g) is other)) ∙ sym b

one_of_form : (p : PlainPolicy) (form : List ℕ) → IsOne (OfForm p form)
one_of_form p form due answer a b =
    one_source form p (λ file. WhereFits (AfterGame (IsParted p form file)) form p file) (λ file. one_where_fits form p file (AfterGame (IsParted p form file)) (one_parted form p file)) due answer (inr a) (inr b)

one_after_form : (source : List ℕ) (p : PlainPolicy) (file : File) → IsOne (AfterForm source p file)
one_after_form source p file due answer (inl a) (inl b) = one_form_refusal source p file due answer a b
one_after_form source p file due answer (inl (f, ne, is, a)) (inr (clear, b)) = absurd (none-some f (one_first source p file None (Some f) clear is))
one_after_form source p file due answer (inr (clear, a)) (inl (f, ne, is, b)) = absurd (none-some f (one_first source p file None (Some f) clear is))
one_after_form source p file due answer (inr (clear, a)) (inr (other, b)) = one_of_form p (form_of source p.detached file) due answer a b

pub one_procs : (policy source : List ℕ) → IsOne (IsProcsDue policy source)
one_procs policy source = one_reading policy source (AfterForm source) (λ p file. one_after_form source p file)
