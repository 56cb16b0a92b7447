-- What is due for the texts of a policy and of the policy varied says the same.
use Rattle.std.proofs.Common.{◌≡◌, ◌⊎◌, inl, inr, ⊎_elim, ℕ, ◌<◌, ◌≤◌, List, Bool, false, None, refl, sym, ap, ◌∙◌, subst, arith, le_refl, lt_irrefl}
use Rattle.std.proofs.lemmas.Option.{same_Some}
use Rattle.cw_core.specs.Quantities.{limit_in}
use Rattle.cw_core.specs.declared.quantity.Quantity.TheVariants.{ProductStates}
use Rattle.cw_rights.specs.Policies.{PlainPolicy}
use Rattle.cw_syntax.specs.Trees.{File}
use Rattle.cw_policy.specs.Answer.{Spells}
use Rattle.cw_policy.proofs.Same.{one_fault as one_policy_fault, one_policy, refused_spells_none}
use Rattle.cw_scope.specs.declared.descriptors.DescriptorFault.{DescriptorFault}
use Rattle.cw_scope.specs.declared.descriptors.DescriptorFault.TheVariants as descriptor
use Rattle.cw_scope.specs.Descriptors.{descriptor_fault}
use Rattle.cw_source.specs.Read.{ReadsAs}
use Rattle.cw_source.proofs.OneAnswer.{never_both, one_fault, one_program}
use Rattle.cw_game.specs.Games.{Game}
use Rattle.cw_consequences.specs.Unrefused.{unrefused, varied}
use Rattle.cw_commands.specs.declared.outcome.Cause.TheVariants.{Source}
use Rattle.cw_commands.specs.Outcomes.{Due, Refused}
use Rattle.cw_stages.specs.Reading.{IsSourceUnread}
use Rattle.cw_stages.specs.Refusals.{descriptor_line, over, policy_refusal, source_refusal, IsPolicyRefusal}
use Rattle.cw_stages.specs.Verdicts.{IsVerdict}
use Rattle.cw_stages.proofs.Unread.{never_spelled, never_unread}
use Rattle.cw_cli.specs.Weaving.{AfterPair, IsWeaveDue}
use Rattle.cw_consequences.specs.Alike.{in_format, AreAlike}
use Rattle.cw_consequences.specs.Laws.{FormatsAgree, StopGivesTheSame, WeaveHasOneAnswer}
use Rattle.cw_consequences.proofs.Likes.{format_like, same_like, unrefused_like}
use Rattle.cw_consequences.proofs.Outcomes.{IsLike}
use Rattle.cw_consequences.proofs.Stages.{after_pair, refused_alike}
use Rattle.cw_consequences.proofs.Texts.{one_text}

-- a source is unread under a policy, or it is read and this is due
abbrev Either : List ℕ → PlainPolicy → Due → Type 0
Either source p due = IsSourceUnread source p due ⊎ ((file : File) × ReadsAs source file × (descriptor_fault source file p ≡ None) × AfterPair (IsVerdict p source file) source p file due)

-- where the policy is spelled
behind_policy : (policy source : List ℕ) (p : PlainPolicy) (due : Due) → Spells policy p → IsWeaveDue policy source due → Either source p due
behind_policy policy source p due spells (inl (inl (f, is, ne, e))) = absurd (ne (refused_spells_none policy p f spells is))
behind_policy policy source p due spells (inl (inr (whole, spelled, unread))) =
    inl (subst (λ (q : PlainPolicy). IsSourceUnread source q due) (one_policy policy whole p spelled spells) unread)
behind_policy policy source p due spells (inr (whole, file, are, after)) =
    let same : whole ≡ p = one_policy policy whole p are.spelled spells in
    inr (
      file,
      are.reads,
      subst (λ (q : PlainPolicy). descriptor_fault source file q ≡ None) same are.descriptors,
      subst (λ (q : PlainPolicy). AfterPair (IsVerdict q source file) source q file due) same after,
    )

module _ (source : List ℕ) (p : PlainPolicy) (limit enter split stop : Bool) (format : ℕ) where
  abbrev y : PlainPolicy
  y = varied p limit enter split stop format

  line_same : (f : DescriptorFault) → descriptor_line source (varied p limit enter split stop format) f ≡ descriptor_line source p f
  line_same (descriptor.NoVariable d) = refl
  line_same (descriptor.Shadowed d) = refl
  line_same (descriptor.Misuse at) = refl
  line_same descriptor.NoMemory = refl

  unread_same : (due : Due) → IsSourceUnread source (varied p limit enter split stop format) due → IsSourceUnread source p due
  unread_same due (inl u) = inl u
  unread_same due (inr (file, reads, (f, some, e))) = inr (file, reads, (f, some, e ∙ ap (λ (l : List ℕ). Refused Source l) (line_same f)))

  unread_alike : (due answer : Due) → IsSourceUnread source p due → IsSourceUnread source p answer → AreAlike source p (varied p limit enter split stop format) due answer
  unread_alike due answer (inl (f, is, ne, a)) (inl (g, other, nor, b)) =
      let same : f ≡ g = one_fault source f g ne nor is other in
      refused_alike source p y _ _ due answer a (b ∙ sym (ap (source_refusal source) same))
  unread_alike due answer (inl (f, is, ne, a)) (inr (file, reads, (g, some, b))) = absurd (never_both source file f ne reads is)
  unread_alike due answer (inr (file, reads, (f, some, a))) (inl (g, is, ne, b)) = absurd (never_both source file g ne reads is)
  unread_alike due answer (inr (file, reads, (f, some, a))) (inr (other, reading, (g, any, b))) =
      let files : other ≡ file = one_program source other file reading reads in
      let faults : f ≡ g = same_Some f g (sym some ∙ sym (ap (λ (z : File). descriptor_fault source z p) files) ∙ any) in
      refused_alike source p y _ _ due answer a (b ∙ sym (ap (λ (z : DescriptorFault). Refused Source (descriptor_line source p z)) faults))

  module _ (like : (g : Game) → g.policy ≡ p → IsLike g (varied p limit enter split stop format)) (wide : limit_in p.format ProductStates ≤ limit_in format ProductStates) where
    either_alike : (due answer : Due) → Either source p due → Either source (varied p limit enter split stop format) answer
        → ((due ≡ over ProductStates) × (limit_in p.format ProductStates < limit_in format ProductStates))
        ⊎ AreAlike source p (varied p limit enter split stop format) due answer
    either_alike due answer (inl u) (inl w) = inr (unread_alike due answer u (unread_same answer w))
    either_alike due answer (inl u) (inr (file, reads, none, after)) = absurd (never_unread source p file due reads none u)
    either_alike due answer (inr (file, reads, none, after)) (inl w) = absurd (never_unread source p file answer reads none (unread_same answer w))
    either_alike due answer (inr (file, reads, none, after)) (inr (other, reading, nor, behind)) =
        let files : other ≡ file = one_program source other file reading reads in
        after_pair source file reads p limit enter split stop format like wide due answer after (subst (λ (z : File). AfterPair (IsVerdict y source z) source y z answer) files behind)

    pub due_alike : (policy other : List ℕ) (due answer : Due) → Spells policy p → Spells other (varied p limit enter split stop format)
        → IsWeaveDue policy source due → IsWeaveDue other source answer
        → ((due ≡ over ProductStates) × (limit_in p.format ProductStates < limit_in format ProductStates))
        ⊎ AreAlike source p (varied p limit enter split stop format) due answer
    due_alike policy other due answer spells spelled a b =
        either_alike due answer (behind_policy policy source p due spells a) (behind_policy other source y answer spelled b)

-- under the same format the answers are one
module _ (source : List ℕ) (p : PlainPolicy) (limit enter split stop : Bool) (like : (g : Game) → g.policy ≡ p → IsLike g (varied p limit enter split stop p.format)) where
  one_due : (policy other : List ℕ) (due answer : Due) → Spells policy p → Spells other (varied p limit enter split stop p.format)
      → IsWeaveDue policy source due → IsWeaveDue other source answer → due ≡ answer
  one_due policy other due answer spells spelled a b =
      ⊎_elim (λ k. absurd (lt_irrefl (limit_in p.format ProductStates) k.1)) (one_text p limit enter split stop source due answer)
      (due_alike source p limit enter split stop p.format like (le_refl (limit_in p.format ProductStates)) policy other due answer spells spelled a b)

-- where the policy is refused, or spelled
told_apart : (policy source : List ℕ) (due : Due) → IsWeaveDue policy source due → IsPolicyRefusal policy due ⊎ ((p : PlainPolicy) × Spells policy p)
told_apart policy source due (inl (inl refusal)) = inl refusal
told_apart policy source due (inl (inr (p, spells, unread))) = inr (p, spells)
told_apart policy source due (inr (p, file, are, after)) = inr (p, are.spelled)

pub one_answer : WeaveHasOneAnswer
one_answer policy source due answer a b = by (told_apart policy source due a) (told_apart policy source answer b)
  where
    by : IsPolicyRefusal policy due ⊎ ((p : PlainPolicy) × Spells policy p) → IsPolicyRefusal policy answer ⊎ ((p : PlainPolicy) × Spells policy p) → due ≡ answer
    by (inl (f, is, ne, e)) (inl (g, other, nor, l)) = e ∙ ap policy_refusal (one_policy_fault policy f g ne nor is other) ∙ sym l
    by (inl refusal) (inr (p, spells)) = absurd (never_spelled policy p due refusal spells)
    by (inr (p, spells)) (inl refusal) = absurd (never_spelled policy p answer refusal spells)
    by (inr (p, spells)) (inr (q, other)) =
        one_due source p p.refuse_limit p.refuse_enter p.refuse_split p.stop (λ g e. subst (λ (q : PlainPolicy). IsLike g q) e (same_like g)) policy policy due answer spells spells a b

pub stop_same : StopGivesTheSame
stop_same policy other source p spells spelled stop due answer a b =
    one_due source p false false false p.stop
    (λ g e. subst (λ (q : PlainPolicy). IsLike g (unrefused q)) e (unrefused_like g (ap (λ (q : PlainPolicy). q.stop) e ∙ stop))) policy other due answer spells spelled a b

pub formats_agree : FormatsAgree
formats_agree policy other source p spells spelled one due answer a b =
    let le : 512 ≤ 1024 = omega arith in
    ⊎_elim (λ k. inl k.0) (λ same. inr same)
    (due_alike source p p.refuse_limit p.refuse_enter p.refuse_split p.stop 2
    (λ g e. subst (λ (q : PlainPolicy). IsLike g (in_format 2 q)) e (format_like 2 g))
    (subst (λ n. limit_in n ProductStates ≤ limit_in 2 ProductStates) (sym one) le) policy other due answer spells spelled a b)
