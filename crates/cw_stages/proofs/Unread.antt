-- What isn't due once the policy is spelled and the source is read.
use Rattle.std.proofs.Common.{◌≡◌, List, ℕ, None, inl, inr, sym, ap, ◌∙◌}
use Rattle.std.proofs.lemmas.Option.{none-some}
use Rattle.cw_rights.specs.Policies.{PlainPolicy}
use Rattle.cw_syntax.specs.Trees.{File}
use Rattle.cw_policy.specs.Answer.{Spells}
use Rattle.cw_policy.proofs.Same.{refused_spells_none}
use Rattle.cw_scope.specs.Descriptors.{descriptor_fault}
use Rattle.cw_source.specs.Read.{ReadsAs}
use Rattle.cw_source.proofs.OneAnswer.{never_both, one_program}
use Rattle.cw_commands.specs.Outcomes.{Due}
use Rattle.cw_stages.specs.Reading.{IsSourceUnread}
use Rattle.cw_stages.specs.Refusals.{IsPolicyRefusal}

-- a policy that is spelled isn't refused
pub never_spelled : (policy : List ℕ) (whole : PlainPolicy) (due : Due) → IsPolicyRefusal policy due → Spells policy whole → ⊥
never_spelled policy whole due (f, is, ne, e) spells = ne (refused_spells_none policy whole f spells is)

-- a source that is read isn't unread
pub never_unread : (source : List ℕ) (whole : PlainPolicy) (file : File) (due : Due) → ReadsAs source file → descriptor_fault source file whole ≡ None → IsSourceUnread source whole due → ⊥
never_unread source whole file due reads none (inl (f, is, ne, e)) = never_both source file f ne reads is
never_unread source whole file due reads none (inr (other, reading, (f, some, e))) =
    let files : other ≡ file = one_program source other file reading reads in
    none-some f (sym none ∙ sym (ap (λ (z : File). descriptor_fault source z whole) files) ∙ some)
