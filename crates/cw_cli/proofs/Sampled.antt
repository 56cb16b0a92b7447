-- What is due for a sample, from what is due for its texts.
use Rattle.std.proofs.Common.{◌≡◌, ℕ, List, refl, sym, subst}
use Rattle.cw_rights.specs.Policies.{PlainPolicy}
use Rattle.cw_policy.specs.Answer.{Spells}
use Rattle.cw_sample.specs.Samples.{sample_policy, sample_source}
use Rattle.cw_commands.specs.declared.outcome.Reply.{Reply}
use Rattle.cw_commands.specs.Outcomes.{Due, Told}
use Rattle.cw_stages.specs.declared.numbers.Numbers.{Numbers}
use Rattle.cw_stages.specs.Counting.{IsCounted}
use Rattle.cw_stages.specs.Reading.{WithSource}
use Rattle.cw_stages.proofs.Answering.{read_behind}
use Rattle.cw_cli.specs.Sampling.{AfterPolicy, IsSampleDue, IsSummed}
use Rattle.cw_cli.specs.Telling.{summary}
use Rattle.cw_cli.specs.Weaving.{AfterPair}
use Rattle.cw_cli.proofs.Counted.{tell_source}

module _ (numbers : Numbers) (whole : PlainPolicy) (source : List ℕ) where
  -- what is due with its numbers is told by them
  pub summed_due : (number : ℕ) (r : Reply) (text : List ℕ) (due : Due) → due ≡ Told r (summary number numbers r)
      → WithSource (λ file. AfterPair (IsCounted numbers whole source file) source whole file) source whole (Told r text) → AfterPolicy number source whole due
  summed_due number r text due e h =
      subst (AfterPolicy number source whole) (sym e)
      (tell_source whole source (λ file. IsCounted numbers whole source file) (λ file. IsSummed number whole source file) r text (summary number numbers r)
      (λ file g counted. (text, numbers, counted, refl)) h)

-- the policy and the source that the code has are the sample's
pub sampled_due : (number : ℕ) (policy source : List ℕ) (whole : PlainPolicy) (due : Due) → policy ≡ sample_policy → source ≡ sample_source number → Spells policy whole
    → AfterPolicy number source whole due → IsSampleDue number due
sampled_due number policy source whole due same_policy same_source spells h =
    read_behind (λ p file. AfterPair (IsSummed number p (sample_source number) file) (sample_source number) p file) sample_policy (sample_source number) whole due
    (subst (λ (t : List ℕ). Spells t whole) same_policy spells) (subst (λ (s : List ℕ). AfterPolicy number s whole due) same_source h)
