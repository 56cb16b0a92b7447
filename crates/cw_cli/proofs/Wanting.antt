-- Want of memory is told by its status.
use Rattle.std.proofs.Common.{◌≡◌, ◌⊎◌, ℕ, List, Option, refl, ap, sym, ◌∙◌, subst, arith, inr}
use Rattle.cw_io.specs.Causes.{Rose}
use Rattle.cw_commands.specs.declared.ending.Ending.{Ending}
use Rattle.cw_commands.specs.declared.ending.Ending.TheVariants.{Put, Refused as RefusedEnd, TooLong, Unread, Unwritten, Memory}
use Rattle.cw_commands.specs.declared.outcome.Cause.TheVariants.{Source, Policy, Limit, Grammar}
use Rattle.cw_commands.specs.declared.outcome.Outcome.{Outcome}
use Rattle.cw_commands.specs.declared.outcome.Reply.TheVariants.{Yes, No}
use Rattle.cw_commands.specs.Endings.{status_of}
use Rattle.cw_commands.specs.Starts.{begun_of, Begins}
use Rattle.cw_commands.proofs.Starting.{begun_is}

pub is_memory : {N : Type 0} (ending : Ending N) → status_of ending ≡ 8 → ending ≡ Memory
is_memory (Put Yes) h = let e : 0 ≡ 8 = h in absurd (omega (arith, e))
is_memory (Put No) h = let e : 1 ≡ 8 = h in absurd (omega (arith, e))
is_memory (RefusedEnd Source arguments) h = let e : 3 ≡ 8 = h in absurd (omega (arith, e))
is_memory (RefusedEnd Policy arguments) h = let e : 4 ≡ 8 = h in absurd (omega (arith, e))
is_memory (RefusedEnd Limit arguments) h = let e : 5 ≡ 8 = h in absurd (omega (arith, e))
is_memory (RefusedEnd Grammar arguments) h = let e : 9 ≡ 8 = h in absurd (omega (arith, e))
is_memory (TooLong quantity) h = let e : 5 ≡ 8 = h in absurd (omega (arith, e))
is_memory (Unread name) h = let e : 6 ≡ 8 = h in absurd (omega (arith, e))
is_memory Unwritten h = let e : 7 ≡ 8 = h in absurd (omega (arith, e))
is_memory Memory h = refl

module _ {O : Type 0} (taken : O → Option (List ℕ)) (faults refused : O → ℕ) where
  -- the count rose since the text began, so since its stage did
  pub rose_since : {N : Type 0} (old new last : O) (outcome : Outcome O N) → Begins taken faults refused old new outcome
      → Rose (refused (begun_of new outcome)) (refused last) → (taken last ≡ taken old) ⊎ Rose (refused old) (refused last)
  rose_since old new last outcome begins rose = inr (subst (λ (o : O). Rose (refused o) (refused last)) (begun_is taken faults refused old new outcome begins) rose)
