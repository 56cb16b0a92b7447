-- Files that were read are no larger than their quantities ever allow.
use Rattle.std.proofs.Common.{ℕ, ◌≤◌, List, [], ◌∷◌, ◌++◌, length, Option, ⊎_elim, lit≤, arith}
use Rattle.cw_core.specs.declared.quantity.Quantity.{Quantity}
use Rattle.cw_core.specs.declared.quantity.Quantity.TheVariants.{FileBytes, ProductStates}
use Rattle.cw_core.specs.Quantities.{limit_in, limit_of}
use Rattle.cw_io.specs.Files.{FilesByName}
use Rattle.cw_commands.specs.Files.{first, AreSized, HaveBytes, IsWithin}

limit_rises : (q : Quantity) → limit_of q ≤ limit_in 2 q
limit_rises FileBytes = lit≤ tt
limit_rises ProductStates = lit≤ tt
limit_rises _ = omega arith

within : (policy : List ℕ) (q : Quantity) (count : ℕ) → IsWithin policy q count → count ≤ limit_in 2 q
within policy q count h = ⊎_elim (λ a. omega (arith, a, limit_rises q)) (λ b. b.1) h

pub sized : (files : Option FilesByName) (before : List (List ℕ)) (qs : List Quantity) (ns bs : List (List ℕ)) → HaveBytes files before qs ns bs → AreSized qs bs
sized files before [] [] [] h = tt
sized files before (q ∷ qs) (n ∷ ns) (b ∷ bs) h = (within (first before) q (length b) h.0.1, sized files (before ++ (b ∷ [])) qs ns bs h.1)
sized files before [] [] (b ∷ bs) h = absurd h
sized files before [] (n ∷ ns) bs h = absurd h
sized files before (q ∷ qs) [] bs h = absurd h
sized files before (q ∷ qs) (n ∷ ns) [] h = absurd h
