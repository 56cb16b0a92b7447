-- Rule by rule.
use Rattle.std.proofs.Common.{inl, ℕ, ◌<◌, List, length, map, drop, get_or, sym, subst, drop-cons}
use Rattle.cw_policy.specs.declared.fault.PolicyFault.{PolicyFault}
use Rattle.cw_policy.specs.declared.fault.PolicyFault.TheVariants.{Toml, Missing, Unknown, Kind, Regex, Limit as TooMany, Twice, NoMemory}
use Rattle.cw_policy.specs.declared.sources.Source.{Source}
use Rattle.cw_policy.specs.Sources.{text_of}
use Rattle.cw_policy.specs.Rules.{OrMemory, IsRuleFault, FirstRefused}

-- a cause that implies another
pub or_more : (P Q : PolicyFault → Type 0) (f : PolicyFault) → ((g : PolicyFault) → P g → Q g) → OrMemory P f → OrMemory Q f
or_more P Q Toml h p = h Toml p
or_more P Q (Missing x) h p = h (Missing x) p
or_more P Q (Unknown x) h p = h (Unknown x) p
or_more P Q (Kind x) h p = h (Kind x) p
or_more P Q (Regex i x) h p = h (Regex i x) p
or_more P Q (TooMany x) h p = h (TooMany x) p
or_more P Q (Twice x) h p = h (Twice x) p
or_more P Q NoMemory h p = tt

-- the text at this place is refused
pub refused_at : (format : ℕ) (d labels : List (List ℕ)) (xs : List Source) (i : ℕ) (x : Source) (f : PolicyFault) → i < length xs
    → OrMemory (IsRuleFault format d (text_of (get_or xs i x))) f → OrMemory (FirstRefused format d labels (map text_of (drop i xs))) f
refused_at format d labels xs i x f lt = or_more (IsRuleFault format d (text_of (get_or xs i x))) (FirstRefused format d labels (map text_of (drop i xs))) f
    (λ g h. subst (λ (ss : List Source). FirstRefused format d labels (map text_of ss) g) (sym (drop-cons xs i x lt)) (inl h))
