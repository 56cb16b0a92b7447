-- What stands in functions, by their names.
use Rattle.std.proofs.Common.{◌≡◌, ℕ, List, [], ◌∷◌, map, refl, ap, ap₂, ◌∙◌}
use Rattle.cw_syntax.specs.Trees.{Definition, File}
use Rattle.cw_value.specs.Expressions.{Named}
use Rattle.cw_value.specs.Machines.{own_names, shared_names}
use Rattle.cw_slots.specs.Standing.{Seen, seen}
use Rattle.cw_machine.specs.Knowing.{seen_by}

each : (bytes : List ℕ) (shared : Named) (fs : List Definition) → map (λ names. seen bytes names shared) (map (own_names bytes) fs) ≡ map (λ f. seen bytes (own_names bytes f) shared) fs
each bytes shared [] = refl
each bytes shared (f ∷ fs) = ap (λ rest. seen bytes (own_names bytes f) shared ∷ rest) (each bytes shared fs)

pub all_seen : (bytes : List ℕ) (file : File) (own : List Named) (shared : Named) (all : List Seen) → own ≡ map (own_names bytes) file.functions → shared ≡ shared_names bytes file
    → all ≡ map (λ names. seen bytes names shared) own → all ≡ map (λ f. seen_by bytes file (own_names bytes f)) file.functions
all_seen bytes file own shared all is same e =
    e ∙ ap₂ (λ (o : List Named) (s : Named). map (λ names. seen bytes names s) o) is same ∙ each bytes (shared_names bytes file) file.functions
