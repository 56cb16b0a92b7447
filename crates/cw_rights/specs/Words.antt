-- Letters and words, and what a literal and a regular expression match.
use Rattle.std.specs.Prelude.{◌≡◌, ◌⊎◌, ℕ, List, [], ◌∷◌, ◌++◌, Bool, true, false, ◌&&◌, Option, Some, None, nat_eq, IsTrue}
use Rattle.std.specs.List.{list_all}
use Rattle.cw_rights.specs.declared.capabilities.Caps.{Caps}
use Rattle.cw_rights.specs.declared.words.Letter.{Letter}
use Rattle.cw_rights.specs.declared.words.Test.{Test}
use Rattle.cw_rights.specs.declared.words.Test.TheVariants.{Amb, Holds}
use Rattle.cw_rights.specs.Capabilities.{hold_of, is_open_with}
use Rattle.cw_rights.specs.Trees.{Literal, Tree, nothing, never, one, seq, alt, star, plus, maybe}

-- the truth of a test
abbrev pub truth : Caps → Test → Bool
truth caps Amb = caps.amb
truth caps (Holds descriptor need) = is_open_with (hold_of caps descriptor) need.0

abbrev pub same : Bool → Bool → Bool
same true b = b
same false true = false
same false false = true

-- each test has its wanted truth
abbrev pub tests_hold : Caps → List (Bool × Test) → Bool
tests_hold caps tests = list_all (λ t. same t.0 (truth caps t.1)) tests

-- no label named, or this one
abbrev pub label_fits : Option ℕ → ℕ → Bool
label_fits None label = true
label_fits (Some l) label = nat_eq l label

-- the literal matches the word of this letter
abbrev pub fits : Literal → Letter → Bool
fits literal letter = label_fits literal.label letter.label && tests_hold letter.caps literal.tests

abbrev pub Word : Type 0
Word = List Letter

-- the word is this list of factors, each of which is in P
abbrev pub Factors : (Word → Type 0) → List Word → Word → Type 0
Factors P [] w = w ≡ []
Factors P (u ∷ us) w = (v : Word) × (w ≡ u ++ v) × P u × Factors P us v

-- the expression matches the word whole
abbrev pub Matches : Tree → Word → Type 0
Matches nothing w = w ≡ []
Matches never w = ⊥
Matches (one l) w = (c : Letter) × (w ≡ c ∷ []) × IsTrue (fits l c)
Matches (seq r s) w = (u : Word) × (v : Word) × (w ≡ u ++ v) × Matches r u × Matches s v
Matches (alt r s) w = Matches r w ⊎ Matches s w
Matches (star r) w = (us : List Word) × Factors (Matches r) us w
Matches (plus r) w = (u : Word) × (us : List Word) × Factors (Matches r) (u ∷ us) w
Matches (maybe r) w = (w ≡ []) ⊎ Matches r w
