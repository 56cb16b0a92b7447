-- Which statuses a command can have where nothing failed.
use Rattle.std.specs.Prelude.{◌≡◌, ◌≢◌, ◌⊎◌, ℕ, List, [], take, slice_get, Option, Some, Contains}
use Rattle.cw_core.specs.declared.quantity.Quantity.{Quantity}
use Rattle.cw_io.specs.Causes.{Rose}
use Rattle.cw_io.specs.Files.{FilesByName}
use Rattle.cw_commands.specs.declared.ending.Ending.{Ending}
use Rattle.cw_commands.specs.Endings.{status_of}
use Rattle.cw_commands.specs.Files.{HaveBytes, IsLonger, first}
use Rattle.cw_commands.specs.Outcomes.{Due, Told, Refused}
use Rattle.cw_commands.specs.Runs.{Ends}

-- no read of these files failed, and no put to the output did: no count rose
pub record NoneRose (counts counts' : List ℕ → ℕ) (names : List (List ℕ)) (faults faults' : ℕ) : Type 0 where
  pub files : (name : List ℕ) → Contains names name → Rose (counts name) (counts' name) → ⊥
  pub output : Rose faults faults' → ⊥

abbrev pub IsText : Due → Type 0
IsText (Told reply text) = Unit {0}
IsText (Refused cause line) = ⊥

-- One of the files has more bytes than its own quantity allows, and those before it were read. Of a shelf that doesn't tell its files nothing rules that out.
pub record OneIsLonger (files : Option FilesByName) (quantities : List Quantity) (names : List (List ℕ)) : Type 0 where
  pub index : ℕ
  pub quantity : Quantity
  pub name : List ℕ
  pub before : List (List ℕ)
  pub is_quantity : slice_get quantities index ≡ Some quantity
  pub is_name : slice_get names index ≡ Some name
  pub read : HaveBytes files [] (take index quantities) (take index names) before
  pub longer : IsLonger files (first before) quantity name

-- each stage accepts, and nothing is over its limit: no file is, and for what the files hold a text is due
pub record Accepts (IsDue : List (List ℕ) → Due → Type 0) (files : Option FilesByName) (quantities : List Quantity) (names : List (List ℕ)) : Type 0 where
  pub short : OneIsLonger files quantities names → ⊥
  pub told : (bytes : List (List ℕ)) (due : Due) → HaveBytes files [] quantities names bytes → IsDue bytes due → IsText due

-- Where no count rose the status is neither 6 nor 7.
abbrev pub NeverFails : (N : Type 0) → (List (List ℕ) → Due → Type 0) → Type 0
NeverFails N IsDue = (files : Option FilesByName) (counts counts' : List ℕ → ℕ) (old new : Option (List ℕ)) (faults faults' : ℕ) (quantities : List Quantity) (names : List (List ℕ)) (ending : Ending N)
    → Ends IsDue files counts counts' old new faults faults' quantities names ending → NoneRose counts counts' names faults faults'
    → (status_of ending ≢ 6) × (status_of ending ≢ 7)

-- Where each stage accepts too, and nothing is over its limit, it is 0 or 1, or 8.
abbrev pub EndsWell : (N : Type 0) → (List (List ℕ) → Due → Type 0) → Type 0
EndsWell N IsDue = (files : Option FilesByName) (counts counts' : List ℕ → ℕ) (old new : Option (List ℕ)) (faults faults' : ℕ) (quantities : List Quantity) (names : List (List ℕ)) (ending : Ending N)
    → Ends IsDue files counts counts' old new faults faults' quantities names ending → NoneRose counts counts' names faults faults' → Accepts IsDue files quantities names
    → (status_of ending ≡ 0) ⊎ ((status_of ending ≡ 1) ⊎ (status_of ending ≡ 8))

-- A count that is always 0, as those of the sure shelf and the sure sink are, never rises; so over them the status is never 6 or 7.
abbrev pub NeverFailsForSure : (N : Type 0) → (List (List ℕ) → Due → Type 0) → Type 0
NeverFailsForSure N IsDue = (files : Option FilesByName) (old new : Option (List ℕ)) (quantities : List Quantity) (names : List (List ℕ)) (ending : Ending N)
    → Ends IsDue files (λ name. 0) (λ name. 0) old new 0 0 quantities names ending → (status_of ending ≢ 6) × (status_of ending ≢ 7)
