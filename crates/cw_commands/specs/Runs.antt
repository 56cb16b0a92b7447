-- What a run of a command leaves.
use Rattle.std.specs.Prelude.{◌≡◌, ◌⊎◌, ℕ, List, [], Option}
use Rattle.cw_core.specs.declared.quantity.Quantity.{Quantity}
use Rattle.cw_io.specs.Causes.{Rose}
use Rattle.cw_io.specs.Files.{FilesByName}
use Rattle.cw_io.specs.Pieces.{Grows}
use Rattle.cw_commands.specs.declared.ending.Ending.{Ending}
use Rattle.cw_commands.specs.declared.ending.Ending.TheVariants.{Put, Refused as RefusedEnd, Unwritten, Memory}
use Rattle.cw_commands.specs.Endings.{GrowsByFront}
use Rattle.cw_commands.specs.Files.{HaveBytes, IsUnread}
use Rattle.cw_commands.specs.Outcomes.{Due, Told, Refused}

-- What becomes of what is due, by what the output had taken before and after, and its count of faults before and after: a text is appended
-- whole, or after a fault of the output or want of memory a front of it; for a refusal nothing is.
abbrev pub Delivered : {N : Type 0} → Option (List ℕ) → Option (List ℕ) → ℕ → ℕ → Due → Ending N → Type 0
Delivered old new faults faults' (Refused cause line) (RefusedEnd told arguments) = (told ≡ cause) × (arguments.text ≡ line) × (new ≡ old)
Delivered old new faults faults' (Told reply text) (Put told) = (told ≡ reply) × Grows old new text
Delivered old new faults faults' (Told reply text) Unwritten = GrowsByFront old new text × Rose faults faults'
Delivered old new faults faults' (Told reply text) Memory = GrowsByFront old new text
Delivered old new faults faults' due ending = ⊥

-- Either there was no memory, or the files weren't read, and nothing was appended; or they were read, and the ending is that of what
-- is due for their bytes.
abbrev pub Ends : {N : Type 0} → (List (List ℕ) → Due → Type 0) → Option FilesByName → (List ℕ → ℕ) → (List ℕ → ℕ) → Option (List ℕ) → Option (List ℕ) → ℕ → ℕ
    → List Quantity → List (List ℕ) → Ending N → Type 0
Ends IsDue files counts counts' old new faults faults' quantities names ending =
    ((ending ≡ Memory) × (new ≡ old))
    ⊎ ((IsUnread files counts counts' quantities names ending × (new ≡ old))
    ⊎ ((bytes : List (List ℕ)) × (due : Due) × HaveBytes files [] quantities names bytes × IsDue bytes due × Delivered old new faults faults' due ending))
