-- The files of a command, read in the order of its arguments.
use Rattle.std.specs.Prelude.{◌≡◌, ◌⊎◌, ℕ, ◌<◌, ◌≤◌, List, [], ◌∷◌, ◌++◌, length, take, slice_get, Option, Some, None, IsSomeAnd, Ok}
use Rattle.cw_core.specs.declared.quantity.Quantity.{Quantity}
use Rattle.cw_core.specs.Quantities.{limit_in, limit_of}
use Rattle.cw_io.specs.Causes.{Rose}
use Rattle.cw_io.specs.Files.{FilesByName, IsAnswer}
use Rattle.cw_io.specs.declared.fault.ReadFault.{ReadFault}
use Rattle.cw_io.specs.declared.fault.ReadFault.TheVariants as read
use Rattle.cw_rights.specs.Policies.{PlainPolicy}
use Rattle.cw_policy.specs.Answer.{Spells}
use Rattle.cw_commands.specs.declared.ending.Ending.{Ending}
use Rattle.cw_commands.specs.declared.ending.Ending.TheVariants.{TooLong, Unread}

-- the first of a command's files, which is its policy where it has one
abbrev pub first : List (List ℕ) → List ℕ
first [] = []
first (file ∷ files) = file

-- the text spells a policy of format 2
abbrev pub IsOfFormatTwo : List ℕ → Type 0
IsOfFormatTwo policy = (whole : PlainPolicy) × Spells policy whole × (whole.format ≡ 2)

-- so many bytes are within the limit of their quantity, or over it: that of format 2 holds where the policy is accepted as one of format 2
abbrev pub IsWithin : List ℕ → Quantity → ℕ → Type 0
IsWithin policy quantity count = (count ≤ limit_of quantity) ⊎ (IsOfFormatTwo policy × (count ≤ limit_in 2 quantity))

abbrev pub IsOver : List ℕ → Quantity → ℕ → Type 0
IsOver policy quantity count = (limit_in 2 quantity < count) ⊎ ((limit_of quantity < count) × (IsOfFormatTwo policy → ⊥))

-- where the shelf tells its files, the file of this name has these bytes; they are within the limit
abbrev pub HasBytes : Option FilesByName → List ℕ → Quantity → List ℕ → List ℕ → Type 0
HasBytes files policy quantity name bytes = IsAnswer files name (limit_in 2 quantity) (Ok bytes) × IsWithin policy quantity (length bytes)

-- where it tells them, the file of this name has more bytes than the limit
abbrev pub IsLonger : Option FilesByName → List ℕ → Quantity → List ℕ → Type 0
IsLonger None policy quantity name = Unit {0}
IsLonger (Some files) policy quantity name = IsSomeAnd (files name) (λ bytes. IsOver policy quantity (length bytes))

-- the files of these names have these bytes, one after the other, behind those that were read before
abbrev pub HaveBytes : Option FilesByName → List (List ℕ) → List Quantity → List (List ℕ) → List (List ℕ) → Type 0
HaveBytes files before [] [] [] = Unit {0}
HaveBytes files before (quantity ∷ quantities) (name ∷ names) (bytes ∷ others) =
    HasBytes files (first before) quantity name bytes × HaveBytes files (before ++ (bytes ∷ [])) quantities names others
HaveBytes files before quantities names others = ⊥

-- why one file wasn't read: it is longer than its quantity allows, or the shelf's count of its name rose
abbrev pub IsFileFault : {N : Type 0} → Option FilesByName → (List ℕ → ℕ) → (List ℕ → ℕ) → List ℕ → Quantity → List ℕ → Ending N → Type 0
IsFileFault files counts counts' policy quantity name (TooLong told) = (told ≡ quantity) × IsLonger files policy quantity name
IsFileFault files counts counts' policy quantity name (Unread told) = (told.now ≡ name) × Rose (counts name) (counts' name)
IsFileFault files counts counts' policy quantity name ending = ⊥

-- the same by the fault of its read; of want of memory nothing is said
abbrev pub IsReadFault : Option FilesByName → (List ℕ → ℕ) → (List ℕ → ℕ) → List ℕ → Quantity → List ℕ → ReadFault → Type 0
IsReadFault files counts counts' policy quantity name read.Failed = Rose (counts name) (counts' name)
IsReadFault files counts counts' policy quantity name read.TooLong = IsLonger files policy quantity name
IsReadFault files counts counts' policy quantity name read.NoMemory = Unit {0}

-- the files were read up to one that wasn't, and why, by the shelf's files and its counts before and after
pub record IsUnread {N : Type 0} (files : Option FilesByName) (counts counts' : List ℕ → ℕ) (quantities : List Quantity) (names : List (List ℕ)) (ending : Ending N) : Type 0 where
  pub index : ℕ
  pub quantity : Quantity
  pub name : List ℕ
  pub before : List (List ℕ)
  pub is_quantity : slice_get quantities index ≡ Some quantity
  pub is_name : slice_get names index ≡ Some name
  pub read : HaveBytes files [] (take index quantities) (take index names) before
  pub fault : IsFileFault files counts counts' (first before) quantity name ending

-- each of these has at most as many bytes as its quantity ever allows
abbrev pub AreSized : List Quantity → List (List ℕ) → Type 0
AreSized [] [] = Unit {0}
AreSized (quantity ∷ quantities) (bytes ∷ others) = (length bytes ≤ limit_in 2 quantity) × AreSized quantities others
AreSized quantities others = ⊥
