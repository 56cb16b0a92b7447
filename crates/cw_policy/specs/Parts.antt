-- The parts of the policy that a tree of the form has, but for its rules.
use Rattle.std.specs.Prelude.{ℕ, List, [], ◌∷◌, codes, Bool, if◌then◌else◌, Option, Some, None, bit_or}
use Rattle.std.specs.Str.{bytes_eq}
use Rattle.toml.specs.Data.{Data, Items, no_items, item, Members, get, get_member}
use Rattle.cw_rights.specs.declared.capabilities.Rights.{Rights}
use Rattle.cw_rights.specs.declared.capabilities.Limit.{Limit as ALimit}
use Rattle.cw_rights.specs.Policies.{PlainDescriptor}
use Rattle.cw_rights.specs.Names.{all_rights, right_mask}
use Rattle.cw_regex.specs.Meaning.{number_in, with_name}
use Rattle.cw_policy.specs.declared.keys.Key.TheVariants.{Refusable, OnRefusal}
use Rattle.cw_policy.specs.Keys.{key_text}
use Rattle.cw_policy.specs.Form.{items_at, text_at, array_at}
use Rattle.cw_policy.specs.Names.{name_of, names_of, is_among}

-- the rights in the set and those of these names, each of which stands for a set in its format
abbrev pub with_rights : ℕ → Option ℕ → ℕ
with_rights rights None = rights
with_rights rights (Some more) = bit_or rights more

abbrev pub rights_of : ℕ → ℕ → Items → ℕ
rights_of format rights no_items = rights
rights_of format rights (item d ds) = rights_of format (with_rights rights (right_mask format (name_of d))) ds

-- without the key, all twelve
abbrev pub rights_at : ℕ → Option Data → Rights
rights_at format None = record { 0 = all_rights }
rights_at format (Some d) = record { 0 = rights_of format 0 (items_at (Some d)) }

-- the digit that the name is
abbrev pub digit_of : List ℕ → Option ℕ
digit_of w =
    if bytes_eq w (codes "0") then Some 0
    else if bytes_eq w (codes "1") then Some 1
    else if bytes_eq w (codes "2") then Some 2
    else None

abbrev pub descriptor_in : ℕ → Data → PlainDescriptor
descriptor_in format d = record { name = name_of d; number = digit_of (name_of d); rights = rights_at format (get (codes "rights") d) }

abbrev pub descriptors_in : ℕ → Items → List PlainDescriptor
descriptors_in format no_items = []
descriptors_in format (item d ds) = descriptor_in format d ∷ descriptors_in format ds

-- a descriptor's number is its index among the names
abbrev pub limit_in : ℕ → List (List ℕ) → Data → ALimit
limit_in format names d = record {
  descriptor = number_in names (text_at (get (codes "descriptor") d));
  keep = record { 0 = rights_of format 0 (items_at (get (codes "keep") d)) };
}

abbrev pub limits_in : ℕ → List (List ℕ) → Items → List ALimit
limits_in format names no_items = []
limits_in format names (item d ds) = limit_in format names d ∷ limits_in format names ds

-- whether the root's `refusable` has this kind of primitive
abbrev pub refuses : List ℕ → Members → Bool
refuses kind ms = is_among (names_of (array_at Refusable ms)) kind

-- whether the root's `on_refusal` is "stop": without the key the program goes on
abbrev pub stops : Members → Bool
stops ms = bytes_eq (text_at (get_member (key_text OnRefusal) ms)) (codes "stop")

-- these labels and those of the tables `at` that are new, in the order of first mention
abbrev pub labels_from : List (List ℕ) → Items → List (List ℕ)
labels_from labels no_items = labels
labels_from labels (item d ds) = labels_from (with_name labels (text_at (get (codes "label") d))) ds
