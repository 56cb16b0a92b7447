-- Names that aren't known, names that stand twice, and too many descriptors.
use Rattle.std.specs.Prelude.{ℕ, suc, List, [], ◌∷◌, ◌++◌, codes, Bool, if◌then◌else◌, Option, Some, None, nat_lt, is_some}
use Rattle.std.specs.List.{list_any}
use Rattle.std.specs.Str.{bytes_eq}
use Rattle.toml.specs.Data.{Data, string, table, Items, no_items, item, Members, get, get_member}
use Rattle.cw_core.specs.declared.quantity.Quantity.TheVariants.{Descriptors as DescriptorCount}
use Rattle.cw_core.specs.Quantities.{limit_of}
use Rattle.cw_rights.specs.Names.{right_mask}
use Rattle.cw_policy.specs.declared.fault.PolicyFault.{PolicyFault}
use Rattle.cw_policy.specs.declared.fault.PolicyFault.TheVariants.{Unknown, Twice, Limit as TooMany}
use Rattle.cw_policy.specs.declared.keys.Section.{Section}
use Rattle.cw_policy.specs.declared.keys.Section.TheVariants.{Root, Descriptor, Limit, Rule}
use Rattle.cw_policy.specs.declared.keys.Key.{Key}
use Rattle.cw_policy.specs.declared.keys.Key.TheVariants.{Split, Detached, Descriptors, Limits, Rules}
use Rattle.cw_policy.specs.Keys.{key_number, path}
use Rattle.cw_policy.specs.Form.{or_else, first_in, items_at, text_at, array_at, format_of, form_fault}

-- the bytes of a string, or of the name of a table
abbrev pub name_of : Data → List ℕ
name_of (string s) = s
name_of (table ms) = text_at (get_member (codes "name") ms)
name_of _ = []

abbrev pub names_of : Items → List (List ℕ)
names_of no_items = []
names_of (item d ds) = name_of d ∷ names_of ds

abbrev pub is_among : List (List ℕ) → List ℕ → Bool
is_among names w = list_any (bytes_eq w) names

abbrev pub count : Items → ℕ
count no_items = 0
count (item d ds) = suc (count ds)

-- ---- names that aren't known

-- the number of an item that names no right of the format
abbrev pub unknown_right : ℕ → ℕ → Data → Option ℕ
unknown_right format n d = if is_some (right_mask format (name_of d)) then None else Some n

abbrev pub unknown_item : Section → ℕ → ℕ → Option ℕ → Option PolicyFault
unknown_item section index key None = None
unknown_item section index key (Some n) = Some (Unknown (path section index key n))

-- the first unknown right of an array at a key
abbrev pub rights_fault : ℕ → Section → ℕ → ℕ → Option Data → Option PolicyFault
rights_fault format section index key value = unknown_item section index key (first_in (unknown_right format) 1 (items_at value))

abbrev pub descriptor_unknown : ℕ → ℕ → Data → Option PolicyFault
descriptor_unknown format index d = rights_fault format Descriptor index 2 (get (codes "rights") d)

-- a limit's descriptor, and then its rights
abbrev pub limit_unknown : ℕ → List (List ℕ) → ℕ → Data → Option PolicyFault
limit_unknown format names index d =
    if is_among names (text_at (get (codes "descriptor") d))
    then rights_fault format Limit index 2 (get (codes "keep") d)
    else Some (Unknown (path Limit index 1 0))

unfoldable pub unknown_fault : Members → Option PolicyFault
unknown_fault ms =
    or_else (first_in (descriptor_unknown (format_of ms)) 0 (array_at Descriptors ms))
    (first_in (limit_unknown (format_of ms) (names_of (array_at Descriptors ms))) 0 (array_at Limits ms))

-- ---- names that stand twice

-- the number, counted from n, of the first name that one of those seen before it has too
abbrev pub repeated : List (List ℕ) → ℕ → List (List ℕ) → Option ℕ
repeated seen n [] = None
repeated seen n (w ∷ ws) = if is_among seen w then Some n else repeated (seen ++ w ∷ []) (suc n) ws

abbrev pub twice_table : Section → Option ℕ → Option PolicyFault
twice_table section None = None
twice_table section (Some n) = Some (Twice (path section n 1 0))

-- an item of an array of the root
abbrev pub twice_item : Key → Option ℕ → Option PolicyFault
twice_item key None = None
twice_item key (Some n) = Some (Twice (path Root 0 (key_number key) (suc n)))

-- descriptors, then split functions, then detached functions, then the names of rules
unfoldable pub twice_fault : Members → Option PolicyFault
twice_fault ms =
    or_else (twice_table Descriptor (repeated [] 0 (names_of (array_at Descriptors ms))))
    (or_else (twice_item Split (repeated [] 0 (names_of (array_at Split ms))))
    (or_else (twice_item Detached (repeated [] 0 (names_of (array_at Detached ms))))
    (twice_table Rule (repeated [] 0 (names_of (array_at Rules ms))))))

-- too many descriptors
abbrev pub count_fault : Members → Option PolicyFault
count_fault ms = if nat_lt (limit_of DescriptorCount) (count (array_at Descriptors ms)) then Some (TooMany DescriptorCount) else None

-- The first fault of a tree before its tests and expressions are read.
unfoldable pub early_fault : Members → Option PolicyFault
early_fault ms = or_else (form_fault ms) (or_else (unknown_fault ms) (or_else (twice_fault ms) (count_fault ms)))
