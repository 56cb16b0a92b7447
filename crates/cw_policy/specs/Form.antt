-- The form of a policy's tree, and the first path where the tree hasn't it.
use Rattle.std.specs.Prelude.{ℕ, suc, pos, List, [], ◌∷◌, codes, Bool, true, false, ◌&&◌, ◌||◌, if◌then◌else◌, Option, Some, None, is_none, nat_eq}
use Rattle.std.specs.List.{list_all}
use Rattle.std.specs.Str.{bytes_eq}
use Rattle.toml.specs.Data.{Data, string, integer, array, table, Items, no_items, item, Members, no_members, member, get_member}
use Rattle.cw_rights.specs.Valid.{is_name, is_name_start, is_name_byte}
use Rattle.cw_regex.specs.Grammar.{is_descriptor}
use Rattle.cw_policy.specs.declared.fault.PolicyFault.{PolicyFault}
use Rattle.cw_policy.specs.declared.fault.PolicyFault.TheVariants.{Missing, Unknown, Kind}
use Rattle.cw_policy.specs.declared.keys.Section.{Section}
use Rattle.cw_policy.specs.declared.keys.Section.TheVariants.{Root, Descriptor, Limit, At, Rule}
use Rattle.cw_policy.specs.declared.keys.Key.{Key}
use Rattle.cw_policy.specs.declared.keys.Key.TheVariants.{Format, Refusable, Split, OnRefusal, Detached, Descriptors, Limits, Ats, Rules, Name, Rights, Of, Keep, Label, Must, Never, RuleName, Bad}
use Rattle.cw_policy.specs.Keys.{keys_of, is_known, key_number, key_text, is_required, path}

-- the first of two faults
abbrev pub or_else : {A : Type 0} → Option A → Option A → Option A
or_else (Some fault) later = Some fault
or_else None later = later

-- the first fault among some items, which are counted from n
abbrev pub first_in : {A : Type 0} → (ℕ → Data → Option A) → ℕ → Items → Option A
first_in test n no_items = None
first_in test n (item d ds) = or_else (test n d) (first_in test (suc n) ds)

-- what stands at a key: the items of an array, and the bytes of a string
abbrev pub items_at : Option Data → Items
items_at (Some (array ds)) = ds
items_at _ = no_items

abbrev pub text_at : Option Data → List ℕ
text_at (Some (string s)) = s
text_at _ = []

-- the items of the array at a key
abbrev pub array_at : Key → Members → Items
array_at key ms = items_at (get_member (key_text key) ms)

-- The format of a tree: 2 where its `format` is the integer 2, and else 1. A tree of the form has the integer 1 or 2 there.
abbrev pub format_in : Option Data → ℕ
format_in (Some (integer (pos n))) = if nat_eq n 2 then 2 else 1
format_in _ = 1

abbrev pub format_of : Members → ℕ
format_of ms = format_in (get_member (key_text Format) ms)

-- ---- the forms of values

-- the name of a rule: letters, digits, `_` and `-`, the first a letter or `_`
abbrev pub is_rule_byte : ℕ → Bool
is_rule_byte b = is_name_byte b || nat_eq b 45

abbrev pub is_rule_name : List ℕ → Bool
is_rule_name [] = false
is_rule_name (b ∷ rest) = is_name_start b && list_all is_rule_byte rest

-- the kinds of primitives
abbrev pub is_kind : List ℕ → Bool
is_kind s = (bytes_eq s (codes "limit") || bytes_eq s (codes "enter")) || bytes_eq s (codes "split")

-- what follows a refusal
abbrev pub is_answer : List ℕ → Bool
is_answer s = bytes_eq s (codes "go") || bytes_eq s (codes "stop")

-- what an item of a key's array is: whether a right or a test is known comes later
abbrev pub is_item : Key → Data → Bool
is_item Refusable (string s) = is_kind s
is_item Split (string s) = is_name s
is_item Detached (string s) = is_name s
is_item Descriptors (table ms) = true
is_item Limits (table ms) = true
is_item Ats (table ms) = true
is_item Rules (table ms) = true
is_item Rights (string s) = true
is_item Keep (string s) = true
is_item Must (string s) = true
is_item Never (string s) = true
is_item _ _ = false

-- the keys whose value is no array, and what it is
abbrev pub is_single : Key → Bool
is_single Format = true
is_single OnRefusal = true
is_single Name = true
is_single Of = true
is_single Label = true
is_single RuleName = true
is_single Bad = true
is_single _ = false

abbrev pub is_value : Key → Data → Bool
is_value Format (integer (pos n)) = nat_eq n 1 || nat_eq n 2
is_value OnRefusal (string s) = is_answer s
is_value Name (string s) = is_descriptor s
is_value Of (string s) = true
is_value Label (string s) = is_name s
is_value RuleName (string s) = is_rule_name s
is_value Bad (string s) = true
is_value _ _ = false

-- the number of an item of another form
abbrev pub wrong_item : Key → ℕ → Data → Option ℕ
wrong_item key n d = if is_item key d then None else Some n

abbrev pub wrong_array : Key → Data → Option ℕ
wrong_array key (array ds) = first_in (wrong_item key) 1 ds
wrong_array key _ = Some 0

-- None where the value has the key's form, 0 for the value itself, and from 1 on the first item that hasn't its form
abbrev pub wrong : Key → Data → Option ℕ
wrong key d = if is_single key then (if is_value key d then None else Some 0) else wrong_array key d

-- ---- one table

abbrev pub is_missing : Key → Members → Bool
is_missing key ms = is_required key && is_none (get_member (key_text key) ms)

abbrev pub missing_key : List Key → Members → Option Key
missing_key [] ms = None
missing_key (key ∷ keys) ms = if is_missing key ms then Some key else missing_key keys ms

-- the text is that of a key that the format knows
abbrev pub is_listed : ℕ → List Key → List ℕ → Bool
is_listed format [] text = false
is_listed format (key ∷ keys) text = (is_known format key && bytes_eq text (key_text key)) || is_listed format keys text

abbrev pub has_only : ℕ → List Key → Members → Bool
has_only format keys no_members = true
has_only format keys (member text d rest) = is_listed format keys text && has_only format keys rest

abbrev pub wrong_at : Key → Option Data → Option ℕ
wrong_at key None = None
wrong_at key (Some d) = wrong key d

abbrev pub or_wrong : Key → Option ℕ → Option (Key × ℕ) → Option (Key × ℕ)
or_wrong key (Some n) later = Some (key, n)
or_wrong key None later = later

abbrev pub wrong_key : List Key → Members → Option (Key × ℕ)
wrong_key [] ms = None
wrong_key (key ∷ keys) ms = or_wrong key (wrong_at key (get_member (key_text key) ms)) (wrong_key keys ms)

-- Missing for required keys in order, then Unknown where a key isn't listed, then Kind for each key in order
abbrev pub fault_of : Section → ℕ → Option Key → Bool → Option (Key × ℕ) → Option PolicyFault
fault_of section index (Some key) only later = Some (Missing (path section index (key_number key) 0))
fault_of section index None false later = Some (Unknown (path section index 0 0))
fault_of section index None true (Some w) = Some (Kind (path section index (key_number w.0) w.1))
fault_of section index None true None = None

unfoldable pub table_fault : ℕ → Section → ℕ → Members → Option PolicyFault
table_fault format section index ms = fault_of section index (missing_key (keys_of section) ms) (has_only format (keys_of section) ms) (wrong_key (keys_of section) ms)

-- ---- table by table

abbrev pub element_fault : ℕ → Section → ℕ → Data → Option PolicyFault
element_fault format section index (table ms) = table_fault format section index ms
element_fault format section index _ = None

abbrev pub array_fault : ℕ → Section → Items → Option PolicyFault
array_fault format section ds = first_in (element_fault format section) 0 ds

-- the root first, then the arrays in their order
unfoldable pub form_fault : Members → Option PolicyFault
form_fault ms =
    let format = format_of ms in
    or_else (table_fault format Root 0 ms)
    (or_else (array_fault format Descriptor (array_at Descriptors ms))
    (or_else (array_fault format Limit (array_at Limits ms))
    (or_else (array_fault format At (array_at Ats ms))
    (array_fault format Rule (array_at Rules ms)))))
