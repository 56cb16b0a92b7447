-- The tables of a policy and their keys.
use Rattle.std.specs.Prelude.{ℕ, min, List, [], ◌∷◌, codes, Bool, true, false, nat_eq}
use Rattle.cw_policy.specs.declared.fault.Path.{Path}
use Rattle.cw_policy.specs.declared.keys.Section.{Section}
use Rattle.cw_policy.specs.declared.keys.Section.TheVariants.{Root, Descriptor, Limit, At, Rule}
use Rattle.cw_policy.specs.declared.keys.Key.{Key}
use Rattle.cw_policy.specs.declared.keys.Key.TheVariants.{Format, Refusable, Split, OnRefusal, Detached, Descriptors, Limits, Ats, Rules, Name, Rights, Of, Keep, Label, Must, Never, RuleName, Bad}

-- the root, and the arrays of tables from 1 in their order
abbrev pub section_number : Section → ℕ
section_number Root = 0
section_number Descriptor = 1
section_number Limit = 2
section_number At = 3
section_number Rule = 4

-- the keys of each kind of table in their order; the required ones come first
abbrev pub keys_of : Section → List Key
keys_of Root = Format ∷ Refusable ∷ Split ∷ OnRefusal ∷ Detached ∷ Descriptors ∷ Limits ∷ Ats ∷ Rules ∷ []
keys_of Descriptor = Name ∷ Rights ∷ []
keys_of Limit = Of ∷ Keep ∷ []
keys_of At = Label ∷ Must ∷ Never ∷ []
keys_of Rule = RuleName ∷ Bad ∷ []

-- the keys that a format knows: `detached` is known in format 2 alone, all others in both
abbrev pub is_known : ℕ → Key → Bool
is_known format Detached = nat_eq format 2
is_known format _ = true

-- a key's number in its table's list, from 1; in format 1 no key has the number of `detached`
abbrev pub key_number : Key → ℕ
key_number Format = 1
key_number Refusable = 2
key_number Split = 3
key_number OnRefusal = 4
key_number Detached = 5
key_number Descriptors = 6
key_number Limits = 7
key_number Ats = 8
key_number Rules = 9
key_number Name = 1
key_number Rights = 2
key_number Of = 1
key_number Keep = 2
key_number Label = 1
key_number Must = 2
key_number Never = 3
key_number RuleName = 1
key_number Bad = 2

abbrev pub key_text : Key → List ℕ
key_text Format = codes "format"
key_text Refusable = codes "refusable"
key_text Split = codes "split"
key_text OnRefusal = codes "on_refusal"
key_text Detached = codes "detached"
key_text Descriptors = codes "descriptor"
key_text Limits = codes "limit"
key_text Ats = codes "at"
key_text Rules = codes "rule"
key_text Name = codes "name"
key_text Rights = codes "rights"
key_text Of = codes "descriptor"
key_text Keep = codes "keep"
key_text Label = codes "label"
key_text Must = codes "must"
key_text Never = codes "never"
key_text RuleName = codes "name"
key_text Bad = codes "bad"

abbrev pub is_required : Key → Bool
is_required Format = true
is_required Name = true
is_required Of = true
is_required Keep = true
is_required Label = true
is_required RuleName = true
is_required Bad = true
is_required _ = false

-- A number as a path holds it. No text of 65,536 bytes has so many tables or items that it matters.
abbrev pub narrow : ℕ → ℕ
narrow n = min n 4294967295

-- the path of a table (key 0), of a key's value (item 0), or of an item of it, counted from 1
abbrev pub path : Section → ℕ → ℕ → ℕ → Path
path section index key within = record { array = section_number section; index = narrow index; key = key; item = narrow within }
