-- The line of a refusal.
use Rattle.std.specs.Prelude.{ℕ, ◌-◌, List, [], ◌++◌, codes, Option, Some, None, slice_get, if◌then◌else◌, nat_eq}
use Rattle.std.specs.Fmt.{decimal}
use Rattle.cw_core.specs.Quantities as quantities
use Rattle.cw_regex.specs.declared.read.RegexFault.{RegexFault}
use Rattle.cw_regex.specs.declared.read.RegexFault.TheVariants.{At as At', UnknownDescriptor, UnknownRight, TooDeep, NoMemory as NoMemory'}
use Rattle.cw_policy.specs.declared.fault.Path.{Path}
use Rattle.cw_policy.specs.declared.fault.PolicyFault.{PolicyFault}
use Rattle.cw_policy.specs.declared.fault.PolicyFault.TheVariants.{Toml, Missing, Unknown, Kind, Regex, Limit as TooMany, Twice, NoMemory}
use Rattle.cw_policy.specs.declared.keys.Section.{Section}
use Rattle.cw_policy.specs.declared.keys.Section.TheVariants.{Root, Descriptor, Limit, At, Rule}
use Rattle.cw_policy.specs.declared.keys.Key.{Key}
use Rattle.cw_policy.specs.Keys.{keys_of, key_text}

-- the section with this number
abbrev pub section_of : ℕ → Section
section_of n = if nat_eq n 0 then Root else if nat_eq n 1 then Descriptor else if nat_eq n 2 then Limit else if nat_eq n 3 then At else Rule

abbrev pub section_text : Section → List ℕ
section_text Root = codes "root"
section_text Descriptor = codes "descriptor"
section_text Limit = codes "limit"
section_text At = codes "at"
section_text Rule = codes "rule"

abbrev pub in_brackets : ℕ → List ℕ
in_brackets n = codes "[" ++ decimal n ++ codes "]"

abbrev pub text_of_key : Option Key → List ℕ
text_of_key None = []
text_of_key (Some key) = key_text key

-- the text of the key that has this number in its table's list, from 1
abbrev pub key_named : Section → ℕ → List ℕ
key_named section key = text_of_key (slice_get (keys_of section) (key - 1))

-- `[2]` for the item with the number 3, and nothing for 0
abbrev pub item_text : ℕ → List ℕ
item_text item = if nat_eq item 0 then [] else in_brackets (item - 1)

-- A path: `root`, `format`, `split[2]`, `limit[1]`, `limit[1].keep`, `limit[1].keep[0]`.
abbrev pub root_key : ℕ → List ℕ
root_key key = if nat_eq key 0 then codes "root" else key_named Root key

abbrev pub dotted_key : Section → ℕ → List ℕ
dotted_key section key = if nat_eq key 0 then [] else codes "." ++ key_named section key

abbrev pub table_key : Section → ℕ → ℕ → List ℕ
table_key section index key = section_text section ++ in_brackets index ++ dotted_key section key

abbrev pub key_part : Section → ℕ → ℕ → List ℕ
key_part Root index key = root_key key
key_part section index key = table_key section index key

abbrev pub path_text : Path → List ℕ
path_text path = key_part (section_of path.array) path.index path.key ++ item_text path.item

abbrev pub at_path : List ℕ → Path → List ℕ
at_path reason path = reason ++ path_text path

-- an expression that is refused
unfoldable pub rule_text : ℕ → List ℕ
rule_text index = codes "policy: regex rule" ++ in_brackets index

abbrev pub refused : ℕ → List ℕ → ℕ → List ℕ
refused index reason at = rule_text index ++ reason ++ decimal at

abbrev pub regex_text : ℕ → RegexFault → List ℕ
regex_text index (At' at) = refused index (codes " at ") at
regex_text index (UnknownDescriptor at) = refused index (codes " descriptor ") at
regex_text index (UnknownRight at) = refused index (codes " right ") at
regex_text index TooDeep = codes "limit: nesting"
regex_text index NoMemory' = codes "memory"

-- The line of a refusal, without its end.
abbrev pub fault_line : PolicyFault → List ℕ
fault_line Toml = codes "policy: toml"
fault_line (Missing path) = at_path (codes "policy: missing ") path
fault_line (Unknown path) = at_path (codes "policy: unknown ") path
fault_line (Kind path) = at_path (codes "policy: kind ") path
fault_line (Regex index fault) = regex_text index fault
fault_line (TooMany quantity) = codes "limit: " ++ quantities.name_of quantity
fault_line (Twice path) = at_path (codes "policy: twice ") path
fault_line NoMemory = codes "memory"
