-- The lines of a trace, each by the data that it tells. Public source: cap_enter(2) and cap_rights_limit(2) for what is tried.
use Rattle.std.specs.Prelude.{ℕ, ◌/◌, ◌%◌, List, [], ◌∷◌, ◌++◌, Bool, true, false, cond, nat_lt, codes}
use Rattle.std.specs.Char.{digit_char}
use Rattle.std.specs.Fmt.{decimal}
use Rattle.cw_rights.specs.declared.capabilities.Hold.{Hold}
use Rattle.cw_rights.specs.declared.capabilities.Hold.TheVariants.{Closed, Open}
use Rattle.cw_rights.specs.declared.capabilities.Caps.{Caps}
use Rattle.cw_rights.specs.declared.capabilities.Primitive.{Primitive}
use Rattle.cw_rights.specs.declared.capabilities.Primitive.TheVariants.{Limit, Enter, Split}
use Rattle.cw_rights.specs.Capabilities.{hold_of}
use Rattle.cw_rights.specs.Policies.{PlainDescriptor}
use Rattle.cw_text.specs.RowLines.{numbered}
use Rattle.cw_text.specs.Lines.{line}

-- a primitive by its stage: the limits are tried first, in the order of the policy
abbrev pub primitive_text : ℕ → Primitive → List ℕ
primitive_text stage (Limit limit) = codes "limit" ++ decimal stage
primitive_text stage Enter = codes "enter"
primitive_text stage Split = codes "split"

abbrev pub answer_text : Bool → List ℕ
answer_text true = codes "granted"
answer_text false = codes "refused"

-- `try SEAM PRIMITIVE granted` or `refused`
unfoldable pub try_line : (seam stage : ℕ) → Primitive → (granted : Bool) → List ℕ
try_line seam stage a granted = line (codes "try " ++ (decimal seam ++ (codes " " ++ (primitive_text stage a ++ (codes " " ++ answer_text granted)))))

-- `stop SEAM`: the weaver ends the program
unfoldable pub stop_line : (seam : ℕ) → List ℕ
stop_line seam = line (codes "stop " ++ decimal seam)

abbrev pub success_text : Bool → List ℕ
success_text true = codes " opened"
success_text false = codes " failed"

-- `open NAME opened` or `failed`
unfoldable pub open_line : (name : List ℕ) → (opened : Bool) → List ℕ
open_line name opened = line (codes "open " ++ (name ++ success_text opened))

-- `close NAME`
unfoldable pub close_line : (name : List ℕ) → List ℕ
close_line name = line (codes "close " ++ name)

abbrev pub mode_text : Bool → List ℕ
mode_text true = codes " split"
mode_text false = []

-- `call NAME`, and `split` where it runs in a process of its own
unfoldable pub call_line : (name : List ℕ) → (split : Bool) → List ℕ
call_line name split = line (codes "call " ++ (name ++ mode_text split))

-- `return NAME`, the function that ends
unfoldable pub return_line : (name : List ℕ) → List ℕ
return_line name = line (codes "return " ++ name)

-- rights in lower-case hexadecimal: three digits, and four where three are too few
abbrev pub rights_text : ℕ → List ℕ
rights_text rights =
    cond (nat_lt rights 4096) [] (digit_char (rights / 4096) ∷ [])
    ++ digit_char (rights / 256 % 16) ∷ digit_char (rights / 16 % 16) ∷ digit_char (rights % 16) ∷ []

abbrev pub hold_text : Hold → List ℕ
hold_text Closed = codes "closed"
hold_text (Open rights) = rights_text rights.0

-- ` NAME=closed`, or the rights that are held
abbrev pub held_text : Caps → ℕ → PlainDescriptor → List ℕ
held_text caps number descriptor = codes " " ++ (descriptor.name ++ (codes "=" ++ hold_text (hold_of caps number)))

-- whether there is ambient authority, or the process is in capability mode
abbrev pub authority_text : Bool → List ℕ
authority_text true = codes "amb"
authority_text false = codes "cap"

unfoldable pub caps_text : List PlainDescriptor → Caps → List ℕ
caps_text descriptors caps = authority_text caps.amb ++ numbered (held_text caps) descriptors

-- `label NAME CAPS`
unfoldable pub label_line : List PlainDescriptor → (name : List ℕ) → Caps → List ℕ
label_line descriptors name caps = line (codes "label " ++ (name ++ (codes " " ++ caps_text descriptors caps)))
