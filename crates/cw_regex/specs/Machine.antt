-- Working definitions: what may come after what was read: the phase, and how many parentheses are open.
use Rattle.std.specs.Prelude.{ℕ, zero, suc, ◌+◌, ◌-◌, max, List, [], ◌∷◌, Bool, true, false, ◌&&◌, cond, nat_eq, Option, Some, None, option_and_then}
use Rattle.std.specs.Option.{option_map}
use Rattle.std.specs.Str.{bytes_eq}
use Rattle.cw_rights.specs.Valid.{is_name}
use Rattle.cw_regex.specs.declared.text.Sign.{Sign}
use Rattle.cw_regex.specs.declared.text.Sign.TheVariants.{Dot, ParenOpen, ParenClose, Bar, Star, Plus, Question, BracketOpen, BracketClose, Bang, Colon as ColonSign, Comma}
use Rattle.cw_regex.specs.declared.phase.Phase.{Phase}
use Rattle.cw_regex.specs.declared.phase.Phase.TheVariants.{Begin, Label, Whole, Repeated, Test, Negated, Ambient, Descriptor, Colon, Right}
use Rattle.cw_regex.specs.Parts.{Part, identifier, sign}
use Rattle.cw_regex.specs.Grammar.{is_digit, is_descriptor, amb, IsExpression, IsTest}

abbrev pub in_test : List ℕ → Option Phase
in_test w = cond (bytes_eq w amb) (Some Ambient) (cond (is_descriptor w) (Some Descriptor) None)

abbrev pub step_identifier : Phase → List ℕ → Option Phase
step_identifier Begin w = cond (is_name w) (Some Label) None
step_identifier Label w = cond (is_name w) (Some Label) None
step_identifier Whole w = cond (is_name w) (Some Label) None
step_identifier Repeated w = cond (is_name w) (Some Label) None
step_identifier Test w = in_test w
step_identifier Negated w = in_test w
step_identifier Colon w = cond (is_name w) (Some Right) None
step_identifier Ambient w = None
step_identifier Descriptor w = None
step_identifier Right w = None

-- a sign that isn't a parenthesis; `alone`: a test by itself, which no `,` or `]` follows
abbrev pub step_sign : Bool → Phase → Sign → Option Phase
step_sign alone Begin Dot = Some Label
step_sign alone Label Dot = Some Label
step_sign alone Label Bar = Some Begin
step_sign alone Label Star = Some Repeated
step_sign alone Label Plus = Some Repeated
step_sign alone Label Question = Some Repeated
step_sign alone Label BracketOpen = Some Test
step_sign alone Whole Dot = Some Label
step_sign alone Whole Bar = Some Begin
step_sign alone Whole Star = Some Repeated
step_sign alone Whole Plus = Some Repeated
step_sign alone Whole Question = Some Repeated
step_sign alone Repeated Dot = Some Label
step_sign alone Repeated Bar = Some Begin
step_sign alone Test Bang = Some Negated
step_sign alone Ambient ColonSign = Some Colon
step_sign alone Descriptor ColonSign = Some Colon
step_sign false Ambient Comma = Some Test
step_sign false Ambient BracketClose = Some Whole
step_sign false Right Comma = Some Test
step_sign false Right BracketClose = Some Whole
step_sign alone q m = None

-- an atom may come; an expression may end
abbrev pub takes_atom : Phase → Bool
takes_atom Begin = true
takes_atom Label = true
takes_atom Whole = true
takes_atom Repeated = true
takes_atom q = false

abbrev pub is_end : Phase → Bool
is_end Label = true
is_end Whole = true
is_end Repeated = true
is_end q = false

-- a test by itself may end
abbrev pub is_test_end : Phase → Bool
is_test_end Ambient = true
is_test_end Right = true
is_test_end q = false

abbrev pub closed_one : ℕ → Option (Phase × ℕ)
closed_one zero = None
closed_one (suc d) = Some (Whole, d)

abbrev pub step : Bool → Phase → ℕ → Part → Option (Phase × ℕ)
step alone q d (identifier w) = option_map (λ r. (r, d)) (step_identifier q w)
step alone q d (sign ParenOpen) = cond (takes_atom q) (Some (Begin, d + 1)) None
step alone q d (sign ParenClose) = cond (is_end q) (closed_one d) None
step alone q d (sign m) = option_map (λ r. (r, d)) (step_sign alone q m)

abbrev pub run : Bool → Phase → ℕ → List Part → Option (Phase × ℕ)
run alone q d [] = Some (q, d)
run alone q d (p ∷ rest) = option_and_then (λ s. run alone s.0 s.1 rest) (step alone q d p)

-- how many parentheses are open at most
abbrev pub deepest : ℕ → List Part → ℕ
deepest d [] = d
deepest d (identifier w ∷ rest) = deepest d rest
deepest d (sign ParenOpen ∷ rest) = max d (deepest (d + 1) rest)
deepest d (sign ParenClose ∷ rest) = max d (deepest (d - 1) rest)
deepest d (sign m ∷ rest) = deepest d rest

-- a test may come, after `!` or not
abbrev pub is_test_start : Phase → Bool
is_test_start Test = true
is_test_start Negated = true
is_test_start q = false

-- a digit that may name a descriptor, where a test may come
abbrev pub kept : Phase → ℕ → Bool
kept q c = is_test_start q && is_digit (c ∷ [])

-- an expression, or a test by itself
abbrev pub In : Bool → List ℕ → Type 0
In true text = IsTest text
In false text = IsExpression text

abbrev pub start : Bool → Phase
start true = Test
start false = Begin

abbrev pub ends_here : Bool → Phase → ℕ → Bool
ends_here true q d = is_test_end q
ends_here false q d = is_end q && nat_eq d 0
