-- The parts of a text: longest runs of letters, digits and `_`, and each other byte that is no blank.
use Rattle.std.specs.Prelude.{ℕ, ◌+◌, List, [], ◌∷◌, Bool, true, false, ◌||◌, cond, nat_eq}
use Rattle.cw_rights.specs.Valid.{is_name_byte}
use Rattle.cw_regex.specs.declared.text.Sign.{Sign}
use Rattle.cw_regex.specs.declared.text.Sign.TheVariants.{Dot, ParenOpen, ParenClose, Bar, Star, Plus, Question, BracketOpen, BracketClose, Bang, Colon, Comma, Other}

-- A part of a text: a longest run of letters, digits and `_`, or one other byte that is no blank.
pub data Part : Type 0 where
  identifier : List ℕ → Part
  sign : Sign → Part

-- a space or a TAB
abbrev pub is_blank : ℕ → Bool
is_blank b = nat_eq b 32 || nat_eq b 9

abbrev pub sign_of : ℕ → Sign
sign_of b =
    cond (nat_eq b 46) Dot (cond (nat_eq b 40) ParenOpen (cond (nat_eq b 41) ParenClose (cond (nat_eq b 124) Bar (
    cond (nat_eq b 42) Star (cond (nat_eq b 43) Plus (cond (nat_eq b 63) Question (cond (nat_eq b 91) BracketOpen (
    cond (nat_eq b 93) BracketClose (cond (nat_eq b 33) Bang (cond (nat_eq b 58) Colon (cond (nat_eq b 44) Comma Other)))))))))))

abbrev pub begins_identifier : List ℕ → Bool
begins_identifier [] = false
begins_identifier (b ∷ rest) = is_name_byte b

-- a byte of an identifier before the parts after it; `more`: the identifier goes on
abbrev pub grown : ℕ → Bool → List Part → List Part
grown b true (identifier w ∷ rest) = identifier (b ∷ w) ∷ rest
grown b true (sign m ∷ rest) = identifier (b ∷ []) ∷ sign m ∷ rest
grown b true [] = identifier (b ∷ []) ∷ []
grown b false rest = identifier (b ∷ []) ∷ rest

abbrev pub parts : List ℕ → List Part
parts [] = []
parts (b ∷ rest) = cond (is_blank b) (parts rest) (cond (is_name_byte b) (grown b (begins_identifier rest) (parts rest)) (sign (sign_of b) ∷ parts rest))

-- the parts with their places, the text beginning at n
pub record Placed : Type 0 where
  pub at : ℕ
  pub part : Part

abbrev pub grown_at : ℕ → ℕ → Bool → List Placed → List Placed
grown_at n b false rest = record { at = n; part = identifier (b ∷ []) } ∷ rest
grown_at n b true [] = record { at = n; part = identifier (b ∷ []) } ∷ []
grown_at n b true (p ∷ rest) = joined p.part
  where
    joined : Part → List Placed
    joined (identifier w) = record { at = n; part = identifier (b ∷ w) } ∷ rest
    joined (sign m) = record { at = n; part = identifier (b ∷ []) } ∷ p ∷ rest

abbrev pub placed : ℕ → List ℕ → List Placed
placed n [] = []
placed n (b ∷ rest) = cond (is_blank b) (placed (n + 1) rest) (cond (is_name_byte b) (grown_at n b (begins_identifier rest) (placed (n + 1) rest))
    (record { at = n; part = sign (sign_of b) } ∷ placed (n + 1) rest))

-- blanks stand between parts, neither before the first nor after the last
abbrev pub starts_blank : List ℕ → Bool
starts_blank [] = false
starts_blank (b ∷ rest) = is_blank b

abbrev pub ends_blank : List ℕ → Bool
ends_blank [] = false
ends_blank (b ∷ []) = is_blank b
ends_blank (b ∷ (c ∷ rest)) = ends_blank (c ∷ rest)
