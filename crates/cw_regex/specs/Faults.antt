-- The first name from the left that isn't known: an identifier before `:` names a descriptor, one after it a right.
use Rattle.std.specs.Prelude.{ℕ, List, [], ◌∷◌, Bool, true, false, ◌&&◌, cond, not, Option, Some, None}
use Rattle.std.specs.List.{list_any}
use Rattle.std.specs.Str.{bytes_eq}
use Rattle.cw_regex.specs.declared.text.Sign.{Sign}
use Rattle.cw_regex.specs.declared.text.Sign.TheVariants.{Colon}
use Rattle.cw_regex.specs.declared.unknown.Unknown.{Unknown}
use Rattle.cw_regex.specs.declared.unknown.Unknown.TheVariants.{Descriptor, Right}
use Rattle.cw_regex.specs.Parts.{Part, identifier, sign, Placed}
use Rattle.cw_regex.specs.Meaning.{is_right}

abbrev pub is_known : List (List ℕ) → List ℕ → Bool
is_known names w = list_any (bytes_eq w) names

abbrev pub is_colon : Sign → Bool
is_colon Colon = true
is_colon m = false

abbrev pub is_colon_part : Part → Bool
is_colon_part (identifier w) = false
is_colon_part (sign m) = is_colon m

abbrev pub colon_next : List Placed → Bool
colon_next [] = false
colon_next (p ∷ rest) = is_colon_part p.part

-- `after`: the part before was `:`
abbrev pub unknown_identifier : ℕ → List (List ℕ) → Bool → Bool → ℕ → List ℕ → Option Unknown
unknown_identifier format descriptors true before n w = cond (is_right format w) None (Some (Right n))
unknown_identifier format descriptors false before n w = cond (before && not (is_known descriptors w)) (Some (Descriptor n)) None

abbrev pub unknown_part : ℕ → List (List ℕ) → Bool → Bool → ℕ → Part → Option Unknown
unknown_part format descriptors after before n (identifier w) = unknown_identifier format descriptors after before n w
unknown_part format descriptors after before n (sign m) = None

abbrev pub or_else : Option Unknown → Option Unknown → Option Unknown
or_else None o = o
or_else (Some u) o = Some u

abbrev pub first_unknown : ℕ → List (List ℕ) → Bool → List Placed → Option Unknown
first_unknown format descriptors after [] = None
first_unknown format descriptors after (p ∷ rest) =
    or_else (unknown_part format descriptors after (colon_next rest) p.at p.part) (first_unknown format descriptors (is_colon_part p.part) rest)

abbrev pub place_of : Unknown → ℕ
place_of (Descriptor n) = n
place_of (Right n) = n
