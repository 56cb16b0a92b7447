-- Working definitions: what stands at a place of a text.
use Rattle.std.specs.Prelude.{◌≡◌, ℕ, ◌+◌, ◌-◌, ◌≤◌, List, ◌∷◌, ◌++◌, true, false, take, drop, length}
use Rattle.std.specs.List.{list_all}
use Rattle.cw_rights.specs.Valid.{is_name_byte}
use Rattle.cw_regex.specs.declared.text.Front.{Front}
use Rattle.cw_regex.specs.declared.text.Front.TheVariants.{Blank, Identifier, Sign as SignFront}
use Rattle.cw_regex.specs.declared.text.Sign.{Sign}
use Rattle.cw_regex.specs.Parts.{is_blank, sign_of, begins_identifier}

pub record IsBlankAt (text : List ℕ) (at : ℕ) : Type 0 where
  pub byte : ℕ
  pub cut : drop at text ≡ byte ∷ drop (at + 1) text
  pub blank : is_blank byte ≡ true

pub record IsSignAt (text : List ℕ) (at : ℕ) (m : Sign) : Type 0 where
  pub byte : ℕ
  pub cut : drop at text ≡ byte ∷ drop (at + 1) text
  pub no_blank : is_blank byte ≡ false
  pub no_identifier : is_name_byte byte ≡ false
  pub is : m ≡ sign_of byte

-- an identifier up to a place, where it ends
pub record IsIdentifierAt (text : List ℕ) (at end : ℕ) : Type 0 where
  pub first : ℕ
  pub more : List ℕ
  pub identifier : take (end - at) (drop at text) ≡ first ∷ more
  pub cut : drop at text ≡ (first ∷ more) ++ drop end text
  pub bytes : list_all is_name_byte (first ∷ more) ≡ true
  pub stop : begins_identifier (drop end text) ≡ false
  pub far : end ≡ at + length (first ∷ more)
  pub within : end ≤ length text

abbrev pub IsFront : List ℕ → ℕ → Front → Type 0
IsFront text at Blank = IsBlankAt text at
IsFront text at (Identifier end) = IsIdentifierAt text at end
IsFront text at (SignFront m) = IsSignAt text at m
