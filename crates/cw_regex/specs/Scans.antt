-- Working definitions: how far a scan of a text has come.
use Rattle.std.specs.Prelude.{◌≡◌, ℕ, ◌≤◌, max, List, [], ◌∷◌, ◌++◌, Bool, true, false, ◌&&◌, Some, take, drop, length}
use Rattle.cw_regex.specs.declared.phase.Phase.{Phase}
use Rattle.cw_regex.specs.declared.phase.Phase.TheVariants.{Right}
use Rattle.cw_regex.specs.declared.scan.Scanned.{Scanned}
use Rattle.cw_rights.specs.Valid.{is_name_byte}
use Rattle.cw_regex.specs.Parts.{begins_identifier, parts, starts_blank, ends_blank}
use Rattle.cw_regex.specs.Machine.{run, start, deepest}

-- whether the last byte is one of an identifier
abbrev pub ends_identifier : List ℕ → Bool
ends_identifier [] = false
ends_identifier (b ∷ []) = is_name_byte b
ends_identifier (b ∷ (c ∷ s)) = ends_identifier (c ∷ s)

-- no identifier goes on from the one side into the other
abbrev pub Apart : List ℕ → List ℕ → Type 0
Apart s t = (ends_identifier s && begins_identifier t) ≡ false

-- a test by itself may not go on after its right, not even by blanks
abbrev pub May : Bool → Phase → List ℕ → Type 0
May alone q s = alone ≡ true → q ≡ Right → ends_blank s ≡ false

abbrev pub is_held : Bool → Phase → Bool
is_held true Right = true
is_held alone q = false

-- s was read, t is left
pub record Scan (alone : Bool) (s t : List ℕ) (q : Phase) (d most : ℕ) : Type 0 where
  pub runs : run alone (start alone) 0 (parts s) ≡ Some (q, d)
  pub apart : Apart s t
  pub front : starts_blank s ≡ false
  pub may : May alone q s
  pub deep : max most (deepest d (parts t)) ≡ deepest 0 (parts (s ++ t))
  pub within : d ≤ most
  pub few : most ≤ length s

pub record ScanAt (alone : Bool) (text : List ℕ) (x : Scanned) : Type 0 where
  pub far : x.at ≤ length text
  pub is : Scan alone (take x.at text) (drop x.at text) x.phase x.depth x.most
