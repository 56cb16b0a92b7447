-- Texts made of lines: what a line says, the lines in a row, and the first that doesn't fit. A line has its fields with a space between each two, and LF.
use Rattle.std.specs.Prelude.{◌≡◌, ◌≢◌, ℕ, ◌+◌, List, [], ◌∷◌, ◌++◌, length, Option}
use Rattle.std.specs.List.{All, flat_map}
use Rattle.cw_text.specs.Lines.{IsFree, line, joined, Reads}

-- the text of a line without its LF, the line with it, and such lines in a row
abbrev pub line_text : {A : Type 0} → (A → List (List ℕ)) → A → List ℕ
line_text fields_in said = joined 32 (fields_in said)

abbrev pub whole_line : {A : Type 0} → (A → List (List ℕ)) → A → List ℕ
whole_line fields_in said = line (line_text fields_in said)

abbrev pub whole_lines : {A : Type 0} → (A → List (List ℕ)) → List A → List ℕ
whole_lines fields_in said = flat_map (whole_line fields_in) said

-- the text begins with the line that says this, and this is behind it
pub record StartsWith {A : Type 0} (Fits : A → Type 0) (fields_in : A → List (List ℕ)) (text : List ℕ) (said : A) (rest : List ℕ) : Type 0 where
  pub fits : Fits said
  pub spelled : text ≡ whole_line fields_in said ++ rest

-- a text begins with no such line
abbrev pub StartsWithNone : {A : Type 0} → (A → Type 0) → (A → List (List ℕ)) → List ℕ → Type 0
StartsWithNone {A} Fits fields_in text = (said : A) (rest : List ℕ) → StartsWith Fits fields_in text said rest → ⊥

-- these lines are the first of some that are whole
abbrev pub IsFront : {A : Type 0} → (List A → Type 0) → List A → Type 0
IsFront {A} IsWhole before = (more : List A) × IsWhole (before ++ more)

-- The line with this number, from 1, is the first that doesn't fit: the lines before it are the first of some whole ones, none of those that may come next is what the text goes on with, and the text doesn't end where they are whole.
pub record IsFirstOther {A : Type 0} (IsWhole : List A → Type 0) (fields_in : A → List (List ℕ)) (text : List ℕ) (number : ℕ) : Type 0 where
  pub before : List A
  pub rest : List ℕ
  pub front : IsFront IsWhole before
  pub stands : text ≡ whole_lines fields_in before ++ rest
  pub counted : number ≡ length before + 1
  pub other : (next : A) (after : List ℕ) → IsFront IsWhole (before ++ next ∷ []) → rest ≢ whole_line fields_in next ++ after
  pub goes_on : IsWhole before → rest ≢ []

-- Fields tell what a line says: there is one, none has a space or LF, and two lines that fit differ in their fields.
pub record Tell {A : Type 0} (Fits : A → Type 0) (fields_in : A → List (List ℕ)) : Type 0 where
  pub some : (said : A) → fields_in said ≢ []
  pub spaceless : (said : A) → Fits said → All (IsFree 32) (fields_in said)
  pub one_line : (said : A) → Fits said → All (IsFree 10) (fields_in said)
  pub same : (a b : A) → Fits a → Fits b → fields_in a ≡ fields_in b → a ≡ b

-- of any fields it can be told whether they are those of a line that fits
abbrev pub AreDecided : {A : Type 0} → (A → Type 0) → (A → List (List ℕ)) → Type 0
AreDecided {A} Fits fields_in = (fields : List (List ℕ)) → (read : Option A) × Reads Fits fields_in fields read
