-- Where the statements of a function begin.
use Rattle.std.specs.Prelude.{◌≡◌, ℕ, ◌+◌, ◌≤◌, List, [], ◌∷◌, length, Some, slice_get, find}
use Rattle.cw_syntax.specs.Trees.{Statement, Stated, Definition, File}
use Rattle.cw_source.specs.Read.{ReadsAs}
use Rattle.cw_value.specs.Deeds.{said_all, begins_at, form_of, form_at}

abbrev pub start_of : Statement → ℕ
start_of (Stated form from to) = from

-- these statements begin between two places, each behind the one before
abbrev pub Ascend : ℕ → ℕ → List Statement → Type 0
Ascend from to [] = from ≤ to
Ascend from to (s ∷ ss) = (from ≤ start_of s) × Ascend (start_of s + 1) to ss

-- In each function of a program that is read the statements begin at places that ascend strictly.
abbrev pub StatementsAscend : Type 0
StatementsAscend = (source : List ℕ) (file : File) (n : ℕ) (f : Definition) → ReadsAs source file → slice_get file.functions n ≡ Some f → Ascend 0 (length source) (said_all f.body)

-- So the statement that begins at the place of one is that one.
abbrev pub StatementsAreFound : Type 0
StatementsAreFound = (source : List ℕ) (file : File) (n : ℕ) (f : Definition) (i : ℕ) (s : Statement) → ReadsAs source file → slice_get file.functions n ≡ Some f → slice_get (said_all f.body) i ≡ Some s
    → (find (begins_at (start_of s)) (said_all f.body) ≡ Some s) × (form_at f (start_of s) ≡ Some (form_of s))
