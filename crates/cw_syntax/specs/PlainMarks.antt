-- Marks that spell no slash, and needles that stand nowhere in a text.
use Rattle.std.specs.Prelude.{◌≡◌, ℕ, nat_eq, false, List, drop, Some, codes}
use Rattle.std.specs.List.{All, starts_with}
use Rattle.cw_syntax.specs.Names.{text}
use Rattle.cw_syntax.specs.Marks.{MarkKind, CallMark, SeamMark}

-- the needle begins at no place of the text
abbrev pub HasNone : List ℕ → List ℕ → Type 0
HasNone needle text = (at : ℕ) → starts_with nat_eq (drop at text) needle ≡ false

-- no name that a mark spells has a slash: a name has letters, digits and `_`
abbrev pub IsPlainKind : List ℕ → MarkKind → Type 0
IsPlainKind source (CallMark (Some x)) = HasNone (codes "/") (text source x)
IsPlainKind source _ = Unit {0}

abbrev pub ArePlainMarks : List ℕ → List SeamMark → Type 0
ArePlainMarks source marks = All (λ m. IsPlainKind source m.kind) marks
