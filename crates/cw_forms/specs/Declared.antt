-- Declarations that are alike but for places: those of one lie so many bytes further back.
use Rattle.std.specs.Prelude.{◌≡◌, ℕ, ◌+◌, List, Option, None, Some}
use Rattle.cw_syntax.specs.declared.program.Name.{Name}
use Rattle.cw_syntax.specs.declared.program.Param.{Param}
use Rattle.cw_syntax.specs.Trees.{Declared, Declaration, Prototype}
use Rattle.cw_forms.specs.Moved.{Pairs, SameName, Alike, AllAlike}

-- both or none is there, and they are in a relation
abbrev pub Both : {X Y : Type 0} → (X → Y → Type 0) → Option X → Option Y → Type 0
Both R None None = Unit {0}
Both R None (Some y) = ⊥
Both R (Some x) None = ⊥
Both R (Some x) (Some y) = R x y

module _ (source form : List ℕ) where
  -- a name with the same bytes, so many bytes further back
  abbrev pub MovedName : ℕ → Name → Name → Type 0
  MovedName d n m = SameName source form n m × (m.from ≡ n.from + d)

  abbrev pub SameParam : Param → Param → Type 0
  SameParam p q = Both (SameName source form) p.name q.name

  abbrev pub SameItem : ℕ → Declared → Declared → Type 0
  SameItem d x y =
      (y.kind ≡ x.kind) × MovedName d x.name y.name × Both (Both (Alike source form)) x.array y.array × AllAlike source form x.init y.init × (y.braces ≡ x.braces)

  abbrev pub SameDeclaration : ℕ → Declaration → Declaration → Type 0
  SameDeclaration d x y = (y.external ≡ x.external) × (y.constant ≡ x.constant) × Pairs (SameItem d) x.items y.items

  abbrev pub SamePrototype : Prototype → Prototype → Type 0
  SamePrototype p q = SameName source form p.name q.name × Pairs SameParam p.params q.params
