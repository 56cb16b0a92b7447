-- Tokens that lie further back, and trees that are alike but for places.
use Rattle.std.specs.Prelude.{◌≡◌, ℕ, ◌+◌, List, [], ◌∷◌}
use Rattle.cw_syntax.specs.declared.program.Name.{Name}
use Rattle.cw_syntax.specs.declared.program.Op.{Op}
use Rattle.cw_syntax.specs.declared.program.Op.TheVariants as op
use Rattle.cw_syntax.specs.Names.{slice, text}
use Rattle.cw_syntax.specs.Trees.{Tree, Node, Trees, none, more}
use Rattle.cw_grammar.specs.declared.terminals.Lexeme.{Lexeme}

-- the token, so many bytes further back
abbrev pub moved : ℕ → Lexeme → Lexeme
moved d t = record { terminal = t.terminal; from = t.from + d; to = t.to + d }

-- both lists have as many items, and those at one place are in a relation
abbrev pub Pairs : {X Y : Type 0} → (X → Y → Type 0) → List X → List Y → Type 0
Pairs R [] [] = Unit {0}
Pairs R [] (y ∷ ys) = ⊥
Pairs R (x ∷ xs) [] = ⊥
Pairs R (x ∷ xs) (y ∷ ys) = R x y × Pairs R xs ys

module _ (source form : List ℕ) where
  -- the token has the same bytes so many bytes further back in the other text
  abbrev pub IsKept : ℕ → Lexeme → Type 0
  IsKept d t = slice form (t.from + d) (t.to + d) ≡ slice source t.from t.to

  abbrev pub AreKept : ℕ → List Lexeme → Type 0
  AreKept d [] = Unit {0}
  AreKept d (t ∷ ts) = IsKept d t × AreKept d ts

  -- names with the same bytes
  abbrev pub SameName : Name → Name → Type 0
  SameName n m = text form m ≡ text source n

  -- operators that are the same, but that the name of a call may stand elsewhere; a name's own bytes are the same
  abbrev pub SameOp : Op → (from to : ℕ) → Op → (from' to' : ℕ) → Type 0
  SameOp op.Name from to o from' to' = (o ≡ op.Name) × (slice form from' to' ≡ slice source from to)
  SameOp (op.Call f) from to o from' to' = (g : Name) × (o ≡ op.Call g) × SameName f g
  SameOp p from to o from' to' = o ≡ p

  -- trees that are the same, but for places
  abbrev mutual
    pub Alike : Tree → Tree → Type 0
    Alike (Node p ts from to) (Node q us from' to') = SameOp p from to q from' to' × AllAlike ts us

    pub AllAlike : Trees → Trees → Type 0
    AllAlike none none = Unit {0}
    AllAlike none (more u us) = ⊥
    AllAlike (more t ts) none = ⊥
    AllAlike (more t ts) (more u us) = Alike t u × AllAlike ts us
