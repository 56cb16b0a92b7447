-- What stands in a form for what stands in its source: statements that are alike but for places, and for each call that isn't waited for
-- those that stand for it.
use Rattle.std.specs.Prelude.{◌≡◌, ◌⊎◌, ℕ, Bool, true, false, cond, List, [], ◌∷◌, ◌++◌, Option, None, Some, codes}
use Rattle.std.specs.List.{flat_map, filter_map, list_any}
use Rattle.cw_syntax.specs.declared.program.Name.{Name}
use Rattle.cw_syntax.specs.declared.program.Op.TheVariants as op
use Rattle.cw_syntax.specs.Names.{text}
use Rattle.cw_syntax.specs.Trees.{Tree, Node, none, more, Statement, Stated, Form, Evaluates, Declared, Declaration, Definition, File}
use Rattle.cw_scope.specs.Walks.{Nested, Whole, wholes_of, inner, body_of}
use Rattle.cw_scope.specs.Names.{label_of, local_names}
use Rattle.cw_scope.specs.Rules.{is_jump}
use Rattle.cw_scope.specs.Descriptors.{is_before}
use Rattle.cw_detach.specs.Form.{calls_one}
use Rattle.cw_forms.specs.Moved.{Pairs, SameName, Alike}
use Rattle.cw_forms.specs.Declared.{MovedName, SameParam, SameDeclaration, SamePrototype}

-- the span of a statement that is a call of one of these functions
abbrev pub pair_at : List ℕ → List (List ℕ) → Form → ℕ → ℕ → Option (ℕ × ℕ)
pair_at source names (Evaluates e) from to = cond (calls_one source names e) (Some (from, to)) None
pair_at source names _ from to = None

abbrev pub pair_of : List ℕ → List (List ℕ) → Statement → Option (ℕ × ℕ)
pair_of source names (Stated form from to) = pair_at source names form from to

abbrev pub pairs_in : List ℕ → List (List ℕ) → List Nested → List (ℕ × ℕ)
pairs_in source names ps = filter_map (λ p. pair_of source names p.statement) ps

abbrev pub jumps : Statement → Bool
jumps (Stated form from to) = is_jump form

-- the whole of a statement
abbrev pub standing : Tree → Whole
standing e = record { tree = e; stands = true }

module _ (source form : List ℕ) where
  abbrev pub SameWhole : Whole → Whole → Type 0
  SameWhole w v = Alike source form w.tree v.tree × (v.stands ≡ w.stands)

  -- a statement, but for those in it, that is another's but for places
  pub record SamePlaced (p q : Nested) : Type 0 where
    pub looped : q.looped ≡ p.looped
    pub wholes : Pairs SameWhole (wholes_of p.statement) (wholes_of q.statement)
    pub labels : Pairs (SameName source form) (label_of p.statement) (label_of q.statement)
    pub locals : Pairs (SameName source form) (local_names p.statement) (local_names q.statement)
    pub jump : jumps q.statement ≡ jumps p.statement

  -- `!fork()` and `_exit(0)`
  abbrev pub IsFork : Tree → Type 0
  IsFork t = (f : Name) × (a : ℕ) × (b : ℕ) × (c : ℕ) × (d : ℕ) × (t ≡ Node (op.Prefix 2) (more (Node (op.Call f) none a b) none) c d) × (text form f ≡ codes "fork")

  abbrev pub IsExit : Tree → Type 0
  IsExit t = (f : Name) × (a : ℕ) × (b : ℕ) × (c : ℕ) × (d : ℕ) × (t ≡ Node (op.Call f) (more (Node (op.Number 0) none a b) none) c d) × (text form f ≡ codes "_exit")

  -- the statements that stand for a call, with those in them
  pub record IsCalled (p : Nested) (qs : List Nested) : Type 0 where
    pub call : Tree
    pub again : Tree
    pub test : Tree
    pub exit : Tree
    pub alike : Alike source form call again
    pub is_test : IsFork test
    pub is_exit : IsExit exit
    pub whole : wholes_of p.statement ≡ standing call ∷ []
    pub wholes : flat_map (λ q. wholes_of q.statement) qs ≡ inner test ∷ standing again ∷ standing exit ∷ []
    pub no_label : label_of p.statement ≡ []
    pub no_labels : flat_map (λ q. label_of q.statement) qs ≡ []
    pub no_local : local_names p.statement ≡ []
    pub no_locals : flat_map (λ q. local_names q.statement) qs ≡ []
    pub no_jump : list_any (λ q. jumps q.statement) qs ≡ false

  abbrev pub StandsFor : Nested → List Nested → Type 0
  StandsFor p qs = ((q : Nested) × (qs ≡ q ∷ []) × SamePlaced p q) ⊎ IsCalled p qs

  -- each statement of the source, and what stands for it
  abbrev pub StandFor : List Nested → List Nested → Type 0
  StandFor [] qs = qs ≡ []
  StandFor (p ∷ ps) qs = (own : List Nested) × (rest : List Nested) × (qs ≡ own ++ rest) × StandsFor p own × StandFor ps rest

  abbrev pub SameFunction : Definition → Definition → Type 0
  SameFunction f g = (d : ℕ) × MovedName source form d f.name g.name × Pairs (SameParam source form) f.params g.params × StandFor (body_of f) (body_of g)

  -- what stands before all functions does so in the form
  abbrev pub StaysBefore : List Definition → List Definition → Declared → Declared → Type 0
  StaysBefore fs gs x y = is_before x.name.from fs ≡ true → is_before y.name.from gs ≡ true

  abbrev pub StayBefore : List Definition → List Definition → Declaration → Declaration → Type 0
  StayBefore fs gs a b = Pairs (StaysBefore fs gs) a.items b.items

  -- the file of a form
  pub record SameFile (file made : File) : Type 0 where
    pub protos : Pairs (SamePrototype source form) file.protos made.protos
    pub globals : Pairs (λ x y. (d : ℕ) × SameDeclaration source form d x y) file.globals made.globals
    pub functions : Pairs SameFunction file.functions made.functions
    pub before : Pairs (StayBefore file.functions made.functions) file.globals made.globals
