-- The places in a function that forbid splitting it and all that reach it: they would show the caller, or take from it, what a process of its
-- own doesn't share. Public source: ISO/IEC 9899:2011, sections 6.2.1, 6.5 and 6.8; fork(2).
use Rattle.std.specs.Prelude.{◌≤◌, ℕ, List, [], ◌∷◌, ◌++◌, map, Bool, true, false, cond, not, ◌&&◌, ◌||◌, nat_eq, nat_le, Option, Some, None, slice_get}
use Rattle.std.specs.List.{Contains, list_all}
use Rattle.cw_syntax.specs.declared.program.Base.{Base}
use Rattle.cw_syntax.specs.declared.program.Base.TheVariants.{Void, Int}
use Rattle.cw_syntax.specs.declared.program.CType.{CType}
use Rattle.cw_syntax.specs.declared.program.Op.{Op}
use Rattle.cw_syntax.specs.declared.program.Op.TheVariants.{Name as NameOp, Index, Prefix, Suffix, Assign}
use Rattle.cw_syntax.specs.declared.program.Param.{Param}
use Rattle.cw_syntax.specs.Names.{Names}
use Rattle.cw_syntax.specs.Trees.{Tree, Node, Trees, none, more, Declared, Declaration, Statement, Stated, Form, Block, Declares, Evaluates, Empties, Labels, Chooses, Whiles, Does, Fors, Breaks, Continues, Returns, Perhaps, nothing, just, Statements, nil, cons, Definition, File}
use Rattle.cw_syntax.specs.Plans.{Scene, scene_of, Action, Opens, Closes, action_of, plan_of}
use Rattle.cw_callgraph.specs.declared.scopes.Meaning.{Meaning}
use Rattle.cw_callgraph.specs.declared.scopes.Known.{Known}
use Rattle.cw_callgraph.specs.declared.expressions.Role.{Role}
use Rattle.cw_callgraph.specs.declared.expressions.Role.TheVariants.{Value, Base as BaseRole, Target}
use Rattle.cw_callgraph.specs.Scoping.{is_shared, is_array, is_parameter, meaning_at, first_means, local, parameters, file_scope}
use Rattle.cw_callgraph.specs.Effects.{Reaches}

abbrev pub place_if : Bool → ℕ → List ℕ
place_if true place = place ∷ []
place_if false place = []

-- The role of an expression's first part: a target where it is assigned, changed by `++` or `--`, or has its address taken; the base of an
-- index that isn't one itself. Every other part is a value.
abbrev pub index_role : Role → Role
index_role Target = Value
index_role _ = BaseRole

abbrev pub first_role : Role → Op → Role
first_role role Index = index_role role
first_role role (Assign n) = Target
first_role role (Suffix n) = Target
first_role role (Prefix n) = cond (nat_le 5 n && nat_le n 7) Target Value
first_role role _ = Value

-- the name of an array of file scope is the base of an index whose value is taken, and nothing else
abbrev pub name_forbids : Role → Option Meaning → Bool
name_forbids BaseRole means = false
name_forbids _ means = is_array means

module _ (source : List ℕ) (file : List Known) where
  -- an element of an array of file scope
  abbrev pub element_at : List Known → Op → Trees → Bool
  element_at inner Index parts = is_array (first_means source file inner parts)
  element_at inner _ parts = false

  abbrev pub is_element : List Known → Tree → Bool
  is_element inner (Node op parts from to) = element_at inner op parts

  abbrev pub first_is_element : List Known → Trees → Bool
  first_is_element inner none = false
  first_is_element inner (more t ts) = is_element inner t

  -- a change of the first part changes a variable of file scope or an element of an array there
  abbrev pub writes : List Known → Trees → Bool
  writes inner parts = is_shared (first_means source file inner parts) || first_is_element inner parts

  -- `*` on a parameter; `&` on a variable of file scope or a parameter; `++` and `--`
  abbrev pub prefix_forbids : List Known → ℕ → Trees → Bool
  prefix_forbids inner n parts =
      nat_eq n 4 && is_parameter (first_means source file inner parts)
      || nat_eq n 5 && (is_shared (first_means source file inner parts) || is_parameter (first_means source file inner parts))
      || (nat_eq n 6 || nat_eq n 7) && writes inner parts

  abbrev pub forbids_itself : List Known → Role → Op → Trees → ℕ → ℕ → Bool
  forbids_itself inner role NameOp parts from to = name_forbids role (meaning_at source file inner NameOp from to)
  forbids_itself inner role (Assign n) parts from to = writes inner parts
  forbids_itself inner role (Suffix n) parts from to = writes inner parts
  forbids_itself inner role (Prefix n) parts from to = prefix_forbids inner n parts
  forbids_itself inner role _ parts from to = false

  -- The places in an expression, each the start of the expression that forbids.
  abbrev mutual
    pub places : List Known → Role → Tree → List ℕ
    places inner role (Node op parts from to) = place_if (forbids_itself inner role op parts from to) from ++ places_in inner (first_role role op) parts

    pub places_in : List Known → Role → Trees → List ℕ
    places_in inner first none = []
    places_in inner first (more t ts) = places inner first t ++ places_in inner Value ts

  abbrev pub given : List Known → Option Tree → List ℕ
  given inner None = []
  given inner (Some t) = places inner Value t

  abbrev pub size : List Known → Option (Option Tree) → List ℕ
  size inner None = []
  size inner (Some e) = given inner e

  -- A declaration in a function forbids at its start where it is `static`. A name is known from the end of its declarator on.
  abbrev pub in_items : List Known → Bool → List Declared → List ℕ
  in_items inner external [] = []
  in_items inner external (i ∷ is) =
      size inner i.array
      ++ places_in (inner ++ local source file external i ∷ []) Value i.init
      ++ in_items (inner ++ local source file external i ∷ []) external is

  abbrev pub declared : List Known → Declaration → List ℕ
  declared inner d = place_if d.fixed d.from ++ in_items inner d.external d.items

  abbrev pub locals : Declaration → List Known
  locals d = map (local source file d.external) d.items

-- an open and a close forbid at their statement
abbrev pub is_seam : Action → Bool
is_seam (Opens d) = true
is_seam (Closes d) = true
is_seam _ = false

module _ (s : Scene) (file : List Known) where
  -- the names that a statement declares for the statements behind it
  abbrev mutual
    pub known_after : Statement → List Known
    known_after (Stated form from to) = known_in form

    pub known_in : Form → List Known
    known_in (Declares d) = locals s.source file d
    known_in (Labels name flag body) = known_after body
    known_in _ = []

  abbrev pub known_after_all : Statements → List Known
  known_after_all nil = []
  known_after_all (cons one rest) = known_after one ++ known_after_all rest

  -- the init of a `for` is a declaration or an expression
  abbrev pub init_in : List Known → Form → List ℕ
  init_in inner (Declares d) = declared s.source file inner d
  init_in inner (Evaluates e) = places s.source file inner Value e
  init_in inner _ = []

  abbrev pub init : List Known → Perhaps → List ℕ
  init inner nothing = []
  init inner (just (Stated form from to)) = init_in inner form

  abbrev pub known_by_init_in : Form → List Known
  known_by_init_in (Declares d) = locals s.source file d
  known_by_init_in _ = []

  abbrev pub known_by_init : Perhaps → List Known
  known_by_init nothing = []
  known_by_init (just (Stated form from to)) = known_by_init_in form

  -- The places in a statement, under the names that are known before it.
  abbrev mutual
    pub stated : List Known → Statement → List ℕ
    stated inner (Stated form from to) = formed inner from form

    pub formed : List Known → ℕ → Form → List ℕ
    formed inner at (Block ss) = stated_all inner ss
    formed inner at (Declares d) = declared s.source file inner d
    formed inner at (Evaluates e) = place_if (is_seam (action_of s e)) at ++ places s.source file inner Value e
    formed inner at Empties = []
    formed inner at (Labels name flag body) = stated inner body
    formed inner at (Chooses test arm other) = places s.source file inner Value test ++ stated inner arm ++ stated_arm inner other
    formed inner at (Whiles test body) = places s.source file inner Value test ++ stated inner body
    formed inner at (Does body test) = stated inner body ++ places s.source file inner Value test
    formed inner at (Fors start test step body) =
        init inner start
        ++ given s.source file (inner ++ known_by_init start) test
        ++ given s.source file (inner ++ known_by_init start) step
        ++ stated (inner ++ known_by_init start) body
    formed inner at Breaks = []
    formed inner at Continues = []
    formed inner at (Returns value) = given s.source file inner value

    pub stated_arm : List Known → Perhaps → List ℕ
    stated_arm inner nothing = []
    stated_arm inner (just arm) = stated inner arm

    pub stated_all : List Known → Statements → List ℕ
    stated_all inner nil = []
    stated_all inner (cons one rest) = stated inner one ++ stated_all (inner ++ known_after one) rest

-- Its result is `void` or an `int` that isn't `unsigned`, without stars; each parameter is a `char`, `int` or `long`, `unsigned` or not,
-- without stars or brackets. Else it may not be split, at its name.
abbrev pub is_result : Base → Bool → Bool
is_result Void unsigned = true
is_result Int unsigned = not unsigned
is_result _ unsigned = false

abbrev pub may_be_result : CType → Bool
may_be_result kind = nat_eq kind.stars 0 && is_result kind.base kind.unsigned

abbrev pub is_void : Base → Bool
is_void Void = true
is_void _ = false

abbrev pub may_be_parameter : Param → Bool
may_be_parameter p = not (is_void p.kind.base) && nat_eq p.kind.stars 0 && not p.array

abbrev pub head_places : Definition → List ℕ
head_places f = place_if (not (may_be_result f.result && list_all may_be_parameter f.params)) f.name.from

abbrev pub body_places : Scene → File → Definition → List ℕ
body_places s file f = stated_all s (file_scope file) (parameters f.params) f.body

abbrev pub places_of : (Definition → List ℕ) → Option Definition → List ℕ
places_of places None = []
places_of places (Some f) = places f

-- A place forbids splitting a function where it is one of its head, of its body, or of the body of a function that it reaches.
pub data Forbids (names : Names) (source : List ℕ) (file : File) (f place : ℕ) : Type 0 where
  by_head : Contains (places_of head_places (slice_get file.functions f)) place → Forbids names source file f place
  by_body : Contains (places_of (body_places (scene_of names source file) file) (slice_get file.functions f)) place → Forbids names source file f place
  by_callee : (g : ℕ)
      → Reaches (plan_of names source file) f g
      → Contains (places_of (body_places (scene_of names source file) file) (slice_get file.functions g)) place
      → Forbids names source file f place

-- the least place of some, or none where there is none
abbrev pub IsLeast : (ℕ → Type 0) → Option ℕ → Type 0
IsLeast P None = (place : ℕ) → P place → ⊥
IsLeast P (Some least) = P least × ((place : ℕ) → P place → least ≤ place)
