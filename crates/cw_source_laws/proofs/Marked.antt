-- The marks of a program's opens and calls have the names to which its statements assign.
use Rattle.std.proofs.Common.{◌≡◌, ℕ, zero, suc, List, [], ◌∷◌, ◌++◌, Bool, true, false, cond, Option, None, Some, refl}
use Rattle.std.specs.Prelude.{IsTrue, slice_get, codes}
use Rattle.std.specs.List.{All}
use Rattle.std.specs.Str.{bytes_eq}
use Rattle.std.proofs.lemmas.List.Elements.{All-append, All-nil, All-cons}
use Rattle.cw_rights.specs.Valid.{is_name}
use Rattle.cw_syntax.specs.declared.program.Name.{Name}
use Rattle.cw_syntax.specs.declared.program.Op.TheVariants.{Name as NameOp, Call as CallOp, Assign}
use Rattle.cw_syntax.specs.Names.{Names, text, number_in}
use Rattle.cw_syntax.specs.Trees.{Tree, Node as TreeNode, Trees, none, more}
use Rattle.cw_syntax.specs.Plans.{Callee, Action, Computes, action_of, call_action, assigned_action, closed_by, closes_if, opens_if, descriptor_of}
use Rattle.cw_syntax.specs.Plans.{Stm, Plain, Break, Continue, Return, Open, Close, Call, Group, Label, If, While, Do, For, Stms, end, then, Routine, Scene, scene_of, plan_of}
use Rattle.cw_syntax.specs.Marks.{MarkKind, EntryMark, LabelMark, OpenMark, CloseMark, CallMark, SeamMark, marks_in, marks_in_all, marks_from}
use Rattle.cw_syntax.specs.PlainMarks.{IsPlainKind}
use Rattle.cw_resolve.proofs.PlainNames.{name_plain}
use Rattle.cw_positions.proofs.Fitting.{ActFits, Fits, AllFit, routine_fits_where}
use Rattle.cw_positions.proofs.Splitting.{named_at}
use Rattle.cw_source_laws.specs.Marked.{AssignsName, IsNamedKind, ReadProgramsMarkNames, ReadProgramsMarkPlainly}
use Rattle.cw_source_laws.proofs.Assigning.{read_programs_assign}

-- what is asked of what an expression does, and of the marks, in a scene
module _ (c : Scene) where
  abbrev IsNamedResult : Option Name → Type 0
  IsNamedResult None = Unit {0}
  IsNamedResult (Some x) = IsTrue (is_name (text c.source x))

  abbrev IsNamed : ℕ → Type 0
  IsNamed d = (name : List ℕ) × (slice_get c.names.descriptors d ≡ Some name) × IsTrue (is_name name)

  abbrev K : Callee → Type 0
  K callee = IsNamedResult callee.result

  abbrev FitsAct : Action → Type 0
  FitsAct a = ActFits IsNamed (λ d. Unit {0}) (λ d. Unit {0}) K a

  abbrev FitsStm : Stm → Type 0
  FitsStm s = Fits IsNamed (λ d. Unit {0}) (λ d. Unit {0}) K s

  abbrev FitAll : Stms → Type 0
  FitAll ss = AllFit IsNamed (λ d. Unit {0}) (λ d. Unit {0}) K ss

  abbrev IsNamedMark : SeamMark → Type 0
  IsNamedMark m = IsNamedKind c.names c.source m.kind

  call_named : (result : Option Name) → IsNamedResult result → IsNamedKind c.names c.source (CallMark result)
  call_named None h = tt
  call_named (Some x) h = h

  mutual
    named_in : (s : Stm) → FitsStm s → All IsNamedMark (marks_in s)
    named_in (Plain at) h = All-nil IsNamedMark
    named_in (Break at) h = All-nil IsNamedMark
    named_in (Continue at) h = All-nil IsNamedMark
    named_in (Return at) h = All-nil IsNamedMark
    named_in (Open at j d) h = All-cons IsNamedMark (record { place = at; seam = j; kind = OpenMark d }) [] h (All-nil IsNamedMark)
    named_in (Close at j d) h = All-cons IsNamedMark (record { place = at; seam = j; kind = CloseMark }) [] tt (All-nil IsNamedMark)
    named_in (Call at j callee) h = All-cons IsNamedMark (record { place = at; seam = j; kind = CallMark callee.result }) [] (call_named callee.result h) (All-nil IsNamedMark)
    named_in (Group ss) h = named_in_all ss h
    named_in (Label at mark j l s) h = All-cons IsNamedMark (record { place = mark; seam = j; kind = LabelMark }) (marks_in s) tt (named_in s h.1)
    named_in (If at s t) h = All-append IsNamedMark (marks_in s) (marks_in t) (named_in s h.0) (named_in t h.1)
    named_in (While at s) h = named_in s h
    named_in (Do at s) h = named_in s h
    named_in (For at init decided stepped s) h = named_in s h

    named_in_all : (ss : Stms) → FitAll ss → All IsNamedMark (marks_in_all ss)
    named_in_all end h = All-nil IsNamedMark
    named_in_all (then s ss) h = All-append IsNamedMark (marks_in s) (marks_in_all ss) (named_in s h.0) (named_in_all ss h.1)

  named_from : (rs : List Routine) → ((f : ℕ) (r : Routine) → slice_get rs f ≡ Some r → FitAll r.body) → All IsNamedMark (marks_from rs)
  named_from [] each = All-nil IsNamedMark
  named_from (r ∷ rs) each =
      All-cons IsNamedMark (record { place = r.mark; seam = r.seam; kind = EntryMark }) (marks_in_all r.body ++ marks_from rs) tt
      (All-append IsNamedMark (marks_in_all r.body) (marks_from rs) (named_in_all r.body (each 0 r refl)) (named_from rs (λ f t e. each (suc f) t e)))

  -- what an expression does, where it assigns to a C name if to any
  opens_fit : (o : Option ℕ) → ((d : ℕ) → o ≡ Some d → IsNamed d) → FitsAct (opens_if o)
  opens_fit None h = tt
  opens_fit (Some d) h = h d refl

  closes_fit : (o : Option ℕ) → FitsAct (closes_if o)
  closes_fit None = tt
  closes_fit (Some d) = tt

  closing_fits : (b : Bool) (t : Tree) → FitsAct (cond b (closes_if (descriptor_of c t)) Computes)
  closing_fits true t = closes_fit (descriptor_of c t)
  closing_fits false t = tt

  closed_fits : (name : List ℕ) (ts : Trees) → FitsAct (closed_by c name ts)
  closed_fits name (more t none) = closing_fits (bytes_eq name (codes "close")) t
  closed_fits name none = tt
  closed_fits name (more t (more u ts)) = tt

  call_fits : (name : List ℕ) (ts : Trees) (o : Option ℕ) → FitsAct (call_action c name ts o)
  call_fits name ts (Some f) = tt
  call_fits name ts None = closed_fits name ts

  assigned_fits : (x : Name) (name : List ℕ) (o : Option ℕ) → IsTrue (is_name (text c.source x)) → FitsAct (assigned_action c x name o)
  assigned_fits x name (Some f) h = h
  assigned_fits x name None h = opens_fit (number_in c.names.descriptors (text c.source x)) (λ d e. (text c.source x, named_at c.names.descriptors (text c.source x) d e, h))

  acts_fit : (t : Tree) → AssignsName c.source t → FitsAct (action_of c t)
  acts_fit (TreeNode (CallOp f) arguments from to) h = call_fits (text c.source f) arguments (number_in c.functions (text c.source f))
  acts_fit (TreeNode (Assign zero) (more (TreeNode NameOp parts at upto) (more (TreeNode (CallOp f) arguments at' end') none)) from to) h =
      let x : Name = record { from = at; to = upto } in
      assigned_fits x (text c.source f) (number_in c.functions (text c.source f)) (h x refl)
  acts_fit _ h = tt

pub marks_named : ReadProgramsMarkNames
marks_named names source file reads =
    let c = scene_of names source file in
    let rs = (plan_of names source file).routines in
    named_from c rs
    (λ f r e. routine_fits_where (IsNamed c) (λ d. Unit {0}) (λ d. Unit {0}) (K c) c (AssignsName source) (acts_fit c) (λ name. tt) file.functions 0 f r (read_programs_assign source file reads) e)

kind_plain : (names : Names) (source : List ℕ) (kind : MarkKind) → IsNamedKind names source kind → IsPlainKind source kind
kind_plain names source (CallMark (Some x)) h = name_plain (text source x) h
kind_plain names source (CallMark None) h = tt
kind_plain names source EntryMark h = tt
kind_plain names source LabelMark h = tt
kind_plain names source (OpenMark d) h = tt
kind_plain names source CloseMark h = tt

pub plain_marks : ReadProgramsMarkPlainly
plain_marks names source file reads = λ k d lt. kind_plain names source _ (marks_named names source file reads k d lt)
