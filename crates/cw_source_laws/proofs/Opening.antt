-- A C name begins as one.
use Rattle.std.proofs.Common.{◌≡◌, ℕ, List, [], ◌∷◌, true}
use Rattle.std.specs.List.{list_all}
use Rattle.std.proofs.lemmas.Bool.{and_parts}
use Rattle.cw_rights.specs.Valid.{is_name, is_name_start, is_name_byte}
use Rattle.cw_syntax.specs.Names.{text}
use Rattle.cw_syntax.specs.Trees.{Tree, Statement, Stated, Form, Block, Declares, Evaluates, Empties, Labels, Chooses, Whiles, Does, Fors, Breaks, Continues, Returns}
use Rattle.cw_syntax.specs.Trees.{Perhaps, nothing, just, Statements, nil, cons, Definition}
use Rattle.cw_positions.specs.Opens.{begins_name, AssignsName, EachStands, EachStandsIn, EachStandsArm, EachStandsAll, EachStandsFrom}
use Rattle.cw_source_laws.specs.Marked.{AssignsName as AssignsWholeName}
use Rattle.cw_source_laws.proofs.Assigning.{read_programs_assign as each_assigns}
use Rattle.cw_source_laws.specs.Opened.{ReadProgramsAssignNames}

-- what holds of each expression that is a statement, where another claim does
module _ (T U : Tree → Type 0) (so : (t : Tree) → T t → U t) where
  mutual
    each : (s : Statement) → EachStands T s → EachStands U s
    each (Stated form from to) h = each_in form h

    each_in : (f : Form) → EachStandsIn T f → EachStandsIn U f
    each_in (Block ss) h = each_all ss h
    each_in (Declares d) h = tt
    each_in (Evaluates e) h = so e h
    each_in Empties h = tt
    each_in (Labels name mark s) h = each s h
    each_in (Chooses test s other) h = (each s h.0, each_arm other h.1)
    each_in (Whiles test s) h = each s h
    each_in (Does s test) h = each s h
    each_in (Fors init test step s) h = each s h
    each_in Breaks h = tt
    each_in Continues h = tt
    each_in (Returns value) h = tt

    each_arm : (o : Perhaps) → EachStandsArm T o → EachStandsArm U o
    each_arm nothing h = tt
    each_arm (just s) h = each s h

    each_all : (ss : Statements) → EachStandsAll T ss → EachStandsAll U ss
    each_all nil h = tt
    each_all (cons s ss) h = (each s h.0, each_all ss h.1)

  each_from : (fs : List Definition) → EachStandsFrom T fs → EachStandsFrom U fs
  each_from [] h = tt
  each_from (f ∷ fs) h = (each_all f.body h.0, each_from fs h.1)

begins : (name : List ℕ) → is_name name ≡ true → begins_name name ≡ true
begins [] h = absurd cc
begins (b ∷ bs) h = (and_parts (is_name_start b) (list_all is_name_byte bs) h).0

begins_whole : (source : List ℕ) (t : Tree) → AssignsWholeName source t → AssignsName source t
begins_whole source t h x e = begins (text source x) (h x e)

pub read_programs_assign : ReadProgramsAssignNames
read_programs_assign source file reads =
    each_from (AssignsWholeName source) (AssignsName source) (begins_whole source) file.functions (each_assigns source file reads)
