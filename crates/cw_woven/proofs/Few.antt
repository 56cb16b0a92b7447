-- A program has no more marks than points.
use Rattle.std.proofs.Common.{◌≤◌, List, [], ◌∷◌, length, arith, length-append}
use Rattle.cw_syntax.specs.Marks.{marks_in, marks_in_all, marks_from, marks_of}
use Rattle.cw_syntax.specs.Plans.{Stm, Plain, Break, Continue, Return, Open, Close, Call, Group, Label, If, While, Do, For, Stms, end, then, Routine, Plan}
use Rattle.cw_points.specs.Points.{count, count_all, count_from, point_count}

mutual
  few_in : (s : Stm) → length (marks_in s) ≤ count s
  few_in (Plain at) = omega arith
  few_in (Break at) = omega arith
  few_in (Continue at) = omega arith
  few_in (Return at) = omega arith
  few_in (Open at j d) = omega arith
  few_in (Close at j d) = omega arith
  few_in (Call at j callee) = omega arith
  few_in (Group ss) = few_in_all ss
  few_in (Label at mark j l s) = let p = few_in s in omega (arith, p)
  few_in (If at s t) = let p = few_in s in let q = few_in t in omega (arith, p, q, length-append (marks_in s) (marks_in t))
  few_in (While at s) = let p = few_in s in omega (arith, p)
  few_in (Do at s) = let p = few_in s in omega (arith, p)
  few_in (For at init decided stepped s) = let p = few_in s in omega (arith, p)

  few_in_all : (ss : Stms) → length (marks_in_all ss) ≤ count_all ss
  few_in_all end = omega arith
  few_in_all (then s ss) = let p = few_in s in let q = few_in_all ss in omega (arith, p, q, length-append (marks_in s) (marks_in_all ss))

few_from : (rs : List Routine) → length (marks_from rs) ≤ count_from rs
few_from [] = omega arith
few_from (r ∷ rs) = let p = few_in_all r.body in let q = few_from rs in omega (arith, p, q, length-append (marks_in_all r.body) (marks_from rs))

pub few_marks : (plan : Plan) → length (marks_of plan) ≤ point_count plan
few_marks plan = few_from plan.routines
