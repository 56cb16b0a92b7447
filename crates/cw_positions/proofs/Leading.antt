-- Each point of a program leads to points of the program.
use Rattle.std.proofs.Common.{◌≡◌, ℕ, zero, suc, ◌+◌, ◌<◌, ◌≤◌, List, [], ◌∷◌, ◌++◌, length, Bool, true, false, Option, Some, None, refl, subst}
use Rattle.std.proofs.Common.{length-append, arith}
use Rattle.std.specs.Prelude.{slice_get}
use Rattle.std.proofs.lemmas.Option.{none-some, same_Some}
use Rattle.cw_syntax.specs.Plans.{Stm, Plain, Break, Continue, Return, Open, Close, Call, Group, Label, If, While, Do, For, Stms, end, then}
use Rattle.cw_syntax.specs.Plans.{Routine, Plan}
use Rattle.cw_points.specs.declared.graph.Point.TheVariants as point
use Rattle.cw_points.specs.declared.graph.Node.{Node}
use Rattle.cw_points.specs.Points.{count, count_all, one_if, one_if_some, count_from, point_count}
use Rattle.cw_points.specs.Graphs.{node, step, branch, first, init_nodes, test_node, step_nodes, turns, test_of, turn_of, nodes_in, nodes_in_all}
use Rattle.cw_points.specs.Graphs.{exit_of, nodes_of, nodes_from, nodes}
use Rattle.cw_points.specs.Walks.{first_of, second_of}
use Rattle.cw_points.proofs.Lengths.{nodes_length_all}

-- no point, or one of so many
abbrev pub IsBelow : ℕ → Option ℕ → Type 0
IsBelow size None = Unit {0}
IsBelow size (Some p) = p < size

abbrev pub Leads : ℕ → Node → Type 0
Leads size n = IsBelow size (first_of n.next) × IsBelow size (second_of n.next)

abbrev pub EachLeads : ℕ → List Node → Type 0
EachLeads size [] = Unit {0}
EachLeads size (n ∷ ns) = Leads size n × EachLeads size ns

each_two : (size : ℕ) (a b : List Node) → EachLeads size a → EachLeads size b → EachLeads size (a ++ b)
each_two size [] b h e = e
each_two size (n ∷ a) b h e = (h.0, each_two size a b h.1 e)

first_below : (size c n k : ℕ) → n + c ≤ size → k < size → first c n k < size
first_below size zero n k h e = e
first_below size (suc c) n k h e = omega arith

jump : (size f : ℕ) (o : Option ℕ) → IsBelow size o → EachLeads size (step f o ∷ [])
jump size f None h = ((tt, tt), tt)
jump size f (Some p) h = ((h, tt), tt)

init_leads : (size f : ℕ) (init : Option ℕ) (t : ℕ) → t < size → EachLeads size (init_nodes f init t)
init_leads size f None t h = tt
init_leads size f (Some at) t h = ((h, tt), tt)

test_leads : (size f : ℕ) (decided : Bool) (m k : ℕ) → m < size → k < size → Leads size (test_node f decided m k)
test_leads size f true m k h e = (h, e)
test_leads size f false m k h e = (h, tt)

step_leads : (size f : ℕ) (stepped : Bool) (t : ℕ) → t < size → EachLeads size (step_nodes f stepped t)
step_leads size f true t h = ((h, tt), tt)
step_leads size f false t h = tt

module _ (size f : ℕ) where
  mutual
    leads : (s : Stm) (n k x : ℕ) (b c : Option ℕ) → n + count s ≤ size → k < size → x < size → IsBelow size b → IsBelow size c
        → EachLeads size (nodes_in f s n k x b c)
    leads (Plain at) n k x b c h hk hx hb hc = ((hk, tt), tt)
    leads (Break at) n k x b c h hk hx hb hc = jump size f b hb
    leads (Continue at) n k x b c h hk hx hb hc = jump size f c hc
    leads (Return at) n k x b c h hk hx hb hc = ((hx, tt), tt)
    leads (Open at j d) n k x b c h hk hx hb hc = ((hk, tt), tt)
    leads (Close at j d) n k x b c h hk hx hb hc = ((hk, tt), tt)
    leads (Call at j callee) n k x b c h hk hx hb hc = ((hk, tt), tt)
    leads (Group ss) n k x b c h hk hx hb hc = leads_all ss n k x b c h hk hx hb hc
    leads (Label at mark j l s) n k x b c h hk hx hb hc =
        ((first_below size (count s) (n + 1) k (omega arith) hk, tt), leads s (n + 1) k x b c (omega arith) hk hx hb hc)
    leads (If at s t) n k x b c h hk hx hb hc = (
      (first_below size (count s) (n + 1) k (omega arith) hk, first_below size (count t) (n + 1 + count s) k (omega arith) hk),
      each_two size (nodes_in f s (n + 1) k x b c) (nodes_in f t (n + 1 + count s) k x b c) (leads s (n + 1) k x b c (omega arith) hk hx hb hc)
          (leads t (n + 1 + count s) k x b c (omega arith) hk hx hb hc),
    )
    leads (While at s) n k x b c h hk hx hb hc =
        let hn : n < size = omega arith in
        ((first_below size (count s) (n + 1) n (omega arith) hn, hk), leads s (n + 1) n x (Some k) (Some n) (omega arith) hn hx hk hn)
    leads (Do at s) n k x b c h hk hx hb hc =
        let ht : n + count s < size = omega arith in
        let hn : n < size = omega arith in
        each_two size (nodes_in f s n (n + count s) x (Some k) (Some (n + count s))) (branch f n k ∷ [])
        (leads s n (n + count s) x (Some k) (Some (n + count s)) (omega arith) ht hx hk ht)
        ((hn, hk), tt)
    leads (For at init decided stepped s) n k x b c h hk hx hb hc =
        let t = test_of n init in
        let a = turn_of n init stepped in
        let m = first (count s) (a + 1) a in
        let ht : n + one_if_some init < size = omega arith in
        let ha : n + one_if_some init + one_if stepped < size = omega arith in
        let body = nodes_in f s (a + 1) a x (Some k) (Some a) in
        let hm = first_below size (count s) (a + 1) a (omega arith) ha in
        let rest = each_two size (step_nodes f stepped t) body (step_leads size f stepped t ht)
        (leads s (a + 1) a x (Some k) (Some a) (omega arith) ha hx hk ha) in
        each_two size (init_nodes f init t) (turns f decided stepped m k t body) (init_leads size f init t ht)
        (test_leads size f decided m k hm hk, rest)

    leads_all : (ss : Stms) (n k x : ℕ) (b c : Option ℕ) → n + count_all ss ≤ size → k < size → x < size → IsBelow size b → IsBelow size c
        → EachLeads size (nodes_in_all f ss n k x b c)
    leads_all end n k x b c h hk hx hb hc = tt
    leads_all (then s ss) n k x b c h hk hx hb hc =
        let m = first (count_all ss) (n + count s) k in
        let hm = first_below size (count_all ss) (n + count s) k (omega arith) hk in
        each_two size (nodes_in f s n m x b c) (nodes_in_all f ss (n + count s) k x b c) (leads s n m x b c (omega arith) hm hx hb hc)
        (leads_all ss (n + count s) k x b c (omega arith) hk hx hb hc)

leads_of : (size f : ℕ) (r : Routine) (n : ℕ) → n + suc (suc (count_all r.body)) ≤ size → EachLeads size (nodes_of f r n)
leads_of size f r n h =
    let x = exit_of r n in
    let hx : n + 1 + count_all r.body < size = omega arith in
    let body = nodes_in_all f r.body (n + 1) x x None None in
    let last : List Node = node point.Exit f None None ∷ [] in (
      (first_below size (count_all r.body) (n + 1) x (omega arith) hx, tt),
      each_two size body last
          (leads_all size f r.body (n + 1) x x None None (omega arith) hx hx tt tt) ((tt, tt), tt),
    )

leads_from : (size f : ℕ) (rs : List Routine) (n : ℕ) → n + count_from rs ≤ size → EachLeads size (nodes_from f rs n)
leads_from size f [] n h = tt
leads_from size f (r ∷ rs) n h =
    each_two size (nodes_of f r n) (nodes_from (f + 1) rs (exit_of r n + 1)) (leads_of size f r n (omega arith))
    (leads_from size (f + 1) rs (exit_of r n + 1) (omega arith))

length_from : (f : ℕ) (rs : List Routine) (n : ℕ) → length (nodes_from f rs n) ≡ count_from rs
length_from f [] n = refl
length_from f (r ∷ rs) n =
    let x = exit_of r n in
    let body = nodes_in_all f r.body (n + 1) x x None None in
    let last : List Node = node point.Exit f None None ∷ [] in
    omega (
      arith,
      length-append (nodes_of f r n) (nodes_from (f + 1) rs (x + 1)),
      length-append body last,
      nodes_length_all f r.body (n + 1) x x
          None None,
      length_from (f + 1) rs (x + 1),
    )

pub length_nodes : (plan : Plan) → length (nodes plan) ≡ point_count plan
length_nodes plan = length_from 0 plan.routines 0

-- where the points of a program lead
pub all_lead : (plan : Plan) → EachLeads (length (nodes plan)) (nodes plan)
all_lead plan = leads_from (length (nodes plan)) 0 plan.routines 0 (omega (arith, length_nodes plan))

pub leads_at : (size : ℕ) (ns : List Node) (p : ℕ) (n : Node) → EachLeads size ns → slice_get ns p ≡ Some n → Leads size n
leads_at size [] p n h e = absurd (none-some n e)
leads_at size (m ∷ ns) zero n h e = subst (Leads size) (same_Some m n e) h.0
leads_at size (m ∷ ns) (suc p) n h e = leads_at size ns p n h.1 e
