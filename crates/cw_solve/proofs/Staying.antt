-- Each point of a function leads to points of the same function.
use Rattle.std.proofs.Common.{◌≡◌, ℕ, zero, suc, ◌+◌, ◌-◌, ◌<◌, ◌≤◌, List, [], ◌∷◌, ◌++◌, length, Bool, true, false, Option, Some, None, refl, sym, ap, ◌∙◌, subst, length-append, arith}
use Rattle.std.specs.Prelude.{slice_get}
use Rattle.std.proofs.lemmas.Bool.{false≢true}
use Rattle.std.proofs.lemmas.Option.{none-some, same_Some}
use Rattle.cw_syntax.specs.Plans.{Stm, Plain, Break, Continue, Return, Open, Close, Call, Group, Label, If, While, Do, For, Stms, end, then, Routine}
use Rattle.cw_syntax.specs.Runnable.{Lands, LandsAll}
use Rattle.cw_points.specs.declared.graph.Point.{Point}
use Rattle.cw_points.specs.declared.graph.Point.TheVariants as point
use Rattle.cw_points.specs.declared.graph.Node.{Node}
use Rattle.cw_points.specs.declared.graph.Part.{Part}
use Rattle.cw_points.specs.Points.{count, count_all, one_if, one_if_some}
use Rattle.cw_points.specs.Graphs.{node, step, branch, first, init_nodes, test_node, step_nodes, turns, test_of, turn_of, nodes_in, nodes_in_all, exit_of, nodes_of, nodes_from, part, parts_from}
use Rattle.cw_points.specs.Walks.{first_of, second_of}
use Rattle.cw_points.proofs.Lengths.{nodes_length_all}

-- a point from lo to hi
abbrev pub IsBetween : ℕ → ℕ → Option ℕ → Type 0
IsBetween lo hi None = ⊥
IsBetween lo hi (Some p) = (lo ≤ p) × (p ≤ hi)

-- an exit leads nowhere, a branch to two points, any other to one
abbrev pub LeadsOn : ℕ → ℕ → Point → Option ℕ → Option ℕ → Type 0
LeadsOn lo hi point.Exit a b = Unit {0}
LeadsOn lo hi point.Branch a b = IsBetween lo hi a × IsBetween lo hi b
LeadsOn lo hi w a b = IsBetween lo hi a

abbrev pub Stays : ℕ → ℕ → Node → Type 0
Stays lo hi n = LeadsOn lo hi n.point (first_of n.next) (second_of n.next)

abbrev pub EachStays : ℕ → ℕ → List Node → Type 0
EachStays lo hi [] = Unit {0}
EachStays lo hi (n ∷ ns) = Stays lo hi n × EachStays lo hi ns

each_two : (lo hi : ℕ) (a b : List Node) → EachStays lo hi a → EachStays lo hi b → EachStays lo hi (a ++ b)
each_two lo hi [] b h e = e
each_two lo hi (n ∷ a) b h e = (h.0, each_two lo hi a b h.1 e)

abbrev In : ℕ → ℕ → ℕ → Type 0
In lo hi p = (lo ≤ p) × (p ≤ hi)

module _ (lo hi f : ℕ) where
  first_in : (c n k : ℕ) → lo ≤ n → n + c ≤ hi + 1 → In lo hi k → In lo hi (first c n k)
  first_in zero n k h e i = i
  first_in (suc c) n k h e i = (h, omega (arith, e))

  jump : (o : Option ℕ) → IsBetween lo hi o → EachStays lo hi (step f o ∷ [])
  jump None h = absurd h
  jump (Some p) h = (h, tt)

  init_stays : (init : Option ℕ) (t : ℕ) → In lo hi t → EachStays lo hi (init_nodes f init t)
  init_stays None t h = tt
  init_stays (Some at) t h = (h, tt)

  test_stays : (decided : Bool) (m k : ℕ) → In lo hi m → In lo hi k → Stays lo hi (test_node f decided m k)
  test_stays true m k h e = (h, e)
  test_stays false m k h e = h

  step_stays : (stepped : Bool) (t : ℕ) → In lo hi t → EachStays lo hi (step_nodes f stepped t)
  step_stays true t h = (h, tt)
  step_stays false t h = tt

  mutual
    stays : (looped : Bool) (s : Stm) (n k x : ℕ) (b c : Option ℕ) → Lands looped s → lo ≤ n → n + count s ≤ hi + 1 → In lo hi k → In lo hi x → (looped ≡ true → IsBetween lo hi b)
        → (looped ≡ true → IsBetween lo hi c) → EachStays lo hi (nodes_in f s n k x b c)
    stays looped (Plain at) n k x b c ld l h hk hx hb hc = (hk, tt)
    stays looped (Break at) n k x b c ld l h hk hx hb hc = jump b (hb ld)
    stays looped (Continue at) n k x b c ld l h hk hx hb hc = jump c (hc ld)
    stays looped (Return at) n k x b c ld l h hk hx hb hc = (hx, tt)
    stays looped (Open at j d) n k x b c ld l h hk hx hb hc = (hk, tt)
    stays looped (Close at j d) n k x b c ld l h hk hx hb hc = (hk, tt)
    stays looped (Call at j callee) n k x b c ld l h hk hx hb hc = (hk, tt)
    stays looped (Group ss) n k x b c ld l h hk hx hb hc = stays_all looped ss n k x b c ld l h hk hx hb hc
    stays looped (Label at mark j m s) n k x b c ld l h hk hx hb hc =
        (first_in (count s) (n + 1) k (omega (arith, l)) (omega (arith, h)) hk, stays looped s (n + 1) k x b c ld (omega (arith, l)) (omega (arith, h)) hk hx hb hc)
    stays looped (If at s t) n k x b c ld l h hk hx hb hc = (
      (first_in (count s) (n + 1) k (omega (arith, l)) (omega (arith, h)) hk, first_in (count t) (n + 1 + count s) k (omega (arith, l)) (omega (arith, h)) hk),
      each_two lo hi (nodes_in f s (n + 1) k x b c) (nodes_in f t (n + 1 + count s) k x b c) (stays looped s (n + 1) k x b c ld.0 (omega (arith, l)) (omega (arith, h)) hk hx hb hc)
          (stays looped t (n + 1 + count s) k x b c ld.1 (omega (arith, l)) (omega (arith, h)) hk hx hb hc),
    )
    stays looped (While at s) n k x b c ld l h hk hx hb hc =
        let hn : In lo hi n = (l, omega (arith, h)) in
        ((first_in (count s) (n + 1) n (omega (arith, l)) (omega (arith, h)) hn, hk), stays true s (n + 1) n x (Some k) (Some n) ld (omega (arith, l)) (omega (arith, h)) hn hx (λ y. hk) (λ y. hn))
    stays looped (Do at s) n k x b c ld l h hk hx hb hc =
        let ht : In lo hi (n + count s) = (omega (arith, l), omega (arith, h)) in
        let hn : In lo hi n = (l, omega (arith, h)) in
        each_two lo hi (nodes_in f s n (n + count s) x (Some k) (Some (n + count s))) (branch f n k ∷ [])
        (stays true s n (n + count s) x (Some k) (Some (n + count s)) ld l (omega (arith, h)) ht hx (λ y. hk) (λ y. ht)) ((hn, hk), tt)
    stays looped (For at init decided stepped s) n k x b c ld l h hk hx hb hc =
        let t = test_of n init in
        let a = turn_of n init stepped in
        let m = first (count s) (a + 1) a in
        let ht : In lo hi (n + one_if_some init) = (omega (arith, l), omega (arith, h)) in
        let ha : In lo hi (n + one_if_some init + one_if stepped) = (omega (arith, l), omega (arith, h)) in
        let body = nodes_in f s (a + 1) a x (Some k) (Some a) in
        let hm = first_in (count s) (a + 1) a (omega (arith, l)) (omega (arith, h)) ha in
        let rest = each_two lo hi (step_nodes f stepped t) body (step_stays stepped t ht)
        (stays true s (a + 1) a x (Some k) (Some a) ld (omega (arith, l)) (omega (arith, h)) ha hx (λ y. hk) (λ y. ha)) in
        each_two lo hi (init_nodes f init t) (turns f decided stepped m k t body) (init_stays init t ht) (test_stays decided m k hm hk, rest)

    stays_all : (looped : Bool) (ss : Stms) (n k x : ℕ) (b c : Option ℕ) → LandsAll looped ss → lo ≤ n → n + count_all ss ≤ hi + 1 → In lo hi k → In lo hi x → (looped ≡ true → IsBetween lo hi b)
        → (looped ≡ true → IsBetween lo hi c) → EachStays lo hi (nodes_in_all f ss n k x b c)
    stays_all looped end n k x b c ld l h hk hx hb hc = tt
    stays_all looped (then s ss) n k x b c ld l h hk hx hb hc =
        let m = first (count_all ss) (n + count s) k in
        let hm = first_in (count_all ss) (n + count s) k (omega (arith, l)) (omega (arith, h)) hk in
        each_two lo hi (nodes_in f s n m x b c) (nodes_in_all f ss (n + count s) k x b c) (stays looped s n m x b c ld.0 l (omega (arith, h)) hm hx hb hc)
        (stays_all looped ss (n + count s) k x b c ld.1 (omega (arith, l)) (omega (arith, h)) hk hx hb hc)

-- the points of a function that begins at n
stays_of : (f : ℕ) (r : Routine) (n : ℕ) → LandsAll false r.body → EachStays n (exit_of r n) (nodes_of f r n)
stays_of f r n ld =
    let x = exit_of r n in
    let hx : In n x x = (omega arith, omega arith) in
    let body = nodes_in_all f r.body (n + 1) x x None None in
    let last : List Node = node point.Exit f None None ∷ [] in (
      first_in n x f (count_all r.body) (n + 1) x (omega arith) (omega arith) hx,
      each_two n x body last (stays_all n x f false r.body (n + 1) x x None None ld (omega arith) (omega arith) hx hx (λ y. absurd (false≢true y)) (λ y. absurd (false≢true y))) (tt, tt),
    )

length_of : (f : ℕ) (r : Routine) (n : ℕ) → n + length (nodes_of f r n) ≡ exit_of r n + 1
length_of f r n =
    let x = exit_of r n in
    let body = nodes_in_all f r.body (n + 1) x x None None in
    let last : List Node = node point.Exit f None None ∷ [] in
    omega (arith, length-append body last, nodes_length_all f r.body (n + 1) x x None None)

stays_at : (lo hi : ℕ) (ns : List Node) (p : ℕ) (n : Node) → EachStays lo hi ns → slice_get ns p ≡ Some n → Stays lo hi n
stays_at lo hi [] p n h e = absurd (none-some n e)
stays_at lo hi (m ∷ ns) zero n h e = subst (λ (y : Node). Stays lo hi y) (same_Some m n e) h.0
stays_at lo hi (m ∷ ns) (suc p) n h e = stays_at lo hi ns p n h.1 e

two_at : (a b : List Node) (p : ℕ) (n : Node) → p < length a → slice_get (a ++ b) p ≡ Some n → slice_get a p ≡ Some n
two_at [] b p n lt e = absurd (omega (arith, lt))
two_at (m ∷ a) b zero n lt e = e
two_at (m ∷ a) b (suc p) n lt e = two_at a b p n (omega (arith, lt)) e

two_past : (a b : List Node) (p : ℕ) → slice_get (a ++ b) (length a + p) ≡ slice_get b p
two_past [] b p = let e : 0 + p ≡ p = omega arith in ap (slice_get b) e
two_past (m ∷ a) b p = let e : length (m ∷ a) + p ≡ suc (length a + p) = omega arith in ap (slice_get (m ∷ (a ++ b))) e ∙ two_past a b p

-- where a part begins and ends
parts_rise : (rs : List Routine) (splits : List Bool) (n i : ℕ) (q : Part) → slice_get (parts_from rs splits n) i ≡ Some q → (n ≤ q.entry.0) × (q.entry.0 ≤ q.exit.0)
parts_rise [] [] n i q e = absurd (none-some q e)
parts_rise [] (split ∷ splits) n i q e = absurd (none-some q e)
parts_rise (r ∷ rs) [] n i q e = absurd (none-some q e)
parts_rise (r ∷ rs) (split ∷ splits) n zero q e = subst (λ (y : Part). (n ≤ y.entry.0) × (y.entry.0 ≤ y.exit.0)) (same_Some (part n (exit_of r n) split) q e) (omega arith, omega arith)
parts_rise (r ∷ rs) (split ∷ splits) n (suc i) q e = let h = parts_rise rs splits (exit_of r n + 1) i q e in (omega (arith, h.0), h.1)

-- each point of a part leads to points of the part
pub part_stays : (rs : List Routine) (splits : List Bool) (f n i k : ℕ) (q : Part) (w : Node) → ((g : ℕ) (r : Routine) → slice_get rs g ≡ Some r → LandsAll false r.body)
    → slice_get (parts_from rs splits n) i ≡ Some q → slice_get (nodes_from f rs n) k ≡ Some w
    → q.entry.0 ≤ n + k → n + k ≤ q.exit.0 → Stays q.entry.0 q.exit.0 w
part_stays [] [] f n i k q w ld e d lo hi = absurd (none-some q e)
part_stays [] (split ∷ splits) f n i k q w ld e d lo hi = absurd (none-some q e)
part_stays (r ∷ rs) [] f n i k q w ld e d lo hi = absurd (none-some q e)
part_stays (r ∷ rs) (split ∷ splits) f n zero k q w ld e d lo hi =
    let same : part n (exit_of r n) split ≡ q = same_Some (part n (exit_of r n) split) q e in
    let x = ap (λ (y : Part). y.exit.0) same in
    let lt : k < length (nodes_of f r n) = omega (arith, length_of f r n, hi, x) in
    subst (λ (y : Part). Stays y.entry.0 y.exit.0 w) same
    (stays_at n (exit_of r n) (nodes_of f r n) k w (stays_of f r n (ld 0 r refl)) (two_at (nodes_of f r n) (nodes_from (f + 1) rs (exit_of r n + 1)) k w lt d))
part_stays (r ∷ rs) (split ∷ splits) f n (suc i) k q w ld e d lo hi =
    let rise = parts_rise rs splits (exit_of r n + 1) i q e in
    let len = length_of f r n in
    let back : length (nodes_of f r n) + (k - length (nodes_of f r n)) ≡ k = omega (arith, len, rise.0, lo) in
    let at : exit_of r n + 1 + (k - length (nodes_of f r n)) ≡ n + k = omega (arith, len, back) in
    let there = sym (two_past (nodes_of f r n) (nodes_from (f + 1) rs (exit_of r n + 1)) (k - length (nodes_of f r n)))
    ∙ ap (slice_get (nodes_of f r n ++ nodes_from (f + 1) rs (exit_of r n + 1))) back ∙ d in
    part_stays rs splits (f + 1) (exit_of r n + 1) i (k - length (nodes_of f r n)) q w (λ g o at. ld (suc g) o at) e there (omega (arith, at, lo)) (omega (arith, at, hi))

pub part_rises : (rs : List Routine) (splits : List Bool) (i : ℕ) (q : Part) → slice_get (parts_from rs splits 0) i ≡ Some q → q.entry.0 ≤ q.exit.0
part_rises rs splits i q e = (parts_rise rs splits 0 i q e).1
