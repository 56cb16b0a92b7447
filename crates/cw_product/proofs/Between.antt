-- Each point of a function leads to points of the function.
use Rattle.std.proofs.Common.{◌≡◌, ℕ, zero, suc, ◌+◌, ◌≤◌, List, [], ◌∷◌, ◌++◌, length, Bool, true, false, Option, Some, None, refl, ap}
use Rattle.std.proofs.Common.{subst, length-append, arith, ⊎_elim}
use Rattle.std.specs.Prelude.{slice_get}
use Rattle.std.proofs.lemmas.Option.{none-some, same_Some, slice_get_within}
use Rattle.cw_syntax.specs.Plans.{Stm, Plain, Break, Continue, Return, Open, Close, Call, Group, Label, If, While, Do, For, Stms, end, then, Routine}
use Rattle.cw_syntax.specs.Runnable.{Lands, LandsAll}
use Rattle.cw_points.specs.declared.graph.Point.{Point}
use Rattle.cw_points.specs.declared.graph.Point.TheVariants as point
use Rattle.cw_points.specs.declared.graph.Node.{Node}
use Rattle.cw_points.specs.declared.graph.Part.{Part}
use Rattle.cw_points.specs.Points.{count, count_all, one_if, one_if_some}
use Rattle.cw_points.specs.Graphs.{node, step, branch, first, init_nodes, test_node, step_nodes, turns, test_of, turn_of, nodes_in}
use Rattle.cw_points.specs.Graphs.{nodes_in_all, exit_of, nodes_of, nodes_from, part, parts_from}
use Rattle.cw_points.specs.Walks.{first_of, second_of}
use Rattle.cw_points.proofs.Lengths.{nodes_length_all}
use Rattle.cw_positions.proofs.Standing.{found_two}
use Rattle.cw_product.specs.Routes.{IsBetween}

module _ (low high : ℕ) where
  -- a successor that is there, and is a point between
  abbrev pub GoesTo : Option ℕ → Type 0
  GoesTo None = ⊥
  GoesTo (Some p) = IsBetween low high p

  abbrev pub Goes : Point → Option ℕ → Option ℕ → Type 0
  Goes point.Entry a b = GoesTo a
  Goes point.Step a b = GoesTo a
  Goes point.Branch a b = GoesTo a × GoesTo b
  Goes (point.Label l) a b = GoesTo a
  Goes (point.Open d) a b = GoesTo a
  Goes (point.Close d) a b = GoesTo a
  Goes (point.Call f) a b = GoesTo a
  Goes point.Exit a b = Unit {0}

  abbrev pub NodeGoes : Node → Type 0
  NodeGoes n = Goes n.point (first_of n.next) (second_of n.next)

  abbrev EachGoes : List Node → Type 0
  EachGoes [] = Unit {0}
  EachGoes (n ∷ ns) = NodeGoes n × EachGoes ns

  each_two : (a b : List Node) → EachGoes a → EachGoes b → EachGoes (a ++ b)
  each_two [] b h e = e
  each_two (n ∷ a) b h e = (h.0, each_two a b h.1 e)

  each_at : (ns : List Node) (p : ℕ) (n : Node) → EachGoes ns → slice_get ns p ≡ Some n → NodeGoes n
  each_at [] p n h e = absurd (none-some n e)
  each_at (m ∷ ns) zero n h e = subst NodeGoes (same_Some m n e) h.0
  each_at (m ∷ ns) (suc p) n h e = each_at ns p n h.1 e

  -- where a jump leads, of a loop that is around it
  abbrev Jumps : Bool → Option ℕ → Type 0
  Jumps true o = GoesTo o
  Jumps false o = Unit {0}

  first_goes : (c n k : ℕ) → low ≤ n → n + c ≤ high → IsBetween low high k → IsBetween low high (first c n k)
  first_goes zero n k l h e = e
  first_goes (suc c) n k l h e = (l, omega arith)

  jump_goes : (f : ℕ) (looped : Bool) (o : Option ℕ) → looped ≡ true → Jumps looped o → EachGoes (step f o ∷ [])
  jump_goes f true (Some p) e h = (h, tt)
  jump_goes f true None e h = absurd h
  jump_goes f false o e h = absurd (cc)

  init_goes : (f : ℕ) (init : Option ℕ) (t : ℕ) → IsBetween low high t → EachGoes (init_nodes f init t)
  init_goes f None t h = tt
  init_goes f (Some at) t h = (h, tt)

  test_goes : (f : ℕ) (decided : Bool) (m k : ℕ) → IsBetween low high m → IsBetween low high k → NodeGoes (test_node f decided m k)
  test_goes f true m k h e = (h, e)
  test_goes f false m k h e = h

  step_goes : (f : ℕ) (stepped : Bool) (t : ℕ) → IsBetween low high t → EachGoes (step_nodes f stepped t)
  step_goes f true t h = (h, tt)
  step_goes f false t h = tt

  module _ (f : ℕ) where
    mutual
      goes : (s : Stm) (looped : Bool) (n k x : ℕ) (b c : Option ℕ) → Lands looped s → low ≤ n → n + count s ≤ high → IsBetween low high k
          → IsBetween low high x → Jumps looped b
          → Jumps looped c → EachGoes (nodes_in f s n k x b c)
      goes (Plain at) looped n k x b c lands l h hk hx hb hc = (hk, tt)
      goes (Break at) looped n k x b c lands l h hk hx hb hc = jump_goes f looped b lands hb
      goes (Continue at) looped n k x b c lands l h hk hx hb hc = jump_goes f looped c lands hc
      goes (Return at) looped n k x b c lands l h hk hx hb hc = (hx, tt)
      goes (Open at j d) looped n k x b c lands l h hk hx hb hc = (hk, tt)
      goes (Close at j d) looped n k x b c lands l h hk hx hb hc = (hk, tt)
      goes (Call at j callee) looped n k x b c lands l h hk hx hb hc = (hk, tt)
      goes (Group ss) looped n k x b c lands l h hk hx hb hc = goes_all ss looped n k x b c lands l h hk hx hb hc
      goes (Label at mark j m s) looped n k x b c lands l h hk hx hb hc = (
        first_goes (count s) (n + 1) k (omega arith) (omega arith) hk,
        goes s looped (n + 1) k x b c lands (omega arith)
            (omega arith) hk hx hb hc,
      )
      goes (If at s t) looped n k x b c lands l h hk hx hb hc = (
        (first_goes (count s) (n + 1) k (omega arith) (omega arith) hk, first_goes (count t) (n + 1 + count s) k (omega arith) (omega arith) hk),
        each_two (nodes_in f s (n + 1) k x b c) (nodes_in f t (n + 1 + count s) k x b c) (goes s looped (n + 1) k x b c lands.0 (omega arith)
            (omega arith) hk hx hb hc)
            (goes t looped (n + 1 + count s) k x b c lands.1 (omega arith) (omega arith) hk hx hb hc),
      )
      goes (While at s) looped n k x b c lands l h hk hx hb hc =
          let hn : IsBetween low high n = (l, omega arith) in (
            (first_goes (count s) (n + 1) n (omega arith) (omega arith) hn, hk),
            goes s true (n + 1) n x (Some k) (Some n) lands (omega arith)
                (omega arith) hn hx hk hn,
          )
      goes (Do at s) looped n k x b c lands l h hk hx hb hc =
          let ht : IsBetween low high (n + count s) = (omega arith, omega arith) in
          let hn : IsBetween low high n = (l, omega arith) in
          each_two (nodes_in f s n (n + count s) x (Some k) (Some (n + count s))) (branch f n k ∷ [])
          (goes s true n (n + count s) x (Some k) (Some (n + count s)) lands l (omega arith) ht hx hk ht) ((hn, hk), tt)
      goes (For at init decided stepped s) looped n k x b c lands l h hk hx hb hc =
          let t = test_of n init in
          let a = turn_of n init stepped in
          let m = first (count s) (a + 1) a in
          let ht : IsBetween low high (n + one_if_some init) = (omega arith, omega arith) in
          let ha : IsBetween low high (n + one_if_some init + one_if stepped) = (omega arith, omega arith) in
          let body = nodes_in f s (a + 1) a x (Some k) (Some a) in
          let hm = first_goes (count s) (a + 1) a (omega arith) (omega arith) ha in
          let rest = each_two (step_nodes f stepped t) body (step_goes f stepped t ht) (goes s true (a + 1) a x (Some k) (Some a) lands
          (omega arith) (omega arith) ha hx hk ha) in
          each_two (init_nodes f init t) (turns f decided stepped m k t body) (init_goes f init t ht) (test_goes f decided m k hm hk, rest)

      goes_all : (ss : Stms) (looped : Bool) (n k x : ℕ) (b c : Option ℕ) → LandsAll looped ss → low ≤ n → n + count_all ss ≤ high
          → IsBetween low high k → IsBetween low high x
          → Jumps looped b → Jumps looped c → EachGoes (nodes_in_all f ss n k x b c)
      goes_all end looped n k x b c lands l h hk hx hb hc = tt
      goes_all (then s ss) looped n k x b c lands l h hk hx hb hc =
          let m = first (count_all ss) (n + count s) k in
          let hm = first_goes (count_all ss) (n + count s) k (omega arith) (omega arith) hk in
          each_two (nodes_in f s n m x b c) (nodes_in_all f ss (n + count s) k x b c) (goes s looped n m x b c lands.0 l (omega arith) hm hx hb hc)
          (goes_all ss looped (n + count s) k x b c lands.1 (omega arith) (omega arith) hk hx hb hc)

-- the points of one function
function_goes : (f : ℕ) (r : Routine) (n : ℕ) → LandsAll false r.body → EachGoes n (exit_of r n) (nodes_of f r n)
function_goes f r n lands =
    let x = exit_of r n in
    let hx : IsBetween n (exit_of r n) (exit_of r n) = (omega arith, omega arith) in
    let body = nodes_in_all f r.body (n + 1) x x None None in
    let last : List Node = node point.Exit f None None ∷ [] in (
      first_goes n x (count_all r.body) (n + 1) x (omega arith) (omega arith) hx,
      each_two n x body last (goes_all n x f r.body false (n + 1) x x None None lands (omega arith) (omega arith) hx hx tt tt) (tt, tt),
    )

pub length_of : (f : ℕ) (r : Routine) (n : ℕ) → length (nodes_of f r n) ≡ suc (suc (count_all r.body))
length_of f r n =
    let x = exit_of r n in
    let body = nodes_in_all f r.body (n + 1) x x None None in
    let last : List Node = node point.Exit f None None ∷ [] in
    omega (arith, length-append body last, nodes_length_all f r.body (n + 1) x x None None)

-- a part begins behind those before it
pub part_low : (rs : List Routine) (splits : List Bool) (n i : ℕ) (p : Part) → slice_get (parts_from rs splits n) i ≡ Some p → n ≤ p.entry.0
part_low [] splits n i p e = absurd (none-some p e)
part_low (r ∷ rs) [] n i p e = absurd (none-some p e)
part_low (r ∷ rs) (split ∷ splits) n zero p e = let same = same_Some (part n (exit_of r n) split) p e in omega (
  arith,
  ap (λ
      (q : Part). q.entry.0) same,
)
part_low (r ∷ rs) (split ∷ splits) n (suc i) p e = omega (arith, part_low rs splits (exit_of r n + 1) i p e)

-- a part ends behind where it begins
pub part_order : (rs : List Routine) (splits : List Bool) (n i : ℕ) (p : Part) → slice_get (parts_from rs splits n) i ≡ Some p → p.entry.0 ≤ p.exit.0
part_order [] splits n i p e = absurd (none-some p e)
part_order (r ∷ rs) [] n i p e = absurd (none-some p e)
part_order (r ∷ rs) (split ∷ splits) n zero p e =
    let same = same_Some (part n (exit_of r n) split) p e in omega (arith, ap (λ (q : Part). q.entry.0) same, ap (λ (q : Part). q.exit.0) same)
part_order (r ∷ rs) (split ∷ splits) n (suc i) p e = part_order rs splits (exit_of r n + 1) i p e

-- the points of a part lead to points of it
pub points_stay : (f : ℕ) (rs : List Routine) (splits : List Bool) (n : ℕ) → ((i : ℕ) (r : Routine) → slice_get rs i ≡ Some r
    → LandsAll false r.body)
    → (i : ℕ) (p : Part) → slice_get (parts_from rs splits n) i ≡ Some p → (q : ℕ) (m : Node) → slice_get (nodes_from f rs n) q ≡ Some m
    → p.entry.0 ≤ n + q → n + q ≤ p.exit.0 → NodeGoes p.entry.0 p.exit.0 m
points_stay f [] splits n lands i p e q m s l h = absurd (none-some m s)
points_stay f (r ∷ rs) [] n lands i p e q m s l h = absurd (none-some p e)
points_stay f (r ∷ rs) (split ∷ splits) n lands zero p e q m s l h =
    let same = same_Some (part n (exit_of r n) split) p e in
    subst (λ (k : Part). NodeGoes k.entry.0 k.exit.0 m) same
    (⊎_elim (λ y. each_at n (exit_of r n) (nodes_of f r n) q m (function_goes f r n (lands 0 r refl)) y)
    (λ y. absurd (omega (arith, y.2, length_of f r n, h, ap (λ (k : Part). k.exit.0) same))) (found_two (nodes_of f r n) (nodes_from (f + 1) rs
    (exit_of r n + 1)) q m s))
points_stay f (r ∷ rs) (split ∷ splits) n lands (suc i) p e q m s l h =
    ⊎_elim (λ y. absurd (omega (arith, slice_get_within (nodes_of f r n) q m y, length_of f r n, l, part_low rs splits (exit_of r n + 1) i p e)))
    (λ y. points_stay (f + 1) rs splits (exit_of r n + 1) (λ k o d. lands (suc k) o d) i p e y.0 m y.1 (omega (arith, y.2, length_of f r n, l))
    (omega (arith, y.2, length_of f r n, h)))
    (found_two (nodes_of f r n) (nodes_from (f + 1) rs (exit_of r n + 1)) q m s)
