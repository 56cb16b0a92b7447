-- Of a function's positions an exit stands at the last one alone.
use Rattle.std.proofs.Common.{◌≡◌, ℕ, zero, suc, ◌+◌, ◌≤◌, List, [], ◌∷◌, ◌++◌, length, Bool, true, false, cond, Option, Some, None, refl, sym, ap, ◌∙◌}
use Rattle.std.proofs.Common.{arith, ⊎_elim}
use Rattle.std.specs.Prelude.{slice_get}
use Rattle.std.proofs.lemmas.Option.{none-some, same_Some, slice_get_within}
use Rattle.cw_rights.specs.declared.capabilities.Primitive.{Primitive}
use Rattle.cw_syntax.specs.Plans.{Stm, Plain, Break, Continue, Return, Open, Close, Call, Group, Label, If, While, Do, For, Stms, end, then, Routine}
use Rattle.cw_game.specs.declared.spots.Spot.{Spot}
use Rattle.cw_game.specs.declared.spots.Spot.TheVariants.{Exit}
use Rattle.cw_points.specs.declared.graph.Point.{Point}
use Rattle.cw_points.specs.declared.graph.Point.TheVariants as point
use Rattle.cw_points.specs.declared.graph.Node.{Node}
use Rattle.cw_points.specs.declared.graph.Part.{Part}
use Rattle.cw_points.specs.Points.{count, count_all, one_if, one_if_some}
use Rattle.cw_points.specs.Graphs.{node, step, branch, first, init_nodes, test_node, step_nodes, turns, test_of, turn_of, nodes_in}
use Rattle.cw_points.specs.Graphs.{nodes_in_all, exit_of, nodes_of, nodes_from, part, parts_from}
use Rattle.cw_points.proofs.Lengths.{nodes_length_all}
use Rattle.cw_positions.specs.Positions.{visits, free, is_split}
use Rattle.cw_positions.proofs.Standing.{found_two}
use Rattle.cw_product.proofs.Between.{length_of, part_low}

-- no function ends there
abbrev pub goes_on : Point → Bool
goes_on point.Exit = false
goes_on _ = true

abbrev AllGoOn : List Node → Type 0
AllGoOn [] = Unit {0}
AllGoOn (n ∷ ns) = (goes_on n.point ≡ true) × AllGoOn ns

all_two : (a b : List Node) → AllGoOn a → AllGoOn b → AllGoOn (a ++ b)
all_two [] b h e = e
all_two (n ∷ a) b h e = (h.0, all_two a b h.1 e)

all_at : (ns : List Node) (p : ℕ) (n : Node) → AllGoOn ns → slice_get ns p ≡ Some n → goes_on n.point ≡ true
all_at [] p n h e = absurd (none-some n e)
all_at (m ∷ ns) zero n h e = ap (λ (k : Node). goes_on k.point) (sym (same_Some m n e)) ∙ h.0
all_at (m ∷ ns) (suc p) n h e = all_at ns p n h.1 e

init_on : (f : ℕ) (init : Option ℕ) (t : ℕ) → AllGoOn (init_nodes f init t)
init_on f None t = tt
init_on f (Some at) t = (refl, tt)

test_on : (f : ℕ) (decided : Bool) (m k : ℕ) → goes_on (test_node f decided m k).point ≡ true
test_on f true m k = refl
test_on f false m k = refl

step_on : (f : ℕ) (stepped : Bool) (t : ℕ) → AllGoOn (step_nodes f stepped t)
step_on f true t = (refl, tt)
step_on f false t = tt

module _ (f : ℕ) where
  mutual
    go_on : (s : Stm) (n k x : ℕ) (b c : Option ℕ) → AllGoOn (nodes_in f s n k x b c)
    go_on (Plain at) n k x b c = (refl, tt)
    go_on (Break at) n k x b c = (refl, tt)
    go_on (Continue at) n k x b c = (refl, tt)
    go_on (Return at) n k x b c = (refl, tt)
    go_on (Open at j d) n k x b c = (refl, tt)
    go_on (Close at j d) n k x b c = (refl, tt)
    go_on (Call at j callee) n k x b c = (refl, tt)
    go_on (Group ss) n k x b c = all_go_on ss n k x b c
    go_on (Label at mark j m s) n k x b c = (refl, go_on s (n + 1) k x b c)
    go_on (If at s t) n k x b c =
        (refl, all_two (nodes_in f s (n + 1) k x b c) (nodes_in f t (n + 1 + count s) k x b c) (go_on s (n + 1) k x b c) (go_on t (n + 1 + count s) k x b c))
    go_on (While at s) n k x b c = (refl, go_on s (n + 1) n x (Some k) (Some n))
    go_on (Do at s) n k x b c =
        all_two (nodes_in f s n (n + count s) x (Some k) (Some (n + count s))) (branch f n k ∷ []) (go_on s n (n + count s) x (Some k) (Some (n + count s))) (refl, tt)
    go_on (For at init decided stepped s) n k x b c =
        let t = test_of n init in
        let a = turn_of n init stepped in
        let m = first (count s) (a + 1) a in
        let body = nodes_in f s (a + 1) a x (Some k) (Some a) in
        all_two (init_nodes f init t) (turns f decided stepped m k t body) (init_on f init t)
        (test_on f decided m k, all_two (step_nodes f stepped t) body (step_on f stepped t) (go_on s (a + 1) a x (Some k) (Some a)))

    all_go_on : (ss : Stms) (n k x : ℕ) (b c : Option ℕ) → AllGoOn (nodes_in_all f ss n k x b c)
    all_go_on end n k x b c = tt
    all_go_on (then s ss) n k x b c =
        let m = first (count_all ss) (n + count s) k in
        all_two (nodes_in f s n m x b c) (nodes_in_all f ss (n + count s) k x b c) (go_on s n m x b c) (all_go_on ss (n + count s) k x b c)

-- of the points of one function the last alone doesn't go on
function_alone : (f : ℕ) (r : Routine) (n q : ℕ) (m : Node) → slice_get (nodes_of f r n) q ≡ Some m → goes_on m.point ≡ false → n + q ≡ exit_of r n
function_alone f r n zero m e h =
    let same = same_Some (node point.Entry f (Some (first (count_all r.body) (n + 1) (exit_of r n))) (Some r.seam)) m e in
    let bad : true ≡ false = ap (λ (k : Node). goes_on k.point) same ∙ h in
    cc
function_alone f r n (suc q) m e h =
    let x = exit_of r n in
    let body = nodes_in_all f r.body (n + 1) x x None None in
    let last : List Node = node point.Exit f None None ∷ [] in
    let long = nodes_length_all f r.body (n + 1) x x None None in
    ⊎_elim (λ y. let bad : true ≡ false = sym (all_at body q m (all_go_on f r.body (n + 1) x x None None) y) ∙ h in absurd (cc))
    (λ y. let within = slice_get_within last y.0 m y.1 in omega (arith, y.2, long, within)) (found_two body last q m e)

-- of the points of a part the last alone is an exit
pub points_alone : (f : ℕ) (rs : List Routine) (splits : List Bool) (n i : ℕ) (p : Part) → slice_get (parts_from rs splits n) i ≡ Some p
    → (q : ℕ) (m : Node) → slice_get (nodes_from f rs n) q ≡ Some m → p.entry.0 ≤ n + q → n + q ≤ p.exit.0 → goes_on m.point ≡ false → n + q ≡ p.exit.0
points_alone f [] splits n i p e q m s l h x = absurd (none-some m s)
points_alone f (r ∷ rs) [] n i p e q m s l h x = absurd (none-some p e)
points_alone f (r ∷ rs) (split ∷ splits) n zero p e q m s l h x =
    let same = ap (λ (k : Part). k.exit.0) (same_Some (part n (exit_of r n) split) p e) in
    ⊎_elim (λ y. omega (arith, function_alone f r n q m y x, same)) (λ y. absurd (omega (arith, y.2, length_of f r n, h, same)))
    (found_two (nodes_of f r n) (nodes_from (f + 1) rs (exit_of r n + 1)) q m s)
points_alone f (r ∷ rs) (split ∷ splits) n (suc i) p e q m s l h x =
    ⊎_elim (λ y. absurd (omega (arith, slice_get_within (nodes_of f r n) q m y, length_of f r n, l, part_low rs splits (exit_of r n + 1) i p e)))
    (λ y. let z = points_alone (f + 1) rs splits (exit_of r n + 1) i p e y.0 m y.1 (omega (arith, y.2, length_of f r n, l)) (omega (arith, y.2, length_of f r n, h)) x in
    omega (arith, z, y.2, length_of f r n)) (found_two (nodes_of f r n) (nodes_from (f + 1) rs (exit_of r n + 1)) q m s)

-- an exit among the positions of a point: the point is one
not_visited : (j i : ℕ) (later : List Primitive) (q f : ℕ) → slice_get (visits j i later) q ≡ Some (Exit f) → ⊥
not_visited j i [] q f e = none-some _ e
not_visited j i (a ∷ later) zero f e = let z = same_Some _ _ e in cc
not_visited j i (a ∷ later) (suc zero) f e = let z = same_Some _ _ e in cc
not_visited j i (a ∷ later) (suc (suc q)) f e = not_visited j (suc i) later q f e

one_only : (s : Spot) (q f : ℕ) → slice_get (s ∷ []) q ≡ Some (Exit f) → s ≡ Exit f
one_only s zero f e = same_Some s _ e
one_only s (suc q) f e = absurd (none-some _ e)

not_called : (split : Bool) (s t : Spot) (q f : ℕ) → (s ≡ Exit f → ⊥) → (t ≡ Exit f → ⊥) → slice_get (s ∷ cond split (t ∷ []) []) q ≡ Some (Exit f) → ⊥
not_called split s t zero f hs ht e = hs (same_Some s _ e)
not_called true s t (suc q) f hs ht e = ht (one_only t q f e)
not_called false s t (suc q) f hs ht e = none-some _ e

not_free : (parts : List Part) (w : Point) (g j left right q f : ℕ) → goes_on w ≡ true → slice_get (free parts w g j left right) q ≡ Some (Exit f) → ⊥
not_free parts point.Entry g j left right q f h e = let z = one_only _ q f e in cc
not_free parts point.Step g j left right q f h e = let z = one_only _ q f e in cc
not_free parts point.Branch g j left right q f h e = let z = one_only _ q f e in cc
not_free parts (point.Label l) g j left right q f h e = let z = one_only _ q f e in cc
not_free parts (point.Open d) g j left right q f h e = let z = one_only _ q f e in cc
not_free parts (point.Close d) g j left right q f h e = let z = one_only _ q f e in cc
not_free parts (point.Call m) g j left right q f h e = not_called (is_split parts m) _ _ q f (λ z. cc) (λ z. cc) e
not_free parts point.Exit g j left right q f h e = cc

pub exit_point : (parts : List Part) (later : List Primitive) (w : Point) (g j left right q f : ℕ)
    → slice_get (visits j 0 later ++ free parts w g j left right) q ≡ Some (Exit f) → goes_on w ≡ false
exit_point parts later w g j left right q f e =
    ⊎_elim (λ y. absurd (not_visited j 0 later q f y)) (λ y. by (goes_on w) refl (λ h. not_free parts w g j left right y.0 f h y.1))
    (found_two (visits j 0 later) (free parts w g j left right) q (Exit f) e)
  where
    by : (b : Bool) → goes_on w ≡ b → (goes_on w ≡ true → ⊥) → goes_on w ≡ false
    by true e h = absurd (h e)
    by false e h = e
