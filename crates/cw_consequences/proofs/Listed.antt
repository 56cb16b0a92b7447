-- The game of a program and a varied policy has the positions and the states of the policy as it was.
use Rattle.std.proofs.Common.{◌≡◌, ℕ, ◌+◌, ◌*◌, List, ◌++◌, Bool, false, cond, length, take, refl, ap, ap₂, ◌∙◌, subst}
use Rattle.std.specs.Prelude.{slice_get, option_map}
use Rattle.std.specs.List.{sum_by, flat_map}
use Rattle.std.specs.Ordering.{nat_cmp}
use Rattle.std.proofs.lemmas.Cmp.{nat_cmp_total}
use Rattle.cw_rights.specs.declared.capabilities.Caps.{Caps}
use Rattle.cw_rights.specs.declared.capabilities.Primitive.{Primitive}
use Rattle.cw_rights.specs.Policies.{PlainPolicy, policy_of}
use Rattle.cw_fixpoint.specs.Closures.{Exactly}
use Rattle.cw_dfa.specs.States.{Reached}
use Rattle.cw_game.specs.Games.{Game}
use Rattle.cw_points.specs.declared.graph.Point.{Point}
use Rattle.cw_points.specs.declared.graph.Point.TheVariants as point
use Rattle.cw_points.specs.declared.graph.Node.{Node}
use Rattle.cw_points.specs.declared.graph.Part.{Part}
use Rattle.cw_points.specs.declared.graph.Graph.{Graph}
use Rattle.cw_points.specs.Walks.{first_of, second_of}
use Rattle.cw_positions.specs.Positions.{is_split_call, primitives_at, width, base, visits, free, number, to, spots_at, spots_in}
use Rattle.cw_states.specs.declared.uses.Uses.{Uses}
use Rattle.cw_states.specs.Rights.{IsRightsState, at_start, by_enter, by_limit, by_open, by_close, caps_cmp}
use Rattle.cw_states.specs.States.{AreLists, letters_of, lists_of, states_of}
use Rattle.cw_states.proofs.Ordered.{caps_total}
use Rattle.cw_product.specs.Product.{Held, game_of}
use Rattle.cw_product.specs.Uses.{uses_of}
use Rattle.cw_lazy_table.proofs.Sameness.{one}
use Rattle.cw_audit_laws.specs.Refusing.{ruled_by}
use Rattle.cw_consequences.specs.Unrefused.{varied}
use Rattle.cw_consequences.specs.Stopping.{GameIsUnrefused}
use Rattle.cw_consequences.proofs.Least.{same_functions}
use Rattle.cw_consequences.proofs.Rowed.{exactly}

-- where points begin that are so wide, and functions begin and end by where points do
abbrev begins : List Node → (Node → ℕ) → ℕ → ℕ
begins ns w k = sum_by w (take k ns)

abbrev entries : List Part → (ℕ → ℕ) → ℕ → ℕ
entries parts at f = to at (option_map (λ (part : Part). part.entry.0) (slice_get parts f))

abbrev exits : List Part → (ℕ → ℕ) → ℕ → ℕ
exits parts at f = to at (option_map (λ (part : Part). part.exit.0) (slice_get parts f))

module _ (p : PlainPolicy) (limit enter split stop : Bool) (format : ℕ) where
  abbrev y : PlainPolicy
  y = varied p limit enter split stop format

  -- the positions
  primitives_same : (parts : List Part) (w : Point) → primitives_at y parts w ≡ primitives_at p parts w
  primitives_same parts point.Entry = refl
  primitives_same parts point.Step = refl
  primitives_same parts point.Branch = refl
  primitives_same parts (point.Label l) = refl
  primitives_same parts (point.Open d) = refl
  primitives_same parts (point.Close d) = refl
  primitives_same parts (point.Call f) = refl
  primitives_same parts point.Exit = refl

  width_same : (parts : List Part) (w : Point) → width y parts w ≡ width p parts w
  width_same parts w = ap (λ (ps : List Primitive). 2 * length ps + 1 + cond (is_split_call parts w) 1 0) (primitives_same parts w)

  base_same : (parts : List Part) (ns : List Node) → base y parts ns ≡ base p parts ns
  base_same parts ns =
      ap (begins ns) (same_functions (λ (n : Node). width y parts n.point) (λ (n : Node). width p parts n.point) (λ n. width_same parts n.point))

  point_same : (parts : List Part) (at : ℕ → ℕ) (n : Node) → spots_at y parts at n ≡ spots_at p parts at n
  point_same parts at n =
      ap (λ ps. visits (number n.seam) 0 ps ++ free parts n.point n.function (number n.seam) (to at (first_of n.next)) (to at (second_of n.next))) (primitives_same parts n.point)

  pub spots_same : (parts : List Part) (ns : List Node) → spots_in (varied p limit enter split stop format) parts ns ≡ spots_in p parts ns
  spots_same parts ns =
      ap (λ at. flat_map (spots_at y parts at) ns) (base_same parts ns)
      ∙ ap (λ f. flat_map f ns) (same_functions (spots_at y parts (base p parts ns)) (spots_at p parts (base p parts ns)) (point_same parts (base p parts ns)))

  entry_same : (parts : List Part) (ns : List Node) → entries parts (base (varied p limit enter split stop format) parts ns) ≡ entries parts (base p parts ns)
  entry_same parts ns = ap (entries parts) (base_same parts ns)

  exit_same : (parts : List Part) (ns : List Node) → exits parts (base (varied p limit enter split stop format) parts ns) ≡ exits parts (base p parts ns)
  exit_same parts ns = ap (exits parts) (base_same parts ns)

  -- the rights states
  pub rights_forth : (uses : Uses) (c : Caps) → IsRightsState p uses c → IsRightsState (varied p limit enter split stop format) uses c
  rights_forth uses _ at_start = at_start
  rights_forth uses _ (by_enter c r) = by_enter c (rights_forth uses c r)
  rights_forth uses _ (by_limit c keeps i a r) = by_limit c keeps i a (rights_forth uses c r)
  rights_forth uses _ (by_open c d descriptor v r) = by_open c d descriptor v (rights_forth uses c r)
  rights_forth uses _ (by_close c d m r) = by_close c d m (rights_forth uses c r)

  pub rights_back : (uses : Uses) (c : Caps) → IsRightsState (varied p limit enter split stop format) uses c → IsRightsState p uses c
  rights_back uses _ at_start = at_start
  rights_back uses _ (by_enter c r) = by_enter c (rights_back uses c r)
  rights_back uses _ (by_limit c keeps i a r) = by_limit c keeps i a (rights_back uses c r)
  rights_back uses _ (by_open c d descriptor v r) = by_open c d descriptor v (rights_back uses c r)
  rights_back uses _ (by_close c d m r) = by_close c d m (rights_back uses c r)

abbrev built : List Part → List Node → ℕ → PlainPolicy → List Caps → List ℕ → Game
built parts ns main p rights sets = record {
  spots = spots_in p parts ns;
  entry = λ f. to (base p parts ns) (option_map (λ (part : Part). part.entry.0) (slice_get parts f));
  exit = λ f. to (base p parts ns) (option_map (λ (part : Part). part.exit.0) (slice_get parts f));
  main = main;
  policy = p;
  states = states_of (record { policy = p; rights = rights; sets = sets });
}

built_varied : (parts : List Part) (ns : List Node) (main : ℕ) (p : PlainPolicy) (limit enter split stop : Bool) (format : ℕ) (rights : List Caps) (sets : List ℕ)
    → built parts ns main (varied p limit enter split stop format) rights sets ≡ ruled_by (built parts ns main p rights sets) (varied p limit enter split stop format)
built_varied parts ns main p limit enter split stop format rights sets = λ i. record {
  spots = spots_same p limit enter split stop format parts ns i;
  entry = entry_same p limit enter split stop format parts ns i;
  exit = exit_same p limit enter split stop format parts ns i;
  main = main;
  policy = varied p limit enter split stop format;
  states = states_of (record { policy = p; rights = rights; sets = sets });
}

-- so the game of a graph and a varied policy is that of the policy as it was
pub game_varied : (h k : Held) (limit enter split stop : Bool) (format : ℕ)
    → AreLists (uses_of (policy_of h.states.policy) h.graph.nodes.items) (lists_of h.states)
    → AreLists (uses_of (policy_of k.states.policy) k.graph.nodes.items) (lists_of k.states)
    → k.graph.nodes.items ≡ h.graph.nodes.items → k.graph.parts.items ≡ h.graph.parts.items → k.graph.main ≡ h.graph.main
    → policy_of k.states.policy ≡ varied (policy_of h.states.policy) limit enter split stop format
    → game_of k ≡ ruled_by (game_of h) (varied (policy_of h.states.policy) limit enter split stop format)
game_varied h k limit enter split stop format own other nodes parts main policies =
    let p = policy_of h.states.policy in
    let y = varied p limit enter split stop format in
    let uses = uses_of p h.graph.nodes.items in
    let rs = k.states.rights in
    let xs = k.states.sets in
    let under_y : AreLists (uses_of y k.graph.nodes.items) (record { policy = y; rights = rs; sets = xs }) =
    subst (λ q. AreLists (uses_of q k.graph.nodes.items) (record { policy = q; rights = rs; sets = xs })) policies other in
    let lists : AreLists uses (record { policy = y; rights = rs; sets = xs }) =
    subst (λ (ns : List Node). AreLists (uses_of y ns) (record { policy = y; rights = rs; sets = xs })) nodes under_y in
    let rights : rs ≡ h.states.rights =
    one caps_cmp caps_total (IsRightsState p uses) rs h.states.rights
    (exactly caps_cmp (IsRightsState y uses) (IsRightsState p uses) rs (rights_back p limit enter split stop format uses) (rights_forth p limit enter split stop format uses) lists.rights)
    own.rights in
    let sets : xs ≡ h.states.sets =
    one nat_cmp nat_cmp_total (Reached p.rules (letters_of p uses h.states.rights)) xs h.states.sets
    (subst (λ (cs : List Caps). Exactly nat_cmp (Reached p.rules (letters_of p uses cs)) xs) rights lists.sets) own.sets in
    ap₂ (λ (ns : List Node) (q : PlainPolicy). built k.graph.parts.items ns k.graph.main q rs xs) nodes policies
    ∙ ap₂ (λ (ps : List Part) (m : ℕ). built ps h.graph.nodes.items m y rs xs) parts main
    ∙ ap₂ (built h.graph.parts.items h.graph.nodes.items h.graph.main y) rights sets
    ∙ built_varied h.graph.parts.items h.graph.nodes.items h.graph.main p limit enter split stop format h.states.rights h.states.sets

pub game_unrefused : GameIsUnrefused
game_unrefused h k made other graphs policies =
    game_varied h k false false false (policy_of h.states.policy).stop (policy_of h.states.policy).format made.lists other.lists
    (ap (λ (g : Graph). g.nodes.items) graphs) (ap (λ (g : Graph). g.parts.items) graphs) (ap (λ (g : Graph). g.main) graphs) policies
