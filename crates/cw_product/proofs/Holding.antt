-- What stands at the positions of a program's graph is what the states ask for, and so its game is the program's and the policy's.
use Rattle.std.proofs.Common.{◌≡◌, ℕ, zero, suc, ◌+◌, ◌<◌, ◌≤◌, List, [], ◌∷◌, Bool, true, false, cond, ◌||◌, length, map, Some, refl, sym}
use Rattle.std.proofs.Common.{ap, ◌∙◌, subst, inl, inr, arith, eq-eqb}
use Rattle.std.specs.Prelude.{slice_get}
use Rattle.std.specs.List.{list_any}
use Rattle.std.proofs.lemmas.Option.{none-some, same_Some}
use Rattle.std.proofs.lemmas.Bool.Decides.{leb_tells}
use Rattle.cw_rights.specs.Policies.{PlainDescriptor, PlainPolicy, policy_of}
use Rattle.cw_rights.specs.declared.policy.Policy.{Policy}
use Rattle.cw_rights.specs.Valid.{IsValid}
use Rattle.cw_syntax.specs.Trees.{File}
use Rattle.cw_syntax.specs.Plans.{plan_of}
use Rattle.cw_syntax.specs.Runnable.{IsRunnable}
use Rattle.cw_resolve.specs.Scenes.{names_of}
use Rattle.cw_model.specs.Boards.{problem_of}
use Rattle.cw_game.specs.declared.spots.Spot.TheVariants.{Label, Open, Close}
use Rattle.cw_game.specs.Games.{IsOpenedIn}
use Rattle.cw_game.specs.Standing.{IsGameOf}
use Rattle.cw_points.specs.declared.graph.Point.TheVariants as point
use Rattle.cw_points.specs.declared.graph.Node.{Node}
use Rattle.cw_points.specs.declared.graph.Graph.{Graph}
use Rattle.cw_points.specs.Graphs.{IsGraph}
use Rattle.cw_positions.specs.Positions.{spots}
use Rattle.cw_positions.specs.Laid.{IsGameOn}
use Rattle.cw_positions.specs.Opens.{AssignsNames}
use Rattle.cw_positions.specs.Origins.{IsPointWithin}
use Rattle.cw_lemmas.proofs.Lists.{get_below}
use Rattle.cw_positions.proofs.LaidOut.{laid_out, has_routines}
use Rattle.cw_positions.proofs.Opening.{programs_open_variables}
use Rattle.cw_positions.proofs.Origins.{positions_are_of_points}
use Rattle.cw_positions.proofs.Bounding.{points_are_within}
use Rattle.cw_states.specs.Rights.{IsVariable, MayClose}
use Rattle.cw_states.specs.States.{Held as HeldStates, AreLists, lists_of}
use Rattle.cw_states.specs.Spots.{Have}
use Rattle.cw_states.proofs.Meaning.{states_are_reached}
use Rattle.cw_product.specs.Uses.{is_close, is_label, closes_at, labels_at, closes_in, has_label, uses_of}
use Rattle.cw_product.specs.Product.{Held, game_of}
use Rattle.std.proofs.lemmas.Map.Keys.{any_passes_from_place as any_at}

eight : (f : ℕ → Bool) (d : ℕ) → d < 8 → slice_get (map f (0 ∷ 1 ∷ 2 ∷ 3 ∷ 4 ∷ 5 ∷ 6 ∷ 7 ∷ [])) d ≡ Some (f d)
eight f zero l = refl
eight f (suc zero) l = refl
eight f (suc (suc zero)) l = refl
eight f (suc (suc (suc zero))) l = refl
eight f (suc (suc (suc (suc zero)))) l = refl
eight f (suc (suc (suc (suc (suc zero))))) l = refl
eight f (suc (suc (suc (suc (suc (suc zero)))))) l = refl
eight f (suc (suc (suc (suc (suc (suc (suc zero))))))) l = refl
eight f (suc (suc (suc (suc (suc (suc (suc (suc d)))))))) l = absurd (omega (arith, l))

label_below : (l n : ℕ) → l ≤ n → (other : Bool) → (l ≡ n → other ≡ true) → l < n + cond other 1 0
label_below l n h true other = omega (arith, h)
label_below l n h false other = elim (leb_tells (suc l) n) [
  | inl t ↦ omega (arith, t.1)
  | inr t ↦ (let e : l ≡ n = omega
      (arith, h, t.1) in let z = other e in absurd (cc))
]

module _ (policy : PlainPolicy) (graph : Graph) (valid : IsValid policy) (source : List ℕ) (file : File) (drawn : IsGraph
    (names_of policy) source file graph)
    (assigns : AssignsNames source file) where
  closed_by_source : (d p : ℕ) (n : Node) → slice_get graph.nodes.items p ≡ Some n → n.point ≡ point.Close d → closes_in graph.nodes.items d ≡ true
  closed_by_source d p n e w = any_at (is_close d) graph.nodes.items p n e (ap (closes_at d) w ∙ eq-eqb d d refl)

  labelled : (l p : ℕ) (n : Node) → slice_get graph.nodes.items p ≡ Some n → n.point ≡ point.Label l → has_label graph.nodes.items l ≡ true
  labelled l p n e w = any_at (is_label l) graph.nodes.items p n e (ap (labels_at l) w ∙ eq-eqb l l refl)

  may_close : (d : ℕ) → d < length policy.descriptors → closes_in graph.nodes.items d ≡ true → MayClose policy (uses_of policy graph.nodes.items) d
  may_close d l t =
      let r = get_below policy.descriptors d l in
      (r.0, r.1, inr (eight (closes_in graph.nodes.items) d (omega (arith, l, valid.few_descriptors)) ∙ ap Some t))

  opened : (d : ℕ) → IsOpenedIn (spots graph policy) d → (descriptor : PlainDescriptor) × IsVariable policy d descriptor
  opened d (p, j, n, e) = let o = positions_are_of_points graph policy p (Open j d n) e in
      let v = programs_open_variables policy source file graph valid drawn assigns o.0 o.1 o.2 d o.3.1 in
      (v.0, (v.1, v.2))

  pub has : Have policy (uses_of policy graph.nodes.items) (spots graph policy)
  has = record {
    opens = opened;
    closes = λ d c. elim c [
      | inl o ↦ (let v = opened d o in (v.0, v.1.0, inl v.1.1))
      | inr s ↦ (
          let o = positions_are_of_points graph policy s.0 (Close s.1 d s.2) s.3 in
          let w : IsPointWithin policy (length graph.parts.items) (point.Close d) =
          subst (IsPointWithin policy (length graph.parts.items)) o.3.1 (points_are_within policy source file graph drawn o.0 o.1 o.2) in
          may_close d w (closed_by_source d o.0 o.1 o.2 o.3.1))
    ];
    labels = λ l s.
        let o = positions_are_of_points graph policy s.0 (Label s.1 l s.2) s.3 in
        let w : IsPointWithin policy (length graph.parts.items) (point.Label l) =
        subst (IsPointWithin policy (length graph.parts.items)) o.3.1 (points_are_within policy source file graph drawn o.0 o.1 o.2) in
        label_below l (length policy.labels) w (has_label graph.nodes.items (length policy.labels))
        (λ e. subst (λ k. has_label graph.nodes.items k ≡ true) e (labelled l o.0 o.1 o.2 o.3.1));
  }

-- the game is the program's and the policy's
pub game_is : (h : Held) → IsValid (policy_of h.states.policy)
    → AreLists (uses_of (policy_of h.states.policy) h.graph.nodes.items) (lists_of h.states)
    → (source : List ℕ) (file : File) → IsGraph (names_of (policy_of h.states.policy)) source file h.graph
    → IsRunnable (plan_of (names_of (policy_of h.states.policy)) source file)
    → AssignsNames source file → IsGameOf (problem_of (policy_of h.states.policy) source file) (game_of h)
game_is h valid lists source file drawn run assigns =
    let policy = policy_of h.states.policy in
    let on : IsGameOn h.graph (policy_of h.states.policy)
    (game_of h) = record { spots = refl; entry = λ f. refl; exit = λ f. refl; main = refl; under = refl } in
    record {
      policy = refl;
      states = states_are_reached (uses_of policy h.graph.nodes.items) (lists_of h.states) lists (spots h.graph policy)
          (has policy h.graph valid source file drawn assigns);
      laid = laid_out policy source file h.graph (game_of h) drawn run on;
      routines = has_routines policy source file h.graph (game_of h) drawn run on;
    }

pub game_made : (graph : Graph) (policy : Policy) (s : HeldStates) → s.policy ≡ policy → IsValid (policy_of policy)
    → AreLists (uses_of (policy_of policy) graph.nodes.items) (lists_of s) → (source : List ℕ) (file : File)
    → IsGraph (names_of (policy_of policy)) source file graph
    → IsRunnable (plan_of (names_of (policy_of policy)) source file) → AssignsNames source file
    → IsGameOf (problem_of (policy_of policy) source file) (game_of (record { graph = graph; states = s }))
game_made graph policy s same valid lists source file drawn run assigns =
    let back : policy_of policy ≡ policy_of s.policy = sym (ap policy_of same) in
    subst (λ p. IsGameOf (problem_of p source file) (game_of (record { graph = graph; states = s }))) (ap policy_of same)
    (game_is (record { graph = graph; states = s }) (subst IsValid back valid) (subst (λ p. AreLists (uses_of p graph.nodes.items)
    (lists_of s)) back lists) source file
    (subst (λ p. IsGraph (names_of p) source file graph) back drawn) (subst (λ p. IsRunnable (plan_of (names_of p) source file)) back run) assigns)
