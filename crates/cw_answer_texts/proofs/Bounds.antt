-- How large the numbers of a game that was made are.
use Rattle.std.proofs.Common.{◌≡◌, ℕ, suc, ◌+◌, ◌<◌, ◌≤◌, ◌^◌, List, [], ◌∷◌, length, Bool, true, false, cond, ◌||◌, Option, Some, None, nat_eq, refl, sym, ap, ◌∙◌, arith, inl, inr}
use Rattle.std.specs.Prelude.{slice_get, ◌==◌, if◌then◌else◌}
use Rattle.std.specs.List.{list_any}
use Rattle.std.proofs.Math.Nat.{le-mul_of_pos_right}
use Rattle.std.proofs.lemmas.Bool.{ltb-true}
use Rattle.cw_core.proofs.Sets.{IsBelow_from_lt}
use Rattle.cw_rights.specs.Policies.{PlainPolicy, policy_of, primitives}
use Rattle.cw_syntax.specs.Plans.{plan_of}
use Rattle.cw_resolve.specs.Scenes.{names_of}
use Rattle.cw_text.specs.Lines.{IsSetIn}
use Rattle.cw_points.specs.declared.graph.Point.{Point}
use Rattle.cw_points.specs.declared.graph.Point.TheVariants as point
use Rattle.cw_points.specs.declared.graph.Node.{Node}
use Rattle.cw_points.specs.declared.graph.Part.{Part}
use Rattle.cw_points.specs.declared.graph.Seam.{Seam}
use Rattle.cw_points.specs.Graphs.{nodes, seams_from}
use Rattle.cw_game.specs.declared.spots.Spot.{Spot}
use Rattle.cw_game.specs.declared.spots.Spot.TheVariants.{Visit, Asked, Step, Branch, Label, Open, Close, Call, SplitCall, Exit}
use Rattle.cw_game.specs.Games.{Game}
use Rattle.cw_game.specs.Conditions.{has_seam, has_stage, is_position, is_set, is_state}
use Rattle.std.proofs.lemmas.Bool.{and_parts}
use Rattle.cw_positions.specs.Positions.{is_split, primitives_at}
use Rattle.cw_positions.specs.Seams.{node_of, stages_at, stages_of}
use Rattle.cw_positions.proofs.Lengths.{length_primitives}
use Rattle.cw_positions.proofs.Seaming.{AreSeams, seams_of_plan}
use Rattle.cw_positions.proofs.Seen.{seams_are_seen, stages_are_seen}
use Rattle.cw_product.specs.Product.{Held, game_of}
use Rattle.cw_answer_texts.specs.Spelled.{IsGameMade}

-- ---- seams and stages

few_seams : (p j : ℕ) (ns : List Node) (ss : List Seam) → AreSeams p j ns ss → length ss ≤ length ns
few_seams p j [] ss h = let e : length ss ≡ 0 = ap length h in omega (arith, e)
few_seams p j (n ∷ ns) ss (inl h) = let r = few_seams (p + 1) j ns ss h.1 in omega (arith, r)
few_seams p j (n ∷ ns) ss (inr (s, rest, e, has, at, h)) =
    let r = few_seams (p + 1) (j + 1) ns rest h in
    let f : length ss ≡ suc (length rest) = ap length e in
    omega (arith, r, f)

few_extra : (b : Bool) → cond b 1 0 ≤ 1
few_extra true = omega arith
few_extra false = omega arith

few_primitives : (policy : PlainPolicy) (split : Bool) → length policy.limits ≤ 12 → length (primitives policy split) ≤ 14
few_primitives policy split le = let e = length_primitives policy split in let x = few_extra split in omega (arith, e, x, le)

few_stages : (policy : PlainPolicy) (parts : List Part) (w : Point) → length policy.limits ≤ 12 → length (primitives_at policy parts w) ≤ 14
few_stages policy parts point.Entry le = few_primitives policy false le
few_stages policy parts (point.Label l) le = few_primitives policy false le
few_stages policy parts (point.Call f) le = few_primitives policy (is_split parts f) le
few_stages policy parts point.Step le = omega arith
few_stages policy parts point.Branch le = omega arith
few_stages policy parts (point.Open d) le = omega arith
few_stages policy parts (point.Close d) le = omega arith
few_stages policy parts point.Exit le = omega arith

few_stages_at : (policy : PlainPolicy) (parts : List Part) (o : Option Node) → length policy.limits ≤ 12 → stages_at policy parts o ≤ 14
few_stages_at policy parts None le = omega arith
few_stages_at policy parts (Some n) le = few_stages policy parts n.point le

-- a stage is one of its seam
has_both : (j i : ℕ) (s : Spot) → has_stage j i s ≡ true → has_seam j s ≡ true
has_both j i (Visit k h a) e = (and_parts (nat_eq k j) (nat_eq h i) e).0
has_both j i (Asked k h a) e = absurd cc
has_both j i (Step n) e = absurd cc
has_both j i (Branch m n) e = absurd cc
has_both j i (Label k l n) e = absurd cc
has_both j i (Open k d n) e = absurd cc
has_both j i (Close k d n) e = absurd cc
has_both j i (Call k f n) e = absurd cc
has_both j i (SplitCall k f n) e = absurd cc
has_both j i (Exit f) e = absurd cc

seam_of_stage : (j i : ℕ) (ss : List Spot) → list_any (has_stage j i) ss ≡ true → list_any (has_seam j) ss ≡ true
seam_of_stage j i [] e = e
seam_of_stage j i (s ∷ ss) e = by (has_stage j i s) refl e (seam_of_stage j i ss)
  where
    later : (b : Bool) → list_any (has_seam j) ss ≡ true → (b || list_any (has_seam j) ss) ≡ true
    later true h = refl
    later false h = h

    by : (b : Bool) → has_stage j i s ≡ b → (b || list_any (has_stage j i) ss) ≡ true → (list_any (has_stage j i) ss ≡ true → list_any (has_seam j) ss ≡ true) → (has_seam j s || list_any (has_seam j) ss) ≡ true
    by true h k rec = ap (λ x. x || list_any (has_seam j) ss) (has_both j i s h)
    by false h k rec = later (has_seam j s) (rec k)

-- ---- the numbers of a game

module _ (h : Held) (is : IsGameMade h) where
  abbrev g : Game
  g = game_of h

  pub seam_small : (j : ℕ) → list_any (has_seam j) g.spots ≡ true → j < 8192
  seam_small j e =
      let p = is.made.graph in
      let policy = policy_of h.states.policy in
      let seen = seams_are_seen (names_of policy) p.source p.file h.graph policy p.drawn j in
      let lt : j < length h.graph.seams.items = ltb-true j (length h.graph.seams.items) (sym seen ∙ e) in
      let plan = plan_of (names_of policy) p.source p.file in
      let few = few_seams 0 0 (nodes plan) (seams_from plan.routines 0) (seams_of_plan (names_of policy) p.source p.file) in
      let ns : length h.graph.nodes.items ≡ length (nodes plan) = ap length p.drawn.nodes in
      let ss : length h.graph.seams.items ≡ length (seams_from plan.routines 0) = ap length p.drawn.seams in
      let most = is.points in
      omega (arith, lt, few, ns, ss, most)

  pub stage_small : (j i : ℕ) → list_any (has_stage j i) g.spots ≡ true → (j < 8192) × (i < 14)
  stage_small j i e =
      let p = is.made.graph in
      let policy = policy_of h.states.policy in
      let seen = stages_are_seen (names_of policy) p.source p.file h.graph policy p.drawn j i in
      let lt : i < stages_of h.graph policy j = ltb-true i (stages_of h.graph policy j) (sym seen ∙ e) in
      let few = few_stages_at policy h.graph.parts.items (node_of h.graph.nodes.items (slice_get h.graph.seams.items j)) is.made.valid.few_limits in
      (seam_small j (seam_of_stage j i g.spots e), omega (arith, lt, few))

  pub few_states : g.states.count ≤ 1024
  few_states = by ((policy_of h.states.policy).format == 2) is.made.few.states
    where
      by : (b : Bool) → g.states.count ≤ (if b then 1024 else 512) → g.states.count ≤ 1024
      by true le = le
      by false le = omega (arith, le)

  pub state_small : (q : ℕ) → is_state g q ≡ true → q < 1024
  state_small q e = let lt = ltb-true q g.states.count e in let few = few_states in omega (arith, lt, few)

  pub position_small : (p : ℕ) → 0 < g.states.count → is_position g p ≡ true → p < 1048576
  position_small p some e =
      let lt = ltb-true p (length g.spots) e in
      let more = le-mul_of_pos_right (length g.spots) some in
      let few = is.made.pairs in
      omega (arith, lt, more, few)

  pub set_within : (set : ℕ) → is_set g set ≡ true → IsSetIn (policy_of h.states.policy).format set
  set_within set e s has =
      let lt = IsBelow_from_lt g.states.count set (ltb-true set (2 ^ g.states.count) e) s has in
      let few = is.made.few.states in
      omega (arith, lt, few)
