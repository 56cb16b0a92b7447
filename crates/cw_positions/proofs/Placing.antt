-- What stands among the points stands among the positions too.
use Rattle.std.proofs.Common.{◌≡◌, ℕ, suc, ◌+◌, ◌<◌, List, [], ◌∷◌, ◌++◌, map, length, Bool, true, false, cond, Option, Some, None, refl, sym, ap}
use Rattle.std.proofs.Common.{◌∙◌, subst, arith}
use Rattle.std.specs.Prelude.{slice_get, option_map}
use Rattle.std.proofs.lemmas.Option.{none-some}
use Rattle.cw_rights.specs.declared.capabilities.Limit.{Limit as ALimit}
use Rattle.cw_rights.specs.declared.capabilities.Primitive.{Primitive}
use Rattle.cw_rights.specs.declared.capabilities.Primitive.TheVariants.{Limit, Enter, Split}
use Rattle.cw_rights.specs.Policies.{PlainPolicy, primitives}
use Rattle.cw_syntax.specs.Plans.{Callee, Stm, Plain, Break, Continue, Return, Open, Close, Call, Group, Label, If, While, Do, For, Stms, end, then}
use Rattle.cw_syntax.specs.Plans.{Routine}
use Rattle.cw_syntax.specs.Frames.{Item, End, new_frame}
use Rattle.cw_syntax.specs.Runnable.{Lands, LandsAll}
use Rattle.cw_game.specs.declared.spots.Spot.{Spot}
use Rattle.cw_game.specs.declared.spots.Spot.TheVariants as spot
use Rattle.cw_game.specs.Places.{IsLast, Visits, Situated, SituatedAll, TestAt, StepAt, InitAt, CallsAt, At}
use Rattle.cw_game.proofs.Places.{at_items}
use Rattle.cw_points.specs.declared.graph.Point.TheVariants as point
use Rattle.cw_points.specs.declared.graph.Node.{Node}
use Rattle.cw_points.specs.declared.graph.Part.{Part}
use Rattle.cw_points.specs.Graphs.{node, step, branch, test_node}
use Rattle.cw_points.proofs.Held.{HasAt, has_front, has_back}
use Rattle.cw_points.proofs.Situated.{Situated as SituatedIn, SituatedAll as SituatedAllIn, StepAt as StepIn, InitAt as InitIn, IsSituated}
use Rattle.cw_positions.specs.Positions.{is_split, width, base, visits, free, spots_at, spots_in}
use Rattle.cw_positions.proofs.Lengths.{width_at}
use Rattle.cw_positions.proofs.Standing.{stands}
use Rattle.cw_positions.proofs.Fitting.{Fits, AllFit}

-- where a loop is around, there is a place to which a jump leads
abbrev pub IsThere : Bool → Option ℕ → Type 0
IsThere true None = ⊥
IsThere true (Some n) = Unit {0}
IsThere false o = Unit {0}

there : (looped : Bool) (o : Option ℕ) → IsThere looped o → looped ≡ true → (n : ℕ) × (o ≡ Some n)
there true None h e = absurd h
there true (Some n) h e = (n, refl)
there false o h e = cc

-- a split stands last
abbrev AreLast : List Primitive → Type 0
AreLast [] = Unit {0}
AreLast (a ∷ later) = IsLast a later × AreLast later

limits_last : (ls : List ALimit) (later : List Primitive) → AreLast later → AreLast (map (λ limit. Limit limit) ls ++ later)
limits_last [] later h = h
limits_last (l ∷ ls) later h = (tt, limits_last ls later h)

primitives_last : (policy : PlainPolicy) (split : Bool) → AreLast (primitives policy split)
primitives_last policy true = limits_last policy.limits (Enter ∷ (Split ∷ [])) (tt, (refl, tt))
primitives_last policy false = limits_last policy.limits (Enter ∷ []) (tt, tt)

-- visits that stand are a visit's
visits_stand : (g : List Spot) (j i : ℕ) (later : List Primitive) (p : ℕ) → AreLast later → HasAt g p (visits j i later)
    → Visits g j i later p (p + length (visits j i later))
visits_stand g j i [] p last h = let e : p ≡ p + 0 = omega arith in e
visits_stand g j i (a ∷ later) p last h =
    let two : p + 1 + 1 ≡ p + 2 = omega arith in
    let z : p + 2 + length (visits j (suc i) later) ≡ p + length (visits j i (a ∷ later)) = omega arith in
    let rest = visits_stand g j (suc i) later (p + 2) last.1 (subst (λ q. HasAt g q (visits j (suc i) later)) two h.1.1) in
    (h.0, h.1.0, last.0, subst (λ q. Visits g j (suc i) later (p + 2) q) z rest)

module _ (pol : PlainPolicy) (parts : List Part) (ns : List Node) (its : List Item) (f x : ℕ) where
  abbrev at : ℕ → ℕ
  at = base pol parts ns

  abbrev spots : List Spot
  spots = spots_in pol parts ns

  here : (p : ℕ) (n : Node) → slice_get ns p ≡ Some n → HasAt (spots_in pol parts ns) (base pol parts ns p) (spots_at pol parts (base pol parts ns) n)
  here p n e = stands (spots_at pol parts at) (λ m. width pol parts m.point) (width_at pol parts at) ns p n e

  -- the visit of a seam, and the free positions behind it
  visit_at : (p j : ℕ) (split : Bool) (rest : List Spot) → HasAt (spots_in pol parts ns) p (visits j 0 (primitives pol split) ++ rest)
      → (z : ℕ) × Visits (spots_in pol parts ns) j 0 (primitives pol split) p z × HasAt (spots_in pol parts ns) z rest
  visit_at p j split rest h =
      let all = visits j 0 (primitives pol split) in (
        p + length all,
        visits_stand spots j 0 (primitives pol split) p (primitives_last pol split) (has_front spots p all rest h),
        has_back spots p
            all rest h,
      )

  -- a point with one position, which leads to the point k
  step_at : (p k : ℕ) → slice_get ns p ≡ Some (step f (Some k))
      → slice_get (spots_in pol parts ns) (base pol parts ns p) ≡ Some (spot.Step (base pol parts ns k))
  step_at p k e = (here p (step f (Some k)) e).0

  jump_at : (looped : Bool) (o : Option ℕ) (p : ℕ) → IsThere looped o → looped ≡ true → slice_get ns p ≡ Some (step f o)
      → (n : ℕ) × (option_map (base pol parts ns) o ≡ Some n)
      × (slice_get (spots_in pol parts ns) (base pol parts ns p) ≡ Some (spot.Step n))
  jump_at looped None p h l e = absurd (none-some (there looped None h l).0 (there looped None h l).1)
  jump_at looped (Some n) p h l e = (at n, refl, step_at p n e)

  branch_at : (p m n : ℕ) → slice_get ns p ≡ Some (branch f m n)
      → slice_get (spots_in pol parts ns) (base pol parts ns p) ≡ Some (spot.Branch (base pol parts ns m) (base pol parts ns n))
  branch_at p m n e = (here p (branch f m n) e).0

  test_at : (decided : Bool) (p m k : ℕ) → slice_get ns p ≡ Some (test_node f decided m k)
      → TestAt (spots_in pol parts ns) decided (base pol parts ns p) (base pol parts ns m) (base pol parts ns k)
  test_at true p m k e = branch_at p m k e
  test_at false p m k e = step_at p m e

  turn_at : (place : ℕ) (stepped : Bool) (a t : ℕ) → StepIn ns its f place stepped a t
      → StepAt (spots_in pol parts ns) stepped (base pol parts ns a) (base pol parts ns t)
  turn_at place true a t h = step_at a t h.0
  turn_at place false a t h = ap at h

  init_at : (init : Option ℕ) (p t : ℕ) → InitIn ns its f init p t → InitAt (spots_in pol parts ns) init (base pol parts ns p) (base pol parts ns t)
  init_at (Some place) p t h = step_at p t h.0
  init_at None p t h = ap at h

  -- a call's free positions, by whether it may be split off
  calls_at : (j callee back z : ℕ) (split : Bool)
      → HasAt (spots_in pol parts ns) z (spot.Call j callee back ∷ cond split (spot.SplitCall j callee back ∷ []) [])
      → (slice_get (spots_in pol parts ns) z ≡ Some (spot.Call j callee back)) ×
      (split ≡ true → slice_get (spots_in pol parts ns) (z + 1) ≡ Some (spot.SplitCall j callee back))
  calls_at j callee back z true h = (h.0, λ e. h.1.0)
  calls_at j callee back z false h = (h.0, λ e. cc)

  call_at : (p j k : ℕ) (callee : Callee) → callee.split ≡ is_split parts callee.number
      → slice_get ns p ≡ Some (node (point.Call callee.number) f (Some k) (Some j))
      → (z : ℕ) × Visits (spots_in pol parts ns) j 0 (primitives pol callee.split) (base pol parts ns p) z × CallsAt (spots_in pol parts ns) j
      callee z (base pol parts ns k)
  call_at p j k callee s e =
      let split = is_split parts callee.number in
      let n = node (point.Call callee.number) f (Some k) (Some j) in
      let v = visit_at (at p) j split (free parts (point.Call callee.number) f j (at k) 0) (here p n e) in
      let c = calls_at j callee.number (at k) v.0 split v.2 in
      (v.0, subst (λ b. Visits spots j 0 (primitives pol b) (at p) v.0) (sym s) v.1, (c.0, λ t. c.1 (sym s ∙ t)))

  mutual
    pub situated : (s : Stm) (looped : Bool) (b c : Option ℕ) (p k : ℕ)
        → Fits (λ d. d < length pol.descriptors) (λ d. d < length pol.descriptors) (λ l. Unit {0})
        (λ callee. callee.split ≡ is_split parts callee.number) s
        → Lands looped s → IsThere looped b → IsThere looped c → SituatedIn ns its f x b c s p k
        → Situated (spots_in pol parts ns) pol (base pol parts ns x) (option_map (base pol parts ns) b) (option_map (base pol parts ns) c) s
        (base pol parts ns p) (base pol parts ns k)
    situated (Plain y) looped b c p k q l tb tc h = step_at p k h.0
    situated (Break y) looped b c p k q l tb tc h = jump_at looped b p tb l h.0
    situated (Continue y) looped b c p k q l tb tc h = jump_at looped c p tc l h.0
    situated (Return y) looped b c p k q l tb tc h = step_at p x h.0
    situated (Open y j d) looped b c p k q l tb tc h = (q, (here p (node (point.Open d) f (Some k) (Some j)) h.0).0)
    situated (Close y j d) looped b c p k q l tb tc h = (q, (here p (node (point.Close d) f (Some k) (Some j)) h.0).0)
    situated (Call y j callee) looped b c p k q l tb tc h = call_at p j k callee q h.0
    situated (Group ss) looped b c p k q l tb tc h = situated_all ss looped b c p k q l tb tc h
    situated (Label y mark j letter s) looped b c p k q l tb tc h =
        let v = visit_at (at p) j false (spot.Label j letter (at h.0) ∷ []) (here p (node (point.Label letter) f (Some h.0) (Some j)) h.1.0) in
        (v.0, v.1, (at h.0, v.2.0, situated s looped b c h.0 k q.1 l tb tc h.2))
    situated (If y s t) looped b c p k q l tb tc h =
        (at h.0, at h.1, branch_at p h.0 h.1 h.2.0, situated s looped b c h.0 k q.0 l.0 tb tc h.3, situated t looped b c h.1 k q.1 l.1 tb tc h.4)
    situated (While y s) looped b c p k q l tb tc h = (at h.0, branch_at p h.0 k h.1.0, situated s true (Some k) (Some p) h.0 p q l tt tt h.2)
    situated (Do y s) looped b c p k q l tb tc h = (at h.0, branch_at h.0 p k h.1.0, situated s true (Some k) (Some h.0) p h.0 q l tt tt h.2)
    situated (For y init decided stepped s) looped b c p k q l tb tc h = (
      at h.0,
      at h.1,
      at h.2,
      init_at init p h.0 h.3,
      test_at decided h.0 h.1 k h.4.0,
      turn_at y stepped h.2 h.0 h.5,
      situated s true (Some k)
          (Some h.2) h.1 h.2 q l tt tt h.6,
    )

    pub situated_all : (ss : Stms) (looped : Bool) (b c : Option ℕ) (p k : ℕ)
        → AllFit (λ d. d < length pol.descriptors) (λ d. d < length pol.descriptors) (λ l. Unit {0})
        (λ callee. callee.split ≡ is_split parts callee.number) ss
        → LandsAll looped ss → IsThere looped b → IsThere looped c → SituatedAllIn ns its f x b c ss p k
        → SituatedAll (spots_in pol parts ns) pol (base pol parts ns x) (option_map (base pol parts ns) b) (option_map (base pol parts ns) c) ss
        (base pol parts ns p) (base pol parts ns k)
    situated_all end looped b c p k q l tb tc h = ap at h
    situated_all (then s ss) looped b c p k q l tb tc h =
        (at h.0, situated s looped b c p h.0 q.0 l.0 tb tc h.1, situated_all ss looped b c h.0 k q.1 l.1 tb tc h.2)

  -- a function stands from its entry's positions on
  pub at_routine : (r : Routine) (entry : ℕ)
      → AllFit (λ d. d < length pol.descriptors) (λ d. d < length pol.descriptors) (λ l. Unit {0})
      (λ callee. callee.split ≡ is_split parts callee.number) r.body
      → LandsAll false r.body → IsSituated ns its f r entry x
      → At (spots_in pol parts ns) pol (base pol parts ns x) (new_frame f r) (base pol parts ns entry)
  at_routine r entry q l h =
      let m = at h.body in
      let v = visit_at (at entry) r.seam false (spot.Step m ∷ []) (here entry (node point.Entry f (Some h.body) (Some r.seam)) h.begins.0) in
      let last = (here x (node point.Exit f None None) h.ends.0).0 in
      let body = situated_all r.body false None None h.body x q l tt tt h.holds in
      (None, None, (v.0, v.1, (m, v.2.0, at_items spots pol (at x) None None r.body (End f ∷ []) m (at x) body (refl, refl, refl, last, refl))))
