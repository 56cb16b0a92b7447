-- The positions of a point whose successors are from lo to hi lead to positions from lo to hi.
use Rattle.std.proofs.Common.{◌≡◌, ℕ, zero, suc, ◌+◌, ◌*◌, ◌<◌, ◌≤◌, List, [], ◌∷◌, ◌++◌, Bool, true, false, cond, length, Some, refl, subst, arith}
use Rattle.std.specs.Prelude.{slice_get, Contains}
use Rattle.cw_rights.specs.declared.capabilities.Primitive.{Primitive}
use Rattle.cw_rights.specs.declared.capabilities.Primitive.TheVariants.{Limit, Enter, Split}
use Rattle.cw_rights.specs.Policies.{PlainPolicy, primitives}
use Rattle.cw_game.specs.declared.spots.Spot.{Spot}
use Rattle.cw_game.specs.declared.spots.Spot.TheVariants.{Visit, Asked, Step, Branch, Label, Open, Close, Call, SplitCall, Exit}
use Rattle.cw_points.specs.declared.graph.Point.{Point}
use Rattle.cw_points.specs.declared.graph.Point.TheVariants as point
use Rattle.cw_points.specs.declared.graph.Part.{Part}
use Rattle.cw_positions.specs.Positions.{is_split, primitives_at, width, visits, free}
use Rattle.cw_product.specs.Routed.{targets}
use Rattle.cw_positions.proofs.Rooms.{Room, AllRoom, LeadFrom, lead_at, visits_lead, primitives_room, call_length}

-- one of one, and of two
pub one_is : (P : ℕ → Type 0) (a r : ℕ) → P a → Contains (a ∷ []) r → P r
one_is P a r h (zero, lt, e) = subst P e h
one_is P a r h (suc i, lt, e) = absurd (omega (arith, lt))

pub two_are : (P : ℕ → Type 0) (a b r : ℕ) → P a → P b → Contains (a ∷ b ∷ []) r → P r
two_are P a b r h k (zero, lt, e) = subst P e h
two_are P a b r h k (suc zero, lt, e) = subst P e k
two_are P a b r h k (suc (suc i), lt, e) = absurd (omega (arith, lt))

module _ (lo hi : ℕ) where
  abbrev pub In : ℕ → Type 0
  In p = (lo ≤ p) × (p ≤ hi)

  -- what stands at p leads to positions from lo to hi
  abbrev pub Stays : ℕ → Spot → Type 0
  Stays p (Visit j i a) = p + 2 ≤ hi
  Stays p (Asked j i Split) = p + 2 ≤ hi
  Stays p (Asked j i a) = p + 1 ≤ hi
  Stays p (Step n) = In n
  Stays p (Branch m n) = In m × In n
  Stays p (Label j l n) = In n
  Stays p (Open j d n) = In n
  Stays p (Close j d n) = In n
  Stays p (Call j f n) = In n
  Stays p (SplitCall j f n) = In n
  Stays p (Exit f) = Unit {0}

  pub stays_in : (p r : ℕ) (s : Spot) → lo ≤ p → Stays p s → Contains (targets p (Some s)) r → In r
  stays_in p r (Visit j i a) l h c = two_are In (p + 2) (p + 1) r (omega (arith, l), h) (omega (arith, l), omega (arith, h)) c
  stays_in p r (Asked j i Split) l h c = two_are In (p + 2) (p + 1) r (omega (arith, l), h) (omega (arith, l), omega (arith, h)) c
  stays_in p r (Asked j i Enter) l h c = one_is In (p + 1) r (omega (arith, l), h) c
  stays_in p r (Asked j i (Limit limit)) l h c = one_is In (p + 1) r (omega (arith, l), h) c
  stays_in p r (Step n) l h c = one_is In n r h c
  stays_in p r (Branch m n) l h c = two_are In m n r h.0 h.1 c
  stays_in p r (Label j m n) l h c = one_is In n r h c
  stays_in p r (Open j d n) l h c = one_is In n r h c
  stays_in p r (Close j d n) l h c = one_is In n r h c
  stays_in p r (Call j f n) l h c = one_is In n r h c
  stays_in p r (SplitCall j f n) l h c = one_is In n r h c
  stays_in p r (Exit f) l h c = absurd (omega (arith, c.1))

  -- these stand from p on
  abbrev pub AllStay : ℕ → List Spot → Type 0
  AllStay = LeadFrom Stays

  pub stay_at : (p : ℕ) (ss : List Spot) (i : ℕ) (s : Spot) → AllStay p ss → slice_get ss i ≡ Some s → Stays (p + i) s
  stay_at = lead_at Stays

  asked_stays : (p j i : ℕ) (a : Primitive) (n : ℕ) → Room n a → p + n < hi + 1 → Stays p (Asked j i a)
  asked_stays p j i Split n h e = omega (arith, h, e)
  asked_stays p j i Enter n h e = omega (arith, h, e)
  asked_stays p j i (Limit limit) n h e = omega (arith, h, e)

  visit_stays : (p j i : ℕ) (a : Primitive) → p + 2 < hi + 1 → Stays p (Visit j i a)
  visit_stays p j i a h = omega (arith, h)

  visits_stay : (j i : ℕ) (later : List Primitive) (rest : List Spot) (p : ℕ) → AllRoom (length rest) later → p + (2 * length later + length rest) ≤ hi + 1
      → AllStay (p + 2 * length later) rest → AllStay p (visits j i later ++ rest)
  visits_stay = visits_lead Stays (hi + 1) visit_stays asked_stays

  call_stays : (split : Bool) (p j f l : ℕ) → In l → AllStay p (Call j f l ∷ cond split (SplitCall j f l ∷ []) [])
  call_stays true p j f l k = (k, (k, tt))
  call_stays false p j f l k = (k, tt)

  module _ (policy : PlainPolicy) (parts : List Part) where
    -- where a point leads on, it leads to a point; an exit doesn't
    abbrev pub LeadsOn : Point → ℕ → ℕ → Type 0
    LeadsOn point.Exit l r = Unit {0}
    LeadsOn point.Branch l r = In l × In r
    LeadsOn w l r = In l

    pub point_stays : (w : Point) (f j l r p : ℕ) → LeadsOn w l r → p + width policy parts w ≤ hi + 1 → AllStay p (visits j 0 (primitives_at policy parts w) ++ free parts w f j l r)
    point_stays point.Entry f j l r p hl h = visits_stay j 0 (primitives policy false) (free parts point.Entry f j l r) p (primitives_room policy false 1 refl) (omega (arith, h)) (hl, tt)
    point_stays point.Step f j l r p hl h = (hl, tt)
    point_stays point.Branch f j l r p hl h = (hl, tt)
    point_stays (point.Label m) f j l r p hl h = visits_stay j 0 (primitives policy false) (free parts (point.Label m) f j l r) p (primitives_room policy false 1 refl) (omega (arith, h)) (hl, tt)
    point_stays (point.Open d) f j l r p hl h = (hl, tt)
    point_stays (point.Close d) f j l r p hl h = (hl, tt)
    point_stays (point.Call m) f j l r p hl h =
        let rest = free parts (point.Call m) f j l r in
        let n : length rest ≡ 1 + cond (is_split parts m) 1 0 = call_length (is_split parts m) (Call j m l) (SplitCall j m l) in
        visits_stay j 0 (primitives policy (is_split parts m)) rest p (primitives_room policy (is_split parts m) (length rest) n) (omega (arith, n, h))
        (call_stays (is_split parts m) (p + 2 * length (primitives policy (is_split parts m))) j m l hl)
    point_stays point.Exit f j l r p hl h = (tt, tt)
