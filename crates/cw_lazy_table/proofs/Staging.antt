-- What is asked among the positions of a graph's points: behind its visit, and nowhere else.
use Rattle.std.proofs.Common.{◌≡◌, ℕ, zero, suc, ◌+◌, ◌*◌, List, [], ◌∷◌, ◌++◌, Bool, true, false, cond, length, Option, Some, None, refl, sym, ap, ap₂, ◌∙◌, subst, arith, ⊎_elim}
use Rattle.std.specs.Prelude.{slice_get}
use Rattle.std.proofs.lemmas.Option.{none-some, same_Some}
use Rattle.cw_rights.specs.declared.capabilities.Primitive.{Primitive}
use Rattle.cw_rights.specs.Policies.{PlainPolicy}
use Rattle.cw_game.specs.declared.spots.Spot.{Spot}
use Rattle.cw_game.specs.declared.spots.Spot.TheVariants as spot
use Rattle.cw_points.specs.declared.graph.Point.{Point}
use Rattle.cw_points.specs.declared.graph.Point.TheVariants as point
use Rattle.cw_points.specs.declared.graph.Node.{Node}
use Rattle.cw_points.specs.declared.graph.Part.{Part}
use Rattle.cw_points.specs.Walks.{first_of, second_of}
use Rattle.cw_positions.specs.Positions.{is_split, primitives_at, width, base, visits, free, number, to, spots_at, spots_in}
use Rattle.cw_positions.proofs.Lengths.{width_at}
use Rattle.cw_positions.proofs.Seaming.{is_seam_point, AreSeams, seam_at}
use Rattle.cw_points.specs.declared.graph.Seam.{Seam}
use Rattle.cw_positions.proofs.Standing.{stands, found}
use Rattle.cw_positions.proofs.Seen.{has_get}

-- neither a visit nor what is asked
abbrev pub is_quiet : Spot → Bool
is_quiet (spot.Visit j i a) = false
is_quiet (spot.Asked j i a) = false
is_quiet _ = true

abbrev pub AreQuiet : List Spot → Type 0
AreQuiet ss = (k : ℕ) (s : Spot) → slice_get ss k ≡ Some s → is_quiet s ≡ true

pub one_quiet : (s : Spot) → is_quiet s ≡ true → AreQuiet (s ∷ [])
one_quiet s h zero t e = subst (λ t. is_quiet t ≡ true) (same_Some s t e) h
one_quiet s h (suc k) t e = absurd (none-some t e)

pub two_quiet : (b : Bool) (s t : Spot) → is_quiet s ≡ true → is_quiet t ≡ true → AreQuiet (s ∷ cond b (t ∷ []) [])
two_quiet true s t h k zero u e = subst (λ t. is_quiet t ≡ true) (same_Some s u e) h
two_quiet true s t h k (suc zero) u e = subst (λ t. is_quiet t ≡ true) (same_Some t u e) k
two_quiet true s t h k (suc (suc i)) u e = absurd (none-some u e)
two_quiet false s t h k zero u e = subst (λ t. is_quiet t ≡ true) (same_Some s u e) h
two_quiet false s t h k (suc i) u e = absurd (none-some u e)

pub free_quiet : (parts : List Part) (p : Point) (f j l r : ℕ) → AreQuiet (free parts p f j l r)
free_quiet parts point.Entry f j l r = one_quiet (spot.Step l) refl
free_quiet parts point.Step f j l r = one_quiet (spot.Step l) refl
free_quiet parts point.Branch f j l r = one_quiet (spot.Branch l r) refl
free_quiet parts (point.Label n) f j l r = one_quiet (spot.Label j n l) refl
free_quiet parts (point.Open d) f j l r = one_quiet (spot.Open j d l) refl
free_quiet parts (point.Close d) f j l r = one_quiet (spot.Close j d l) refl
free_quiet parts (point.Call m) f j l r = two_quiet (is_split parts m) (spot.Call j m l) (spot.SplitCall j m l) refl refl
free_quiet parts point.Exit f j l r = one_quiet (spot.Exit f) refl

-- what a visit asks
abbrev asked_of : Spot → Spot
asked_of (spot.Visit j i a) = spot.Asked j i a
asked_of s = s

abbrev seam_of : Spot → ℕ
seam_of (spot.Asked j i a) = j
seam_of _ = 0

abbrev stage_of : Spot → ℕ
stage_of (spot.Asked j i a) = i
stage_of _ = 0

module _ (rest : List Spot) (quiet : AreQuiet rest) where
  pub no_visit : (k j i : ℕ) (a : Primitive) → slice_get rest k ≡ Some (spot.Visit j i a) → ⊥
  no_visit k j i a e = let w : false ≡ true = quiet k (spot.Visit j i a) e in cc

  pub no_asked : (k j i : ℕ) (a : Primitive) → slice_get rest k ≡ Some (spot.Asked j i a) → ⊥
  no_asked k j i a e = let w : false ≡ true = quiet k (spot.Asked j i a) e in cc

  -- a visit has what it asks behind it
  behind_in : (j i : ℕ) (ps : List Primitive) (k x y : ℕ) (a : Primitive) → slice_get (visits j i ps ++ rest) k ≡ Some (spot.Visit x y a)
      → slice_get (visits j i ps ++ rest) (suc k) ≡ Some (spot.Asked x y a)
  behind_in j i [] k x y a e = absurd (no_visit k x y a e)
  behind_in j i (b ∷ ps) zero x y a e = ap (λ s. Some (asked_of s)) (same_Some (spot.Visit j i b) (spot.Visit x y a) e)
  behind_in j i (b ∷ ps) (suc zero) x y a e = let w : spot.Asked j i b ≡ spot.Visit x y a = same_Some (spot.Asked j i b) (spot.Visit x y a) e in cc
  behind_in j i (b ∷ ps) (suc (suc k)) x y a e = behind_in j (suc i) ps k x y a e

  -- nothing is asked at the front, nor right past a visit
  pub front_in : (j i : ℕ) (ps : List Primitive) (x y : ℕ) (a : Primitive) → slice_get (visits j i ps ++ rest) 0 ≡ Some (spot.Asked x y a) → ⊥
  front_in j i [] x y a e = no_asked 0 x y a e
  front_in j i (b ∷ ps) x y a e = let w : spot.Visit j i b ≡ spot.Asked x y a = same_Some (spot.Visit j i b) (spot.Asked x y a) e in cc

  past_in : (j i : ℕ) (ps : List Primitive) (k x y z w : ℕ) (a b : Primitive) → slice_get (visits j i ps ++ rest) k ≡ Some (spot.Visit x y a)
      → slice_get (visits j i ps ++ rest) (suc (suc k)) ≡ Some (spot.Asked z w b) → ⊥
  past_in j i [] k x y z w a b e f = no_visit k x y a e
  past_in j i (c ∷ ps) zero x y z w a b e f = front_in j (suc i) ps z w b f
  past_in j i (c ∷ ps) (suc zero) x y z w a b e f = let v : spot.Asked j i c ≡ spot.Visit x y a = same_Some (spot.Asked j i c) (spot.Visit x y a) e in cc
  past_in j i (c ∷ ps) (suc (suc k)) x y z w a b e f = past_in j (suc i) ps k x y z w a b e f

  -- something stands at the front, and right past a visit
  pub front_there : (j i : ℕ) (ps : List Primitive) (x : Spot) → slice_get rest 0 ≡ Some x → (s : Spot) × (slice_get (visits j i ps ++ rest) 0 ≡ Some s)
  front_there j i [] x e = (x, e)
  front_there j i (b ∷ ps) x e = (spot.Visit j i b, refl)

  past_there : (j i : ℕ) (ps : List Primitive) (x : Spot) → slice_get rest 0 ≡ Some x → (k y z : ℕ) (a : Primitive) → slice_get (visits j i ps ++ rest) k ≡ Some (spot.Visit y z a)
      → (s : Spot) × (slice_get (visits j i ps ++ rest) (suc (suc k)) ≡ Some s)
  past_there j i [] x e k y z a h = absurd (no_visit k y z a h)
  past_there j i (b ∷ ps) x e zero y z a h = front_there j (suc i) ps x e
  past_there j i (b ∷ ps) x e (suc zero) y z a h = let v : spot.Asked j i b ≡ spot.Visit y z a = same_Some (spot.Asked j i b) (spot.Visit y z a) h in cc
  past_there j i (b ∷ ps) x e (suc (suc k)) y z a h = past_there j (suc i) ps x e k y z a h

  -- where a stage is asked
  pub asked_seam_key : (j i : ℕ) (ps : List Primitive) (k x y : ℕ) (a : Primitive) → slice_get (visits j i ps ++ rest) k ≡ Some (spot.Asked x y a) → (h : ℕ) × (j ≡ x) × (i + h ≡ y) × (k ≡ 2 * h + 1)
  asked_seam_key j i [] k x y a e = absurd (no_asked k x y a e)
  asked_seam_key j i (b ∷ ps) zero x y a e = let v : spot.Visit j i b ≡ spot.Asked x y a = same_Some (spot.Visit j i b) (spot.Asked x y a) e in cc
  asked_seam_key j i (b ∷ ps) (suc zero) x y a e =
      let v : spot.Asked j i b ≡ spot.Asked x y a = same_Some (spot.Asked j i b) (spot.Asked x y a) e in
      let is : i + 0 ≡ y = omega (arith, ap stage_of v) in
      (0, ap seam_of v, is, refl)
  asked_seam_key j i (b ∷ ps) (suc (suc k)) x y a e =
      let r = asked_seam_key j (suc i) ps k x y a e in
      let is : i + suc r.0 ≡ y = omega (arith, r.2) in
      let at : suc (suc k) ≡ 2 * suc r.0 + 1 = omega (arith, r.3) in
      (suc r.0, r.1, is, at)

  -- what is neither a visit nor asked stands behind the visits
  pub quiet_seam_key : (j i : ℕ) (ps : List Primitive) (k : ℕ) (s : Spot) → is_quiet s ≡ true → slice_get (visits j i ps ++ rest) k ≡ Some s
      → (h : ℕ) × (k ≡ 2 * length ps + h) × (slice_get rest h ≡ Some s)
  quiet_seam_key j i [] k s q e = let z : k ≡ 2 * 0 + k = omega arith in (k, z, e)
  quiet_seam_key j i (b ∷ ps) zero s q e = let w : false ≡ true = ap is_quiet (same_Some (spot.Visit j i b) s e) ∙ q in cc
  quiet_seam_key j i (b ∷ ps) (suc zero) s q e = let w : false ≡ true = ap is_quiet (same_Some (spot.Asked j i b) s e) ∙ q in cc
  quiet_seam_key j i (b ∷ ps) (suc (suc k)) s q e =
      let r = quiet_seam_key j (suc i) ps k s q e in
      let z : suc (suc k) ≡ 2 * length (b ∷ ps) + r.0 = omega (arith, r.1) in
      (r.0, z, r.2)

-- where among the free positions of its point this stands, and its seam
abbrev pub part_of_spot : Spot → Option ℕ
part_of_spot (spot.Label j l n) = Some 0
part_of_spot (spot.Open j d n) = Some 0
part_of_spot (spot.Close j d n) = Some 0
part_of_spot (spot.Call j f n) = Some 0
part_of_spot (spot.SplitCall j f n) = Some 1
part_of_spot _ = None

abbrev pub seam_in : Spot → ℕ
seam_in (spot.Label j l n) = j
seam_in (spot.Open j d n) = j
seam_in (spot.Close j d n) = j
seam_in (spot.Call j f n) = j
seam_in (spot.SplitCall j f n) = j
seam_in _ = 0

seam_key_quiet : (s : Spot) (m : ℕ) → part_of_spot s ≡ Some m → is_quiet s ≡ true
seam_key_quiet (spot.Visit j i a) m e = absurd (none-some m e)
seam_key_quiet (spot.Asked j i a) m e = absurd (none-some m e)
seam_key_quiet _ m e = refl

unplaced : {P : Type 0} (t s : Spot) (m : ℕ) → part_of_spot t ≡ None → Some t ≡ Some s → part_of_spot s ≡ Some m → P
unplaced t s m n e h = absurd (none-some m (sym n ∙ ap part_of_spot (same_Some t s e) ∙ h))

here_seam_key : (t s : Spot) (i j m : ℕ) → part_of_spot t ≡ Some i → seam_in t ≡ j → Some t ≡ Some s → part_of_spot s ≡ Some m → (i ≡ m) × (true ≡ true) × (j ≡ seam_in s)
here_seam_key t s i j m p q e h = (same_Some i m (sym p ∙ ap part_of_spot (same_Some t s e) ∙ h), refl, sym q ∙ ap seam_in (same_Some t s e))

free_seam_key : (parts : List Part) (p : Point) (f j l r k : ℕ) (s : Spot) (m : ℕ) → slice_get (free parts p f j l r) k ≡ Some s → part_of_spot s ≡ Some m
    → (k ≡ m) × (is_seam_point p ≡ true) × (j ≡ seam_in s)
free_seam_key parts point.Entry f j l r zero s m e h = unplaced (spot.Step l) s m refl e h
free_seam_key parts point.Entry f j l r (suc k) s m e h = absurd (none-some s e)
free_seam_key parts point.Step f j l r zero s m e h = unplaced (spot.Step l) s m refl e h
free_seam_key parts point.Step f j l r (suc k) s m e h = absurd (none-some s e)
free_seam_key parts point.Branch f j l r zero s m e h = unplaced (spot.Branch l r) s m refl e h
free_seam_key parts point.Branch f j l r (suc k) s m e h = absurd (none-some s e)
free_seam_key parts (point.Label n) f j l r zero s m e h = here_seam_key (spot.Label j n l) s 0 j m refl refl e h
free_seam_key parts (point.Label n) f j l r (suc k) s m e h = absurd (none-some s e)
free_seam_key parts (point.Open d) f j l r zero s m e h = here_seam_key (spot.Open j d l) s 0 j m refl refl e h
free_seam_key parts (point.Open d) f j l r (suc k) s m e h = absurd (none-some s e)
free_seam_key parts (point.Close d) f j l r zero s m e h = here_seam_key (spot.Close j d l) s 0 j m refl refl e h
free_seam_key parts (point.Close d) f j l r (suc k) s m e h = absurd (none-some s e)
free_seam_key parts (point.Call c) f j l r zero s m e h = here_seam_key (spot.Call j c l) s 0 j m refl refl e h
free_seam_key parts (point.Call c) f j l r (suc k) s m e h = by (is_split parts c) k e
  where
    by : (b : Bool) (k : ℕ) → slice_get (cond b (spot.SplitCall j c l ∷ []) []) k ≡ Some s → (suc k ≡ m) × (true ≡ true) × (j ≡ seam_in s)
    by true zero e = here_seam_key (spot.SplitCall j c l) s 1 j m refl refl e h
    by true (suc k) e = absurd (none-some s e)
    by false k e = absurd (none-some s e)
free_seam_key parts point.Exit f j l r zero s m e h = unplaced (spot.Exit f) s m refl e h
free_seam_key parts point.Exit f j l r (suc k) s m e h = absurd (none-some s e)

pub free_there : (parts : List Part) (p : Point) (f j l r : ℕ) → (s : Spot) × (slice_get (free parts p f j l r) 0 ≡ Some s)
free_there parts point.Entry f j l r = (spot.Step l, refl)
free_there parts point.Step f j l r = (spot.Step l, refl)
free_there parts point.Branch f j l r = (spot.Branch l r, refl)
free_there parts (point.Label n) f j l r = (spot.Label j n l, refl)
free_there parts (point.Open d) f j l r = (spot.Open j d l, refl)
free_there parts (point.Close d) f j l r = (spot.Close j d l, refl)
free_there parts (point.Call m) f j l r = (spot.Call j m l, refl)
free_there parts point.Exit f j l r = (spot.Exit f, refl)

module _ (policy : PlainPolicy) (parts : List Part) (ns : List Node) where
  abbrev pub at : ℕ → ℕ
  at = base policy parts ns

  abbrev pub rest_of : Node → List Spot
  rest_of n = free parts n.point n.function (number n.seam) (to at (first_of n.next)) (to at (second_of n.next))

  pub rest_quiet : (n : Node) → AreQuiet (rest_of n)
  rest_quiet n = free_quiet parts n.point n.function (number n.seam) (to at (first_of n.next)) (to at (second_of n.next))

  -- what stands at a place of a point
  pub of_point : (p : ℕ) (n : Node) (k : ℕ) (s : Spot) → slice_get ns p ≡ Some n → slice_get (spots_at policy parts at n) k ≡ Some s → slice_get (spots_in policy parts ns) (at p + k) ≡ Some s
  of_point p n k s en e = has_get (spots_in policy parts ns) (at p) (spots_at policy parts at n) k s
      (stands (spots_at policy parts at) (λ (m : Node). width policy parts m.point) (width_at policy parts at) ns p n en) e

  -- a visit has what it asks behind it
  pub visit_behind : (q j i : ℕ) (a : Primitive) → slice_get (spots_in policy parts ns) q ≡ Some (spot.Visit j i a) → slice_get (spots_in policy parts ns) (q + 1) ≡ Some (spot.Asked j i a)
  visit_behind q j i a e =
      let r = found (spots_at policy parts at) (λ (m : Node). width policy parts m.point) (width_at policy parts at) ns q (spot.Visit j i a) e in
      let n = r.1 in
      let k = behind_in (rest_of n) (rest_quiet n) (number n.seam) 0 (primitives_at policy parts n.point) r.2 j i a r.4 in
      let z : at r.0 + suc r.2 ≡ q + 1 = omega (arith, r.5) in
      sym (ap (slice_get (spots_in policy parts ns)) z) ∙ of_point r.0 n (suc r.2) (spot.Asked j i a) r.3 k

  -- nothing is asked right past a visit
  pub visit_past : (q j i x y : ℕ) (a b : Primitive) → slice_get (spots_in policy parts ns) q ≡ Some (spot.Visit j i a) → slice_get (spots_in policy parts ns) (q + 2) ≡ Some (spot.Asked x y b) → ⊥
  visit_past q j i x y a b e f =
      let r = found (spots_at policy parts at) (λ (m : Node). width policy parts m.point) (width_at policy parts at) ns q (spot.Visit j i a) e in
      let n = r.1 in
      let u = free_there parts n.point n.function (number n.seam) (to at (first_of n.next)) (to at (second_of n.next)) in
      let v = past_there (rest_of n) (rest_quiet n) (number n.seam) 0 (primitives_at policy parts n.point) u.0 u.1 r.2 j i a r.4 in
      let z : at r.0 + suc (suc r.2) ≡ q + 2 = omega (arith, r.5) in
      let same : v.0 ≡ spot.Asked x y b = same_Some v.0 (spot.Asked x y b) (sym (of_point r.0 n (suc (suc r.2)) v.0 r.3 v.1) ∙ ap (slice_get (spots_in policy parts ns)) z ∙ f) in
      past_in (rest_of n) (rest_quiet n) (number n.seam) 0 (primitives_at policy parts n.point) r.2 j i x y a b r.4 (v.1 ∙ ap Some same)

  -- nor where a point begins
  pub front_unasked : (p : ℕ) (n : Node) (x y : ℕ) (b : Primitive) → slice_get ns p ≡ Some n → slice_get (spots_in policy parts ns) (at p) ≡ Some (spot.Asked x y b) → ⊥
  front_unasked p n x y b en f =
      let u = free_there parts n.point n.function (number n.seam) (to at (first_of n.next)) (to at (second_of n.next)) in
      let v = front_there (rest_of n) (rest_quiet n) (number n.seam) 0 (primitives_at policy parts n.point) u.0 u.1 in
      let z : at p + 0 ≡ at p = omega arith in
      let same : v.0 ≡ spot.Asked x y b = same_Some v.0 (spot.Asked x y b) (sym (of_point p n 0 v.0 en v.1) ∙ ap (slice_get (spots_in policy parts ns)) z ∙ f) in
      front_in (rest_of n) (rest_quiet n) (number n.seam) 0 (primitives_at policy parts n.point) x y b (v.1 ∙ ap Some same)

  -- what is asked stands at a point with a seam
  asked_seam : (p : Point) (f j l r k x y : ℕ) (a : Primitive) → slice_get (visits j 0 (primitives_at policy parts p) ++ free parts p f j l r) k ≡ Some (spot.Asked x y a) → is_seam_point p ≡ true
  asked_seam point.Entry f j l r k x y a e = refl
  asked_seam point.Step f j l r k x y a e = absurd (no_asked (free parts point.Step f j l r) (free_quiet parts point.Step f j l r) k x y a e)
  asked_seam point.Branch f j l r k x y a e = absurd (no_asked (free parts point.Branch f j l r) (free_quiet parts point.Branch f j l r) k x y a e)
  asked_seam (point.Label n) f j l r k x y a e = refl
  asked_seam (point.Open d) f j l r k x y a e = refl
  asked_seam (point.Close d) f j l r k x y a e = refl
  asked_seam (point.Call m) f j l r k x y a e = refl
  asked_seam point.Exit f j l r k x y a e = absurd (no_asked (free parts point.Exit f j l r) (free_quiet parts point.Exit f j l r) k x y a e)

  module _ (ss : List Seam) (are : AreSeams 0 0 ns ss) where
    -- the seam of a point
    seam_point : (p : ℕ) (n : Node) (j : ℕ) → slice_get ns p ≡ Some n → is_seam_point n.point ≡ true → number n.seam ≡ j → (s : Seam) × (slice_get ss j ≡ Some s) × (s.point.0 ≡ p)
    seam_point p n j en h e =
        ⊎_elim
        (λ b. let w : true ≡ false = sym h ∙ b.1 in cc)
        (λ r.
        let z : r.0 ≡ j = omega (arith, ap number r.2.0, e) in
        let at : r.1.point.0 ≡ p = omega (arith, r.4) in
        (r.1, ap (slice_get ss) (sym z) ∙ r.3, at))
        (seam_at 0 0 ns ss p n are en)

    -- points with one seam are one
    pub one_point : (p r : ℕ) (n m : Node) (j : ℕ) → slice_get ns p ≡ Some n → slice_get ns r ≡ Some m → is_seam_point n.point ≡ true → is_seam_point m.point ≡ true → number n.seam ≡ j
        → number m.seam ≡ j → p ≡ r
    one_point p r n m j en em hn hm jn jm =
        let a = seam_point p n j en hn jn in
        let b = seam_point r m j em hm jm in
        sym a.2 ∙ ap (λ (s : Seam). s.point.0) (same_Some a.0 b.0 (sym a.1 ∙ b.1)) ∙ b.2

    -- a stage of a seam is asked at one position
    pub asked_once : (q w j i : ℕ) (a b : Primitive) → slice_get (spots_in policy parts ns) q ≡ Some (spot.Asked j i a) → slice_get (spots_in policy parts ns) w ≡ Some (spot.Asked j i b) → q ≡ w
    asked_once q w j i a b e f =
        let r = found (spots_at policy parts at) (λ (m : Node). width policy parts m.point) (width_at policy parts at) ns q (spot.Asked j i a) e in
        let v = found (spots_at policy parts at) (λ (m : Node). width policy parts m.point) (width_at policy parts at) ns w (spot.Asked j i b) f in
        let n = r.1 in
        let m = v.1 in
        let x = asked_seam_key (rest_of n) (rest_quiet n) (number n.seam) 0 (primitives_at policy parts n.point) r.2 j i a r.4 in
        let y = asked_seam_key (rest_of m) (rest_quiet m) (number m.seam) 0 (primitives_at policy parts m.point) v.2 j i b v.4 in
        let hn = asked_seam n.point n.function (number n.seam) (to at (first_of n.next)) (to at (second_of n.next)) r.2 j i a r.4 in
        let hm = asked_seam m.point m.function (number m.seam) (to at (first_of m.next)) (to at (second_of m.next)) v.2 j i b v.4 in
        let p : r.0 ≡ v.0 = one_point r.0 v.0 n m j r.3 v.3 hn hm x.1 y.1 in
        let k : r.2 ≡ v.2 = omega (arith, x.2, x.3, y.2, y.3) in
        r.5 ∙ ap₂ (λ c d. at c + d) p k ∙ sym v.5

    -- what stands in the same place of the same seam stands at one position
    pub seam_key_once : (q w m : ℕ) (s t : Spot) → part_of_spot s ≡ Some m → part_of_spot t ≡ Some m → seam_in s ≡ seam_in t → slice_get (spots_in policy parts ns) q ≡ Some s
        → slice_get (spots_in policy parts ns) w ≡ Some t → q ≡ w
    seam_key_once q w m s t ps pt js e f =
        let r = found (spots_at policy parts at) (λ (m : Node). width policy parts m.point) (width_at policy parts at) ns q s e in
        let v = found (spots_at policy parts at) (λ (m : Node). width policy parts m.point) (width_at policy parts at) ns w t f in
        let n = r.1 in
        let o = v.1 in
        let x = quiet_seam_key (rest_of n) (rest_quiet n) (number n.seam) 0 (primitives_at policy parts n.point) r.2 s (seam_key_quiet s m ps) r.4 in
        let y = quiet_seam_key (rest_of o) (rest_quiet o) (number o.seam) 0 (primitives_at policy parts o.point) v.2 t (seam_key_quiet t m pt) v.4 in
        let c = free_seam_key parts n.point n.function (number n.seam) (to at (first_of n.next)) (to at (second_of n.next)) x.0 s m x.2 ps in
        let d = free_seam_key parts o.point o.function (number o.seam) (to at (first_of o.next)) (to at (second_of o.next)) y.0 t m y.2 pt in
        let p : r.0 ≡ v.0 = one_point r.0 v.0 n o (seam_in s) r.3 v.3 c.1 d.1 c.2 (d.2 ∙ sym js) in
        let same : n ≡ o = same_Some n o (sym r.3 ∙ ap (slice_get ns) p ∙ v.3) in
        let long : length (primitives_at policy parts n.point) ≡ length (primitives_at policy parts o.point) = ap (λ (z : Node). length (primitives_at policy parts z.point)) same in
        let k : r.2 ≡ v.2 = omega (arith, x.1, y.1, c.0, d.0, long) in
        r.5 ∙ ap₂ (λ c d. at c + d) p k ∙ sym v.5
