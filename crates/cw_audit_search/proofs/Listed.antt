-- What lists a settled search is good, attained, and so the game's table.
use Rattle.std.proofs.Common.{◌≡◌, ℕ, ◌+◌, ◌≤◌, [], true, not, ◌||◌, Option, Some, None, is_some, nat_eq, nat_lt, eqb-true, eq-eqb, refl, sym}
use Rattle.std.proofs.Common.{ap, ◌∙◌, subst, arith}
use Rattle.std.specs.Prelude.{slice_get, nat_le}
use Rattle.std.proofs.lemmas.Option.{same_Some}
use Rattle.std.proofs.lemmas.Bool.{ltb-true, lt-ltb, and_parts, le-leb}
use Rattle.std.proofs.lemmas.Bool.{and_from as both}
use Rattle.cw_lemmas.proofs.Truths.{implied}
use Rattle.cw_certs.specs.declared.moves.Move.{Move}
use Rattle.cw_certs.specs.declared.moves.Move.TheVariants.{On, Left, Right, Opened, Failed}
use Rattle.cw_game.specs.declared.spots.Spot.{Spot}
use Rattle.cw_game.specs.declared.spots.Spot.TheVariants.{Call}
use Rattle.cw_game.specs.Games.{Game, Config, leads_in}
use Rattle.cw_game.specs.Conditions.{is_position, is_state}
use Rattle.cw_audit_table.specs.Runs.{is_step, skipped, cut, IsEntered, IsWithin, IsHit}
use Rattle.cw_audit_table.specs.Tables.{PlainRow, PlainGroup, Audit, group_at, inside_at}
use Rattle.cw_audit_table.specs.Conditions.{is_before, is_within, has_within, is_free}
use Rattle.cw_audit_table.specs.Conditions.{is_zero, is_mains, begins, is_inner, takes, moves_on, comes_back, enters, calls_on, IsGoodAudit, EndAlone}
use Rattle.cw_audit_table.specs.Stated.{IsAttained, IsStated}
use Rattle.cw_audit_table.proofs.Bounds.{IsClosedBy}
use Rattle.cw_audit_table.proofs.Closing.{group_found, row_found, before_lower}
use Rattle.cw_audit_table.proofs.Least.{attained_stated}
use Rattle.cw_audit_search.specs.Searches.{Found}
use Rattle.cw_audit_search.specs.Sound.{IsFair, IsSound, IsRowKey}
use Rattle.cw_audit_search.specs.Settled.{IsSettled, IsBound, IsRowBelow}
use Rattle.cw_audit_search.specs.Listing.{IsListed, IsListing}
use Rattle.cw_audit_search.proofs.Front.{front}
use Rattle.cw_audit_search.proofs.Ascending.{group_there, row_there}
use Rattle.cw_audit_search.proofs.Good.{all_true, IsInRange, all_none}

module _ (g : Game) (functions : ℕ) (fair : IsFair g functions) (s : Found) (sound : IsSound g functions s) (D : Option ℕ) (t : Audit) (l : IsListing g s D t) where
  before : (n : ℕ) → is_before t.distance n ≡ true → is_before D n ≡ true
  before n e = ap (λ D. is_before D n) (sym l.distance) ∙ e

  -- a row below the distance is looked up
  record IsLooked (f q r p x a : ℕ) : Type 0 where
    pub listed : IsListed t.groups f q r p x a
    pub group : group_at t.groups f q ≡ Some listed.group
    pub inside : inside_at listed.group.rows p x ≡ Some a

  looked : (f q r p x a : ℕ) → IsRowBelow s D f q r p x a → IsLooked f q r p x a
  looked f q r p x a w =
      let z = l.groups.whole f q r p x a w in
      record {
        listed = z;
        group = group_there t.groups z.index z.group f q l.groups.groups_ascend z.there z.function z.entered;
        inside = row_there z.group.rows z.row_index z.row p x (l.groups.rows_ascend z.index z.group z.there) z.stands z.pos z.state ∙ ap (λ n. Some n) z.inside;
      }

  row_of : (i n : ℕ) (grp : PlainGroup) (r : PlainRow) → slice_get t.groups i ≡ Some grp → slice_get grp.rows n ≡ Some r
      → IsRowBelow s D grp.function grp.entered grp.reach r.pos r.state r.inside
  row_of i n grp r e er = l.groups.below i n grp r e er

  -- a row of the same group is among the group's rows
  in_group : (i : ℕ) (grp : PlainGroup) (r p x a : ℕ) → slice_get t.groups i ≡ Some grp → IsRowBelow s D grp.function grp.entered r p x a → inside_at grp.rows p x ≡ Some a
  in_group i grp r p x a e w =
      let z = looked grp.function grp.entered r p x a w in
      let here = group_there t.groups i grp grp.function grp.entered l.groups.groups_ascend e refl refl in
      subst (λ (y : PlainGroup). inside_at y.rows p x ≡ Some a) (same_Some z.listed.group grp (sym z.group ∙ here)) z.inside

  reach_low : (f q r p x a n : ℕ) → IsRowBelow s D f q r p x a → r ≤ n → r ≤ cut n
  reach_low f q r p x a n w le = let z = (sound.entered f q r w.0).number in omega (arith, z, le)

  within : (i : ℕ) (grp : PlainGroup) (r p x b n : ℕ) → slice_get t.groups i ≡ Some grp → IsRowBelow s D grp.function grp.entered r (skipped g p) x b → b ≤ n
      → has_within g grp.rows n p x ≡ true
  within i grp r p x b n e w le =
      let z = (sound.inside grp.function grp.entered (skipped g p) x b w.1).2 in
      ap (is_within n) (in_group i grp r (skipped g p) x b e w) ∙ le-leb b (cut n) (omega (arith, z, le))

  row_key_of : (f q r p x a : ℕ) → IsRowBelow s D f q r p x a → IsRowKey g functions f q p x
  row_key_of f q r p x a w = sound.keyed f q p x a w.1

  in_range : (i : ℕ) (grp : PlainGroup) → slice_get t.groups i ≡ Some grp → IsInRange g functions grp
  in_range i grp e =
      let first = l.groups.some i grp e in
      let at = row_key_of grp.function grp.entered grp.reach first.0.pos first.0.state first.0.inside (row_of i 0 grp first.0 e first.1) in
      record {
        group = both (nat_lt grp.function functions) (is_state g grp.entered) (lt-ltb grp.function functions at.below) (lt-ltb grp.entered g.states.count at.entered);
        ascend = l.groups.rows_ascend i grp e;
        rows = λ n r er.
            let k = row_key_of grp.function grp.entered grp.reach r.pos r.state r.inside (row_of i n grp r e er) in
            let short = fair.short grp.function k.function in
            both (is_position g r.pos) _ (lt-ltb r.pos _ (omega (arith, k.position.1, short)))
            (both (is_state g r.state) _ (lt-ltb r.state g.states.count k.state)
            (both (nat_le (g.entry grp.function) r.pos) _ (le-leb (g.entry grp.function) r.pos k.position.0)
            (both (nat_le r.pos (g.exit grp.function)) (is_free (slice_get g.spots r.pos)) (le-leb r.pos (g.exit grp.function) k.position.1) k.free)));
      }

  module _ (closed : IsClosedBy g D (IsRowBelow s D)) where
    -- condition 4
    takes_each : (i : ℕ) (grp : PlainGroup) (r : PlainRow) → slice_get t.groups i ≡ Some grp → IsRowBelow s D grp.function grp.entered grp.reach r.pos r.state r.inside
        → is_inner (slice_get g.spots r.pos) ≡ true → is_before D (grp.reach + r.inside + 1) ≡ true → (by : Move) → is_step by ≡ true
        → takes g grp.rows (r.inside + 1) (leads_in g r.pos r.state [] (slice_get g.spots r.pos) by) ≡ true
    takes_each i grp r e w inner low by step = by_lead (leads_in g r.pos r.state [] (slice_get g.spots r.pos) by) refl
      where
        by_lead : (o : Option Config) → leads_in g r.pos r.state [] (slice_get g.spots r.pos) by ≡ o → takes g grp.rows (r.inside + 1) o ≡ true
        by_lead None eo = refl
        by_lead (Some c) eo =
            let z = closed.steps grp.function grp.entered grp.reach r.pos r.state r.inside by c w inner low step eo in
            within i grp grp.reach c.pos c.state z.0 (r.inside + 1) e z.1 z.2

    moves_ok : (i : ℕ) (grp : PlainGroup) (r : PlainRow) → slice_get t.groups i ≡ Some grp → IsRowBelow s D grp.function grp.entered grp.reach r.pos r.state r.inside
        → moves_on g t.distance grp r (slice_get g.spots r.pos) ≡ true
    moves_ok i grp r e w =
        let test = λ (by : Move). takes g grp.rows (r.inside + 1) (leads_in g r.pos r.state [] (slice_get g.spots r.pos) by) in
        implied (is_inner (slice_get g.spots r.pos)) _ (λ inner. implied (is_before t.distance (grp.reach + r.inside + 1)) _ (λ low.
        let one = takes_each i grp r e w inner (before (grp.reach + r.inside + 1) low) in
        both (test On) _ (one On refl) (both (test Left) _ (one Left refl) (both (test Right) _ (one Right refl) (both (test Opened) _ (one Opened refl)
        (both (test Failed) true (one Failed refl) refl))))))

    -- condition 5
    back_ok : (i m : ℕ) (grp callee : PlainGroup) (r end : PlainRow) (n j h k : ℕ) → slice_get t.groups i ≡ Some grp
        → IsRowBelow s D grp.function grp.entered grp.reach r.pos r.state r.inside → slice_get g.spots r.pos ≡ Some (Call j h k)
        → slice_get t.groups m ≡ Some callee → callee.function ≡ h → callee.entered ≡ r.state → slice_get callee.rows n ≡ Some end
        → comes_back g t.distance grp r h k end ≡ true
    back_ok i m grp callee r end n j h k e w call em eh ex en =
        implied (nat_eq end.pos (g.exit h)) _ (λ last. implied (is_before t.distance (grp.reach + r.inside + end.inside + 2)) _ (λ low.
        let v1 = row_of m n callee end em en in
        let v2 = subst (λ f. IsRowBelow s D f callee.entered callee.reach end.pos end.state end.inside) eh v1 in
        let v3 = subst (λ q. IsRowBelow s D h q callee.reach end.pos end.state end.inside) ex v2 in
        let v4 = subst (λ p. IsRowBelow s D h r.state callee.reach p end.state end.inside) (eqb-true end.pos (g.exit h) last) v3 in
        let z = closed.returns grp.function grp.entered grp.reach r.pos r.state r.inside j h k callee.reach end.state end.inside w call v4
        (before (grp.reach + r.inside + end.inside + 2) low) in
        within i grp grp.reach k end.state z.0 (r.inside + end.inside + 2) e z.1 z.2))

    call_ok : (i : ℕ) (grp : PlainGroup) (r : PlainRow) (j h k : ℕ) → slice_get t.groups i ≡ Some grp
        → IsRowBelow s D grp.function grp.entered grp.reach r.pos r.state r.inside → slice_get g.spots r.pos ≡ Some (Call j h k) → is_before D (grp.reach + r.inside + 1) ≡ true
        → enters g t.distance grp r h k (group_at t.groups h r.state) ≡ true
    call_ok i grp r j h k e w call low =
        let c = closed.calls grp.function grp.entered grp.reach r.pos r.state r.inside j h k w call low in
        let z = looked h r.state c.0 (skipped g (g.entry h)) r.state 0 c.1 in
        let callee = z.listed.group in
        ap (enters g t.distance grp r h k) z.group
        ∙ both (nat_le callee.reach (cut (grp.reach + r.inside + 1))) _
        (le-leb callee.reach (cut (grp.reach + r.inside + 1))
        (subst (λ n. n ≤ cut (grp.reach + r.inside + 1)) (sym z.listed.reach) (reach_low h r.state c.0 (skipped g (g.entry h)) r.state 0 (grp.reach + r.inside + 1) c.1 c.2)))
        (all_true (comes_back g t.distance grp r h k) callee.rows
        (λ n end en. back_ok i z.listed.index grp callee r end n j h k e w call z.listed.there z.listed.function z.listed.entered en))

    calls_ok : (i : ℕ) (grp : PlainGroup) (r : PlainRow) → slice_get t.groups i ≡ Some grp → IsRowBelow s D grp.function grp.entered grp.reach r.pos r.state r.inside
        → calls_on g t grp r (slice_get g.spots r.pos) ≡ true
    calls_ok i grp r e w = by_spot (slice_get g.spots r.pos) refl
      where
        by_spot : (o : Option Spot) → slice_get g.spots r.pos ≡ o → calls_on g t grp r o ≡ true
        by_spot (Some (Call j h k)) eo =
            implied (is_before t.distance (grp.reach + r.inside + 1)) _ (λ low. call_ok i grp r j h k e w eo (before (grp.reach + r.inside + 1) low))
        by_spot _ eo = refl

    -- condition 2
    begins_ok : (i : ℕ) (grp : PlainGroup) → slice_get t.groups i ≡ Some grp → begins g grp ≡ true
    begins_ok i grp e =
        let first = l.groups.some i grp e in
        let w = row_of i 0 grp first.0 e first.1 in
        let entry : IsRowBelow s D grp.function grp.entered grp.reach (skipped g (g.entry grp.function)) grp.entered 0
        = (w.0, sound.begun grp.function grp.entered first.0.pos first.0.state first.0.inside w.1, before_lower g D (grp.reach + 0) (grp.reach + first.0.inside) (omega arith) w.2) in
        both (not (is_mains g grp) || nat_eq grp.reach 0) _
        (implied (is_mains g grp) (nat_eq grp.reach 0) (λ mains.
        let k = and_parts (nat_eq grp.function g.main) (nat_eq grp.entered g.states.start) mains in
        let w1 = subst (λ f. s.reach f grp.entered ≡ Some grp.reach) (eqb-true grp.function g.main k.0) w.0 in
        let w2 = subst (λ q. s.reach g.main q ≡ Some grp.reach) (eqb-true grp.entered g.states.start k.1) w1 in
        eq-eqb grp.reach 0 (sym (same_Some 0 grp.reach (sym sound.main ∙ w2)))))
        (ap is_zero (in_group i grp grp.reach (skipped g (g.entry grp.function)) grp.entered 0 e entry))

    -- The table that lists it is good.
    pub listing_good : IsGoodAudit g functions t
    listing_good = all_none g functions t (record {
      states = l.states;
      ascend = l.groups.groups_ascend;
      ranges = in_range;
      groups = λ i grp e. record {
        begin = begins_ok i grp e;
        rows = λ n r er.
            let w = row_of i n grp r e er in
            record {
              good = ap not (closed.good grp.function grp.entered grp.reach r.pos r.state r.inside w);
              moves = moves_ok i grp r e w;
              calls = calls_ok i grp r e w;
            };
      };
      main = ap is_some (looked g.main g.states.start 0 (skipped g (g.entry g.main)) g.states.start 0 closed.begins).group;
    })

  -- Each of its numbers is that of a run.
  pub listing_attained : s.best ≡ D → ((d : ℕ) → D ≡ Some d → d ≤ 65536) → IsAttained g t
  listing_attained same few = record {
    entered = λ f q grp e.
        let z = group_found t.groups f q grp e in
        let first = l.groups.some z.2.0 grp z.2.1 in
        let w = row_of z.2.0 0 grp first.0 z.2.1 first.1 in
        let a = sound.entered grp.function grp.entered grp.reach w.0 in
        (a.moves, subst (λ f. IsEntered g f q a.moves) z.0 (subst (λ q. IsEntered g grp.function q a.moves) z.1 a.run), a.number);
    inside = λ f q p x a grp e i.
        let z = group_found t.groups f q grp e in
        let y = row_found grp.rows p x a i in
        let w = row_of z.2.0 y.4.0 grp y.0 z.2.1 y.4.1 in
        let k = sound.inside grp.function grp.entered y.0.pos y.0.state y.0.inside w.1 in (
          k.0,
          subst (λ f. IsWithin g f q p x k.0) z.0 (subst (λ q. IsWithin g grp.function q p x k.0) z.1
              (subst (λ p. IsWithin g grp.function grp.entered p x k.0) y.1 (subst (λ x. IsWithin g grp.function grp.entered y.0.pos x k.0) y.2 k.1))),
          sym y.3 ∙ k.2,
        );
    hit = λ T e.
        let low = few T (sym l.distance ∙ e) in
        let h = sound.violated T (same ∙ sym l.distance ∙ e) in
        (subst (IsHit g) (omega (arith, h.2, low)) h.1, low);
    nearer = λ T f q p x a grp e eg i.
        let low = few T (sym l.distance ∙ e) in
        let z = group_found t.groups f q grp eg in
        let y = row_found grp.rows p x a i in
        let w = row_of z.2.0 y.4.0 grp y.0 z.2.1 y.4.1 in
        let k = ltb-true (cut (grp.reach + y.0.inside)) T (ap (λ D. is_before D (grp.reach + y.0.inside)) (sym e ∙ l.distance) ∙ w.2) in
        omega (arith, k, low, y.3);
  }

-- So it is the game's table.
pub listing_stated : (g : Game) (functions : ℕ) → IsFair g functions → (s : Found) → IsSound g functions s → (bound : ℕ) (D : Option ℕ) → IsBound s bound D → IsSettled g s bound
    → (t : Audit) → IsListing g s D t → s.best ≡ D → ((d : ℕ) → D ≡ Some d → d ≤ 65536) → IsStated g t
listing_stated g functions fair s sound bound D b settled t l same few =
    let alone : EndAlone g functions = λ f p k below low high e. fair.alone f p k below (low, high) e in
    attained_stated g functions t alone (listing_good g functions fair s sound D t l (front g functions fair s sound bound D b settled))
    (listing_attained g functions fair s sound D t l same few)

pub listing_is_good : (g : Game) (functions : ℕ) → IsFair g functions → (s : Found) → IsSound g functions s → (bound : ℕ) (D : Option ℕ) → IsBound s bound D → IsSettled g s bound
    → (t : Audit) → IsListing g s D t → IsGoodAudit g functions t
listing_is_good g functions fair s sound bound D b settled t l = listing_good g functions fair s sound D t l (front g functions fair s sound bound D b settled)
