-- One thing is written, or replaced by what it stands for.
use Rattle.std.proofs.Common.{◌≡◌, ℕ, ◌≤◌, List, [], ◌∷◌, ◌++◌, Option, Some, option_map, sym, ap, ◌∙◌, subst, arith, inr, append_assoc, append-nil}
use Rattle.std.proofs.lemmas.Option.{same_Some}
use Rattle.cw_certs.specs.declared.moves.Move.{Move}
use Rattle.cw_game.specs.Games.{Game}
use Rattle.cw_audit_table.specs.Runs.{IsHit}
use Rattle.cw_audit_store.specs.declared.row_key.RowKey.{RowKey}
use Rattle.cw_audit_store.specs.declared.row_key.Row.{Row as StoredRow}
use Rattle.cw_audit_store.specs.declared.row_key.Way.{Way}
use Rattle.cw_audit_store.specs.declared.row_key.Way.TheVariants.{Begun, Moved, Returned}
use Rattle.cw_audit_store.specs.declared.row_key.Entrance.{Entrance}
use Rattle.cw_audit_store.specs.declared.row_key.Entered.{Entered}
use Rattle.cw_audit_store.specs.declared.row_key.Hit.{Hit}
use Rattle.cw_audit_store.specs.declared.store.Store.{Store}
use Rattle.cw_audit_store.specs.Stores.{row_at, group_at}
use Rattle.cw_audit_store.specs.Finding.{found_of, ways_of, way_of, caller_of, bad_way_of}
use Rattle.cw_audit_search.specs.Searches.{Found}
use Rattle.cw_audit_search.specs.Ways as way
use Rattle.cw_audit_search.specs.Ways.{Ways, Caller, BadWay, IsWay, IsBadWay, AreWays, Todo, Reach, Row, Step, unfold_way, unfold_call, unfold_hit, Unfolds, weight, AreLow}
use Rattle.cw_audit_search.proofs.Recalled.{recalled}
use Rattle.cw_audit_search.proofs.Weights.{low_append, way_low, call_low, row_lighter, reach_lighter, hit_low, step_first, row_first, reach_first, nothing_left}
use Rattle.cw_audit_moves.specs.Writing.{IsCallee, IsRunTo, IsWriting, IsReady, IsStepOn}

module _ (g : Game) (functions : ℕ) (s : Found) (w : Ways) (ready : IsReady g functions s w) where
  pub step_written : (n : ℕ) (written after : List Move) (left : List Todo) (by : Move) → after ≡ written ++ by ∷ [] → IsWriting g s w n written (Step by ∷ left)
      → IsStepOn g s w n after left (Step by ∷ left)
  step_written n written after left by e h =
      let f = step_first g w by left h.rest h.unfolds in
      record {
        writing = record {
          low = h.low.1;
          rest = f.0;
          unfolds = f.2;
          run = subst (λ ms. IsRunTo g ms n) (ap (λ ms. written ++ ms) f.1 ∙ sym (append_assoc written (by ∷ []) f.0) ∙ ap (λ ms. ms ++ f.0) (sym e)) h.run;
        };
        less = omega arith;
      }

  pub row_written : (n : ℕ) (written : List Move) (left after : List Todo) (f q p x : ℕ) (way : way.Way) → w.row f q p x ≡ Some way → after ≡ unfold_way g f q way ++ left
      → IsWriting g s w n written (Row f q p x ∷ left) → IsStepOn g s w n written after (Row f q p x ∷ left)
  row_written n written left after f q p x way ew e h =
      let low = h.low.0 in
      let z = ready.ways.rows f q p x low.0 low.1 in
      let leads = subst (IsWay g s f q p x low.0) (same_Some z.0 way (sym z.1 ∙ ew)) z.2 in
      subst (λ t. IsStepOn g s w n written t (Row f q p x ∷ left)) (sym e)
      (record {
        writing = record {
          low = low_append s (unfold_way g f q way) left (way_low g s f q p x low.0 way low.2 leads) h.low.1;
          rest = h.rest;
          unfolds = row_first g w f q p x way left h.rest ew h.unfolds;
          run = h.run;
        };
        less = row_lighter g s f q p x low.0 way left low.1 low.2 leads;
      })

  pub reach_written : (n : ℕ) (written : List Move) (left after : List Todo) (f q : ℕ) (c : Option Caller) → w.call f q ≡ Some c → after ≡ unfold_call q c ++ left
      → IsWriting g s w n written (Reach f q ∷ left) → IsStepOn g s w n written after (Reach f q ∷ left)
  reach_written n written left after f q c ec e h =
      let low = h.low.0 in
      let z = ready.ways.calls f q low.0 low.1 in
      let leads = subst (way.IsCaller g s f q low.0) (same_Some z.0 c (sym z.1 ∙ ec)) z.2 in
      subst (λ t. IsStepOn g s w n written t (Reach f q ∷ left)) (sym e)
      (record {
        writing = record {
          low = low_append s (unfold_call q c) left (call_low g s f q low.0 c low.2 leads) h.low.1;
          rest = h.rest;
          unfolds = reach_first g w f q c left h.rest ec h.unfolds;
          run = h.run;
        };
        less = reach_lighter g s f q low.0 c left low.1 low.2 leads;
      })

  -- by what stands first
  pub for_next : (n : ℕ) (written after : List Move) (left rest : List Todo) (t u : Todo) → t ≡ u → (IsWriting g s w n written (u ∷ left) → IsStepOn g s w n after rest (u ∷ left))
      → IsWriting g s w n written (t ∷ left) → IsStepOn g s w n after rest (t ∷ left)
  for_next n written after left rest t u e f = subst (λ t. IsWriting g s w n written (t ∷ left) → IsStepOn g s w n after rest (t ∷ left)) (sym e) f

  -- what is called is a function
  pub callee_below : (f q p x n : ℕ) (by : Way) → IsWay g s f q p x n (way_of by) → IsCallee functions by
  callee_below f q p x n (Returned x0 p0 h y) k = ready.fair.below h (inr (p0.0, k.5.0, k.5.1, k.5.2))
  callee_below f q p x n Begun k = tt
  callee_below f q p x n (Moved x0 p0 by) k = tt

  -- at the end all is written
  pub all_written : (n : ℕ) (written : List Move) (left : List Todo) → left ≡ [] → IsWriting g s w n written left → IsRunTo g written n
  all_written n written left e h =
      let none = nothing_left g w h.rest (subst (λ t. Unfolds g w t h.rest) e h.unfolds) in
      subst (λ ms. IsRunTo g ms n) (ap (λ ms. written ++ ms) none ∙ append-nil written) h.run

  -- at first nothing is
  pub none_written : (n : ℕ) (written : List Move) (left : List Todo) (h : BadWay) → s.best ≡ Some n → n ≤ 65536 → ((m : ℕ) → IsHit g m → n ≤ m) → w.hit ≡ Some h
      → written ≡ []
      → left ≡ unfold_hit g h → IsWriting g s w n written left
  none_written n written left h e few least eh ew el =
      let t = recalled g functions ready.fair s ready.sound w ready.ways n e few least in
      let same : t.0 ≡ h = same_Some t.0 h (sym t.1 ∙ eh) in
      let z = ready.ways.hit n e in
      let bad = subst (IsBadWay g s n) (same_Some z.0 h (sym z.1 ∙ eh)) z.2 in
      subst (IsWriting g s w n written) (sym el) (subst (λ ms. IsWriting g s w n ms (unfold_hit g h)) (sym ew)
      (record {
        low = hit_low g s n h few bad;
        rest = t.2.0;
        unfolds = subst (λ h. Unfolds g w (unfold_hit g h) t.2.0) same t.2.1;
        run = (t.2.2, t.2.3);
      }))

-- The look-ups of a store.
pub row_way : (s : Store) (at : RowKey) (r : StoredRow) → Some r ≡ row_at s at → (ways_of s).row at.entrance.function at.entrance.state.0 at.pos.0 at.state.0 ≡ Some (way_of r.way)
row_way s at r e = ap (option_map (λ (r : StoredRow). way_of r.way)) (sym e)

pub row_number : (s : Store) (at : RowKey) (r : StoredRow) → Some r ≡ row_at s at → (found_of s).number at.entrance.function at.entrance.state.0 at.pos.0 at.state.0 ≡ Some r.inside
row_number s at r e = ap (option_map (λ (r : StoredRow). r.inside)) (sym e)

pub group_call : (s : Store) (at : Entrance) (r : Entered) (c : Option RowKey) → Some r ≡ group_at s at → r.call ≡ c
    → (ways_of s).call at.function at.state.0 ≡ Some (option_map caller_of c)
group_call s at r c e ec = ap (option_map (λ (e : Entered). option_map caller_of e.call)) (sym e) ∙ ap (λ o. Some (option_map caller_of o)) ec

pub row_callee : (g : Game) (functions : ℕ) (s : Store) → IsReady g functions (found_of s) (ways_of s) → (at : RowKey) (r : StoredRow) → Some r ≡ row_at s at → IsCallee functions r.way
row_callee g functions s ready at r e =
    let z = ready.ways.rows at.entrance.function at.entrance.state.0 at.pos.0 at.state.0 r.inside (row_number s at r e) in
    callee_below g functions (found_of s) (ways_of s) ready at.entrance.function at.entrance.state.0 at.pos.0 at.state.0 r.inside r.way
    (subst (IsWay g (found_of s) at.entrance.function at.entrance.state.0 at.pos.0 at.state.0 r.inside) (same_Some z.0 (way_of r.way) (sym z.1 ∙ row_way s at r e)) z.2)

pub hit_callee : (g : Game) (functions : ℕ) (s : Store) → IsReady g functions (found_of s) (ways_of s) → (h : Hit) → s.hit ≡ Some h → IsCallee functions h.way
hit_callee g functions s ready h e =
    let z = ready.ways.hit h.distance (ap (option_map (λ (h : Hit). h.distance)) e) in
    let b = subst (IsBadWay g (found_of s) h.distance) (same_Some z.0 (bad_way_of h) (sym z.1 ∙ ap (option_map bad_way_of) e)) z.2 in
    callee_below g functions (found_of s) (ways_of s) ready h.entrance.function h.entrance.state.0 b.pos b.state b.inside h.way b.leads
