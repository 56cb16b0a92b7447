-- What one point more adds to what a program has.
use Rattle.std.proofs.Common.{◌≡◌, ℕ, zero, suc, ◌+◌, ◌<◌, ◌≤◌, List, [], ◌∷◌, ◌++◌, Bool, true, false, cond, ◌||◌, nat_eq, map, take, length, get_or, slice_set, refl, sym, ap, ◌∙◌, arith, ne_eqb}
use Rattle.std.proofs.lemmas.List.Folds.{list_any-append}
use Rattle.cw_points.specs.declared.graph.Point.{Point}
use Rattle.cw_points.specs.declared.graph.Point.TheVariants.{Entry, Step, Branch, Label, Open, Close, Call, Exit}
use Rattle.cw_points.specs.declared.graph.Node.{Node}
use Rattle.cw_states.specs.declared.uses.Uses.{Uses}
use Rattle.cw_product.specs.Uses.{closes_at, labels_at, is_close, is_label, closes_in, has_label, all_closes, uses_in}

abbrev eight : List ℕ
eight = 0 ∷ 1 ∷ 2 ∷ 3 ∷ 4 ∷ 5 ∷ 6 ∷ 7 ∷ []

abbrev with_both : List Bool → Bool → Uses
with_both c h = record {
  closes = c;
  has_other = h;
}

same_for_all : (f h : ℕ → Bool) → ((k : ℕ) → f k ≡ h k) → f ≡ h
same_for_all f h w = λ i k. w k i

or_last : (a b : Bool) → cond b true a ≡ (a || (b || false))
or_last true true = refl
or_last true false = refl
or_last false true = refl
or_last false false = refl

set_one : (f : ℕ → Bool) (d : ℕ) → d < 8 → slice_set (map f eight) d true ≡ map (λ k. cond (nat_eq d k) true (f k)) eight
set_one f zero l = refl
set_one f (suc zero) l = refl
set_one f (suc (suc zero)) l = refl
set_one f (suc (suc (suc zero))) l = refl
set_one f (suc (suc (suc (suc zero)))) l = refl
set_one f (suc (suc (suc (suc (suc zero))))) l = refl
set_one f (suc (suc (suc (suc (suc (suc zero)))))) l = refl
set_one f (suc (suc (suc (suc (suc (suc (suc zero))))))) l = refl
set_one f (suc (suc (suc (suc (suc (suc (suc (suc d)))))))) l = absurd (omega (arith, l))

apart : (f : ℕ → Bool) (d k : ℕ) → k < d → f k ≡ cond (nat_eq d k) true (f k)
apart f d k l = ap (λ b. cond b true (f k)) (sym (ne_eqb d k (λ e. absurd (omega (arith, l, e)))))

set_none : (f : ℕ → Bool) (d : ℕ) → 8 ≤ d → map f eight ≡ map (λ k. cond (nat_eq d k) true (f k)) eight
set_none f d l = λ i.
    apart f d 0 (omega (arith, l)) i ∷ apart f d 1 (omega (arith, l)) i ∷ apart f d 2 (omega (arith, l)) i ∷ apart f d 3 (omega (arith, l)) i
    ∷ apart f d 4 (omega (arith, l)) i ∷ apart f d 5 (omega (arith, l)) i ∷ apart f d 6 (omega (arith, l)) i ∷ apart f d 7 (omega (arith, l)) i ∷ []

one_more : (nodes : List Node) (node : Node) (k : ℕ) (b : Bool) → closes_at k node.point ≡ b → cond b true (closes_in nodes k) ≡ closes_in (nodes ++ node ∷ []) k
one_more nodes node k b e = or_last (closes_in nodes k) b ∙ ap (λ x. closes_in nodes k || (x || false)) (sym e)
    ∙ sym (list_any-append (is_close k) nodes (node ∷ []))

all_more : (nodes : List Node) (node : Node) (d : ℕ) → node.point ≡ Close d → map (λ k. cond (nat_eq d k) true (closes_in nodes k)) eight ≡ all_closes (nodes ++ node ∷ [])
all_more nodes node d e = ap (λ f. map f eight)
    (same_for_all (λ k. cond (nat_eq d k) true (closes_in nodes k)) (closes_in (nodes ++ node ∷ [])) (λ k. one_more nodes node k (nat_eq d k) (ap (closes_at k) e)))

-- a point that closes a descriptor
pub closed_one : (nodes : List Node) (node : Node) (d : ℕ) → node.point ≡ Close d → d < 8 → slice_set (all_closes nodes) d true ≡ all_closes (nodes ++ node ∷ [])
closed_one nodes node d e l = set_one (closes_in nodes) d l ∙ all_more nodes node d e

pub closed_none : (nodes : List Node) (node : Node) (d : ℕ) → node.point ≡ Close d → 8 ≤ d → all_closes nodes ≡ all_closes (nodes ++ node ∷ [])
closed_none nodes node d e l = set_none (closes_in nodes) d l ∙ all_more nodes node d e

-- a point that closes none
same_closes : (nodes : List Node) (node : Node) → ((k : ℕ) → closes_at k node.point ≡ false) → all_closes nodes ≡ all_closes (nodes ++ node ∷ [])
same_closes nodes node w = ap (λ f. map f eight)
    (same_for_all (closes_in nodes) (closes_in (nodes ++ node ∷ [])) (λ k. one_more nodes node k false (w k)))

label_more : (other : ℕ) (nodes : List Node) (node : Node) (b : Bool) → labels_at other node.point ≡ b → cond b true (has_label nodes other) ≡ has_label (nodes ++ node ∷ []) other
label_more other nodes node b e = or_last (has_label nodes other) b ∙ ap (λ x. has_label nodes other || (x || false)) (sym e)
    ∙ sym (list_any-append (is_label other) nodes (node ∷ []))

-- what a program has with a point that closes nothing, by whether that is the label
more : (other : ℕ) (nodes : List Node) (node : Node) (b : Bool) → ((k : ℕ) → closes_at k node.point ≡ false) → labels_at other node.point ≡ b
    → with_both (all_closes nodes) (cond b true (has_label nodes other)) ≡ uses_in other (nodes ++ node ∷ [])
more other nodes node b w e = ap (λ c. with_both c (cond b true (has_label nodes other))) (same_closes nodes node w)
    ∙ ap (with_both (all_closes (nodes ++ node ∷ []))) (label_more other nodes node b e)

pub labelled : (other : ℕ) (nodes : List Node) (node : Node) (u : Uses) → ((k : ℕ) → closes_at k node.point ≡ false) → labels_at other node.point ≡ true
    → u ≡ uses_in other nodes → with_both u.closes true ≡ uses_in other (nodes ++ node ∷ [])
labelled other nodes node u w e same = ap (λ (v : Uses). with_both v.closes true) same ∙ more other nodes node true w e

pub passed : (other : ℕ) (nodes : List Node) (node : Node) (u : Uses) → ((k : ℕ) → closes_at k node.point ≡ false) → labels_at other node.point ≡ false
    → u ≡ uses_in other nodes → u ≡ uses_in other (nodes ++ node ∷ [])
passed other nodes node u w e same = same ∙ more other nodes node false w e

pub closed : (other : ℕ) (nodes : List Node) (node : Node) (d : ℕ) (u : Uses) (closes : List Bool) → node.point ≡ Close d
    → (u.closes ≡ all_closes nodes → closes ≡ all_closes (nodes ++ node ∷ []))
    → u ≡ uses_in other nodes → with_both closes u.has_other ≡ uses_in other (nodes ++ node ∷ [])
closed other nodes node d u closes e step same = ap (λ c. with_both c u.has_other) (step (ap (λ (v : Uses). v.closes) same))
    ∙ ap (λ (v : Uses). with_both (all_closes (nodes ++ node ∷ [])) v.has_other) same
    ∙ ap (with_both (all_closes (nodes ++ node ∷ []))) (label_more other nodes node false (ap (labels_at other) e))

pub not_closed : (p : Point) → ((d : ℕ) → p ≡ Close d → ⊥) → (k : ℕ) → closes_at k p ≡ false
not_closed (Close d) w k = absurd (w d refl)
not_closed Entry w k = refl
not_closed Step w k = refl
not_closed Branch w k = refl
not_closed (Label l) w k = refl
not_closed (Open d) w k = refl
not_closed (Call f) w k = refl
not_closed Exit w k = refl

pub not_labelled : (p : Point) → ((l : ℕ) → p ≡ Label l → ⊥) → (other : ℕ) → labels_at other p ≡ false
not_labelled (Label l) w other = absurd (w l refl)
not_labelled Entry w other = refl
not_labelled Step w other = refl
not_labelled Branch w other = refl
not_labelled (Close d) w other = refl
not_labelled (Open d) w other = refl
not_labelled (Call f) w other = refl
not_labelled Exit w other = refl
