-- Links that follow a row, after a node is taken out of it, put into it, or added behind it.
use Rattle.std.proofs.Common.{◌≡◌, ◌≢◌, ℕ, ◌+◌, ◌<◌, ◌≤◌, Bool, true, false, cond, eqb, List, [], ◌∷◌, ◌++◌, Option, Some, None, refl, sym, ap, ◌∙◌, arith, inl, inr, ⊎_elim, ◌⊎◌}
use Rattle.std.specs.List.{slice_get}
use Rattle.std.proofs.lemmas.Bool.{eq-eqb, ne_eqb, cases_eq, cases_lt, false≢true}
use Rattle.std.proofs.lemmas.Bool.Decides.{nat_tests}
use Rattle.std.proofs.lemmas.Option.{none-some, same_Some}
use Rattle.cw_links.specs.Rows.{has, after, Once, link_to, IsNode, Threads}
use Rattle.cw_links.proofs.NodeRows.{less, put_behind, has-after, has-less_other, after-less_at, after-less_other, after-less_same, not_behind_itself, after-put_behind_at, after-put_behind_new, after-put_behind_other, has-put_behind, after_absent, has-first, has-append}
use Rattle.cw_links.proofs.Heads.{link_to_cell, link_to_past}

cases_some : (o : Option ℕ) (c : ℕ) → (o ≡ Some c) ⊎ (o ≢ Some c)
cases_some None c = inr (λ e. none-some c e)
cases_some (Some x) c = ⊎_elim (λ e. inl (ap (λ w. Some w) e)) (λ ne. inr (λ e. ne (same_Some x c e))) (cases_eq x c)

-- a change of the links that takes c out
pub record TakesOut (n m : ℕ) (next before next' before' : ℕ → ℕ) (p c : ℕ) : Type 0 where
  pub next_c : next' c ≡ 4294967295
  pub next_p : p ≢ c → next' p ≡ next c
  pub next_others : (y : ℕ) → y ≢ c → y ≢ p → IsNode n m y → next' y ≡ next y
  pub before_c : before' c ≡ 18446744073709551615
  pub before_next : (y : ℕ) → y ≢ c → y ≡ next c → y < n → before' y ≡ p
  pub before_others : (y : ℕ) → y ≢ c → y ≢ next c → y < n → before' y ≡ before y

module _ (n m : ℕ) (next before next' before' : ℕ → ℕ) (row : List ℕ) (p c : ℕ) (few : n ≤ 4294967295) (o : Once row) (in' : c < n) (t : Threads n m next before row) where
  pub Threads-less : after row p ≡ Some c → TakesOut n m next before next' before' p c → Threads n m next' before' (less row c)
  Threads-less at w = record {
    nexts = λ y is. ⊎_elim
        (λ e. rw e (w.next_c ∙ ap link_to (sym (after-less_same row c))))
        (λ yc. ⊎_elim
        (λ e. rw e (w.next_p (λ q. yc (e ∙ q)) ∙ t.nexts c (inl in') ∙ ap link_to (sym (after-less_at row c p o (λ q. yc (e ∙ q)) at))))
        (λ yp. w.next_others y yc yp is ∙ t.nexts y is ∙ ap link_to (sym (after-less_other row c y o yc (λ e. yp (sym (t.backs y c e in') ∙ t.backs p c at in')))))
        (cases_eq y p))
        (cases_eq y c);
    backs = λ q y e i.
        let qc : q ≢ c = λ k. none-some y (sym (after-less_same row c) ∙ (rw k at e)) in
        ⊎_elim
        (λ z.
        let qp : q ≡ p = sym (t.backs q c z in') ∙ t.backs p c at in' in
        let cy : after row c ≡ Some y = sym (after-less_at row c q o qc z) ∙ e in
        let yc : y ≢ c = λ k. not_behind_itself row c o (rw k at cy) in
        w.before_next y yc (sym (link_to_past (after row c) y cy (omega arith)) ∙ sym (t.nexts c (inl in'))) i ∙ sym qp)
        (λ z.
        let ry : after row q ≡ Some y = sym (after-less_other row c q o qc z) ∙ e in
        let yc : y ≢ c = λ k. z (rw k at ry) in
        w.before_others y yc (λ k. qc (sym (t.backs q y ry i) ∙ t.backs c y (link_to_cell (after row c) y (omega arith) (sym (t.nexts c (inl in')) ∙ sym k)) i)) i ∙ t.backs q y ry i)
        (cases_some (after row q) c);
    outs = λ y i a. ⊎_elim
        (λ e. rw e w.before_c)
        (λ yc.
        let ra : has row y ≡ false = sym (has-less_other row c y yc) ∙ a in
        w.before_others y yc (λ k. false≢true (sym ra ∙ has-after row c y (link_to_cell (after row c) y (omega arith) (sym (t.nexts c (inl in')) ∙ sym k)))) i ∙ t.outs y i ra)
        (cases_eq y c);
  }

-- a change of the links that puts c right behind h
pub record PutsBehind (n m : ℕ) (next before next' before' : ℕ → ℕ) (h c : ℕ) : Type 0 where
  pub next_h : next' h ≡ c
  pub next_c : next' c ≡ next h
  pub next_others : (y : ℕ) → y ≢ c → y ≢ h → IsNode n m y → next' y ≡ next y
  pub before_c : before' c ≡ h
  pub before_next : (y : ℕ) → y ≢ c → y ≡ next h → y < n → before' y ≡ c
  pub before_others : (y : ℕ) → y ≢ c → y ≢ next h → y < n → before' y ≡ before y

module _ (n m : ℕ) (next before next' before' : ℕ → ℕ) (row : List ℕ) (h c : ℕ) (few : n ≤ 4294967295) (in' : c < n) (is_h : IsNode n m h) (t : Threads n m next before row) where
  pub Threads-put_behind : has row h ≡ true → has row c ≡ false → PutsBehind n m next before next' before' h c → Threads n m next' before' (put_behind row h c)
  Threads-put_behind rh rc w =
      let hc : h ≢ c = λ e. false≢true (sym rc ∙ (rw e at rh)) in
      record {
        nexts = λ y is. ⊎_elim
            (λ e. rw e (w.next_c ∙ t.nexts h is_h ∙ ap link_to (sym (after-put_behind_new row h c rh rc))))
            (λ yc. ⊎_elim
            (λ e. rw e (w.next_h ∙ sym (link_to_past (after (put_behind row h c) h) c (after-put_behind_at row h c rh) (omega arith))))
            (λ yh. w.next_others y yc yh is ∙ t.nexts y is ∙ ap link_to (sym (after-put_behind_other row h c y yh yc)))
            (cases_eq y h))
            (cases_eq y c);
        backs = λ q y e i. ⊎_elim
            (λ qc.
            let hy : after row h ≡ Some y = sym (after-put_behind_new row h c rh rc) ∙ (rw qc at e) in
            let yc : y ≢ c = λ k. false≢true (sym rc ∙ (rw k at (has-after row h y hy))) in
            w.before_next y yc (sym (link_to_past (after row h) y hy (omega arith)) ∙ sym (t.nexts h is_h)) i ∙ sym qc)
            (λ qc. ⊎_elim
            (λ qh.
            let yc : y ≡ c = same_Some y c (sym e ∙ (rw qh (after-put_behind_at row h c rh))) in
            rw yc (w.before_c ∙ sym qh))
            (λ qh.
            let ry : after row q ≡ Some y = sym (after-put_behind_other row h c q qh qc) ∙ e in
            let yc : y ≢ c = λ k. false≢true (sym rc ∙ (rw k at (has-after row q y ry))) in
            w.before_others y yc (λ k. qh (sym (t.backs q y ry i) ∙ t.backs h y (link_to_cell (after row h) y (omega arith) (sym (t.nexts h is_h) ∙ sym k)) i)) i ∙ t.backs q y ry i)
            (cases_eq q h))
            (cases_eq q c);
        outs = λ y i a.
            let yc : y ≢ c = λ k. false≢true (sym a ∙ has-put_behind row h c y rh ∙ (rw k (rw (eq-eqb c c refl) refl))) in
            let ra : has row y ≡ false = sym (has-put_behind row h c y rh ∙ (rw (ne_eqb c y (λ k. yc (sym k))) refl)) ∙ a in
            w.before_others y yc (λ k. false≢true (sym ra ∙ has-after row h y (link_to_cell (after row h) y (omega arith) (sym (t.nexts h is_h) ∙ sym k)))) i ∙ t.outs y i ra;
      }

-- one more cell, which stands in no list
pub Threads-more_cell : (n m : ℕ) (next before next' before' : ℕ → ℕ) (row : List ℕ) → n ≤ 4294967294 → Threads n m next before row →
    ((y : ℕ) → y ≢ n → next' y ≡ next y) → ((y : ℕ) → y ≢ n → before' y ≡ before y) → next' n ≡ 4294967295 → before' n ≡ 18446744073709551615 → has row n ≡ false → Threads (n + 1) m next' before' row
Threads-more_cell n m next before next' before' row few t sn sb nn bn a = record {
  nexts = λ y is. ⊎_elim
      (λ e. rw e (nn ∙ ap link_to (sym (after_absent row n a))))
      (λ ne. sn y ne ∙ t.nexts y (⊎_elim (λ i. inl (omega arith)) (λ i. inr i) is))
      (cases_eq y n);
  backs = λ p y e i. ⊎_elim
      (λ k. absurd (false≢true (sym a ∙ (rw k at (has-after row p y e)))))
      (λ ne. sb y ne ∙ t.backs p y e (omega arith))
      (cases_eq y n);
  outs = λ y i q. ⊎_elim (λ e. rw e bn) (λ ne. sb y ne ∙ t.outs y (omega arith) q) (cases_eq y n);
}

-- nodes that are no cells
abbrev pub AreHeads : List ℕ → Type 0
AreHeads hs = (y : ℕ) → has hs y ≡ true → 4294967296 ≤ y

link_to_big : (o : Option ℕ) → ((z : ℕ) → o ≡ Some z → 4294967296 ≤ z) → link_to o ≡ 4294967295
link_to_big None big = refl
link_to_big (Some z) big = omega (arith, big z refl)

link_to_heads : (hs : List ℕ) (y : ℕ) → AreHeads hs → link_to (after hs y) ≡ 4294967295
link_to_heads hs y a = link_to_big (after hs y) (λ z e. a z (has-after hs y z e))

link_to_first : (xs hs : List ℕ) → AreHeads hs → link_to (slice_get (xs ++ hs) 0) ≡ link_to (slice_get xs 0)
link_to_first [] hs a = link_to_big (slice_get hs 0) (λ z e. a z (has-first hs z e))
link_to_first (x ∷ xs) hs a = refl

cond_link : (b : Bool) (o p q r : Option ℕ) → link_to o ≡ link_to p → link_to q ≡ link_to r → link_to (cond b o q) ≡ link_to (cond b p r)
cond_link true o p q r e f = e
cond_link false o p q r e f = f

pub link_to-after_append : (xs hs : List ℕ) (y : ℕ) → AreHeads hs → link_to (after (xs ++ hs) y) ≡ link_to (after xs y)
link_to-after_append [] hs y a = link_to_heads hs y a
link_to-after_append (x ∷ xs) hs y a = cond_link (eqb x y) _ _ _ _ (link_to_first xs hs a) (link_to-after_append xs hs y a)

-- more heads behind the row
pub Threads-append : (n m m' : ℕ) (next before next' : ℕ → ℕ) (row hs : List ℕ) → n ≤ 4294967295 → AreHeads hs → Threads n m next before row →
    ((y : ℕ) → IsNode n m y → next' y ≡ next y) → ((y : ℕ) → 4294967296 + m ≤ y → y < 4294967296 + m' → (next' y ≡ 4294967295) × (has row y ≡ false)) → Threads n m' next' before (row ++ hs)
Threads-append n m m' next before next' row hs few a t same new = record {
  nexts = λ y is. ⊎_elim
      (λ i. same y (inl i) ∙ t.nexts y (inl i) ∙ sym (link_to-after_append row hs y a))
      (λ i. ⊎_elim
      (λ l. same y (inr (i.0, l)) ∙ t.nexts y (inr (i.0, l)) ∙ sym (link_to-after_append row hs y a))
      (λ g. (new y g i.1).0 ∙ sym (link_to-after_append row hs y a ∙ ap link_to (after_absent row y (new y g i.1).1)))
      (cases_lt y (4294967296 + m)))
      is;
  backs = λ p y e i. t.backs p y (link_to_cell (after row p) y (omega arith) (sym (link_to-after_append row hs p a) ∙ link_to_past (after (row ++ hs) p) y e (omega arith))) i;
  outs = λ y i q. t.outs y i (grind (arith, nat_tests, q, has-append row hs y));
}
