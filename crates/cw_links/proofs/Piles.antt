-- Buckets after a cell is put in or taken out.
use Rattle.std.proofs.Common.{◌≡◌, ◌≢◌, ℕ, ◌<◌, ◌≤◌, min, true, List, [], ◌∷◌, ◌++◌, length, set, replicate, Option, None, Some, refl, sym, ap, ◌∙◌, arith, ⊎_elim}
use Rattle.std.specs.List.{slice_get}
use Rattle.std.proofs.lemmas.Bool.{cases_eq, cases_lt, false≢true, eq-eqb}
use Rattle.std.proofs.lemmas.Bool.Decides.{nat_tests}
use Rattle.std.proofs.lemmas.Option.{none-some, same_Some}
use Rattle.std.proofs.lemmas.List.{get_or-set_same, get_or-set_other, get_or_past, length-set}
use Rattle.cw_links.specs.Lists.{list_at, without, with_front}
use Rattle.cw_links.specs.Rows.{has}
use Rattle.cw_links.specs.Heights.{height_at, AreOut, AreBuckets}
use Rattle.cw_links.proofs.CallerLemmas.{list_at-without}
use Rattle.cw_links.proofs.Moved.{moved, moved_here}
use Rattle.cw_links.proofs.NodeRows.{less, has-less_same, has-less_other, has-less_within, has-first, has_tail}

known_cell : (hs : List (Option ℕ)) (y h : ℕ) → height_at hs y ≡ Some h → y < length hs
known_cell hs y h e = ⊎_elim (λ l. l) (λ g. absurd (none-some h (sym (get_or_past hs y None g) ∙ e))) (cases_lt y (length hs))

not_in_itself : (xs : List ℕ) (c y : ℕ) → has (less xs c) y ≡ true → y ≢ c
not_in_itself xs c y h e = false≢true (sym (has-less_same xs c) ∙ (rw e at h))

has_here : (c y : ℕ) (xs : List ℕ) → y ≡ c → has (c ∷ xs) y ≡ true
has_here c y xs e = rw (eq-eqb c y (sym e)) refl

has_there : (c y : ℕ) (xs : List ℕ) → has xs y ≡ true → has (c ∷ xs) y ≡ true
has_there c y xs h = grind (arith, nat_tests)

-- `put`
pub puts : (ls : List (List ℕ)) (cells k c l : ℕ) (hs : List (Option ℕ)) (floor : ℕ) → AreBuckets ls cells hs floor → c < length hs → l < length (ls ++ replicate k []) →
    AreBuckets (with_front (without (ls ++ replicate k []) c) l c) cells (set hs c (Some l)) (min floor l)
puts ls cells k c l hs floor b i j =
    let new : List (List ℕ) = with_front (without (ls ++ replicate k []) c) l c in
    let here : (h : ℕ) → h ≡ l → list_at new h ≡ c ∷ less (list_at ls l) c = λ h e. ap (λ w. list_at new w) e ∙ moved_here ls k c l j in
    let there : (h : ℕ) → h ≢ l → list_at new h ≡ less (list_at ls h) c = λ h ne. moved ls k c l h ne in
    record {
      known = b.known ∙ sym (length-set hs c (Some l));
      bucket = λ y h e. ⊎_elim
          (λ yc.
          let hl : h ≡ l = same_Some h l (sym e ∙ (rw yc (get_or-set_same hs c (Some l) None i))) in
          ap (λ w. has w y) (here h hl) ∙ has_here c y (less (list_at ls l) c) yc)
          (λ yc.
          let old : has (less (list_at ls h) c) y ≡ true =
          has-less_other (list_at ls h) c y yc ∙ b.bucket y h (sym (get_or-set_other hs c y (Some l) None yc) ∙ e) in
          ⊎_elim
          (λ hl. ap (λ w. has w y) (here h hl) ∙ has_there c y (less (list_at ls l) c) (rw hl at old))
          (λ hl. ap (λ w. has w y) (there h hl) ∙ old)
          (cases_eq h l))
          (cases_eq y c);
      height = λ y h e. ⊎_elim
          (λ hl. ⊎_elim
          (λ yc. ap (λ w. height_at (set hs c (Some l)) w) yc ∙ get_or-set_same hs c (Some l) None i ∙ ap (λ w. Some w) (sym hl))
          (λ yc.
          let at : has (c ∷ less (list_at ls l) c) y ≡ true = ap (λ w. has w y) (sym (here h hl)) ∙ e in
          get_or-set_other hs c y (Some l) None yc
          ∙ b.height y h (rw hl (has-less_within (list_at ls l) c y (has_tail c (less (list_at ls l) c) y at (λ q. yc (sym q))))))
          (cases_eq y c))
          (λ hl.
          let at : has (less (list_at ls h) c) y ≡ true = ap (λ w. has w y) (sym (there h hl)) ∙ e in
          get_or-set_other hs c y (Some l) None (not_in_itself (list_at ls h) c y at) ∙ b.height y h (has-less_within (list_at ls h) c y at))
          (cases_eq h l);
      lowest = λ h u. there h (λ e. absurd (omega (arith, u, e))) ∙ ap (λ w. less w c) (b.lowest h (omega (arith, u)));
    }

-- `take_least`, where the lists below l are empty and c is the first of l
module _ (ls : List (List ℕ)) (cells c l : ℕ) (hs : List (Option ℕ)) (floor : ℕ) (b : AreBuckets ls cells hs floor) (first : slice_get (list_at ls l) 0 ≡ Some c) (below : (h : ℕ) → floor ≤ h → h < l → list_at ls h ≡ []) where
  pub held : height_at hs c ≡ Some l
  held = b.height c l (has-first (list_at ls l) c first)

  pub taken_known : c < cells
  taken_known = rw b.known (known_cell hs c l held)

  empty_below : (h : ℕ) → h < l → list_at ls h ≡ []
  empty_below h u = ⊎_elim (λ k. b.lowest h k) (λ k. below h k u) (cases_lt h floor)

  pub least : (y h : ℕ) → height_at hs y ≡ Some h → l ≤ h
  least y h e = ⊎_elim
      (λ u. absurd (false≢true (rw (empty_below h u) at (b.bucket y h e))))
      (λ u. u)
      (cases_lt h l)

  pub takes : AreBuckets (without ls c) cells (set hs c None) l
  takes = record {
    known = b.known ∙ sym (length-set hs c None);
    bucket = λ y h e. ⊎_elim
        (λ yc. absurd (none-some h (sym (rw yc (get_or-set_same hs c None None (known_cell hs c l held))) ∙ e)))
        (λ yc. rw (list_at-without ls c h) (has-less_other (list_at ls h) c y yc ∙ b.bucket y h (sym (get_or-set_other hs c y None None yc) ∙ e)))
        (cases_eq y c);
    height = λ y h e.
        let at : has (less (list_at ls h) c) y ≡ true = rw (list_at-without ls c h) at e in
        get_or-set_other hs c y None None (not_in_itself (list_at ls h) c y at) ∙ b.height y h (has-less_within (list_at ls h) c y at);
    lowest = λ h u. list_at-without ls c h ∙ ap (λ w. less w c) (empty_below h u);
  }

-- nothing is in
pub none_in : (ls : List (List ℕ)) (cells : ℕ) (hs : List (Option ℕ)) (floor : ℕ) → AreBuckets ls cells hs floor → ((h : ℕ) → floor ≤ h → list_at ls h ≡ []) → AreOut hs
none_in ls cells hs floor b above y = out_if (height_at hs y) refl
  where
    out_if : (o : Option ℕ) → height_at hs y ≡ o → height_at hs y ≡ None
    out_if None e = e
    out_if (Some h) e = absurd (false≢true (rw (⊎_elim (λ k. b.lowest h k) (λ k. above h k) (cases_lt h floor)) at (b.bucket y h e)))
