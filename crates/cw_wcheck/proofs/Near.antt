-- A pair that stands at some index of the list of live rows is live.
-- What stands at some index of a list that ascends strictly is what a look-up by its key finds.
use Rattle.std.proofs.Common.{◌≡◌, ℕ, zero, suc, ◌<◌, List, [], ◌∷◌, Bool, true, false, cond, ◌&&◌, Option, Some, is_some, find, length, get_or, nat_eq, refl, sym, ap, ◌∙◌, arith}
use Rattle.std.specs.Prelude.{slice_get}
use Rattle.std.specs.List.Sorted.{IsStrictlySortedBy}
use Rattle.std.specs.declared.cmp.Ordering.{Ordering}
use Rattle.std.specs.declared.cmp.Ordering.TheVariants.{Less, Equal}
use Rattle.std.specs.Ordering.{ordering_then, nat_cmp, bool_cmp}
use Rattle.std.proofs.lemmas.Bool.{false≢true}
use Rattle.std.proofs.lemmas.Bool.Decides.{nat_tests}
use Rattle.std.proofs.lemmas.Map.Keys.{Less-from_sorted}
use Rattle.std.proofs.lemmas.Option.{get_or_from_slice_get, slice_get_within}
use Rattle.cw_lemmas.proofs.Found.{find_first}
use Rattle.cw_lemmas.proofs.Truths.{and_first, and_second}
use Rattle.cw_core.specs.declared.ids.MemId.{MemId}
use Rattle.cw_core.specs.declared.ids.PosId.{PosId}
use Rattle.cw_certs.specs.declared.rows.AtRow.{AtRow}
use Rattle.cw_certs.specs.declared.rows.IntoRow.{IntoRow}
use Rattle.cw_certs.specs.declared.rows.BackRow.{BackRow}
use Rattle.cw_certs.specs.Ascending.{Ascends, at_cmp, into_cmp, back_cmp}
use Rattle.cw_certs.specs.Tables.{Table, same, after_at, into_at, back_at}
use Rattle.cw_game.specs.Pairs.{is_live}
use Rattle.cw_wcheck.specs.Working.{stands_there, is_at, is_into, is_back}

first_or : {X : Type 0} (passes : Bool) (x : X) (found : Option X) → is_some found ≡ true → is_some (cond passes (Some x) found) ≡ true
first_or true x found h = refl
first_or false x found h = h

first_is : {X : Type 0} (passes : Bool) (x : X) (found : Option X) → passes ≡ true → is_some (cond passes (Some x) found) ≡ true
first_is true x found h = refl
first_is false x found h = absurd (false≢true h)

found_there : (p m : ℕ) (rows : List (PosId × MemId)) (index : ℕ) → stands_there p m (slice_get rows index) ≡ true
    → is_some (find (λ r. stands_there p m (Some r)) rows) ≡ true
found_there p m [] index h = absurd (false≢true h)
found_there p m (r ∷ rows) zero h = first_is (stands_there p m (Some r)) r (find (λ r. stands_there p m (Some r)) rows) h
found_there p m (r ∷ rows) (suc index) h =
    first_or (stands_there p m (Some r)) r (find (λ r. stands_there p m (Some r)) rows) (found_there p m rows index h)

pub live_there : (t : Table) (index p m : ℕ) → stands_there p m (slice_get t.live index) ≡ true → is_live t p m ≡ true
live_there t index p m h = found_there p m t.live index h

-- Where no two rows that pass a test are in order, one that passes is the first that does.
module _ {A : Type 0} (cmp : A → A → Ordering) (test : A → Bool) (alike : (a b : A) → test a ≡ true → test b ≡ true → cmp a b ≡ Equal) where
  equal_not_less : (o : Ordering) → o ≡ Equal → o ≡ Less → ⊥
  equal_not_less o e f = let turned : Equal ≡ Less = sym e ∙ f in cc

  pub the_one : (xs : List A) (i : ℕ) (x : A) → IsStrictlySortedBy cmp xs → slice_get xs i ≡ Some x → test x ≡ true → Some x ≡ find test xs
  the_one xs i x s e t =
      let within : i < length xs = slice_get_within xs i x e in
      sym (find_first test xs i x within (ap test (here x) ∙ t) (λ j d b. before j d b (test (get_or xs j d)) refl) ∙ ap Some (here x))
    where
      here : (d : A) → get_or xs i d ≡ x
      here d = get_or_from_slice_get xs i x d e

      before : (j : ℕ) (d : A) → j < i → (k : Bool) → test (get_or xs j d) ≡ k → k ≡ false
      before j d b false f = refl
      before j d b true f =
          let less : cmp (get_or xs j d) (get_or xs i d) ≡ Less = Less-from_sorted cmp xs j i d s b (slice_get_within xs i x e) in
          absurd (equal_not_less _ (alike (get_or xs j d) (get_or xs i d) f (ap test (here d) ∙ t)) less)

numbers_alike : (a b k : ℕ) → nat_eq a k ≡ true → nat_eq b k ≡ true → nat_cmp a b ≡ Equal
numbers_alike a b k e f = grind (arith, nat_tests)

modes_alike : (a b k : Bool) → same a k ≡ true → same b k ≡ true → bool_cmp a b ≡ Equal
modes_alike true true k e f = refl
modes_alike false false k e f = refl
modes_alike true false true e f = absurd (false≢true f)
modes_alike true false false e f = absurd (false≢true e)
modes_alike false true true e f = absurd (false≢true e)
modes_alike false true false e f = absurd (false≢true f)

then_alike : (o p : Ordering) → o ≡ Equal → p ≡ Equal → ordering_then o p ≡ Equal
then_alike o p e f = ap (λ x. ordering_then x p) e ∙ f

module _ (t : Table) (ascend : Ascends t) (j m : ℕ) where
  labels_alike : (a b : AtRow) → is_at j m a ≡ true → is_at j m b ≡ true → at_cmp a b ≡ Equal
  labels_alike a b e f =
      then_alike _ _ (numbers_alike a.seam.0 b.seam.0 j (and_first _ _ e) (and_first _ _ f))
      (numbers_alike a.mem.0 b.mem.0 m (and_second _ _ e) (and_second _ _ f))

  pub label_there : (index : ℕ) (r : AtRow) → slice_get t.ats index ≡ Some r → is_at j m r ≡ true → Some r ≡ after_at t.ats j m
  label_there index r e h = the_one at_cmp (is_at j m) labels_alike t.ats index r ascend.ats e h

module _ (t : Table) (ascend : Ascends t) (j : ℕ) (split : Bool) (m : ℕ) where
  calls_alike : (a b : IntoRow) → is_into j split m a ≡ true → is_into j split m b ≡ true → into_cmp a b ≡ Equal
  calls_alike a b e f =
      then_alike _ _ (numbers_alike a.seam.0 b.seam.0 j (and_first _ _ e) (and_first _ _ f))
      (then_alike _ _ (modes_alike a.split b.split split (and_first _ _ (and_second _ _ e)) (and_first _ _ (and_second _ _ f)))
      (numbers_alike a.mem.0 b.mem.0 m (and_second _ _ (and_second _ _ e)) (and_second _ _ (and_second _ _ f))))

  pub into_there : (index : ℕ) (r : IntoRow) → slice_get t.into index ≡ Some r → is_into j split m r ≡ true → Some r ≡ into_at t j split m
  into_there index r e h = the_one into_cmp (is_into j split m) calls_alike t.into index r ascend.into e h

  ways_alike : (exit : ℕ) (a b : BackRow) → is_back j split m exit a ≡ true → is_back j split m exit b ≡ true → back_cmp a b ≡ Equal
  ways_alike exit a b e f =
      then_alike _ _ (numbers_alike a.seam.0 b.seam.0 j (and_first _ _ e) (and_first _ _ f))
      (then_alike _ _ (modes_alike a.split b.split split (and_first _ _ (inner a e)) (and_first _ _ (inner b f)))
      (then_alike _ _ (numbers_alike a.mem.0 b.mem.0 m (and_first _ _ (last a e)) (and_first _ _ (last b f)))
      (numbers_alike a.exit.0 b.exit.0 exit (and_second _ _ (last a e)) (and_second _ _ (last b f)))))
    where
      inner : (r : BackRow) → is_back j split m exit r ≡ true → (same r.split split && (nat_eq r.mem.0 m && nat_eq r.exit.0 exit)) ≡ true
      inner r h = and_second (nat_eq r.seam.0 j) (same r.split split && (nat_eq r.mem.0 m && nat_eq r.exit.0 exit)) h

      last : (r : BackRow) → is_back j split m exit r ≡ true → (nat_eq r.mem.0 m && nat_eq r.exit.0 exit) ≡ true
      last r h = and_second (same r.split split) (nat_eq r.mem.0 m && nat_eq r.exit.0 exit) (inner r h)

  pub back_there : (exit index : ℕ) (r : BackRow) → slice_get t.back index ≡ Some r → is_back j split m exit r ≡ true → Some r ≡ back_at t j split m exit
  back_there exit index r e h = the_one back_cmp (is_back j split m exit) (ways_alike exit) t.back index r ascend.back e h
