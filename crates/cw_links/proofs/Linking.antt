-- Links in lists, one more and one moved.
use Rattle.std.proofs.Common.{◌≡◌, ℕ, suc, ◌+◌, ◌-◌, ◌<◌, ◌≤◌, List, [], ◌∷◌, ◌++◌, length, set, replicate, refl, sym, ap, ◌∙◌, subst, arith, inl, inr}
use Rattle.std.specs.Prelude.{slice_index, Contains}
use Rattle.std.proofs.lemmas.Bool.{cases_eq, cases_lt}
use Rattle.std.proofs.lemmas.List.{length_push, length-append, length-replicate, length-set, get_or_past, get_or-set_same, get_or-set_other, get_or_append_left}
use Rattle.cw_lemmas.proofs.Lists.{head_in, tail_in}
use Rattle.cw_links.specs.Lists.{Chained, list_at, without, with_front}
use Rattle.cw_links.proofs.CallerLemmas.{length-without, length-with_front, list_at-with_front_same, list_at-with_front_other, Contains-without_other}
use Rattle.cw_links.specs.Callers.{AreLinkedBy, AreLinked}
use Rattle.cw_links.proofs.Queueing.{push_zero}

-- a new link in front of a list
module _ {T : Type 0} (old new : Chained T) (list : ℕ) (v : T) (lists : new.lists ≡ with_front old.lists list (length old.values)) (values : new.values ≡ old.values ++ v ∷ []) (within : list < length old.lists) where
  pub lists_kept : length new.lists ≡ length old.lists
  lists_kept = ap (λ (ls : List (List ℕ)). length ls) lists ∙ length-with_front old.lists list (length old.values)

  pub one_more : length new.values ≡ length old.values + 1
  one_more = ap (λ (vs : List T). length vs) values ∙ length_push old.values v

  pub still_in : (l link : ℕ) → Contains (list_at old.lists l) link → Contains (list_at new.lists l) link
  still_in l link h =
      subst (λ (ls : List (List ℕ)). Contains (list_at ls l) link) (sym lists)
      (elim (cases_eq l list) [
        | inl e ↦ subst (λ (y : ℕ). Contains (list_at (with_front old.lists list (length old.values)) y) link) (sym e)
            (subst (λ (ys : List ℕ). Contains ys link) (sym (list_at-with_front_same old.lists list (length old.values) within))
            (let k = subst (λ (y : ℕ). Contains (list_at old.lists y) link) e h in (suc k.0, omega (arith, k.1), k.2)))
        | inr ne ↦ subst (λ (ys : List ℕ). Contains ys link) (sym (list_at-with_front_other old.lists list (length old.values) l ne)) h
      ])

  pub front_in : Contains (list_at new.lists list) (length old.values)
  front_in = subst (λ (ls : List (List ℕ)). Contains (list_at ls list) (length old.values)) (sym lists)
      (subst (λ (ys : List ℕ). Contains ys (length old.values)) (sym (list_at-with_front_same old.lists list (length old.values) within)) (0, omega arith, refl))

pub one_linked : (old new : Chained ℕ) (to : List ℕ) (lists many list : ℕ) → AreLinkedBy to old lists many → list ≡ slice_index to many → list < lists → new.lists ≡ with_front old.lists list (length old.values)
    → new.values ≡ old.values ++ 0 ∷ [] → AreLinkedBy to new lists (many + 1)
one_linked old new to lists many list are is lt front values =
    let within : list < length old.lists = omega (arith, lt, are.long) in
    let n = one_more old new list 0 front values within in
    record {
      long = lists_kept old new list 0 front values within ∙ are.long;
      values = omega (arith, n, are.values);
      there = λ k less. elim (cases_lt k many) [
        | inl before ↦ still_in old new list 0 front values within (slice_index to k) k (are.there k before)
        | inr after ↦
            let e : many ≡ k = omega (arith, less, after) in
            let here : Contains (list_at new.lists list) (length old.values) = front_in old new list 0 front values within in
            subst (λ (y : ℕ). Contains (list_at new.lists (slice_index to y)) y) e
            (subst (λ (y : ℕ). Contains (list_at new.lists (slice_index to many)) y) are.values (subst (λ (y : ℕ). Contains (list_at new.lists y) (length old.values)) is here))
      ];
    }

-- a link more, which goes nowhere
pub pushed_linked : (old new : Chained ℕ) (to : List ℕ) (lists : ℕ) → AreLinked to old lists → length to < 4194304 → new.lists ≡ with_front old.lists 0 (length old.values) → new.values ≡ old.values ++ 0 ∷ []
    → AreLinked (to ++ 0 ∷ []) new lists
pushed_linked old new to lists are few front values =
    let n = length_push to 0 in
    let last : 0 ≡ slice_index (to ++ 0 ∷ []) (length to) = sym (push_zero to (length to) ∙ get_or_past to (length to) 0 (omega arith)) in
    let before : AreLinkedBy (to ++ 0 ∷ []) old lists (length to) = record {
      long = are.linked.long;
      values = are.linked.values;
      there = λ k lt. subst (λ (y : ℕ). Contains (list_at old.lists y) k) (sym (push_zero to k)) (are.linked.there k lt);
    } in
    record {
      few = omega (arith, n, few);
      some = are.some;
      within = λ k. (let e = push_zero to k in let h = are.within k in omega (arith, e, h));
      linked = subst (λ (m : ℕ). AreLinkedBy (to ++ 0 ∷ []) new lists m) (sym n) (one_linked old new (to ++ 0 ∷ []) lists (length to) 0 before last are.some front values);
    }

-- a link that is moved to another list stands there, and the others where they stood
moved_there : (lists : List (List ℕ)) (to : List ℕ) (link l : ℕ) → l < length lists → link < length to
    → ((k : ℕ) → k < length to → Contains (list_at lists (slice_index to k)) k)
    → (k : ℕ) → k < length to → Contains (list_at (with_front (without lists link) l link) (slice_index (set to link l) k)) k
moved_there lists to link l lt inside there k within =
    let long : l < length (without lists link) = (let e = length-without lists link in omega (arith, e, lt)) in
    elim (cases_eq k link) [
      | inl e ↦
          let list : slice_index (set to link l) k ≡ l = ap (slice_index (set to link l)) e ∙ get_or-set_same to link l 0 inside in
          subst (λ (y : ℕ). Contains (list_at (with_front (without lists link) l link) y) k) (sym list)
          (subst (λ (ys : List ℕ). Contains ys k) (sym (list_at-with_front_same (without lists link) l link long))
          (subst (λ (y : ℕ). Contains (link ∷ list_at (without lists link) l) y) (sym e) (head_in link (list_at (without lists link) l))))
      | inr ne ↦
          let list : slice_index (set to link l) k ≡ slice_index to k = get_or-set_other to link k l 0 ne in
          let rest : Contains (list_at (without lists link) (slice_index to k)) k = Contains-without_other lists link (slice_index to k) k ne (there k within) in
          subst (λ (y : ℕ). Contains (list_at (with_front (without lists link) l link) y) k) (sym list)
          (elim (cases_eq (slice_index to k) l) [
            | inl same ↦ subst (λ (y : ℕ). Contains (list_at (with_front (without lists link) l link) y) k) (sym same)
                (subst (λ (ys : List ℕ). Contains ys k) (sym (list_at-with_front_same (without lists link) l link long))
                (tail_in link (list_at (without lists link) l) k (subst (λ (y : ℕ). Contains (list_at (without lists link) y) k) same rest)))
            | inr other ↦ subst (λ (ys : List ℕ). Contains ys k) (sym (list_at-with_front_other (without lists link) l link (slice_index to k) other)) rest
          ])
    ]

pub moved_linked : (old new : Chained ℕ) (to : List ℕ) (lists link l : ℕ) → AreLinked to old lists → link < length to → l < lists → new.lists ≡ with_front (without old.lists link) l link → new.values ≡ old.values
    → AreLinked (set to link l) new lists
moved_linked old new to lists link l are inside lt moved values =
    let n = length-set to link l in
    record {
      few = omega (arith, n, are.few);
      some = are.some;
      within = λ k. elim (cases_eq k link) [
        | inl e ↦ (let s = ap (slice_index (set to link l)) e ∙ get_or-set_same to link l 0 inside in omega (arith, s, lt))
        | inr ne ↦ (let s = get_or-set_other to link k l 0 ne in let h = are.within k in omega (arith, s, h))
      ];
      linked = record {
        long = ap (λ (ls : List (List ℕ)). length ls) moved ∙ length-with_front (without old.lists link) l link ∙ length-without old.lists link ∙ are.linked.long;
        values = ap (λ (vs : List ℕ). length vs) values ∙ are.linked.values ∙ sym n;
        there = λ k less. subst (λ (ls : List (List ℕ)). Contains (list_at ls (slice_index (set to link l) k)) k) (sym moved)
            (moved_there old.lists to link l (omega (arith, lt, are.linked.long)) inside are.linked.there k (omega (arith, less, n)));
      };
    }

-- the same links, and more lists behind the others
pub longer_linked : (old new : Chained ℕ) (to : List ℕ) (lists more : ℕ) → AreLinked to old lists → lists ≤ more → new.lists ≡ old.lists ++ replicate (more - length old.lists) [] → new.values ≡ old.values
    → AreLinked to new more
longer_linked old new to lists more are le longer values =
    let long = length-append old.lists (replicate (more - length old.lists) []) in
    let added = length-replicate {A = List ℕ} (more - length old.lists) [] in
    record {
      few = are.few;
      some = omega (arith, are.some, le);
      within = λ k. (let h = are.within k in omega (arith, h, le));
      linked = record {
        long = ap (λ (ls : List (List ℕ)). length ls) longer ∙ omega (arith, long, added, le, are.linked.long);
        values = ap (λ (vs : List ℕ). length vs) values ∙ are.linked.values;
        there = λ k lt.
            let within : slice_index to k < length old.lists = (let h = are.within k in omega (arith, h, are.linked.long)) in
            subst (λ (ls : List (List ℕ)). Contains (list_at ls (slice_index to k)) k) (sym longer)
            (subst (λ (ys : List ℕ). Contains ys k) (sym (get_or_append_left old.lists (replicate (more - length old.lists) []) [] (slice_index to k) within)) (are.linked.there k lt));
      };
    }

-- the same links, and no other memory
pub same_linked : (old new : Chained ℕ) (to to' : List ℕ) (lists : ℕ) → AreLinked to old lists → to' ≡ to → new.lists ≡ old.lists → new.values ≡ old.values → AreLinked to' new lists
same_linked old new to to' lists are same kept values =
    subst (λ (ts : List ℕ). AreLinked ts new lists) (sym same) (record {
      few = are.few;
      some = are.some;
      within = are.within;
      linked = record {
        long = ap (λ (ls : List (List ℕ)). length ls) kept ∙ are.linked.long;
        values = ap (λ (vs : List ℕ). length vs) values ∙ are.linked.values;
        there = λ k lt. subst (λ (ls : List (List ℕ)). Contains (list_at ls (slice_index to k)) k) (sym kept) (are.linked.there k lt);
      };
    })
