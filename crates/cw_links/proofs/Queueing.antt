-- Keys, and the queue in which cells and links wait under them.
use Rattle.std.proofs.Common.{◌≡◌, ℕ, zero, suc, ◌+◌, ◌*◌, ◌/◌, ◌%◌, ◌<◌, ◌≤◌, Bool, cond, List, [], ◌∷◌, ◌++◌, length, replicate, set, refl, sym, ap, ◌∙◌, subst, arith, inl, inr, ◌⊎◌}
use Rattle.std.specs.Prelude.{slice_index, Contains}
use Rattle.std.proofs.lemmas.Bool.{cases_lt, cases_eq, eq-eqb, ne_eqb}
use Rattle.std.proofs.lemmas.List.{get_or-set_same, get_or-set_other, get_or_past, get_or-replicate, length-replicate, length-append, length-set, length_push}
use Rattle.cw_links.specs.Lists.{list_at}
use Rattle.cw_links.specs.Queues.{AreAlike, AreNone, Puts, Takes}
use Rattle.cw_links.specs.Keys.{key_of, IsElement, AreWaiting, AreQueued, IsNext, AreEmpty}
use Rattle.cw_lemmas.proofs.Lists.{contains_none as in_none}

-- 0 more at the end are read as none
zeros : (many k : ℕ) → slice_index (replicate {A = ℕ} many 0) k ≡ 0
zeros many k =
    elim (cases_lt k many) [
      | inl lt ↦ get_or-replicate many k 0 0 lt
      | inr le ↦ get_or_past (replicate many 0) k 0 (let n = length-replicate {A = ℕ} many 0 in omega (arith, n, le))
    ]

pub push_zeros : (values : List ℕ) (many k : ℕ) → slice_index (values ++ replicate many 0) k ≡ slice_index values k
push_zeros [] many k = zeros many k
push_zeros (v ∷ values) many zero = refl
push_zeros (v ∷ values) many (suc k) = push_zeros values many k

pub push_zero : (values : List ℕ) (k : ℕ) → slice_index (values ++ 0 ∷ []) k ≡ slice_index values k
push_zero values k = push_zeros values 1 k

-- numbers of elements
even_rest : (n : ℕ) → 2 * n % 2 ≡ 0
even_rest n = omega arith

even_half : (n : ℕ) → 2 * n / 2 ≡ n
even_half n = omega arith

odd_rest : (n : ℕ) → (2 * n + 1) % 2 ≡ 0 → ⊥
odd_rest n e = omega (arith, e)

odd_half : (n : ℕ) → (2 * n + 1) / 2 ≡ n
odd_half n = omega arith

-- two of a kind with the same half are one
same_even : (e d : ℕ) → e % 2 ≡ 0 → d % 2 ≡ 0 → e / 2 ≡ d / 2 → e ≡ d
same_even e d even_e even_d half = omega (arith, even_e, even_d, half)

same_odd : (e d : ℕ) → (e % 2 ≡ 0 → ⊥) → (d % 2 ≡ 0 → ⊥) → e / 2 ≡ d / 2 → e ≡ d
same_odd e d odd_e odd_d half = omega (arith, odd_e, odd_d, half)

-- the key of an element is that of a cell or of a link
key_cell : (asked due : List ℕ) (e : ℕ) → e % 2 ≡ 0 → key_of asked due e ≡ slice_index asked (e / 2)
key_cell asked due e even = ap (λ (b : Bool). cond b (slice_index asked (e / 2)) (slice_index due (e / 2))) (eq-eqb (e % 2) 0 even)

key_link : (asked due : List ℕ) (e : ℕ) → (e % 2 ≡ 0 → ⊥) → key_of asked due e ≡ slice_index due (e / 2)
key_link asked due e odd = ap (λ (b : Bool). cond b (slice_index asked (e / 2)) (slice_index due (e / 2))) (ne_eqb (e % 2) 0 odd)

element_cell : (asked due : List ℕ) (e : ℕ) → e % 2 ≡ 0 → IsElement asked due e → e / 2 < length asked
element_cell asked due e even is = subst (λ (b : Bool). e / 2 < cond b (length asked) (length due)) (eq-eqb (e % 2) 0 even) is

element_link : (asked due : List ℕ) (e : ℕ) → (e % 2 ≡ 0 → ⊥) → IsElement asked due e → e / 2 < length due
element_link asked due e odd is = subst (λ (b : Bool). e / 2 < cond b (length asked) (length due)) (ne_eqb (e % 2) 0 odd) is

cell_element : (asked due : List ℕ) (e : ℕ) → e % 2 ≡ 0 → e / 2 < length asked → IsElement asked due e
cell_element asked due e even lt = subst (λ (b : Bool). e / 2 < cond b (length asked) (length due)) (sym (eq-eqb (e % 2) 0 even)) lt

link_element : (asked due : List ℕ) (e : ℕ) → (e % 2 ≡ 0 → ⊥) → e / 2 < length due → IsElement asked due e
link_element asked due e odd lt = subst (λ (b : Bool). e / 2 < cond b (length asked) (length due)) (sym (ne_eqb (e % 2) 0 odd)) lt

-- where there are no fewer cells and links, an element stays one
element_kept : (asked due asked' due' : List ℕ) → length asked ≤ length asked' → length due ≤ length due' → (e : ℕ) → IsElement asked due e → IsElement asked' due' e
element_kept asked due asked' due' cells links e is =
    elim (cases_eq (e % 2) 0) [
      | inl even ↦ cell_element asked' due' e even (let lt = element_cell asked due e even is in omega (arith, lt, cells))
      | inr odd ↦ link_element asked' due' e odd (let lt = element_link asked due e odd is in omega (arith, lt, links))
    ]

-- a cell's key is written, or a link's
cell_others : (asked due : List ℕ) (element key e : ℕ) → element % 2 ≡ 0 → (e ≡ element → ⊥) → key_of (set asked (element / 2) key) due e ≡ key_of asked due e
cell_others asked due element key e even ne =
    elim (cases_eq (e % 2) 0) [
      | inl same ↦
          key_cell (set asked (element / 2) key) due e same ∙ get_or-set_other asked (element / 2) (e / 2) key 0 (λ half. ne (same_even e element same even half))
          ∙ sym (key_cell asked due e same)
      | inr odd ↦ key_link (set asked (element / 2) key) due e odd ∙ sym (key_link asked due e odd)
    ]

link_others : (asked due : List ℕ) (element key e : ℕ) → (element % 2 ≡ 0 → ⊥) → (e ≡ element → ⊥) → key_of asked (set due (element / 2) key) e ≡ key_of asked due e
link_others asked due element key e odd ne =
    elim (cases_eq (e % 2) 0) [
      | inl even ↦ key_cell asked (set due (element / 2) key) e even ∙ sym (key_cell asked due e even)
      | inr same ↦
          key_link asked (set due (element / 2) key) e same ∙ get_or-set_other due (element / 2) (e / 2) key 0 (λ half. ne (same_odd e element same odd half))
          ∙ sym (key_link asked due e same)
    ]

-- ---- what stands under keys

in_cons : (x : ℕ) (xs : List ℕ) (y : ℕ) → Contains (x ∷ xs) y → (y ≡ x) ⊎ Contains xs y
in_cons x xs y (zero, lt, is) = inl (sym is)
in_cons x xs y (suc i, lt, is) = inr (i, omega (arith, lt), is)

-- what an element more under a key leaves
module _ (old new : List (List ℕ)) (element key : ℕ) (p : Puts old new element key) where
  here_in : Contains (list_at new key) element
  here_in = subst (λ (ys : List ℕ). Contains ys element) (sym p.here) (0, omega arith, refl)

  still_in : (k e : ℕ) → Contains (list_at old k) e → Contains (list_at new k) e
  still_in k e h =
      elim (cases_eq k key) [
        | inl same ↦
            let at : Contains (list_at old key) e = subst (λ (y : ℕ). Contains (list_at old y) e) same h in
            subst (λ (y : ℕ). Contains (list_at new y) e) (sym same) (subst (λ (ys : List ℕ). Contains ys e) (sym p.here) (suc at.0, omega (arith, at.1), at.2))
        | inr ne ↦ subst (λ (ys : List ℕ). Contains ys e) (sym (p.others k ne)) h
      ]

  was_in : (k e : ℕ) → Contains (list_at new k) e → ((k ≡ key) × (e ≡ element)) ⊎ Contains (list_at old k) e
  was_in k e h =
      elim (cases_eq k key) [
        | inl same ↦
            elim (in_cons element (list_at old key) e (subst (λ (ys : List ℕ). Contains ys e) p.here (subst (λ (y : ℕ). Contains (list_at new y) e) same h))) [
              | inl is ↦ inl (same, is)
              | inr before ↦ inr (subst (λ (y : ℕ). Contains (list_at old y) e) (sym same) before)
            ]
        | inr ne ↦ inr (subst (λ (ys : List ℕ). Contains ys e) (p.others k ne) h)
      ]

-- nothing waits yet
pub none_queued : (asked due : List ℕ) (stacks : List (List ℕ)) → asked ≡ [] → due ≡ [] → AreNone stacks → AreQueued asked due stacks
none_queued asked due stacks no_cells no_links none = record {
  few_cells = (let e = ap (λ (ys : List ℕ). length ys) no_cells in omega (arith, e));
  few_links = (let e = ap (λ (ys : List ℕ). length ys) no_links in omega (arith, e));
  waiting = record {
    waits = λ e some. absurd (let is = keyless e in omega (arith, is, some));
    known = λ k e h. absurd (in_none e (subst (λ (ys : List ℕ). Contains ys e) (none k) h));
  };
}
  where
    keyless : (e : ℕ) → key_of asked due e ≡ 0
    keyless e =
        elim (cases_eq (e % 2) 0) [
          | inl even ↦ key_cell asked due e even ∙ ap (λ (ys : List ℕ). slice_index ys (e / 2)) no_cells
          | inr odd ↦ key_link asked due e odd ∙ ap (λ (ys : List ℕ). slice_index ys (e / 2)) no_links
        ]

-- one more that has no key
more_waiting : (asked due asked' due' : List ℕ) (stacks : List (List ℕ)) → AreWaiting asked due stacks → ((k : ℕ) → slice_index asked' k ≡ slice_index asked k) → ((k : ℕ) → slice_index due' k ≡ slice_index due k)
    → length asked ≤ length asked' → length due ≤ length due' → AreWaiting asked' due' stacks
more_waiting asked due asked' due' stacks w same_cells same_links cells links = record {
  waits = λ e some. subst (λ (k : ℕ). Contains (list_at stacks k) e) (sym (same e)) (w.waits e (let h = same e in omega (arith, h, some)));
  known = λ k e h. element_kept asked due asked' due' cells links e (w.known k e h);
}
  where
    same : (e : ℕ) → key_of asked' due' e ≡ key_of asked due e
    same e =
        elim (cases_eq (e % 2) 0) [
          | inl even ↦ key_cell asked' due' e even ∙ same_cells (e / 2) ∙ sym (key_cell asked due e even)
          | inr odd ↦ key_link asked' due' e odd ∙ same_links (e / 2) ∙ sym (key_link asked due e odd)
        ]

-- another queue, in which the same waits under each key
pub alike_queued : (asked due : List ℕ) (old new : List (List ℕ)) → AreQueued asked due old → AreAlike old new → AreQueued asked due new
alike_queued asked due old new q same = record {
  few_cells = q.few_cells;
  few_links = q.few_links;
  waiting = record {
    waits = λ e lt. subst (λ (ys : List ℕ). Contains ys e) (sym (same (key_of asked due e))) (q.waiting.waits e lt);
    known = λ key e there. q.waiting.known key e (subst (λ (ys : List ℕ). Contains ys e) (same key) there);
  };
}

pub pushed_cells : (asked due : List ℕ) (stacks : List (List ℕ)) (many : ℕ) → AreQueued asked due stacks → length asked + many ≤ 4194304 → AreQueued (asked ++ replicate many 0) due stacks
pushed_cells asked due stacks many q room =
    let n : length (asked ++ replicate many 0) ≡ length asked + many = length-append asked (replicate many 0) ∙ ap (λ (m : ℕ). length asked + m) (length-replicate {A = ℕ} many 0) in
    record {
      few_cells = omega (arith, n, room);
      few_links = q.few_links;
      waiting = more_waiting asked due (asked ++ replicate many 0) due stacks q.waiting (push_zeros asked many) (λ k. refl) (omega (arith, n)) (omega arith);
    }

pub pushed_link : (asked due : List ℕ) (stacks : List (List ℕ)) → AreQueued asked due stacks → length due < 4194304 → AreQueued asked (due ++ 0 ∷ []) stacks
pushed_link asked due stacks q room =
    let n = length_push due 0 in
    record {
      few_cells = q.few_cells;
      few_links = omega (arith, n, room);
      waiting = more_waiting asked due asked (due ++ 0 ∷ []) stacks q.waiting (λ k. refl) (push_zero due) (omega arith) (omega (arith, n));
    }

-- a key is written, and its element put under it
put_waiting : (asked due asked' due' : List ℕ) (old new : List (List ℕ)) (element key : ℕ) → AreWaiting asked due old → Puts old new element key → key_of asked' due' element ≡ key
    → ((e : ℕ) → (e ≡ element → ⊥) → key_of asked' due' e ≡ key_of asked due e) → length asked ≤ length asked' → length due ≤ length due' → IsElement asked' due' element → AreWaiting asked' due' new
put_waiting asked due asked' due' old new element key w p is others cells links one = record {
  waits = λ e some. elim (cases_eq e element) [
    | inl same ↦
        subst (λ (y : ℕ). Contains (list_at new (key_of asked' due' y)) y) (sym same)
        (subst (λ (k : ℕ). Contains (list_at new k) element) (sym is) (here_in old new element key p))
    | inr ne ↦
        let h = others e ne in
        subst (λ (k : ℕ). Contains (list_at new k) e) (sym h) (still_in old new element key p (key_of asked due e) e (w.waits e (omega (arith, h, some))))
  ];
  known = λ k e h. elim (was_in old new element key p k e h) [
    | inl both ↦ subst (λ (y : ℕ). IsElement asked' due' y) (sym both.1) one
    | inr before ↦ element_kept asked due asked' due' cells links e (w.known k e before)
  ];
}

module _ (asked due : List ℕ) (old new : List (List ℕ)) (q : AreQueued asked due old) where
  -- a cell's key is written
  pub asked_queued : (cell key : ℕ) → cell < length asked → Puts old new (2 * cell) key → AreQueued (set asked cell key) due new
  asked_queued cell key lt p =
      let half = even_half cell in
      let n = length-set asked cell key in
      record {
        few_cells = omega (arith, n, q.few_cells);
        few_links = q.few_links;
        waiting = put_waiting asked due (set asked cell key) due old new (2 * cell) key q.waiting p
            (key_cell (set asked cell key) due (2 * cell) (even_rest cell) ∙ ap (λ (y : ℕ). slice_index (set asked cell key) y) half ∙ get_or-set_same asked cell key 0 lt)
            (λ e ne. subst (λ (y : ℕ). key_of (set asked y key) due e ≡ key_of asked due e) half (cell_others asked due (2 * cell) key e (even_rest cell) ne))
            (omega (arith, n)) (omega arith) (cell_element (set asked cell key) due (2 * cell) (even_rest cell) (omega (arith, half, n, lt)));
      }

  -- a link's key is written
  pub due_queued : (link key : ℕ) → link < length due → Puts old new (2 * link + 1) key → AreQueued asked (set due link key) new
  due_queued link key lt p =
      let half = odd_half link in
      let n = length-set due link key in
      record {
        few_cells = q.few_cells;
        few_links = omega (arith, n, q.few_links);
        waiting = put_waiting asked due asked (set due link key) old new (2 * link + 1) key q.waiting p
            (key_link asked (set due link key) (2 * link + 1) (odd_rest link) ∙ ap (λ (y : ℕ). slice_index (set due link key) y) half ∙ get_or-set_same due link key 0 lt)
            (λ e ne. subst (λ (y : ℕ). key_of asked (set due y key) e ≡ key_of asked due e) half (link_others asked due (2 * link + 1) key e (odd_rest link) ne))
            (omega arith) (omega (arith, n)) (link_element asked (set due link key) (2 * link + 1) (odd_rest link) (omega (arith, half, n, lt)));
      }

-- ---- what is taken

module _ (asked due : List ℕ) (old new : List (List ℕ)) (element key : ℕ) (w : AreWaiting asked due old) (t : Takes old new element key) where
  -- each element but the one that is taken is where it was
  left_in : (e : ℕ) → ((key_of asked due e ≡ key) × (e ≡ element) → ⊥) → 0 < key_of asked due e → Contains (list_at new (key_of asked due e)) e
  left_in e other some =
      elim (was_in new old element key t.undone (key_of asked due e) e (w.waits e some)) [
        | inl both ↦ absurd (other both)
        | inr left ↦ left
      ]

  left_known : (k e : ℕ) → Contains (list_at new k) e → IsElement asked due e
  left_known k e h = w.known k e (still_in new old element key t.undone k e h)

  pub taken_element : IsElement asked due element
  taken_element = w.known key element (here_in new old element key t.undone)

  -- an element that was taken under another key than its own
  pub passed_over : (key_of asked due element ≡ key → ⊥) → AreWaiting asked due new
  passed_over other = record {
    waits = λ e some. left_in e (λ both. other (subst (λ (y : ℕ). key_of asked due y ≡ key) both.1 both.0)) some;
    known = left_known;
  }

  no_less : (e : ℕ) → 0 < key_of asked due e → key ≤ key_of asked due e
  no_less e some =
      elim (cases_lt (key_of asked due e) key) [
        | inl lt ↦ absurd (in_none e (subst (λ (ys : List ℕ). Contains ys e) (t.least (key_of asked due e) lt) (w.waits e some)))
        | inr le ↦ le
      ]

  pub is_next : key_of asked due element ≡ key → IsNext asked due new element key
  is_next is = record {
    some = t.some;
    is = is;
    is_element = taken_element;
    from = record {
      cells = λ k some.
          let e : key_of asked due (2 * k) ≡ slice_index asked k = key_cell asked due (2 * k) (even_rest k) ∙ ap (λ (y : ℕ). slice_index asked y) (even_half k) in
          let h = no_less (2 * k) (omega (arith, e, some)) in
          omega (arith, e, h);
      links = λ k some.
          let e : key_of asked due (2 * k + 1) ≡ slice_index due k = key_link asked due (2 * k + 1) (odd_rest k) ∙ ap (λ (y : ℕ). slice_index due y) (odd_half k) in
          let h = no_less (2 * k + 1) (omega (arith, e, some)) in
          omega (arith, e, h);
    };
    others = λ e ne some. left_in e (λ both. ne both.1) some;
    known = left_known;
  }

-- nothing was left to take
pub none_waits : (asked due : List ℕ) (stacks : List (List ℕ)) → AreWaiting asked due stacks → AreNone stacks → AreEmpty asked due
none_waits asked due stacks w none = record {
  cells = λ k. key_cell' k ∙ keyless (2 * k);
  links = λ k. key_link' k ∙ keyless (2 * k + 1);
}
  where
    keyless : (e : ℕ) → key_of asked due e ≡ 0
    keyless e =
        elim (cases_lt 0 (key_of asked due e)) [
          | inl some ↦ absurd (in_none e (subst (λ (ys : List ℕ). Contains ys e) (none (key_of asked due e)) (w.waits e some)))
          | inr le ↦ omega (arith, le)
        ]

    key_cell' : (k : ℕ) → slice_index asked k ≡ key_of asked due (2 * k)
    key_cell' k = sym (key_cell asked due (2 * k) (even_rest k) ∙ ap (λ (y : ℕ). slice_index asked y) (even_half k))

    key_link' : (k : ℕ) → slice_index due k ≡ key_of asked due (2 * k + 1)
    key_link' k = sym (key_link asked due (2 * k + 1) (odd_rest k) ∙ ap (λ (y : ℕ). slice_index due y) (odd_half k))

-- the key of what is taken is 0 from now on
next_waiting : (asked due asked' due' : List ℕ) (stacks : List (List ℕ)) (element key : ℕ) → IsNext asked due stacks element key → key_of asked' due' element ≡ 0
    → ((e : ℕ) → (e ≡ element → ⊥) → key_of asked' due' e ≡ key_of asked due e) → length asked ≤ length asked' → length due ≤ length due' → AreWaiting asked' due' stacks
next_waiting asked due asked' due' stacks element key n is others cells links = record {
  waits = λ e some. elim (cases_eq e element) [
    | inl same ↦ absurd (let h = ap (λ (y : ℕ). key_of asked' due' y) same in omega (arith, h, is, some))
    | inr ne ↦
        let h = others e ne in
        subst (λ (k : ℕ). Contains (list_at stacks k) e) (sym h) (n.others e ne (omega (arith, h, some)))
  ];
  known = λ k e h. element_kept asked due asked' due' cells links e (n.known k e h);
}

module _ (asked due : List ℕ) (stacks : List (List ℕ)) (element key : ℕ) (few_cells : length asked ≤ 4194304) (few_links : length due ≤ 4194304) (n : IsNext asked due stacks element key) where
  cell_within : element % 2 ≡ 0 → element / 2 < length asked
  cell_within even = element_cell asked due element even n.is_element

  pub cell_queued : element % 2 ≡ 0 → AreQueued (set asked (element / 2) 0) due stacks
  cell_queued even =
      let m = length-set asked (element / 2) 0 in
      record {
        few_cells = omega (arith, m, few_cells);
        few_links = few_links;
        waiting = next_waiting asked due (set asked (element / 2) 0) due stacks element key n
            (key_cell (set asked (element / 2) 0) due element even ∙ get_or-set_same asked (element / 2) 0 0 (cell_within even))
            (λ e ne. cell_others asked due element 0 e even ne) (omega (arith, m)) (omega arith);
      }

  link_within : (element % 2 ≡ 0 → ⊥) → element / 2 < length due
  link_within odd = element_link asked due element odd n.is_element

  pub link_queued : (element % 2 ≡ 0 → ⊥) → AreQueued asked (set due (element / 2) 0) stacks
  link_queued odd =
      let m = length-set due (element / 2) 0 in
      record {
        few_cells = few_cells;
        few_links = omega (arith, m, few_links);
        waiting = next_waiting asked due asked (set due (element / 2) 0) stacks element key n
            (key_link asked (set due (element / 2) 0) element odd ∙ get_or-set_same due (element / 2) 0 0 (link_within odd))
            (λ e ne. link_others asked due element 0 e odd ne) (omega arith) (omega (arith, m));
      }
