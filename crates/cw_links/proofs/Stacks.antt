-- Stacks of elements under keys: what a put and a take leave of them, and how many wait.
use Rattle.std.proofs.Common.{◌≡◌, ◌≢◌, ℕ, suc, zero, ◌+◌, ◌<◌, ◌≤◌, min, max, true, false, List, [], ◌∷◌, ◌++◌, length, map, set, replicate, Some, refl, sym, ap, ◌∙◌, subst, arith, inl, inr}
use Rattle.std.specs.Prelude.{slice_get, slice_index}
use Rattle.std.specs.List.{concat}
use Rattle.std.proofs.lemmas.Bool.{cases_Bool, cases_eq, cases_lt, false≢true, eq-eqb}
use Rattle.std.proofs.lemmas.Option.{none-some, same_Some}
use Rattle.std.proofs.lemmas.List.{get_or-set_same, get_or-set_other, length-append, length-set}
use Rattle.cw_links.specs.Lists.{list_at, without, with_front, AreApart}
use Rattle.cw_links.specs.Queues.{waiting, stacks_of, AreNone, HasLower, Puts, Takes, IsQueue}
use Rattle.cw_links.specs.Rows.{has, Once}
use Rattle.cw_links.proofs.CallerLemmas.{length-without, length-with_front, list_at-without, list_at-with_front_other, same_list, Once-from_IsDistinct}
use Rattle.cw_links.proofs.Entries.{others_of_first, entries_of_moved, entries_of_spared}
use Rattle.cw_links.proofs.Moved.{moved, moved_here}
use Rattle.cw_links.proofs.NodeRows.{less, has-less_same, less_absent, has-first, absent_tail, Once-append_left, Once-append_right}
use Rattle.cw_links.proofs.Queueing.{push_zero as zero_more}

-- how many wait

none_more : (new : List (List ℕ)) → ((k : ℕ) → list_at new k ≡ []) → waiting new ≡ 0
none_more [] none = refl
none_more (xs ∷ new) none = rw (none 0) (none_more new (λ k. none (suc k)))

same_waiting : (old new : List (List ℕ)) → ((k : ℕ) → list_at new k ≡ list_at old k) → waiting new ≡ waiting old
same_waiting [] new same = none_more new same
same_waiting (xs ∷ old) [] same = sym (none_more (xs ∷ old) (λ k. sym (same k)))
same_waiting (xs ∷ old) (ys ∷ new) same =
    let h : length ys ≡ length xs = ap (λ (w : List ℕ). length w) (same 0) in
    let rest = same_waiting old new (λ k. same (suc k)) in
    omega (arith, h, length-append xs (concat old), length-append ys (concat new), rest)

-- a put is one more
pub puts_one : (old new : List (List ℕ)) (element key : ℕ) → Puts old new element key → waiting new ≡ waiting old + 1
puts_one old [] element key p = absurd (let h : 0 ≡ suc (length (list_at old key)) = ap (λ (w : List ℕ). length w) p.here in omega (arith, h))
puts_one [] (ys ∷ new) element zero p =
    let h : length ys ≡ 1 = ap (λ (w : List ℕ). length w) p.here in
    let rest = none_more new (λ k. p.others (suc k) (λ e. omega (arith, e))) in
    omega (arith, h, length-append ys (concat new), rest)
puts_one [] (ys ∷ new) element (suc key) p =
    let h : length ys ≡ 0 = ap (λ (w : List ℕ). length w) (p.others 0 (λ e. omega (arith, e))) in
    let rest = puts_one [] new element key (record { here = p.here; others = λ k ne. p.others (suc k) (λ e. ne (omega (arith, e))) }) in
    omega (arith, h, length-append ys (concat new), rest)
puts_one (xs ∷ old) (ys ∷ new) element zero p =
    let h : length ys ≡ suc (length xs) = ap (λ (w : List ℕ). length w) p.here in
    let rest = same_waiting old new (λ k. p.others (suc k) (λ e. omega (arith, e))) in
    omega (arith, h, length-append xs (concat old), length-append ys (concat new), rest)
puts_one (xs ∷ old) (ys ∷ new) element (suc key) p =
    let h : length ys ≡ length xs = ap (λ (w : List ℕ). length w) (p.others 0 (λ e. omega (arith, e))) in
    let rest = puts_one old new element key (record { here = p.here; others = λ k ne. p.others (suc k) (λ e. ne (omega (arith, e))) }) in
    omega (arith, h, length-append xs (concat old), length-append ys (concat new), rest)

-- a take is one less
pub takes_one : (old new : List (List ℕ)) (element key : ℕ) → Takes old new element key → waiting new < waiting old
takes_one old new element key t = let h = puts_one new old element key t.undone in omega (arith, h)

-- the stack of a key

list_at-map : (f : List ℕ → List ℕ) → f [] ≡ [] → (ls : List (List ℕ)) (k : ℕ) → list_at (map f ls) k ≡ f (list_at ls k)
list_at-map f e [] k = sym e
list_at-map f e (xs ∷ ls) zero = refl
list_at-map f e (xs ∷ ls) (suc k) = list_at-map f e ls k

stack_at : (els : List ℕ) (ls : List (List ℕ)) (k : ℕ) → 0 < k → list_at (stacks_of els ls) k ≡ map (slice_index els) (list_at ls k)
stack_at els [] k some = refl
stack_at els (xs ∷ ls) zero some = absurd (omega (arith, some))
stack_at els (xs ∷ ls) (suc k) some = list_at-map (map (slice_index els)) refl ls k

none_at : (els : List ℕ) (ls : List (List ℕ)) (k : ℕ) → k ≡ 0 → list_at (stacks_of els ls) k ≡ []
none_at els [] k e = refl
none_at els (xs ∷ ls) zero e = refl
none_at els (xs ∷ ls) (suc k) e = absurd (omega (arith, e))

zero_more_in : (els : List ℕ) (xs : List ℕ) → map (slice_index (els ++ 0 ∷ [])) xs ≡ map (slice_index els) xs
zero_more_in els [] = refl
zero_more_in els (x ∷ xs) = rw (zero_more els x, zero_more_in els xs) refl

zero_more_under : (els : List ℕ) (ls : List (List ℕ)) → map (map (slice_index (els ++ 0 ∷ []))) ls ≡ map (map (slice_index els)) ls
zero_more_under els [] = refl
zero_more_under els (xs ∷ ls) = rw (zero_more_in els xs, zero_more_under els ls) refl

-- a spare entry more, whose element is 0, waits under no key
pub spare_more : (els : List ℕ) (ls : List (List ℕ)) (c : ℕ) → 0 < length ls → stacks_of (els ++ 0 ∷ []) (with_front ls 0 c) ≡ stacks_of els ls
spare_more els [] c some = absurd (omega (arith, some))
spare_more els (xs ∷ ls) c some = ap (λ (ss : List (List ℕ)). [] ∷ ss) (zero_more_under els ls)

-- stacks are the same where the lists are, but for spare entries
same_stack : (els fs : List ℕ) (ls ms : List (List ℕ)) (k : ℕ) → (0 < k → map (slice_index fs) (list_at ms k) ≡ map (slice_index els) (list_at ls k))
    → list_at (stacks_of fs ms) k ≡ list_at (stacks_of els ls) k
same_stack els fs ls ms k same =
    elim (cases_eq k 0) [
      | inl e ↦ none_at fs ms k e ∙ sym (none_at els ls k e)
      | inr ne ↦ let some : 0 < k = omega (arith, ne) in stack_at fs ms k some ∙ same some ∙ sym (stack_at els ls k some)
    ]

-- where an entry stands

has_first : (x : ℕ) (xs : List ℕ) (c : ℕ) → x ≡ c → has (x ∷ xs) c ≡ true
has_first x xs c e = rw (eq-eqb x c e) refl

map-absent : (els : List ℕ) (c v : ℕ) (xs : List ℕ) → has xs c ≡ false → map (slice_index (set els c v)) xs ≡ map (slice_index els) xs
map-absent els c v [] h = refl
map-absent els c v (x ∷ xs) h =
    let ne : x ≢ c = λ e. false≢true (sym h ∙ has_first x xs c e) in
    ap (λ (y : ℕ). y ∷ map (slice_index (set els c v)) xs) (get_or-set_other els c x v 0 ne)
    ∙ ap (λ (ys : List ℕ). slice_index els x ∷ ys) (map-absent els c v xs (absent_tail x xs c h))

pub Once_at : (ls : List (List ℕ)) (l : ℕ) → Once (concat ls) → Once (list_at ls l)
Once_at [] l o = tt
Once_at (xs ∷ ls) zero o = Once-append_left xs (concat ls) o
Once_at (xs ∷ ls) (suc l) o = Once_at ls l (Once-append_right xs (concat ls) o)

elsewhere : (ls : List (List ℕ)) (cells c l h : ℕ) → AreApart ls cells → has (list_at ls l) c ≡ true → h ≢ l → has (list_at ls h) c ≡ false
elsewhere ls cells c l h a at ne =
    elim (cases_Bool (has (list_at ls h) c)) [
      | inl e ↦ absurd (ne (same_list ls h l c (Once-from_IsDistinct (concat ls) a.once) e at))
      | inr e ↦ e
    ]

first_splits : (xs : List ℕ) (c : ℕ) → slice_get xs 0 ≡ Some c → (rest : List ℕ) × (xs ≡ c ∷ rest)
first_splits [] c e = absurd (none-some c e)
first_splits (x ∷ xs) c e = (xs, ap (λ (y : ℕ). y ∷ xs) (same_Some x c e))

less_first : (c : ℕ) (xs : List ℕ) → Once (c ∷ xs) → less (c ∷ xs) c ≡ xs
less_first c xs o = rw (eq-eqb c c refl) (less_absent xs c o.0)

-- a spare entry is under no key
pub spare_unkeyed : (ls : List (List ℕ)) (cells c : ℕ) → AreApart ls cells → slice_get (list_at ls 0) 0 ≡ Some c → (k : ℕ) → 0 < k → has (list_at ls k) c ≡ false
spare_unkeyed ls cells c a first k some = elsewhere ls cells c 0 k a (has-first (list_at ls 0) c first) (λ e. omega (arith, e, some))

-- .. nor is an entry in front of the spare ones that stood nowhere
pub new_unkeyed : (ls : List (List ℕ)) (c : ℕ) → without ls c ≡ ls → (k : ℕ) → 0 < k → has (list_at (with_front ls 0 c) k) c ≡ false
new_unkeyed ls c out k some =
    ap (λ (ys : List ℕ). has ys c) (list_at-with_front_other ls 0 c k (λ e. omega (arith, e, some)))
    ∙ ap (λ (ms : List (List ℕ)). has (list_at ms k) c) (sym out) ∙ ap (λ (ys : List ℕ). has ys c) (list_at-without ls c k) ∙ has-less_same (list_at ls k) c

-- an entry with an element is put under a key
module _ (els : List ℕ) (ls : List (List ℕ)) (n c key v : ℕ) (within : c < length els) (some : 0 < key) (there : key < length (ls ++ replicate n [])) (absent : (k : ℕ) → 0 < k → has (list_at ls k) c ≡ false) where
  put_to : List (List ℕ)
  put_to = with_front (without (ls ++ replicate n []) c) key c

  pub puts_stack : Puts (stacks_of els ls) (stacks_of (set els c v) (with_front (without (ls ++ replicate n []) c) key c)) v key
  puts_stack = record {
    here =
        stack_at (set els c v) (with_front (without (ls ++ replicate n []) c) key c) key some
        ∙ ap (λ (ys : List ℕ). map (slice_index (set els c v)) ys) (moved_here ls n c key there ∙ ap (λ (ys : List ℕ). c ∷ ys) (less_absent (list_at ls key) c (absent key some)))
        ∙ ap (λ (y : ℕ). y ∷ map (slice_index (set els c v)) (list_at ls key)) (get_or-set_same els c v 0 within)
        ∙ ap (λ (ys : List ℕ). v ∷ ys) (map-absent els c v (list_at ls key) (absent key some) ∙ sym (stack_at els ls key some));
    others = λ k ne. same_stack els (set els c v) ls (with_front (without (ls ++ replicate n []) c) key c) k (λ at.
        ap (λ (ys : List ℕ). map (slice_index (set els c v)) ys) (moved ls n c key k ne ∙ less_absent (list_at ls k) c (absent k at))
        ∙ map-absent els c v (list_at ls k) (absent k at));
  }

  pub puts_queue : (floor : ℕ) → 0 < floor → length (concat (without ls c)) + 1 ≡ length els → ((k : ℕ) → k < floor → list_at (stacks_of els ls) k ≡ [])
      → IsQueue (with_front (without (ls ++ replicate n []) c) key c) (length els) (set els c v) (min floor key)
  puts_queue floor above others lowest = record {
    known = sym (length-set els c v);
    filled = entries_of_moved ls n key c (length els) there others;
    some = omega (arith, there, length-with_front (without (ls ++ replicate n []) c) key c, length-without (ls ++ replicate n []) c);
    above = omega (arith, above, some);
    lowest = λ k lt. puts_stack.others k (λ e. omega (arith, e, lt)) ∙ lowest k (omega (arith, lt));
  }

-- where the lists from the floor on have no entries below a key, nothing waits below it; and where one has some, something does
module _ (els : List ℕ) (ls : List (List ℕ)) (cells floor key : ℕ) (q : IsQueue ls cells els floor) where
  pub clear_below : ((h : ℕ) → floor ≤ h → h < key → list_at ls h ≡ []) → (k : ℕ) → k < key → list_at (stacks_of els ls) k ≡ []
  clear_below none k lt =
      elim (cases_lt k floor) [
        | inl under ↦ q.lowest k under
        | inr over ↦ stack_at els ls k (omega (arith, over, q.above)) ∙ ap (λ (ys : List ℕ). map (slice_index els) ys) (none k over lt)
      ]

  pub clear_queue : ((h : ℕ) → floor ≤ h → h < key → list_at ls h ≡ []) → IsQueue ls cells els (max floor key)
  clear_queue none = record {
    known = q.known;
    filled = q.filled;
    some = q.some;
    above = omega (arith, q.above);
    lowest = λ k lt. elim (cases_lt k floor) [ inl under ↦ q.lowest k under | inr over ↦ clear_below none k (omega (arith, lt, over)) ];
  }

  pub has_lower : (list : ℕ) → floor ≤ list → list < key → (list_at ls list ≡ [] → ⊥) → HasLower (stacks_of els ls) key
  has_lower list over lt some = (list, lt, λ none. some (no_elements (list_at ls list) (sym (stack_at els ls list (omega (arith, over, q.above))) ∙ none)))
    where
      no_elements : (xs : List ℕ) → map (slice_index els) xs ≡ [] → xs ≡ []
      no_elements [] e = refl
      no_elements (x ∷ xs) e = absurd (let h : suc (length (map (slice_index els) xs)) ≡ 0 = ap (λ (ys : List ℕ). length ys) e in omega (arith, h))

-- the first entry under the least key is spare from now on
module _ (els : List ℕ) (ls : List (List ℕ)) (cells floor c key : ℕ) (q : IsQueue ls cells els floor) (first : slice_get (list_at ls key) 0 ≡ Some c) (from : floor ≤ key)
    (below : (h : ℕ) → floor ≤ h → h < key → list_at ls h ≡ []) (apart : AreApart ls cells) where
  left_at : (k : ℕ) → 0 < k → list_at (with_front (without ls c) 0 c) k ≡ less (list_at ls k) c
  left_at k some = list_at-with_front_other (without ls c) 0 c k (λ e. omega (arith, e, some)) ∙ list_at-without ls c k

  rest_at : list_at ls key ≡ c ∷ less (list_at ls key) c
  rest_at =
      let s = first_splits (list_at ls key) c first in
      let once : Once (c ∷ s.0) = subst Once s.1 (Once_at ls key (Once-from_IsDistinct (concat ls) apart.once)) in
      s.1 ∙ ap (λ (ys : List ℕ). c ∷ ys) (sym (ap (λ (ys : List ℕ). less ys c) s.1 ∙ less_first c s.0 once))

  pub takes_stack : Takes (stacks_of els ls) (stacks_of els (with_front (without ls c) 0 c)) (slice_index els c) key
  takes_stack =
      let some : 0 < key = omega (arith, q.above, from) in
      record {
        some = some;
        least = λ k lt. elim (cases_lt k floor) [
          | inl under ↦ q.lowest k under
          | inr over ↦ stack_at els ls k (omega (arith, over, q.above)) ∙ ap (λ (ys : List ℕ). map (slice_index els) ys) (below k over lt)
        ];
        undone = record {
          here =
              stack_at els ls key some ∙ ap (λ (ys : List ℕ). map (slice_index els) ys) rest_at
              ∙ ap (λ (ys : List ℕ). slice_index els c ∷ ys) (ap (λ (ys : List ℕ). map (slice_index els) ys) (sym (left_at key some)) ∙ sym (stack_at els (with_front (without ls c) 0 c) key some));
          others = λ k ne. same_stack els els (with_front (without ls c) 0 c) ls k (λ at.
              ap (λ (ys : List ℕ). map (slice_index els) ys) (sym (left_at k at ∙ less_absent (list_at ls k) c (elsewhere ls cells c key k apart (has-first (list_at ls key) c first) ne))));
        };
      }

  pub takes_queue : IsQueue (with_front (without ls c) 0 c) cells els key
  takes_queue = record {
    known = q.known;
    filled = entries_of_spared ls c cells q.some (others_of_first ls cells key c apart first ∙ q.filled);
    some = omega (arith, q.some, length-with_front (without ls c) 0 c, length-without ls c);
    above = omega (arith, q.above, from);
    lowest = λ k lt. sym (takes_stack.undone.others k (λ e. omega (arith, e, lt))) ∙ takes_stack.least k lt;
  }

  pub takes_some : AreNone (stacks_of els ls) → ⊥
  takes_some none =
      let h : 0 ≡ suc (length (list_at (stacks_of els (with_front (without ls c) 0 c)) key)) = ap (λ (ys : List ℕ). length ys) (sym (none key) ∙ takes_stack.undone.here) in
      omega (arith, h)

-- nothing waits
pub none_left : (els : List ℕ) (ls : List (List ℕ)) (cells floor : ℕ) → IsQueue ls cells els floor → ((h : ℕ) → floor ≤ h → list_at ls h ≡ []) → AreNone (stacks_of els ls)
none_left els ls cells floor q none k =
    elim (cases_lt k floor) [
      | inl under ↦ q.lowest k under
      | inr over ↦ stack_at els ls k (omega (arith, over, q.above)) ∙ ap (λ (ys : List ℕ). map (slice_index els) ys) (none k over)
    ]

pub none_above : (els : List ℕ) (ls : List (List ℕ)) (cells floor : ℕ) → IsQueue ls cells els floor → ((h : ℕ) → floor ≤ h → list_at ls h ≡ []) → IsQueue ls cells els (length ls)
none_above els ls cells floor q none = record {
  known = q.known;
  filled = q.filled;
  some = q.some;
  above = q.some;
  lowest = λ k lt. none_left els ls cells floor q none k;
}
