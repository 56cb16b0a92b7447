-- A row more behind those of a table.
use Rattle.std.proofs.Common.{◌≡◌, ℕ, ◌+◌, ◌<◌, ◌≤◌, ◌&&◌, Bool, true, false, eqb, List, [], ◌∷◌, ◌++◌, map, length, get_or, drop, refl, sym, ap, ◌∙◌, subst, arith, append-nil, append_assoc, eq-eqb}
use Rattle.std.specs.Prelude.{Option, None, Some}
use Rattle.std.specs.List.{AllByRecursion}
use Rattle.std.specs.List.Sorted.{IsStrictlySortedBy}
use Rattle.std.specs.declared.cmp.Ordering.{Ordering}
use Rattle.std.proofs.lemmas.Bool.{eqb-true}
use Rattle.std.proofs.lemmas.List.{map-append}
use Rattle.cw_core.specs.declared.ids.StateId.{StateId}
use Rattle.cw_core.specs.declared.ids.PosId.{PosId}
use Rattle.cw_core.specs.declared.ids.MemId.{MemId}
use Rattle.cw_certs.specs.declared.rows.TryRow.{TryRow}
use Rattle.cw_certs.specs.declared.rows.AtRow.{AtRow}
use Rattle.cw_certs.specs.declared.rows.OpenRow.{OpenRow}
use Rattle.cw_certs.specs.declared.rows.IntoRow.{IntoRow}
use Rattle.cw_certs.specs.declared.rows.BackRow.{BackRow}
use Rattle.cw_certs.specs.Tables.{Table}
use Rattle.cw_certs.specs.Ascending.{Ascends, mem_cmp, live_cmp, try_cmp, at_cmp, open_cmp, into_cmp, back_cmp}
use Rattle.cw_certs.proofs.Orders.{mem_total, live_total, try_total, at_total, open_total, into_total, back_total}
use Rattle.cw_table_text.specs.declared.row.Row.{Row}
use Rattle.cw_table_text.specs.declared.row.Row.TheVariants.{Memory, Live, Try, At, Opened, Closed, Into, Back}
use Rattle.cw_table_text.specs.Rows.{memories, rows_of}
use Rattle.cw_table_text.specs.Working.{is_nil, is_above, none_from_into, none_from_opened, none_from_tries, is_next, with_row}
use Rattle.cw_table_text.proofs.Orders.{sorted_push, above_from_sorted}
use Rattle.std.proofs.lemmas.Bool.{and_from as both_true, and_parts as both_pass}

-- ---- the rows of one kind

-- those rows that are some value's
abbrev pub joined_to : {A : Type 0} → Option A → List A → List A
joined_to None xs = xs
joined_to (Some x) xs = x ∷ xs

abbrev pub picked : {A : Type 0} → (Row → Option A) → List Row → List A
picked p [] = []
picked p (r ∷ rs) = joined_to (p r) (picked p rs)

joined-append : {A : Type 0} (o : Option A) (xs ys : List A) → joined_to o xs ++ ys ≡ joined_to o (xs ++ ys)
joined-append None xs ys = refl
joined-append (Some x) xs ys = refl

pub picked-append : {A : Type 0} (p : Row → Option A) (rs ss : List Row) → picked p (rs ++ ss) ≡ picked p rs ++ picked p ss
picked-append p [] ss = refl
picked-append p (r ∷ rs) ss = ap (joined_to (p r)) (picked-append p rs ss) ∙ sym (joined-append (p r) (picked p rs) (picked p ss))

picked_all : {A : Type 0} (p : Row → Option A) (row : A → Row) → ((x : A) → p (row x) ≡ Some x) → (xs : List A) → picked p (map row xs) ≡ xs
picked_all p row h [] = refl
picked_all p row h (x ∷ xs) = rw (h x) (ap (λ ys. x ∷ ys) (picked_all p row h xs))

picked_none : {A B : Type 0} (p : Row → Option A) (row : B → Row) → ((x : B) → p (row x) ≡ None) → (xs : List B) → picked p (map row xs) ≡ []
picked_none p row h [] = refl
picked_none p row h (x ∷ xs) = rw (h x) (picked_none p row h xs)

picked_memories : (p : Row → Option (StateId × ℕ)) → ((n : ℕ) (x : StateId × ℕ) → p (Memory n x) ≡ Some x) → (k : ℕ) (xs : List (StateId × ℕ)) → picked p (memories k xs) ≡ xs
picked_memories p h k [] = refl
picked_memories p h k (x ∷ xs) = rw (h k x) (ap (λ ys. x ∷ ys) (picked_memories p h (k + 1) xs))

picked_no_memories : {A : Type 0} (p : Row → Option A) → ((n : ℕ) (x : StateId × ℕ) → p (Memory n x) ≡ None) → (k : ℕ) (xs : List (StateId × ℕ)) → picked p (memories k xs) ≡ []
picked_no_memories p h k [] = refl
picked_no_memories p h k (x ∷ xs) = rw (h k x) (picked_no_memories p h (k + 1) xs)

-- a part of a table for each kind
parts : {A : Type 0} (p : Row → Option A) (t : Table) → picked p (rows_of t)
    ≡ picked p (memories 0 t.mems) ++ (picked p (map Live t.live) ++ (picked p (map Try t.tries) ++ (picked p (map At t.ats) ++ (picked p (map Opened t.opened)
    ++ (picked p (map Closed t.closed) ++ (picked p (map Into t.into) ++ picked p (map Back t.back)))))))
unfolding rows_of
parts p t = simp picked-append

pub mems_in : Row → Option (StateId × ℕ)
mems_in (Memory n x) = Some x
mems_in _ = None

pub mems_are : (t : Table) → picked mems_in (rows_of t) ≡ t.mems
unfolding mems_in
mems_are t = parts mems_in t ∙ rw (
  picked_memories mems_in (λ n x. refl) 0 t.mems,
  picked_none mems_in Live (λ x. refl) t.live,
  picked_none mems_in Try (λ x. refl) t.tries,
  picked_none mems_in At (λ x. refl) t.ats,
  picked_none mems_in Opened (λ x. refl) t.opened,
  picked_none mems_in Closed (λ x. refl) t.closed,
  picked_none mems_in Into (λ x. refl) t.into,
  picked_none mems_in Back (λ x. refl) t.back,
) (append-nil t.mems)

pub live_in : Row → Option (PosId × MemId)
live_in (Live x) = Some x
live_in _ = None

pub live_are : (t : Table) → picked live_in (rows_of t) ≡ t.live
unfolding live_in
live_are t = parts live_in t ∙ rw (
  picked_no_memories live_in (λ n x. refl) 0 t.mems,
  picked_all live_in Live (λ x. refl) t.live,
  picked_none live_in Try (λ x. refl) t.tries,
  picked_none live_in At (λ x. refl) t.ats,
  picked_none live_in Opened (λ x. refl) t.opened,
  picked_none live_in Closed (λ x. refl) t.closed,
  picked_none live_in Into (λ x. refl) t.into,
  picked_none live_in Back (λ x. refl) t.back,
) (append-nil t.live)

pub tries_in : Row → Option (TryRow)
tries_in (Try x) = Some x
tries_in _ = None

pub tries_are : (t : Table) → picked tries_in (rows_of t) ≡ t.tries
unfolding tries_in
tries_are t = parts tries_in t ∙ rw (
  picked_no_memories tries_in (λ n x. refl) 0 t.mems,
  picked_none tries_in Live (λ x. refl) t.live,
  picked_all tries_in Try (λ x. refl) t.tries,
  picked_none tries_in At (λ x. refl) t.ats,
  picked_none tries_in Opened (λ x. refl) t.opened,
  picked_none tries_in Closed (λ x. refl) t.closed,
  picked_none tries_in Into (λ x. refl) t.into,
  picked_none tries_in Back (λ x. refl) t.back,
) (append-nil t.tries)

pub ats_in : Row → Option (AtRow)
ats_in (At x) = Some x
ats_in _ = None

pub ats_are : (t : Table) → picked ats_in (rows_of t) ≡ t.ats
unfolding ats_in
ats_are t = parts ats_in t ∙ rw (
  picked_no_memories ats_in (λ n x. refl) 0 t.mems,
  picked_none ats_in Live (λ x. refl) t.live,
  picked_none ats_in Try (λ x. refl) t.tries,
  picked_all ats_in At (λ x. refl) t.ats,
  picked_none ats_in Opened (λ x. refl) t.opened,
  picked_none ats_in Closed (λ x. refl) t.closed,
  picked_none ats_in Into (λ x. refl) t.into,
  picked_none ats_in Back (λ x. refl) t.back,
) (append-nil t.ats)

pub opened_in : Row → Option (OpenRow)
opened_in (Opened x) = Some x
opened_in _ = None

pub opened_are : (t : Table) → picked opened_in (rows_of t) ≡ t.opened
unfolding opened_in
opened_are t = parts opened_in t ∙ rw (
  picked_no_memories opened_in (λ n x. refl) 0 t.mems,
  picked_none opened_in Live (λ x. refl) t.live,
  picked_none opened_in Try (λ x. refl) t.tries,
  picked_none opened_in At (λ x. refl) t.ats,
  picked_all opened_in Opened (λ x. refl) t.opened,
  picked_none opened_in Closed (λ x. refl) t.closed,
  picked_none opened_in Into (λ x. refl) t.into,
  picked_none opened_in Back (λ x. refl) t.back,
) (append-nil t.opened)

pub closed_in : Row → Option (AtRow)
closed_in (Closed x) = Some x
closed_in _ = None

pub closed_are : (t : Table) → picked closed_in (rows_of t) ≡ t.closed
unfolding closed_in
closed_are t = parts closed_in t ∙ rw (
  picked_no_memories closed_in (λ n x. refl) 0 t.mems,
  picked_none closed_in Live (λ x. refl) t.live,
  picked_none closed_in Try (λ x. refl) t.tries,
  picked_none closed_in At (λ x. refl) t.ats,
  picked_none closed_in Opened (λ x. refl) t.opened,
  picked_all closed_in Closed (λ x. refl) t.closed,
  picked_none closed_in Into (λ x. refl) t.into,
  picked_none closed_in Back (λ x. refl) t.back,
) (append-nil t.closed)

pub into_in : Row → Option (IntoRow)
into_in (Into x) = Some x
into_in _ = None

pub into_are : (t : Table) → picked into_in (rows_of t) ≡ t.into
unfolding into_in
into_are t = parts into_in t ∙ rw (
  picked_no_memories into_in (λ n x. refl) 0 t.mems,
  picked_none into_in Live (λ x. refl) t.live,
  picked_none into_in Try (λ x. refl) t.tries,
  picked_none into_in At (λ x. refl) t.ats,
  picked_none into_in Opened (λ x. refl) t.opened,
  picked_none into_in Closed (λ x. refl) t.closed,
  picked_all into_in Into (λ x. refl) t.into,
  picked_none into_in Back (λ x. refl) t.back,
) (append-nil t.into)

pub back_in : Row → Option (BackRow)
back_in (Back x) = Some x
back_in _ = None

pub back_are : (t : Table) → picked back_in (rows_of t) ≡ t.back
unfolding back_in
back_are t = parts back_in t ∙ rw (
  picked_no_memories back_in (λ n x. refl) 0 t.mems,
  picked_none back_in Live (λ x. refl) t.live,
  picked_none back_in Try (λ x. refl) t.tries,
  picked_none back_in At (λ x. refl) t.ats,
  picked_none back_in Opened (λ x. refl) t.opened,
  picked_none back_in Closed (λ x. refl) t.closed,
  picked_none back_in Into (λ x. refl) t.into,
  picked_all back_in Back (λ x. refl) t.back,
) refl

numbers_in : Row → Option ℕ
numbers_in (Memory n x) = Some n
numbers_in _ = None

-- numbers from k on, one for each memory
abbrev counted : ℕ → List (StateId × ℕ) → List ℕ
counted k [] = []
counted k (x ∷ xs) = k ∷ counted (k + 1) xs

numbers_counted : (k : ℕ) (xs : List (StateId × ℕ)) → picked numbers_in (memories k xs) ≡ counted k xs
unfolding numbers_in
numbers_counted k [] = refl
numbers_counted k (x ∷ xs) = ap (λ ns. k ∷ ns) (numbers_counted (k + 1) xs)

numbers_are : (t : Table) → picked numbers_in (rows_of t) ≡ counted 0 t.mems
unfolding numbers_in
numbers_are t = parts numbers_in t ∙ rw (
  numbers_counted 0 t.mems,
  picked_none numbers_in Live (λ x. refl) t.live,
  picked_none numbers_in Try (λ x. refl) t.tries,
  picked_none numbers_in At (λ x. refl) t.ats,
  picked_none numbers_in Opened (λ x. refl) t.opened,
  picked_none numbers_in Closed (λ x. refl) t.closed,
  picked_none numbers_in Into (λ x. refl) t.into,
  picked_none numbers_in Back (λ x. refl) t.back,
) (append-nil (counted 0 t.mems))

counted_next : (k : ℕ) (us ms : List (StateId × ℕ)) (n : ℕ) (more : List ℕ) → counted k us ≡ counted k ms ++ n ∷ more → n ≡ k + length ms
counted_next k [] [] n more e = absurd (omega (arith, ap length e))
counted_next k [] (y ∷ ms) n more e = absurd (omega (arith, ap length e))
counted_next k (x ∷ us) [] n more e = let same : k ≡ n = ap (λ (t : List ℕ). get_or t 0 0) e in omega (arith, same)
counted_next k (x ∷ us) (y ∷ ms) n more e = let rest = counted_next (k + 1) us ms n more (ap (drop 1) e) in omega (arith, rest)

-- ---- kinds rise

kind : Row → ℕ
kind (Memory n x) = 0
kind (Live x) = 1
kind (Try x) = 2
kind (At x) = 3
kind (Opened x) = 4
kind (Closed x) = 5
kind (Into x) = 6
kind (Back x) = 7

abbrev Rising : ℕ → List Row → Type 0
Rising low [] = Unit {0}
Rising low (r ∷ rs) = (low ≤ kind r) × Rising (kind r) rs

lower : (low high : ℕ) (rs : List Row) → low ≤ high → Rising high rs → Rising low rs
lower low high [] le h = tt
lower low high (r ∷ rs) le h = (omega (arith, le, h.0), h.1)

rising_kind : {A : Type 0} (row : A → Row) (low k : ℕ) → ((x : A) → kind (row x) ≡ k) → low ≤ k → (xs : List A) (rs : List Row) → Rising k rs → Rising low (map row xs ++ rs)
rising_kind row low k is le [] rs h = lower low k rs le h
rising_kind row low k is le (x ∷ xs) rs h =
    let here = is x in
    (omega (arith, le, here), subst (λ (j : ℕ). Rising j (map row xs ++ rs)) (sym here) (rising_kind row k k is (omega arith) xs rs h))

rising_memories : (n : ℕ) (xs : List (StateId × ℕ)) (rs : List Row) → Rising 0 rs → Rising 0 (memories n xs ++ rs)
unfolding kind
rising_memories n [] rs h = h
rising_memories n (x ∷ xs) rs h = (omega arith, rising_memories (n + 1) xs rs h)

rows_rise : (t : Table) → Rising 0 (rows_of t)
unfolding rows_of kind
rows_rise t =
    rising_memories 0 t.mems _ (rising_kind Live 0 1 (λ x. refl) (omega arith) t.live _ (rising_kind Try 1 2 (λ x. refl) (omega arith) t.tries _ (rising_kind At 2 3 (λ x. refl) (omega arith) t.ats _
    (rising_kind Opened 3 4 (λ x. refl) (omega arith) t.opened _ (rising_kind Closed 4 5 (λ x. refl) (omega arith) t.closed _ (rising_kind Into 5 6 (λ x. refl) (omega arith) t.into _
    (subst (Rising 6) (append-nil (map Back t.back)) (rising_kind Back 6 7 (λ x. refl) (omega arith) t.back [] tt))))))))

floor : (low : ℕ) (xs : List Row) (r : Row) (rest : List Row) → Rising low (xs ++ r ∷ rest) → low ≤ kind r
floor low [] r rest h = h.0
floor low (x ∷ xs) r rest h = let higher = floor (kind x) xs r rest h.1 in omega (arith, h.0, higher)

before_row : (low : ℕ) (xs : List Row) (r : Row) (rest : List Row) → Rising low (xs ++ r ∷ rest) → AllByRecursion (λ x. kind x ≤ kind r) xs
before_row low [] r rest h = tt
before_row low (x ∷ xs) r rest h = (floor (kind x) xs r rest h.1, before_row (kind x) xs r rest h.1)

none_picked : {A : Type 0} (p : Row → Option A) (k : ℕ) → ((x : Row) → kind x ≤ k → p x ≡ None) → (xs : List Row) → AllByRecursion (λ x. kind x ≤ k) xs → picked p xs ≡ []
none_picked p k h [] all = refl
none_picked p k h (x ∷ xs) all = rw (h x all.0) (none_picked p k h xs all.1)

live_absent : (k : ℕ) → k < 1 → (x : Row) → kind x ≤ k → live_in x ≡ None
unfolding kind live_in
live_absent k low (Live x) le = absurd (omega (arith, low, le))
live_absent k low _ le = refl

tries_absent : (k : ℕ) → k < 2 → (x : Row) → kind x ≤ k → tries_in x ≡ None
unfolding kind tries_in
tries_absent k low (Try x) le = absurd (omega (arith, low, le))
tries_absent k low _ le = refl

ats_absent : (k : ℕ) → k < 3 → (x : Row) → kind x ≤ k → ats_in x ≡ None
unfolding kind ats_in
ats_absent k low (At x) le = absurd (omega (arith, low, le))
ats_absent k low _ le = refl

opened_absent : (k : ℕ) → k < 4 → (x : Row) → kind x ≤ k → opened_in x ≡ None
unfolding kind opened_in
opened_absent k low (Opened x) le = absurd (omega (arith, low, le))
opened_absent k low _ le = refl

closed_absent : (k : ℕ) → k < 5 → (x : Row) → kind x ≤ k → closed_in x ≡ None
unfolding kind closed_in
closed_absent k low (Closed x) le = absurd (omega (arith, low, le))
closed_absent k low _ le = refl

into_absent : (k : ℕ) → k < 6 → (x : Row) → kind x ≤ k → into_in x ≡ None
unfolding kind into_in
into_absent k low (Into x) le = absurd (omega (arith, low, le))
into_absent k low _ le = refl

back_absent : (k : ℕ) → k < 7 → (x : Row) → kind x ≤ k → back_in x ≡ None
unfolding kind back_in
back_absent k low (Back x) le = absurd (omega (arith, low, le))
back_absent k low _ le = refl

-- ---- the row that stands next

nil_is : {A : Type 0} (xs : List A) → xs ≡ [] → is_nil xs ≡ true
nil_is xs e = rw e refl

pub is_nil_then : {A : Type 0} (xs : List A) → is_nil xs ≡ true → xs ≡ []
is_nil_then [] e = refl
is_nil_then (x ∷ xs) e = let no_more = eqb-true (length (x ∷ xs)) 0 e in absurd (omega (arith, no_more))

-- the kinds up to k alone
abbrev UpTo : ℕ → Table → Type 0
UpTo k t = AllByRecursion (λ x. kind x ≤ k) (rows_of t)

none_listed : {A : Type 0} (p : Row → Option A) (k : ℕ) → ((x : Row) → kind x ≤ k → p x ≡ None) → (t : Table) (xs : List A) → picked p (rows_of t) ≡ xs → UpTo k t → is_nil xs ≡ true
none_listed p k absent t xs are up = nil_is xs (sym are ∙ none_picked p k absent (rows_of t) up)

no_into : (k : ℕ) → k < 6 → (t : Table) → UpTo k t → none_from_into t ≡ true
no_into k low t up = both_true _ _
    (none_listed into_in k (into_absent k low) t t.into (into_are t) up)
    (none_listed back_in k (back_absent k (omega (arith, low))) t t.back (back_are t) up)

no_closed : (k : ℕ) → k < 5 → (t : Table) → UpTo k t → is_nil t.closed ≡ true
no_closed k low t up = none_listed closed_in k (closed_absent k low) t t.closed (closed_are t) up

no_opened : (k : ℕ) → k < 4 → (t : Table) → UpTo k t → none_from_opened t ≡ true
no_opened k low t up = both_true _ _
    (none_listed opened_in k (opened_absent k low) t t.opened (opened_are t) up)
    (both_true _ _ (no_closed k (omega (arith, low)) t up) (no_into k (omega (arith, low)) t up))

no_ats : (k : ℕ) → k < 3 → (t : Table) → UpTo k t → is_nil t.ats ≡ true
no_ats k low t up = none_listed ats_in k (ats_absent k low) t t.ats (ats_are t) up

no_tries : (k : ℕ) → k < 2 → (t : Table) → UpTo k t → none_from_tries t ≡ true
no_tries k low t up = both_true _ _
    (none_listed tries_in k (tries_absent k low) t t.tries (tries_are t) up)
    (both_true _ _ (no_ats k (omega (arith, low)) t up) (no_opened k (omega (arith, low)) t up))

listed : {A : Type 0} (p : Row → Option A) (t u : Table) (row : Row) (rest : List Row) (xs ys : List A) (x : A) → picked p (rows_of t) ≡ xs → picked p (rows_of u) ≡ ys → p row ≡ Some x
    → rows_of u ≡ rows_of t ++ row ∷ rest → ys ≡ xs ++ x ∷ picked p rest
listed p t u row rest xs ys x is other here e =
    sym other ∙ ap (picked p) e ∙ picked-append p (rows_of t) (row ∷ rest) ∙ ap (λ zs. zs ++ joined_to (p row) (picked p rest)) is ∙ ap (λ o. xs ++ joined_to o (picked p rest)) here

-- a row behind those of a table, in another whose list of its kind ascends, stands above the table's list
stands_above : {A : Type 0} (cmp : A → A → Ordering) (p : Row → Option A) (t u : Table) (row : Row) (rest : List Row) (xs ys : List A) (x : A) → picked p (rows_of t) ≡ xs → picked p (rows_of u) ≡ ys
    → p row ≡ Some x → rows_of u ≡ rows_of t ++ row ∷ rest → IsStrictlySortedBy cmp ys → is_above cmp xs x ≡ true
stands_above cmp p t u row rest xs ys x is other here e sorted =
    above_from_sorted cmp xs x (picked p rest) (subst (IsStrictlySortedBy cmp) (listed p t u row rest xs ys x is other here e) sorted)

up_to : (t u : Table) (row : Row) (rest : List Row) → rows_of u ≡ rows_of t ++ row ∷ rest → AllByRecursion (λ x. kind x ≤ kind row) (rows_of t)
up_to t u row rest e = before_row 0 (rows_of t) row rest (subst (Rising 0) e (rows_rise u))

-- the row behind those of a table, in another whose lists ascend, is the next
pub next_true : (t u : Table) (row : Row) (rest : List Row) → Ascends u → rows_of u ≡ rows_of t ++ row ∷ rest → is_next t row ≡ true
unfolding kind numbers_in mems_in live_in tries_in ats_in opened_in closed_in into_in back_in
next_true t u (Memory n x) rest a e =
    let up = up_to t u (Memory n x) rest e in
    let number = counted_next 0 u.mems t.mems n (picked numbers_in rest) (listed numbers_in t u (Memory n x) rest (counted 0 t.mems) (counted 0 u.mems) n (numbers_are t) (numbers_are u) refl e) in
    both_true _ _ (eq-eqb n (length t.mems) (omega (arith, number)))
    (both_true _ _ (stands_above mem_cmp mems_in t u (Memory n x) rest t.mems u.mems x (mems_are t) (mems_are u) refl e a.mems)
    (both_true _ _ (none_listed live_in 0 (live_absent 0 (omega arith)) t t.live (live_are t) up) (no_tries 0 (omega arith) t up)))
next_true t u (Live x) rest a e =
    let up = up_to t u (Live x) rest e in
    both_true _ _ (stands_above live_cmp live_in t u (Live x) rest t.live u.live x (live_are t) (live_are u) refl e a.live) (no_tries 1 (omega arith) t up)
next_true t u (Try x) rest a e =
    let up = up_to t u (Try x) rest e in
    both_true _ _ (stands_above try_cmp tries_in t u (Try x) rest t.tries u.tries x (tries_are t) (tries_are u) refl e a.tries)
    (both_true _ _ (no_ats 2 (omega arith) t up) (no_opened 2 (omega arith) t up))
next_true t u (At x) rest a e =
    let up = up_to t u (At x) rest e in
    both_true _ _ (stands_above at_cmp ats_in t u (At x) rest t.ats u.ats x (ats_are t) (ats_are u) refl e a.ats) (no_opened 3 (omega arith) t up)
next_true t u (Opened x) rest a e =
    let up = up_to t u (Opened x) rest e in
    both_true _ _ (stands_above open_cmp opened_in t u (Opened x) rest t.opened u.opened x (opened_are t) (opened_are u) refl e a.opened)
    (both_true _ _ (no_closed 4 (omega arith) t up) (no_into 4 (omega arith) t up))
next_true t u (Closed x) rest a e =
    let up = up_to t u (Closed x) rest e in
    both_true _ _ (stands_above at_cmp closed_in t u (Closed x) rest t.closed u.closed x (closed_are t) (closed_are u) refl e a.closed) (no_into 5 (omega arith) t up)
next_true t u (Into x) rest a e =
    let up = up_to t u (Into x) rest e in
    both_true _ _ (stands_above into_cmp into_in t u (Into x) rest t.into u.into x (into_are t) (into_are u) refl e a.into)
    (none_listed back_in 6 (back_absent 6 (omega arith)) t t.back (back_are t) up)
next_true t u (Back x) rest a e = stands_above back_cmp back_in t u (Back x) rest t.back u.back x (back_are t) (back_are u) refl e a.back

pub memories_more : (k : ℕ) (xs : List (StateId × ℕ)) (x : StateId × ℕ) → memories k (xs ++ x ∷ []) ≡ memories k xs ++ Memory (k + length xs) x ∷ []
memories_more k [] x = let e : k + 0 ≡ k = omega arith in rw e refl
memories_more k (y ∷ ys) x = let e : (k + 1) + length ys ≡ k + length (y ∷ ys) = omega arith in
    ap (λ rs. Memory k y ∷ rs) (memories_more (k + 1) ys x ∙ ap (λ (n : ℕ). memories (k + 1) ys ++ Memory n x ∷ []) e)

mems_more : (t : Table) (n : ℕ) (x : StateId × ℕ) → n ≡ length t.mems → t.live ≡ [] → t.tries ≡ [] → t.ats ≡ [] → t.opened ≡ [] → t.closed ≡ [] → t.into ≡ [] → t.back ≡ []
    → rows_of (with_row t (Memory n x)) ≡ rows_of t ++ Memory n x ∷ []
unfolding rows_of
mems_more t n x is e0 e1 e2 e3 e4 e5 e6 =
    let more : memories 0 (t.mems ++ x ∷ []) ≡ memories 0 t.mems ++ Memory n x ∷ [] = memories_more 0 t.mems x ∙ ap (λ (k : ℕ). memories 0 t.mems ++ Memory k x ∷ []) (omega (arith, is)) in
    simp (e0, e1, e2, e3, e4, e5, e6, more, append-nil)

live_more : (t : Table) (x : _) → t.tries ≡ [] → t.ats ≡ [] → t.opened ≡ [] → t.closed ≡ [] → t.into ≡ [] → t.back ≡ [] → rows_of (with_row t (Live x)) ≡ rows_of t ++ Live x ∷ []
unfolding rows_of
live_more t x e0 e1 e2 e3 e4 e5 = simp (e0, e1, e2, e3, e4, e5, map-append, append-nil, append_assoc)

tries_more : (t : Table) (x : _) → t.ats ≡ [] → t.opened ≡ [] → t.closed ≡ [] → t.into ≡ [] → t.back ≡ [] → rows_of (with_row t (Try x)) ≡ rows_of t ++ Try x ∷ []
unfolding rows_of
tries_more t x e0 e1 e2 e3 e4 = simp (e0, e1, e2, e3, e4, map-append, append-nil, append_assoc)

ats_more : (t : Table) (x : _) → t.opened ≡ [] → t.closed ≡ [] → t.into ≡ [] → t.back ≡ [] → rows_of (with_row t (At x)) ≡ rows_of t ++ At x ∷ []
unfolding rows_of
ats_more t x e0 e1 e2 e3 = simp (e0, e1, e2, e3, map-append, append-nil, append_assoc)

opened_more : (t : Table) (x : _) → t.closed ≡ [] → t.into ≡ [] → t.back ≡ [] → rows_of (with_row t (Opened x)) ≡ rows_of t ++ Opened x ∷ []
unfolding rows_of
opened_more t x e0 e1 e2 = simp (e0, e1, e2, map-append, append-nil, append_assoc)

closed_more : (t : Table) (x : _) → t.into ≡ [] → t.back ≡ [] → rows_of (with_row t (Closed x)) ≡ rows_of t ++ Closed x ∷ []
unfolding rows_of
closed_more t x e0 e1 = simp (e0, e1, map-append, append-nil, append_assoc)

into_more : (t : Table) (x : _) → t.back ≡ [] → rows_of (with_row t (Into x)) ≡ rows_of t ++ Into x ∷ []
unfolding rows_of
into_more t x e0 = simp (e0, map-append, append-nil, append_assoc)

back_more : (t : Table) (x : _) → rows_of (with_row t (Back x)) ≡ rows_of t ++ Back x ∷ []
unfolding rows_of
back_more t x = simp (map-append, append-nil, append_assoc)

late_into : (t : Table) → none_from_into t ≡ true → (t.into ≡ []) × (t.back ≡ [])
late_into t e = let p = both_pass (is_nil t.into) (is_nil t.back) e in (is_nil_then t.into p.0, is_nil_then t.back p.1)

record NoneFromOpened (t : Table) : Type 0 where
  opened : t.opened ≡ []
  closed : t.closed ≡ []
  into : t.into ≡ []
  back : t.back ≡ []

late_opened : (t : Table) → none_from_opened t ≡ true → NoneFromOpened t
late_opened t e =
    let p = both_pass (is_nil t.opened) (is_nil t.closed && none_from_into t) e in
    let q = both_pass (is_nil t.closed) (none_from_into t) p.1 in
    let l = late_into t q.1 in
    record { opened = is_nil_then t.opened p.0; closed = is_nil_then t.closed q.0; into = l.0; back = l.1 }

record NoneFromTries (t : Table) : Type 0 where
  tries : t.tries ≡ []
  ats : t.ats ≡ []
  opened : t.opened ≡ []
  closed : t.closed ≡ []
  into : t.into ≡ []
  back : t.back ≡ []

late_tries : (t : Table) → none_from_tries t ≡ true → NoneFromTries t
late_tries t e =
    let p = both_pass (is_nil t.tries) (is_nil t.ats && none_from_opened t) e in
    let q = both_pass (is_nil t.ats) (none_from_opened t) p.1 in
    let l = late_opened t q.1 in
    record { tries = is_nil_then t.tries p.0; ats = is_nil_then t.ats q.0; opened = l.opened; closed = l.closed; into = l.into; back = l.back }

-- the rows of the table with the next row are those of the table, and the row
pub rows_next : (t : Table) (row : Row) → is_next t row ≡ true → rows_of (with_row t row) ≡ rows_of t ++ row ∷ []
rows_next t (Memory n x) e =
    let p = both_pass (eqb n (length t.mems)) _ e in
    let q = both_pass _ _ p.1 in
    let r = both_pass _ _ q.1 in
    let l = late_tries t r.1 in
    mems_more t n x (eqb-true n (length t.mems) p.0) (is_nil_then t.live r.0) l.tries l.ats l.opened l.closed l.into l.back
rows_next t (Live x) e =
    let l = late_tries t (both_pass (is_above live_cmp t.live x) _ e).1 in
    live_more t x l.tries l.ats l.opened l.closed l.into l.back
rows_next t (Try x) e =
    let p = both_pass _ _ (both_pass (is_above try_cmp t.tries x) _ e).1 in
    let l = late_opened t p.1 in
    tries_more t x (is_nil_then t.ats p.0) l.opened l.closed l.into l.back
rows_next t (At x) e =
    let l = late_opened t (both_pass (is_above at_cmp t.ats x) _ e).1 in
    ats_more t x l.opened l.closed l.into l.back
rows_next t (Opened x) e =
    let p = both_pass _ _ (both_pass (is_above open_cmp t.opened x) _ e).1 in
    let l = late_into t p.1 in
    opened_more t x (is_nil_then t.closed p.0) l.0 l.1
rows_next t (Closed x) e =
    let l = late_into t (both_pass (is_above at_cmp t.closed x) _ e).1 in
    closed_more t x l.0 l.1
rows_next t (Into x) e = into_more t x (is_nil_then t.back (both_pass (is_above into_cmp t.into x) _ e).1)
rows_next t (Back x) e = back_more t x

ascends_of : (t : Table) → IsStrictlySortedBy mem_cmp t.mems → IsStrictlySortedBy live_cmp t.live → IsStrictlySortedBy try_cmp t.tries → IsStrictlySortedBy at_cmp t.ats
    → IsStrictlySortedBy open_cmp t.opened → IsStrictlySortedBy at_cmp t.closed → IsStrictlySortedBy into_cmp t.into → IsStrictlySortedBy back_cmp t.back → Ascends t
ascends_of t ms ls ts hs os cs is bs = record { mems = ms; live = ls; tries = ts; ats = hs; opened = os; closed = cs; into = is; back = bs }

-- and its lists ascend
pub ascends_next : (t : Table) (row : Row) → is_next t row ≡ true → Ascends t → Ascends (with_row t row)
ascends_next t (Memory n x) e a =
    ascends_of (with_row t (Memory n x)) (sorted_push mem_total t.mems x a.mems (both_pass _ _ (both_pass (eqb n (length t.mems)) _ e).1).0) a.live a.tries a.ats a.opened a.closed a.into a.back
ascends_next t (Live x) e a =
    ascends_of (with_row t (Live x)) a.mems (sorted_push live_total t.live x a.live (both_pass (is_above live_cmp t.live x) _ e).0) a.tries a.ats a.opened a.closed a.into a.back
ascends_next t (Try x) e a =
    ascends_of (with_row t (Try x)) a.mems a.live (sorted_push try_total t.tries x a.tries (both_pass (is_above try_cmp t.tries x) _ e).0) a.ats a.opened a.closed a.into a.back
ascends_next t (At x) e a = ascends_of (with_row t (At x)) a.mems a.live a.tries (sorted_push at_total t.ats x a.ats (both_pass (is_above at_cmp t.ats x) _ e).0) a.opened a.closed a.into a.back
ascends_next t (Opened x) e a =
    ascends_of (with_row t (Opened x)) a.mems a.live a.tries a.ats (sorted_push open_total t.opened x a.opened (both_pass (is_above open_cmp t.opened x) _ e).0) a.closed a.into a.back
ascends_next t (Closed x) e a =
    ascends_of (with_row t (Closed x)) a.mems a.live a.tries a.ats a.opened (sorted_push at_total t.closed x a.closed (both_pass (is_above at_cmp t.closed x) _ e).0) a.into a.back
ascends_next t (Into x) e a =
    ascends_of (with_row t (Into x)) a.mems a.live a.tries a.ats a.opened a.closed (sorted_push into_total t.into x a.into (both_pass (is_above into_cmp t.into x) _ e).0) a.back
ascends_next t (Back x) e a = ascends_of (with_row t (Back x)) a.mems a.live a.tries a.ats a.opened a.closed a.into (sorted_push back_total t.back x a.back e)
