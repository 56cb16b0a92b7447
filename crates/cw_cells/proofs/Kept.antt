-- The cells that entries show.
use Rattle.std.proofs.Common.{◌≡◌, ℕ, zero, suc, ℤ, ◌+◌, ◌-◌, ◌<◌, ◌≤◌, Bool, if◌then◌else◌, Option, List, [], ◌∷◌, ◌++◌, length, map, take, drop, set, get_or, replicate, refl, sym, ap, ◌∙◌, arith, slice_get, None}
use Rattle.std.proofs.lemmas.List.{length-append, length-replicate, length-map, append_assoc, replicate-append-replicate, take-replicate, set-append_left, map-set, drop_more, set_at, length-take-le, take_more, drop-replicate}
use Rattle.std.specs.Prelude.{unwrap_or}
use Rattle.std.proofs.lemmas.Option.{unwrap_or-slice_get}
use Rattle.std.proofs.lemmas.Bool.{eq-eqb, ne_eqb}
use Rattle.std.proofs.lemmas.List.Elements.{All-head, All-tail}
use Rattle.cw_cells.specs.declared.cells.Entry.{Entry}
use Rattle.cw_cells.specs.Entries.{held, shown, AreBefore}

-- of what stands behind, only the first count
enough : {A : Type 0} (n a b : ℕ) (xs : List A) (r : A) → n ≤ a → n ≤ b → take n (xs ++ replicate a r) ≡ take n (xs ++ replicate b r)
enough n a b [] r la lb = take-replicate n a r la ∙ sym (take-replicate n b r lb)
enough zero a b (x ∷ xs) r la lb = refl
enough (suc n) a b (x ∷ xs) r la lb = ap (λ t. x ∷ t) (enough n a b xs r (omega arith) (omega arith))

take_of_set : {A : Type 0} (n : ℕ) (xs : List A) (i : ℕ) (a : A) → take n (set xs i a) ≡ set (take n xs) i a
take_of_set zero xs i a = refl
take_of_set (suc n) [] i a = refl
take_of_set (suc n) (x ∷ xs) zero a = refl
take_of_set (suc n) (x ∷ xs) (suc i) a = ap (λ t. x ∷ t) (take_of_set n xs i a)

module _ (turn size : ℕ) (rest : Option ℤ) where
  held_now : (cell : Option ℤ) → held turn rest (record { turn = turn; cell = cell }) ≡ cell
  held_now cell = ap (λ (b : Bool). if b then cell else rest) (eq-eqb turn turn refl)

  held_before : (entry : Entry) → entry.turn < turn → held turn rest entry ≡ rest
  held_before entry before = ap (λ (b : Bool). if b then entry.cell else rest) (ne_eqb entry.turn turn (λ same. omega arith))

  held_all : (entries : List Entry) (more : ℕ) →
      map (held turn rest) (entries ++ replicate more (record { turn = turn; cell = rest })) ≡ map (held turn rest) entries ++ replicate more rest
  held_all [] zero = refl
  held_all [] (suc more) = ap (λ c. c ∷ map (held turn rest) (replicate more (record { turn = turn; cell = rest }))) (held_now rest) ∙ ap (λ cs. rest ∷ cs) (held_all [] more)
  held_all (e ∷ entries) more = ap (λ cs. held turn rest e ∷ cs) (held_all entries more)

  -- entries of which nothing is known but what the rest holds
  pub grown : (entries : List Entry) (more : ℕ) → shown turn size rest (entries ++ replicate more (record { turn = turn; cell = rest })) ≡ shown turn size rest entries
  grown entries more =
      ap (λ cs. take size (cs ++ replicate size rest)) (held_all entries more)
      ∙ ap (take size) (append_assoc (map (held turn rest) entries) (replicate more rest) (replicate size rest)
      ∙ ap (λ cs. map (held turn rest) entries ++ cs) (replicate-append-replicate more size rest))
      ∙ enough size (more + size) size (map (held turn rest) entries) rest (omega arith) (omega arith)

  pub written : (entries : List Entry) (at : ℕ) (cell : Option ℤ) → at < length entries →
      shown turn size rest (set entries at (record { turn = turn; cell = cell })) ≡ set (shown turn size rest entries) at cell
  written entries at cell within =
      ap (λ cs. take size (cs ++ replicate size rest)) (map-set (held turn rest) entries at (record { turn = turn; cell = cell }) ∙ ap (set (map (held turn rest) entries) at) (held_now cell))
      ∙ ap (take size) (sym (set-append_left (map (held turn rest) entries) (replicate size rest) at cell (omega (arith, length-map entries (held turn rest)))))
      ∙ take_of_set size (map (held turn rest) entries ++ replicate size rest) at cell

  all_past : (entries : List Entry) → AreBefore turn entries → map (held turn rest) entries ≡ replicate (length entries) rest
  all_past [] before = refl
  all_past (e ∷ entries) before =
      ap (λ c. c ∷ map (held turn rest) entries) (held_before e (All-head (λ entry. entry.turn < turn) e entries before))
      ∙ ap (λ cs. rest ∷ cs) (all_past entries (All-tail (λ entry. entry.turn < turn) e entries before))

  pub renewed : (entries : List Entry) → AreBefore turn entries → shown turn size rest entries ≡ replicate size rest
  renewed entries before =
      ap (λ cs. take size (cs ++ replicate size rest)) (all_past entries before)
      ∙ ap (take size) (replicate-append-replicate (length entries) size rest)
      ∙ take-replicate size (length entries + size) rest (omega arith)

  -- a write behind the growth, and one past the last cell
  pub set_there : (entries : List Entry) (at : ℕ) (cell : Option ℤ) →
      shown turn size rest (set (entries ++ replicate (at + 1 - length entries) (record { turn = turn; cell = rest })) at (record { turn = turn; cell = cell }))
      ≡ set (shown turn size rest entries) at cell
  set_there entries at cell =
      let more = at + 1 - length entries in
      let past : Entry = record { turn = turn; cell = rest } in
      written (entries ++ replicate more past) at cell (omega (arith, length-append entries (replicate more past), length-replicate more past))
      ∙ ap (λ cs. set cs at cell) (grown entries more)

-- one cell more of the first is written
pub wrote_one : (first old : List (Option ℤ)) (i : ℕ) (d : Option ℤ) → i < length first → i < length old →
    set (take i first ++ drop i old) i (get_or first i d) ≡ take (i + 1) first ++ drop (i + 1) old
wrote_one first old i d lf lo =
    ap (λ cs. set (take i first ++ cs) i (get_or first i d)) (drop_more old i d lo)
    ∙ set_at (take i first) (get_or old i d) (drop (i + 1) old) (get_or first i d) i (length-take-le i first (omega arith))
    ∙ sym (append_assoc (take i first) (get_or first i d ∷ []) (drop (i + 1) old))
    ∙ ap (λ cs. cs ++ drop (i + 1) old) (sym (take_more first i d lf))

-- one more is read
pub took_one : (cells : List (Option ℤ)) (i : ℕ) (cell : Option ℤ) → i < length cells → cell ≡ unwrap_or (slice_get cells i) None → take i cells ++ cell ∷ [] ≡ take (i + 1) cells
took_one cells i cell within is = ap (λ c. take i cells ++ c ∷ []) (is ∙ unwrap_or-slice_get cells i None) ∙ sym (take_more cells i None within)

-- of cells that all hold the same, those behind the first that were written
pub behind : (first : List (Option ℤ)) (count whole size : ℕ) (cell : Option ℤ) → whole - length first ≡ size - count →
    first ++ drop (length first) (replicate whole cell) ≡ first ++ replicate (size - count) cell
behind first count whole size cell same = ap (λ cs. first ++ cs) (drop-replicate (length first) whole cell ∙ ap (λ k. replicate k cell) same)
