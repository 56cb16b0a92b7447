-- No two rows have one line, and no row has that of the end.
use Rattle.std.proofs.Common.{◌≡◌, ◌≢◌, ℕ, ◌^◌, ◌<◌, Bool, true, false, ltb, List, [], ◌∷◌, ◌++◌, map, length, get_or, refl, sym, ap, ◌∙◌, subst, arith}
use Rattle.std.specs.Prelude.{Option, None, Some, codes}
use Rattle.std.specs.Char.{is_ascii_digit}
use Rattle.std.specs.Fmt.{decimal}
use Rattle.std.specs.List.{AllByRecursion, list_all}
use Rattle.std.proofs.lemmas.Bool.{false≢true}
use Rattle.std.proofs.lemmas.Fmt.{decimal_injective}
use Rattle.cw_core.specs.declared.ids.StateId.{StateId}
use Rattle.cw_core.specs.declared.ids.PosId.{PosId}
use Rattle.cw_core.specs.declared.ids.MemId.{MemId}
use Rattle.cw_core.specs.declared.ids.SeamId.{SeamId}
use Rattle.cw_core.proofs.Spellings.{decimal_has_digits}
use Rattle.cw_certs.specs.declared.rows.TryRow.{TryRow}
use Rattle.cw_certs.specs.declared.rows.AtRow.{AtRow}
use Rattle.cw_certs.specs.declared.rows.OpenRow.{OpenRow}
use Rattle.cw_certs.specs.declared.rows.IntoRow.{IntoRow}
use Rattle.cw_certs.specs.declared.rows.BackRow.{BackRow}
use Rattle.cw_text.specs.Lines.{joined}
use Rattle.cw_text.proofs.Free.{free_from_test, no_line}
use Rattle.cw_text.proofs.OneSet.{one_set_text}
use Rattle.cw_text.specs.TableText.{answer, mode}
use Rattle.cw_table_text.specs.declared.row.Row.{Row}
use Rattle.cw_table_text.specs.declared.row.Row.TheVariants.{Memory, Live, Try, At, Opened, Closed, Into, Back}
use Rattle.cw_table_text.specs.Grammar.{IsAnswer, Fits}
use Rattle.cw_table_text.specs.Rows.{name_of, fields_of, row_text}
use Rattle.cw_table_text.specs.TablesText.{done}
use Rattle.cw_table_text.proofs.RowLines.{name_free, row_line, row_parts, row_fields_stay}

nth : ℕ → List (List ℕ) → List ℕ
nth k fields = get_or fields k []

number : (k a b : ℕ) (xs ys : List (List ℕ)) → a < 2 ^ 32 → b < 2 ^ 32 → xs ≡ ys → nth k xs ≡ decimal a → nth k ys ≡ decimal b → a ≡ b
number k a b xs ys small also e f g = decimal_injective a b (omega (arith, small)) (omega (arith, also)) (sym f ∙ ap (nth k) e ∙ g)

same_mode : (a b : Bool) → mode a ≡ mode b → a ≡ b
same_mode false false e = refl
same_mode true true e = refl
same_mode false true e = let z : 0 ≡ 1 = decimal_injective 0 1 (omega arith) (omega arith) e in absurd (omega (arith, z))
same_mode true false e = let z : 1 ≡ 0 = decimal_injective 1 0 (omega arith) (omega arith) e in absurd (omega (arith, z))

no_decimal : (n : ℕ) → n < 2 ^ 32 → codes "CW_NONE" ≢ decimal n
no_decimal n small e = false≢true (subst (λ (t : List ℕ). list_all is_ascii_digit t ≡ true) (sym e) (decimal_has_digits n (omega (arith, small))))

abbrev pub mem_of : ℕ → MemId
mem_of n = record { 0 = n }

abbrev pub seam_of : ℕ → SeamId
seam_of n = record { 0 = n }

abbrev pub state_of : ℕ → StateId
state_of n = record { 0 = n }

abbrev pub pos_of : ℕ → PosId
pos_of n = record { 0 = n }

same_answer : (a b : Option MemId) → IsAnswer a → IsAnswer b → answer a ≡ answer b → a ≡ b
same_answer None None p q e = refl
same_answer None (Some m) p q e = absurd (no_decimal m.0 q e)
same_answer (Some m) None p q e = absurd (no_decimal m.0 p (sym e))
same_answer (Some m) (Some k) p q e = let z : m.0 ≡ k.0 = decimal_injective m.0 k.0 (omega (arith, p)) (omega (arith, q)) e in ap (λ (n : ℕ). Some (mem_of n)) z

fourth : List ℕ → ℕ
fourth name = get_or name 3 0

abbrev pub at_row : ℕ → ℕ → ℕ → AtRow
at_row a b c = record { seam = seam_of a; mem = mem_of b; after = mem_of c }

abbrev pub open_row : ℕ → ℕ → ℕ → ℕ → OpenRow
open_row a b c d = record { seam = seam_of a; mem = mem_of b; opened = mem_of c; failed = mem_of d }

abbrev pub into_row : ℕ → Bool → ℕ → ℕ → IntoRow
into_row a b c d = record { seam = seam_of a; split = b; mem = mem_of c; callee = mem_of d }

abbrev pub back_row : ℕ → Bool → ℕ → ℕ → ℕ → BackRow
back_row a b c d e = record { seam = seam_of a; split = b; mem = mem_of c; exit = state_of d; after = mem_of e }

abbrev pub try_row : ℕ → ℕ → ℕ → Option MemId → Option MemId → TryRow
try_row a b c d e = record { seam = seam_of a; stage = b; mem = mem_of c; granted = d; refused = e }

-- rows of one name with the same fields are one row
same_row : (format : ℕ) (a b : Row) → Fits format a → Fits format b → name_of a ≡ name_of b → fields_of format a ≡ fields_of format b → a ≡ b
unfolding fourth nth
same_row format (Memory n m) (Memory k l) p q name e =
    let n_is = number 0 n k _ _ p.0 q.0 e refl refl in
    let state_is = number 1 m.0.0 l.0.0 _ _ (omega (arith, p.1)) (omega (arith, q.1)) e refl refl in
    let set_is = one_set_text format m.1 l.1 p.2 q.2 (ap (nth 2) e) in
    rw (n_is, set_is) (ap (λ (x : ℕ). Memory k (state_of x, l.1)) state_is)
same_row format (Memory n m) (Live s) p q name e = let l4 : 77 ≡ 76 = ap fourth name in absurd (omega (arith, l4))
same_row format (Memory n m) (Try s) p q name e = let l4 : 77 ≡ 84 = ap fourth name in absurd (omega (arith, l4))
same_row format (Memory n m) (At s) p q name e = let l4 : 77 ≡ 65 = ap fourth name in absurd (omega (arith, l4))
same_row format (Memory n m) (Opened s) p q name e = let l4 : 77 ≡ 79 = ap fourth name in absurd (omega (arith, l4))
same_row format (Memory n m) (Closed s) p q name e = let l4 : 77 ≡ 67 = ap fourth name in absurd (omega (arith, l4))
same_row format (Memory n m) (Into s) p q name e = let l4 : 77 ≡ 73 = ap fourth name in absurd (omega (arith, l4))
same_row format (Memory n m) (Back s) p q name e = let l4 : 77 ≡ 66 = ap fourth name in absurd (omega (arith, l4))
same_row format (Live r) (Memory k l) p q name e = let l4 : 76 ≡ 77 = ap fourth name in absurd (omega (arith, l4))
same_row format (Live r) (Live s) p q name e =
    let a = number 0 r.0.0 s.0.0 _ _ p.0 q.0 e refl refl in
    let b = number 1 r.1.0 s.1.0 _ _ p.1 q.1 e refl refl in
    ap (λ (x : ℕ). Live (pos_of x, r.1)) a ∙ ap (λ (x : ℕ). Live (s.0, mem_of x)) b
same_row format (Live r) (Try s) p q name e = let l4 : 76 ≡ 84 = ap fourth name in absurd (omega (arith, l4))
same_row format (Live r) (At s) p q name e = let l4 : 76 ≡ 65 = ap fourth name in absurd (omega (arith, l4))
same_row format (Live r) (Opened s) p q name e = let l4 : 76 ≡ 79 = ap fourth name in absurd (omega (arith, l4))
same_row format (Live r) (Closed s) p q name e = let l4 : 76 ≡ 67 = ap fourth name in absurd (omega (arith, l4))
same_row format (Live r) (Into s) p q name e = let l4 : 76 ≡ 73 = ap fourth name in absurd (omega (arith, l4))
same_row format (Live r) (Back s) p q name e = let l4 : 76 ≡ 66 = ap fourth name in absurd (omega (arith, l4))
same_row format (Try r) (Memory k l) p q name e = let l4 : 84 ≡ 77 = ap fourth name in absurd (omega (arith, l4))
same_row format (Try r) (Live s) p q name e = let l4 : 84 ≡ 76 = ap fourth name in absurd (omega (arith, l4))
same_row format (Try r) (Try s) p q name e =
    let e0 = number 0 r.seam.0 s.seam.0 _ _ p.0 q.0 e refl refl in
    let e1 = number 1 r.stage s.stage _ _ (omega (arith, p.1)) (omega (arith, q.1)) e refl refl in
    let e2 = number 2 r.mem.0 s.mem.0 _ _ p.2 q.2 e refl refl in
    let e3 = same_answer r.granted s.granted p.3 q.3 (ap (nth 3) e) in
    let e4 = same_answer r.refused s.refused p.4 q.4 (ap (nth 4) e) in
    ap (λ (x : ℕ). Try (try_row x r.stage r.mem.0 r.granted r.refused)) e0 ∙ ap (λ (x : ℕ). Try (try_row s.seam.0 x r.mem.0 r.granted r.refused)) e1
    ∙ ap (λ (x : ℕ). Try (try_row s.seam.0 s.stage x r.granted r.refused)) e2 ∙ ap (λ (x : Option MemId). Try (try_row s.seam.0 s.stage s.mem.0 x r.refused)) e3
    ∙ ap (λ (x : Option MemId). Try (try_row s.seam.0 s.stage s.mem.0 s.granted x)) e4
same_row format (Try r) (At s) p q name e = let l4 : 84 ≡ 65 = ap fourth name in absurd (omega (arith, l4))
same_row format (Try r) (Opened s) p q name e = let l4 : 84 ≡ 79 = ap fourth name in absurd (omega (arith, l4))
same_row format (Try r) (Closed s) p q name e = let l4 : 84 ≡ 67 = ap fourth name in absurd (omega (arith, l4))
same_row format (Try r) (Into s) p q name e = let l4 : 84 ≡ 73 = ap fourth name in absurd (omega (arith, l4))
same_row format (Try r) (Back s) p q name e = let l4 : 84 ≡ 66 = ap fourth name in absurd (omega (arith, l4))
same_row format (At r) (Memory k l) p q name e = let l4 : 65 ≡ 77 = ap fourth name in absurd (omega (arith, l4))
same_row format (At r) (Live s) p q name e = let l4 : 65 ≡ 76 = ap fourth name in absurd (omega (arith, l4))
same_row format (At r) (Try s) p q name e = let l4 : 65 ≡ 84 = ap fourth name in absurd (omega (arith, l4))
same_row format (At r) (At s) p q name e =
    let e0 = number 0 r.seam.0 s.seam.0 _ _ p.0 q.0 e refl refl in
    let e1 = number 1 r.mem.0 s.mem.0 _ _ p.1 q.1 e refl refl in
    let e2 = number 2 r.after.0 s.after.0 _ _ p.2 q.2 e refl refl in
    ap (λ (x : ℕ). At (at_row x r.mem.0 r.after.0)) e0 ∙ ap (λ (x : ℕ). At (at_row s.seam.0 x r.after.0)) e1 ∙ ap (λ (x : ℕ). At (at_row s.seam.0 s.mem.0 x)) e2
same_row format (At r) (Opened s) p q name e = let l4 : 65 ≡ 79 = ap fourth name in absurd (omega (arith, l4))
same_row format (At r) (Closed s) p q name e = let l4 : 65 ≡ 67 = ap fourth name in absurd (omega (arith, l4))
same_row format (At r) (Into s) p q name e = let l4 : 65 ≡ 73 = ap fourth name in absurd (omega (arith, l4))
same_row format (At r) (Back s) p q name e = let l4 : 65 ≡ 66 = ap fourth name in absurd (omega (arith, l4))
same_row format (Opened r) (Memory k l) p q name e = let l4 : 79 ≡ 77 = ap fourth name in absurd (omega (arith, l4))
same_row format (Opened r) (Live s) p q name e = let l4 : 79 ≡ 76 = ap fourth name in absurd (omega (arith, l4))
same_row format (Opened r) (Try s) p q name e = let l4 : 79 ≡ 84 = ap fourth name in absurd (omega (arith, l4))
same_row format (Opened r) (At s) p q name e = let l4 : 79 ≡ 65 = ap fourth name in absurd (omega (arith, l4))
same_row format (Opened r) (Opened s) p q name e =
    let e0 = number 0 r.seam.0 s.seam.0 _ _ p.0 q.0 e refl refl in
    let e1 = number 1 r.mem.0 s.mem.0 _ _ p.1 q.1 e refl refl in
    let e2 = number 2 r.opened.0 s.opened.0 _ _ p.2 q.2 e refl refl in
    let e3 = number 3 r.failed.0 s.failed.0 _ _ p.3 q.3 e refl refl in
    ap (λ (x : ℕ). Opened (open_row x r.mem.0 r.opened.0 r.failed.0)) e0 ∙ ap (λ (x : ℕ). Opened (open_row s.seam.0 x r.opened.0 r.failed.0)) e1
    ∙ ap (λ (x : ℕ). Opened (open_row s.seam.0 s.mem.0 x r.failed.0)) e2 ∙ ap (λ (x : ℕ). Opened (open_row s.seam.0 s.mem.0 s.opened.0 x)) e3
same_row format (Opened r) (Closed s) p q name e = let l4 : 79 ≡ 67 = ap fourth name in absurd (omega (arith, l4))
same_row format (Opened r) (Into s) p q name e = let l4 : 79 ≡ 73 = ap fourth name in absurd (omega (arith, l4))
same_row format (Opened r) (Back s) p q name e = let l4 : 79 ≡ 66 = ap fourth name in absurd (omega (arith, l4))
same_row format (Closed r) (Memory k l) p q name e = let l4 : 67 ≡ 77 = ap fourth name in absurd (omega (arith, l4))
same_row format (Closed r) (Live s) p q name e = let l4 : 67 ≡ 76 = ap fourth name in absurd (omega (arith, l4))
same_row format (Closed r) (Try s) p q name e = let l4 : 67 ≡ 84 = ap fourth name in absurd (omega (arith, l4))
same_row format (Closed r) (At s) p q name e = let l4 : 67 ≡ 65 = ap fourth name in absurd (omega (arith, l4))
same_row format (Closed r) (Opened s) p q name e = let l4 : 67 ≡ 79 = ap fourth name in absurd (omega (arith, l4))
same_row format (Closed r) (Closed s) p q name e =
    let e0 = number 0 r.seam.0 s.seam.0 _ _ p.0 q.0 e refl refl in
    let e1 = number 1 r.mem.0 s.mem.0 _ _ p.1 q.1 e refl refl in
    let e2 = number 2 r.after.0 s.after.0 _ _ p.2 q.2 e refl refl in
    ap (λ (x : ℕ). Closed (at_row x r.mem.0 r.after.0)) e0 ∙ ap (λ (x : ℕ). Closed (at_row s.seam.0 x r.after.0)) e1 ∙ ap (λ (x : ℕ). Closed (at_row s.seam.0 s.mem.0 x)) e2
same_row format (Closed r) (Into s) p q name e = let l4 : 67 ≡ 73 = ap fourth name in absurd (omega (arith, l4))
same_row format (Closed r) (Back s) p q name e = let l4 : 67 ≡ 66 = ap fourth name in absurd (omega (arith, l4))
same_row format (Into r) (Memory k l) p q name e = let l4 : 73 ≡ 77 = ap fourth name in absurd (omega (arith, l4))
same_row format (Into r) (Live s) p q name e = let l4 : 73 ≡ 76 = ap fourth name in absurd (omega (arith, l4))
same_row format (Into r) (Try s) p q name e = let l4 : 73 ≡ 84 = ap fourth name in absurd (omega (arith, l4))
same_row format (Into r) (At s) p q name e = let l4 : 73 ≡ 65 = ap fourth name in absurd (omega (arith, l4))
same_row format (Into r) (Opened s) p q name e = let l4 : 73 ≡ 79 = ap fourth name in absurd (omega (arith, l4))
same_row format (Into r) (Closed s) p q name e = let l4 : 73 ≡ 67 = ap fourth name in absurd (omega (arith, l4))
same_row format (Into r) (Into s) p q name e =
    let e0 = number 0 r.seam.0 s.seam.0 _ _ p.0 q.0 e refl refl in
    let e1 = same_mode r.split s.split (ap (nth 1) e) in
    let e2 = number 2 r.mem.0 s.mem.0 _ _ p.1 q.1 e refl refl in
    let e3 = number 3 r.callee.0 s.callee.0 _ _ p.2 q.2 e refl refl in
    ap (λ (x : ℕ). Into (into_row x r.split r.mem.0 r.callee.0)) e0 ∙ ap (λ (x : Bool). Into (into_row s.seam.0 x r.mem.0 r.callee.0)) e1
    ∙ ap (λ (x : ℕ). Into (into_row s.seam.0 s.split x r.callee.0)) e2 ∙ ap (λ (x : ℕ). Into (into_row s.seam.0 s.split s.mem.0 x)) e3
same_row format (Into r) (Back s) p q name e = let l4 : 73 ≡ 66 = ap fourth name in absurd (omega (arith, l4))
same_row format (Back r) (Memory k l) p q name e = let l4 : 66 ≡ 77 = ap fourth name in absurd (omega (arith, l4))
same_row format (Back r) (Live s) p q name e = let l4 : 66 ≡ 76 = ap fourth name in absurd (omega (arith, l4))
same_row format (Back r) (Try s) p q name e = let l4 : 66 ≡ 84 = ap fourth name in absurd (omega (arith, l4))
same_row format (Back r) (At s) p q name e = let l4 : 66 ≡ 65 = ap fourth name in absurd (omega (arith, l4))
same_row format (Back r) (Opened s) p q name e = let l4 : 66 ≡ 79 = ap fourth name in absurd (omega (arith, l4))
same_row format (Back r) (Closed s) p q name e = let l4 : 66 ≡ 67 = ap fourth name in absurd (omega (arith, l4))
same_row format (Back r) (Into s) p q name e = let l4 : 66 ≡ 73 = ap fourth name in absurd (omega (arith, l4))
same_row format (Back r) (Back s) p q name e =
    let e0 = number 0 r.seam.0 s.seam.0 _ _ p.0 q.0 e refl refl in
    let e1 = same_mode r.split s.split (ap (nth 1) e) in
    let e2 = number 2 r.mem.0 s.mem.0 _ _ p.1 q.1 e refl refl in
    let e3 = number 3 r.exit.0 s.exit.0 _ _ (omega (arith, p.2)) (omega (arith, q.2)) e refl refl in
    let e4 = number 4 r.after.0 s.after.0 _ _ p.3 q.3 e refl refl in
    ap (λ (x : ℕ). Back (back_row x r.split r.mem.0 r.exit.0 r.after.0)) e0 ∙ ap (λ (x : Bool). Back (back_row s.seam.0 x r.mem.0 r.exit.0 r.after.0)) e1
    ∙ ap (λ (x : ℕ). Back (back_row s.seam.0 s.split x r.exit.0 r.after.0)) e2 ∙ ap (λ (x : ℕ). Back (back_row s.seam.0 s.split s.mem.0 x r.after.0)) e3
    ∙ ap (λ (x : ℕ). Back (back_row s.seam.0 s.split s.mem.0 s.exit.0 x)) e4

pub one_row : (format : ℕ) (a b : Row) → Fits format a → Fits format b → row_text format a ≡ row_text format b → a ≡ b
one_row format a b p q e =
    let h = row_parts format b (row_text format a) (name_of a) (joined 44 (fields_of format a)) q (name_free 40 (omega arith) a) (row_line format a) (sym e) in
    same_row format a b p q h.0 (sym (row_fields_stay format a p) ∙ h.1)

-- the end has no parenthesis
pub not_done : (format : ℕ) (row : Row) → done ≢ row_text format row
not_done format row e = no_line 40 done (name_of row) (joined 44 (fields_of format row) ++ 41 ∷ []) (free_from_test (λ b. ltb 44 b) 40 done refl refl) (e ∙ row_line format row)

abbrev first : List (List ℕ) → List ℕ
first [] = []
first (x ∷ xs) = x

abbrev rest_of : List (List ℕ) → List (List ℕ)
rest_of [] = []
rest_of (x ∷ xs) = xs

-- rows and the end, told apart
pub rows_split : (format : ℕ) (rs us : List Row) (row : Row) (more : List (List ℕ)) → AllByRecursion (Fits format) rs → AllByRecursion (Fits format) us → Fits format row
    → map (row_text format) us ++ done ∷ [] ≡ map (row_text format) rs ++ row_text format row ∷ more → (rest : List Row) × (us ≡ rs ++ row ∷ rest)
rows_split format [] [] row more p q r e = absurd (not_done format row (ap first e))
rows_split format [] (u ∷ us) row more p q r e = (us, ap (λ x. x ∷ us) (one_row format u row q.0 r (ap first e)))
rows_split format (x ∷ rs) [] row more p q r e = absurd (not_done format x (ap first e))
rows_split format (x ∷ rs) (u ∷ us) row more p q r e =
    let h = rows_split format rs us row more p.1 q.1 r (ap rest_of e) in
    (h.0, ap (λ y. y ∷ us) (one_row format u x q.0 p.0 (ap first e)) ∙ ap (λ ys. x ∷ ys) h.1)

-- rows alone are no rows with an end
pub rows_have_no_end : (format : ℕ) (rs : List Row) (ls : List (List ℕ)) → map (row_text format) rs ≡ ls ++ done ∷ [] → ⊥
rows_have_no_end format [] [] e = absurd (omega (arith, ap length e))
rows_have_no_end format [] (l ∷ ls) e = absurd (omega (arith, ap length e))
rows_have_no_end format (x ∷ rs) [] e = not_done format x (sym (ap first e))
rows_have_no_end format (x ∷ rs) (l ∷ ls) e = rows_have_no_end format rs ls (ap rest_of e)

-- rows with an end are the same rows
pub rows_same : (format : ℕ) (rs us : List Row) → AllByRecursion (Fits format) rs → AllByRecursion (Fits format) us
    → map (row_text format) us ++ done ∷ [] ≡ map (row_text format) rs ++ done ∷ [] → us ≡ rs
rows_same format [] [] p q e = refl
rows_same format [] (u ∷ us) p q e = absurd (not_done format u (sym (ap first e)))
rows_same format (x ∷ rs) [] p q e = absurd (not_done format x (ap first e))
rows_same format (x ∷ rs) (u ∷ us) p q e =
    ap (λ y. y ∷ us) (one_row format u x q.0 p.0 (ap first e)) ∙ ap (λ ys. x ∷ ys) (rows_same format rs us p.1 q.1 (ap rest_of e))
