-- Lines as they are put.
use Rattle.std.proofs.Common.{◌≡◌, ℕ, ◌+◌, ◌<◌, ◌≤◌, List, [], ◌∷◌, ◌++◌, length, map, take, get_or, Some, None, refl, sym, ap, ◌∙◌, append-nil, append_assoc}
use Rattle.std.specs.List.{flat_map}
use Rattle.std.specs.Prelude.{codes}
use Rattle.std.specs.Fmt.{decimal}
use Rattle.std.proofs.lemmas.List.{take_more, take_all}
use Rattle.std.proofs.lemmas.List.Concat.{flat_map-append}
use Rattle.cw_core.specs.declared.ids.PosId.{PosId}
use Rattle.cw_core.specs.declared.ids.StateId.{StateId}
use Rattle.cw_certs.specs.declared.moves.Move.{Move}
use Rattle.cw_text.specs.Moves.{move_name}
use Rattle.cw_text.specs.Lines.{states_line, end_line}
use Rattle.cw_audit_table.specs.declared.table.Group.{Group}
use Rattle.cw_audit_table.specs.Tables.{Audit, row_of, group_of}
use Rattle.cw_audit_text.specs.declared.text_line.TextLine.{TextLine}
use Rattle.cw_audit_text.specs.declared.text_line.TextLine.TheVariants.{Go, In, At}
use Rattle.cw_audit_text.specs.TextLines.{line_text, whole_line}
use Rattle.cw_audit_text.specs.AuditText.{head_line, verdict_line, row_line, group_lines, whole_lines, audit_text}

regrouped : (t0 field a b n : List ℕ) → ((((((t0 ++ (field ++ 32 ∷ [])) ++ a) ++ 32 ∷ []) ++ b) ++ 32 ∷ []) ++ n) ++ 10 ∷ []
    ≡ t0 ++ ((field ++ (32 ∷ (a ++ (32 ∷ (b ++ (32 ∷ n)))))) ++ 10 ∷ [])
regrouped t0 field a b n = simp append_assoc

pub in_put : (f q r : ℕ) (t0 t1 t2 t3 t4 t5 t6 t7 : List ℕ) → t1 ≡ t0 ++ codes "in " → t2 ≡ t1 ++ decimal f → t3 ≡ t2 ++ codes " " → t4 ≡ t3 ++ decimal q → t5 ≡ t4 ++ codes " "
    → t6 ≡ t5 ++ decimal r → t7 ≡ t6 ++ codes "\n" → t7 ≡ t0 ++ whole_line (In f q r)
unfolding line_text
in_put f q r t0 t1 t2 t3 t4 t5 t6 t7 h1 h2 h3 h4 h5 h6 h7 = rw (h7, h6, h5, h4, h3, h2, h1) (regrouped t0 (codes "in") (decimal f) (decimal q) (decimal r))

pub at_put : (p x a : ℕ) (t0 t1 t2 t3 t4 t5 t6 t7 : List ℕ) → t1 ≡ t0 ++ codes "at " → t2 ≡ t1 ++ decimal p → t3 ≡ t2 ++ codes " " → t4 ≡ t3 ++ decimal x → t5 ≡ t4 ++ codes " "
    → t6 ≡ t5 ++ decimal a → t7 ≡ t6 ++ codes "\n" → t7 ≡ t0 ++ whole_line (At p x a)
unfolding line_text
at_put p x a t0 t1 t2 t3 t4 t5 t6 t7 h1 h2 h3 h4 h5 h6 h7 = rw (h7, h6, h5, h4, h3, h2, h1) (regrouped t0 (codes "at") (decimal p) (decimal x) (decimal a))

pub move_put : (by : Move) (t0 t1 t2 : List ℕ) → t1 ≡ t0 ++ move_name by → t2 ≡ t1 ++ codes "\n" → t2 ≡ t0 ++ whole_line (Go by)
unfolding line_text
move_put by t0 t1 t2 h1 h2 = h2 ∙ ap (λ t. t ++ codes "\n") h1 ∙ append_assoc t0 (move_name by) (codes "\n")

pub meets_put : (t0 t1 : List ℕ) → t1 ≡ t0 ++ codes "meets\n" → t1 ≡ t0 ++ verdict_line None
unfolding verdict_line
meets_put t0 t1 h = h

verdict_grouped : (t0 field n : List ℕ) → ((t0 ++ (field ++ 32 ∷ [])) ++ n) ++ 10 ∷ [] ≡ t0 ++ ((field ++ (32 ∷ n)) ++ 10 ∷ [])
verdict_grouped t0 field n = simp append_assoc

pub violates_put : (T : ℕ) (t0 t1 t2 t3 : List ℕ) → t1 ≡ t0 ++ codes "violates " → t2 ≡ t1 ++ decimal T → t3 ≡ t2 ++ codes "\n" → t3 ≡ t0 ++ verdict_line (Some T)
unfolding verdict_line
violates_put T t0 t1 t2 t3 h1 h2 h3 = rw (h3, h2, h1) (verdict_grouped t0 (codes "violates") (decimal T))

-- ---- one after the other

pub lines_two : (xs ys : List TextLine) → whole_lines (xs ++ ys) ≡ whole_lines xs ++ whole_lines ys
unfolding whole_lines
lines_two xs ys = flat_map-append whole_line xs ys

pub lines_one : (i : TextLine) → whole_lines (i ∷ []) ≡ whole_line i
unfolding whole_lines
lines_one i = append-nil (whole_line i)

pub lines_none : whole_lines [] ≡ []
unfolding whole_lines
lines_none = refl

pub lines_more : (i : TextLine) (is : List TextLine) → whole_lines (i ∷ is) ≡ whole_line i ++ whole_lines is
unfolding whole_lines
lines_more i is = refl

-- the lines of what each of some values has
abbrev pub Lines : {A : Type 0} → (A → List TextLine) → List A → List ℕ
Lines items xs = whole_lines (flat_map items xs)

pub lines_begin : {A : Type 0} (items : A → List TextLine) (text : List ℕ) → text ≡ text ++ Lines items []
unfolding whole_lines
lines_begin items text = sym (append-nil text)

pub lines_step : {A : Type 0} (items : A → List TextLine) (old now new : List ℕ) (xs : List A) (i : ℕ) (d : A) → i < length xs → now ≡ old ++ Lines items (take i xs)
    → new ≡ now ++ whole_lines (items (get_or xs i d)) → new ≡ old ++ Lines items (take (i + 1) xs)
lines_step items old now new xs i d lt so_far put =
    put ∙ ap (λ t. t ++ whole_lines (items (get_or xs i d))) so_far ∙ append_assoc old (Lines items (take i xs)) (whole_lines (items (get_or xs i d)))
    ∙ ap (λ t. old ++ t) (sym (lines_two (flat_map items (take i xs)) (items (get_or xs i d)))
    ∙ ap whole_lines (ap (λ t. flat_map items (take i xs) ++ t) (sym (append-nil (items (get_or xs i d)))) ∙ sym (flat_map-append items (take i xs) (get_or xs i d ∷ []))
    ∙ ap (flat_map items) (sym (take_more xs i d lt))))

pub lines_end : {A : Type 0} (items : A → List TextLine) (old now : List ℕ) (xs : List A) (i : ℕ) → length xs ≤ i → now ≡ old ++ Lines items (take i xs) → now ≡ old ++ Lines items xs
lines_end items old now xs i le h = h ∙ ap (λ ys. old ++ Lines items ys) (take_all i xs le)

pub rows_mapped : (rows : List (PosId × StateId × ℕ)) → flat_map (λ (r : PosId × StateId × ℕ). row_line (row_of r) ∷ []) rows ≡ map row_line (map row_of rows)
rows_mapped [] = refl
rows_mapped (r ∷ rows) = ap (λ t. row_line (row_of r) ∷ t) (rows_mapped rows)

pub groups_mapped : (groups : List Group) → flat_map (λ (g : Group). group_lines (group_of g)) groups ≡ flat_map group_lines (map group_of groups)
groups_mapped [] = refl
groups_mapped (g ∷ groups) = ap (λ t. group_lines (group_of g) ++ t) (groups_mapped groups)

-- a group's line and its rows
pub group_put : (g : Group) (t0 t1 t2 : List ℕ) → t1 ≡ t0 ++ whole_line (In g.function g.entered.0 g.reach) → t2 ≡ t1 ++ whole_lines (map row_line (map row_of g.rows.items))
    → t2 ≡ t0 ++ whole_lines (group_lines (group_of g))
group_put g t0 t1 t2 h1 h2 =
    h2 ∙ ap (λ t. t ++ whole_lines (map row_line (map row_of g.rows.items))) h1
    ∙ append_assoc t0 (whole_line (In g.function g.entered.0 g.reach)) (whole_lines (map row_line (map row_of g.rows.items)))
    ∙ ap (λ t. t0 ++ t) (sym (lines_more (In g.function g.entered.0 g.reach) (map row_line (map row_of g.rows.items))))

-- the whole text
whole : (t0 head states n verdict moves groups end : List ℕ) → ((((((t0 ++ (head ++ (10 ∷ (states ++ 32 ∷ [])))) ++ n) ++ 10 ∷ []) ++ verdict) ++ moves) ++ groups) ++ end
    ≡ t0 ++ ((head ++ 10 ∷ []) ++ (((states ++ (32 ∷ n)) ++ 10 ∷ []) ++ (verdict ++ ((moves ++ groups) ++ end))))
whole t0 head states n verdict moves groups end = simp append_assoc

pub audit_put : (t : Audit) (t0 t1 t2 t3 t4 t5 t6 t7 : List ℕ) → t1 ≡ t0 ++ codes "capweave audit 1\nstates " → t2 ≡ t1 ++ decimal t.states → t3 ≡ t2 ++ codes "\n"
    → t4 ≡ t3 ++ verdict_line t.distance
    → t5 ≡ t4 ++ whole_lines (map Go t.moves) → t6 ≡ t5 ++ whole_lines (flat_map group_lines t.groups) → t7 ≡ t6 ++ codes "end\n" → t7 ≡ t0 ++ audit_text t
unfolding audit_text head_line states_line end_line
audit_put t t0 t1 t2 t3 t4 t5 t6 t7 h1 h2 h3 h4 h5 h6 h7 =
    rw (h7, h6, h5, h4, h3, h2, h1)
    (whole t0 (codes "capweave audit 1") (codes "states") (decimal t.states) (verdict_line t.distance) (whole_lines (map Go t.moves)) (whole_lines (flat_map group_lines t.groups)) (codes "end\n")
    ∙ ap (λ lines. t0 ++ ((codes "capweave audit 1" ++ codes "\n") ++ (((codes "states" ++ (32 ∷ decimal t.states)) ++ codes "\n") ++ (verdict_line t.distance ++ (lines ++ codes "end\n")))))
    (sym (lines_two (map Go t.moves) (flat_map group_lines t.groups))))
