-- A text read line by line.
use Rattle.std.proofs.Common.{◌≡◌, ℕ, zero, suc, ◌+◌, ◌^◌, ◌<◌, ◌≤◌, List, [], ◌∷◌, ◌++◌, map, length, take, get_or, Option}
use Rattle.std.proofs.Common.{Some, None, refl, sym, ap, ap₂, ◌∙◌, subst, arith, append-nil, append_assoc, length-append}
use Rattle.std.specs.Prelude.{slice_get, codes}
use Rattle.std.specs.List.{flat_map, All}
use Rattle.std.proofs.lemmas.Option.{none-some, same_Some}
use Rattle.std.proofs.lemmas.List.{map-append, length-map, take_more}
use Rattle.std.proofs.lemmas.List.Concat.{flat_map-append}
use Rattle.std.proofs.lemmas.List.Elements.{All-nil, All-cons, All-push}
use Rattle.cw_core.specs.declared.ids.PosId.{PosId}
use Rattle.cw_core.specs.declared.ids.StateId.{StateId}
use Rattle.cw_certs.specs.declared.moves.Move.{Move}
use Rattle.cw_audit_table.specs.declared.table.Group.{Group}
use Rattle.cw_audit_table.specs.Tables.{AreFew, Audit, row_of, group_of}
use Rattle.cw_text.specs.Lines.{states_line, end_line}
use Rattle.cw_text_lines.proofs.Starts.{line_end}
use Rattle.cw_audit_text.specs.declared.text_line.TextLine.{TextLine}
use Rattle.cw_audit_text.specs.declared.text_line.TextLine.TheVariants.{Head, States, Go, In, At, End}
use Rattle.cw_audit_text.specs.declared.fault.AuditTextFault.TheVariants.{Line}
use Rattle.cw_audit_text.specs.TextLines.{line_text, whole_line, FitsLine}
use Rattle.cw_audit_text.specs.AuditText.{head_line, verdict_line, row_line, group_lines, body_of, whole_lines, audit_text, FitsDistance, HasNoMoves, Spells}
use Rattle.cw_audit_text.specs.Faults.{StartsWith, Begins, MayFollow, IsFault, no_line, no_end, IsCause, verdict_of}
use Rattle.cw_audit_text.specs.Reading.{NoGroup, NoRow, StopsAt, StopsMoves}
use Rattle.cw_audit_text.proofs.Puts.{lines_two, lines_one, lines_none, lines_more}

pub shorter : (text rest : List ℕ) (l : TextLine) → StartsWith text l rest → length rest < length text
shorter text rest l s =
    let e : length text ≡ length (line_text l) + length (10 ∷ rest) = ap length (s.spelled ∙ line_end (line_text l) rest) ∙ length-append (line_text l) (10 ∷ rest) in
    omega (arith, e)

-- one line more
pub line_more : (text rest more : List ℕ) (ls : List TextLine) (l : TextLine) → text ≡ whole_lines ls ++ rest → StartsWith rest l more → text ≡ whole_lines (ls ++ l ∷ []) ++ more
line_more text rest more ls l e s =
    e ∙ ap (λ t. whole_lines ls ++ t) (s.spelled ∙ ap (λ t. t ++ more) (sym (lines_one l)))
    ∙ sym (append_assoc (whole_lines ls) (whole_lines (l ∷ [])) more) ∙ ap (λ t. t ++ more) (sym (lines_two ls (l ∷ [])))

-- lines more
pub lines_behind : (text rest more : List ℕ) (ls ms : List TextLine) → text ≡ whole_lines ls ++ rest → rest ≡ whole_lines ms ++ more → text ≡ whole_lines (ls ++ ms) ++ more
lines_behind text rest more ls ms e s =
    e ∙ ap (λ t. whole_lines ls ++ t) s ∙ sym (append_assoc (whole_lines ls) (whole_lines ms) more) ∙ ap (λ t. t ++ more) (sym (lines_two ls ms))

pub no_lines : (text : List ℕ) → text ≡ whole_lines [] ++ text
no_lines text = ap (λ t. t ++ text) (sym lines_none)

all_two : (xs ys : List TextLine) → All FitsLine xs → All FitsLine ys → All FitsLine (xs ++ ys)
all_two xs [] h k = subst (All FitsLine) (sym (append-nil xs)) h
all_two xs (y ∷ ys) h k =
    let first : All FitsLine (y ∷ []) = All-cons FitsLine y [] (k 0 y (omega arith)) (All-nil FitsLine) in
    let both = all_two (xs ++ y ∷ []) ys (All-push FitsLine xs y h (k 0 y (omega arith))) (λ i d lt. k (suc i) d (omega (arith, lt))) in
    subst (All FitsLine) (append_assoc xs (y ∷ []) ys) both

-- ---- moves, rows, groups

pub moves_more : (text rest more : List ℕ) (old new : List Move) (by : Move) → new ≡ old ++ by ∷ [] → text ≡ whole_lines (map Go old) ++ rest → StartsWith rest (Go by) more
    → text ≡ whole_lines (map Go new) ++ more
moves_more text rest more old new by e h s =
    line_more text rest more (map Go old) (Go by) h s ∙ ap (λ ls. whole_lines ls ++ more) (sym (ap (map Go) e ∙ map-append Go old (by ∷ [])))

pub moves_fit : (old new : List Move) (by : Move) → new ≡ old ++ by ∷ [] → All FitsLine (map Go old) → FitsLine (Go by) → All FitsLine (map Go new)
moves_fit old new by e h k = subst (All FitsLine) (sym (ap (map Go) e ∙ map-append Go old (by ∷ []))) (All-push FitsLine (map Go old) (Go by) h k)

abbrev RowData : Type 0
RowData = PosId × StateId × ℕ

abbrev pub rows_lines : List RowData → List TextLine
rows_lines rows = map row_line (map row_of rows)

rows_push : (old new : List RowData) (r : RowData) → new ≡ old ++ r ∷ [] → rows_lines new ≡ rows_lines old ++ row_line (row_of r) ∷ []
rows_push old new r e = ap rows_lines e ∙ ap (map row_line) (map-append row_of old (r ∷ [])) ∙ map-append row_line (map row_of old) (row_of r ∷ [])

pub rows_more : (text rest more : List ℕ) (old new : List RowData) (r : RowData) → new ≡ old ++ r ∷ [] → text ≡ whole_lines (rows_lines old) ++ rest
    → StartsWith rest (row_line (row_of r)) more
    → text ≡ whole_lines (rows_lines new) ++ more
rows_more text rest more old new r e h s = line_more text rest more (rows_lines old) (row_line (row_of r)) h s ∙ ap (λ ls. whole_lines ls ++ more) (sym (rows_push old new r e))

pub rows_fit : (old new : List RowData) (r : RowData) → new ≡ old ++ r ∷ [] → All FitsLine (rows_lines old) → FitsLine (row_line (row_of r)) → All FitsLine (rows_lines new)
rows_fit old new r e h k = subst (All FitsLine) (sym (rows_push old new r e)) (All-push FitsLine (rows_lines old) (row_line (row_of r)) h k)

abbrev pub groups_lines : List Group → List TextLine
groups_lines groups = flat_map group_lines (map group_of groups)

groups_push : (old new : List Group) (g : Group) → new ≡ old ++ g ∷ [] → groups_lines new ≡ groups_lines old ++ group_lines (group_of g)
groups_push old new g e =
    ap groups_lines e ∙ ap (flat_map group_lines) (map-append group_of old (g ∷ [])) ∙ flat_map-append group_lines (map group_of old) (group_of g ∷ [])
    ∙ ap (λ t. groups_lines old ++ t) (append-nil (group_lines (group_of g)))

pub groups_more : (text rest after more : List ℕ) (old new : List Group) (g : Group) → new ≡ old ++ g ∷ [] → text ≡ whole_lines (groups_lines old) ++ rest
    → StartsWith rest (In g.function g.entered.0 g.reach) after → after ≡ whole_lines (rows_lines g.rows.items) ++ more → text ≡ whole_lines (groups_lines new) ++ more
groups_more text rest after more old new g e h s k =
    let first = line_more text rest after (groups_lines old) (In g.function g.entered.0 g.reach) h s in
    lines_behind text after more (groups_lines old ++ In g.function g.entered.0 g.reach ∷ []) (rows_lines g.rows.items) first k
    ∙ ap (λ ls. whole_lines ls ++ more) (append_assoc (groups_lines old) (In g.function g.entered.0 g.reach ∷ []) (rows_lines g.rows.items) ∙ sym (groups_push old new g e))

pub groups_fit : (old new : List Group) (g : Group) → new ≡ old ++ g ∷ [] → All FitsLine (groups_lines old) → FitsLine (In g.function g.entered.0 g.reach)
    → All FitsLine (rows_lines g.rows.items)
    → All FitsLine (groups_lines new)
groups_fit old new g e h k rows =
    subst (All FitsLine) (sym (groups_push old new g e))
    (all_two (groups_lines old) (group_lines (group_of g)) h (All-cons FitsLine (In g.function g.entered.0 g.reach) (rows_lines g.rows.items) k rows))

pub groups_stop : (text rest : List ℕ) (old new : List Group) (g : Group) → new ≡ old ++ g ∷ [] → NoRow rest → StopsAt new text rest
groups_stop text rest old new g e h = subst (λ gs. StopsAt gs text rest) (sym e) (by old)
  where
    by : (old : List Group) → StopsAt (old ++ g ∷ []) text rest
    by [] = h
    by (x ∷ old) = h

-- ---- how many lines

abbrev Lines : List Group → ℕ
Lines groups = length (groups_lines groups)

lines_push : (old : List Group) (g : Group) → Lines (old ++ g ∷ []) ≡ Lines old + (1 + length g.rows.items)
lines_push old g =
    let a = ap length (groups_push old (old ++ g ∷ []) g refl) ∙ length-append (groups_lines old) (group_lines (group_of g)) in
    let b = length-map (map row_of g.rows.items) row_line in
    let d = length-map g.rows.items row_of in
    omega (arith, a, b, d)

pub count_more : (groups : List Group) (i lines : ℕ) (g : Group) → i < length groups → g ≡ get_or groups i g → lines ≡ Lines (take i groups)
    → lines + (1 + length g.rows.items) ≡ Lines (take (i + 1) groups)
count_more groups i lines g lt is e =
    let a = ap Lines (take_more groups i g lt ∙ ap (λ x. take i groups ++ x ∷ []) (sym is)) in
    let b = lines_push (take i groups) g in
    omega (arith, a, b, e)

lines_front : (groups : List Group) (i : ℕ) → Lines (take i groups) ≤ Lines groups
lines_front [] zero = omega arith
lines_front [] (suc i) = omega arith
lines_front (g ∷ groups) zero = omega arith
lines_front (g ∷ groups) (suc i) =
    let a = length-append (group_lines (group_of g)) (groups_lines (take i groups)) in
    let b = length-append (group_lines (group_of g)) (groups_lines groups) in
    let d = lines_front groups i in
    omega (arith, a, b, d)

pub count_small : (groups : List Group) (i lines : ℕ) (g : Group) → i < length groups → g ≡ get_or groups i g → lines ≡ Lines (take i groups) → Lines groups < 2 ^ 32
    → lines + (1 + length g.rows.items) < 2 ^ 32
count_small groups i lines g lt is e few = let a = count_more groups i lines g lt is e in let b = lines_front groups (i + 1) in omega (arith, a, b, few)

lines_many : (groups : List Group) → length groups ≤ Lines groups
lines_many [] = omega arith
lines_many (g ∷ groups) = let a = length-append (group_lines (group_of g)) (groups_lines groups) in let b = lines_many groups in omega (arith, a, b)

lines_of_group : (groups : List Group) (i : ℕ) (g : Group) → slice_get groups i ≡ Some g → length g.rows.items ≤ Lines groups
lines_of_group [] i g e = absurd (none-some g e)
lines_of_group (x ∷ groups) zero g e =
    let a = length-append (group_lines (group_of x)) (groups_lines groups) in
    let b = length-map (map row_of x.rows.items) row_line in
    let d = length-map x.rows.items row_of in
    let same = ap (λ (y : Group). length y.rows.items) (same_Some x g e) in
    omega (arith, a, b, d, same)
lines_of_group (x ∷ groups) (suc i) g e = let a = length-append (group_lines (group_of x)) (groups_lines groups) in let b = lines_of_group groups i g e in omega (arith, a, b)

pub are_few : (groups : List Group) → Lines groups < 2 ^ 32 → AreFew groups
are_few groups few = record {
  groups_few = let a = lines_many groups in omega (arith, a, few);
  rows_few = λ i g e. let a = lines_of_group groups i g e in omega (arith, a, few);
}

-- as many bytes as lines at least
pub lines_short : (ls : List TextLine) (rest : List ℕ) → length ls + length rest ≤ length (whole_lines ls ++ rest)
lines_short [] rest = let a = ap (λ t. length (t ++ rest)) lines_none in omega (arith, a)
lines_short (l ∷ ls) rest =
    let a = ap (λ t. length (t ++ rest)) (lines_more l ls) in
    let b = length-append (whole_line l ++ whole_lines ls) rest in
    let c = length-append (whole_line l) (whole_lines ls) in
    let d = length-append (line_text l) (codes "\n") in
    let e = lines_short ls rest in
    let f = length-append (whole_lines ls) rest in
    omega (arith, a, b, c, d, e, f)

-- ---- the whole text

pub is_head : head_line ≡ whole_line Head
unfolding head_line line_text
is_head = refl

pub is_states : (n : ℕ) → states_line n ≡ whole_line (States n)
unfolding states_line line_text
is_states n = refl

pub is_verdict : (D : Option ℕ) → verdict_line D ≡ whole_line (verdict_of D)
unfolding verdict_line line_text
is_verdict None = refl
is_verdict (Some T) = refl

pub is_end : end_line ≡ whole_line End
unfolding end_line line_text
is_end = refl

module _ (text first second third fourth last : List ℕ) (states : ℕ) (D : Option ℕ) (moves : List Move) (groups : List Group) (head : StartsWith text Head first)
    (stated : StartsWith first (States states) second) (verdict : StartsWith second (verdict_of D) third) (moved : third ≡ whole_lines (map Go moves) ++ fourth) (fit : All FitsLine (map Go moves))
    (none : HasNoMoves D moves) (grouped : fourth ≡ whole_lines (groups_lines groups) ++ last) (fits : All FitsLine (groups_lines groups)) where
  abbrev the_audit : Audit
  the_audit = record { states = states; distance = D; moves = moves; groups = map group_of groups }

  fits_distance : (D : Option ℕ) → FitsLine (verdict_of D) → FitsDistance D
  fits_distance None h = tt
  fits_distance (Some T) h = h

  pub begun : Begins text the_audit last
  begun = record {
    fits = record { states = stated.fits; distance = fits_distance D verdict.fits; moves = none; items = all_two (map Go moves) (groups_lines groups) fit fits };
    spelled =
        head.spelled
        ∙ ap₂ (λ a b. a ++ b) (sym is_head) (stated.spelled
        ∙ ap₂ (λ a b. a ++ b) (sym (is_states states)) (verdict.spelled
        ∙ ap₂ (λ a b. a ++ b) (sym (is_verdict D)) (lines_behind third fourth last (map Go moves) (groups_lines groups) moved grouped)));
  }

  -- how many lines it has, as numbers below 2 ^ 32
  pub many_lines : length (body_of the_audit) ≡ length moves + Lines groups
  many_lines = length-append (map Go moves) (groups_lines groups) ∙ ap (λ n. n + Lines groups) (length-map moves Go)

  pub few_lines : length moves + Lines groups + 5 ≤ length text + 2
  few_lines =
      let a = lines_short (map Go moves) fourth in
      let b = lines_short (groups_lines groups) last in
      let m = length-map moves Go in
      let ea = ap length moved in
      let eb = ap length grouped in
      let x = shorter text first Head head in
      let y = shorter first second (States states) stated in
      let z = shorter second third (verdict_of D) verdict in
      omega (arith, a, b, m, ea, eb, x, y, z)

  pub spelled_end : (rest : List ℕ) → StartsWith last End rest → rest ≡ [] → Spells text the_audit
  unfolding audit_text
  spelled_end rest s e = record {
    fits = begun.fits;
    spelled = begun.spelled
        ∙ ap (λ t. head_line ++ (states_line states ++ (verdict_line D ++ (whole_lines (body_of the_audit) ++ t))))
        (s.spelled ∙ ap (λ t. whole_line End ++ t) e ∙ append-nil (whole_line End) ∙ sym is_end);
  }

  pub fault_end : (rest : List ℕ) → StartsWith last End rest → (rest ≡ [] → ⊥) → IsCause text (Line (length moves + Lines groups + 5))
  fault_end rest s some = subst (λ n. IsFault text (Line (n + 5))) many_lines (no_end the_audit last rest begun s some)

  -- no line that may follow does
  follows_none : StopsMoves D fourth → NoGroup last → StopsAt groups fourth last → (l : TextLine) (more : List ℕ) → MayFollow D (map group_of groups) l → StartsWith last l more → ⊥
  follows_none moves_stop no_group stops l more may s = cases D groups l moves_stop stops may s
    where
      cases : (D : Option ℕ) (groups : List Group) (l : TextLine) → StopsMoves D fourth → StopsAt groups fourth last → MayFollow D (map group_of groups) l → StartsWith last l more → ⊥
      cases (Some T) [] (Go by) ms st may s = ms by more (subst (λ t. StartsWith t (Go by) more) st s)
      cases D gs (In f q r) ms st may s = no_group f q r more s
      cases D (g ∷ gs) (At p x a) ms st may s = st p x a more s
      cases _ _ _ ms st may s = absurd may

  pub fault_line : StopsMoves D fourth → NoGroup last → StopsAt groups fourth last → ((more : List ℕ) → StartsWith last End more → ⊥)
      → IsCause text (Line (length moves + Lines groups + 4))
  fault_line moves_stop no_group stops over = subst (λ n. IsFault text (Line (n + 4))) many_lines (no_line the_audit last begun over (follows_none moves_stop no_group stops))
