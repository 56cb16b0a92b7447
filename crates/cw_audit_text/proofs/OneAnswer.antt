-- A text is that of one audit, or has one fault, and not both.
use Rattle.std.proofs.Common.{◌≡◌, ◌≢◌, ℕ, ◌+◌, ◌⊎◌, Bool, true, false, List, [], ◌∷◌, ◌++◌, length, map, Option, Some, None, refl, sym, ap, ap₂, ◌∙◌}
use Rattle.std.proofs.Common.{subst, arith, append-nil, append_assoc, length-append, inl, inr}
use Rattle.std.specs.Prelude.{Result, Ok, Err, IfOk, IfErr, option_and_then}
use Rattle.std.specs.List.{flat_map, All}
use Rattle.std.proofs.lemmas.Bool.{false≢true}
use Rattle.std.proofs.lemmas.Option.{none-some, same_Some}
use Rattle.std.proofs.lemmas.List.Elements.{All-nil, All-cons, All-head, All-tail, All-push}
use Rattle.cw_certs.specs.declared.moves.Move.{Move}
use Rattle.cw_audit_table.specs.declared.table.AuditTable.{AuditTable}
use Rattle.cw_audit_table.specs.Tables.{PlainRow, PlainGroup, Audit, audit_of}
use Rattle.cw_text.specs.Lines.{states_line, end_line}
use Rattle.cw_audit_text.specs.declared.text_line.TextLine.{TextLine}
use Rattle.cw_audit_text.specs.declared.text_line.TextLine.TheVariants.{Head, States, Meets, Violates, Go, In, At, End}
use Rattle.cw_audit_text.specs.declared.fault.AuditTextFault.{AuditTextFault}
use Rattle.cw_audit_text.specs.declared.fault.AuditTextFault.TheVariants.{Line, NoMemory}
use Rattle.cw_audit_text.specs.TextLines.{whole_line, FitsLine}
use Rattle.cw_audit_text.specs.AuditText.{head_line, verdict_line, row_line, group_lines, body_of, whole_lines, audit_text, FitsDistance, HasNoMoves, Fits, Spells}
use Rattle.cw_audit_text.specs.Faults.{StartsWith, MayFollow, IsAnswer, IsCause, IsFault, no_head, no_states, no_verdict, no_line, no_end, verdict_of}
use Rattle.cw_audit_text.proofs.Lines.{one_start}
use Rattle.cw_audit_text.proofs.Puts.{lines_more, lines_one, lines_two}
use Rattle.cw_audit_text.proofs.Behind.{is_end, is_head, is_states, is_verdict, no_lines}

-- ---- where a line may stand

data Stage : Type 0 where
  at_head : Stage
  at_states : Stage
  at_verdict : Stage
  in_moves : Stage
  in_groups : Stage
  in_rows : Stage
  behind : Stage

abbrev step : Stage → TextLine → Option Stage
step at_head Head = Some at_states
step at_states (States n) = Some at_verdict
step at_verdict Meets = Some in_groups
step at_verdict (Violates T) = Some in_moves
step in_moves (Go by) = Some in_moves
step in_moves (In f q r) = Some in_rows
step in_moves End = Some behind
step in_groups (In f q r) = Some in_rows
step in_groups End = Some behind
step in_rows (At p x a) = Some in_rows
step in_rows (In f q r) = Some in_rows
step in_rows End = Some behind
step _ _ = None

-- behind these lines
abbrev after : Option Stage → List TextLine → Option Stage
after stage [] = stage
after stage (l ∷ ls) = after (option_and_then (λ p. step p l) stage) ls

after-append : (stage : Option Stage) (xs ys : List TextLine) → after stage (xs ++ ys) ≡ after (after stage xs) ys
after-append stage [] ys = refl
after-append stage (x ∷ xs) ys = after-append (option_and_then (λ p. step p x) stage) xs ys

some_step : (stage : Option Stage) (ls : List TextLine) (last : Stage) → after stage ls ≡ Some last → (next : Stage) × (stage ≡ Some next)
some_step None [] last e = absurd (none-some last e)
some_step None (l ∷ ls) last e = some_step None ls last e
some_step (Some next) ls last e = (next, refl)

-- ---- how far two fronts of a text go

-- one goes further, with this line
record Further (shorter longer : List TextLine) (rest : List ℕ) : Type 0 where
  item : TextLine
  more : List TextLine
  both : longer ≡ shorter ++ (item ∷ more)
  tail : List ℕ
  stands : StartsWith rest item tail

first_stands : (l : TextLine) (ls : List TextLine) (rest : List ℕ) → All FitsLine (l ∷ ls) → StartsWith (whole_lines (l ∷ ls) ++ rest) l (whole_lines ls ++ rest)
first_stands l ls rest fits = record {
  fits = All-head FitsLine l ls fits;
  spelled = ap (λ t. t ++ rest) (lines_more l ls) ∙ append_assoc (whole_line l) (whole_lines ls) rest;
}

walk : (xs ys : List TextLine) (rest more : List ℕ) → All FitsLine xs → All FitsLine ys → whole_lines xs ++ rest ≡ whole_lines ys ++ more
    → ((xs ≡ ys) × (rest ≡ more)) ⊎ (Further xs ys rest ⊎ Further ys xs more)
walk [] [] rest more fits well e = inl (refl, no_lines rest ∙ e ∙ sym (no_lines more))
walk [] (y ∷ ys) rest more fits well e =
    inr (inl (record {
      item = y;
      more = ys;
      both = refl;
      tail = whole_lines ys ++ more;
      stands = subst (λ t. StartsWith t y (whole_lines ys ++ more)) (sym (no_lines rest ∙ e)) (first_stands y ys more well);
    }))
walk (x ∷ xs) [] rest more fits well e =
    inr (inr (record {
      item = x;
      more = xs;
      both = refl;
      tail = whole_lines xs ++ rest;
      stands = subst (λ t. StartsWith t x (whole_lines xs ++ rest)) (sym (no_lines more ∙ sym e)) (first_stands x xs rest fits);
    }))
walk (x ∷ xs) (y ∷ ys) rest more fits well e =
    let here = first_stands x xs rest fits in
    let there = subst (λ t. StartsWith t y (whole_lines ys ++ more)) (sym e) (first_stands y ys more well) in
    let same = one_start (whole_lines (x ∷ xs) ++ rest) (whole_lines xs ++ rest) (whole_lines ys ++ more) x y here there in
    elim (walk xs ys rest more (All-tail FitsLine x xs fits) (All-tail FitsLine y ys well) same.1) [
      | inl p ↦ inl (ap₂ (λ l ls. l ∷ ls) same.0 p.0, p.1)
      | inr f ↦ elim f [
        | inl g ↦ inr (inl (record { item = g.item; more = g.more; both = ap₂ (λ l ls. l ∷ ls) (sym same.0) g.both; tail = g.tail; stands = g.stands }))
        | inr g ↦ inr (inr (record { item = g.item; more = g.more; both = ap₂ (λ l ls. l ∷ ls) same.0 g.both; tail = g.tail; stands = g.stands }))
      ]
    ]

-- a front of a text behind which no line may follow that does
record Stops (text : List ℕ) (ls : List TextLine) (rest : List ℕ) (stage : Stage) : Type 0 where
  fits : All FitsLine ls
  spelled : text ≡ whole_lines ls ++ rest
  stands : after (Some at_head) ls ≡ Some stage
  stuck : (l : TextLine) (next : Stage) (more : List ℕ) → step stage l ≡ Some next → StartsWith rest l more → ⊥

no_further : (text : List ℕ) (xs ys : List TextLine) (rest more : List ℕ) (p q : Stage) → Stops text xs rest p → Stops text ys more q → Further xs ys rest → ⊥
no_further text xs ys rest more p q s t f =
    let e = sym (after-append (Some at_head) xs (f.item ∷ f.more)) ∙ ap (after (Some at_head)) (sym f.both) ∙ t.stands in
    let on = some_step (step p f.item) f.more q (ap (λ o. after o (f.item ∷ f.more)) (sym s.stands) ∙ e) in
    s.stuck f.item on.0 f.tail on.1 f.stands

one_stop : (text : List ℕ) (xs ys : List TextLine) (rest more : List ℕ) (p q : Stage) → Stops text xs rest p → Stops text ys more q → (xs ≡ ys) × (rest ≡ more) × (p ≡ q)
one_stop text xs ys rest more p q s t =
    elim (walk xs ys rest more s.fits t.fits (sym s.spelled ∙ t.spelled)) [
      | inl same ↦ (same.0, same.1, same_Some p q (sym s.stands ∙ ap (after (Some at_head)) same.0 ∙ t.stands))
      | inr f ↦ elim f [
        | inl g ↦ absurd (no_further text xs ys rest more p q s t g)
        | inr g ↦ absurd (no_further text ys xs more rest q p t s g)
      ]
    ]

-- ---- the lines of an audit

abbrev lines_of : Audit → List TextLine
lines_of t = Head ∷ States t.states ∷ verdict_of t.distance ∷ body_of t

abbrev stage_of : Option ℕ → List PlainGroup → Stage
stage_of None [] = in_groups
stage_of (Some T) [] = in_moves
stage_of D (g ∷ groups) = in_rows

after_rows : (rows : List PlainRow) (ls : List TextLine) → after (Some in_rows) (map row_line rows ++ ls) ≡ after (Some in_rows) ls
after_rows [] ls = refl
after_rows (r ∷ rows) ls = after_rows rows ls

after_groups : (groups : List PlainGroup) → after (Some in_rows) (flat_map group_lines groups) ≡ Some in_rows
after_groups [] = refl
after_groups (g ∷ groups) = after_rows g.rows (flat_map group_lines groups) ∙ after_groups groups

after_moves : (moves : List Move) (ls : List TextLine) → after (Some in_moves) (map Go moves ++ ls) ≡ after (Some in_moves) ls
after_moves [] ls = refl
after_moves (by ∷ moves) ls = after_moves moves ls

after_verdict : (D : Option ℕ) (moves : List Move) (groups : List PlainGroup) → HasNoMoves D moves
    → after (Some at_verdict) (verdict_of D ∷ (map Go moves ++ flat_map group_lines groups)) ≡ Some (stage_of D groups)
after_verdict None moves [] none = ap (λ ms. after (Some in_groups) (map Go ms ++ [])) none
after_verdict None moves (g ∷ groups) none =
    ap (λ ms. after (Some in_groups) (map Go ms ++ flat_map group_lines (g ∷ groups))) none ∙ after_rows g.rows (flat_map group_lines groups) ∙ after_groups groups
after_verdict (Some T) moves [] none = after_moves moves []
after_verdict (Some T) moves (g ∷ groups) none = after_moves moves (flat_map group_lines (g ∷ groups)) ∙ after_rows g.rows (flat_map group_lines groups) ∙ after_groups groups

-- behind them the end may follow, and what may follow an audit's lines
may_step : (D : Option ℕ) (groups : List PlainGroup) (l : TextLine) (next : Stage) → step (stage_of D groups) l ≡ Some next → (l ≡ End) ⊎ MayFollow D groups l
may_step None [] (In f q r) next e = inr tt
may_step None [] End next e = inl refl
may_step (Some T) [] (Go by) next e = inr tt
may_step (Some T) [] (In f q r) next e = inr tt
may_step (Some T) [] End next e = inl refl
may_step None (g ∷ groups) (At p x a) next e = inr tt
may_step None (g ∷ groups) (In f q r) next e = inr tt
may_step None (g ∷ groups) End next e = inl refl
may_step (Some T) (g ∷ groups) (At p x a) next e = inr tt
may_step (Some T) (g ∷ groups) (In f q r) next e = inr tt
may_step (Some T) (g ∷ groups) End next e = inl refl
may_step _ _ _ next e = absurd (none-some next e)

to_end : (D : Option ℕ) (groups : List PlainGroup) → step (stage_of D groups) End ≡ Some behind
to_end None [] = refl
to_end (Some T) [] = refl
to_end None (g ∷ groups) = refl
to_end (Some T) (g ∷ groups) = refl

nothing_behind : (l : TextLine) → step behind l ≡ None
nothing_behind Head = refl
nothing_behind (States n) = refl
nothing_behind Meets = refl
nothing_behind (Violates T) = refl
nothing_behind (Go by) = refl
nothing_behind (In f q r) = refl
nothing_behind (At p x a) = refl
nothing_behind End = refl

fits_verdict : (D : Option ℕ) → FitsDistance D → FitsLine (verdict_of D)
fits_verdict None fits = tt
fits_verdict (Some T) fits = fits

lines_fit : (t : Audit) → Fits t → All FitsLine (lines_of t)
lines_fit t fits =
    All-cons FitsLine Head (States t.states ∷ verdict_of t.distance ∷ body_of t) tt
    (All-cons FitsLine (States t.states) (verdict_of t.distance ∷ body_of t) fits.states
    (All-cons FitsLine (verdict_of t.distance) (body_of t) (fits_verdict t.distance fits.distance) fits.items))

lines_spelled : (t : Audit) (rest : List ℕ) → head_line ++ (states_line t.states ++ (verdict_line t.distance ++ (whole_lines (body_of t) ++ rest))) ≡ whole_lines (lines_of t) ++ rest
lines_spelled t rest =
    ap₂ (λ a b. a ++ b) is_head (ap₂ (λ a b. a ++ b) (is_states t.states) (ap₂ (λ a b. a ++ b) (is_verdict t.distance) refl)) ∙ sym whole
  where
    whole : whole_lines (lines_of t) ++ rest ≡ whole_line Head ++ (whole_line (States t.states) ++ (whole_line (verdict_of t.distance) ++ (whole_lines (body_of t) ++ rest)))
    whole =
        (first_spelled Head (States t.states ∷ verdict_of t.distance ∷ body_of t))
        ∙ ap (λ a. whole_line Head ++ a) (first_spelled (States t.states) (verdict_of t.distance ∷ body_of t)
        ∙ ap (λ a. whole_line (States t.states) ++ a) (first_spelled (verdict_of t.distance) (body_of t)))
      where
        first_spelled : (l : TextLine) (ls : List TextLine) → whole_lines (l ∷ ls) ++ rest ≡ whole_line l ++ (whole_lines ls ++ rest)
        first_spelled l ls = ap (λ a. a ++ rest) (lines_more l ls) ∙ append_assoc (whole_line l) (whole_lines ls) rest

ended_spelled : (t : Audit) (more : List ℕ) → whole_lines (lines_of t ++ End ∷ []) ++ more ≡ whole_lines (lines_of t) ++ (whole_line End ++ more)
ended_spelled t more = ap (λ a. a ++ more) (lines_two (lines_of t) (End ∷ []) ∙ ap (λ a. whole_lines (lines_of t) ++ a) (lines_one End))
    ∙ append_assoc (whole_lines (lines_of t)) (whole_line End) more

front_stands : (t : Audit) → Fits t → after (Some at_head) (lines_of t) ≡ Some (stage_of t.distance t.groups)
front_stands t fits = after_verdict t.distance t.moves t.groups fits.moves

ended_stands : (t : Audit) → Fits t → after (Some at_head) (lines_of t ++ End ∷ []) ≡ Some behind
ended_stands t fits = after-append (Some at_head) (lines_of t) (End ∷ []) ∙ ap (λ o. after o (End ∷ [])) (front_stands t fits) ∙ to_end t.distance t.groups

-- ---- an answer is where a text stops

abbrev is_over : Stage → Bool
is_over behind = true
is_over _ = false

not_over : (D : Option ℕ) (groups : List PlainGroup) → is_over (stage_of D groups) ≡ false
not_over None [] = refl
not_over (Some T) [] = refl
not_over None (g ∷ groups) = refl
not_over (Some T) (g ∷ groups) = refl

-- an audit where the text stops behind its end; else the line behind which it does
abbrev IsAnsweredAt : List TextLine → List ℕ → Stage → Result Audit AuditTextFault → Type 0
IsAnsweredAt ls rest stage (Ok t) = (is_over stage ≡ true) × (rest ≡ []) × (ls ≡ lines_of t ++ End ∷ [])
IsAnsweredAt ls rest stage (Err f) = (is_over stage ≡ true → rest ≢ []) × (f ≡ Line (length ls + 1))

record StopOf (text : List ℕ) (answer : Result Audit AuditTextFault) : Type 0 where
  ls : List TextLine
  rest : List ℕ
  stage : Stage
  stops : Stops text ls rest stage
  answered : IsAnsweredAt ls rest stage answer

only_head : (l : TextLine) (next : Stage) → step at_head l ≡ Some next → l ≡ Head
only_head Head next e = refl
only_head _ next e = absurd (none-some next e)

record IsStates (l : TextLine) : Type 0 where
  states : ℕ
  same : l ≡ States states

only_states : (l : TextLine) (next : Stage) → step at_states l ≡ Some next → IsStates l
only_states (States n) next e = record { states = n; same = refl }
only_states _ next e = absurd (none-some next e)

record IsVerdict (l : TextLine) : Type 0 where
  distance : Option ℕ
  same : l ≡ verdict_of distance

only_verdict : (l : TextLine) (next : Stage) → step at_verdict l ≡ Some next → IsVerdict l
only_verdict Meets next e = record { distance = None; same = refl }
only_verdict (Violates T) next e = record { distance = Some T; same = refl }
only_verdict _ next e = absurd (none-some next e)

one_line_text : (l : TextLine) (text rest : List ℕ) → StartsWith text l rest → text ≡ whole_lines (l ∷ []) ++ rest
one_line_text l text rest s = s.spelled ∙ ap (λ t. t ++ rest) (sym (lines_one l))

two_lines_text : (l m : TextLine) (text between rest : List ℕ) → StartsWith text l between → StartsWith between m rest → text ≡ whole_lines (l ∷ m ∷ []) ++ rest
two_lines_text l m text between rest s t =
    s.spelled ∙ ap (λ a. whole_line l ++ a) (one_line_text m between rest t) ∙ sym (append_assoc (whole_line l) (whole_lines (m ∷ [])) rest)
    ∙ ap (λ a. a ++ rest) (sym (lines_more l (m ∷ [])))

stop_of_fault : (text : List ℕ) (f : AuditTextFault) → IsFault text f → StopOf text (Err f)
stop_of_fault text f (no_head none) = record {
  ls = [];
  rest = text;
  stage = at_head;
  stops = record {
    fits = All-nil FitsLine;
    spelled = no_lines text;
    stands = refl;
    stuck = λ l next more e s. none more (subst (λ k. StartsWith text k more) (only_head l next e) s);
  };
  answered = ((λ over. absurd (false≢true over)), refl);
}
stop_of_fault text f (no_states rest s none) = record {
  ls = Head ∷ [];
  rest = rest;
  stage = at_states;
  stops = record {
    fits = All-cons FitsLine Head [] tt (All-nil FitsLine);
    spelled = one_line_text Head text rest s;
    stands = refl;
    stuck = λ l next more e h. let is = only_states l next e in none is.states more (subst (λ k. StartsWith rest k more) is.same h);
  };
  answered = ((λ over. absurd (false≢true over)), refl);
}
stop_of_fault text f (no_verdict states between rest s h none) = record {
  ls = Head ∷ States states ∷ [];
  rest = rest;
  stage = at_verdict;
  stops = record {
    fits = All-cons FitsLine Head (States states ∷ []) tt (All-cons FitsLine (States states) [] h.fits (All-nil FitsLine));
    spelled = two_lines_text Head (States states) text between rest s h;
    stands = refl;
    stuck = λ l next more e k. let is = only_verdict l next e in none is.distance more (subst (λ m. StartsWith rest m more) is.same k);
  };
  answered = ((λ over. absurd (false≢true over)), refl);
}
stop_of_fault text f (no_line t rest begins over none) = record {
  ls = lines_of t;
  rest = rest;
  stage = stage_of t.distance t.groups;
  stops = record {
    fits = lines_fit t begins.fits;
    spelled = begins.spelled ∙ lines_spelled t rest;
    stands = front_stands t begins.fits;
    stuck = λ l next more e s. elim (may_step t.distance t.groups l next e) [
      | inl is ↦ over more (subst (λ k. StartsWith rest k more) is s)
      | inr may ↦ none l more may s
    ];
  };
  answered = (
    (λ over. absurd (false≢true (sym (not_over t.distance t.groups) ∙ over))),
    ap Line (omega arith),
  );
}
stop_of_fault text f (no_end t rest more begins s some) = record {
  ls = lines_of t ++ End ∷ [];
  rest = more;
  stage = behind;
  stops = record {
    fits = All-push FitsLine (lines_of t) End (lines_fit t begins.fits) tt;
    spelled = begins.spelled ∙ lines_spelled t rest ∙ ap (λ a. whole_lines (lines_of t) ++ a) s.spelled ∙ sym (ended_spelled t more);
    stands = ended_stands t begins.fits;
    stuck = λ l next more e k. absurd (none-some next (sym (nothing_behind l) ∙ e));
  };
  answered = (
    (λ over. some),
    ap Line (let n = length-append (lines_of t) (End ∷ []) in omega (arith, n)),
  );
}

stop_of : (text : List ℕ) (answer : Result Audit AuditTextFault) → IsAnswer text answer → StopOf text answer
unfolding audit_text
stop_of text (Err f) h = stop_of_fault text f h
stop_of text (Ok t) h = record {
  ls = lines_of t ++ End ∷ [];
  rest = [];
  stage = behind;
  stops = record {
    fits = All-push FitsLine (lines_of t) End (lines_fit t h.fits) tt;
    spelled = h.spelled ∙ lines_spelled t end_line ∙ ap (λ a. whole_lines (lines_of t) ++ a) (is_end ∙ sym (append-nil (whole_line End))) ∙ sym (ended_spelled t []);
    stands = ended_stands t h.fits;
    stuck = λ l next more e k. absurd (none-some next (sym (nothing_behind l) ∙ e));
  };
  answered = (refl, refl, refl);
}

-- ---- the lines of an audit are its own

states_in : List TextLine → ℕ
states_in [] = 0
states_in (States n ∷ ls) = n
states_in (l ∷ ls) = states_in ls

distance_in : List TextLine → Option ℕ
distance_in [] = None
distance_in (Meets ∷ ls) = None
distance_in (Violates T ∷ ls) = Some T
distance_in (l ∷ ls) = distance_in ls

moves_in : List TextLine → List Move
moves_in [] = []
moves_in (Go by ∷ ls) = by ∷ moves_in ls
moves_in (l ∷ ls) = moves_in ls

-- the rows before any other line
rows_in : List TextLine → List PlainRow
rows_in (At p x a ∷ ls) = record { pos = p; state = x; inside = a } ∷ rows_in ls
rows_in _ = []

groups_in : List TextLine → List PlainGroup
groups_in [] = []
groups_in (In f q r ∷ ls) = record { function = f; entered = q; reach = r; rows = rows_in ls } ∷ groups_in ls
groups_in (l ∷ ls) = groups_in ls

moves_of_moves : (moves : List Move) (ls : List TextLine) → moves_in (map Go moves ++ ls) ≡ moves ++ moves_in ls
unfolding moves_in
moves_of_moves [] ls = refl
moves_of_moves (by ∷ moves) ls = ap (λ ms. by ∷ ms) (moves_of_moves moves ls)

moves_of_rows : (rows : List PlainRow) (ls : List TextLine) → moves_in (map row_line rows ++ ls) ≡ moves_in ls
unfolding moves_in
moves_of_rows [] ls = refl
moves_of_rows (r ∷ rows) ls = moves_of_rows rows ls

moves_of_groups : (groups : List PlainGroup) → moves_in (flat_map group_lines groups ++ End ∷ []) ≡ []
unfolding moves_in
moves_of_groups [] = refl
moves_of_groups (g ∷ groups) =
    ap (λ ls. moves_in (In g.function g.entered g.reach ∷ ls)) (append_assoc (map row_line g.rows) (flat_map group_lines groups) (End ∷ []))
    ∙ moves_of_rows g.rows (flat_map group_lines groups ++ End ∷ []) ∙ moves_of_groups groups

groups_of_moves : (moves : List Move) (ls : List TextLine) → groups_in (map Go moves ++ ls) ≡ groups_in ls
unfolding groups_in
groups_of_moves [] ls = refl
groups_of_moves (by ∷ moves) ls = groups_of_moves moves ls

groups_of_rows : (rows : List PlainRow) (ls : List TextLine) → groups_in (map row_line rows ++ ls) ≡ groups_in ls
unfolding groups_in
groups_of_rows [] ls = refl
groups_of_rows (r ∷ rows) ls = groups_of_rows rows ls

no_rows : (groups : List PlainGroup) → rows_in (flat_map group_lines groups ++ End ∷ []) ≡ []
unfolding rows_in
no_rows [] = refl
no_rows (g ∷ groups) = refl

rows_of_rows : (rows : List PlainRow) (ls : List TextLine) → rows_in ls ≡ [] → rows_in (map row_line rows ++ ls) ≡ rows
unfolding rows_in
rows_of_rows [] ls none = none
rows_of_rows (r ∷ rows) ls none = ap (λ rs. r ∷ rs) (rows_of_rows rows ls none)

groups_of_groups : (groups : List PlainGroup) → groups_in (flat_map group_lines groups ++ End ∷ []) ≡ groups
unfolding groups_in
groups_of_groups [] = refl
groups_of_groups (g ∷ groups) =
    ap (λ ls. groups_in (In g.function g.entered g.reach ∷ ls)) (append_assoc (map row_line g.rows) (flat_map group_lines groups) (End ∷ []))
    ∙ ap₂ (λ (rows : List PlainRow) (gs : List PlainGroup). record { function = g.function; entered = g.entered; reach = g.reach; rows = rows } ∷ gs)
    (rows_of_rows g.rows (flat_map group_lines groups ++ End ∷ []) (no_rows groups))
    (groups_of_rows g.rows (flat_map group_lines groups ++ End ∷ []) ∙ groups_of_groups groups)

audit_in : List TextLine → Audit
audit_in ls = record { states = states_in ls; distance = distance_in ls; moves = moves_in ls; groups = groups_in ls }

is_distance : (n : ℕ) (D : Option ℕ) (ls : List TextLine) → distance_in (Head ∷ States n ∷ verdict_of D ∷ ls) ≡ D
unfolding distance_in
is_distance n None ls = refl
is_distance n (Some T) ls = refl

is_moves : (n : ℕ) (D : Option ℕ) (ls : List TextLine) → moves_in (Head ∷ States n ∷ verdict_of D ∷ ls) ≡ moves_in ls
unfolding moves_in
is_moves n None ls = refl
is_moves n (Some T) ls = refl

is_groups : (n : ℕ) (D : Option ℕ) (ls : List TextLine) → groups_in (Head ∷ States n ∷ verdict_of D ∷ ls) ≡ groups_in ls
unfolding groups_in
is_groups n None ls = refl
is_groups n (Some T) ls = refl

is_states_in : (n : ℕ) (ls : List TextLine) → states_in (Head ∷ States n ∷ ls) ≡ n
unfolding states_in
is_states_in n ls = refl

record AreParts (t u : Audit) : Type 0 where
  states : t.states ≡ u.states
  distance : t.distance ≡ u.distance
  moves : t.moves ≡ u.moves
  groups : t.groups ≡ u.groups

same_parts : (t u : Audit) → AreParts t u → t ≡ u
same_parts t u e = rw (sym e.states, sym e.distance, sym e.moves, sym e.groups) refl

audit_back : (t : Audit) → audit_in (lines_of t ++ End ∷ []) ≡ t
unfolding audit_in
audit_back t =
    let tail = append_assoc (map Go t.moves) (flat_map group_lines t.groups) (End ∷ []) in
    same_parts (audit_in (lines_of t ++ End ∷ [])) t (record {
      states = is_states_in t.states (verdict_of t.distance ∷ (body_of t ++ End ∷ []));
      distance = is_distance t.states t.distance (body_of t ++ End ∷ []);
      moves =
          is_moves t.states t.distance (body_of t ++ End ∷ []) ∙ ap moves_in tail ∙ moves_of_moves t.moves (flat_map group_lines t.groups ++ End ∷ [])
          ∙ ap (λ ms. t.moves ++ ms) (moves_of_groups t.groups) ∙ append-nil t.moves;
      groups =
          is_groups t.states t.distance (body_of t ++ End ∷ []) ∙ ap groups_in tail ∙ groups_of_moves t.moves (flat_map group_lines t.groups ++ End ∷ []) ∙ groups_of_groups t.groups;
    })

-- ---- the law

one_answered : (xs ys : List TextLine) (rest more : List ℕ) (p q : Stage) (a b : Result Audit AuditTextFault) → xs ≡ ys → rest ≡ more → p ≡ q → IsAnsweredAt xs rest p a
    → IsAnsweredAt ys more q b → a ≡ b
one_answered xs ys rest more p q (Ok t) (Ok u) lines texts stages h k = ap Ok (sym (audit_back t) ∙ ap audit_in (sym h.2 ∙ lines ∙ k.2) ∙ audit_back u)
one_answered xs ys rest more p q (Ok t) (Err f) lines texts stages h k = absurd (k.0 (ap is_over (sym stages) ∙ h.0) (sym texts ∙ h.1))
one_answered xs ys rest more p q (Err f) (Ok u) lines texts stages h k = absurd (h.0 (ap is_over stages ∙ k.0) (texts ∙ k.1))
one_answered xs ys rest more p q (Err f) (Err g) lines texts stages h k = ap Err (h.1 ∙ ap (λ ls. Line (length ls + 1)) lines ∙ sym k.1)

pub one_answer : (text : List ℕ) (a b : Result Audit AuditTextFault) → IsAnswer text a → IsAnswer text b → a ≡ b
one_answer text a b is also =
    let s = stop_of text a is in
    let t = stop_of text b also in
    let same = one_stop text s.ls t.ls s.rest t.rest s.stage t.stage s.stops t.stops in
    one_answered s.ls t.ls s.rest t.rest s.stage t.stage a b same.0 same.1 same.2 s.answered t.answered

-- ---- what is printed is read again

printed : (text : List ℕ) (t : Audit) → text ≡ audit_text t → Fits t → Spells text t
printed text t e fits = record { fits = fits; spelled = e }

same_ok : (t u : Audit) → (let a : Result Audit AuditTextFault = Ok t in a) ≡ Ok u → t ≡ u
same_ok t u e = cc

pub again_same : (text : List ℕ) (t : Audit) (read : Result AuditTable AuditTextFault) → text ≡ audit_text t → Fits t
    → IfOk read (λ table. Spells text (audit_of table)) → IfOk read (λ table. audit_of table ≡ t)
again_same text t (Ok table) e fits h = same_ok (audit_of table) t (one_answer text (Ok (audit_of table)) (Ok t) h (printed text t e fits))
again_same text t (Err fault) e fits h = tt

pub again_memory : (text : List ℕ) (t : Audit) (read : Result AuditTable AuditTextFault) → text ≡ audit_text t → Fits t
    → IfErr read (λ fault. IsCause text fault) → IfErr read (λ fault. fault ≡ NoMemory)
again_memory text t (Ok table) e fits h = tt
again_memory text t (Err (Line n)) e fits h = absurd (false≢true (ap is_ok (one_answer text (Err (Line n)) (Ok t) h (printed text t e fits))))
  where
    is_ok : Result Audit AuditTextFault → Bool
    is_ok (Ok u) = true
    is_ok (Err f) = false
again_memory text t (Err NoMemory) e fits h = refl
