-- Each text is that of an audit or has a fault: what decides it, line by line.
use Rattle.std.proofs.Common.{◌≡◌, ℕ, zero, suc, ◌+◌, ◌^◌, ◌<◌, ◌⊎◌, Bool, true, false, List, [], ◌∷◌, ◌++◌, length, map, Option, Some, None}
use Rattle.std.proofs.Common.{refl, sym, ap, ◌∙◌, subst, arith, append-nil, append_assoc, inl, inr}
use Rattle.std.specs.Prelude.{Result, Ok, Err, bytes_eq}
use Rattle.std.specs.List.{flat_map, All}
use Rattle.std.proofs.lemmas.Bool.{cases_eq, false≢true}
use Rattle.std.proofs.lemmas.Slice.Eq.{bytes_eq-Decides}
use Rattle.std.proofs.lemmas.List.{map-append}
use Rattle.std.proofs.lemmas.List.Concat.{flat_map-append}
use Rattle.std.proofs.lemmas.List.Elements.{All-nil, All-push}
use Rattle.cw_certs.specs.declared.moves.Move.{Move}
use Rattle.cw_certs.specs.declared.moves.Move.TheVariants.{Skip, Try, Grant, Refuse, On, Left, Right, Opened, Failed, Stop}
use Rattle.cw_text.specs.Lines.{states_line}
use Rattle.cw_text.specs.Moves.{IsEnvironments}
use Rattle.cw_text.proofs.Names.{move_of, named_back}
use Rattle.cw_audit_table.specs.Tables.{PlainRow, PlainGroup, Audit}
use Rattle.cw_text_lines.proofs.Starts.{first_line, line_end}
use Rattle.cw_audit_text.specs.declared.text_line.TextLine.{TextLine}
use Rattle.cw_audit_text.specs.declared.text_line.TextLine.TheVariants.{Head, States, Meets, Violates, Go, In, At, End}
use Rattle.cw_audit_text.specs.declared.fault.AuditTextFault.{AuditTextFault}
use Rattle.cw_audit_text.specs.declared.fault.AuditTextFault.TheVariants.{Line}
use Rattle.cw_audit_text.specs.TextLines.{line_text, whole_line, FitsLine}
use Rattle.cw_audit_text.specs.AuditText.{head_line, verdict_line, row_line, group_lines, body_of, whole_lines, audit_text, HasNoMoves}
use Rattle.cw_audit_text.specs.Faults.{StartsWith, Begins, MayFollow, IsAnswer, no_head, no_states, no_verdict, no_line, no_end, verdict_of}
use Rattle.cw_audit_text.proofs.Lines.{one_start, starts_nowhere, starts_otherwise}
use Rattle.cw_audit_text.proofs.Behind.{begun, is_end, line_more, no_lines, shorter}

-- ---- what can be decided

abbrev Decided : Type 0 → Type 0
Decided A = A ⊎ (A → ⊥)

below : (P : ℕ → Type 0) → ((n : ℕ) → Decided (P n)) → (bound : ℕ) → Decided ((n : ℕ) × (n < bound) × P n)
below P decide zero = inr (λ h. let lt = h.1 in absurd (omega (arith, lt)))
below P decide (suc bound) =
    elim (below P decide bound) [
      | inl f ↦ inl (f.0, (let lt = f.1 in omega (arith, lt)), f.2)
      | inr none ↦ elim (decide bound) [
        | inl p ↦ inl (bound, omega arith, p)
        | inr differs ↦ inr (λ h. elim (cases_eq h.0 bound) [ inl e ↦ differs (subst P e h.2) | inr ne ↦ none (h.0, (let lt = h.1 in omega (arith, lt, ne)), h.2) ])
      ]
    ]

same_text : (a b : List ℕ) → Decided (a ≡ b)
same_text a b = by_test (bytes_eq a b) refl
  where
    by_test : (t : Bool) → bytes_eq a b ≡ t → Decided (a ≡ b)
    by_test true is = inl ((bytes_eq-Decides a b).0 is)
    by_test false is = inr (λ e. false≢true (sym is ∙ (bytes_eq-Decides a b).1 e))

nothing_left : (xs : List ℕ) → Decided (xs ≡ [])
nothing_left [] = inl refl
nothing_left (x ∷ xs) = inr (λ e. omega (arith, ap length e))

-- ---- lines

abbrev IsIn : List ℕ → Type 0
IsIn text = (f : ℕ) × (f < 2 ^ 16) × ((q : ℕ) × (q < 2 ^ 16) × ((r : ℕ) × (r < 2 ^ 32) × (line_text (In f q r) ≡ text)))

abbrev IsAt : List ℕ → Type 0
IsAt text = (p : ℕ) × (p < 2 ^ 32) × ((x : ℕ) × (x < 2 ^ 16) × ((a : ℕ) × (a < 2 ^ 32) × (line_text (At p x a) ≡ text)))

in_decided : (text : List ℕ) → Decided (IsIn text)
in_decided text = below _ (λ f. below _ (λ q. below _ (λ r. same_text (line_text (In f q r)) text) (2 ^ 32)) (2 ^ 16)) (2 ^ 16)

at_decided : (text : List ℕ) → Decided (IsAt text)
at_decided text = below _ (λ p. below _ (λ x. below _ (λ a. same_text (line_text (At p x a)) text) (2 ^ 32)) (2 ^ 16)) (2 ^ 32)

move_is : (by : Move) → move_of (line_text (Go by)) ≡ by
unfolding line_text
move_is by = named_back by

moves_fit : (by : Move) → Decided (IsEnvironments by)
moves_fit Grant = inl tt
moves_fit Refuse = inl tt
moves_fit On = inl tt
moves_fit Left = inl tt
moves_fit Right = inl tt
moves_fit Opened = inl tt
moves_fit Failed = inl tt
moves_fit Skip = inr (λ h. h)
moves_fit Try = inr (λ h. h)
moves_fit Stop = inr (λ h. h)

abbrev IsGo : List ℕ → Type 0
IsGo text = (by : Move) × IsEnvironments by × (line_text (Go by) ≡ text)

go_is : (text : List ℕ) (h : IsGo text) → h.0 ≡ move_of text
go_is text h = sym (move_is h.0) ∙ ap move_of h.2

go_decided : (text : List ℕ) → Decided (IsGo text)
go_decided text =
    elim (moves_fit (move_of text)) [
      | inr unfit ↦ inr (λ h. unfit (subst IsEnvironments (go_is text h) h.1))
      | inl fits ↦ elim (same_text (line_text (Go (move_of text))) text) [
        | inl e ↦ inl (move_of text, fits, e)
        | inr differs ↦ inr (λ h. differs (ap (λ by. line_text (Go by)) (sym (go_is text h)) ∙ h.2))
      ]
    ]

abbrev HasLine : List ℕ → Type 0
HasLine text = (l : TextLine) × FitsLine l × (line_text l ≡ text)

-- a line is one of eight kinds
record IsNone (text : List ℕ) : Type 0 where
  head : line_text Head ≡ text → ⊥
  states : ((n : ℕ) × (n < 2 ^ 16) × (line_text (States n) ≡ text)) → ⊥
  meets : line_text Meets ≡ text → ⊥
  violates : ((T : ℕ) × (T < 2 ^ 32) × (line_text (Violates T) ≡ text)) → ⊥
  go : IsGo text → ⊥
  within : IsIn text → ⊥
  at : IsAt text → ⊥
  last : line_text End ≡ text → ⊥

none_is : (text : List ℕ) → IsNone text → (l : TextLine) → FitsLine l → line_text l ≡ text → ⊥
none_is text none Head fits e = none.head e
none_is text none (States n) fits e = none.states (n, fits, e)
none_is text none Meets fits e = none.meets e
none_is text none (Violates T) fits e = none.violates (T, fits, e)
none_is text none (Go by) fits e = none.go (by, fits, e)
none_is text none (In f q r) fits e = none.within (f, fits.0, (q, fits.1, (r, fits.2, e)))
none_is text none (At p x a) fits e = none.at (p, fits.0, (x, fits.1, (a, fits.2, e)))
none_is text none End fits e = none.last e

line_decided : (text : List ℕ) → HasLine text ⊎ IsNone text
line_decided text =
    elim (same_text (line_text Head) text) [
      | inl e ↦ inl (Head, tt, e)
      | inr head ↦ elim (below (λ n. line_text (States n) ≡ text) (λ n. same_text (line_text (States n)) text) (2 ^ 16)) [
        | inl h ↦ inl (States h.0, h.1, h.2)
        | inr states ↦ elim (same_text (line_text Meets) text) [
          | inl e ↦ inl (Meets, tt, e)
          | inr meets ↦ elim (below (λ T. line_text (Violates T) ≡ text) (λ T. same_text (line_text (Violates T)) text) (2 ^ 32)) [
            | inl h ↦ inl (Violates h.0, h.1, h.2)
            | inr violates ↦ elim (go_decided text) [
              | inl h ↦ inl (Go h.0, h.1, h.2)
              | inr go ↦ elim (in_decided text) [
                | inl h ↦ inl (In h.0 h.2.0 h.2.2.0, (h.1, h.2.1, h.2.2.1), h.2.2.2)
                | inr within ↦ elim (at_decided text) [
                  | inl h ↦ inl (At h.0 h.2.0 h.2.2.0, (h.1, h.2.1, h.2.2.1), h.2.2.2)
                  | inr at ↦ elim (same_text (line_text End) text) [
                    | inl e ↦ inl (End, tt, e)
                    | inr last ↦ inr (record { head = head; states = states; meets = meets; violates = violates; go = go; within = within; at = at; last = last })
                  ]
                ]
              ]
            ]
          ]
        ]
      ]
    ]

abbrev Started : List ℕ → Type 0
Started text = ((l : TextLine) × (rest : List ℕ) × StartsWith text l rest) ⊎ ((l : TextLine) (rest : List ℕ) → StartsWith text l rest → ⊥)

-- what a text begins with
started : (text : List ℕ) → Started text
started text =
    elim (first_line text) [
      | inr free ↦ inr (λ l rest s. starts_nowhere text rest l free s)
      | inl p ↦ elim (line_decided p.0) [
        | inl h ↦ inl (
          h.0,
          p.1,
          record { fits = h.1; spelled = p.2 ∙ ap (λ (t : List ℕ). t ++ (10 ∷ p.1)) (sym h.2) ∙ sym (line_end (line_text h.0) p.1) },
        )
        | inr none ↦ inr (λ l more s. starts_otherwise text p.0 p.1 more l p.2 p.3 (record { some = tt; none = none_is p.0 none }) s)
      ]
    ]

-- ---- one line more

abbrev audit : (states : ℕ) → Option ℕ → List Move → List PlainGroup → Audit
audit states D moves groups = record { states = states; distance = D; moves = moves; groups = groups }

abbrev row : (p x a : ℕ) → PlainRow
row p x a = record { pos = p; state = x; inside = a }

abbrev empty : (f q r : ℕ) → PlainGroup
empty f q r = record { function = f; entered = q; reach = r; rows = [] }

abbrev longer : PlainGroup → PlainRow → PlainGroup
longer g r = record { function = g.function; entered = g.entered; reach = g.reach; rows = g.rows ++ r ∷ [] }

-- the last group has one row more
abbrev with_row : PlainGroup → List PlainGroup → PlainRow → List PlainGroup
with_row g [] r = longer g r ∷ []
with_row g (h ∷ groups) r = g ∷ with_row h groups r

row_more : (g : PlainGroup) (groups : List PlainGroup) (r : PlainRow) → flat_map group_lines (with_row g groups r) ≡ flat_map group_lines (g ∷ groups) ++ row_line r ∷ []
row_more g [] r =
    append-nil (group_lines (longer g r)) ∙ ap (λ (ls : List TextLine). In g.function g.entered g.reach ∷ ls) (map-append row_line g.rows (r ∷ []))
    ∙ ap (λ (ls : List TextLine). ls ++ row_line r ∷ []) (sym (append-nil (group_lines g)))
row_more g (h ∷ groups) r =
    ap (λ (ls : List TextLine). group_lines g ++ ls) (row_more h groups r) ∙ sym (append_assoc (group_lines g) (flat_map group_lines (h ∷ groups)) (row_line r ∷ []))

move_more : (moves : List Move) (by : Move) → map Go (moves ++ by ∷ []) ++ [] ≡ (map Go moves ++ []) ++ Go by ∷ []
move_more moves by = append-nil (map Go (moves ++ by ∷ [])) ∙ map-append Go moves (by ∷ []) ∙ ap (λ (ls : List TextLine). ls ++ Go by ∷ []) (sym (append-nil (map Go moves)))

group_more : (groups : List PlainGroup) (f q r : ℕ) → flat_map group_lines (groups ++ empty f q r ∷ []) ≡ flat_map group_lines groups ++ In f q r ∷ []
group_more groups f q r = flat_map-append group_lines groups (empty f q r ∷ [])

begins_with : (text rest more : List ℕ) (states : ℕ) (D : Option ℕ) (moves moves2 : List Move) (groups groups2 : List PlainGroup) (l : TextLine)
    → Begins text (audit states D moves groups) rest
    → HasNoMoves D moves2 → map Go moves2 ++ flat_map group_lines groups2 ≡ (map Go moves ++ flat_map group_lines groups) ++ l ∷ [] → StartsWith rest l more
    → Begins text (audit states D moves2 groups2) more
begins_with text rest more states D moves moves2 groups groups2 l b none e s =
    let old = map Go moves ++ flat_map group_lines groups in
    record {
      fits = record {
        states = b.fits.states;
        distance = b.fits.distance;
        moves = none;
        items = subst (All FitsLine) (sym e) (All-push FitsLine old l b.fits.items s.fits);
      };
      spelled =
          b.spelled
          ∙ ap (λ (t : List ℕ). head_line ++ (states_line states ++ (verdict_line D ++ t)))
          (line_more (whole_lines old ++ rest) rest more old l refl s ∙ ap (λ (ls : List TextLine). whole_lines ls ++ more) (sym e));
    }

begins_next : (text rest more : List ℕ) (states : ℕ) (D : Option ℕ) (moves : List Move) (groups : List PlainGroup) (l : TextLine) → Begins text (audit states D moves groups) rest
    → MayFollow D groups l → StartsWith rest l more → (t : Audit) × Begins text t more
begins_next text rest more states (Some T) moves [] (Go by) b may s =
    (audit states (Some T) (moves ++ by ∷ []) [], begins_with text rest more states (Some T) moves (moves ++ by ∷ []) [] [] (Go by) b tt (move_more moves by) s)
begins_next text rest more states D moves groups (In f q r) b may s = (
  audit states D moves (groups ++ empty f q r ∷ []),
  begins_with text rest more states D moves moves groups (groups ++ empty f q r ∷ []) (In f q r) b b.fits.moves
      (ap (λ (ls : List TextLine). map Go moves ++ ls) (group_more groups f q r) ∙ sym (append_assoc (map Go moves) (flat_map group_lines groups) (In f q r ∷ []))) s,
)
begins_next text rest more states D moves (g ∷ groups) (At p x a) b may s = (
  audit states D moves (with_row g groups (row p x a)),
  begins_with text rest more states D moves moves (g ∷ groups) (with_row g groups (row p x a)) (At p x a) b b.fits.moves
      (ap (λ (ls : List TextLine). map Go moves ++ ls) (row_more g groups (row p x a)) ∙ sym (append_assoc (map Go moves) (flat_map group_lines (g ∷ groups)) (At p x a ∷ []))) s,
)
begins_next text rest more states _ moves _ _ b may s = absurd may

-- ---- line after line

data Follows (D : Option ℕ) (groups : List PlainGroup) (l : TextLine) : Type 0 where
  as_end : l ≡ End → Follows D groups l
  as_line : MayFollow D groups l → Follows D groups l
  never : (l ≡ End → ⊥) → (MayFollow D groups l → ⊥) → Follows D groups l

follows : (D : Option ℕ) (groups : List PlainGroup) (l : TextLine) → Follows D groups l
follows D groups End = as_end refl
follows (Some T) [] (Go by) = as_line tt
follows None [] (In f q r) = as_line tt
follows (Some T) [] (In f q r) = as_line tt
follows None (g ∷ groups) (In f q r) = as_line tt
follows (Some T) (g ∷ groups) (In f q r) = as_line tt
follows None (g ∷ groups) (At p x a) = as_line tt
follows (Some T) (g ∷ groups) (At p x a) = as_line tt
follows None [] _ = never (λ e. cc) (λ h. h)
follows (Some T) [] _ = never (λ e. cc) (λ h. h)
follows None (g ∷ groups) _ = never (λ e. cc) (λ h. h)
follows (Some T) (g ∷ groups) _ = never (λ e. cc) (λ h. h)

abbrev Answered : List ℕ → Type 0
Answered text = (answer : Result Audit AuditTextFault) × IsAnswer text answer

whole_answer : (text rest : List ℕ) (t : Audit) → Begins text t rest → StartsWith rest End [] → IsAnswer text (Ok t)
unfolding audit_text
whole_answer text rest t b s = record {
  fits = b.fits;
  spelled =
      b.spelled
      ∙ ap (λ (z : List ℕ). head_line ++ (states_line t.states ++ (verdict_line t.distance ++ (whole_lines (body_of t) ++ z)))) (s.spelled ∙ append-nil (whole_line End) ∙ sym is_end);
}

lines_answered : (fuel : ℕ) (text : List ℕ) (t : Audit) (rest : List ℕ) → length rest < fuel → Begins text t rest → Answered text
lines_answered zero text t rest short b = absurd (omega (arith, short))
lines_answered (suc fuel) text t rest short b =
    elim (started rest) [
      | inr none ↦ (Err (Line (length (body_of t) + 4)), no_line t rest b (λ more s. none End more s) (λ l more may s. none l more s))
      | inl p ↦ elim (follows t.distance t.groups p.0) [
        | as_end e ↦ elim (nothing_left p.1) [
          | inl over ↦ (Ok t, whole_answer text rest t b (subst (λ (z : List ℕ). StartsWith rest End z) over (subst (λ (l : TextLine). StartsWith rest l p.1) e p.2)))
          | inr some ↦ (Err (Line (length (body_of t) + 5)), no_end t rest p.1 b (subst (λ (l : TextLine). StartsWith rest l p.1) e p.2) some)
        ]
        | as_line may ↦
            let next = begins_next text rest p.1 t.states t.distance t.moves t.groups p.0 b may p.2 in
            let less = shorter rest p.1 p.0 p.2 in
            lines_answered fuel text next.0 p.1 (omega (arith, less, short)) next.1
        | never other differs ↦ (
          Err (Line (length (body_of t) + 4)),
          no_line t rest b (λ more s. other (one_start rest p.1 more p.0 End p.2 s).0)
              (λ l more may s. differs (subst (MayFollow t.distance t.groups) (sym (one_start rest p.1 more p.0 l p.2 s).0) may)),
        )
      ]
    ]

no_moves : (D : Option ℕ) → HasNoMoves D []
no_moves None = refl
no_moves (Some T) = tt

with_verdict : (text after rest more : List ℕ) (states : ℕ) (D : Option ℕ) → StartsWith text Head after → StartsWith after (States states) rest → StartsWith rest (verdict_of D) more
    → Answered text
with_verdict text after rest more states D h s v =
    lines_answered (suc (length more)) text (audit states D [] []) more (omega arith)
    (begun text after rest more more more states D [] [] h s v (no_lines more) (All-nil FitsLine) (no_moves D) (no_lines more) (All-nil FitsLine))

abbrev IsVerdict : TextLine → Type 0
IsVerdict l = (D : Option ℕ) × (l ≡ verdict_of D)

never_verdict : (l : TextLine) → ((D : Option ℕ) → l ≡ verdict_of D → ⊥) → Decided (IsVerdict l)
never_verdict l none = inr (λ h. none h.0 h.1)

verdict_decided : (l : TextLine) → Decided (IsVerdict l)
verdict_decided Meets = inl (None, refl)
verdict_decided (Violates T) = inl (Some T, refl)
verdict_decided Head = never_verdict Head (λ D. elim D as (λ D. Head ≡ verdict_of D → ⊥) [ None ↦ λ e. cc | Some T ↦ λ e. cc ])
verdict_decided (States n) = never_verdict (States n) (λ D. elim D as (λ D. States n ≡ verdict_of D → ⊥) [ None ↦ λ e. cc | Some T ↦ λ e. cc ])
verdict_decided (Go by) = never_verdict (Go by) (λ D. elim D as (λ D. Go by ≡ verdict_of D → ⊥) [ None ↦ λ e. cc | Some T ↦ λ e. cc ])
verdict_decided (In f q r) = never_verdict (In f q r) (λ D. elim D as (λ D. In f q r ≡ verdict_of D → ⊥) [ None ↦ λ e. cc | Some T ↦ λ e. cc ])
verdict_decided (At p x a) = never_verdict (At p x a) (λ D. elim D as (λ D. At p x a ≡ verdict_of D → ⊥) [ None ↦ λ e. cc | Some T ↦ λ e. cc ])
verdict_decided End = never_verdict End (λ D. elim D as (λ D. End ≡ verdict_of D → ⊥) [ None ↦ λ e. cc | Some T ↦ λ e. cc ])

with_states : (text after rest : List ℕ) (states : ℕ) → StartsWith text Head after → StartsWith after (States states) rest → Answered text
with_states text after rest states h s =
    elim (started rest) [
      | inr none ↦ (Err (Line 3), no_verdict states after rest h s (λ D more v. none (verdict_of D) more v))
      | inl p ↦ elim (verdict_decided p.0) [
        | inl is ↦ with_verdict text after rest p.1 states is.0 h s (subst (λ (l : TextLine). StartsWith rest l p.1) is.1 p.2)
        | inr other ↦ (Err (Line 3), no_verdict states after rest h s (λ D more v. other (D, (one_start rest p.1 more p.0 (verdict_of D) p.2 v).0)))
      ]
    ]

abbrev IsStates : TextLine → Type 0
IsStates l = (n : ℕ) × (l ≡ States n)

states_decided : (l : TextLine) → Decided (IsStates l)
states_decided (States n) = inl (n, refl)
states_decided Head = inr (λ h. let e = h.1 in cc e)
states_decided Meets = inr (λ h. let e = h.1 in cc e)
states_decided (Violates T) = inr (λ h. let e = h.1 in cc e)
states_decided (Go by) = inr (λ h. let e = h.1 in cc e)
states_decided (In f q r) = inr (λ h. let e = h.1 in cc e)
states_decided (At p x a) = inr (λ h. let e = h.1 in cc e)
states_decided End = inr (λ h. let e = h.1 in cc e)

with_head : (text after : List ℕ) → StartsWith text Head after → Answered text
with_head text after h =
    elim (started after) [
      | inr none ↦ (Err (Line 2), no_states after h (λ n more s. none (States n) more s))
      | inl p ↦ elim (states_decided p.0) [
        | inl is ↦ with_states text after p.1 is.0 h (subst (λ (l : TextLine). StartsWith after l p.1) is.1 p.2)
        | inr other ↦ (Err (Line 2), no_states after h (λ n more s. other (n, (one_start after p.1 more p.0 (States n) p.2 s).0)))
      ]
    ]

head_decided : (l : TextLine) → Decided (l ≡ Head)
head_decided Head = inl refl
head_decided (States n) = inr (λ e. cc)
head_decided Meets = inr (λ e. cc)
head_decided (Violates T) = inr (λ e. cc)
head_decided (Go by) = inr (λ e. cc)
head_decided (In f q r) = inr (λ e. cc)
head_decided (At p x a) = inr (λ e. cc)
head_decided End = inr (λ e. cc)

pub some_answer : (text : List ℕ) → Answered text
some_answer text =
    elim (started text) [
      | inr none ↦ (Err (Line 1), no_head (λ rest s. none Head rest s))
      | inl p ↦ elim (head_decided p.0) [
        | inl is ↦ with_head text p.1 (subst (λ (l : TextLine). StartsWith text l p.1) is p.2)
        | inr other ↦ (Err (Line 1), no_head (λ rest s. other (one_start text p.1 rest p.0 Head p.2 s).0))
      ]
    ]
