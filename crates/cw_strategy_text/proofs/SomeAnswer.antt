-- Each text is that of a strategy or has a fault: what decides it, number by number, field by field and line by line.
use Rattle.std.proofs.Common.{◌≡◌, ◌≢◌, ℕ, zero, suc, ◌+◌, ◌^◌, ◌<◌, ◌≤◌, ◌⊎◌, Bool, true, false, cond, eqb, List, [], ◌∷◌, ◌++◌, length, map, refl, sym, ap, ◌∙◌, subst, arith, append-nil, inl, inr}
use Rattle.std.specs.Prelude.{Result, Ok, Err, Option, None, Some, codes, bytes_eq}
use Rattle.std.specs.Fmt.{decimal}
use Rattle.std.proofs.lemmas.Bool.{cases_eq, false≢true}
use Rattle.std.proofs.lemmas.Slice.Eq.{bytes_eq-Decides}
use Rattle.cw_lemmas.proofs.Texts.{begins_or_not}
use Rattle.cw_core.specs.StateSet.{IsBelow}
use Rattle.cw_core.proofs.Sets.{IsBelow-lt, IsBelow_from_lt}
use Rattle.cw_certs.specs.declared.moves.Move.{Move}
use Rattle.cw_certs.specs.Strategies.{How, Bad, Out, Both, Go, Into, Row, Strategy}
use Rattle.cw_text.specs.declared.fault.TextFault.{TextFault}
use Rattle.cw_text.specs.declared.fault.TextFault.TheVariants.{Line, Order, Limit}
use Rattle.cw_text.specs.Lines.{IsFree, fields_by, set_text, IsSetIn, Reads, states_line, end_line}
use Rattle.cw_text.specs.Moves.{move_name, IsEnvironments}
use Rattle.cw_text.proofs.Names.{move_of, named_back}
use Rattle.cw_text_lines.proofs.Starts.{first_line}
use Rattle.cw_strategy_text.specs.declared.kind.RowKind.{RowKind}
use Rattle.cw_strategy_text.specs.declared.kind.RowKind.TheVariants as kind
use Rattle.cw_strategy_text.specs.StrategyText.{head_line, back_field, how_fields, rows_in, row_count, AreBacks, FitsHow, Fits}
use Rattle.cw_strategy_text.specs.Fields.{kind_of_how, kind_field, rest_fields, FitsKind, FitsBack, IsOf, FitsNamed, row_text}
use Rattle.cw_strategy_text.specs.Faults.{Begins, HasRow, IsAnswer, no_head, no_states, no_row, no_end, no_order, no_room}
use Rattle.cw_strategy_text.specs.Steps.{HasNone, HasMore, HasAnother, HasTooMany}
use Rattle.cw_strategy_text.proofs.Backs as backs
use Rattle.cw_strategy_text.proofs.Fronts.{front_first, front_next, front_end}
use Rattle.cw_strategy_text.proofs.Hows.{no_fields, no_kind, of_kind}
use Rattle.cw_strategy_text.proofs.RowLines.{no_row_head, no_how, a_row, none_at_all, none_here, end_stands, row_here, row_shortens}
use Rattle.cw_text.proofs.SomeAnswer.{environments_or_not}

-- ---- what can be decided

search_below : (P : ℕ → Type 0) → ((n : ℕ) → P n ⊎ (P n → ⊥)) → (bound : ℕ) → ((n : ℕ) × (n < bound) × P n) ⊎ ((n : ℕ) → n < bound → P n → ⊥)
search_below P decide zero = inr (λ n lt p. omega (arith, lt))
search_below P decide (suc bound) =
    elim (search_below P decide bound) [
      | inl f ↦ inl (f.0, (let p = f.1 in omega (arith, p)), f.2)
      | inr none ↦ elim (decide bound) [
        | inl p ↦ inl (bound, omega arith, p)
        | inr differs ↦ inr (λ n lt p. elim (cases_eq n bound) [ inl e ↦ differs (subst P e p) | inr ne ↦ none n (omega (arith, lt, ne)) p ])
      ]
    ]

same_text : (a b : List ℕ) → (a ≡ b) ⊎ (a ≡ b → ⊥)
same_text a b = by_test (bytes_eq a b) refl
  where
    by_test : (t : Bool) → bytes_eq a b ≡ t → (a ≡ b) ⊎ (a ≡ b → ⊥)
    by_test true is = inl ((bytes_eq-Decides a b).0 is)
    by_test false is = inr (λ e. false≢true (sym is ∙ (bytes_eq-Decides a b).1 e))

nothing_left : {A : Type 0} (xs : List A) → (xs ≡ []) ⊎ (xs ≢ [])
nothing_left [] = inl refl
nothing_left (x ∷ xs) = inr (λ e. omega (arith, ap length e))

-- ---- fields

abbrev Readable : {A W : Type 0} → (A → Type 0) → (A → W) → W → Type 0
Readable {A} {W} Fits text_of field = (r : Option A) × Reads Fits text_of field r

number_readable : (bound : ℕ) (field : List ℕ) → Readable (λ n. n < bound) decimal field
number_readable bound field =
    elim (search_below (λ n. decimal n ≡ field) (λ n. same_text (decimal n) field) bound) [
      | inl f ↦ (Some f.0, record { some = (f.1, f.2); none = tt })
      | inr none ↦ (None, record { some = tt; none = none })
    ]

set_readable : (size : ℕ) (text_of : ℕ → List ℕ) (field : List ℕ) → Readable (IsBelow size) text_of field
set_readable size text_of field =
    elim (search_below (λ n. text_of n ≡ field) (λ n. same_text (text_of n) field) (2 ^ size)) [
      | inl f ↦ (Some f.0, record { some = (IsBelow_from_lt size f.0 f.1, f.2); none = tt })
      | inr none ↦ (None, record { some = tt; none = λ set below e. none set (IsBelow-lt size set below) e })
    ]

head : List (List ℕ) → List ℕ
head [] = []
head (x ∷ xs) = x

tail : List (List ℕ) → List (List ℕ)
tail [] = []
tail (x ∷ xs) = xs

-- the first of some fields
abbrev Taken : {A : Type 0} → (A → Type 0) → (A → List ℕ) → List (List ℕ) → Type 0
Taken {A} Fits text_of fields = ((a : A) × (left : List (List ℕ)) × Fits a × (fields ≡ text_of a ∷ left)) ⊎ ((a : A) (rest : List (List ℕ)) → Fits a → fields ≢ text_of a ∷ rest)

take_value : {A : Type 0} (Fits : A → Type 0) (text_of : A → List ℕ) → ((field : List ℕ) → Readable Fits text_of field) → (fields : List (List ℕ)) → Taken Fits text_of fields
unfolding head
take_value Fits text_of readable [] = inr (λ a rest fits e. omega (arith, ap length e))
take_value {A} Fits text_of readable (w ∷ fields) = by_read (readable w).0 (readable w).1
  where
    by_read : (r : Option A) → Reads Fits text_of w r → Taken Fits text_of (w ∷ fields)
    by_read None reads = inr (λ a rest fits e. reads.none a fits (sym (ap head e)))
    by_read (Some a) reads = inl (a, fields, reads.some.0, ap (λ (v : List ℕ). v ∷ fields) (sym reads.some.1))

take_number : (bound : ℕ) (fields : List (List ℕ)) → Taken (λ n. n < bound) decimal fields
take_number bound fields = take_value (λ n. n < bound) decimal (number_readable bound) fields

back_readable : (field : List ℕ) → Readable FitsBack back_field field
back_readable field =
    elim (take_number (2 ^ 16) (fields_by 61 field)) [
      | inr none ↦ (None, backs.no_state field none)
      | inl t ↦ elim (take_number (2 ^ 32) t.1) [
        | inr none ↦ (None, backs.no_row field t.0 t.1 t.3 none)
        | inl u ↦ elim (nothing_left u.1) [
          | inl e ↦ (Some (t.0, u.0), backs.a_back field t.0 u.0 t.1 u.1 t.2 u.2 t.3 u.3 e)
          | inr some ↦ (None, backs.no_end field t.0 u.0 t.1 u.1 t.3 u.3 some)
        ]
      ]
    ]

at_most : (a b : ℕ) → (a ≤ b) ⊎ (b < a)
at_most zero b = inl (omega arith)
at_most (suc a) b =
    elim (at_most a b) [
      | inl le ↦ elim (cases_eq a b) [ inl e ↦ inr (omega (arith, e)) | inr ne ↦ inl (omega (arith, le, ne)) ]
      | inr lt ↦ inr (omega (arith, lt))
    ]

backs_readable : (low : ℕ) (fields : List (List ℕ)) → Readable (AreBacks low) (map back_field) fields
unfolding head tail
backs_readable low [] = (Some [], record { some = (tt, refl); none = tt })
backs_readable low (w ∷ fields) = by_read (back_readable w).0 (back_readable w).1 (λ (more : ℕ). backs_readable more fields)
  where
    after : (b : ℕ × ℕ) → FitsBack b → back_field b ≡ w → low ≤ b.0 → (r : Option (List (ℕ × ℕ))) → Reads (AreBacks (b.0 + 1)) (map back_field) fields r
        → Readable (AreBacks low) (map back_field) (w ∷ fields)
    after b fits is up (Some bs) reads = (Some (b ∷ bs), record { some = ((up, fits.0, fits.1, reads.some.0), rw (is, reads.some.1) refl); none = tt })
    after b fits is up None reads = (None, record { some = tt; none = missing })
      where
        missing : (bs : List (ℕ × ℕ)) → AreBacks low bs → map back_field bs ≢ w ∷ fields
        missing [] good e = omega (arith, ap length e)
        missing (d ∷ ds) good e =
            let same : d ≡ b = backs.one_back d b (good.1, good.2) fits (ap head e ∙ sym is) in
            reads.none ds (subst (λ (x : ℕ × ℕ). AreBacks (x.0 + 1) ds) same good.3) (ap tail e)

    by_read : (r : Option (ℕ × ℕ)) → Reads FitsBack back_field w r → ((more : ℕ) → Readable (AreBacks more) (map back_field) fields) → Readable (AreBacks low) (map back_field) (w ∷ fields)
    by_read None reads rest = (None, record { some = tt; none = missing })
      where
        missing : (bs : List (ℕ × ℕ)) → AreBacks low bs → map back_field bs ≢ w ∷ fields
        missing [] good e = omega (arith, ap length e)
        missing (d ∷ ds) good e = reads.none d (good.1, good.2) (ap head e)
    by_read (Some b) reads rest =
        elim (at_most low b.0) [
          | inl up ↦ after b reads.some.0 reads.some.1 up (rest (b.0 + 1)).0 (rest (b.0 + 1)).1
          | inr under ↦ (None, record { some = tt; none = missing under })
        ]
      where
        missing : b.0 < low → (bs : List (ℕ × ℕ)) → AreBacks low bs → map back_field bs ≢ w ∷ fields
        missing under [] good e = omega (arith, ap length e)
        missing under (d ∷ ds) good e =
            let same : d ≡ b = backs.one_back d b (good.1, good.2) reads.some.0 (ap head e ∙ sym reads.some.1) in
            let equal : d.0 ≡ b.0 = ap (λ (x : ℕ × ℕ). x.0) same in
            omega (arith, under, equal, good.0)

-- ---- what a row does

-- only the move that a name tells can have it
move_readable : (field : List ℕ) → Readable IsEnvironments move_name field
move_readable field =
    elim (same_text (move_name (move_of field)) field) [
      | inl e ↦ elim (environments_or_not (move_of field)) [
        | inl fits ↦ (Some (move_of field), record { some = (fits, e); none = tt })
        | inr not ↦ (None, record { some = tt; none = λ by fits is. not (subst IsEnvironments (one by is) fits) })
      ]
      | inr differs ↦ (None, record { some = tt; none = λ by fits is. differs (ap move_name (sym (one by is)) ∙ is) })
    ]
  where
    one : (by : Move) → move_name by ≡ field → by ≡ move_of field
    one by is = sym (named_back by) ∙ ap move_of is

kind_readable : (field : List ℕ) → Readable FitsKind kind_field field
kind_readable field =
    elim (same_text (codes "bad") field) [
      | inl e ↦ found kind.Bad tt e
      | inr bad ↦
          elim (same_text (codes "out") field) [
            | inl e ↦ found kind.Out tt e
            | inr out ↦
                elim (same_text (codes "both") field) [
                  | inl e ↦ found kind.Both tt e
                  | inr both ↦
                      elim (same_text (codes "into") field) [
                        | inl e ↦ found kind.Into tt e
                        | inr into ↦ by_move bad out both into (move_readable field).0 (move_readable field).1
                      ]
                ]
          ]
    ]
  where
    found : (k : RowKind) → FitsKind k → kind_field k ≡ field → Readable FitsKind kind_field field
    found k fits e = (Some k, record { some = (fits, e); none = tt })

    missing : codes "bad" ≢ field → codes "out" ≢ field → codes "both" ≢ field → codes "into" ≢ field → ((by : Move) → IsEnvironments by → move_name by ≢ field)
        → (k : RowKind) → FitsKind k → kind_field k ≢ field
    missing bad out both into go kind.Bad fits = bad
    missing bad out both into go kind.Out fits = out
    missing bad out both into go kind.Both fits = both
    missing bad out both into go kind.Into fits = into
    missing bad out both into go (kind.Go by) fits = go by fits

    by_move : codes "bad" ≢ field → codes "out" ≢ field → codes "both" ≢ field → codes "into" ≢ field → (r : Option Move) → Reads IsEnvironments move_name field r
        → Readable FitsKind kind_field field
    by_move bad out both into (Some by) reads = found (kind.Go by) reads.some.0 reads.some.1
    by_move bad out both into None reads = (None, record { some = tt; none = missing bad out both into reads.none })

-- the other fields of what is of a kind
only_bad : (how : How) → kind_of_how how ≡ kind.Bad → rest_fields how ≡ []
only_bad Bad e = refl
only_bad Out e = absurd (cc)
only_bad (Both s t) e = absurd (cc)
only_bad (Go by row) e = absurd (cc)
only_bad (Into c bs) e = absurd (cc)

only_out : (how : How) → kind_of_how how ≡ kind.Out → rest_fields how ≡ []
only_out Bad e = absurd (cc)
only_out Out e = refl
only_out (Both s t) e = absurd (cc)
only_out (Go by row) e = absurd (cc)
only_out (Into c bs) e = absurd (cc)

record TwoRows (how : How) : Type 0 where
  skip : ℕ
  tried : ℕ
  small : skip < 2 ^ 32
  low : tried < 2 ^ 32
  fields : rest_fields how ≡ decimal skip ∷ decimal tried ∷ []

only_both : (how : How) → FitsHow how → kind_of_how how ≡ kind.Both → TwoRows how
only_both Bad fits e = absurd (cc)
only_both Out fits e = absurd (cc)
only_both (Both s t) fits e = record { skip = s; tried = t; small = fits.0; low = fits.1; fields = refl }
only_both (Go by row) fits e = absurd (cc)
only_both (Into c bs) fits e = absurd (cc)

record OneRow (how : How) : Type 0 where
  row : ℕ
  small : row < 2 ^ 32
  fields : rest_fields how ≡ decimal row ∷ []

only_go : (by : Move) (how : How) → FitsHow how → kind_of_how how ≡ kind.Go by → OneRow how
only_go by Bad fits e = absurd (cc)
only_go by Out fits e = absurd (cc)
only_go by (Both s t) fits e = absurd (cc)
only_go by (Go way row) fits e = record { row = row; small = fits.1; fields = refl }
only_go by (Into c bs) fits e = absurd (cc)

record CalleeAndBacks (how : How) : Type 0 where
  callee : ℕ
  backs : List (ℕ × ℕ)
  small : callee < 2 ^ 32
  good : AreBacks 0 backs
  fields : rest_fields how ≡ decimal callee ∷ map back_field backs

only_into : (how : How) → FitsHow how → kind_of_how how ≡ kind.Into → CalleeAndBacks how
only_into Bad fits e = absurd (cc)
only_into Out fits e = absurd (cc)
only_into (Both s t) fits e = absurd (cc)
only_into (Go by row) fits e = absurd (cc)
only_into (Into c bs) fits e = record { callee = c; backs = bs; small = fits.0; good = fits.1; fields = refl }

rest_readable : (k : RowKind) → FitsKind k → (fields : List (List ℕ)) → Readable (IsOf k) rest_fields fields
unfolding tail
rest_readable kind.Bad fits fields =
    elim (nothing_left fields) [
      | inl e ↦ (Some Bad, record { some = (record { fits = tt; kind = refl }, sym e); none = tt })
      | inr some ↦ (None, record { some = tt; none = λ how is e. some (sym e ∙ only_bad how is.kind) })
    ]
rest_readable kind.Out fits fields =
    elim (nothing_left fields) [
      | inl e ↦ (Some Out, record { some = (record { fits = tt; kind = refl }, sym e); none = tt })
      | inr some ↦ (None, record { some = tt; none = λ how is e. some (sym e ∙ only_out how is.kind) })
    ]
rest_readable kind.Both fits fields =
    elim (take_number (2 ^ 32) fields) [
      | inr none ↦ (None, record { some = tt; none = λ how is e. let o = only_both how is.fits is.kind in none o.skip (decimal o.tried ∷ []) o.small (sym e ∙ o.fields) })
      | inl t ↦ elim (take_number (2 ^ 32) t.1) [
        | inr none ↦ (None, record { some = tt; none = λ how is e. let o = only_both how is.fits is.kind in none o.tried [] o.low (ap tail (sym t.3 ∙ sym e ∙ o.fields)) })
        | inl u ↦ elim (nothing_left u.1) [
          | inl over ↦ (Some (Both t.0 u.0), record { some = (record { fits = (t.2, u.2); kind = refl }, sym (t.3 ∙ rest_of (decimal t.0) t.1 (decimal u.0) u.1 u.3 over)); none = tt })
          | inr some ↦ (None, record { some = tt; none = λ how is e. let o = only_both how is.fits is.kind in some (ap tail (sym u.3 ∙ ap tail (sym t.3 ∙ sym e ∙ o.fields))) })
        ]
      ]
    ]
  where
    rest_of : (a : List ℕ) (left : List (List ℕ)) (b : List ℕ) (more : List (List ℕ)) → left ≡ b ∷ more → more ≡ [] → a ∷ left ≡ a ∷ b ∷ []
    rest_of a left b more e over = ap (λ (ws : List (List ℕ)). a ∷ ws) (e ∙ ap (λ (ws : List (List ℕ)). b ∷ ws) over)
rest_readable (kind.Go by) fits fields =
    elim (take_number (2 ^ 32) fields) [
      | inr none ↦ (None, record { some = tt; none = λ how is e. let o = only_go by how is.fits is.kind in none o.row [] o.small (sym e ∙ o.fields) })
      | inl t ↦ elim (nothing_left t.1) [
        | inl over ↦ (Some (Go by t.0), record { some = (record { fits = (fits, t.2); kind = refl }, sym (t.3 ∙ ap (λ (ws : List (List ℕ)). decimal t.0 ∷ ws) over)); none = tt })
        | inr some ↦ (None, record { some = tt; none = λ how is e. let o = only_go by how is.fits is.kind in some (ap tail (sym t.3 ∙ sym e ∙ o.fields)) })
      ]
    ]
rest_readable kind.Into fits fields =
    elim (take_number (2 ^ 32) fields) [
      | inr none ↦ (None, record { some = tt; none = λ how is e. let o = only_into how is.fits is.kind in none o.callee (map back_field o.backs) o.small (sym e ∙ o.fields) })
      | inl t ↦ with_backs t.0 t.1 t.2 t.3 (backs_readable 0 t.1).0 (backs_readable 0 t.1).1
    ]
  where
    with_backs : (callee : ℕ) (left : List (List ℕ)) → callee < 2 ^ 32 → fields ≡ decimal callee ∷ left → (r : Option (List (ℕ × ℕ))) → Reads (AreBacks 0) (map back_field) left r
        → Readable (IsOf kind.Into) rest_fields fields
    with_backs callee left small is (Some bs) reads = (
      Some (Into callee bs),
      record { some = (record { fits = (small, reads.some.0); kind = refl }, sym (is ∙ ap (λ (ws : List (List ℕ)). decimal callee ∷ ws) (sym reads.some.1))); none = tt },
    )
    with_backs callee left small is None reads = (
      None,
      record { some = tt; none = λ how of e. let o = only_into how of.fits of.kind in reads.none o.backs o.good (sym (ap tail (sym is ∙ sym e ∙ o.fields))) },
    )

how_readable : (fields : List (List ℕ)) → Readable FitsHow how_fields fields
how_readable [] = (None, no_fields [] refl)
how_readable (w ∷ fields) = by_kind (kind_readable w).0 (kind_readable w).1
  where
    by_kind : (r : Option RowKind) → Reads FitsKind kind_field w r → Readable FitsHow how_fields (w ∷ fields)
    by_kind None reads = (None, no_kind (w ∷ fields) w fields refl reads)
    by_kind (Some k) reads = let rest = rest_readable k reads.some.0 fields in (rest.0, of_kind (w ∷ fields) w fields k rest.0 refl reads rest.1)

-- ---- a row's line

row_readable : (format : ℕ) (text : List ℕ) → Readable (FitsNamed format) (row_text format) text
unfolding tail
row_readable format text =
    elim (take_number (2 ^ 32) (fields_by 32 text)) [
      | inr none ↦ (None, no_row_head format text (λ number pos state aim rest a b d f e. none number (decimal pos ∷ decimal state ∷ set_text format aim ∷ rest) a e))
      | inl t ↦ elim (take_number (2 ^ 32) t.1) [
        | inr none ↦ (None, no_row_head format text (λ number pos state aim rest a b d f e. none pos (decimal state ∷ set_text format aim ∷ rest) b (ap tail (sym t.3 ∙ e))))
        | inl u ↦ elim (take_number (2 ^ 16) u.1) [
          | inr none ↦ (None, no_row_head format text (λ number pos state aim rest a b d f e. none state (set_text format aim ∷ rest) d (ap tail (sym u.3 ∙ ap tail (sym t.3 ∙ e)))))
          | inl v ↦ elim (take_value (IsSetIn format) (set_text format) (set_readable (cond (eqb format 2) 1024 512) (set_text format)) v.1) [
            | inr none ↦ (None, no_row_head format text (λ number pos state aim rest a b d f e. none aim rest f (ap tail (sym v.3 ∙ ap tail (sym u.3 ∙ ap tail (sym t.3 ∙ e))))))
            | inl w ↦
                let place : fields_by 32 text ≡ decimal t.0 ∷ decimal u.0 ∷ decimal v.0 ∷ set_text format w.0 ∷ w.1 = t.3
                ∙ four (decimal t.0) t.1 (decimal u.0) u.1 (decimal v.0) v.1 (set_text format w.0) w.1 u.3 v.3 w.3 in
                with_how t.0 u.0 v.0 w.0 w.1 t.2 u.2 v.2 w.2 place (how_readable w.1).0 (how_readable w.1).1
          ]
        ]
      ]
    ]
  where
    four : (a : List ℕ) (left : List (List ℕ)) (b : List ℕ) (more : List (List ℕ)) (d : List ℕ) (others : List (List ℕ)) (f : List ℕ) (rest : List (List ℕ)) → left ≡ b ∷ more
        → more ≡ d ∷ others → others ≡ f ∷ rest → a ∷ left ≡ a ∷ b ∷ d ∷ f ∷ rest
    four a left b more d others f rest p q s = ap (λ (ws : List (List ℕ)). a ∷ ws) (p ∙ ap (λ (ws : List (List ℕ)). b ∷ ws) (q ∙ ap (λ (ws : List (List ℕ)). d ∷ ws) s))

    with_how : (number pos state aim : ℕ) (left : List (List ℕ)) → number < 2 ^ 32 → pos < 2 ^ 32 → state < 2 ^ 16 → IsSetIn format aim
        → fields_by 32 text ≡ decimal number ∷ decimal pos ∷ decimal state ∷ set_text format aim ∷ left → (r : Option How) → Reads FitsHow how_fields left r
        → Readable (FitsNamed format) (row_text format) text
    with_how number pos state aim left a b d f place (Some how) reads =
        (Some (number, record { pos = pos; state = state; aim = aim; how = how }), a_row format text number pos state aim left how a b d f place reads)
    with_how number pos state aim left a b d f place None reads = (None, no_how format text number pos state aim left place reads)

-- ---- line after line

-- reading stops with an answer, or goes on with a row
record GoesOn (format count rows : ℕ) (text : List ℕ) : Type 0 where
  row : Row
  rest : List ℕ
  stands : HasRow format text count row rest
  few : rows + rows_in row.how ≤ 65536

data Stopped (format count rows : ℕ) (text : List ℕ) : Type 0 where
  with_none : HasNone format text → Stopped format count rows text
  with_end : text ≡ end_line → Stopped format count rows text
  with_more : HasMore text → Stopped format count rows text
  with_another : HasAnother format text count → Stopped format count rows text
  with_many : HasTooMany format text count rows → Stopped format count rows text

step : (format count rows : ℕ) (text : List ℕ) → Stopped format count rows text ⊎ GoesOn format count rows text
step format count rows text =
    elim (first_line text) [
      | inr free ↦ inl (with_none (none_at_all format text free))
      | inl p ↦ elim (same_text p.0 (codes "end")) [
        | inl e ↦ elim (nothing_left p.1) [
          | inl over ↦ inl (with_end (end_stands text p.0 p.1 p.2 e ∙ ap (λ (t : List ℕ). end_line ++ t) over ∙ append-nil end_line))
          | inr some ↦ inl (with_more (record { more = p.1; text = end_stands text p.0 p.1 p.2 e; some = some }))
        ]
        | inr differs ↦ by_row p.0 p.1 p.2 p.3 differs (row_readable format p.0).0 (row_readable format p.0).1
      ]
    ]
  where
    by_row : (l rest : List ℕ) → text ≡ l ++ (10 ∷ rest) → IsFree 10 l → (l ≡ codes "end" → ⊥) → (r : Option (ℕ × Row)) → Reads (FitsNamed format) (row_text format) l r
        → Stopped format count rows text ⊎ GoesOn format count rows text
    by_row l rest e free differs None reads = inl (with_none (none_here format text l rest e free differs reads))
    by_row l rest e free differs (Some named) reads =
        let stands = row_here format text l rest named.0 named.1 e reads in
        elim (cases_eq named.0 count) [
          | inr other ↦ inl (with_another (record { number = named.0; row = named.1; more = rest; stands = stands; differs = other }))
          | inl next ↦ elim (at_most (rows + rows_in named.1.how) 65536) [
            | inl few ↦ inr (record { row = named.1; rest = rest; stands = rw next at stands; few = few })
            | inr many ↦ inl (with_many (record { row = named.1; more = rest; stands = rw next at stands; many = many }))
          ]
        ]

abbrev Answered : ℕ → List ℕ → Type 0
Answered format text = (answer : Result Strategy TextFault) × IsAnswer format text answer

stopped : (format : ℕ) (text : List ℕ) (states : ℕ) (rows : List Row) (rest : List ℕ) → Begins format text states rows rest → Stopped format (length rows) (row_count rows) rest → Answered format text
stopped format text states rows rest front (with_none h) = (Err (Line (length rows + 3)), no_row states rows rest front h.over h.row)
stopped format text states rows rest front (with_end e) = (Ok (record { states = states; rows = rows }), front_end format text states rows rest front e)
stopped format text states rows rest front (with_more h) = (Err (Line (length rows + 4)), no_end states rows rest h.more front h.text h.some)
stopped format text states rows rest front (with_another h) = (Err (Order (length rows + 3)), no_order states rows rest h.number h.row h.more front h.stands h.differs)
stopped format text states rows rest front (with_many h) = (Err (Limit (length rows + 3)), no_room states rows rest (length rows) h.row h.more front h.stands refl h.many)

rows_answered : (fuel format : ℕ) (text : List ℕ) (states : ℕ) (rows : List Row) (rest : List ℕ) → length rest < fuel → Begins format text states rows rest → Answered format text
rows_answered zero format text states rows rest short front = absurd (omega (arith, short))
rows_answered (suc fuel) format text states rows rest short front =
    elim (step format (length rows) (row_count rows) rest) [
      | inl s ↦ stopped format text states rows rest front s
      | inr g ↦
          let shorter = row_shortens format rest (length rows) g.row g.rest g.stands in
          rows_answered fuel format text states (rows ++ g.row ∷ []) g.rest (omega (arith, shorter, short)) (front_next format text states rows rest g.rest g.row front g.stands g.few)
    ]

pub some_answer : (format : ℕ) (text : List ℕ) → Answered format text
some_answer format text =
    elim (begins_or_not (head_line format) text) [
      | inr none ↦ (Err (Line 1), no_head none)
      | inl p ↦ elim (search_below (λ n. (more : List ℕ) × (p.0 ≡ states_line n ++ more)) (λ n. decided n p.0) (2 ^ 16)) [
        | inr none ↦ (Err (Line 2), no_states p.0 p.1 (λ states more small e. none states small (more, e)))
        | inl q ↦ rows_answered (suc (length q.2.0)) format text q.0 [] q.2.0 (omega arith) (front_first format text p.0 q.2.0 q.0 q.1 p.1 q.2.1)
      ]
    ]
  where
    decided : (n : ℕ) (rest : List ℕ) → ((more : List ℕ) × (rest ≡ states_line n ++ more)) ⊎ (((more : List ℕ) × (rest ≡ states_line n ++ more)) → ⊥)
    decided n rest = elim (begins_or_not (states_line n) rest) [ inl p ↦ inl p | inr none ↦ inr (λ q. none q.0 q.1) ]
