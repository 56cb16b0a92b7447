-- One row at most has a line, and no row's line is the end.
use Rattle.std.proofs.Common.{◌≡◌, ℕ, ◌+◌, ◌^◌, ◌<◌, List, [], ◌∷◌, ◌++◌, length, map, refl, sym, ap, ◌∙◌, arith}
use Rattle.std.specs.Prelude.{codes}
use Rattle.std.specs.Fmt.{decimal}
use Rattle.std.proofs.lemmas.List.{append_cancel_left}
use Rattle.cw_certs.specs.Strategies.{How, Bad, Out, Both, Go, Into, Row}
use Rattle.cw_text.specs.Lines.{joined, fields_by, states_line, end_line}
use Rattle.cw_text.proofs.Free.{one_line, joined_free}
use Rattle.cw_text.proofs.Cuts.{fields-joined}
use Rattle.cw_text.proofs.OneSet.{one_set_text}
use Rattle.cw_text_lines.proofs.Separated.{space, lf, one_number}
use Rattle.cw_text_lines.proofs.Starts.{line_end}
use Rattle.cw_strategy_text.specs.StrategyText.{back_field, how_fields, row_fields, AreBacks, FitsHow, FitsRow}
use Rattle.cw_strategy_text.specs.Fields.{kind_of_how, kind_field, rest_fields, row_text, FitsNamed}
use Rattle.cw_strategy_text.specs.Faults.{HasRow}
use Rattle.cw_strategy_text.proofs.Backs.{one_back}
use Rattle.cw_strategy_text.proofs.Hows.{one_kind, first_field, how_fields-kind}
use Rattle.cw_strategy_text.proofs.LineFields.{states_free, states_fields, is_states_line}
use Rattle.cw_strategy_text.proofs.RowLines.{fields_of_row, line_of_row, line_of_end, row_text_free, end_free}

head : List (List ℕ) → List ℕ
head [] = []
head (x ∷ xs) = x

tail : List (List ℕ) → List (List ℕ)
tail [] = []
tail (x ∷ xs) = xs

one_backs : (low high : ℕ) (xs ys : List (ℕ × ℕ)) → AreBacks low xs → AreBacks high ys → map back_field xs ≡ map back_field ys → xs ≡ ys
unfolding head tail
one_backs low high [] [] fits also e = refl
one_backs low high [] (y ∷ ys) fits also e = absurd (omega (arith, ap length e))
one_backs low high (x ∷ xs) [] fits also e = absurd (omega (arith, ap length e))
one_backs low high (x ∷ xs) (y ∷ ys) fits also e =
    let first : x ≡ y = one_back x y (fits.1, fits.2) (also.1, also.2) (ap head e) in
    let rest : xs ≡ ys = one_backs (x.0 + 1) (y.0 + 1) xs ys fits.3 also.3 (ap tail e) in
    rw (first, rest) refl

same_both : (s t u v : ℕ) → s ≡ u → t ≡ v → ◌≡◌ {A = How} (Both s t) (Both u v)
same_both s t u v e f = rw (e, f) refl

same_into : (c d : ℕ) (xs ys : List (ℕ × ℕ)) → c ≡ d → xs ≡ ys → ◌≡◌ {A = How} (Into c xs) (Into d ys)
same_into c d xs ys e f = rw (e, f) refl

-- of one kind, with the same other fields
one_rest : (a b : How) → FitsHow a → FitsHow b → kind_of_how a ≡ kind_of_how b → rest_fields a ≡ rest_fields b → a ≡ b
unfolding head tail
one_rest Bad Bad fits also k e = refl
one_rest Bad Out fits also k e = absurd (cc)
one_rest Bad (Both s t) fits also k e = absurd (cc)
one_rest Bad (Go by row) fits also k e = absurd (cc)
one_rest Bad (Into c bs) fits also k e = absurd (cc)
one_rest Out Bad fits also k e = absurd (cc)
one_rest Out Out fits also k e = refl
one_rest Out (Both s t) fits also k e = absurd (cc)
one_rest Out (Go by row) fits also k e = absurd (cc)
one_rest Out (Into c bs) fits also k e = absurd (cc)
one_rest (Both s t) Bad fits also k e = absurd (cc)
one_rest (Both s t) Out fits also k e = absurd (cc)
one_rest (Both s t) (Both u v) fits also k e = same_both s t u v (one_number s u fits.0 also.0 (ap head e)) (one_number t v fits.1 also.1 (ap (λ ws. head (tail ws)) e))
one_rest (Both s t) (Go by row) fits also k e = absurd (cc)
one_rest (Both s t) (Into c bs) fits also k e = absurd (cc)
one_rest (Go by row) Bad fits also k e = absurd (cc)
one_rest (Go by row) Out fits also k e = absurd (cc)
one_rest (Go by row) (Both s t) fits also k e = absurd (cc)
one_rest (Go by row) (Go way after) fits also k e = let same : row ≡ after = one_number row after fits.1 also.1 (ap head e) in let one : by ≡ way = cc in rw (one, same) refl
one_rest (Go by row) (Into c bs) fits also k e = absurd (cc)
one_rest (Into c bs) Bad fits also k e = absurd (cc)
one_rest (Into c bs) Out fits also k e = absurd (cc)
one_rest (Into c bs) (Both s t) fits also k e = absurd (cc)
one_rest (Into c bs) (Go by row) fits also k e = absurd (cc)
one_rest (Into c bs) (Into d ds) fits also k e = same_into c d bs ds (one_number c d fits.0 also.0 (ap head e)) (one_backs 0 0 bs ds fits.1 also.1 (ap tail e))

one_how : (a b : How) → FitsHow a → FitsHow b → how_fields a ≡ how_fields b → a ≡ b
one_how a b fits also e =
    let p = first_field a (kind_field (kind_of_how b)) (rest_fields b) (e ∙ how_fields-kind b) in
    one_rest a b fits also (one_kind (kind_of_how a) (kind_of_how b) p.0) p.1

same_row : (a b : Row) → a.pos ≡ b.pos → a.state ≡ b.state → a.aim ≡ b.aim → a.how ≡ b.how → a ≡ b
same_row a b e f g h = rw (e, f, g, h) refl

one_fields : (format number other : ℕ) (a b : Row) → number < 2 ^ 32 → other < 2 ^ 32 → FitsRow format a → FitsRow format b → row_fields format number a ≡ row_fields format other b
    → (number ≡ other) × (a ≡ b)
unfolding head tail
one_fields format number other a b small low fits also e =
    let second : tail (row_fields format number a) ≡ tail (row_fields format other b) = ap tail e in
    let third = ap tail second in
    let fourth = ap tail third in (
      one_number number other small low (ap head e),
      same_row a b (one_number a.pos b.pos fits.pos also.pos (ap head second))
          (one_number a.state b.state (let p = fits.state in omega (arith, p)) (let p = also.state in omega (arith, p)) (ap head third))
          (one_set_text format a.aim b.aim fits.aim also.aim (ap head fourth))
          (one_how a.how b.how fits.how also.how (ap tail fourth)),
    )

-- a text begins with the line of one row at most
pub one_row : (format : ℕ) (text : List ℕ) (number other : ℕ) (a b : Row) (rest more : List ℕ) → HasRow format text number a rest → HasRow format text other b more
    → (number ≡ other) × (a ≡ b) × (rest ≡ more)
one_row format text number other a b rest more h k =
    let fits : FitsNamed format (number, a) = record { number = h.small; row = h.fits } in
    let also : FitsNamed format (other, b) = record { number = k.small; row = k.fits } in
    let p = one_line 10 (row_text format (number, a)) (row_text format (other, b)) rest more (row_text_free format (number, a) fits) (row_text_free format (other, b) also)
    (sym (line_of_row format number a rest) ∙ sym h.spelled ∙ k.spelled ∙ line_of_row format other b more) in
    let q = one_fields format number other a b h.small k.small h.fits k.fits
    (sym (fields_of_row format (number, a) (row_text format (number, a)) fits refl) ∙ ap (fields_by 32) p.0 ∙ fields_of_row format (other, b) (row_text format (other, b)) also refl) in
    (q.0, q.1, p.1)

-- no row's line is the end
pub no_end_row : (format : ℕ) (text : List ℕ) (number : ℕ) (r : Row) (rest more : List ℕ) → HasRow format text number r rest → text ≡ end_line ++ more → ⊥
no_end_row format text number r rest more h e =
    let fits : FitsNamed format (number, r) = record { number = h.small; row = h.fits } in
    let p = one_line 10 (row_text format (number, r)) (codes "end") rest more (row_text_free format (number, r) fits) end_free
    (sym (line_of_row format number r rest) ∙ sym h.spelled ∙ e ∙ line_of_end more) in
    let fields : row_fields format number r ≡ codes "end" ∷ [] = sym (fields_of_row format (number, r) (row_text format (number, r)) fits refl) ∙ ap (fields_by 32) p.0 in
    omega (arith, ap length fields)

pub one_end : (text rest more : List ℕ) → text ≡ end_line ++ rest → text ≡ end_line ++ more → rest ≡ more
one_end text rest more e f = append_cancel_left end_line rest more (sym e ∙ f)

-- a text begins with the line of one number of states at most
pub one_states : (text rest more : List ℕ) (a b : ℕ) → a < 2 ^ 16 → b < 2 ^ 16 → text ≡ states_line a ++ rest → text ≡ states_line b ++ more → (a ≡ b) × (rest ≡ more)
unfolding head tail
one_states text rest more a b small also e f =
    let p = one_line 10 (joined 32 (states_fields a)) (joined 32 (states_fields b)) rest more (joined_free 32 10 refl (states_fields a) (states_free 10 lf a (omega (arith, small))))
    (joined_free 32 10 refl (states_fields b) (states_free 10 lf b (omega (arith, also))))
    (sym (states_text a rest) ∙ sym e ∙ f ∙ states_text b more) in
    let fields : states_fields a ≡ states_fields b = sym (fields-joined 32 (codes "states") (decimal a ∷ []) (states_free 32 space a (omega (arith, small)))) ∙ ap (fields_by 32) p.0
    ∙ fields-joined 32 (codes "states") (decimal b ∷ []) (states_free 32 space b (omega (arith, also))) in
    (one_number a b (omega (arith, small)) (omega (arith, also)) (ap (λ ws. head (tail ws)) fields), p.1)
  where
    states_text : (n : ℕ) (t : List ℕ) → states_line n ++ t ≡ joined 32 (states_fields n) ++ (10 ∷ t)
    states_text n t = rw (is_states_line n) (line_end (joined 32 (states_fields n)) t)
