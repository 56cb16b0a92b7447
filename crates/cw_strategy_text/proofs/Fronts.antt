-- The first lines of a text, row after row.
use Rattle.std.proofs.Common.{◌≡◌, ℕ, suc, ◌+◌, ◌^◌, ◌<◌, ◌≤◌, List, [], ◌∷◌, ◌++◌, length, map, refl, sym, ap, ◌∙◌, arith, append-nil, append_assoc, inl, inr}
use Rattle.std.proofs.lemmas.List.{map-append, length-map}
use Rattle.std.proofs.lemmas.List.Elements.{All-nil, All-push}
use Rattle.cw_certs.specs.Strategies.{How, Bad, Out, Both, Go, Into, Row, row_of}
use Rattle.cw_certs.specs.declared.strategy.EnvRow.{EnvRow}
use Rattle.cw_text.specs.declared.fault.TextFault.{TextFault}
use Rattle.cw_text.specs.declared.fault.TextFault.TheVariants.{Line, Order, Limit, NoMemory}
use Rattle.cw_text.specs.Lines.{states_line, end_line}
use Rattle.cw_strategy_text.specs.StrategyText.{head_line, row_line, row_lines, strategy_text, rows_in, row_count, FitsRow, Spells}
use Rattle.cw_strategy_text.specs.Faults.{Begins, HasRow, IsCause, no_row, no_end, no_order, no_room}
use Rattle.cw_strategy_text.specs.Steps.{IsStepFault}

pub row_lines-append : (format n : ℕ) (rows : List Row) (r : Row) → row_lines format n (rows ++ r ∷ []) ≡ row_lines format n rows ++ row_line format (n + length rows) r
unfolding row_lines
row_lines-append format n [] r = let e : n + 0 ≡ n = omega arith in rw e (append-nil (row_line format n r))
row_lines-append format n (x ∷ rows) r =
    let e : (n + 1) + length rows ≡ n + suc (length rows) = omega arith in
    ap (λ (t : List ℕ). row_line format n x ++ t) (row_lines-append format (n + 1) rows r ∙ ap (λ (k : ℕ). row_lines format (n + 1) rows ++ row_line format k r) e)
    ∙ sym (append_assoc (row_line format n x) (row_lines format (n + 1) rows) (row_line format (n + suc (length rows)) r))

pub row_count-append : (rows : List Row) (r : Row) → row_count (rows ++ r ∷ []) ≡ row_count rows + rows_in r.how
unfolding row_count
row_count-append [] r = omega arith
row_count-append (x ∷ rows) r = let e = row_count-append rows r in omega (arith, e)

pub some_rows : (how : How) → 1 ≤ rows_in how
some_rows Bad = omega arith
some_rows Out = omega arith
some_rows (Both skip tried) = omega arith
some_rows (Go by row) = omega arith
some_rows (Into callee backs) = omega arith

-- each row is counted
pub rows_within : (rows : List Row) → length rows ≤ row_count rows
unfolding row_count
rows_within [] = omega arith
rows_within (r ∷ rows) = let p = rows_within rows in let q = some_rows r.how in omega (arith, p, q)

-- ---- fronts

pub front_first : (format : ℕ) (text after rest : List ℕ) (states : ℕ) → states < 2 ^ 16 → text ≡ head_line format ++ after → after ≡ states_line states ++ rest → Begins format text states [] rest
unfolding row_lines row_count
front_first format text after rest states small e is = record {
  fits = record { states = small; rows = All-nil (FitsRow format); few = omega arith };
  spelled = e ∙ ap (λ (t : List ℕ). head_line format ++ t) is;
}

pub front_next : (format : ℕ) (text : List ℕ) (states : ℕ) (rows : List Row) (rest more : List ℕ) (r : Row) → Begins format text states rows rest
    → HasRow format rest (length rows) r more → row_count rows + rows_in r.how ≤ 65536
    → Begins format text states (rows ++ r ∷ []) more
front_next format text states rows rest more r front stands few = record {
  fits = record {
    states = front.fits.states;
    rows = All-push (FitsRow format) rows r front.fits.rows stands.fits;
    few = let e = row_count-append rows r in omega (arith, e, few);
  };
  spelled =
      let zeroth : 0 + length rows ≡ length rows = omega arith in
      let both : row_lines format 0 (rows ++ r ∷ []) ≡ row_lines format 0 rows ++ row_line format (length rows) r = row_lines-append format 0 rows r
      ∙ ap (λ (k : ℕ). row_lines format 0 rows ++ row_line format k r) zeroth in
      front.spelled
      ∙ ap (λ (t : List ℕ). head_line format ++ (states_line states ++ t))
      (ap (λ (t : List ℕ). row_lines format 0 rows ++ t) stands.spelled
      ∙ sym (append_assoc (row_lines format 0 rows) (row_line format (length rows) r) more)
      ∙ ap (λ (t : List ℕ). t ++ more) (sym both));
}

pub front_end : (format : ℕ) (text : List ℕ) (states : ℕ) (rows : List Row) (rest : List ℕ) → Begins format text states rows rest → rest ≡ end_line
    → Spells format text (record { states = states; rows = rows })
unfolding strategy_text
front_end format text states rows rest front e = record {
  fits = front.fits;
  spelled = front.spelled ∙ ap (λ (t : List ℕ). head_line format ++ (states_line states ++ (row_lines format 0 rows ++ t))) e;
}

-- the fault of the rest is the fault of the text
pub front_fault : (format : ℕ) (text : List ℕ) (states : ℕ) (rows : List Row) (rest : List ℕ) (count : ℕ) (fault : TextFault) → Begins format text states rows rest
    → count ≡ row_count rows → IsStepFault format rest (length rows) count fault → IsCause format text fault
front_fault format text states rows rest count (Line n) front e (inl h) = rw h.0 (no_row states rows rest front h.1.over h.1.row)
front_fault format text states rows rest count (Line n) front e (inr h) = rw h.0 (no_end states rows rest h.1.more front h.1.text h.1.some)
front_fault format text states rows rest count (Order n) front e h = rw h.0 (no_order states rows rest h.1.number h.1.row h.1.more front h.1.stands h.1.differs)
front_fault format text states rows rest count (Limit n) front e h = rw h.0 (no_room states rows rest (length rows) h.1.row h.1.more front h.1.stands refl (let m = h.1.many in omega (arith, m, e)))
front_fault format text states rows rest count NoMemory front e h = tt

pub counted_first : 0 ≡ row_count []
unfolding row_count
counted_first = refl

-- ---- the program's rows

pub at_length : (rows : List EnvRow) (n : ℕ) → n ≡ length rows → n ≡ length (map row_of rows)
at_length rows n e = e ∙ sym (length-map rows row_of)

pub few_rows : (format : ℕ) (text : List ℕ) (states : ℕ) (rows : List EnvRow) (rest : List ℕ) (n : ℕ) → Begins format text states (map row_of rows) rest → n ≡ length rows → n ≤ 65536
few_rows format text states rows rest n front e = let p = rows_within (map row_of rows) in let q = front.fits.few in let l = at_length rows n e in omega (arith, p, q, l)

rows_more : (old new : List EnvRow) (r : EnvRow) → new ≡ old ++ r ∷ [] → map row_of new ≡ map row_of old ++ row_of r ∷ []
rows_more old new r e = ap (map row_of) e ∙ map-append row_of old (r ∷ [])

pub front_more : (format : ℕ) (text : List ℕ) (states : ℕ) (old new : List EnvRow) (rest more : List ℕ) (r : EnvRow) (n count : ℕ) → Begins format text states (map row_of old) rest
    → n ≡ length old → count ≡ row_count (map row_of old) → new ≡ old ++ r ∷ []
    → HasRow format rest n (row_of r) more → count + rows_in (row_of r).how ≤ 65536 → Begins format text states (map row_of new) more
front_more format text states old new rest more r n count front len counted e stands few =
    rw (rows_more old new r e) (front_next format text states (map row_of old) rest more (row_of r) front (rw (at_length old n len) at stands) (omega (arith, counted, few)))

pub count_more : (old new : List EnvRow) (r : EnvRow) (count added : ℕ) → count ≡ row_count (map row_of old) → added ≡ rows_in (row_of r).how → new ≡ old ++ r ∷ []
    → count + added ≡ row_count (map row_of new)
count_more old new r count added counted is e =
    let p = row_count-append (map row_of old) (row_of r) in
    let q : row_count (map row_of new) ≡ row_count (map row_of old ++ row_of r ∷ []) = ap row_count (rows_more old new r e) in
    omega (arith, p, q, counted, is)
