-- Lines as they are put.
use Rattle.std.proofs.Common.{◌≡◌, ℕ, zero, suc, ◌+◌, List, [], ◌∷◌, ◌++◌, Bool, true, false, cond, Some, take, refl, sym, ap, ◌∙◌, arith, append-nil, append_assoc, add-one}
use Rattle.std.specs.List.{flat_map}
use Rattle.std.specs.Prelude.{◌==◌, codes, slice_get}
use Rattle.std.proofs.lemmas.Option.{same_Some, none-some}
use Rattle.std.specs.Fmt.{decimal}
use Rattle.cw_certs.specs.Strategies.{Row, Strategy}
use Rattle.cw_core.specs.Numerals.{hexadecimal, hexadecimal_digits}
use Rattle.cw_core.specs.Ranges.{set_spelling}
use Rattle.cw_text.specs.Lines.{line, joined, set_text, states_line, end_line}
use Rattle.cw_strategy_text.specs.StrategyText.{head_line, how_fields, row_line, row_lines, strategy_text}
use Rattle.cw_strategy_text.specs.Fields.{put_line}

-- joined fields are the first, and each of the others after the separator
joined-after : (separator : ℕ) (field : List ℕ) (fields : List (List ℕ)) → joined separator (field ∷ fields) ≡ field ++ flat_map (λ (w : List ℕ). separator ∷ w) fields
joined-after separator field [] = sym (append-nil field)
joined-after separator field (next ∷ fields) = ap (λ (t : List ℕ). field ++ (separator ∷ t)) (joined-after separator next fields)

pub row_line-put : (format number : ℕ) (r : Row) → row_line format number r ≡ put_line format number r
unfolding row_line
row_line-put format number r = ap line (joined-after 32 (decimal number) (decimal r.pos ∷ decimal r.state ∷ set_text format r.aim ∷ how_fields r.how))

-- the lines of one row more
pub more_lines : (format n : ℕ) (rows : List Row) (i : ℕ) (r : Row) → slice_get rows i ≡ Some r
    → row_lines format n (take (suc i) rows) ≡ row_lines format n (take i rows) ++ row_line format (n + i) r
unfolding row_lines
more_lines format n [] i r at = absurd (none-some r at)
more_lines format n (y ∷ ys) zero r at =
    let e : n + 0 ≡ n = omega arith in
    rw e (append-nil (row_line format n y) ∙ ap (row_line format n) (same_Some y r at))
more_lines format n (y ∷ ys) (suc i) r at =
    let e : (n + 1) + i ≡ n + suc i = omega arith in
    ap (λ (t : List ℕ). row_line format n y ++ t)
    (more_lines format (n + 1) ys i r at ∙ ap (λ (k : ℕ). row_lines format (n + 1) (take i ys) ++ row_line format k r) e)
    ∙ sym (append_assoc (row_line format n y) (row_lines format (n + 1) (take i ys)) (row_line format (n + suc i) r))

-- one row more is put
pub lines_step : (format : ℕ) (old now new : List ℕ) (rows : List Row) (i : ℕ) (r : Row) → now ≡ old ++ row_lines format 0 (take i rows)
    → new ≡ now ++ row_line format i r → slice_get rows i ≡ Some r → new ≡ old ++ row_lines format 0 (take (i + 1) rows)
lines_step format old now new rows i r so_far put at =
    let e : 0 + i ≡ i = omega arith in
    let step : row_lines format 0 (take (i + 1) rows) ≡ row_lines format 0 (take i rows) ++ row_line format i r =
    rw add-one (more_lines format 0 rows i r at ∙ ap (λ (k : ℕ). row_lines format 0 (take i rows) ++ row_line format k r) e) in
    put ∙ ap (λ (t : List ℕ). t ++ row_line format i r) so_far ∙ append_assoc old (row_lines format 0 (take i rows)) (row_line format i r)
    ∙ ap (λ (t : List ℕ). old ++ t) (sym step)

-- a row's line, put piece by piece
line_put : (format number : ℕ) (r : Row) (old first second third whole : List ℕ) → first ≡ old ++ decimal number
    → second ≡ first ++ flat_map (λ (w : List ℕ). 32 ∷ w) (decimal r.pos ∷ decimal r.state ∷ set_text format r.aim ∷ [])
    → third ≡ second ++ flat_map (λ (w : List ℕ). 32 ∷ w) (how_fields r.how) → whole ≡ third ++ codes "\n" → whole ≡ old ++ put_line format number r
line_put format number r old first second third whole e f g h =
    h
    ∙ ap (λ (t : List ℕ). t ++ codes "\n")
    (g
    ∙ ap (λ (t : List ℕ). t ++ flat_map (λ (w : List ℕ). 32 ∷ w) (how_fields r.how))
    (f ∙ ap (λ (t : List ℕ). t ++ flat_map (λ (w : List ℕ). 32 ∷ w) (decimal r.pos ∷ decimal r.state ∷ set_text format r.aim ∷ [])) e)
    ∙ pieces old (decimal number) (decimal r.pos) (decimal r.state) (set_text format r.aim) (flat_map (λ (w : List ℕ). 32 ∷ w) (how_fields r.how)))
    ∙ append_assoc old (decimal number ++ flat_map (λ (w : List ℕ). 32 ∷ w) (decimal r.pos ∷ decimal r.state ∷ set_text format r.aim ∷ how_fields r.how)) (codes "\n")
  where
    pieces : (old n a b d how : List ℕ) → ((old ++ n) ++ (32 ∷ (a ++ (32 ∷ (b ++ (32 ∷ (d ++ []))))))) ++ how ≡ old ++ (n ++ (32 ∷ (a ++ (32 ∷ (b ++ (32 ∷ (d ++ how)))))))
    pieces old n a b d how =
        append_assoc (old ++ n) (32 ∷ (a ++ (32 ∷ (b ++ (32 ∷ (d ++ [])))))) how
        ∙ ap (λ (t : List ℕ). (old ++ n) ++ (32 ∷ t)) (append_assoc a (32 ∷ (b ++ (32 ∷ (d ++ [])))) how
        ∙ ap (λ (t : List ℕ). a ++ (32 ∷ t)) (append_assoc b (32 ∷ (d ++ [])) how
        ∙ ap (λ (t : List ℕ). b ++ (32 ∷ t)) (append_assoc d [] how)))
        ∙ append_assoc old n (32 ∷ (a ++ (32 ∷ (b ++ (32 ∷ (d ++ how))))))

pub row_put : (format number : ℕ) (r : Row) (old first second third whole : List ℕ) → first ≡ old ++ decimal number
    → second ≡ first ++ flat_map (λ (w : List ℕ). 32 ∷ w) (decimal r.pos ∷ decimal r.state ∷ set_text format r.aim ∷ [])
    → third ≡ second ++ flat_map (λ (w : List ℕ). 32 ∷ w) (how_fields r.how) → whole ≡ third ++ codes "\n" → whole ≡ old ++ row_line format number r
row_put format number r old first second third whole e f g h =
    line_put format number r old first second third whole e f g h ∙ ap (λ (t : List ℕ). old ++ t) (sym (row_line-put format number r))

pub nothing_put : (format : ℕ) (text : List ℕ) → text ≡ text ++ row_lines format 0 []
unfolding row_lines
nothing_put format text = sym (append-nil text)

-- what stands before the rows, put piece by piece
head_regrouped : (t0 head format nl field states : List ℕ) → ((((t0 ++ head) ++ format) ++ (nl ++ (field ++ 32 ∷ []))) ++ states) ++ nl
    ≡ t0 ++ (((head ++ format) ++ nl) ++ ((field ++ (32 ∷ states)) ++ nl))
head_regrouped t0 head format nl field states = simp append_assoc

pub head_put : (format states : ℕ) (t0 t1 t2 t3 t4 t5 : List ℕ) → t1 ≡ t0 ++ codes "capweave strategy " → t2 ≡ t1 ++ decimal format → t3 ≡ t2 ++ codes "\nstates "
    → t4 ≡ t3 ++ decimal states → t5 ≡ t4 ++ codes "\n" → t5 ≡ t0 ++ (head_line format ++ states_line states)
unfolding head_line states_line
head_put format states t0 t1 t2 t3 t4 t5 h0 h1 h2 h3 h4 =
    rw (h4, h3, h2, h1, h0) (head_regrouped t0 (codes "capweave strategy ") (decimal format) (codes "\n") (codes "states") (decimal states))

-- a whole text, put in its parts
regrouped : (t0 head states rows end : List ℕ) → ((t0 ++ (head ++ states)) ++ rows) ++ end ≡ t0 ++ (head ++ (states ++ (rows ++ end)))
regrouped t0 head states rows end = simp append_assoc

pub strategy_put : (format : ℕ) (s : Strategy) (t0 t1 t2 t3 : List ℕ) → t1 ≡ t0 ++ (head_line format ++ states_line s.states) → t2 ≡ t1 ++ row_lines format 0 s.rows → t3 ≡ t2 ++ end_line
    → t3 ≡ t0 ++ strategy_text format s
unfolding strategy_text
strategy_put format s t0 t1 t2 t3 h0 h1 h2 = rw (h2, h1, h0) (regrouped t0 (head_line format) (states_line s.states) (row_lines format 0 s.rows) end_line)

-- the empty set is spelled the same in each format
same_or : (b : Bool) (text : List ℕ) → text ≡ cond b text text
same_or true text = refl
same_or false text = refl

pub empty_put : (format set : ℕ) (old new : List ℕ) → set ≡ 0 → new ≡ old ++ codes "0x0" → new ≡ old ++ set_text format set
unfolding set_text set_spelling hexadecimal hexadecimal_digits
empty_put format set old new none put = put ∙ ap (λ (l : List ℕ). old ++ l) (same_or (format == 2) (codes "0x0")) ∙ ap (λ (n : ℕ). old ++ set_text format n) (sym none)
