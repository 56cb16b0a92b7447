-- The fields of a row's line.
use Rattle.std.proofs.Common.{◌≡◌, ◌≢◌, ℕ, ◌+◌, ◌^◌, ◌<◌, Bool, true, eqb, List, [], ◌∷◌, ◌++◌, length, length-append, refl, sym, ap, ◌∙◌, arith, append-nil, append_assoc}
use Rattle.std.specs.Prelude.{None, Some, codes}
use Rattle.std.specs.Fmt.{decimal}
use Rattle.std.proofs.lemmas.Bool.{eqb-true}
use Rattle.cw_certs.specs.Strategies.{How, Row}
use Rattle.cw_text.specs.Lines.{IsFree, line, joined, fields_by, set_text, IsSetIn, Reads, end_line}
use Rattle.cw_text.proofs.Cuts.{fields-joined, joined-fields}
use Rattle.cw_text.proofs.Free.{one_line, joined_free}
use Rattle.cw_text_lines.proofs.Separated.{space, lf, name_free}
use Rattle.cw_strategy_text.specs.StrategyText.{how_fields, row_fields, row_line, FitsHow}
use Rattle.cw_strategy_text.specs.Fields.{row_text, FitsNamed}
use Rattle.cw_strategy_text.specs.Faults.{HasRow}
use Rattle.cw_strategy_text.specs.Steps.{HasNone}
use Rattle.cw_strategy_text.proofs.LineFields.{row_free, from_none}

pub fields_of_row : (format : ℕ) (named : ℕ × Row) (text : List ℕ) → FitsNamed format named → row_text format named ≡ text → fields_by 32 text ≡ row_fields format named.0 named.1
unfolding row_text
fields_of_row format named text fits e =
    rw (sym e) (fields-joined 32 (decimal named.0) (decimal named.1.pos ∷ decimal named.1.state ∷ set_text format named.1.aim ∷ how_fields named.1.how)
    (row_free 32 space format named.0 named.1 fits.number fits.row))

pub no_row_head : (format : ℕ) (text : List ℕ)
    → ((number pos state aim : ℕ) (rest : List (List ℕ)) → number < 2 ^ 32 → pos < 2 ^ 32 → state < 2 ^ 16 → IsSetIn format aim
    → fields_by 32 text ≢ decimal number ∷ decimal pos ∷ decimal state ∷ set_text format aim ∷ rest)
    → Reads (FitsNamed format) (row_text format) text None
no_row_head format text none = record {
  some = tt;
  none = λ named fits e. none named.0 named.1.pos named.1.state named.1.aim (how_fields named.1.how) fits.number fits.row.pos fits.row.state fits.row.aim (fields_of_row format named text fits e);
}

past_head : List (List ℕ) → List (List ℕ)
past_head [] = []
past_head (a ∷ []) = []
past_head (a ∷ b ∷ []) = []
past_head (a ∷ b ∷ d ∷ []) = []
past_head (a ∷ b ∷ d ∷ e ∷ rest) = rest

pub no_how : (format : ℕ) (text : List ℕ) (number pos state aim : ℕ) (left : List (List ℕ))
    → fields_by 32 text ≡ decimal number ∷ decimal pos ∷ decimal state ∷ set_text format aim ∷ left → Reads FitsHow how_fields left None
    → Reads (FitsNamed format) (row_text format) text None
unfolding past_head
no_how format text number pos state aim left is reads = record {
  some = tt;
  none = λ named fits e. reads.none named.1.how fits.row.how (ap past_head (sym (fields_of_row format named text fits e) ∙ is));
}

pub a_row : (format : ℕ) (text : List ℕ) (number pos state aim : ℕ) (left : List (List ℕ)) (how : How) → number < 2 ^ 32 → pos < 2 ^ 32 → state < 2 ^ 16 → IsSetIn format aim
    → fields_by 32 text ≡ decimal number ∷ decimal pos ∷ decimal state ∷ set_text format aim ∷ left → Reads FitsHow how_fields left (Some how)
    → Reads (FitsNamed format) (row_text format) text (Some (number, record { pos = pos; state = state; aim = aim; how = how }))
unfolding row_text
a_row format text number pos state aim left how small place low set is reads = record {
  some = (
    record { number = small; row = record { pos = place; state = low; aim = set; how = reads.some.0 } },
    ap (λ (ws : List (List ℕ)). joined 32 (decimal number ∷ decimal pos ∷ decimal state ∷ set_text format aim ∷ ws)) reads.some.1 ∙ sym (ap (joined 32) is) ∙ joined-fields 32 text,
  );
  none = tt;
}

-- ---- lines

row_line-text : (format number : ℕ) (r : Row) → row_line format number r ≡ line (row_text format (number, r))
unfolding row_line row_text
row_line-text format number r = refl

pub line_of_row : (format number : ℕ) (r : Row) (more : List ℕ) → row_line format number r ++ more ≡ row_text format (number, r) ++ (10 ∷ more)
line_of_row format number r more = rw (row_line-text format number r) (append_assoc (row_text format (number, r)) (codes "\n") more)

pub line_of_end : (more : List ℕ) → end_line ++ more ≡ codes "end" ++ (10 ∷ more)
unfolding end_line
line_of_end more = refl

pub row_text_free : (format : ℕ) (named : ℕ × Row) → FitsNamed format named → IsFree 10 (row_text format named)
unfolding row_text
row_text_free format named fits = joined_free 32 10 refl (row_fields format named.0 named.1) (row_free 10 lf format named.0 named.1 fits.number fits.row)

-- a text without LF begins neither with the end nor with a row
pub none_at_all : (format : ℕ) (text : List ℕ) → IsFree 10 text → HasNone format text
unfolding row_line end_line
none_at_all format text free = record {
  over = λ more e. from_none text more (codes "end" ∷ []) free e;
  row = λ number r more h. from_none text more (row_fields format number r) free h.spelled;
}

pub end_stands : (text l rest : List ℕ) → text ≡ l ++ (10 ∷ rest) → l ≡ codes "end" → text ≡ end_line ++ rest
end_stands text l rest e is = e ∙ ap (λ (t : List ℕ). t ++ (10 ∷ rest)) is ∙ sym (line_of_end rest)

pub end_free : IsFree 10 (codes "end")
end_free = name_free 10 lf (codes "end") refl

pub none_here : (format : ℕ) (text l rest : List ℕ) → text ≡ l ++ (10 ∷ rest) → IsFree 10 l → (l ≡ codes "end" → ⊥) → Reads (FitsNamed format) (row_text format) l None → HasNone format text
none_here format text l rest e free differs reads = record {
  over = λ more is. differs (one_line 10 l (codes "end") rest more free end_free (sym e ∙ is ∙ line_of_end more)).0;
  row = λ number r more h.
      let fits : FitsNamed format (number, r) = record { number = h.small; row = h.fits } in
      reads.none (number, r) fits (sym (one_line 10 l (row_text format (number, r)) rest more free (row_text_free format (number, r) fits) (sym e ∙ h.spelled ∙ line_of_row format number r more)).0);
}

pub row_here : (format : ℕ) (text l rest : List ℕ) (number : ℕ) (r : Row) → text ≡ l ++ (10 ∷ rest) → Reads (FitsNamed format) (row_text format) l (Some (number, r)) → HasRow format text number r rest
row_here format text l rest number r e reads = record {
  small = reads.some.0.number;
  fits = reads.some.0.row;
  spelled = e ∙ ap (λ (t : List ℕ). t ++ (10 ∷ rest)) (sym reads.some.1) ∙ sym (line_of_row format number r rest);
}

-- ---- what is left of a text, by the test whether that is nothing

pub no_bytes : (text bytes : List ℕ) (is_empty : Bool) → is_empty ≡ eqb (length bytes) 0 → is_empty ≡ true → text ≡ end_line ++ bytes → text ≡ end_line
no_bytes text [] is_empty e is stands = stands ∙ append-nil end_line
no_bytes text (b ∷ bytes) is_empty e is stands = absurd (let p = eqb-true (length (b ∷ bytes)) 0 (sym e ∙ is) in omega (arith, p))

-- a row's line is no empty text
pub row_shortens : (format : ℕ) (text : List ℕ) (number : ℕ) (r : Row) (more : List ℕ) → HasRow format text number r more → length more < length text
row_shortens format text number r more h =
    let e : length text ≡ length (row_text format (number, r)) + length (10 ∷ more) = ap length (h.spelled ∙ line_of_row format number r more)
    ∙ length-append (row_text format (number, r)) (10 ∷ more) in
    omega (arith, e)
