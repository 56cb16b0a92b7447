-- The fields of the lines of a strategy's text, and lines as fields.
use Rattle.std.proofs.Common.{◌≡◌, ℕ, ◌+◌, ◌^◌, ◌<◌, List, [], ◌∷◌, ◌++◌, map, refl, sym, ap, ◌∙◌, arith}
use Rattle.std.specs.Prelude.{codes}
use Rattle.std.specs.Fmt.{decimal}
use Rattle.std.specs.List.{All}
use Rattle.std.proofs.lemmas.Fmt.{decimal_injective}
use Rattle.std.proofs.lemmas.List.Elements.{All-nil, All-cons}
use Rattle.cw_certs.specs.Strategies.{How, Bad, Out, Both, Go, Into, Row}
use Rattle.cw_text.specs.Lines.{IsFree, line, joined, fields_by, set_text, states_line}
use Rattle.cw_text.specs.Moves.{move_name}
use Rattle.cw_text.proofs.Cuts.{fields-joined, joined-fields}
use Rattle.cw_text.proofs.Free.{one_line, no_line, set_text_free, joined_free}
use Rattle.cw_text_lines.proofs.Separated.{Separates, space, lf, name_free, number_free, move_free, one_free}
use Rattle.cw_text_lines.proofs.Starts.{line_end}
use Rattle.cw_strategy_text.specs.StrategyText.{back_field, how_fields, row_fields, head_line, AreBacks, FitsHow, FitsRow}

-- ---- fields without the separator

two : (separator : ℕ) (a b : List ℕ) → IsFree separator a → IsFree separator b → All (IsFree separator) (a ∷ b ∷ [])
two separator a b free also = All-cons (IsFree separator) a (b ∷ []) free (one_free separator b also)

pub back_free : (separator : ℕ) → Separates separator → (back : ℕ × ℕ) → back.0 < 2 ^ 16 → back.1 < 2 ^ 32 → IsFree separator (back_field back)
back_free separator s back state row =
    joined_free 61 separator s.equals (decimal back.0 ∷ decimal back.1 ∷ []) (two separator (decimal back.0) (decimal back.1) (number_free separator s back.0 (omega (arith, state))) (number_free separator s back.1 row))

pub backs_free : (separator : ℕ) → Separates separator → (low : ℕ) (backs : List (ℕ × ℕ)) → AreBacks low backs → All (IsFree separator) (map back_field backs)
backs_free separator s low [] fits = All-nil (IsFree separator)
backs_free separator s low (back ∷ backs) fits = All-cons (IsFree separator) (back_field back) (map back_field backs) (back_free separator s back fits.1 fits.2) (backs_free separator s (back.0 + 1) backs fits.3)

pub how_free : (separator : ℕ) → Separates separator → (how : How) → FitsHow how → All (IsFree separator) (how_fields how)
how_free separator s Bad fits = one_free separator (codes "bad") (name_free separator s (codes "bad") refl)
how_free separator s Out fits = one_free separator (codes "out") (name_free separator s (codes "out") refl)
how_free separator s (Both skip tried) fits =
    All-cons (IsFree separator) (codes "both") (decimal skip ∷ decimal tried ∷ []) (name_free separator s (codes "both") refl)
    (two separator (decimal skip) (decimal tried) (number_free separator s skip fits.0) (number_free separator s tried fits.1))
how_free separator s (Go by row) fits = two separator (move_name by) (decimal row) (move_free separator s by fits.0) (number_free separator s row fits.1)
how_free separator s (Into callee backs) fits =
    All-cons (IsFree separator) (codes "into") (decimal callee ∷ map back_field backs) (name_free separator s (codes "into") refl)
    (All-cons (IsFree separator) (decimal callee) (map back_field backs) (number_free separator s callee fits.0) (backs_free separator s 0 backs fits.1))

pub row_free : (separator : ℕ) → Separates separator → (format number : ℕ) (r : Row) → number < 2 ^ 32 → FitsRow format r → All (IsFree separator) (row_fields format number r)
row_free separator s format number r small fits =
    All-cons (IsFree separator) (decimal number) (decimal r.pos ∷ decimal r.state ∷ set_text format r.aim ∷ how_fields r.how) (number_free separator s number small)
    (All-cons (IsFree separator) (decimal r.pos) (decimal r.state ∷ set_text format r.aim ∷ how_fields r.how) (number_free separator s r.pos fits.pos)
    (All-cons (IsFree separator) (decimal r.state) (set_text format r.aim ∷ how_fields r.how) (number_free separator s r.state (let p = fits.state in omega (arith, p)))
    (All-cons (IsFree separator) (set_text format r.aim) (how_fields r.how) (set_text_free separator format r.aim s.letter fits.aim) (how_free separator s r.how fits.how))))

-- ---- lines as fields

-- a line that has these fields
pub to_line : (text l rest : List ℕ) (fields : List (List ℕ)) → text ≡ l ++ (10 ∷ rest) → fields_by 32 l ≡ fields → text ≡ line (joined 32 fields) ++ rest
to_line text l rest fields e is =
    let same : l ≡ joined 32 fields = sym (joined-fields 32 l) ∙ ap (joined 32) is in
    e ∙ ap (λ (t : List ℕ). t ++ (10 ∷ rest)) same ∙ sym (line_end (joined 32 fields) rest)

-- the fields of the line that the text begins with
pub from_line : (text l rest more : List ℕ) (field : List ℕ) (fields : List (List ℕ)) → text ≡ l ++ (10 ∷ rest) → IsFree 10 l → All (IsFree 10) (field ∷ fields) → All (IsFree 32) (field ∷ fields)
    → text ≡ line (joined 32 (field ∷ fields)) ++ more → (fields_by 32 l ≡ field ∷ fields) × (rest ≡ more)
from_line text l rest more field fields e free lfs spaces is =
    let p = one_line 10 l (joined 32 (field ∷ fields)) rest more free (joined_free 32 10 refl (field ∷ fields) lfs) (sym e ∙ is ∙ line_end (joined 32 (field ∷ fields)) more) in
    (ap (fields_by 32) p.0 ∙ fields-joined 32 field fields spaces, p.1)

-- a text without LF has no line
pub from_none : (text more : List ℕ) (fields : List (List ℕ)) → IsFree 10 text → text ≡ line (joined 32 fields) ++ more → ⊥
from_none text more fields free e = no_line 10 text (joined 32 fields) more free (e ∙ line_end (joined 32 fields) more)

-- ---- the first two lines

abbrev pub head_fields : ℕ → List (List ℕ)
head_fields format = codes "capweave" ∷ codes "strategy" ∷ decimal format ∷ []

abbrev pub states_fields : ℕ → List (List ℕ)
states_fields states = codes "states" ∷ decimal states ∷ []

pub head_free : (separator : ℕ) → Separates separator → (format : ℕ) → format < 2 ^ 32 → All (IsFree separator) (head_fields format)
head_free separator s format small =
    All-cons (IsFree separator) (codes "capweave") (codes "strategy" ∷ decimal format ∷ []) (name_free separator s (codes "capweave") refl)
    (two separator (codes "strategy") (decimal format) (name_free separator s (codes "strategy") refl) (number_free separator s format small))

pub states_free : (separator : ℕ) → Separates separator → (states : ℕ) → states < 2 ^ 32 → All (IsFree separator) (states_fields states)
states_free separator s states small = two separator (codes "states") (decimal states) (name_free separator s (codes "states") refl) (number_free separator s states small)

pub is_head_line : (format : ℕ) → head_line format ≡ line (joined 32 (head_fields format))
unfolding head_line
is_head_line format = refl

pub is_states_line : (states : ℕ) → states_line states ≡ line (joined 32 (states_fields states))
unfolding states_line
is_states_line states = refl

pub head_some : (text l rest : List ℕ) (format : ℕ) → text ≡ l ++ (10 ∷ rest) → fields_by 32 l ≡ head_fields format → text ≡ head_line format ++ rest
head_some text l rest format e is = rw (is_head_line format) (to_line text l rest (head_fields format) e is)

-- a text that begins with the head has its fields in its first line
pub head_from : (text l rest more : List ℕ) (format : ℕ) → format < 2 ^ 32 → text ≡ l ++ (10 ∷ rest) → IsFree 10 l → text ≡ head_line format ++ more
    → (fields_by 32 l ≡ head_fields format) × (rest ≡ more)
head_from text l rest more format small e free is =
    from_line text l rest more (codes "capweave") (codes "strategy" ∷ decimal format ∷ []) e free (head_free 10 lf format small) (head_free 32 space format small) (rw (is_head_line format) at is)

pub head_none : (text more : List ℕ) (format : ℕ) → IsFree 10 text → text ≡ head_line format ++ more → ⊥
head_none text more format free is = from_none text more (head_fields format) free (rw (is_head_line format) at is)

pub one_head : (a b : ℕ) → a < 2 ^ 8 → b < 2 ^ 8 → head_fields a ≡ head_fields b → a ≡ b
one_head a b small also e = decimal_injective a b (omega (arith, small)) (omega (arith, also)) (ap third e)
  where
    third : List (List ℕ) → List ℕ
    third [] = []
    third (x ∷ []) = []
    third (x ∷ y ∷ []) = []
    third (x ∷ y ∷ z ∷ zs) = z

pub states_some : (text l rest : List ℕ) (states : ℕ) → text ≡ l ++ (10 ∷ rest) → fields_by 32 l ≡ states_fields states → text ≡ states_line states ++ rest
states_some text l rest states e is = rw (is_states_line states) (to_line text l rest (states_fields states) e is)

pub states_from : (text l rest more : List ℕ) (states : ℕ) → states < 2 ^ 32 → text ≡ l ++ (10 ∷ rest) → IsFree 10 l → text ≡ states_line states ++ more
    → (fields_by 32 l ≡ states_fields states) × (rest ≡ more)
states_from text l rest more states small e free is =
    from_line text l rest more (codes "states") (decimal states ∷ []) e free (states_free 10 lf states small) (states_free 32 space states small) (rw (is_states_line states) at is)

pub states_none : (text more : List ℕ) (states : ℕ) → IsFree 10 text → text ≡ states_line states ++ more → ⊥
states_none text more states free is = from_none text more (states_fields states) free (rw (is_states_line states) at is)
