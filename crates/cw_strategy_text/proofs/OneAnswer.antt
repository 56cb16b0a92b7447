-- A text is that of one strategy, or has one fault, and not both.
use Rattle.std.proofs.Common.{◌≡◌, ◌≢◌, ℕ, suc, ◌+◌, ◌^◌, ◌<◌, ◌≤◌, ◌⊎◌, List, [], ◌∷◌, ◌++◌, length, refl, sym, ap, ◌∙◌, arith, append-nil, append_assoc, inl, inr}
use Rattle.std.specs.Prelude.{Result, Ok, Err, IfOk, IfErr, Bool, true, false}
use Rattle.std.specs.List.{All}
use Rattle.std.proofs.lemmas.Bool.{false≢true}
use Rattle.std.proofs.lemmas.List.{append_cancel_left}
use Rattle.std.proofs.lemmas.List.Elements.{All-head, All-tail}
use Rattle.cw_certs.specs.Strategies.{Row, Strategy, strategy_of}
use Rattle.cw_certs.specs.declared.strategy.EnvCert.{EnvCert}
use Rattle.cw_text.specs.declared.fault.TextFault.{TextFault}
use Rattle.cw_text.specs.declared.fault.TextFault.TheVariants.{Line, Order, Limit, NoMemory}
use Rattle.cw_text.specs.Lines.{states_line, end_line}
use Rattle.cw_strategy_text.specs.StrategyText.{head_line, row_line, row_lines, strategy_text, rows_in, row_count, FitsRow, Fits, Spells}
use Rattle.cw_strategy_text.specs.Faults.{Begins, HasRow, IsFault, IsCause, IsAnswer, no_head, no_states, no_row, no_end, no_order, no_room}
use Rattle.cw_strategy_text.specs.Steps.{HasNone, HasMore, HasAnother, HasTooMany}
use Rattle.cw_strategy_text.proofs.Fronts.{rows_within}
use Rattle.cw_strategy_text.proofs.OneRow.{one_row, one_end, one_states, no_end_row}

-- ---- where reading stops

data Stop : Type 0 where
  nothing : Stop
  over : Stop
  beyond : Stop
  another : Stop
  many : Stop

abbrev Stops : (format count rows : ℕ) → List ℕ → Stop → Type 0
Stops format count rows rest nothing = HasNone format rest
Stops format count rows rest over = rest ≡ end_line
Stops format count rows rest beyond = HasMore rest
Stops format count rows rest another = HasAnother format rest count
Stops format count rows rest many = HasTooMany format rest count rows

whole_end : (rest : List ℕ) → rest ≡ end_line → rest ≡ end_line ++ []
whole_end rest e = e ∙ sym (append-nil end_line)

-- there the next row doesn't stand
goes_on : (format count rows : ℕ) (rest : List ℕ) (k : Stop) → Stops format count rows rest k → (r : Row) (tail : List ℕ) → HasRow format rest count r tail → rows + rows_in r.how ≤ 65536 → ⊥
goes_on format count rows rest nothing s r tail h few = s.row count r tail h
goes_on format count rows rest over s r tail h few = no_end_row format rest count r tail [] h (whole_end rest s)
goes_on format count rows rest beyond s r tail h few = no_end_row format rest count r tail s.more h s.text
goes_on format count rows rest another s r tail h few = s.differs (one_row format rest s.number count s.row r s.more tail s.stands h).0
goes_on format count rows rest many s r tail h few =
    let same : s.row ≡ r = (one_row format rest count count s.row r s.more tail s.stands h).1 in
    let large = s.many in
    let equal : rows_in s.row.how ≡ rows_in r.how = ap (λ (x : Row). rows_in x.how) same in
    omega (arith, large, equal, few)

one_stop : (format count rows : ℕ) (rest : List ℕ) (k l : Stop) → Stops format count rows rest k → Stops format count rows rest l → k ≡ l
one_stop format count rows rest nothing nothing s t = refl
one_stop format count rows rest nothing over s t = absurd (s.over [] (whole_end rest t))
one_stop format count rows rest nothing beyond s t = absurd (s.over t.more t.text)
one_stop format count rows rest nothing another s t = absurd (s.row t.number t.row t.more t.stands)
one_stop format count rows rest nothing many s t = absurd (s.row count t.row t.more t.stands)
one_stop format count rows rest over nothing s t = absurd (t.over [] (whole_end rest s))
one_stop format count rows rest over over s t = refl
one_stop format count rows rest over beyond s t = absurd (t.some (one_end rest t.more [] t.text (whole_end rest s)))
one_stop format count rows rest over another s t = absurd (no_end_row format rest t.number t.row t.more [] t.stands (whole_end rest s))
one_stop format count rows rest over many s t = absurd (no_end_row format rest count t.row t.more [] t.stands (whole_end rest s))
one_stop format count rows rest beyond nothing s t = absurd (t.over s.more s.text)
one_stop format count rows rest beyond over s t = absurd (s.some (one_end rest s.more [] s.text (whole_end rest t)))
one_stop format count rows rest beyond beyond s t = refl
one_stop format count rows rest beyond another s t = absurd (no_end_row format rest t.number t.row t.more s.more t.stands s.text)
one_stop format count rows rest beyond many s t = absurd (no_end_row format rest count t.row t.more s.more t.stands s.text)
one_stop format count rows rest another nothing s t = absurd (t.row s.number s.row s.more s.stands)
one_stop format count rows rest another over s t = absurd (no_end_row format rest s.number s.row s.more [] s.stands (whole_end rest t))
one_stop format count rows rest another beyond s t = absurd (no_end_row format rest s.number s.row s.more t.more s.stands t.text)
one_stop format count rows rest another another s t = refl
one_stop format count rows rest another many s t = absurd (s.differs (one_row format rest s.number count s.row t.row s.more t.more s.stands t.stands).0)
one_stop format count rows rest many nothing s t = absurd (t.row count s.row s.more s.stands)
one_stop format count rows rest many over s t = absurd (no_end_row format rest count s.row s.more [] s.stands (whole_end rest t))
one_stop format count rows rest many beyond s t = absurd (no_end_row format rest count s.row s.more t.more s.stands t.text)
one_stop format count rows rest many another s t = absurd (t.differs (one_row format rest t.number count t.row s.row t.more s.more t.stands s.stands).0)
one_stop format count rows rest many many s t = refl

-- ---- how far two fronts go

record Further (format : ℕ) (shorter longer : List Row) (rest : List ℕ) (n : ℕ) : Type 0 where
  row : Row
  more : List Row
  both : longer ≡ shorter ++ (row ∷ more)
  tail : List ℕ
  stands : HasRow format rest (n + length shorter) row tail

at_once : (format n : ℕ) (r : Row) (rows : List Row) (rest more : List ℕ) → n + length (r ∷ rows) ≤ 65536 → All (FitsRow format) (r ∷ rows)
    → rest ≡ row_lines format n (r ∷ rows) ++ more → Further format [] (r ∷ rows) rest n
unfolding row_lines
at_once format n r rows rest more few fits e = record {
  row = r;
  more = rows;
  both = refl;
  tail = row_lines format (n + 1) rows ++ more;
  stands = let zeroth : n + 0 ≡ n = omega arith in rw zeroth (record {
    small = omega (arith, few);
    fits = All-head (FitsRow format) r rows fits;
    spelled = e ∙ append_assoc (row_line format n r) (row_lines format (n + 1) rows) more;
  });
}

later : (format n : ℕ) (r s : Row) (shorter longer : List Row) (rest : List ℕ) → r ≡ s → Further format shorter longer rest (n + 1) → Further format (r ∷ shorter) (s ∷ longer) rest n
later format n r s shorter longer rest e f = record {
  row = f.row;
  more = f.more;
  both = rw (e, f.both) refl;
  tail = f.tail;
  stands = let place : (n + 1) + length shorter ≡ n + suc (length shorter) = omega arith in rw place at f.stands;
}

first_row : (format n : ℕ) (r : Row) (rows : List Row) (rest : List ℕ) → n + length (r ∷ rows) ≤ 65536 → All (FitsRow format) (r ∷ rows)
    → HasRow format (row_lines format n (r ∷ rows) ++ rest) n r (row_lines format (n + 1) rows ++ rest)
unfolding row_lines
first_row format n r rows rest few fits = record {
  small = omega (arith, few);
  fits = All-head (FitsRow format) r rows fits;
  spelled = append_assoc (row_line format n r) (row_lines format (n + 1) rows) rest;
}

from_none : (format n : ℕ) (rest text : List ℕ) → row_lines format n [] ++ rest ≡ text → rest ≡ text
unfolding row_lines
from_none format n rest text e = e

walk : (format n : ℕ) (xs ys : List Row) (rest more : List ℕ) → n + length xs ≤ 65536 → n + length ys ≤ 65536 → All (FitsRow format) xs → All (FitsRow format) ys
    → row_lines format n xs ++ rest ≡ row_lines format n ys ++ more
    → ((xs ≡ ys) × (rest ≡ more)) ⊎ (Further format xs ys rest n ⊎ Further format ys xs more n)
walk format n [] [] rest more few also fits well e = inl (refl, append_cancel_left (row_lines format n []) rest more e)
walk format n [] (y ∷ ys) rest more few also fits well e = inr (inl (at_once format n y ys rest more also well (from_none format n rest (row_lines format n (y ∷ ys) ++ more) e)))
walk format n (x ∷ xs) [] rest more few also fits well e = inr (inr (at_once format n x xs more rest few fits (from_none format n more (row_lines format n (x ∷ xs) ++ rest) (sym e))))
walk format n (x ∷ xs) (y ∷ ys) rest more few also fits well e =
    let here = first_row format n x xs rest few fits in
    let there : HasRow format (row_lines format n (x ∷ xs) ++ rest) n y (row_lines format (n + 1) ys ++ more) = rw (sym e) at (first_row format n y ys more also well) in
    let same = one_row format (row_lines format n (x ∷ xs) ++ rest) n n x y (row_lines format (n + 1) xs ++ rest) (row_lines format (n + 1) ys ++ more) here there in
    elim (walk format (n + 1) xs ys rest more (omega (arith, few)) (omega (arith, also)) (All-tail (FitsRow format) x xs fits) (All-tail (FitsRow format) y ys well) same.2) [
      | inl p ↦ inl (rw (same.1, p.0) refl, p.1)
      | inr f ↦ elim f [
        | inl g ↦ inr (inl (later format n x y xs ys rest same.1 g))
        | inr g ↦ inr (inr (later format n y x ys xs more (sym same.1) g))
      ]
    ]

count-append : (xs ys : List Row) → row_count (xs ++ ys) ≡ row_count xs + row_count ys
unfolding row_count
count-append [] ys = omega arith
count-append (x ∷ xs) ys = let e = count-append xs ys in omega (arith, e)

count-cons : (r : Row) (rows : List Row) → row_count (r ∷ rows) ≡ rows_in r.how + row_count rows
unfolding row_count
count-cons r rows = refl

-- a front that stops isn't a part of another
stuck : (format : ℕ) (xs ys : List Row) (rest : List ℕ) (k : Stop) → Stops format (length xs) (row_count xs) rest k → Further format xs ys rest 0 → row_count ys ≤ 65536 → ⊥
stuck format xs ys rest k s f few =
    let zeroth : 0 + length xs ≡ length xs = omega arith in
    let counted : row_count ys ≡ row_count xs + row_count (f.row ∷ f.more) = ap row_count f.both ∙ count-append xs (f.row ∷ f.more) in
    let first = count-cons f.row f.more in
    goes_on format (length xs) (row_count xs) rest k s f.row f.tail (rw zeroth at f.stands) (omega (arith, counted, first, few))

one_front : (format : ℕ) (text : List ℕ) (s t : ℕ) (xs ys : List Row) (rest more : List ℕ) (k l : Stop) → Begins format text s xs rest → Begins format text t ys more
    → Stops format (length xs) (row_count xs) rest k → Stops format (length ys) (row_count ys) more l → (s ≡ t) × (xs ≡ ys) × (k ≡ l)
one_front format text s t xs ys rest more k l front other stop end =
    let after : states_line s ++ (row_lines format 0 xs ++ rest) ≡ states_line t ++ (row_lines format 0 ys ++ more) =
    append_cancel_left (head_line format) (states_line s ++ (row_lines format 0 xs ++ rest)) (states_line t ++ (row_lines format 0 ys ++ more)) (sym front.spelled ∙ other.spelled) in
    let states = one_states (states_line s ++ (row_lines format 0 xs ++ rest)) (row_lines format 0 xs ++ rest) (row_lines format 0 ys ++ more) s t front.fits.states other.fits.states refl after in
    let few = front.fits.few in
    let also = other.fits.few in
    let within = rows_within xs in
    let inside = rows_within ys in
    elim (walk format 0 xs ys rest more (omega (arith, few, within)) (omega (arith, also, inside)) front.fits.rows other.fits.rows states.1) [
      | inl p ↦ (states.0, p.0, one_stop format (length ys) (row_count ys) more k l (same_place xs ys rest more k p.0 p.1 stop) end)
      | inr f ↦ elim f [
        | inl g ↦ absurd (stuck format xs ys rest k stop g also)
        | inr g ↦ absurd (stuck format ys xs more l end g few)
      ]
    ]
  where
    same_place : (xs ys : List Row) (rest more : List ℕ) (k : Stop) → xs ≡ ys → rest ≡ more → Stops format (length xs) (row_count xs) rest k → Stops format (length ys) (row_count ys) more k
    same_place xs ys rest more k e f s = rw (e, f) at s

-- ---- answers

outcome : ℕ → List Row → Stop → Result Strategy TextFault
outcome states rows nothing = Err (Line (length rows + 3))
outcome states rows over = Ok (record { states = states; rows = rows })
outcome states rows beyond = Err (Line (length rows + 4))
outcome states rows another = Err (Order (length rows + 3))
outcome states rows many = Err (Limit (length rows + 3))

data Seen (format : ℕ) (text : List ℕ) : Result Strategy TextFault → Type 0 where
  at_head : ((rest : List ℕ) → text ≢ head_line format ++ rest) → Seen format text (Err (Line 1))
  at_states : (rest : List ℕ) → text ≡ head_line format ++ rest → ((states : ℕ) (more : List ℕ) → states < 2 ^ 16 → rest ≢ states_line states ++ more) → Seen format text (Err (Line 2))
  past : (states : ℕ) (rows : List Row) (rest : List ℕ) (k : Stop) → Begins format text states rows rest → Stops format (length rows) (row_count rows) rest k → Seen format text (outcome states rows k)

one_seen : (format : ℕ) (text : List ℕ) (a b : Result Strategy TextFault) → Seen format text a → Seen format text b → a ≡ b
one_seen format text a b (at_head h) (at_head g) = refl
one_seen format text a b (at_head h) (at_states rest e g) = absurd (h rest e)
one_seen format text a b (at_head h) (past t ys more l other end) = absurd (h (states_line t ++ (row_lines format 0 ys ++ more)) other.spelled)
one_seen format text a b (at_states rest e g) (at_head h) = absurd (h rest e)
one_seen format text a b (at_states rest e g) (at_states more f h) = refl
one_seen format text a b (at_states rest e g) (past t ys more l other end) =
    absurd (g t (row_lines format 0 ys ++ more) other.fits.states (append_cancel_left (head_line format) rest (states_line t ++ (row_lines format 0 ys ++ more)) (sym e ∙ other.spelled)))
one_seen format text a b (past s xs rest k front stop) (at_head h) = absurd (h (states_line s ++ (row_lines format 0 xs ++ rest)) front.spelled)
one_seen format text a b (past s xs rest k front stop) (at_states more e g) =
    absurd (g s (row_lines format 0 xs ++ rest) front.fits.states (append_cancel_left (head_line format) more (states_line s ++ (row_lines format 0 xs ++ rest)) (sym e ∙ front.spelled)))
one_seen format text a b (past s xs rest k front stop) (past t ys more l other end) =
    let p = one_front format text s t xs ys rest more k l front other stop end in
    rw (p.0, p.1, p.2) refl

spelled_begins : (format : ℕ) (text : List ℕ) (s : Strategy) → Spells format text s → Begins format text s.states s.rows end_line
unfolding strategy_text
spelled_begins format text s h = record { fits = h.fits; spelled = h.spelled }

seen_fault : (format : ℕ) (text : List ℕ) (fault : TextFault) → IsFault format text fault → Seen format text (Err fault)
unfolding outcome
seen_fault format text fault (no_head h) = at_head h
seen_fault format text fault (no_states rest e h) = at_states rest e h
seen_fault format text fault (no_row states rows rest front none row) = past states rows rest nothing front (record { over = none; row = row })
seen_fault format text fault (no_end states rows rest more front e some) = past states rows rest beyond front (record { more = more; text = e; some = some })
seen_fault format text fault (no_order states rows rest number row more front stands differs) =
    past states rows rest another front (record { number = number; row = row; more = more; stands = stands; differs = differs })
seen_fault format text fault (no_room states rows rest number row more front stands next large) =
    past states rows rest many front (record { row = row; more = more; stands = rw next at stands; many = large })

seen : (format : ℕ) (text : List ℕ) (a : Result Strategy TextFault) → IsAnswer format text a → Seen format text a
unfolding outcome
seen format text (Ok s) h = past s.states s.rows end_line over (spelled_begins format text s h) refl
seen format text (Err fault) h = seen_fault format text fault h

pub one_answer : (format : ℕ) (text : List ℕ) (a b : Result Strategy TextFault) → IsAnswer format text a → IsAnswer format text b → a ≡ b
one_answer format text a b h g = one_seen format text a b (seen format text a h) (seen format text b g)

-- ---- what is printed and read again

printed : (format : ℕ) (text : List ℕ) (s : Strategy) → text ≡ strategy_text format s → Fits format s → IsAnswer format text (Ok s)
printed format text s e fits = record { fits = fits; spelled = e }

same_ok : (a b : Strategy) → ◌≡◌ {A = Result Strategy TextFault} (Ok a) (Ok b) → a ≡ b
same_ok a b e = ap (strategy_or a) e
  where
    strategy_or : Strategy → Result Strategy TextFault → Strategy
    strategy_or other (Ok s) = s
    strategy_or other (Err fault) = other

pub again_same : (format : ℕ) (text : List ℕ) (s : Strategy) (read : Result EnvCert TextFault) → text ≡ strategy_text format s → Fits format s
    → IfOk read (λ cert. Spells format text (strategy_of cert)) → IfOk read (λ cert. strategy_of cert ≡ s)
again_same format text s (Ok cert) e fits h = same_ok (strategy_of cert) s (one_answer format text (Ok (strategy_of cert)) (Ok s) h (printed format text s e fits))
again_same format text s (Err fault) e fits h = tt

no_fault : (format : ℕ) (text : List ℕ) (s : Strategy) (fault : TextFault) → text ≡ strategy_text format s → Fits format s → IsFault format text fault → ⊥
no_fault format text s fault e fits h = absurd (false≢true (ap is_ok (one_answer format text (Err fault) (Ok s) h (printed format text s e fits))))
  where
    is_ok : Result Strategy TextFault → Bool
    is_ok (Ok t) = true
    is_ok (Err f) = false

pub again_memory : (format : ℕ) (text : List ℕ) (s : Strategy) (read : Result EnvCert TextFault) → text ≡ strategy_text format s → Fits format s
    → IfErr read (λ fault. IsCause format text fault) → IfErr read (λ fault. fault ≡ NoMemory)
again_memory format text s (Ok cert) e fits h = tt
again_memory format text s (Err (Line n)) e fits h = absurd (no_fault format text s (Line n) e fits h)
again_memory format text s (Err (Order n)) e fits h = absurd (no_fault format text s (Order n) e fits h)
again_memory format text s (Err (Limit n)) e fits h = absurd (no_fault format text s (Limit n) e fits h)
again_memory format text s (Err NoMemory) e fits h = refl
