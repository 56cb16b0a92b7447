-- A line's fields, and which line has them.
use Rattle.std.proofs.Common.{◌≡◌, ℕ, cond, List, [], ◌∷◌, ◌++◌, refl, sym, ap, ◌∙◌, subst, arith}
use Rattle.std.specs.Prelude.{None, Some, Option, codes, bytes_eq}
use Rattle.std.specs.List.{All}
use Rattle.std.specs.Char.{is_ascii_digit}
use Rattle.std.specs.Fmt.{decimal}
use Rattle.cw_certs.specs.declared.moves.Move.TheVariants.{Skip, Try, Grant, Refuse, On, Left, Right, Opened, Failed, Stop}
use Rattle.cw_text.specs.Lines.{IsFree, joined, fields_by, Reads}
use Rattle.cw_text.specs.Moves.{move_name}
use Rattle.cw_text.proofs.Names.{move_of}
use Rattle.cw_text.proofs.Cuts.{fields-joined, joined-fields}
use Rattle.cw_text.proofs.Free.{free_from_test, one_line, no_line, joined_free}
use Rattle.cw_text_lines.proofs.Separated.{Separates, space, lf, name_free, number_free, move_free, one_free, more_free, one_number}
use Rattle.cw_text_lines.proofs.Starts.{line_end}
use Rattle.cw_audit_text.specs.declared.text_line.TextLine.{TextLine}
use Rattle.cw_audit_text.specs.declared.text_line.TextLine.TheVariants.{Head, States, Meets, Violates, Go, In, At, End}
use Rattle.cw_audit_text.specs.declared.text_line.LineKind.{LineKind}
use Rattle.cw_audit_text.specs.declared.text_line.LineKind.TheVariants as kind
use Rattle.cw_audit_text.specs.TextLines.{line_fields, line_text, FitsLine}
use Rattle.cw_audit_text.specs.Faults.{StartsWith}
use Rattle.cw_audit_text.specs.Kinds.{kind_in, kind_field, rest_fields, FitsKind}

fields-kind : (l : TextLine) → line_fields l ≡ kind_field (kind_in l) ∷ rest_fields l
fields-kind Head = refl
fields-kind (States n) = refl
fields-kind Meets = refl
fields-kind (Violates T) = refl
fields-kind (Go by) = refl
fields-kind (In f q r) = refl
fields-kind (At p x a) = refl
fields-kind End = refl

fits_kind : (l : TextLine) → FitsLine l → FitsKind (kind_in l)
fits_kind Head fits = tt
fits_kind (States n) fits = tt
fits_kind Meets fits = tt
fits_kind (Violates T) fits = tt
fits_kind (Go by) fits = fits
fits_kind (In f q r) fits = tt
fits_kind (At p x a) fits = tt
fits_kind End fits = tt

-- the kind of a field
kind_from : List ℕ → LineKind
kind_from field =
    cond (bytes_eq field (codes "capweave")) kind.Head (cond (bytes_eq field (codes "states")) kind.States (cond (bytes_eq field (codes "meets")) kind.Meets
    (cond (bytes_eq field (codes "violates")) kind.Violates (cond (bytes_eq field (codes "in")) kind.In (cond (bytes_eq field (codes "at")) kind.At
    (cond (bytes_eq field (codes "end")) kind.End (kind.Go (move_of field))))))))

kind_back : (k : LineKind) → kind_from (kind_field k) ≡ k
unfolding kind_from move_of
kind_back kind.Head = refl
kind_back kind.States = refl
kind_back kind.Meets = refl
kind_back kind.Violates = refl
kind_back kind.In = refl
kind_back kind.At = refl
kind_back kind.End = refl
kind_back (kind.Go Skip) = refl
kind_back (kind.Go Try) = refl
kind_back (kind.Go Grant) = refl
kind_back (kind.Go Refuse) = refl
kind_back (kind.Go On) = refl
kind_back (kind.Go Left) = refl
kind_back (kind.Go Right) = refl
kind_back (kind.Go Opened) = refl
kind_back (kind.Go Failed) = refl
kind_back (kind.Go Stop) = refl

one_kind : (a b : LineKind) → kind_field a ≡ kind_field b → a ≡ b
one_kind a b e = sym (kind_back a) ∙ ap kind_from e ∙ kind_back b

first : List (List ℕ) → List ℕ
first [] = []
first (x ∷ xs) = x

others : List (List ℕ) → List (List ℕ)
others [] = []
others (x ∷ xs) = xs

first_field : (l : TextLine) (field : List ℕ) (rest : List (List ℕ)) → line_fields l ≡ field ∷ rest → (kind_field (kind_in l) ≡ field) × (rest_fields l ≡ rest)
unfolding first others
first_field l field rest e = let same : kind_field (kind_in l) ∷ rest_fields l ≡ field ∷ rest = sym (fields-kind l) ∙ e in (ap first same, ap others same)

pub no_kind : (whole : List (List ℕ)) (field : List ℕ) (rest : List (List ℕ)) → whole ≡ field ∷ rest → Reads FitsKind kind_field field None → Reads FitsLine line_fields whole None
no_kind whole field rest e reads = record { some = tt; none = λ l fits is. reads.none (kind_in l) (fits_kind l fits) (first_field l field rest (is ∙ e)).0 }

-- ---- fields without the separator

pub fields_free : (separator : ℕ) → Separates separator → (l : TextLine) → FitsLine l → All (IsFree separator) (line_fields l)
fields_free separator s Head fits =
    more_free separator (codes "capweave") (codes "audit" ∷ codes "1" ∷ []) (name_free separator s (codes "capweave") refl)
    (more_free separator (codes "audit") (codes "1" ∷ []) (name_free separator s (codes "audit") refl) (one_free separator (codes "1") (free_from_test is_ascii_digit separator (codes "1") s.digit refl)))
fields_free separator s (States n) fits = more_free separator (codes "states") (decimal n ∷ []) (name_free separator s (codes "states") refl) (one_free separator (decimal n) (number_free separator s n (omega (arith, fits))))
fields_free separator s Meets fits = one_free separator (codes "meets") (name_free separator s (codes "meets") refl)
fields_free separator s (Violates T) fits = more_free separator (codes "violates") (decimal T ∷ []) (name_free separator s (codes "violates") refl) (one_free separator (decimal T) (number_free separator s T fits))
fields_free separator s (Go by) fits = one_free separator (move_name by) (move_free separator s by fits)
fields_free separator s (In f q r) fits =
    more_free separator (codes "in") (decimal f ∷ decimal q ∷ decimal r ∷ []) (name_free separator s (codes "in") refl)
    (more_free separator (decimal f) (decimal q ∷ decimal r ∷ []) (number_free separator s f (omega (arith, fits.0)))
    (more_free separator (decimal q) (decimal r ∷ []) (number_free separator s q (omega (arith, fits.1))) (one_free separator (decimal r) (number_free separator s r fits.2))))
fields_free separator s (At p x a) fits =
    more_free separator (codes "at") (decimal p ∷ decimal x ∷ decimal a ∷ []) (name_free separator s (codes "at") refl)
    (more_free separator (decimal p) (decimal x ∷ decimal a ∷ []) (number_free separator s p fits.0)
    (more_free separator (decimal x) (decimal a ∷ []) (number_free separator s x (omega (arith, fits.1))) (one_free separator (decimal a) (number_free separator s a fits.2))))
fields_free separator s End fits = one_free separator (codes "end") (name_free separator s (codes "end") refl)

pub fields_of_text : (text : List ℕ) (l : TextLine) → FitsLine l → line_text l ≡ text → fields_by 32 text ≡ line_fields l
unfolding line_text
fields_of_text text l fits e =
    ap (fields_by 32) (sym e ∙ ap (joined 32) (fields-kind l)) ∙ fields-joined 32 (kind_field (kind_in l)) (rest_fields l) (subst (All (IsFree 32)) (fields-kind l) (fields_free 32 space l fits))
    ∙ sym (fields-kind l)

pub text_free : (l : TextLine) → FitsLine l → IsFree 10 (line_text l)
unfolding line_text
text_free l fits = joined_free 32 10 refl (line_fields l) (fields_free 10 lf l fits)

-- a line without its LF, by its fields
pub from_fields : (text : List ℕ) (fields : List (List ℕ)) (read : Option TextLine) → fields ≡ fields_by 32 text → Reads FitsLine line_fields fields read → Reads FitsLine line_text text read
unfolding line_text
from_fields text fields None e reads = record { some = tt; none = λ l fits is. reads.none l fits (sym (fields_of_text text l fits is) ∙ sym e) }
from_fields text fields (Some l) e reads = record { some = (reads.some.0, ap (joined 32) (reads.some.1 ∙ e) ∙ joined-fields 32 text); none = tt }

-- ---- the text begins with a line

pub starts_nowhere : (text more : List ℕ) (said : TextLine) → IsFree 10 text → StartsWith text said more → ⊥
starts_nowhere text more said free s = no_line 10 text (line_text said) more free (s.spelled ∙ line_end (line_text said) more)

pub starts_otherwise : (text l rest more : List ℕ) (said : TextLine) → text ≡ l ++ (10 ∷ rest) → IsFree 10 l → Reads FitsLine line_text l None → StartsWith text said more → ⊥
starts_otherwise text l rest more said e free reads s =
    reads.none said s.fits (sym (one_line 10 l (line_text said) rest more free (text_free said s.fits) (sym e ∙ s.spelled ∙ line_end (line_text said) more)).0)

one_rest : (a b : TextLine) → FitsLine a → FitsLine b → kind_in a ≡ kind_in b → rest_fields a ≡ rest_fields b → a ≡ b
unfolding first others
one_rest Head Head fits also k e = refl
one_rest (States m) (States n) fits also k e = ap (λ n. States n) (one_number m n (omega (arith, fits)) (omega (arith, also)) (ap first e))
one_rest Meets Meets fits also k e = refl
one_rest (Violates m) (Violates n) fits also k e = ap (λ n. Violates n) (one_number m n fits also (ap first e))
one_rest (Go by) (Go by2) fits also k e = let same : by ≡ by2 = cc in ap (λ m. Go m) same
one_rest (In f q r) (In f2 q2 r2) fits also k e =
    let a = one_number f f2 (omega (arith, fits.0)) (omega (arith, also.0)) (ap first e) in
    let b = one_number q q2 (omega (arith, fits.1)) (omega (arith, also.1)) (ap (λ ws. first (others ws)) e) in
    let d = one_number r r2 fits.2 also.2 (ap (λ ws. first (others (others ws))) e) in
    ap (λ f. In f q r) a ∙ ap (λ q. In f2 q r) b ∙ ap (λ r. In f2 q2 r) d
one_rest (At p x a) (At p2 x2 a2) fits also k e =
    let u = one_number p p2 fits.0 also.0 (ap first e) in
    let v = one_number x x2 (omega (arith, fits.1)) (omega (arith, also.1)) (ap (λ ws. first (others ws)) e) in
    let w = one_number a a2 fits.2 also.2 (ap (λ ws. first (others (others ws))) e) in
    ap (λ p. At p x a) u ∙ ap (λ x. At p2 x a) v ∙ ap (λ a. At p2 x2 a) w
one_rest End End fits also k e = refl
one_rest _ _ fits also k e = absurd (cc)

-- two lines with which a text begins are one
pub one_start : (text rest more : List ℕ) (a b : TextLine) → StartsWith text a rest → StartsWith text b more → (a ≡ b) × (rest ≡ more)
one_start text rest more a b s t =
    let l = one_line 10 (line_text a) (line_text b) rest more (text_free a s.fits) (text_free b t.fits)
    (sym (line_end (line_text a) rest) ∙ sym s.spelled ∙ t.spelled ∙ line_end (line_text b) more) in
    let fields = sym (fields_of_text (line_text b) a s.fits l.0) ∙ fields_of_text (line_text b) b t.fits refl in
    let p = first_field a (kind_field (kind_in b)) (rest_fields b) (fields ∙ fields-kind b) in
    (one_rest a b s.fits t.fits (one_kind (kind_in a) (kind_in b) p.0) p.1, l.1)
