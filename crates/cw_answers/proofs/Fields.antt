-- The fields of a line tell it.
use Rattle.std.proofs.Common.{◌≡◌, ◌≢◌, ◌⊎◌, ℕ, cond, eqb, ℤ, pos, negsuc, w64, FitsSigned, to_z, of_z, subst, ◌++◌, List, [], ◌∷◌, length, get_or, Bool, true, false, refl, sym, ap, ◌∙◌}
use Rattle.std.proofs.Common.{inl, inr, arith}
use Rattle.std.specs.Prelude.{codes, bytes_eq, IsTrue}
use Rattle.std.specs.List.{All, list_all}
use Rattle.std.specs.Fmt.{signed_decimal}
use Rattle.std.proofs.Math.Facts.{to_z-of_z}
use Rattle.std.proofs.lemmas.Bool.{false≢true, and_parts, and_from}
use Rattle.cw_certs.specs.declared.moves.Move.{Move}
use Rattle.cw_certs.specs.declared.moves.Move.TheVariants.{Skip, Try, Grant, Refuse, On, Left, Right, Opened, Failed, Stop}
use Rattle.cw_rights.specs.Valid.{is_name, is_name_start, is_name_byte}
use Rattle.cw_text.specs.Lines.{IsFree, joined, fields_by}
use Rattle.cw_text.specs.Moves.{move_name}
use Rattle.cw_text.proofs.Names.{move_of, named_back}
use Rattle.cw_text.proofs.Cuts.{joined-fields}
use Rattle.cw_text.proofs.Free.{free_from_test}
use Rattle.cw_text_lines.specs.Lines.{StartsWith, Tell, AreDecided}
use Rattle.cw_text_lines.proofs.Starts.{starts_like, starts_unlike, starts_nowhere}
use Rattle.cw_text_lines.proofs.Telling.{fields_or_not, same_by, decided_by}
use Rattle.cw_text_lines.proofs.Separated.{Separates, space as plain_space, lf as plain_lf, name_free as key_free, move_free, one_free, more_free}
use Rattle.cw_value.specs.Shown.{IsAnswer}
use Rattle.cw_answers.specs.AnswerLines as line
use Rattle.cw_answers.specs.AnswerLines.{AnswerLine, line_fields, FitsValue, FitsLine}
use Rattle.cw_answers.proofs.Numbers.{value_free, value_from, value_back, value_or_not}

-- ---- fields without a separator

name_bytes : (name : List ℕ) → IsTrue (is_name name) → list_all is_name_byte name ≡ true
name_bytes [] named = absurd (false≢true named)
name_bytes (b ∷ rest) named =
    let parts = and_parts (is_name_start b) (list_all is_name_byte rest) named in
    and_from (is_name_byte b) (list_all is_name_byte rest) (start b parts.0) parts.1
  where
    start : (b : ℕ) → is_name_start b ≡ true → is_name_byte b ≡ true
    start b is = rw is refl

name_free : (separator : ℕ) → is_name_byte separator ≡ false → (name : List ℕ) → IsTrue (is_name name) → IsFree separator name
name_free separator differs name named = free_from_test is_name_byte separator name differs (name_bytes name named)

answer_free : (separator : ℕ) → Separates separator → (by : Move) → IsAnswer by → IsFree separator (move_name by)
answer_free separator s Grant fits = move_free separator s Grant fits
answer_free separator s Refuse fits = move_free separator s Refuse fits
answer_free separator s Skip fits = absurd fits
answer_free separator s Try fits = absurd fits
answer_free separator s On fits = absurd fits
answer_free separator s Left fits = absurd fits
answer_free separator s Right fits = absurd fits
answer_free separator s Opened fits = absurd fits
answer_free separator s Failed fits = absurd fits
answer_free separator s Stop fits = absurd fits

-- a separator that stands in no field
record Parts (separator : ℕ) : Type 0 where
  plain : Separates separator
  sign : eqb 45 separator ≡ false
  name : is_name_byte separator ≡ false

line_free : (separator : ℕ) → Parts separator → (l : AnswerLine) → FitsLine l → All (IsFree separator) (line_fields l)
line_free separator p line.Head fits =
    more_free separator (codes "capweave") (codes "answers" ∷ codes "1" ∷ []) (key_free separator p.plain (codes "capweave") refl)
    (more_free separator (codes "answers") (codes "1" ∷ []) (key_free separator p.plain (codes "answers") refl) (one_free separator (codes "1") (key_free separator p.plain (codes "1") refl)))
line_free separator p (line.Name name value) fits =
    more_free separator (codes "name") (name ∷ signed_decimal value ∷ []) (key_free separator p.plain (codes "name") refl)
    (more_free separator name (signed_decimal value ∷ []) (name_free separator p.name name fits.0) (one_free separator (signed_decimal value) (value_free separator p.plain.digit p.sign value fits.1)))
line_free separator p (line.Try by) fits =
    more_free separator (codes "try") (move_name by ∷ []) (key_free separator p.plain (codes "try") refl) (one_free separator (move_name by) (answer_free separator p.plain by fits))
line_free separator p (line.Call value) fits =
    more_free separator (codes "call") (signed_decimal value ∷ []) (key_free separator p.plain (codes "call") refl)
    (one_free separator (signed_decimal value) (value_free separator p.plain.digit p.sign value fits))
line_free separator p line.End fits = one_free separator (codes "end") (key_free separator p.plain (codes "end") refl)

space : Parts 32
space = record { plain = plain_space; sign = refl; name = refl }

lf : Parts 10
lf = record { plain = plain_lf; sign = refl; name = refl }

some_fields : (l : AnswerLine) → line_fields l ≢ []
some_fields line.Head e = omega (arith, ap length e)
some_fields (line.Name name value) e = omega (arith, ap length e)
some_fields (line.Try by) e = omega (arith, ap length e)
some_fields (line.Call value) e = omega (arith, ap length e)
some_fields line.End e = omega (arith, ap length e)

-- ---- a line from its fields

line_by : (key a b : List ℕ) → AnswerLine
line_by key a b =
    cond (bytes_eq key (codes "name")) (line.Name a (value_from b)) (cond (bytes_eq key (codes "try")) (line.Try (move_of a))
    (cond (bytes_eq key (codes "call")) (line.Call (value_from a)) (cond (bytes_eq key (codes "end")) line.End line.Head)))

line_from : List (List ℕ) → AnswerLine
line_from fields = line_by (get_or fields 0 []) (get_or fields 1 []) (get_or fields 2 [])

line_back : (l : AnswerLine) → FitsLine l → line_from (line_fields l) ≡ l
unfolding line_from line_by
line_back line.Head fits = refl
line_back (line.Name name value) fits = ap (λ z. line.Name name z) (value_back value fits.1)
line_back (line.Try by) fits = ap (λ m. line.Try m) (named_back by)
line_back (line.Call value) fits = ap (λ z. line.Call z) (value_back value fits)
line_back line.End fits = refl

answer_or_not : (by : Move) → IsAnswer by ⊎ (IsAnswer by → ⊥)
answer_or_not Grant = inl tt
answer_or_not Refuse = inl tt
answer_or_not Skip = inr (λ h. h)
answer_or_not Try = inr (λ h. h)
answer_or_not On = inr (λ h. h)
answer_or_not Left = inr (λ h. h)
answer_or_not Right = inr (λ h. h)
answer_or_not Opened = inr (λ h. h)
answer_or_not Failed = inr (λ h. h)
answer_or_not Stop = inr (λ h. h)

line_or_not : (l : AnswerLine) → FitsLine l ⊎ (FitsLine l → ⊥)
line_or_not line.Head = inl tt
line_or_not (line.Name name value) = go (is_name name) refl (value_or_not value)
  where
    go : (t : Bool) → is_name name ≡ t → FitsValue value ⊎ (FitsValue value → ⊥) → FitsLine (line.Name name value) ⊎ (FitsLine (line.Name name value) → ⊥)
    go true is (inl fits) = inl (is, fits)
    go true is (inr never) = inr (λ f. never f.1)
    go false is v = inr (λ f. false≢true (sym is ∙ f.0))
line_or_not (line.Try by) = answer_or_not by
line_or_not (line.Call value) = value_or_not value
line_or_not line.End = inl tt

pub tell : Tell FitsLine line_fields
tell = record { some = some_fields; spaceless = line_free 32 space; one_line = line_free 10 lf; same = same_by FitsLine line_fields line_from line_back }

pub are_decided : AreDecided FitsLine line_fields
are_decided = decided_by FitsLine line_fields line_from line_back fields_or_not line_or_not

-- ---- what a text begins with

pub said : (text front rest : List ℕ) (fields : List (List ℕ)) (l shown : AnswerLine) → text ≡ front ++ (10 ∷ rest) → fields ≡ fields_by 32 front → FitsLine l → line_fields l ≡ fields → shown ≡ l
    → StartsWith FitsLine line_fields text shown rest
said text front rest fields l shown e w fits is same = subst (λ l. StartsWith FitsLine line_fields text l rest) (sym same) (starts_like FitsLine line_fields tell text front rest l e fits (is ∙ w))

pub not_said : (text front rest more : List ℕ) (fields : List (List ℕ)) (l : AnswerLine) → text ≡ front ++ (10 ∷ rest) → IsFree 10 front → fields ≡ fields_by 32 front
    → (FitsLine l → line_fields l ≢ fields)
    → StartsWith FitsLine line_fields text l more → ⊥
not_said text front rest more fields l e free w differ = starts_unlike FitsLine line_fields tell text front rest more l e free (λ fits is. differ fits (is ∙ sym w))

pub nothing_said : (text : List ℕ) → IsFree 10 text → (l : AnswerLine) (more : List ℕ) → StartsWith FitsLine line_fields text l more → ⊥
nothing_said text free l more = starts_nowhere FitsLine line_fields tell text free l more

-- a line of a whole text of its own
pub not_text : (text front rest more field : List ℕ) (l : AnswerLine) → text ≡ front ++ (10 ∷ rest) → IsFree 10 front → joined 32 (line_fields l) ≡ field → front ≢ field
    → StartsWith FitsLine line_fields text l more → ⊥
not_text text front rest more field l e free is differs =
    starts_unlike FitsLine line_fields tell text front rest more l e free (λ fits w. differs (sym (joined-fields 32 front) ∙ ap (joined 32) (sym w) ∙ is))

-- a value that is handed on
pub stored : (z : ℤ) → FitsValue z → to_z w64 (of_z w64 z) ≡ z
stored z fits = to_z-of_z {w = w64} {z = z} (signed z fits)
  where
    signed : (z : ℤ) → FitsValue z → FitsSigned w64 z
    signed (pos n) fits = omega (arith, fits)
    signed (negsuc n) fits = omega (arith, fits)
