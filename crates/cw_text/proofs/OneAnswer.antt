-- A text is the tape of one list of moves at most, or has one first line with another field, and not both.
use Rattle.std.proofs.Common.{◌≡◌, ℕ, zero, suc, ◌<◌, ◌≤◌, List, [], ◌∷◌, ◌++◌, map, length, Bool, Ok, Err, refl, sym, ap, ap₂, ◌∙◌, subst, ⊎_elim, arith}
use Rattle.std.specs.Prelude.{Contains}
use Rattle.std.specs.List.{All, flat_map}
use Rattle.std.proofs.lemmas.Bool.{cases_lt}
use Rattle.std.proofs.lemmas.List.Elements.{All-head, All-tail, Contains-append_left, Contains-append_right}
use Rattle.cw_certs.specs.declared.moves.Move.{Move}
use Rattle.cw_text.specs.declared.fault.TextFault.TheVariants as fault
use Rattle.cw_text.specs.Moves.{move_name}
use Rattle.cw_text.proofs.Names.{move_of, named_back}
use Rattle.cw_text.specs.Tapes.{fields, lines, IsIn, AreNames, IsTape, IsOther, IsFirstOther, OneAnswer}

all_named_back : (moves : List Move) → map move_of (map move_name moves) ≡ moves
all_named_back [] = refl
all_named_back (by ∷ moves) = ap₂ (λ (x : Move) (xs : List Move). x ∷ xs) (named_back by) (all_named_back moves)

module _ (play : Bool) where
  one_tape : (names : List (List ℕ)) (xs ys : List Move) → AreNames play names xs → AreNames play names ys → xs ≡ ys
  one_tape names xs ys h k = sym (all_named_back xs) ∙ ap (map move_of) (sym h.named ∙ k.named) ∙ all_named_back ys

  -- a field among names names a move
  named_in : (moves : List Move) (field : List ℕ) → Contains (map move_name moves) field → All (IsIn play) moves → (by : Move) × IsIn play by × (move_name by ≡ field)
  named_in [] field h may = absurd (let lt = h.1 in omega (arith, lt))
  named_in (by ∷ moves) field (zero, lt, e) may = (by, All-head (IsIn play) by moves may, e)
  named_in (by ∷ moves) field (suc k, lt, e) may = named_in moves field (k, omega (arith, lt), e) (All-tail (IsIn play) by moves may)

  none_other : (names : List (List ℕ)) (moves : List Move) (field : List ℕ) → AreNames play names moves → Contains names field → IsOther play field → ⊥
  none_other names moves field h has other =
      let m = named_in moves field (subst (λ (l : List (List ℕ)). Contains l field) h.named has) h.may in
      other m.0 m.1 m.2

  -- the fields of a line are among those of lines
  field_in : (all : List (List ℕ)) (line field : List ℕ) → Contains all line → Contains (fields line) field → Contains (flat_map fields all) field
  field_in [] line field h has = absurd (let lt = h.1 in omega (arith, lt))
  field_in (one ∷ all) line field (zero, lt, e) has = Contains-append_left (fields one) (flat_map fields all) field (subst (λ (l : List ℕ). Contains (fields l) field) (sym e) has)
  field_in (one ∷ all) line field (suc k, lt, e) has = Contains-append_right (fields one) (flat_map fields all) field (field_in all line field (k, omega (arith, lt), e) has)

  here : {X : Type 0} (before after : List X) (x : X) → Contains (before ++ x ∷ after) x
  here [] after x = (0, omega arith, refl)
  here (b ∷ before) after x = let k = here before after x in let lt = k.1 in (suc k.0, omega (arith, lt), k.2)

  not_both : (text : List ℕ) (moves : List Move) (number : ℕ) → IsTape play text moves → IsFirstOther play text number → ⊥
  not_both text moves number h f =
      none_other (flat_map fields (lines text)) moves f.field h
      (field_in (lines text) f.line f.field (subst (λ (l : List (List ℕ)). Contains l f.line) (sym f.stands) (here f.before f.after f.line)) f.has) f.other

  -- of two places in a list the earlier one is before the later one
  before_it : {X : Type 0} (a b s t : List X) (x y : X) → a ++ x ∷ s ≡ b ++ y ∷ t → length a < length b → Contains b x
  before_it a [] s t x y e lt = absurd (omega (arith, lt))
  before_it [] (c ∷ b) s t x y e lt = let same : c ≡ x = cc in (0, omega arith, same)
  before_it (d ∷ a) (c ∷ b) s t x y e lt =
      let rest : a ++ x ∷ s ≡ b ++ y ∷ t = cc in
      let k = before_it a b s t x y rest (omega (arith, lt)) in
      let below = k.1 in
      (suc k.0, omega (arith, below), k.2)

  not_before : (text : List ℕ) (m n : ℕ) (f : IsFirstOther play text m) (h : IsFirstOther play text n) → length f.before < length h.before → ⊥
  not_before text m n f h lt =
      none_other (flat_map fields h.before) h.moves f.field h.earlier
      (field_in h.before f.line f.field (before_it f.before h.before f.after h.after f.line h.line (sym f.stands ∙ h.stands) lt) f.has) f.other

  one_line : (text : List ℕ) (m n : ℕ) → IsFirstOther play text m → IsFirstOther play text n → m ≡ n
  one_line text m n f h =
      let a = f.counted in
      let b = h.counted in
      ⊎_elim (λ (lt : length f.before < length h.before). absurd (not_before text m n f h lt))
      (λ (ge : length h.before ≤ length f.before).
      ⊎_elim (λ (lt : length h.before < length f.before). absurd (not_before text n m h f lt)) (λ (le : length f.before ≤ length h.before). omega (arith, a, b, ge, le)) (cases_lt (length h.before) (length f.before)))
      (cases_lt (length f.before) (length h.before))

pub one_answer : OneAnswer
one_answer play text (Ok xs) (Ok ys) h k = ap Ok (one_tape play (flat_map fields (lines text)) xs ys h k)
one_answer play text (Ok xs) (Err (fault.Line n)) h k = absurd (not_both play text xs n h k)
one_answer play text (Err (fault.Line n)) (Ok ys) h k = absurd (not_both play text ys n k h)
one_answer play text (Err (fault.Line m)) (Err (fault.Line n)) h k = ap (λ (n : ℕ). Err (fault.Line n)) (one_line play text m n h k)
one_answer play text a (Err (fault.Order n)) h k = absurd k
one_answer play text a (Err (fault.Limit n)) h k = absurd k
one_answer play text a (Err fault.NoMemory) h k = absurd k
one_answer play text (Err (fault.Order n)) b h k = absurd h
one_answer play text (Err (fault.Limit n)) b h k = absurd h
one_answer play text (Err fault.NoMemory) b h k = absurd h
