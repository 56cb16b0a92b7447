-- Looking for the end of a line.
use Rattle.std.proofs.Common.{◌≡◌, ℕ, suc, ◌<◌, ◌==◌, not, false, List, [], ◌∷◌, length, get_or, Option, Some, None, refl, sym, ap, arith}
use Rattle.std.specs.Option.{is_some}
use Rattle.std.specs.List.{prefix_len, list_any}
use Rattle.std.proofs.lemmas.Bool.{false_from_ne_true}
use Rattle.std.proofs.lemmas.List.Sums.{prefix_len_is}
use Rattle.std.proofs.lemmas.List.Folds.{list_any_at}
use Rattle.memchr.specs.Find.{IsFirstByte, is_byte}
use Rattle.cw_lex.specs.Bytes.{is_line_byte}

-- the bytes up to the first LF, or all where there is none
pub line_to : (bs : List ℕ) (at : ℕ) → IsFirstByte (is_byte 10) bs (Some at) → prefix_len is_line_byte bs ≡ at
line_to bs at g =
    let high : at < length bs = g.0.high in
    prefix_len_is is_line_byte bs at 0 (omega arith) (λ k lt. ap not (false_from_ne_true _ (g.0.before k (omega arith) lt))) (λ lt. ap not g.1)

pub line_whole : (bs : List ℕ) → IsFirstByte (is_byte 10) bs None → prefix_len is_line_byte bs ≡ length bs
line_whole bs none =
    prefix_len_is is_line_byte bs (length bs) 0 (omega arith) (λ k lt. ap not (false_from_ne_true _ (none k (omega arith) lt))) (λ lt. absurd (omega (arith, lt)))

none_ends : (bs : List ℕ) → ((k : ℕ) → k < length bs → (get_or bs k 0 == 10) ≡ false) → list_any (λ b. b == 10) bs ≡ false
none_ends [] h = refl
none_ends (b ∷ bs) h = rw (h 0 (omega arith)) (none_ends bs (λ k lt. h (suc k) (omega (arith, lt))))

-- whether there is an LF
pub line_ends : (bs : List ℕ) (answer : Option ℕ) → IsFirstByte (is_byte 10) bs answer → is_some answer ≡ list_any (λ b. b == 10) bs
line_ends bs None none = sym (none_ends bs (λ k lt. false_from_ne_true _ (none k (omega arith) lt)))
line_ends bs (Some at) g = sym (list_any_at (λ b. b == 10) bs at 0 g.0.high g.1)
