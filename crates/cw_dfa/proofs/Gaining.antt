-- What the rows gain, part by part.
use Rattle.std.proofs.Common.{◌≡◌, ℕ, ◌+◌, ◌<◌, List, slice_index, sym, ap, ap₂, ◌∙◌, subst}
use Rattle.std.specs.Int.RustNames.{bit_or}
use Rattle.cw_rights.specs.Trees.{Tree, seq, alt, count}
use Rattle.cw_dfa.specs.Tables.{firsts, lasts, linked, followers, Gains}
use Rattle.cw_dfa.proofs.Sums.{or_assoc, or_zero}

abbrev Links : ℕ → ℕ → List ℕ → List ℕ → Type 0
Links from to old new = (p : ℕ) → p < 64 → slice_index new p ≡ bit_or (slice_index old p) (linked from to p)

-- the rows stay where nothing follows anything
pub same_row : (rows : List ℕ) (p : ℕ) → slice_index rows p ≡ bit_or (slice_index rows p) 0
same_row rows p = sym (or_zero (slice_index rows p))

pub gains_again : (r : Tree) (k : ℕ) (a b c : List ℕ) (last first : ℕ) → Gains r k a b → Links last first b c → last ≡ lasts r k → first ≡ firsts r k → (p : ℕ) → p < 64 →
    slice_index c p ≡ bit_or (slice_index a p) (bit_or (followers r k p) (linked (lasts r k) (firsts r k) p))
gains_again r k a b c last first g l e f p m = l p m ∙ ap₂ bit_or (g p m) (ap₂ (λ x y. linked x y p) e f) ∙ or_assoc (slice_index a p) (followers r k p) (linked (lasts r k) (firsts r k) p)

pub gains_seq : (r s : Tree) (k n : ℕ) (a b c d : List ℕ) (last first : ℕ) → Gains r k a b → Gains s n b c → Links last first c d → n ≡ k + count r → last ≡ lasts r k → first ≡ firsts s n →
    Gains (seq r s) k a d
gains_seq r s k n a b c d last first g h l e u v p m =
    let z : slice_index c p ≡ bit_or (slice_index b p) (followers s (k + count r) p) = subst (λ x. slice_index c p ≡ bit_or (slice_index b p) (followers s x p)) e (h p m) in
    let y : first ≡ firsts s (k + count r) = v ∙ ap (firsts s) e in
    let both : slice_index c p ≡ bit_or (slice_index a p) (bit_or (followers r k p) (followers s (k + count r) p)) = z ∙ ap (λ x. bit_or x (followers s (k + count r) p)) (g p m)
    ∙ or_assoc (slice_index a p) (followers r k p) (followers s (k + count r) p) in
    l p m ∙ ap₂ bit_or both (ap₂ (λ x w. linked x w p) u y) ∙ or_assoc (slice_index a p) (bit_or (followers r k p) (followers s (k + count r) p)) (linked (lasts r k) (firsts s (k + count r)) p)

pub gains_alt : (r s : Tree) (k n : ℕ) (a b c : List ℕ) → Gains r k a b → Gains s n b c → n ≡ k + count r → Gains (alt r s) k a c
gains_alt r s k n a b c g h e p m =
    let z : slice_index c p ≡ bit_or (slice_index b p) (followers s (k + count r) p) = subst (λ x. slice_index c p ≡ bit_or (slice_index b p) (followers s x p)) e (h p m) in
    z ∙ ap (λ x. bit_or x (followers s (k + count r) p)) (g p m) ∙ or_assoc (slice_index a p) (followers r k p) (followers s (k + count r) p)
