-- Two puts, one after the other, for callers too: what was appended so far, and the next put.
use Rattle.std.proofs.Common.{◌≡◌, ℕ, min, List, [], ◌∷◌, ◌++◌, zero, suc, length, take, Option, Some, None, Result, Ok, Err, refl, ap, ◌∙◌, append_assoc, arith, ◌+◌}
use Rattle.std.proofs.Math.Seq.{take-append-add}
use Rattle.cw_io.specs.Pieces.{Grows, Puts}
use Rattle.cw_io.specs.Sinks.{SureSinkState}

-- a front of the first of two lists
take_within : (a b : List ℕ) (k : ℕ) → take (min k (length a)) (a ++ b) ≡ take k a
take_within [] b zero = refl
take_within [] b (suc k) = let e : min (suc k) (length {A = ℕ} []) ≡ 0 = omega arith in rw e refl
take_within (x ∷ a) b zero = let e : min 0 (length {A = ℕ} (x ∷ a)) ≡ 0 = omega arith in rw e refl
take_within (x ∷ a) b (suc k) = let e : min (suc k) (suc (length a)) ≡ suc (min k (length a)) = omega arith in rw e (ap (λ (z : List ℕ). x ∷ z) (take_within a b k))

-- bytes appended twice are appended in one
pub grows_both : (old mid new : Option (List ℕ)) (a b : List ℕ) → Grows old mid a → Grows mid new b → Grows old new (a ++ b)
grows_both None mid new a b p q = tt
grows_both (Some old) mid new a b p q = let e : new ≡ Some ((old ++ a) ++ b) = rw p at q in e ∙ ap (λ (z : List ℕ). Some z) (append_assoc old a b)

-- what was appended, and then a put: a put of both, with the second's answer
pub puts_both : {E : Type 0} (old mid new : Option (List ℕ)) (a b : List ℕ) (r : Result (Unit {0}) E) → Grows old mid a → Puts mid new b r → Puts old new (a ++ b) r
puts_both old mid new a b (Ok u) p q = grows_both old mid new a b p q
puts_both old mid new a b (Err fault) p q = (length a + q.0, rw (take-append-add a b q.0) (grows_both old mid new a (take q.0 b) p q.1))

-- a put that failed: what it took is a front of all that was still to come, too
pub puts_first : {E F : Type 0} (old mid : Option (List ℕ)) (a b : List ℕ) (e : E) (f : F) → Puts old mid a (Err e) → Puts old mid (a ++ b) (Err f)
puts_first old mid a b e f p = (min p.0 (length a), rw (take_within a b p.0) p.1)

-- what a sink in memory has, that took a whole text
pub whole_taken : (sink : SureSinkState) (bytes text : List ℕ) → sink ≡ record { bytes = []; refused = 0 } → Some bytes ≡ Some (sink.bytes ++ text) → bytes ≡ text
whole_taken sink bytes text made took = let e : bytes ≡ sink.bytes ++ text = cc in e ∙ ap (λ (s : SureSinkState). s.bytes ++ text) made
