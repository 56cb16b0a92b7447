-- Tokens lie in their source one after the other, and their bytes are of their kind.
use Rattle.std.proofs.Common.{◌≡◌, ℕ, ◌+◌, ◌-◌, ◌<◌, ◌≤◌, Bool, true, false, List, [], ◌∷◌, length, drop, drop-drop, ap, subst, arith, length-drop}
use Rattle.cw_lex.specs.declared.tokens.Token.{Token}
use Rattle.cw_lex.specs.declared.front.Front.{Front}
use Rattle.cw_lex.specs.declared.front.Front.TheVariants as front
use Rattle.cw_lex.specs.Fronts.{front_at, size, IsWithin}
use Rattle.cw_lex.specs.Tokens.{fresh_behind, Stand, tokens_of, AreTokens}
use Rattle.cw_lex.specs.Listed.{AreInOrder, AreOfTheirKind}
use Rattle.cw_lex.proofs.Within.{front_within}
use Rattle.cw_lex.proofs.Tokened.{alone}

earlier : (a b to : ℕ) (ts : List Token) → a ≤ b → AreInOrder b to ts → AreInOrder a to ts
earlier a b to [] le h = omega arith
earlier a b to (t ∷ ts) le h = (let first = h.0 in omega arith, h.1, h.2)

-- no front stands behind the end
no_front : (f : Bool) (bs : List ℕ) (p : Front) → front_at f bs ≡ p → 0 < size p → 0 < length bs
unfolding front_at
no_front f [] p is some = let e : 0 ≡ size p = ap size is in omega arith
no_front f (b ∷ bs) p is some = omega arith

size_le : (len : ℕ) (p : Front) → IsWithin len p → size p ≤ len
size_le len (front.Gap n) h = h.1
size_le len (front.Token k n) h = h.1
size_le len (front.Fault d) h = omega arith

front_le : (f : Bool) (bs : List ℕ) (p : Front) → front_at f bs ≡ p → 0 < size p → size p ≤ length bs
front_le f bs p is some = size_le (length bs) p (subst (IsWithin (length bs)) is (front_within f bs (no_front f bs p is some)))

module _ (source : List ℕ) where
  further : (f : Bool) (at : ℕ) (p : Front) → at ≤ length source → front_at f (drop at source) ≡ p → 0 < size p → at + size p ≤ length source
  further f at p le is some = let fits = front_le f (drop at source) p is some in omega (arith, fits, length-drop at source)

  behind : (f g : Bool) (at n : ℕ) (ps : List Front) → Stand f (drop n (drop at source)) ps g [] → Stand f (drop (at + n) source) ps g []
  behind f g at n ps h = subst (λ (z : List ℕ). Stand f z ps g []) (drop-drop n at source) h

  in_order : (ps : List Front) (f g : Bool) (at : ℕ) → at ≤ length source → Stand f (drop at source) ps g [] → AreInOrder at (length source) (tokens_of at ps)
  in_order [] f g at le h = le
  in_order (front.Gap n ∷ ps) f g at le h = earlier at (at + n) (length source) (tokens_of (at + n) ps) (omega arith)
      (in_order ps (fresh_behind f (front.Gap n) (drop at source)) g (at + n) (further f at (front.Gap n) le h.0 h.1) (behind _ g at n ps h.2))
  in_order (front.Token k n ∷ ps) f g at le h = (omega arith, (let some = h.1 in omega arith), in_order ps false g (at + n) (further f at (front.Token k n) le h.0 h.1) (behind _ g at n ps h.2))
  in_order (front.Fault d ∷ ps) f g at le h = absurd (let some = h.1 in omega arith)

  of_their_kind : (ps : List Front) (f g : Bool) (at : ℕ) → Stand f (drop at source) ps g [] → AreOfTheirKind source (tokens_of at ps)
  of_their_kind [] f g at h = tt
  of_their_kind (front.Gap n ∷ ps) f g at h = of_their_kind ps (fresh_behind f (front.Gap n) (drop at source)) g (at + n) (behind _ g at n ps h.2)
  of_their_kind (front.Token k n ∷ ps) f g at h =
      let count : at + n - at ≡ n = omega arith in
      (rw count (alone f (drop at source) k n h.0), of_their_kind ps false g (at + n) (behind _ g at n ps h.2))
  of_their_kind (front.Fault d ∷ ps) f g at h = absurd (let some = h.1 in omega arith)

pub tokens_in_order : (source : List ℕ) (ts : List Token) → AreTokens source ts → AreInOrder 0 (length source) ts
unfolding AreTokens
tokens_in_order source ts h = rw h.1.3 (in_order source h.1.0 true h.1.1 0 (omega arith) h.1.2)

pub tokens_of_their_kind : (source : List ℕ) (ts : List Token) → AreTokens source ts → AreOfTheirKind source ts
unfolding AreTokens
tokens_of_their_kind source ts h = rw h.1.3 (of_their_kind source h.1.0 true h.1.1 0 h.1.2)
