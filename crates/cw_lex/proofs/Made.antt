-- What tokens are made into, one after the other.
use Rattle.std.proofs.Common.{◌≡◌, ℕ, ◌+◌, ◌-◌, ◌<◌, ◌≤◌, Bool, List, [], ◌∷◌, ◌++◌, length, map, drop, refl, sym, ap, ◌∙◌, arith}
use Rattle.std.specs.Prelude.{IfOk, Result, Ok, Err, Vec}
use Rattle.std.proofs.lemmas.List.{map-append, map-id}
use Rattle.cw_lex.specs.declared.tokens.TokenKind.{TokenKind}
use Rattle.cw_lex.specs.declared.tokens.Token.{Token}
use Rattle.cw_lex.specs.declared.front.Front.TheVariants as front
use Rattle.cw_lex.specs.Punctuators.{HasNoMarker}
use Rattle.cw_lex.specs.Fronts.{front_at}
use Rattle.cw_lex.specs.Fresh.{fresh_from}
use Rattle.cw_lex.specs.Tokens.{AreTokens, AreMadeOf}
use Rattle.cw_lex.specs.Listed.{IsTokenOf}
use Rattle.cw_lex.proofs.Tokened.{alone}
use Rattle.cw_lex.proofs.Standing.{Reached, at_start, gap_further, token_further, at_end}

-- what a front of this kind at a place is
pub token_is : (source : List ℕ) (at : ℕ) (fresh : Bool) (kind : TokenKind) (n : ℕ) → front_at fresh (drop at source) ≡ front.Token kind n → 0 < n → n ≤ length source - at
    → at < length source → IsTokenOf source (record { kind = kind; from = at; to = at + n })
token_is source at fresh kind n is some fits lt =
    let count : at + n - at ≡ n = omega arith in
    record { some = omega arith; within = omega arith; alone = rw count (alone fresh (drop at source) kind n is) }

module _ {A : Type 0} (made : Token → A) (source : List ℕ) where
  -- how far the source is read, and what its tokens so far are made into
  abbrev pub IsMadeUpTo : ℕ → Bool → List A → Type 0
  IsMadeUpTo at fresh xs = (ts : List Token) × Reached source at fresh ts × (xs ≡ map made ts)

  pub nothing_made : IsMadeUpTo 0 (fresh_from 0 0 source) []
  nothing_made = ([], at_start source [] refl, refl)

  pub gap_made : (last at : ℕ) (xs : List A) (n : ℕ) → IsMadeUpTo at (fresh_from last at source) xs → front_at (fresh_from last at source) (drop at source) ≡ front.Gap n → 0 < n → last ≤ at
      → IsMadeUpTo (at + n) (fresh_from last (at + n) source) xs
  gap_made last at xs n h is some le = (h.0, gap_further source last at h.0 n h.1 is some le, h.2)

  pub token_made : (last at : ℕ) (xs : List A) (kind : TokenKind) (n : ℕ) → IsMadeUpTo at (fresh_from last at source) xs
      → front_at (fresh_from last at source) (drop at source) ≡ front.Token kind n → 0 < n
      → IsMadeUpTo (at + n) (fresh_from (at + n) (at + n) source) (xs ++ made (record { kind = kind; from = at; to = at + n }) ∷ [])
  token_made last at xs kind n h is some =
      let t : Token = record { kind = kind; from = at; to = at + n } in
      (h.0 ++ t ∷ [], token_further source last at h.0 kind n h.1 is some, ap (λ (z : List A). z ++ made t ∷ []) h.2 ∙ sym (map-append made h.0 (t ∷ [])))

  pub all_made : (at : ℕ) (fresh : Bool) (xs : List A) → IsMadeUpTo at fresh xs → length source ≤ at → HasNoMarker source → AreMadeOf made source xs
  all_made at fresh xs h le unmarked = (h.0, at_end source at fresh h.0 h.1 le unmarked, h.2)

as_they_are : (source : List ℕ) (ts : List Token) → AreMadeOf (λ token. token) source ts → AreTokens source ts
as_they_are source ts h = rw (h.2 ∙ map-id h.0) h.1

pub all_as_they_are : {A E : Type 0} (source : List ℕ) (r : Result (Vec Token A) E) → IfOk r (λ v. AreMadeOf (λ token. token) source v.items) → IfOk r (λ v. AreTokens source v.items)
all_as_they_are source (Ok v) h = as_they_are source v.items h
all_as_they_are source (Err e) h = tt
