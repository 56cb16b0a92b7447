-- Where the tokens of a source lie.
use Rattle.std.proofs.Common.{◌≡◌, ℕ, zero, suc, ◌-◌, ◌^◌, ◌<◌, ◌≤◌, true, List, [], ◌∷◌, length, drop, sym, ap, ◌∙◌, arith, slice_index_or, length-drop}
use Rattle.std.proofs.lemmas.List.{length-take}
use Rattle.cw_lex.specs.declared.tokens.TokenKind.TheVariants as kind
use Rattle.cw_lex.specs.declared.tokens.TokenKind.{TokenKind}
use Rattle.cw_lex.specs.declared.tokens.Token.{Token}
use Rattle.cw_syntax.specs.Names.{slice}
use Rattle.cw_lex.specs.declared.front.Front.TheVariants as front
use Rattle.cw_lex.specs.Fronts.{front_at}
use Rattle.cw_lex.specs.Numbers.{number_of}
use Rattle.cw_lex.specs.Tokens.{AreTokens}
use Rattle.cw_lex.specs.Listed.{AreInOrder, AreOfTheirKind}
use Rattle.cw_lex.proofs.Ordered.{tokens_in_order, tokens_of_their_kind}
use Rattle.cw_lex.proofs.Valued.{number_is_small, numbers}
use Rattle.cw_lex.proofs.Each.{order_within as order_le}

-- a token in the source, whose value 64 bits hold where it is a number
pub record IsPlaced (source : List ℕ) (t : Token) : Type 0 where
  pub order : t.from ≤ t.to
  pub within : t.to ≤ length source
  pub small : t.kind ≡ kind.Number → number_of (slice source t.from t.to) < 2 ^ 64

slice_length : (source : List ℕ) (from to : ℕ) → from ≤ to → to ≤ length source → length (slice source from to) ≡ to - from
slice_length source from to p q = omega (arith, length-take (to - from) (drop from source), length-drop from source)

small_at : (text : List ℕ) (n : ℕ) → length text ≡ n → front_at true text ≡ front.Token kind.Number n → number_of text < 2 ^ 64
small_at text n len is = number_is_small text (numbers text (is ∙ ap (λ (z : ℕ). front.Token kind.Number z) (sym len)))

pub token_placed : (source : List ℕ) (t : Token) → t.from ≤ t.to → t.to ≤ length source → front_at true (slice source t.from t.to) ≡ front.Token t.kind (t.to - t.from) → IsPlaced source t
token_placed source t p q is = record {
  order = p;
  within = q;
  small = λ k. small_at (slice source t.from t.to) (t.to - t.from) (slice_length source t.from t.to p q) (is ∙ ap (λ (z : TokenKind). front.Token z (t.to - t.from)) k);
}

all_placed : (source : List ℕ) (from : ℕ) (ts : List Token) → AreInOrder from (length source) ts → AreOfTheirKind source ts → (i : ℕ) (d : Token) → i < length ts
    → IsPlaced source (slice_index_or ts i d)
all_placed source from [] h k i d lt = absurd (omega arith)
all_placed source from (t ∷ ts) h k zero d lt = let a = h.1 in token_placed source t (omega arith) (order_le t.to (length source) ts h.2) k.0
all_placed source from (t ∷ ts) h k (suc i) d lt = all_placed source t.to ts h.2 k.1 i d (omega arith)

pub placed : (source : List ℕ) (ts : List Token) → AreTokens source ts → (i : ℕ) (d : Token) → i < length ts → IsPlaced source (slice_index_or ts i d)
placed source ts h i d lt = all_placed source 0 ts (tokens_in_order source ts h) (tokens_of_their_kind source ts h) i d lt
