-- The next part from a place of a text on.
use Rattle.std.proofs.Common.{◌≡◌, ℕ, ◌-◌, ◌≤◌, List, ◌∷◌, take, drop, sym, ap, ap₂, ◌∙◌, arith}
use Rattle.cw_regex.specs.Parts.{identifier, parts, placed}
use Rattle.cw_regex.specs.Fronts.{IsIdentifierAt}
use Rattle.cw_regex.specs.Tokens.{Comes}
use Rattle.cw_regex.proofs.Cutting.{parts_identifier, placed_identifier}

-- only blanks stand between
pub record Skips (text : List ℕ) (at from : ℕ) : Type 0 where
  pub same : parts (drop from text) ≡ parts (drop at text)
  pub same_placed : placed from (drop from text) ≡ placed at (drop at text)

pub identifier_comes : (text : List ℕ) (at from to : ℕ) → at ≤ from → Skips text at from → IsIdentifierAt text from to → Comes text at from to (identifier (take (to - from) (drop from text)))
identifier_comes text at from to l s p = record {
  first = sym s.same ∙ ap parts p.cut ∙ parts_identifier p.first p.more (drop to text) p.bytes p.stop ∙ ap (λ w. identifier w ∷ parts (drop to text)) (sym p.identifier);
  placed_first = sym s.same_placed ∙ ap (placed from) p.cut ∙ placed_identifier from p.first p.more (drop to text) p.bytes p.stop
      ∙ ap₂ (λ w n. record { at = from; part = identifier w } ∷ placed n (drop to text)) (sym p.identifier) (sym p.far);
  starts = l;
  goes = let f = p.far in omega arith;
  within = p.within;
}
