-- A source that is read has no marker.
use Rattle.std.proofs.Common.{◌≡◌, ℕ, Bool, true, false, ◌||◌, nat_eq, List, drop, refl}
use Rattle.std.specs.Prelude.{codes}
use Rattle.std.specs.List.{starts_with}
use Rattle.cw_lex.specs.Tokens.{AreTokens}
use Rattle.cw_syntax.specs.Trees.{File}
use Rattle.cw_source.specs.Read.{ReadsAs}

neither : (a b : Bool) → a || b ≡ false → a ≡ false
neither true b e = e
neither false b e = refl

pub no_marker : (source : List ℕ) (file : File) → ReadsAs source file → (at : ℕ) → starts_with nat_eq (drop at source) (codes "cw{*") ≡ false
unfolding AreTokens
no_marker source file h at = neither (starts_with nat_eq (drop at source) (codes "cw{*")) (starts_with nat_eq (drop at source) (codes "*}cw")) (h.lexed.0 at)
