-- A name whose bytes stand nowhere in a source is no token of it.
use Rattle.std.proofs.Common.{◌≡◌, ℕ, ◌+◌, ◌-◌, ◌<◌, true, false, is_some, List, [], ◌∷◌, ◌++◌, Option, None, Some, length, take, drop, refl, sym, ap, ◌∙◌, arith, length-drop, length-append}
use Rattle.std.specs.List.{find}
use Rattle.std.specs.Option.{option_map}
use Rattle.std.specs.Str.{bytes_eq}
use Rattle.std.proofs.Math.Seq.{take-append_seam}
use Rattle.std.proofs.lemmas.Bool.{false_from_ne_true}
use Rattle.std.proofs.lemmas.List.{take-append-drop}
use Rattle.std.proofs.lemmas.Slice.Eq.{bytes_eq-Decides}
use Rattle.memchr.specs.Find.{OccursAt, FindsNeedle}
use Rattle.memchr.proofs.lemmas.MatchLemmas.{OccursAt-from_part}
use Rattle.cw_syntax.specs.Names.{slice}
use Rattle.cw_lex.specs.declared.tokens.Token.{Token}
use Rattle.cw_detach.specs.declared.faults.ProcFault.TheVariants.{Taken}
use Rattle.cw_detach.specs.Faults.{is_taken, taken}

module _ (source : List ℕ) where
  -- what stands between two places of a source occurs in it
  occurs : (needle : List ℕ) (from to : ℕ) → 0 < length needle → slice source from to ≡ needle → OccursAt source needle from
  occurs needle from to some e =
      let rest = drop (to - from) (drop from source) in
      let is : drop from source ≡ needle ++ rest = sym (take-append-drop (to - from) (drop from source)) ∙ ap (λ (z : List ℕ). z ++ rest) e in
      let sum = length-append needle rest in
      OccursAt-from_part source needle from (omega (arith, some, ap length is, sum, length-drop from source)) (ap (take (length needle)) is ∙ take-append_seam needle rest)

  -- so a needle that is found nowhere stands between no two places
  pub absent : (needle : List ℕ) (found : Option ℕ) → 0 < length needle → FindsNeedle source needle 0 found → is_some found ≡ false
      → (from to : ℕ) → bytes_eq (slice source from to) needle ≡ false
  absent needle None some nowhere e from to =
      false_from_ne_true _ (λ h. nowhere from (omega arith) (below from to h) (at from to h))
    where
      at : (from to : ℕ) → bytes_eq (slice source from to) needle ≡ true → OccursAt source needle from
      at from to h = occurs needle from to some ((bytes_eq-Decides (slice source from to) needle).0 h)

      below : (from to : ℕ) → bytes_eq (slice source from to) needle ≡ true → from < length source + 1
      below from to h = let fits = (at from to h).fits in omega (arith, fits)
  absent needle (Some k) some found e from to = absurd (cc)

  none_found : (tokens : List Token) → ((t : Token) → is_taken source t ≡ false) → find (is_taken source) tokens ≡ None
  none_found [] none = refl
  none_found (t ∷ ts) none = rw (none t) (none_found ts none)

  pub none_taken : (tokens : List Token) → ((t : Token) → is_taken source t ≡ false) → None ≡ taken source tokens
  unfolding taken
  none_taken tokens none = ap (option_map (λ (t : Token). Taken t.from)) (sym (none_found tokens none))
