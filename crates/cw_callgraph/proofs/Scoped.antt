-- What a name means where it is one of some names doesn't depend on what it meant before, and where it is none of them it means that.
use Rattle.std.proofs.Common.{◌≡◌, ℕ, List, [], ◌∷◌, Bool, true, false, cond, Option, Some, None, refl, sym, ap, ◌∙◌}
use Rattle.std.specs.Option.{option_or}
use Rattle.std.specs.Str.{bytes_eq}
use Rattle.cw_syntax.specs.Names.{text}
use Rattle.cw_callgraph.specs.declared.scopes.Meaning.{Meaning}
use Rattle.cw_callgraph.specs.declared.scopes.Known.{Known}
use Rattle.cw_callgraph.specs.Scoping.{latest}

or_some : (o : Option Meaning) (m : Meaning) (before : Option Meaning) → option_or (option_or o (Some m)) before ≡ option_or o (Some m)
or_some None m before = refl
or_some (Some x) m before = refl

module _ (source name : List ℕ) where
  pub latest_or : (known : List Known) (before : Option Meaning) → latest source before known name ≡ option_or (latest source None known name) before
  latest_or [] before = refl
  latest_or (k ∷ ks) before = by (latest_or ks) (bytes_eq name (text source k.name))
    where
      by : ((b : Option Meaning) → latest source b ks name ≡ option_or (latest source None ks name) b) → (t : Bool)
          → latest source (cond t (Some k.means) before) ks name ≡ option_or (latest source (cond t (Some k.means) None) ks name) before
      by h true = h (Some k.means) ∙ sym (ap (λ o. option_or o before) (h (Some k.means)) ∙ or_some (latest source None ks name) k.means before)
      by h false = h before

  pub hidden : (file inner : List Known) (o : Option Meaning) (m : Meaning) → o ≡ latest source None inner name → o ≡ Some m
      → Some m ≡ latest source (latest source None file name) inner name
  hidden file inner o m e f =
      sym (latest_or inner (latest source None file name) ∙ ap (λ x. option_or x (latest source None file name)) (sym e ∙ f))

  pub unhidden : (file inner : List Known) (o : Option Meaning) → o ≡ latest source None inner name → o ≡ None
      → latest source None file name ≡ latest source (latest source None file name) inner name
  unhidden file inner o e f =
      sym (latest_or inner (latest source None file name) ∙ ap (λ x. option_or x (latest source None file name)) (sym e ∙ f))
