-- The number of a context is found.
use Rattle.std.proofs.Common.{◌≡◌, ℕ, ◌<◌, ◌≤◌, Bool, true, false, ◌&&◌, Option, Some, None, length, refl, sym, ap, ap₂, ◌∙◌, arith}
use Rattle.std.specs.Prelude.{slice_get, nat_eq, nat_le}
use Rattle.std.proofs.lemmas.Bool.{eqb-true, eq-eqb, ne_eqb, le-leb}
use Rattle.std.proofs.lemmas.Bool.Decides.{nat_tests}
use Rattle.std.proofs.lemmas.Option.{slice_get_within, get_or_from_slice_get}
use Rattle.cw_game.specs.Games.{Game}
use Rattle.std.proofs.lemmas.Bool.{and_parts, and_from as both}
use Rattle.cw_product.specs.Product.{game_of}
use Rattle.cw_solve.specs.declared.contexts.Context.{Context}
use Rattle.cw_solve.specs.Contexts.{context, AreTheNeeded}
use Rattle.cw_solve.specs.Numbering.{has_position, IsUnder, IsNumberOf}
use Rattle.cw_product.specs.Routed.{AreRouted, IsThere}
use Rattle.cw_solve.specs.Solved.{Held}
use Rattle.cw_solve.proofs.Still.{number_of}
use Rattle.cw_solve.proofs.Tabling.{there}

module _ (h : Held) where
  abbrev g : Game
  g = game_of h.game

  -- the functions of contexts are there
  pub function_there : (functions : ℕ) → AreRouted g functions → AreTheNeeded g h.contexts → (number : ℕ) (c : Context) → Some c ≡ slice_get h.contexts number → IsThere g functions c.function
  function_there functions routed are number c e =
      there g functions routed c (are.some.needed c (number, slice_get_within h.contexts number c (sym e), get_or_from_slice_get h.contexts number c c (sym e)))

  -- what stands under a needed promise is a position
  pub under_position : (functions : ℕ) → AreRouted g functions → (e p : ℕ) → IsUnder g p e → p < length g.spots
  under_position functions routed e p is = let th = there g functions routed (context is.0 e) is.2 in omega (arith, th.ends, is.1.1)

  -- the context that has a position
  pub found_in : (number e p : ℕ) → has_position g p e (slice_get h.contexts number) ≡ true → IsNumberOf g h.contexts number e p
  found_in number e p t = by (slice_get h.contexts number) refl t
    where
      by : (o : Option Context) → slice_get h.contexts number ≡ o → has_position g p e o ≡ true → IsNumberOf g h.contexts number e p
      by None k t = cc
      by (Some c) k t =
          let a = and_parts (nat_eq c.promise e) (nat_le (g.entry c.function) p && nat_le p (g.exit c.function)) t in
          let b = and_parts (nat_le (g.entry c.function) p) (nat_le p (g.exit c.function)) a.1 in
          record { context = c; at = k; of = (grind (arith, nat_tests, b.0), grind (arith, nat_tests, b.1)); promise_is = eqb-true c.promise e a.0 }

  pub some_has : (e p : ℕ) → AreTheNeeded g h.contexts → IsUnder g p e → (n : ℕ) → length h.contexts ≤ n → ((i : ℕ) → i < n → has_position g p e (slice_get h.contexts i) ≡ false) → ⊥
  some_has e p are is n le none =
      let c = context is.0 e in
      let at = number_of h.contexts c (are.all c is.2) in
      let i = at.0 in
      let ways : has_position g p e (Some c) ≡ true =
      both (nat_eq e e) (nat_le (g.entry is.0) p && nat_le p (g.exit is.0)) (eq-eqb e e refl)
      (both (nat_le (g.entry is.0) p) (nat_le p (g.exit is.0)) (le-leb (g.entry is.0) p is.1.0) (le-leb p (g.exit is.0) is.1.1)) in
      let long = slice_get_within h.contexts i c at.1 in
      let lt : i < n = omega (arith, long, le) in
      let w : true ≡ false = sym ways ∙ ap (has_position g p e) (sym at.1) ∙ none i lt in
      cc

  pub has_is : (p e number first last : ℕ) (c : Context) (near : Bool) → Some c ≡ slice_get h.contexts number → first ≡ g.entry c.function → last ≡ g.exit c.function
      → near ≡ (nat_le first p && nat_le p last) → c.promise ≡ e → near ≡ has_position g p e (slice_get h.contexts number)
  has_is p e number first last c near at f l n same =
      n ∙ ap₂ (λ (x y : ℕ). nat_le x p && nat_le p y) f l
      ∙ sym (ap (has_position g p e) (sym at) ∙ ap (λ b. b && (nat_le (g.entry c.function) p && nat_le p (g.exit c.function))) (eq-eqb c.promise e same))

  pub has_not : (p e number : ℕ) (c : Context) → Some c ≡ slice_get h.contexts number → (c.promise ≡ e → ⊥) → false ≡ has_position g p e (slice_get h.contexts number)
  has_not p e number c at other =
      sym (ap (has_position g p e) (sym at) ∙ ap (λ b. b && (nat_le (g.entry c.function) p && nat_le p (g.exit c.function))) (ne_eqb c.promise e other))
