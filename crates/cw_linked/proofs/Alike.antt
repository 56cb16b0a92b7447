-- Of a made game, states with the same rights are alike at a split call.
use Rattle.std.proofs.Common.{◌≡◌, ℕ, ◌+◌, ◌*◌, ◌<◌, length, ap}
use Rattle.std.specs.Prelude.{◌/◌, ◌%◌}
use Rattle.std.proofs.lemmas.Nat.{div-add-mod', mod-mul-add, mod_below}
use Rattle.cw_states.specs.States.{lists_of}
use Rattle.cw_product.specs.Product.{Held, game_of}
use Rattle.cw_linked.specs.Founds.{AreAlike}
use Rattle.cw_lemmas.proofs.Numbers.{mul_positive as some_rights}

-- a state and its rights
rights_of : (n x q : ℕ) → 0 < n → (x / n * n + q % n) % n ≡ q % n
rights_of n x q some = mod-mul-add (x / n) n (q % n) (mod_below q n some)

pub alike : (h : Held) → AreAlike (game_of h)
alike h = record {
  same = λ x y q lx ly lq.
      let n = length (lists_of h.states).rights in
      ap (λ (r : ℕ). x / n * n + r) (rights_of n y q (some_rights (length (lists_of h.states).sets) n q lq));
  own = λ q lq. div-add-mod' q (length (lists_of h.states).rights);
}
