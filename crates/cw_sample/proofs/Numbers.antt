-- The number of a sample that an argument tells.
use Rattle.std.proofs.Common.{◌≡◌, ◌≢◌, ◌≤◌, ◌<◌, ℕ, zero, suc, List, Some, None, Bool, true, false, cond, refl, sym, ap, ◌∙◌, arith}
use Rattle.std.specs.Fmt.{decimal}
use Rattle.std.specs.Str.{bytes_eq}
use Rattle.std.proofs.lemmas.Fmt.{decimal_injective}
use Rattle.std.proofs.lemmas.Slice.Eq.{bytes_eq-Decides}
use Rattle.cw_sample.specs.Samples.{number_up_to, sample_number}

-- no number from 1 to the last has this decimal
unspelled : (last : ℕ) (argument : List ℕ) → ((n : ℕ) → 0 < n → n ≤ last → decimal n ≢ argument) → number_up_to last argument ≡ None
unfolding number_up_to
unspelled zero argument none = refl
unspelled (suc m) argument none = by (unspelled m argument (λ n low high. none n low (omega (arith, high)))) (bytes_eq argument (decimal (suc m))) refl
  where
    by : number_up_to m argument ≡ None → (b : Bool) → bytes_eq argument (decimal (suc m)) ≡ b → cond b (Some (suc m)) (number_up_to m argument) ≡ None
    by rest true e = absurd (none (suc m) (omega arith) (omega arith) (sym ((bytes_eq-Decides argument (decimal (suc m))).0 e)))
    by rest false e = rest

-- the number whose decimal the argument is
spelled : (last : ℕ) (argument : List ℕ) (n : ℕ) → last ≤ 400 → 0 < n → n ≤ last → decimal n ≡ argument → number_up_to last argument ≡ Some n
unfolding number_up_to
spelled zero argument n few low high e = absurd (omega (arith, low, high))
spelled (suc m) argument n few low high e = by (λ less. spelled m argument n (omega (arith, few)) low less e) (bytes_eq argument (decimal (suc m))) refl
  where
    by : (n ≤ m → number_up_to m argument ≡ Some n) → (b : Bool) → bytes_eq argument (decimal (suc m)) ≡ b → cond b (Some (suc m)) (number_up_to m argument) ≡ Some n
    by rest true t =
        let same : n ≡ suc m = decimal_injective n (suc m) (omega (arith, few, high)) (omega (arith, few)) (e ∙ (bytes_eq-Decides argument (decimal (suc m))).0 t) in
        ap Some (sym same)
    by rest false f =
        let other : n ≢ suc m = λ s. let t = (bytes_eq-Decides argument (decimal (suc m))).1 (sym e ∙ ap decimal s) in let z : false ≡ true = sym f ∙ t in absurd (cc) in
        rest (omega (arith, high, other))

pub no_number : (argument : List ℕ) → ((n : ℕ) → n ≤ 400 → decimal n ≢ argument) → None ≡ sample_number argument
no_number argument none = sym (unspelled 400 argument (λ n low high. none n high))

pub zero_alone : (argument : List ℕ) (number : ℕ) → number ≤ 400 → decimal number ≡ argument → number ≡ 0 → None ≡ sample_number argument
zero_alone argument number most e none =
    sym (unspelled 400 argument (λ n low high s. let same = decimal_injective number n (omega (arith, most)) (omega (arith, high)) (e ∙ sym s) in absurd (omega (arith, low, none, same))))

pub a_number : (argument : List ℕ) (number : ℕ) → number ≤ 400 → decimal number ≡ argument → number ≢ 0 → Some number ≡ sample_number argument
a_number argument number most e other = sym (spelled 400 argument number (omega arith) (omega (arith, other)) most e)
