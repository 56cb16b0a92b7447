-- Lines as they are put.
use Rattle.std.proofs.Common.{◌≡◌, ℕ, ◌+◌, ◌<◌, ◌≤◌, List, [], ◌∷◌, ◌++◌, length, map, take, get_or, refl, sym, ap, ◌∙◌, append_assoc, append-nil}
use Rattle.std.specs.Prelude.{codes}
use Rattle.std.specs.Fmt.{signed_decimal}
use Rattle.std.specs.List.{flat_map}
use Rattle.std.proofs.lemmas.Grind.{flat_map-append}
use Rattle.std.proofs.lemmas.List.{take_more, take_all}
use Rattle.cw_value.specs.declared.values.Arg.{Arg}
use Rattle.cw_syntax.specs.Names.{text}
use Rattle.cw_value.specs.Expressions.{Made}
use Rattle.cw_value_text.specs.ValuesText.{arg_text, args_text, call_line}
use Rattle.cw_value_text.specs.Working.{behind}

pub each_begin : {A : Type 0} (emit : A → List ℕ) (text : List ℕ) → text ≡ text ++ flat_map emit []
each_begin emit text = sym (append-nil text)

pub each_step : {A : Type 0} (emit : A → List ℕ) (old now new : List ℕ) (xs : List A) (i : ℕ) (d : A) → i < length xs → now ≡ old ++ flat_map emit (take i xs) → new ≡ now ++ emit (get_or xs i d)
    → new ≡ old ++ flat_map emit (take (i + 1) xs)
each_step emit old now new xs i d lt so_far put =
    put ∙ ap (λ t. t ++ emit (get_or xs i d)) so_far ∙ append_assoc old (flat_map emit (take i xs)) (emit (get_or xs i d))
    ∙ ap (λ t. old ++ t) (ap (λ t. flat_map emit (take i xs) ++ t) (sym (append-nil (emit (get_or xs i d)))) ∙ sym (flat_map-append emit (take i xs) (get_or xs i d ∷ [])) ∙ ap (flat_map emit) (sym (take_more xs i d lt)))

pub each_end : {A : Type 0} (emit : A → List ℕ) (old now : List ℕ) (xs : List A) (i : ℕ) → length xs ≤ i → now ≡ old ++ flat_map emit (take i xs) → now ≡ old ++ flat_map emit xs
each_end emit old now xs i le h = h ∙ ap (λ (ys : List _). old ++ flat_map emit ys) (take_all i xs le)

pub each_mapped : {A B : Type 0} (emit : B → List ℕ) (f : A → B) (xs : List A) → flat_map (λ x. emit (f x)) xs ≡ flat_map emit (map f xs)
each_mapped emit f [] = refl
each_mapped emit f (x ∷ xs) = ap (λ t. emit (f x) ++ t) (each_mapped emit f xs)

-- arguments with commas between them: the first, and each other behind a comma
pub args_first : (source : List ℕ) (first : Arg) (others : List Arg) → args_text source (first ∷ others) ≡ arg_text source first ++ flat_map (behind source) others
args_first source first [] = sym (append-nil (arg_text source first))
args_first source first (next ∷ others) = ap (λ t. arg_text source first ++ (44 ∷ t)) (args_first source next others)

grouped : (t0 word name args answer : List ℕ) → (((((t0 ++ word) ++ name) ++ codes "(") ++ args) ++ codes ") = ") ++ answer ≡ t0 ++ (word ++ (name ++ (codes "(" ++ (args ++ (codes ") = " ++ answer)))))
grouped t0 word name args answer = simp append_assoc

pub call_put : (source : List ℕ) (m : Made) (t0 t1 t2 t3 t4 t5 t6 t7 : List ℕ) → t1 ≡ t0 ++ codes "call " → t2 ≡ t1 ++ text source m.name → t3 ≡ t2 ++ codes "(" → t4 ≡ t3 ++ args_text source m.args
    → t5 ≡ t4 ++ codes ") = " → t6 ≡ t5 ++ signed_decimal m.answer → t7 ≡ t6 ++ codes "\n" → t7 ≡ t0 ++ call_line source m
unfolding call_line
call_put source m t0 t1 t2 t3 t4 t5 t6 t7 h1 h2 h3 h4 h5 h6 h7 =
    h7 ∙ ap (λ t. t ++ codes "\n") (rw (h6, h5, h4, h3, h2, h1) (grouped t0 (codes "call ") (text source m.name) (args_text source m.args) (signed_decimal m.answer)))
    ∙ append_assoc t0 (codes "call " ++ (text source m.name ++ (codes "(" ++ (args_text source m.args ++ (codes ") = " ++ signed_decimal m.answer))))) (codes "\n")

pub args_put : (source : List ℕ) (args : List Arg) (first : Arg) (others : List Arg) (t0 t1 t2 : List ℕ) → args ≡ first ∷ others → t1 ≡ t0 ++ arg_text source first → t2 ≡ t1 ++ flat_map (behind source) others
    → t2 ≡ t0 ++ args_text source args
args_put source args first others t0 t1 t2 is h1 h2 =
    h2 ∙ ap (λ t. t ++ flat_map (behind source) others) h1 ∙ append_assoc t0 (arg_text source first) (flat_map (behind source) others)
    ∙ ap (λ t. t0 ++ t) (sym (args_first source first others) ∙ ap (args_text source) (sym is))
