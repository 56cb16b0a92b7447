-- One item more, by what a reader gave for it.
use Rattle.std.proofs.Common.{◌≡◌, ℕ, ◌<◌, true, List, [], ◌∷◌, ◌++◌, length, map, Ok, refl}
use Rattle.std.proofs.lemmas.List.{map-append}
use Rattle.std.proofs.lemmas.Result.{IfOk-at_ok}
use Rattle.cw_syntax.specs.Trees.{Statement}
use Rattle.cw_grammar.specs.declared.terminals.Lexeme.{Lexeme}
use Rattle.cw_expressions.specs.declared.refusal.Refusal.{Refusal}
use Rattle.cw_expressions.specs.declared.refusal.Refusal.TheVariants as refusal
use Rattle.cw_expressions.specs.Cursor.{Fails}
use Rattle.cw_parse.specs.Lists.{Reader, one_more}
use Rattle.cw_parse.specs.StatementReading.{goes_on, read_statement}
use Rattle.cw_parse.proofs.StatementsSound.{read_shortens}

pub one_more_is : {A X : Type 0} (view : A → X) (read : Reader X) (list : List A) (item : A) (ts rest : List Lexeme) → read ts ≡ Ok (view item, rest)
    → one_more read (map view list, ts) ≡ Ok (map view (list ++ item ∷ []), rest)
unfolding one_more
one_more_is view read list item ts rest e = rw (e, map-append view list (item ∷ [])) refl

pub one_more_fails : {X : Type 0} (read : Reader X) (e : Refusal) (list : List X) (ts : List Lexeme) → Fails e (read ts) → Fails e (one_more read (list, ts))
unfolding one_more
one_more_fails read refusal.NoMemory list ts h = tt
one_more_fails read refusal.Syntax list ts h = rw h refl
one_more_fails read refusal.TooDeep list ts h = rw h refl

pub one_shortens : (n : ℕ) (ts : List Lexeme) (x : Statement × List Lexeme) → goes_on ts ≡ true → read_statement n true ts ≡ Ok x → length x.1 < length ts
one_shortens n ts x go e = IfOk-at_ok (λ (z : Statement × List Lexeme). length z.1 < length ts) e (read_shortens n ts go)
