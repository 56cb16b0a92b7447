-- What a statement adds to the statements that are listed.
use Rattle.std.proofs.Common.{◌≡◌, ◌⊎◌, inl, inr, List, [], ◌∷◌, ◌++◌, Bool, map, append-nil, sym, ap, ◌∙◌}
use Rattle.std.specs.Borrow.{Bor}
use Rattle.cw_syntax.specs.declared.program.Decl.{Decl}
use Rattle.cw_syntax.specs.declared.program.Expr.{Expr}
use Rattle.cw_syntax.specs.declared.program.Stmt.{Stmt}
use Rattle.cw_syntax.specs.declared.program.What.{What}
use Rattle.cw_syntax.specs.declared.program.What.TheVariants.{Decl as DeclWhat, Expr as ExprWhat, Empty, Break, Continue, Return}
use Rattle.std.specs.Prelude.{Option}
use Rattle.cw_syntax.specs.Trees.{form_of, statement_of}
use Rattle.cw_scope.specs.declared.walks.Nested.{Nested as HeldNested}
use Rattle.cw_scope.specs.Walks.{Nested, nested, nested_within}
use Rattle.cw_scope.specs.Held.{nested_of}
use Rattle.cw_scope.proofs.Pushed.{pushed}

-- itself, and then what is in it
pub with_inner : (looped : Bool) (s : Bor Stmt) (old put : List HeldNested) (within : List Nested) → put ≡ old ++ record { statement = s; looped = looped } ∷ []
    → nested_within looped (form_of (s.now).what) ≡ within → map nested_of put ++ within ≡ map nested_of old ++ nested looped (statement_of s.now)
with_inner looped s old put within is e =
    let p : HeldNested = record { statement = s; looped = looped } in
    pushed nested_of old put p within is ∙ ap (λ l. map nested_of old ++ (nested_of p ∷ l)) (sym e)

-- itself alone
pub alone : (looped : Bool) (s : Bor Stmt) (old put : List HeldNested) → put ≡ old ++ record { statement = s; looped = looped } ∷ []
    → nested_within looped (form_of (s.now).what) ≡ [] → map nested_of put ≡ map nested_of old ++ nested looped (statement_of s.now)
alone looped s old put is e = sym (append-nil (map nested_of put)) ∙ with_inner looped s old put [] is e

-- statements with none in them
pub no_inner : (looped : Bool) (w : What) → ((d : Decl) × (w ≡ DeclWhat d)) ⊎ (((e : Expr) × (w ≡ ExprWhat e)) ⊎ (w ≡ Empty)) → nested_within looped (form_of w) ≡ []
no_inner looped w (inl h) = ap (λ v. nested_within looped (form_of v)) h.1
no_inner looped w (inr (inl h)) = ap (λ v. nested_within looped (form_of v)) h.1
no_inner looped w (inr (inr h)) = ap (λ v. nested_within looped (form_of v)) h

pub no_inner_jump : (looped : Bool) (w : What) → (w ≡ Break) ⊎ ((w ≡ Continue) ⊎ ((value : Option Expr) × (w ≡ Return value))) → nested_within looped (form_of w) ≡ []
no_inner_jump looped w (inl h) = ap (λ v. nested_within looped (form_of v)) h
no_inner_jump looped w (inr (inl h)) = ap (λ v. nested_within looped (form_of v)) h
no_inner_jump looped w (inr (inr h)) = ap (λ v. nested_within looped (form_of v)) h.1
