-- Labels that all differ differ in each function.
use Rattle.std.proofs.Common.{◌≡◌, ℕ, List, [], ◌∷◌, ◌++◌, Bool, true, false, cond, ◌||◌, Option, None, Some, refl, sym, ap, ap₂, ◌∙◌}
use Rattle.std.specs.List.{list_any, flat_map}
use Rattle.std.specs.Option.{option_or}
use Rattle.std.specs.Str.{bytes_eq}
use Rattle.std.proofs.lemmas.List.Concat.{flat_map-append}
use Rattle.std.proofs.lemmas.List.Folds.{list_any-append}
use Rattle.cw_syntax.specs.declared.program.Name.{Name}
use Rattle.cw_syntax.specs.Names.{text}
use Rattle.cw_syntax.specs.Trees.{Definition}
use Rattle.cw_scope.specs.Names.{label_of, labels_of}
use Rattle.cw_scope.specs.Rules.{repeated, second_label}
use Rattle.cw_scope.specs.Walks.{body_of}

-- texts that aren't among these aren't among those
abbrev AreFewer : List (List ℕ) → List (List ℕ) → Type 0
AreFewer before other = (t : List ℕ) → list_any (bytes_eq t) other ≡ false → list_any (bytes_eq t) before ≡ false

neither : (a b : Bool) → (a || b) ≡ false → (a ≡ false) × (b ≡ false)
neither true b e = absurd (cc)
neither false b e = (refl, e)

fewer_behind : (before other : List (List ℕ)) (u : List ℕ) → AreFewer before other → AreFewer (before ++ u ∷ []) (other ++ u ∷ [])
fewer_behind before other u fewer t e =
    let p = neither (list_any (bytes_eq t) other) (list_any (bytes_eq t) (u ∷ [])) (sym (list_any-append (bytes_eq t) other (u ∷ [])) ∙ e) in
    list_any-append (bytes_eq t) before (u ∷ []) ∙ ap₂ (λ a b. a || b) (fewer t p.0) p.1

-- nothing is answered by a test that fails before nothing
failed : {A : Type 0} (b : Bool) (x : A) (rest : Option A) → cond b (Some x) rest ≡ None → (b ≡ false) × (rest ≡ None)
failed true x rest e = absurd (cc)
failed false x rest e = (refl, e)

less_seen : (source : List ℕ) (names : List Name) (before other : List (List ℕ)) → AreFewer before other → repeated source other names ≡ None → repeated source before names ≡ None
less_seen source [] before other fewer e = refl
less_seen source (name ∷ names) before other fewer e =
    let t = text source name in
    let p = failed (list_any (bytes_eq t) other) name (repeated source (other ++ t ∷ []) names) e in
    ap (λ b. cond b (Some name) (repeated source (before ++ t ∷ []) names)) (fewer t p.0)
    ∙ less_seen source names (before ++ t ∷ []) (other ++ t ∷ []) (fewer_behind before other t fewer) p.1

front : (source : List ℕ) (xs ys : List Name) (before : List (List ℕ)) → repeated source before (xs ++ ys) ≡ None → repeated source before xs ≡ None
front source [] ys before e = refl
front source (x ∷ xs) ys before e =
    let t = text source x in
    let p = failed (list_any (bytes_eq t) before) x (repeated source (before ++ t ∷ []) (xs ++ ys)) e in
    ap (λ b. cond b (Some x) (repeated source (before ++ t ∷ []) xs)) p.0 ∙ front source xs ys (before ++ t ∷ []) p.1

behind : (source : List ℕ) (xs ys : List Name) (before : List (List ℕ)) → repeated source before (xs ++ ys) ≡ None → repeated source [] ys ≡ None
behind source [] ys before e = less_seen source ys [] before (λ t absent. refl) e
behind source (x ∷ xs) ys before e =
    let t = text source x in
    behind source xs ys (before ++ t ∷ []) (failed (list_any (bytes_eq t) before) x (repeated source (before ++ t ∷ []) (xs ++ ys)) e).1

pub no_second : (source : List ℕ) (fs : List Definition) → repeated source [] (labels_of (flat_map body_of fs)) ≡ None → second_label source fs ≡ None
no_second source [] e = refl
no_second source (f ∷ fs) e =
    let own = labels_of (body_of f) in
    let rest = labels_of (flat_map body_of fs) in
    let all : repeated source [] (own ++ rest) ≡ None = ap (repeated source []) (sym (flat_map-append (λ p. label_of p.statement) (body_of f) (flat_map body_of fs))) ∙ e in
    ap₂ (λ a b. option_or a b) (front source own rest [] all) (no_second source fs (behind source own rest [] all))
