-- What the functions of a plan call, by the rows of their statements; and the tables of effects.
use Rattle.std.proofs.Common.{◌≡◌, ℕ, zero, suc, ◌+◌, List, [], ◌∷◌, ◌++◌, map, length, get_or, Vec, Global, refl, sym, length-append, ap, ap₂, ◌∙◌, subst, arith}
use Rattle.std.specs.Prelude.{slice_get, Option, Some}
use Rattle.cw_callgraph.specs.Lowest.{forbidden}
use Rattle.std.proofs.lemmas.List.{length-map}
use Rattle.std.proofs.lemmas.Option.{none-some, same_Some}
use Rattle.cw_syntax.specs.declared.program.Function.{Function}
use Rattle.cw_syntax.specs.Trees.{definition_of}
use Rattle.cw_syntax.specs.Plans.{Stm, Plain, Break, Continue, Return, Open, Close, Call, Group, Label, If, While, Do, For, Stms, end, then, Scene, routines_from, numbered, numbered_all, seams, seams_all}
use Rattle.cw_resolve.specs.Scenes.{stms_in}
use Rattle.cw_callgraph.specs.declared.table.Effect.{Effect}
use Rattle.cw_callgraph.specs.Effects.{callees, callees_all, firsts, calls_of, calls, Each}
use Rattle.cw_callgraph.specs.Finding.{direct, next_in, IsReach, AreEffects, lists_of}

mutual
  numbered_callees : (s : Stm) (j : ℕ) → callees (numbered s j) ≡ callees s
  numbered_callees (Plain at) j = refl
  numbered_callees (Break at) j = refl
  numbered_callees (Continue at) j = refl
  numbered_callees (Return at) j = refl
  numbered_callees (Open at i d) j = refl
  numbered_callees (Close at i d) j = refl
  numbered_callees (Call at i callee) j = refl
  numbered_callees (Group ss) j = all_numbered ss j
  numbered_callees (Label at flag i l s) j = numbered_callees s (j + 1)
  numbered_callees (If at s t) j = ap₂ (λ x y. x ++ y) (numbered_callees s j) (numbered_callees t (j + seams s))
  numbered_callees (While at s) j = numbered_callees s j
  numbered_callees (Do at s) j = numbered_callees s j
  numbered_callees (For at init decided stepped s) j = numbered_callees s j

  all_numbered : (ss : Stms) (j : ℕ) → callees_all (numbered_all ss j) ≡ callees_all ss
  all_numbered end j = refl
  all_numbered (then s ss) j = ap₂ (λ x y. x ++ y) (numbered_callees s j) (all_numbered ss (j + seams s))

-- the calls of a function by its number
pub calls_at : (s : Scene) (fs : List Function) (j f : ℕ) → calls_of (slice_get (routines_from s j (map definition_of fs)) f) ≡ get_or (map (direct s) fs) f []
calls_at s [] j f = refl
calls_at s (x ∷ fs) j zero = ap firsts (all_numbered (stms_in s x.body.items) (j + 1))
calls_at s (x ∷ fs) j (suc f) = calls_at s fs (j + 1 + seams_all (stms_in s x.body.items)) f

pub same_calls : (s : Scene) (fs : List Function) (main : ℕ) (rows : List (Vec ℕ Global)) → lists_of rows ≡ map (direct s) fs → (h : ℕ)
    → next_in rows h ≡ calls (record { routines = routines_from s 0 (map definition_of fs); main = main }) h
same_calls s fs main rows e h = ap (λ l. get_or l h []) e ∙ sym (calls_at s fs 0 h)

pub rows_count : (s : Scene) (fs : List Function) (rows : List (Vec ℕ Global)) → lists_of rows ≡ map (direct s) fs → length rows ≡ length fs
rows_count s fs rows e = sym (length-map rows (λ (row : Vec ℕ Global). row.items)) ∙ ap length e ∙ length-map fs (direct s)

-- the row with this number
pub row_at : (rows : List (Vec ℕ Global)) (f : ℕ) (row : Vec ℕ Global) → slice_get rows f ≡ Some row → next_in rows f ≡ row.items
row_at [] f row e = absurd (none-some row e)
row_at (x ∷ xs) zero row e = ap (λ (r : Vec ℕ Global). r.items) (same_Some x row e)
row_at (x ∷ xs) (suc f) row e = row_at xs f row e

-- a table with one entry more
each_cons : {A : Type 0} (P : ℕ → A → Type 0) (x : A) (xs : List A) → P 0 x → Each (λ f y. P (suc f) y) xs → Each P (x ∷ xs)
each_cons P x xs p h zero y e = subst (P 0) (same_Some x y e) p
each_cons P x xs p h (suc f) y e = h f y e

pub each_more : {A : Type 0} (P : ℕ → A → Type 0) (xs : List A) (x : A) (n : ℕ) → length xs ≡ n → Each P xs → P n x → Each P (xs ++ x ∷ [])
each_more P [] x n l h p = each_cons P x [] (subst (λ m. P m x) (sym l) p) (λ f y e. absurd (none-some y e))
each_more P (y ∷ ys) x zero l h p = absurd (omega arith)
each_more P (y ∷ ys) x (suc n) l h p = each_cons P y (ys ++ x ∷ []) (h 0 y refl) (each_more (λ f z. P (suc f) z) ys x n (omega arith) (λ f z e. h (suc f) z e) p)

pub effects_more : (rows : List (Vec ℕ Global)) (heads bodies : List (Option ℕ)) (n : ℕ) (effects : List Effect) (effect : Effect)
    → AreEffects rows heads bodies n effects
    → effect.calls.items ≡ next_in rows n
    → IsReach (next_in rows) n effect.reaches.items
    → effect.forbids ≡ forbidden heads bodies n effect.reaches.items
    → AreEffects rows heads bodies (n + 1) (effects ++ effect ∷ [])
effects_more rows heads bodies n effects effect a c r b = record {
  count = length-append effects (effect ∷ []) ∙ ap (λ k. k + 1) a.count;
  calls = each_more (λ f e. e.calls.items ≡ next_in rows f) effects effect n a.count a.calls c;
  reaches = each_more (λ f e. IsReach (next_in rows) f e.reaches.items) effects effect n a.count a.reaches r;
  forbids = each_more (λ f e. e.forbids ≡ forbidden heads bodies f e.reaches.items) effects effect n a.count a.forbids b;
}
