-- The texts that a set holds: their order tells nothing.
use Rattle.std.proofs.Common.{◌≡◌, ◌≤◌, ◌+◌, ℕ, suc, arith, nat_lt, List, [], ◌∷◌, ◌++◌, map, length, Bool, true, false, cond, not, ◌||◌, Some, None, refl, sym, ap, ap₂, ◌∙◌}
use Rattle.std.proofs.lemmas.Bool.{le-ltb}
use Rattle.std.specs.List.{list_any}
use Rattle.std.specs.Borrow.{Bor}
use Rattle.std.specs.Str.{bytes_eq}
use Rattle.std.proofs.lemmas.Cmp.{nat_list_eq_equiv}
use Rattle.std.proofs.lemmas.Map.Steps.{list_any_congr}
use Rattle.std.proofs.lemmas.List.Folds.{list_any-append}
use Rattle.cw_syntax.specs.declared.program.Name.{Name}
use Rattle.cw_syntax.specs.Names.{text}
use Rattle.cw_scope.specs.Rules.{repeated, different}
use Rattle.cw_lemmas.proofs.Truths.{or_false}

abbrev pub texts : List (Bor (List ℕ)) → List (List ℕ)
texts keys = map (λ k. k.now) keys

-- the same texts are among both
abbrev pub AreAlike : List (List ℕ) → List (List ℕ) → Type 0
AreAlike before other = (t : List ℕ) → list_any (bytes_eq t) before ≡ list_any (bytes_eq t) other

alike_behind : (before other : List (List ℕ)) (u : List ℕ) → AreAlike before other → AreAlike (before ++ u ∷ []) (other ++ u ∷ [])
alike_behind before other u same t =
    list_any-append (bytes_eq t) before (u ∷ [])
    ∙ ap (λ b. b || list_any (bytes_eq t) (u ∷ [])) (same t)
    ∙ sym (list_any-append (bytes_eq t) other (u ∷ []))

pub repeated_alike : (source : List ℕ) (names : List Name) (before other : List (List ℕ)) → AreAlike before other → repeated source before names ≡ repeated source other names
repeated_alike source [] before other same = refl
repeated_alike source (name ∷ names) before other same =
    let t = text source name in
    ap₂ (λ b rest. cond b (Some name) rest) (same t) (repeated_alike source names (before ++ t ∷ []) (other ++ t ∷ []) (alike_behind before other t same))

pub different_alike : (source : List ℕ) (names : List Name) (before other : List (List ℕ)) → AreAlike before other → different source before names ≡ different source other names
different_alike source [] before other same = refl
different_alike source (name ∷ names) before other same =
    let t = text source name in
    ap (λ b. cond b (different source before names) (t ∷ different source (before ++ t ∷ []) names)) (same t)
    ∙ ap₂ (λ known new. cond (list_any (bytes_eq t) other) known (t ∷ new)) (different_alike source names before other same)
    (different_alike source names (before ++ t ∷ []) (other ++ t ∷ []) (alike_behind before other t same))

held : (t : List ℕ) (keys : List (Bor (List ℕ))) → list_any (bytes_eq t) (texts keys) ≡ list_any (λ k. bytes_eq t k.now) keys
held t [] = refl
held t (k ∷ ks) = ap (λ b. bytes_eq t k.now || b) (held t ks)

either_way : (a b c : Bool) → a ≡ c → cond a true b ≡ (b || (c || false))
either_way true true c same = refl
either_way true false true same = refl
either_way true false false same = same
either_way false true c same = refl
either_way false false true same = same
either_way false false false same = refl

is_there : (b : Bool) → false ≡ not b → b ≡ true
is_there true e = refl
is_there false e = e

isnt_there : (b : Bool) → true ≡ not b → b ≡ false
isnt_there true e = e
isnt_there false e = refl

-- a set with a text put in
pub put_in : (key : Bor (List ℕ)) (old new : List (Bor (List ℕ)))
    → ((q : Bor (List ℕ)) → list_any (λ k. bytes_eq q.now k.now) new ≡ cond (bytes_eq key.now q.now) true (list_any (λ k. bytes_eq q.now k.now) old))
    → AreAlike (texts new) (texts old ++ key.now ∷ [])
put_in key old new updates t =
    held t new
    ∙ updates (record { ref_ptr = key.ref_ptr; now = t })
    ∙ either_way (bytes_eq key.now t) (list_any (λ k. bytes_eq t k.now) old) (bytes_eq t key.now) (nat_list_eq_equiv.symm key.now t)
    ∙ ap (λ b. b || list_any (bytes_eq t) (key.now ∷ [])) (sym (held t old))
    ∙ sym (list_any-append (bytes_eq t) (texts old) (key.now ∷ []))

-- one name that is new among those that were seen
pub repeated_on : (source : List ℕ) (name : Name) (names : List Name) (key : Bor (List ℕ)) (old new : List (Bor (List ℕ)))
    → key.now ≡ text source name
    → ((q : Bor (List ℕ)) → list_any (λ k. bytes_eq q.now k.now) new ≡ cond (bytes_eq key.now q.now) true (list_any (λ k. bytes_eq q.now k.now) old))
    → true ≡ not (list_any (λ k. bytes_eq key.now k.now) old)
    → repeated source (texts new) names ≡ repeated source (texts old) (name ∷ names)
repeated_on source name names key old new at updates absent =
    let unseen : list_any (bytes_eq (text source name)) (texts old) ≡ false = ap (λ t. list_any (bytes_eq t) (texts old)) (sym at) ∙ held key.now old
    ∙ isnt_there (list_any (λ k. bytes_eq key.now k.now) old) absent in
    repeated_alike source names (texts new) (texts old ++ key.now ∷ []) (put_in key old new updates)
    ∙ ap (λ t. repeated source (texts old ++ t ∷ []) names) at
    ∙ ap (λ b. cond b (Some name) (repeated source (texts old ++ text source name ∷ []) names)) (sym unseen)

-- one name that was seen
pub repeated_at : (source : List ℕ) (name : Name) (names : List Name) (key : Bor (List ℕ)) (old : List (Bor (List ℕ)))
    → key.now ≡ text source name
    → false ≡ not (list_any (λ k. bytes_eq key.now k.now) old)
    → repeated source (texts old) (name ∷ names) ≡ Some name
repeated_at source name names key old at present =
    let seen : list_any (bytes_eq (text source name)) (texts old) ≡ true = ap (λ t. list_any (bytes_eq t) (texts old)) (sym at) ∙ held key.now old
    ∙ is_there (list_any (λ k. bytes_eq key.now k.now) old) present in
    ap (λ b. cond b (Some name) (repeated source (texts old ++ text source name ∷ []) names)) seen

by_text : (t u : List ℕ) (before : List (List ℕ)) (b : Bool) → bytes_eq u t ≡ b → list_any (bytes_eq t) before ≡ true → (list_any (bytes_eq u) before || (b || false)) ≡ list_any (bytes_eq u) before
by_text t u before true e there = let a : list_any (bytes_eq u) before ≡ true = list_any_congr nat_list_eq_equiv u t before e ∙ there in rw a refl
by_text t u before false e there = or_false (list_any (bytes_eq u) before)

-- a text that is there already changes nothing
there_already : (before : List (List ℕ)) (t : List ℕ) → list_any (bytes_eq t) before ≡ true → AreAlike (before ++ t ∷ []) before
there_already before t there u = list_any-append (bytes_eq u) before (t ∷ []) ∙ by_text t u before (bytes_eq u t) refl there

by_seen : (b : Bool) (m n : ℕ) (after known new : List (List ℕ)) (t : List ℕ)
    → n ≡ m + cond (not b) 1 0
    → length after ≡ length new
    → (b ≡ true → length new ≡ length known)
    → n + length after ≡ m + length (cond b known (t ∷ new))
by_seen true m n after known new t more is same = omega (arith, more, is, same refl)
by_seen false m n after known new t more is same = omega (arith, more, is)

-- how many different names there are, those that were seen among them
pub counted_on : (source : List ℕ) (name : Name) (names : List Name) (key : Bor (List ℕ)) (old new : List (Bor (List ℕ)))
    → key.now ≡ text source name
    → ((q : Bor (List ℕ)) → list_any (λ k. bytes_eq q.now k.now) new ≡ cond (bytes_eq key.now q.now) true (list_any (λ k. bytes_eq q.now k.now) old))
    → length new ≡ length old + cond (not (list_any (λ k. bytes_eq key.now k.now) old)) 1 0
    → length new + length (different source (texts new) names) ≡ length old + length (different source (texts old) (name ∷ names))
counted_on source name names key old new at updates more =
    let t = text source name in
    let b = list_any (bytes_eq t) (texts old) in
    let seen : b ≡ list_any (λ k. bytes_eq key.now k.now) old = ap (λ t. list_any (bytes_eq t) (texts old)) (sym at) ∙ held key.now old in
    let alike = different_alike source names (texts new) (texts old ++ key.now ∷ []) (put_in key old new updates) ∙ ap (λ t. different source (texts old ++ t ∷ []) names) at in
    by_seen b (length old) (length new) (different source (texts new) names) (different source (texts old) names) (different source (texts old ++ t ∷ []) names) t
    (more ∙ ap (λ b. length old + cond (not b) 1 0) (sym seen))
    (ap length alike)
    (λ there. ap length (different_alike source names (texts old ++ t ∷ []) (texts old) (there_already (texts old) t there)))

-- a name that stands alone has none before it
pub one_alone : (source : List ℕ) (names : List Name) → length names ≤ 1 → repeated source [] names ≡ None
one_alone source [] few = refl
one_alone source (name ∷ []) few = refl
one_alone source (name ∷ next ∷ names) few = absurd (omega (arith, few))

by_new : (n : ℕ) (b : Bool) (known new : List (List ℕ)) (t : List ℕ) → length known ≤ n → length new ≤ n → length (cond b known (t ∷ new)) ≤ suc n
by_new n true known new t old one = omega (arith, old)
by_new n false known new t old one = omega (arith, one)

-- there are no more different names than names
few_different : (source : List ℕ) (names : List Name) (before : List (List ℕ)) → length (different source before names) ≤ length names
few_different source [] before = omega arith
few_different source (name ∷ names) before =
    let t = text source name in
    by_new (length names) (list_any (bytes_eq t) before) (different source before names) (different source (before ++ t ∷ []) names) t
    (few_different source names before) (few_different source names (before ++ t ∷ []))

pub no_more : (source : List ℕ) (names : List Name) (most : ℕ) → length names ≤ most → nat_lt most (length (different source [] names)) ≡ false
no_more source names most few = let fewer = few_different source names [] in le-ltb most (length (different source [] names)) (omega (arith, fewer, few))
