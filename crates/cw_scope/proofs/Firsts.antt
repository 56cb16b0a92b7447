-- A map of the first functions, with one function more in front.
use Rattle.std.proofs.Common.{◌≡◌, ℕ, ◌≢◌, ◌+◌, ◌<◌, List, ◌∷◌, length, map, drop, get_or, Bool, true, false, cond, Option, Some, refl, sym, ap, ◌∙◌, inl, inr}
use Rattle.std.specs.List.{find}
use Rattle.std.specs.Map.{lookup}
use Rattle.std.specs.Option.{option_map}
use Rattle.std.specs.Borrow.{Bor}
use Rattle.std.specs.Str.{bytes_eq}
use Rattle.std.proofs.Math.ListN.{set}
use Rattle.std.specs.Cmp.Lexicographic.{same_text}
use Rattle.std.proofs.lemmas.Bool.{cases_eq, false≢true}
use Rattle.std.proofs.lemmas.Cmp.{nat_list_eq_equiv}
use Rattle.std.proofs.lemmas.List.{get_or-set_same, get_or-set_other}
use Rattle.cw_rights.proofs.Along.{drop_item}
use Rattle.cw_syntax.specs.declared.program.Function.{Function}
use Rattle.cw_syntax.specs.Names.{text}
use Rattle.cw_syntax.specs.Trees.{definition_of}
use Rattle.cw_scope.specs.Known.{AreFirst, Begin}

-- what is found by a test that the first item passes or doesn't
by_test : {A B : Type 0} (F : A → B) (x : A) (older : Option A) (later : Option B) (b : Bool) → option_map F older ≡ later → option_map F (cond b (Some x) older) ≡ cond b (Some (F x)) later
by_test F x older later true same = refl
by_test F x older later false same = same

-- the entries with the first function's name put in
pub one_before : (source : List ℕ) (f : Bor Function) (fs : List Function) (key : Bor (List ℕ)) (old new : List (Bor (List ℕ) × Bor Function))
    → key.now ≡ text source (f.now).name
    → ((q : Bor (List ℕ)) → lookup (λ k. bytes_eq q.now k.now) new ≡ cond (bytes_eq key.now q.now) (Some f) (lookup (λ k. bytes_eq q.now k.now) old))
    → AreFirst source (map definition_of fs) old
    → AreFirst source (map definition_of (f.now ∷ fs)) new
one_before source f fs key old new at updates rest name =
    let same : bytes_eq key.now name.now ≡ bytes_eq name.now (text source (f.now).name) = nat_list_eq_equiv.symm key.now name.now ∙ ap (bytes_eq name.now) at in
    ap (option_map (λ (g : Bor Function). definition_of g.now)) (updates name)
    ∙ by_test (λ (g : Bor Function). definition_of g.now) f (lookup (λ k. bytes_eq name.now k.now) old) (find (λ g. bytes_eq name.now (text source g.name)) (map definition_of fs))
    (bytes_eq key.now name.now) (rest name)
    ∙ ap (λ b. cond b (Some (definition_of f.now)) (find (λ g. bytes_eq name.now (text source g.name)) (map definition_of fs))) same

-- from an index on, where the next index's functions are held
pub one_more : (source : List ℕ) (f : Bor Function) (fs : List Function) (i : ℕ) (key : Bor (List ℕ)) (old new : List (Bor (List ℕ) × Bor Function))
    → i < length fs
    → get_or fs i f.now ≡ f.now
    → key.now ≡ text source (f.now).name
    → ((q : Bor (List ℕ)) → lookup (λ k. bytes_eq q.now k.now) new ≡ cond (bytes_eq key.now q.now) (Some f) (lookup (λ k. bytes_eq q.now k.now) old))
    → AreFirst source (map definition_of (drop (i + 1) fs)) old
    → AreFirst source (map definition_of (drop i fs)) new
one_more source f fs i key old new short is at updates rest name =
    one_before source f (drop (i + 1) fs) key old new at updates rest name
    ∙ ap (λ l. find (λ g. bytes_eq name.now (text source g.name)) (map definition_of l)) (sym (drop_item fs i f.now short is))

-- the flags with that of the first function's name
pub begin_before : (source : List ℕ) (f : Function) (fs : List Function) (byte : ℕ) (flags : List Bool) → byte ≡ get_or (text source f.name) 0 0 → byte < length flags
    → Begin source (map definition_of fs) flags → Begin source (map definition_of (f ∷ fs)) (set flags byte true)
begin_before source f fs byte flags is within rest name out =
    elim (cases_eq (get_or name 0 0) byte) [
      | inl e ↦
          let on : get_or (set flags byte true) (get_or name 0 0) false ≡ true = rw e (get_or-set_same flags byte true false within) in
          absurd (false≢true (sym out ∙ on))
      | inr ne ↦
          let unmarked : get_or flags (get_or name 0 0) false ≡ false = sym (get_or-set_other flags byte (get_or name 0 0) true false ne) ∙ out in
          ap (λ b. cond b (Some (definition_of f)) (find (λ g. bytes_eq name (text source g.name)) (map definition_of fs))) (differ ne (bytes_eq name (text source f.name)) refl) ∙ rest name unmarked
    ]
  where
    differ : get_or name 0 0 ≢ byte → (b : Bool) → bytes_eq name (text source f.name) ≡ b → b ≡ false
    differ ne true e = absurd (ne (ap (λ z. get_or z 0 0) (same_text name (text source f.name) (sym e)) ∙ sym is))
    differ ne false e = refl

-- from an index on, where the next index's functions are flagged
pub begin_more : (source : List ℕ) (f : Function) (fs : List Function) (i byte : ℕ) (flags : List Bool) → i < length fs → get_or fs i f ≡ f
    → byte ≡ get_or (text source f.name) 0 0 → byte < length flags
    → Begin source (map definition_of (drop (i + 1) fs)) flags → Begin source (map definition_of (drop i fs)) (set flags byte true)
begin_more source f fs i byte flags short at is within rest = rw (drop_item fs i f short at) (begin_before source f (drop (i + 1) fs) byte flags is within rest)
