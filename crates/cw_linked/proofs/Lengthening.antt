-- Lists grow by a context's indices.
use Rattle.std.proofs.Common.{◌≡◌, ℕ, ◌+◌, ◌-◌, ◌*◌, ◌<◌, ◌≤◌, Bool, true, false, List, [], ◌∷◌, ◌++◌, length, replicate, refl, sym, ap, ap₂, ◌∙◌, subst, arith, inl, inr}
use Rattle.std.specs.Prelude.{slice_get, slice_index, Option, Some}
use Rattle.std.proofs.lemmas.Bool.{cases_lt}
use Rattle.std.proofs.lemmas.Nat.{mul-add-lt}
use Rattle.std.proofs.Math.Nat.{mul-le-mul}
use Rattle.std.proofs.lemmas.List.{length-replicate, length-append, length_push, get_or-replicate, get_or_append_left, get_or-append_right, append_assoc, append-nil}
use Rattle.std.proofs.lemmas.List.{replicate-append-replicate}
use Rattle.std.proofs.lemmas.Option.{same_Some, none-some}
use Rattle.cw_game.specs.declared.spots.Spot.{Spot}
use Rattle.cw_game.specs.declared.spots.Spot.TheVariants.{Visit, Asked, Step, Branch, Label, Open, Close, Call, SplitCall, Exit}
use Rattle.cw_game.specs.Games.{Game}
use Rattle.cw_game.specs.Pairs.{Called, call_in}
use Rattle.cw_links.specs.Flags.{is_flagged}
use Rattle.cw_links.specs.Stores.{Stored, Pushes, PushesPlain}
use Rattle.cw_product.specs.Routed.{IsOf}
use Rattle.cw_solve.specs.Contexts.{size}
use Rattle.cw_solve.specs.Rounds.{positions}
use Rattle.cw_linked.specs.Added.{PushesIndices, FlagsState, FlagsLinks, PushesNext, ArePushed}
use Rattle.cw_linked.specs.Founds.{class_of}

-- how long a list is that grows
pub grown_length : (old new : List ℕ) (more v : ℕ) → new ≡ old ++ replicate more v → length new ≡ length old + more
grown_length old new more v is =
    ap (λ (ys : List ℕ). length ys) is ∙ length-append old (replicate more v) ∙ ap (λ (n : ℕ). length old + n) (length-replicate {A = ℕ} more v)

-- what stands behind a list that grows by zeros
module _ (old new : List ℕ) (more : ℕ) (is : new ≡ old ++ replicate more 0) where
  pub grown_before : (k : ℕ) → k < length old → slice_index new k ≡ slice_index old k
  grown_before k lt = ap (λ (ys : List ℕ). slice_index ys k) is ∙ get_or_append_left old (replicate more 0) 0 k lt

  pub grown_after : (k : ℕ) → length old ≤ k → k < length old + more → slice_index new k ≡ 0
  grown_after k le lt = ap (λ (ys : List ℕ). slice_index ys k) is ∙ get_or-append_right old (replicate more 0) (length old) k 0 refl le
      ∙ get_or-replicate more (k - length old) 0 0 (omega (arith, le, lt))

-- no index yet, one, and so many more
pub no_indices : (old : Stored) → PushesIndices old old 0
no_indices old = record {
  heights = sym (append-nil old.heights);
  asked = sym (append-nil old.asked);
  due = sym (append-nil old.due);
  to = sym (append-nil old.to);
  waves = sym (append-nil old.waves);
  long = omega arith;
  kept = λ k lt. refl;
  lists = omega arith;
}

pub one_index : (old new : Stored) (flag : Bool) → Pushes old new flag → PushesIndices old new 1
one_index old new flag pushes = record {
  heights = pushes.heights;
  asked = pushes.asked;
  due = pushes.due;
  to = pushes.to;
  waves = pushes.waves;
  long = ap (λ (ms : List Bool). length ms) pushes.flags ∙ length_push old.flags flag;
  kept = λ k lt. ap (λ (ms : List Bool). is_flagged ms k) pushes.flags ∙ get_or_append_left old.flags (flag ∷ []) false k lt;
  lists = omega (arith, pushes.lists);
}

pub plain_indices : (old new : Stored) (many : ℕ) → PushesPlain old new many → PushesIndices old new many
plain_indices old new many pushes = record {
  heights = pushes.heights;
  asked = pushes.asked;
  due = pushes.due;
  to = pushes.to;
  waves = pushes.waves;
  long = ap (λ (ms : List Bool). length ms) pushes.flags ∙ length-append old.flags (replicate many false) ∙ ap (λ (n : ℕ). length old.flags + n) (length-replicate {A = Bool} many false);
  kept = λ k lt. ap (λ (ms : List Bool). is_flagged ms k) pushes.flags ∙ get_or_append_left old.flags (replicate many false) false k lt;
  lists = (let e = ap (λ (ls : List (List ℕ)). length ls) pushes.lists in omega (arith, e));
}

more_zeros : (old mid new : List ℕ) (m n : ℕ) → mid ≡ old ++ replicate m 0 → new ≡ mid ++ replicate n 0 → new ≡ old ++ replicate (m + n) 0
more_zeros old mid new m n one two =
    two ∙ ap (λ (ys : List ℕ). ys ++ replicate n 0) one ∙ append_assoc old (replicate m 0) (replicate n 0) ∙ ap (λ (ys : List ℕ). old ++ ys) (replicate-append-replicate m n 0)

pub more_indices : (old mid new : Stored) (m n : ℕ) → PushesIndices old mid m → PushesIndices mid new n → PushesIndices old new (m + n)
more_indices old mid new m n one two = record {
  heights = more_zeros old.heights mid.heights new.heights m n one.heights two.heights;
  asked = more_zeros old.asked mid.asked new.asked m n one.asked two.asked;
  due = more_zeros old.due mid.due new.due m n one.due two.due;
  to = more_zeros old.to mid.to new.to m n one.to two.to;
  waves = more_zeros old.waves mid.waves new.waves m n one.waves two.waves;
  long = omega (arith, one.long, two.long);
  kept = λ k lt. two.kept k (omega (arith, lt, one.long)) ∙ one.kept k lt;
  lists = omega (arith, one.lists, two.lists);
}

-- the last flag
pub last_flag : (mid new : List Bool) (k : ℕ) → new ≡ mid ++ true ∷ [] → k ≡ length mid → is_flagged new k ≡ true
last_flag mid new k is at =
    let first : length mid - length mid ≡ 0 = omega arith in
    ap₂ (λ (ms : List Bool) (n : ℕ). is_flagged ms n) is at
    ∙ get_or-append_right mid (true ∷ []) (length mid) (length mid) false refl (omega arith)
    ∙ ap (λ (n : ℕ). is_flagged (true ∷ []) n) first

-- The indices of a function in one state: none yet, those of one position more, and all.
pub none_pushed : (g : Game) (old : Stored) (function x : ℕ) → ArePushed g old old function x (g.entry function) 0
none_pushed g old function x =
    let none : 0 ≡ g.entry function - g.entry function - 0 = omega arith in
    record {
      ahead = omega arith;
      indices = subst (λ (n : ℕ). PushesIndices old old n) none (no_indices old);
      flagged = λ r call of lt. absurd (omega (arith, lt, of.0));
      rest = λ r call lt le. absurd (omega (arith, lt, le));
    }

pub more_pushed : (g : Game) (old mid new : Stored) (function x p plain more : ℕ) → ArePushed g old mid function x p plain → PushesNext g mid new p x plain more
    → ArePushed g old new function x (p + 1) more
more_pushed g old mid new function x p plain more are next =
    elim next [
      | inl link ↦
          let many : p - g.entry function - plain + (plain + 1) ≡ p + 1 - g.entry function - more = omega (arith, are.ahead, link.0) in
          record {
            ahead = omega (arith, are.ahead, link.0);
            indices = subst (λ (n : ℕ). PushesIndices old new n) many (more_indices old mid new (p - g.entry function - plain) (plain + 1) are.indices link.1);
            flagged = λ r call of lt is class. elim (cases_lt (r + plain) p) [
              | inl before ↦
                  link.1.kept (length old.flags + (r - g.entry function)) (omega (arith, before, of.0, are.indices.long, are.ahead)) ∙ are.flagged r call of before is class
              | inr after ↦ elim (cases_lt r p) [
                | inl inside ↦ absurd (are.rest r call inside after is class)
                | inr past ↦
                    let here : length mid.flags + plain ≡ length old.flags + (r - g.entry function) = omega (arith, past, lt, link.0, are.indices.long, are.ahead) in
                    subst (λ (k : ℕ). is_flagged new.flags k ≡ true) here link.2
              ]
            ];
            rest = λ r call lt le. absurd (omega (arith, lt, le, link.0));
          }
      | inr none ↦
          let many : p - g.entry function - plain ≡ p + 1 - g.entry function - more = omega (arith, are.ahead, none.0) in
          record {
            ahead = omega (arith, are.ahead, none.0);
            indices = subst (λ (s : Stored). PushesIndices old s (p + 1 - g.entry function - more)) (sym none.1) (subst (λ (n : ℕ). PushesIndices old mid n) many are.indices);
            flagged = λ r call of lt is class. subst (λ (s : Stored). is_flagged s.flags (length old.flags + (r - g.entry function)) ≡ true) (sym none.1)
                (are.flagged r call of (omega (arith, lt, none.0)) is class);
            rest = λ r call lt le is class. elim (cases_lt r p) [
              | inl before ↦ are.rest r call before (omega (arith, le, none.0)) is class
              | inr past ↦ let here : r ≡ p = omega (arith, lt, past) in none.2 call (subst (λ (y : ℕ). call_in (slice_get g.spots y) ≡ Some call) here is) class
            ];
          }
    ]

module _ (g : Game) (old mid new : Stored) (function x plain rest : ℕ) (are : ArePushed g old mid function x (g.exit function + 1) plain) (pushes : PushesPlain mid new (plain + rest)) where
  pub all_pushed : PushesIndices old new (positions g function + rest)
  all_pushed =
      let many : g.exit function + 1 - g.entry function - plain + (plain + rest) ≡ positions g function + rest = omega (arith, are.ahead) in
      subst (λ (n : ℕ). PushesIndices old new n) many
      (more_indices old mid new (g.exit function + 1 - g.entry function - plain) (plain + rest) are.indices (plain_indices mid new (plain + rest) pushes))

  pub all_flagged : FlagsState g old.flags new.flags function x (positions g function)
  all_flagged p call of is class less = elim (cases_lt (p + plain) (g.exit function + 1)) [
    | inl before ↦
        (plain_indices mid new (plain + rest) pushes).kept (length old.flags + (p - g.entry function)) (omega (arith, before, of.0, are.indices.long, are.ahead))
        ∙ are.flagged p call of before is class
    | inr after ↦ absurd (are.rest p call (omega (arith, of.1)) after is class)
  ]

pub none_flagged : (g : Game) (flags : List Bool) (function : ℕ) → FlagsLinks g flags flags function 0
none_flagged g flags function p x call of is class less = absurd (omega (arith, less))

-- the indices of one state more
pub run_more : (g : Game) (function x : ℕ) → x * positions g function + positions g function ≡ (x + 1) * positions g function
run_more g function x = omega arith

pub more_flagged : (g : Game) (old mid new : Stored) (function y : ℕ) → PushesIndices old mid (y * positions g function) → PushesIndices mid new (positions g function)
    → FlagsLinks g old.flags mid.flags function (y * positions g function) → FlagsState g mid.flags new.flags function y (positions g function)
    → FlagsLinks g old.flags new.flags function ((y + 1) * positions g function)
more_flagged g old mid new function y one two flagged at p x call of is class less =
    let row : p - g.entry function < positions g function = omega (arith, of.0, of.1) in
    elim (cases_lt x y) [
      | inl before ↦
          let inside = mul-add-lt x (positions g function) (p - g.entry function) y before row in
          two.kept (length old.flags + (x * positions g function + (p - g.entry function))) (omega (arith, one.long, inside))
          ∙ flagged p x call of is class (omega (arith, inside))
      | inr after ↦ elim (cases_lt y x) [
        | inl past ↦ absurd (
            let runs : y + 1 ≤ x = omega (arith, past) in
            let same : positions g function ≤ positions g function = omega arith in
            let all = mul-le-mul runs same in
            omega (arith, all, less))
        | inr same_or ↦
            let here : x ≡ y = omega (arith, after, same_or) in
            let run = ap (λ (z : ℕ). z * positions g function) here in
            let index : length old.flags + (x * positions g function + (p - g.entry function)) ≡ length mid.flags + (p - g.entry function) = omega (arith, one.long, run) in
            ap (is_flagged new.flags) index ∙ at p call of is (subst (λ (z : ℕ). class_of g call.split z ≡ z) here class) row
      ]
    ]

-- what isn't a call in a process of its own isn't split
pub whole_call : (o : Option Spot) (s : Spot) → Some s ≡ o → ((x y z : ℕ) → s ≡ SplitCall x y z → ⊥) → (call : Called) → call_in o ≡ Some call → call.split ≡ false
whole_call o s is split call = subst (λ (y : Option Spot). call_in y ≡ Some call → call.split ≡ false) is (by s split)
  where
    by : (s : Spot) → ((x y z : ℕ) → s ≡ SplitCall x y z → ⊥) → call_in (Some s) ≡ Some call → call.split ≡ false
    by (SplitCall j f n) split calls = absurd (split j f n refl)
    by (Call j f n) split calls = sym (ap (λ (y : Called). y.split) (same_Some (record { seam = j; function = f; back = n; split = false }) call calls))
    by (Visit j i a) split calls = absurd (none-some call calls)
    by (Asked j i a) split calls = absurd (none-some call calls)
    by (Step n) split calls = absurd (none-some call calls)
    by (Branch m n) split calls = absurd (none-some call calls)
    by (Label j l n) split calls = absurd (none-some call calls)
    by (Open j d n) split calls = absurd (none-some call calls)
    by (Close j d n) split calls = absurd (none-some call calls)
    by (Exit f) split calls = absurd (none-some call calls)

-- a context has as many cells at least as its function has positions
pub at_least : (g : Game) (function : ℕ) → 0 < g.states.count → positions g function ≤ size g function
at_least g function some =
    let one : 1 ≤ g.states.count = omega (arith, some) in
    let same : positions g function ≤ positions g function = omega arith in
    let less = mul-le-mul one same in
    let swapped : g.states.count * positions g function ≡ positions g function * g.states.count = omega arith in
    omega (arith, less, swapped)

-- Where no call is split, all links stand at the first state.
pub first_flagged : (g : Game) (old new : Stored) (function many : ℕ)
    → ((p : ℕ) (call : Called) → IsOf g function p → call_in (slice_get g.spots p) ≡ Some call → call.split ≡ false)
    → FlagsState g old.flags new.flags function 0 (positions g function) → FlagsLinks g old.flags new.flags function many
first_flagged g old new function many whole state p x call of is class less =
    let one = whole p call of is in
    let zero_is : 0 ≡ x = ap (λ (s : Bool). class_of g s x) (sym one) ∙ class in
    let own : class_of g call.split 0 ≡ 0 = ap (λ (s : Bool). class_of g s 0) one in
    let row = p - g.entry function in
    let inside : row < positions g function = omega (arith, of.0, of.1) in
    let first : row ≡ 0 * positions g function + row = omega arith in
    let here : length old.flags + row ≡ length old.flags + (x * positions g function + row)
    = ap (λ (k : ℕ). length old.flags + k) first ∙ ap (λ (k : ℕ). length old.flags + (k * positions g function + row)) zero_is in
    subst (λ (k : ℕ). is_flagged new.flags k ≡ true) here (state p call of is own inside)
