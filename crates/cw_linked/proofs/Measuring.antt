-- What is left to do becomes less where a cell is taken or a link is tied, and no more where a context is added.
use Rattle.std.proofs.Common.{◌≡◌, ℕ, zero, suc, ◌+◌, ◌-◌, ◌*◌, ◌<◌, ◌≤◌, List, [], ◌∷◌, ◌++◌, Bool, true, false, cond, ◌&&◌, ◌||◌, Some, length, set, replicate, refl, sym, ap, add-one}
use Rattle.std.proofs.Common.{◌∙◌, subst, arith, inl, inr}
use Rattle.std.specs.Prelude.{slice_get, slice_index, nat_lt, count_by, sum_by}
use Rattle.std.specs.List.{range_with_len}
use Rattle.std.proofs.lemmas.Bool.{cases_lt, le-ltb, ne_eqb}
use Rattle.std.proofs.lemmas.List.{length-set, length-append, length-replicate}
use Rattle.std.proofs.lemmas.List.Folds.{sum_by-replicate}
use Rattle.std.proofs.lemmas.List.FromFn.{length-range_with_len}
use Rattle.std.proofs.lemmas.List.Sums.{sum_by-cons, sum_by-set, sum_by-append, count_by-le-length}
use Rattle.std.proofs.lemmas.Option.{same_Some}
use Rattle.cw_game.specs.Games.{Game, returned, Holds}
use Rattle.cw_game.specs.Pairs.{has, Called, kept_at}
use Rattle.cw_solve.specs.declared.contexts.Context.{Context}
use Rattle.cw_solve.specs.declared.table.Blocks.{Blocks}
use Rattle.cw_solve.specs.Contexts.{context, promise_at, IsSetOf}
use Rattle.cw_product.specs.Routed.{IsState, AreRouted}
use Rattle.cw_solve.specs.Rounds.{holds_by}
use Rattle.cw_solve.specs.Tables.{is_none}
use Rattle.cw_solve.proofs.Falls.{sooner, return_state, member_is}
use Rattle.cw_lemmas.proofs.Truths.{not_both}
use Rattle.cw_solve.proofs.Fresh.{none_written}
use Rattle.cw_linked.specs.declared.work.Cell.{Cell}
use Rattle.cw_linked.specs.declared.work.Work.{Work}
use Rattle.cw_linked.specs.Founds.{AreAlike, IsLink, IsTied, height_back}
use Rattle.cw_linked.specs.Measures.{states_in, promised_in, ties_left, work_left}
use Rattle.cw_linked.specs.Popped.{TakesCell, FreesLink, IsWork}
use Rattle.cw_linked.specs.Queues.{found_of}
use Rattle.cw_linked.specs.Returns.{AreFew}
use Rattle.cw_linked.specs.Tied.{IsFreed}
use Rattle.cw_linked.specs.Works.{Known, known_of, index_at}
use Rattle.cw_linked.proofs.Bounding.{index_is}
use Rattle.cw_linked.proofs.Callers.{is_tied}
use Rattle.cw_linked.proofs.Takings.{is_known}

-- Counts and sums.

abbrev ones : Bool → ℕ
ones b = cond b 1 0

no_more : (a b : Bool) → (a ≡ true → b ≡ true) → ones a ≤ ones b
no_more true b f = let e : ones b ≡ 1 = ap ones (f refl) in omega (arith, e)
no_more false b f = omega arith

count_more : (p : ℕ → Bool) (a n : ℕ) → count_by p (range_with_len a (suc n)) ≡ ones (p a) + count_by p (range_with_len (a + 1) n)
count_more p a n = sum_by-cons (λ (x : ℕ). cond (p x) 1 0) a (range_with_len (a + 1) n)

count_le : (p r : ℕ → Bool) → ((x : ℕ) → p x ≡ true → r x ≡ true) → (a n : ℕ) → count_by p (range_with_len a n) ≤ count_by r (range_with_len a n)
count_le p r f a zero = omega arith
count_le p r f a (suc n) =
    let first = no_more (p a) (r a) (f a) in
    let rest = count_le p r f (a + 1) n in
    omega (arith, first, rest, count_more p a n, count_more r a n)

-- a number that one counts and the other doesn't
count_less : (p r : ℕ → Bool) → ((x : ℕ) → p x ≡ true → r x ≡ true) → (a n x : ℕ) → a ≤ x → x < a + n → p x ≡ false → r x ≡ true
    → count_by p (range_with_len a n) < count_by r (range_with_len a n)
count_less p r f a zero x le lt lacks has_it = absurd (omega (arith, le, lt))
count_less p r f a (suc n) x le lt lacks has_it =
    elim (cases_lt a x) [
      | inl more ↦
          let first = no_more (p a) (r a) (f a) in
          let rest = count_less p r f (a + 1) n x (omega (arith, more)) (omega (arith, lt)) lacks has_it in
          omega (arith, first, rest, count_more p a n, count_more r a n)
      | inr most ↦
          let here : x ≡ a = omega (arith, le, most) in
          let none : ones (p a) ≡ 0 = ap (λ (y : ℕ). ones (p y)) (sym here) ∙ ap ones lacks in
          let one : ones (r a) ≡ 1 = ap (λ (y : ℕ). ones (r y)) (sym here) ∙ ap ones has_it in
          let rest = count_le p r f (a + 1) n in
          omega (arith, none, one, rest, count_more p a n, count_more r a n)
    ]

sum_same : (f h : ℕ → ℕ) (most : ℕ) → ((x : ℕ) → x ≤ most → f x ≡ h x) → (xs : List ℕ) → ((k : ℕ) → k < length xs → slice_index xs k ≤ most) → sum_by f xs ≡ sum_by h xs
sum_same f h most same [] low = refl
sum_same f h most same (x ∷ xs) low =
    let first = same x (low 0 (omega arith)) in
    let rest = sum_same f h most same xs (λ k lt. low (suc k) (omega (arith, lt))) in
    omega (arith, first, rest, sum_by-cons f x xs, sum_by-cons h x xs)

-- what a set has at most
pub states_most : (g : Game) (set : ℕ) → states_in g set ≤ g.states.count
states_most g set = let l = count_by-le-length (has set) (range_with_len 0 g.states.count) in let e = length-range_with_len 0 g.states.count in omega (arith, l, e)

-- A cell is taken.

module _ (g : Game) (functions : ℕ) (routed : AreRouted g functions) (alike : AreAlike g) (old new : Work) (work : IsWork g old) (index height : ℕ) (takes : TakesCell old new index height) where
  pub taken_less : work_left g new < work_left g old
  taken_less =
      let after = is_known g functions routed alike old new work index height takes in
      let long = ap (λ (ys : List ℕ). length ys) takes.heights in
      let same = length-set old.store.heights index height in
      let all : length new.store.heights ≡ length old.store.heights = long ∙ same in
      let counted = after.counted in
      let before = work.known.counted in
      let written = takes.written in
      let sums : sum_by (ties_left g new.blocks.contexts.items) new.store.to ≡ sum_by (ties_left g old.blocks.contexts.items) old.store.to
      = ap (λ (b : Blocks). sum_by (ties_left g b.contexts.items) new.store.to) takes.blocks ∙ ap (λ (ys : List ℕ). sum_by (ties_left g old.blocks.contexts.items) ys) takes.to in
      let room : (4194304 - length new.store.heights) * (g.states.count + 2) ≡ (4194304 - length old.store.heights) * (g.states.count + 2)
      = ap (λ (n : ℕ). (4194304 - n) * (g.states.count + 2)) all in
      omega (arith, room, sums, counted, before, written, all)

-- Nothing but keys and lists changes.

pub kept_left : (g : Game) (old new : Work) → known_of new ≡ known_of old → new.store.to ≡ old.store.to → work_left g new ≡ work_left g old
kept_left g old new known to =
    ap (λ (t : Known). (4194304 - length t.heights) * (g.states.count + 2) + count_by is_none t.heights + sum_by (ties_left g t.blocks.contexts.items) new.store.to) known
    ∙ ap (λ (ys : List ℕ). (4194304 - length old.store.heights) * (g.states.count + 2) + count_by is_none old.store.heights + sum_by (ties_left g old.blocks.contexts.items) ys) to

-- A link is tied to a context whose promise is one of its fewer ties.

pub tied_less : (g : Game) (old new : Work) (index number : ℕ) → known_of new ≡ known_of old → new.store.to ≡ set old.store.to index (number + 1) → index < length old.store.to
    → promised_in g (slice_get old.blocks.contexts.items number) < ties_left g old.blocks.contexts.items (slice_index old.store.to index) → work_left g new < work_left g old
tied_less g old new index number known to within less =
    let now : work_left g new ≡ (4194304 - length old.store.heights) * (g.states.count + 2) + count_by is_none old.store.heights + sum_by (ties_left g old.blocks.contexts.items)
    (set old.store.to index (suc number))
    = ap (λ (t : Known). (4194304 - length t.heights) * (g.states.count + 2) + count_by is_none t.heights + sum_by (ties_left g t.blocks.contexts.items) new.store.to) known
    ∙ ap (λ (ys : List ℕ). (4194304 - length old.store.heights) * (g.states.count + 2) + count_by is_none old.store.heights + sum_by (ties_left g old.blocks.contexts.items) ys)
    (to ∙ ap (λ (n : ℕ). set old.store.to index n) (add-one number)) in
    let sums = sum_by-set (ties_left g old.blocks.contexts.items) old.store.to index (suc number) 0 within in
    omega (arith, now, sums, less)

-- A context is added.

-- a link that was there has as many ties left
pub ties_on : (g : Game) (contexts : List Context) (c : Context) (to : ℕ) → to ≤ length contexts → ties_left g (contexts ++ c ∷ []) to ≡ ties_left g contexts to
ties_on g contexts c zero le = refl
ties_on g contexts c (suc i) le = ap (promised_in g) (before contexts i (omega (arith, le)))
  where
    before : (xs : List Context) (i : ℕ) → i < length xs → slice_get (xs ++ c ∷ []) i ≡ slice_get xs i
    before [] i lt = absurd (omega (arith, lt))
    before (x ∷ xs) zero lt = refl
    before (x ∷ xs) (suc i) lt = before xs i (omega (arith, lt))

pub added_left : (g : Game) (old new : Work) (c : Context) (many : ℕ) → new.blocks.contexts.items ≡ old.blocks.contexts.items ++ c ∷ []
    → new.store.heights ≡ old.store.heights ++ replicate many 0 → new.store.to ≡ old.store.to ++ replicate many 0
    → length old.store.heights + many ≤ 4194304 → length old.store.to ≡ length old.store.heights → AreFew old → work_left g new ≡ work_left g old
added_left g old new c many contexts heights to room long few =
    let cs = old.blocks.contexts.items in
    let hs = old.store.heights in
    let longer : length new.store.heights ≡ length hs + many
    = ap (λ (ys : List ℕ). length ys) heights ∙ length-append hs (replicate many 0) ∙ ap (λ (n : ℕ). length hs + n) (length-replicate {A = ℕ} many 0) in
    let none : count_by is_none new.store.heights ≡ count_by is_none hs + many
    = ap (λ (ys : List ℕ). count_by is_none ys) heights ∙ sum_by-append (λ (x : ℕ). cond (is_none x) 1 0) hs (replicate many 0) ∙ ap (λ (n : ℕ). count_by is_none hs + n) (none_written many) in
    let same : sum_by (ties_left g (cs ++ c ∷ [])) old.store.to ≡ sum_by (ties_left g cs) old.store.to
    = sum_same (ties_left g (cs ++ c ∷ [])) (ties_left g cs) (length cs) (ties_on g cs c) old.store.to (λ k lt. few k (omega (arith, lt, long))) in
    let ties : sum_by (ties_left g new.blocks.contexts.items) new.store.to ≡ sum_by (ties_left g cs) old.store.to + many * (g.states.count + 1)
    = ap (λ (ys : List Context). sum_by (ties_left g ys) new.store.to) contexts ∙ ap (λ (ys : List ℕ). sum_by (ties_left g (cs ++ c ∷ [])) ys) to
    ∙ sum_by-append (ties_left g (cs ++ c ∷ [])) old.store.to (replicate many 0) ∙ both _ _ _ _ same (sum_by-replicate (ties_left g (cs ++ c ∷ [])) many 0) in
    let rooms = room_for (length hs) many (g.states.count) room in
    let less : (4194304 - length new.store.heights) * (g.states.count + 2) ≡ (4194304 - (length hs + many)) * (g.states.count + 2) =
    ap (λ (n : ℕ). (4194304 - n) * (g.states.count + 2)) longer in
    let product : many * (g.states.count + 2) ≡ many * (g.states.count + 1) + many = times many g.states.count in
    omega (arith, none, ties, rooms, less, product)
  where
    both : (a b c d : ℕ) → a ≡ c → b ≡ d → a + b ≡ c + d
    both a b c d e f = omega (arith, e, f)

    times : (m n : ℕ) → m * (n + 2) ≡ m * (n + 1) + m
    times m n = omega arith

    room_for : (n many count : ℕ) → n + many ≤ 4194304 → (4194304 - (n + many)) * (count + 2) + many * (count + 2) ≡ (4194304 - n) * (count + 2)
    room_for n many count le = let e : (4194304 - (n + many)) + many ≡ 4194304 - n = omega (arith, le) in omega (arith, ap (λ (m : ℕ). m * (count + 2)) e)

-- A link stops waiting: the promise of its call has fewer states than the link has ties left.

module _ (g : Game) (functions : ℕ) (routed : AreRouted g functions) (w : Work) (link : Cell) (index moves : ℕ) (freed : IsFreed g w link index moves)
    (more : 0 < slice_index w.store.to index → 0 < moves) where
  abbrev Contexts : List Context
  Contexts = w.blocks.contexts.items

  index_here : index ≡ index_at g Contexts link.at.number link.pos.0 link.state.0
  index_here = freed.at.index ∙ sym (index_is g Contexts link.at.number link.at.context link.pos.0 link.state.0 freed.at.is.at)

  module _ (call : Called) (is : IsLink g Contexts link.at.number link.at.context link.pos.0 link.state.0 call) (states : ℕ)
      (read : IsSetOf g states (λ y. holds_by moves (height_back g (found_of g w) link.at.number call link.state.0 y))) where
    back_state : (x : ℕ) → x < g.states.count → IsState g (returned g.states (kept_at call.split link.state.0) x)
    back_state x lt = return_state g functions routed link.pos.0 x link.state.0 call is.calls lt is.cell.state

    fewer : (to : ℕ) → slice_index w.store.to index ≡ suc to → states_in g states < promised_in g (slice_get Contexts to)
    fewer to e =
        let tied : 0 < slice_index w.store.to index = omega (arith, e) in
        let s = freed.shrinks call is tied in
        let before = s.0 in
        let x = s.1 in
        let value : (found_of g w).to link.at.number link.pos.0 link.state.0 ≡ to = (let v = ap (slice_index w.store.to) (sym index_here) in omega (arith, v, e)) in
        let goes : slice_get Contexts to ≡ Some (context call.function before) = ap (slice_get Contexts) (sym value) ∙ s.2 in
        let is_tied_here : IsTied (found_of g w) link.at.number link.pos.0 link.state.0 = is_tied (slice_index w.store.to (index_at g Contexts link.at.number link.pos.0 link.state.0)) to
        (ap (slice_index w.store.to) (sym index_here) ∙ e) in
        let l = freed.firm.right.linked link.at.number link.at.context link.pos.0 link.state.0 call is is_tied_here in
        let same : l.0 ≡ before = ap (λ (c : Context). c.promise) (same_Some (context call.function l.0) (context call.function before) (sym l.1 ∙ s.2)) in
        let wave = (found_of g w).wave link.at.number link.pos.0 link.state.0 in
        let promised : IsSetOf g before (promise_at g wave call.back (kept_at call.split link.state.0) link.at.context.promise)
        = subst (λ (y : ℕ). IsSetOf g y (promise_at g wave call.back (kept_at call.split link.state.0) link.at.context.promise)) same l.2 in
        let ready = freed.ready call states is read in
        let lost : has states x ≡ false = member_is g states _ read x s.3 ∙ ap (holds_by moves) s.5 ∙ gone (more tied) in
        let fell : Holds g moves call.back (returned g.states (kept_at call.split link.state.0) x) (has link.at.context.promise) ≡ false = sym (member_is g states _ ready.promise x s.3) ∙ lost in
        let held : Holds g wave call.back (returned g.states (kept_at call.split link.state.0) x) (has link.at.context.promise) ≡ true = sym (member_is g before _ promised x s.3) ∙ s.4 in
        let earlier : wave ≤ moves = elim (cases_lt moves wave) [
          | inl lt ↦ absurd (not_both _ (sooner g functions routed moves wave call.back _ (has link.at.context.promise) (omega (arith, lt)) (back_state x s.3) held) fell)
          | inr le ↦ le
        ] in
        let less = count_less (has states) (has before) (λ y member. inside wave before promised ready.promise earlier y member) 0 g.states.count x (omega arith) (omega (arith, s.3)) lost s.4 in
        subst (λ (o : _). states_in g states < promised_in g o) (sym goes) less
      where
        gone : 0 < moves → holds_by moves moves ≡ false
        gone lt = ap (λ (b : Bool). b || nat_lt moves moves) (ne_eqb moves 0 (λ e. absurd (omega (arith, e, lt)))) ∙ le-ltb moves moves (omega arith)

        inside : (wave before : ℕ) → IsSetOf g before (promise_at g wave call.back (kept_at call.split link.state.0) link.at.context.promise)
            → IsSetOf g states (promise_at g moves call.back (kept_at call.split link.state.0) link.at.context.promise) → wave ≤ moves → (y : ℕ) → has states y ≡ true → has before y ≡ true
        inside wave before promised now le y member =
            elim (cases_lt y g.states.count) [
              | inl lt ↦
                  let holds = sym (member_is g states _ now y lt) ∙ member in
                  member_is g before _ promised y lt ∙ sooner g functions routed wave moves call.back _ (has link.at.context.promise) le (back_state y lt) holds
              | inr past ↦ absurd (not_both (has states y) member (now y ∙ ap (λ (b : Bool). b && promise_at g moves call.back (kept_at call.split link.state.0) link.at.context.promise y)
                  (le-ltb y g.states.count past)))
            ]

    -- fewer than are left
    pub fewer_states : states_in g states < ties_left g Contexts (slice_index w.store.to index)
    fewer_states = by (slice_index w.store.to index) refl
      where
        by : (to : ℕ) → slice_index w.store.to index ≡ to → states_in g states < ties_left g Contexts to
        by zero e = let m = states_most g states in omega (arith, m)
        by (suc to) e = fewer to e

-- The least key's link that goes to a context waited for some moves.
pub some_moves : (g : Game) (old new : Work) (index moves : ℕ) → IsWork g old → FreesLink old new index moves → 0 < slice_index new.store.to index → 0 < moves
some_moves g old new index moves work frees tied =
    let high = (work.dues index frees.within frees.some).1 (subst (λ (ys : List ℕ). 0 < slice_index ys index) frees.others.to tied) in
    let half = frees.half in
    omega (arith, high, half)
