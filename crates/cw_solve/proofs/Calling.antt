-- Where moves and calls of a cell lead.
use Rattle.std.proofs.Common.{◌≡◌, ℕ, suc, ◌+◌, ◌<◌, List, [], Bool, true, false, cond, not, ◌&&◌, Option, Some, None, length, get_or, refl, sym, ap, ap₂, ◌∙◌, subst, arith}
use Rattle.std.specs.Prelude.{slice_get, nat_eq, Contains, option_map, position, IfSome, IfNone}
use Rattle.std.proofs.lemmas.Bool.{eq-eqb, eqb-true, not-true}
use Rattle.std.proofs.lemmas.Option.{slice_get_within, slice_get-get_or, get_or_from_slice_get, same_Some, none-some}
use Rattle.std.proofs.lemmas.List.Quantifiers.{position-Some}
use Rattle.std.proofs.lemmas.List.Sums.{prefix_len_passes}
use Rattle.cw_resolve.proofs.Indices.{no_index}
use Rattle.cw_rights.specs.declared.capabilities.Primitive.TheVariants.{Limit, Enter, Split}
use Rattle.cw_certs.specs.declared.moves.Move.{Move}
use Rattle.cw_certs.specs.declared.moves.Move.TheVariants.{Skip, Try, Grant, Refuse, On, Left, Right, Opened, Failed}
use Rattle.cw_game.specs.declared.spots.Spot.{Spot}
use Rattle.cw_game.specs.declared.spots.Spot.TheVariants.{Visit, Asked, Step, Branch, Label, Open, Close, Call, SplitCall}
use Rattle.cw_game.specs.Games.{Game, Config, refuses_in, bad_in, leads_in, Holds}
use Rattle.cw_game.specs.Pairs.{has, Called, call_in, is_call_in, is_exit_in, call_spot, kept_at}
use Rattle.cw_product.specs.Moves.{pair_of, is_left_in, next_in, next_at}
use Rattle.cw_solve.specs.declared.contexts.Context.{Context}
use Rattle.cw_solve.specs.declared.table.Blocks.{Blocks}
use Rattle.cw_solve.specs.Tabled.{Tabled}
use Rattle.cw_product.specs.Routed.{IsState, targets, IsThere, AreRouted, IsOf}
use Rattle.cw_solve.specs.Contexts.{context, promise_at, IsSetOf, of_call}
use Rattle.cw_solve.specs.Rounds.{IsAsked}
use Rattle.cw_solve.specs.Tables.{AreBlocks, HasCell, HasCall, IsMissing}
use Rattle.cw_solve.proofs.Falls.{holds_same, back_stays, member_is}
use Rattle.cw_solve.proofs.Still.{first_of_two, second_of_two, only, holds_call}
use Rattle.cw_solve.proofs.Tabling.{there_at}
use Rattle.std.proofs.lemmas.Bool.{and_parts as both}
use Rattle.cw_lemmas.proofs.Options.{cond_none_some as left, option_map_some as mapped}
use Rattle.cw_lemmas.proofs.Truths.{or_middle}

-- a choice that is made
chosen : {X : Type 0} (b : Bool) (a x : X) → cond b (Some a) None ≡ Some x → a ≡ x
chosen true a x e = same_Some a x e
chosen false a x e = absurd (none-some x e)

module _ (g : Game) where
  -- a move leads to a position of the same function
  target : (p q : ℕ) (s : Option Spot) (by : Move) (c : Config) → is_call_in s ≡ false → leads_in g p q [] s by ≡ Some c → Contains (targets p s) c.pos
  target p q (Some (Visit j i a)) Skip c k e = subst (λ (y : Config). Contains (targets p (Some (Visit j i a))) y.pos) (same_Some _ c e) (first_of_two (p + 2) (p + 1))
  target p q (Some (Visit j i a)) Try c k e = subst (λ (y : Config). Contains (targets p (Some (Visit j i a))) y.pos) (same_Some _ c e) (second_of_two (p + 2) (p + 1))
  target p q (Some (Asked j i Split)) Grant c k e = subst (λ (y : Config). Contains (targets p (Some (Asked j i Split))) y.pos) (chosen (g.states.may_grant q Split) _ c e)
      (first_of_two (p + 2) (p + 1))
  target p q (Some (Asked j i Enter)) Grant c k e = subst (λ (y : Config). Contains (targets p (Some (Asked j i Enter))) y.pos) (chosen (g.states.may_grant q Enter) _ c e) (only (p + 1))
  target p q (Some (Asked j i (Limit l))) Grant c k e = subst (λ (y : Config). Contains (targets p (Some (Asked j i (Limit l)))) y.pos) (chosen (g.states.may_grant q (Limit l)) _ c e) (only (p + 1))
  target p q (Some (Asked j i Split)) Refuse c k e = subst (λ (y : Config). Contains (targets p (Some (Asked j i Split))) y.pos) (chosen (refuses_in g q Split) _ c e) (second_of_two (p + 2) (p + 1))
  target p q (Some (Asked j i Enter)) Refuse c k e = subst (λ (y : Config). Contains (targets p (Some (Asked j i Enter))) y.pos) (chosen (refuses_in g q Enter) _ c e) (only (p + 1))
  target p q (Some (Asked j i (Limit l))) Refuse c k e = subst (λ (y : Config). Contains (targets p (Some (Asked j i (Limit l)))) y.pos) (chosen (refuses_in g q (Limit l)) _ c e) (only (p + 1))
  target p q (Some (Step n)) On c k e = subst (λ (y : Config). Contains (targets p (Some (Step n))) y.pos) (same_Some _ c e) (only n)
  target p q (Some (Branch m n)) Left c k e = subst (λ (y : Config). Contains (targets p (Some (Branch m n))) y.pos) (same_Some _ c e) (first_of_two m n)
  target p q (Some (Branch m n)) Right c k e = subst (λ (y : Config). Contains (targets p (Some (Branch m n))) y.pos) (same_Some _ c e) (second_of_two m n)
  target p q (Some (Label j l n)) On c k e = subst (λ (y : Config). Contains (targets p (Some (Label j l n))) y.pos) (same_Some _ c e) (only n)
  target p q (Some (Open j d n)) Opened c k e = subst (λ (y : Config). Contains (targets p (Some (Open j d n))) y.pos) (same_Some _ c e) (only n)
  target p q (Some (Open j d n)) Failed c k e = subst (λ (y : Config). Contains (targets p (Some (Open j d n))) y.pos) (same_Some _ c e) (only n)
  target p q (Some (Close j d n)) On c k e = subst (λ (y : Config). Contains (targets p (Some (Close j d n))) y.pos) (same_Some _ c e) (only n)
  target p q (Some (Call j f n)) by c k e = cc
  target p q (Some (SplitCall j f n)) by c k e = cc
  target p q s by c k e = absurd (none-some c e)

  pub next_target : (p q : ℕ) (s : Option Spot) (by : Move) (r : ℕ × ℕ) → next_in g p q s by ≡ Some r → Contains (targets p s) r.0
  next_target p q s by r e =
      let l = left (is_left_in g q s) (option_map pair_of (leads_in g p q [] s by)) r e in
      let m = mapped pair_of (leads_in g p q [] s by) r l.1 in
      let at = target p q s by m.0 (or_middle (bad_in g q s) (is_call_in s) (is_exit_in s) l.0) m.1 in
      subst (λ (y : ℕ × ℕ). Contains (targets p s) y.0) m.2 at

-- a call by its parts
abbrev pub the_call : ℕ → ℕ → ℕ → Bool → Called
the_call seam function back split = record { seam = seam; function = function; back = back; split = split }

pub called : (o : Option Spot) (split : Bool) (j f n : ℕ) → o ≡ Some (call_spot split j f n) → call_in o ≡ Some (the_call j f n split)
called o true j f n e = ap call_in e
called o false j f n e = ap call_in e

-- the context with a number, and where none is
pub the_context : (c : Context) (f e : ℕ) → (nat_eq c.function f && nat_eq c.promise e) ≡ true → c ≡ context f e
the_context c f e h = let b = both (nat_eq c.function f) (nat_eq c.promise e) h in ap₂ context (eqb-true c.function f b.0) (eqb-true c.promise e b.1)

pub index_is : (contexts : List Context) (f e i : ℕ) → position (λ (c : Context). nat_eq c.function f && nat_eq c.promise e) contexts ≡ Some i → slice_get contexts i ≡ Some (context f e)
index_is contexts f e i h =
    let d : Context = context f e in
    let s = position-Some (λ (c : Context). nat_eq c.function f && nat_eq c.promise e) contexts i d h in
    slice_get-get_or contexts i d s.0 ∙ ap (λ (y : Context). Some y) (the_context (get_or contexts i d) f e s.1)

seeks_all : (p : Context → Bool) (xs : List Context) → position p xs ≡ None → (k : ℕ) (d : Context) → k < length xs → p (get_or xs k d) ≡ false
seeks_all p xs h k d lt =
    let n = no_index p xs (sym h) in
    let passes = prefix_len_passes (λ x. not (p x)) xs k d (omega (arith, lt, n)) in
    not-true (p (get_or xs k d)) passes

pub index_none : (contexts : List Context) (f e : ℕ) → position (λ (c : Context). nat_eq c.function f && nat_eq c.promise e) contexts ≡ None → Contains contexts (context f e) → ⊥
index_none contexts f e h is =
    let p : Context → Bool = λ c. nat_eq c.function f && nat_eq c.promise e in
    let none = seeks_all p contexts h is.0 (context f e) is.1 in
    let some : p (context f e) ≡ true = ap₂ (λ a b. a && b) (eq-eqb f f refl) (eq-eqb e e refl) in
    let z : true ≡ false = sym some ∙ ap p (sym is.2) ∙ none in
    cc

-- the same of what a search answers
pub index_some : (contexts : List Context) (f e : ℕ) (o : Option ℕ) → o ≡ position (λ (c : Context). nat_eq c.function f && nat_eq c.promise e) contexts → IfSome o (λ i. slice_get contexts i ≡ Some (context f e))
index_some contexts f e (Some i) h = index_is contexts f e i (sym h)
index_some contexts f e None h = tt

pub index_lacks : (contexts : List Context) (f e : ℕ) (o : Option ℕ) → o ≡ position (λ (c : Context). nat_eq c.function f && nat_eq c.promise e) contexts
    → IfNone o (Contains contexts (context f e) → ⊥)
index_lacks contexts f e (Some i) h = tt
index_lacks contexts f e None h = index_none contexts f e (sym h)

module _ (g : Game) (functions : ℕ) (routed : AreRouted g functions) (b : Blocks) (blocks : AreBlocks g b) where
  pub cell_within : (at : Tabled) (p q : ℕ) → HasCell g b at p q → p < length g.spots
  cell_within at p q is = let th = there_at g functions routed b blocks at.number at.context is.at in omega (arith, th.ends, is.of.1)

  -- a move leads to a cell of the same context
  pub moved : (at : Tabled) (p q : ℕ) (by : Move) (r x : ℕ) → HasCell g b at p q → next_at g p q by ≡ Some (r, x) → IsState g x → HasCell g b at r x
  moved at p q by r x is e s = record {
    at = is.at;
    of = routed.stays at.context.function p r (there_at g functions routed b blocks at.number at.context is.at).below is.of (next_target g p q (slice_get g.spots p) by (r, x) e);
    state = s;
  }

  -- and so does a call's return
  pub back_cell : (at : Tabled) (p q f back : ℕ) (split : Bool) → HasCell g b at p q → HasCall g p f back split → HasCell g b at back q
  back_cell at p q f back split is call = record {
    at = is.at;
    of = back_stays g functions routed at.context.function p (the_call call.0 f back split) (there_at g functions routed b blocks at.number at.context is.at).below is.of
        (called (slice_get g.spots p) split call.0 f back call.1);
    state = is.state;
  }

  pub callee_there : (p f back : ℕ) (split : Bool) → HasCall g p f back split → IsThere g functions f
  callee_there p f back split call = routed.called p (the_call call.0 f back split) (called (slice_get g.spots p) split call.0 f back call.1)

  -- the cell of the called function
  pub callee_cell : (p q f back : ℕ) (split : Bool) (at : Tabled) → IsState g q → HasCall g p f back split → slice_get b.contexts.items at.number ≡ Some at.context → at.context.function ≡ f
      → HasCell g b at (g.entry f) q
  callee_cell p q f back split at s call is e = record {
    at = is;
    of = let th = callee_there p f back split call in subst (λ (y : ℕ). IsOf g y (g.entry f)) (sym e) (omega arith, th.begins);
    state = s;
  }

  -- what a call promises, where it isn't tabled
  pub call_missing : (at : Tabled) (n p q f back set : ℕ) (split : Bool) → HasCell g b at p q → HasCall g p f back split → IsSetOf g set (promise_at g n back (kept_at split q) at.context.promise)
      → (Contains b.contexts.items (context f set) → ⊥) → IsMissing g b (context f set)
  call_missing at n p q f back set split is call set_is new = record {
    needed = of_call at.context n p q set (the_call call.0 f back split)
        (blocks.needed.needed at.context (at.number, slice_get_within b.contexts.items at.number at.context is.at, get_or_from_slice_get b.contexts.items at.number at.context at.context is.at))
        is.of is.state (called (slice_get g.spots p) split call.0 f back call.1) set_is;
    new = new;
  }

  -- and where it is
  pub call_asked : (at : Tabled) (n p q f back set i : ℕ) (split : Bool) → HasCall g p f back split → IsSetOf g set (promise_at g n back (kept_at split q) at.context.promise)
      → slice_get b.contexts.items i ≡ Some (context f set) → IsAsked g b.contexts.items n p q at.context.promise
  call_asked at n p q f back set i split call set_is is other es =
      let e : the_call call.0 f back split ≡ other = same_Some _ other (sym (called (slice_get g.spots p) split call.0 f back call.1) ∙ es) in
      subst (λ (y : Called). (set : ℕ) × Contains b.contexts.items (context y.function set) × IsSetOf g set (promise_at g n y.back (kept_at y.split q) at.context.promise)) e
      (set, (i, slice_get_within b.contexts.items i (context f set) is, get_or_from_slice_get b.contexts.items i (context f set) (context f set) is), set_is)

  -- the call holds for one move more where the called function does for n under what is promised
  pub call_holds : (at : Tabled) (n p q f back set : ℕ) (split : Bool) → HasCell g b at p q → HasCall g p f back split → IsSetOf g set (promise_at g n back (kept_at split q) at.context.promise)
      → Holds g n (g.entry f) q (has set) ≡ Holds g (suc n) p q (has at.context.promise)
  call_holds at n p q f back set split is call set_is =
      holds_same g functions routed n (g.entry f) q (has set) (promise_at g n back (kept_at split q) at.context.promise) is.state
      (λ x s. member_is g set (promise_at g n back (kept_at split q) at.context.promise) set_is x s)
      ∙ sym (holds_call g functions routed (Holds g n) p q (has at.context.promise) (the_call call.0 f back split) (called (slice_get g.spots p) split call.0 f back call.1))
