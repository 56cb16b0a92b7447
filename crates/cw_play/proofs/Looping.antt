-- One turn of the loop over rows.
use Rattle.std.proofs.Common.{◌≡◌, ℕ, suc, ◌+◌, ◌<◌, ◌≤◌, List, [], ◌∷◌, ◌++◌, length, drop, get_or, true, Option, Some, None, ⊎_elim, refl, sym, ap, ◌∙◌, subst, arith}
use Rattle.std.specs.Prelude.{slice_get}
use Rattle.std.specs.List.{All}
use Rattle.std.proofs.lemmas.List.{drop_all, length-map}
use Rattle.std.proofs.lemmas.Option.{none-some, same_Some, slice_get_within, slice_get-get_or, get_or_from_slice_get}
use Rattle.std.proofs.lemmas.Bool.{cases_lt}
use Rattle.std.proofs.Math.Seq.{drop-cons}
use Rattle.cw_lemmas.proofs.Lists.{get_mapped}
use Rattle.cw_certs.specs.declared.moves.Move.{Move}
use Rattle.cw_certs.specs.declared.moves.Move.TheVariants.{On}
use Rattle.cw_certs.specs.declared.strategy.EnvRow.{EnvRow}
use Rattle.cw_certs.specs.declared.strategy.EnvCert.{EnvCert}
use Rattle.cw_certs.specs.Strategies.{How, Bad, Out, Both, Go, Into, Row, Strategy, how_of, row_of, strategy_of}
use Rattle.cw_rights.specs.Policies.{policy_of}
use Rattle.cw_rights.specs.Valid.{IsValid}
use Rattle.cw_syntax.specs.Trees.{File}
use Rattle.cw_syntax.specs.Plans.{plan_of}
use Rattle.cw_syntax.specs.Runnable.{IsRunnable}
use Rattle.cw_resolve.specs.Scenes.{names_of}
use Rattle.cw_points.specs.Graphs.{IsGraph}
use Rattle.cw_model.specs.Boards.{problem_of}
use Rattle.cw_game.specs.Games.{Game, bad_in}
use Rattle.cw_game.specs.Conditions.{IsGoodStrategy}
use Rattle.cw_game.proofs.Goods.{good_strategy_closed}
use Rattle.cw_echeck.specs.Beating.{IsStartRow}
use Rattle.cw_positions.specs.Opens.{AssignsNames}
use Rattle.cw_states.specs.States.{Lists, AreLists, lists_of}
use Rattle.cw_product.specs.Product.{Held, game_of}
use Rattle.cw_product.specs.Uses.{uses_of}
use Rattle.cw_product.proofs.Holding.{game_is}
use Rattle.cw_text.specs.Moves.{IsWeavers}
use Rattle.cw_text.specs.Tapes.{IsIn}
use Rattle.cw_trace.specs.Traces.{Names}
use Rattle.cw_play.specs.declared.end.PlayEnd.{PlayEnd}
use Rattle.cw_play.specs.Played.{IsPlayed}
use Rattle.cw_play.specs.Rows.{move_in, after_in, entries_in, moves_left, EndsAt}
use Rattle.cw_play.proofs.Held.{Kept}
use Rattle.cw_play.proofs.Nested.{AreNested}
use Rattle.cw_play.proofs.Advances.{told_of}
use Rattle.cw_play.proofs.Going.{Takes, Ready, ready}
use Rattle.cw_play.proofs.Ending.{ends}
use Rattle.cw_play.proofs.Ranges.{in_range}
use Rattle.cw_play.proofs.Meant.{tells}

-- What a row takes of the tape, by the number of entries that were taken.
both_take : (tape : List Move) (taken n : ℕ) (by : Move) → All (IsIn true) tape → slice_get tape taken ≡ Some by → n ≡ 1 → (drop taken tape ≡ by ∷ drop (taken + n) tape) × IsWeavers by
both_take tape taken n by may e one =
    let lt = slice_get_within tape taken by e in
    let here = get_or_from_slice_get tape taken by by e in
    let next : suc taken ≡ taken + n = omega (arith, one) in (
      drop-cons tape taken by lt ∙ ap (λ (m : Move). m ∷ drop (suc taken) tape) here ∙ ap (λ (k : ℕ). by ∷ drop k tape) next,
      subst (λ (m : Move). IsIn true m) here (may taken by lt),
    )

none_taken : (tape : List Move) (taken n : ℕ) → n ≡ 0 → drop (taken + n) tape ≡ drop taken tape
none_taken tape taken n e = let same : taken + n ≡ taken = omega (arith, e) in ap (λ (k : ℕ). drop k tape) same

takes_from : (how : How) (tape : List Move) (taken n : ℕ) (entry : Option Move) (by : Move) → All (IsIn true) tape → entry ≡ slice_get tape taken → move_in how entry ≡ Some by → n ≡ entries_in how
    → Takes how (drop taken tape) by (drop (taken + n) tape)
takes_from Bad tape taken n entry by may w made e = none_taken tape taken n e
takes_from Out tape taken n entry by may w made e = none_taken tape taken n e
takes_from (Both skip tried) tape taken n entry by may w made e = both_take tape taken n by may (sym w ∙ made) e
takes_from (Go move row) tape taken n entry by may w made e = none_taken tape taken n e
takes_from (Into callee backs) tape taken n entry by may w made e = none_taken tape taken n e

pub taken_within : (how : How) (tape : List Move) (taken n : ℕ) (entry : Option Move) (by : Move) → taken ≤ length tape → entry ≡ slice_get tape taken → move_in how entry ≡ Some by
    → n ≡ entries_in how → taken + n ≤ length tape
taken_within (Both skip tried) tape taken n entry by le w made e = let lt = slice_get_within tape taken by (sym w ∙ made) in omega (arith, lt, e)
taken_within Bad tape taken n entry by le w made e = omega (arith, le, e)
taken_within Out tape taken n entry by le w made e = omega (arith, le, e)
taken_within (Go move row) tape taken n entry by le w made e = omega (arith, le, e)
taken_within (Into callee backs) tape taken n entry by le w made e = omega (arith, le, e)

-- where there is no next entry the tape is spent
spent_by : (tape : List Move) (taken : ℕ) (o : Option Move) → slice_get tape taken ≡ o → o ≡ None → drop taken tape ≡ []
spent_by tape taken o e h = ⊎_elim (λ (lt : taken < length tape). absurd (some_there tape taken lt (e ∙ h))) (λ (le : length tape ≤ taken). drop_all taken tape le) (cases_lt taken (length tape))
  where
    some_there : (tape : List Move) (taken : ℕ) → taken < length tape → slice_get tape taken ≡ None → ⊥
    some_there tape taken lt e = none-some (get_or tape taken On) (sym e ∙ slice_get-get_or tape taken On lt)

module _ (held : Held) (cert : EnvCert) (names : Names) (tape : List Move) (old : List ℕ) (first : ℕ) (good : IsGoodStrategy (game_of held) (strategy_of cert)) (may : All (IsIn true) tape) where
  abbrev g : Game
  g = game_of held

  abbrev s : Strategy
  s = strategy_of cert

  abbrev v : Lists
  v = lists_of held.states

  abbrev pub Keeps : List ℕ → ℕ → List ℕ → ℕ → Type 0
  Keeps text at calls taken = Kept g v names s first tape old text at calls (drop taken tape)

  pub at_within : (text : List ℕ) (at : ℕ) (calls : List ℕ) (taken : ℕ) → Keeps text at calls taken → at < length cert.rows.items
  at_within text at calls taken k = let lt = slice_get_within s.rows at _ k.stands.1 in omega (arith, lt, length-map cert.rows.items row_of)

  pub row_here : (text : List ℕ) (at : ℕ) (calls : List ℕ) (taken : ℕ) → Keeps text at calls taken → (x : EnvRow) → x ≡ get_or cert.rows.items at x → slice_get s.rows at ≡ Some (row_of x)
  row_here text at calls taken k x e = get_mapped row_of cert.rows.items at x (at_within text at calls taken k) e

  pub turn : (text : List ℕ) (at : ℕ) (calls : List ℕ) (taken n : ℕ) (k : Keeps text at calls taken) (x : EnvRow) → x ≡ get_or cert.rows.items at x
      → (entry : Option Move) (by : Move) → entry ≡ slice_get tape taken → move_in (how_of x.how) entry ≡ Some by → n ≡ entries_in (how_of x.how)
      → Ready g v names s first tape old text at calls (row_of x) by (drop (taken + n) tape)
  turn text at calls taken n k x e entry by w made entries =
      ready g v names s first tape old (good_strategy_closed g s good) (in_range g s good) text at calls (drop taken tape) (drop (taken + n) tape) (row_of x) entry by k
      (row_here text at calls taken k x e) made (takes_from (how_of x.how) tape taken n entry by may w made entries)

  -- what comes after a row is what the code finds
  module _ (text : List ℕ) (at : ℕ) (calls : List ℕ) (r : Row) (by : Move) (left : List Move) (y : Ready g v names s first tape old text at calls r by left) (next : ℕ) (opened : List ℕ)
      (after : after_in s r.how at r.state by calls ≡ Some (next, opened)) where
    same : ◌≡◌ {A = ℕ × List ℕ} (y.next, y.opened) (next, opened)
    same = same_Some (y.next, y.opened) (next, opened) (sym y.is_after ∙ after)

    pub fewer_then : moves_left next opened < moves_left at calls
    fewer_then = subst (λ (p : ℕ × List ℕ). moves_left p.0 p.1 < moves_left at calls) same y.fewer

    pub nested_then : (rows : ℕ) → AreNested rows at calls → AreNested rows next opened
    nested_then rows h = subst (λ (p : ℕ × List ℕ). AreNested rows p.0 p.1) same (y.nested rows h)

    has_then : slice_get s.rows next ≡ Some y.row
    has_then = subst (λ (p : ℕ × List ℕ). slice_get s.rows p.0 ≡ Some y.row) same y.has_row

    pub next_within : next < length cert.rows.items
    next_within = let lt = slice_get_within s.rows next y.row has_then in omega (arith, lt, length-map cert.rows.items row_of)

    pub row_then : (x : EnvRow) → x ≡ get_or cert.rows.items next x → slice_get s.rows next ≡ Some (row_of x)
    row_then x e = get_mapped row_of cert.rows.items next x next_within e

    pub kept_then : (x : EnvRow) → x ≡ get_or cert.rows.items next x → (more : List ℕ) → more ≡ text ++ told_of g v names s first tape old r.pos by x.pos.0 x.state.0
        → Kept g v names s first tape old more next opened left
    kept_then x e more told =
        let row : y.row ≡ row_of x = same_Some y.row (row_of x) (sym has_then ∙ row_then x e) in
        subst (λ (p : ℕ × List ℕ). Kept g v names s first tape old more p.0 p.1 left) same
        (y.kept more (told ∙ ap (λ (r' : Row). text ++ told_of g v names s first tape old r.pos by r'.pos r'.state) (sym row)))

  pub pos_within : (at : ℕ) (x : EnvRow) → slice_get s.rows at ≡ Some (row_of x) → x.pos.0 < length g.spots
  pos_within at x e = (in_range g s good).pos at (row_of x) e

  pub state_within : (at : ℕ) (x : EnvRow) → slice_get s.rows at ≡ Some (row_of x) → x.state.0 < g.states.count
  state_within at x e = (in_range g s good).state at (row_of x) e

  pub bad_there : (at : ℕ) (x : EnvRow) → slice_get s.rows at ≡ Some (row_of x) → how_of x.how ≡ Bad → bad_in g x.state.0 (slice_get g.spots x.pos.0) ≡ true
  bad_there at x e how =
      let r : Row = record { pos = x.pos.0; state = x.state.0; aim = x.aim; how = Bad } in
      good_strategy_closed g s good at r (e ∙ ap (λ (how : How). Some (record { pos = x.pos.0; state = x.state.0; aim = x.aim; how = how })) how)

  pub played : IsValid (policy_of held.states.policy) → AreLists (uses_of (policy_of held.states.policy) held.graph.nodes.items) (lists_of held.states) → IsStartRow g s first
      → (text : List ℕ) (at : ℕ) (calls : List ℕ) (taken : ℕ) → Keeps text at calls taken → (x : EnvRow) → x ≡ get_or cert.rows.items at x
      → (entry : Option Move) → entry ≡ slice_get tape taken → (end : PlayEnd) → EndsAt g v (row_of x) entry end
      → (source : List ℕ) (file : File) → IsGraph (names_of (policy_of held.states.policy)) source file held.graph
      → IsRunnable (plan_of (names_of (policy_of held.states.policy)) source file) → AssignsNames source file
      → IsPlayed names (problem_of (policy_of held.states.policy) source file) g s tape end old text
  played valid lists start text at calls taken k x e entry w end h source file drawn run assigns =
      let whole = ends g v names s first tape old (good_strategy_closed g s good) refl text at calls (drop taken tape) (row_of x) entry end k (row_here text at calls taken k x e) h
      (λ none. spent_by tape taken entry (sym w) none)
      (plan_of (names_of (policy_of held.states.policy)) source file) (game_is held valid lists source file drawn run assigns) (tells held valid lists source file drawn assigns) in
      record { row = first; start = start; steps = whole.0; play = whole.1; told = whole.2 }
