-- From row to row: what comes next is there, it is fewer moves from the end, and what a play keeps is kept.
use Rattle.std.proofs.Common.{◌≡◌, ℕ, zero, suc, ◌+◌, ◌<◌, ◌≤◌, List, [], ◌∷◌, ◌++◌, map, true, false, Option, Some, option_map, refl, sym, ap, ◌∙◌, subst, append-nil, arith}
use Rattle.std.specs.Prelude.{slice_get}
use Rattle.std.proofs.lemmas.Option.{none-some, same_Some}
use Rattle.cw_certs.specs.declared.moves.Move.{Move}
use Rattle.cw_certs.specs.declared.moves.Move.TheVariants.{Skip, Try, Grant, Refuse, On, Left, Right, Opened, Failed, Stop}
use Rattle.cw_certs.specs.Strategies.{How, Bad, Out, Both, Go, Into, Row, Strategy, back_of}
use Rattle.cw_model.specs.Boards.{start_board}
use Rattle.cw_game.specs.Games.{Game, Ret, Config, at_pair, returned, leads_in, bad_in}
use Rattle.cw_game.specs.Pairs.{has, IsAt, is_exit_in}
use Rattle.cw_game.specs.Closed.{HowOk, IsClosedStrategy}
use Rattle.cw_lemmas.proofs.Truths.{not_both}
use Rattle.cw_game.proofs.Members.{has_none}
use Rattle.cw_echeck.proofs.Leads.{local_over, calls_to, weavers_to}
use Rattle.cw_echeck.proofs.Boards.{problem_in, environments, at_call, at_end, starts}
use Rattle.cw_states.specs.States.{Lists}
use Rattle.cw_text.specs.Moves.{IsWeavers}
use Rattle.cw_trace.specs.Traces.{Names}
use Rattle.cw_play.specs.Rows.{backs_if, backs_at, move_in, after_in, moves_below, moves_left}
use Rattle.cw_play.proofs.Held.{IsInRange, Owed, Sofar, Kept}
use Rattle.cw_play.proofs.Nested.{AreNested, nested_below}
use Rattle.cw_play.proofs.Advances.{told_of, advance}

-- Fewer moves are left.
grows : (m n : ℕ) → m ≤ n → moves_below m ≤ moves_below n
unfolding moves_below
grows zero n le = omega arith
grows (suc m) zero le = absurd (omega (arith, le))
grows (suc m) (suc n) le = let k = grows m n (omega (arith, le)) in omega (arith, k)

twice : (n : ℕ) → moves_below (suc n) ≡ suc (moves_below n + moves_below n)
unfolding moves_below
twice n = refl

fewer_next : (next at : ℕ) (calls : List ℕ) → next < at → moves_left next calls < moves_left at calls
fewer_next next at calls lt = let a = grows (suc next) at (omega (arith, lt)) in let b = twice at in omega (arith, a, b)

fewer_called : (callee at : ℕ) (calls : List ℕ) → callee < at → moves_left callee (at ∷ calls) < moves_left at calls
fewer_called callee at calls lt = let a = grows (suc callee) at (omega (arith, lt)) in let b = twice at in omega (arith, a, b)

fewer_back : (back at caller : ℕ) (calls : List ℕ) → back < caller → moves_left back calls < moves_left at (caller ∷ calls)
fewer_back back at caller calls lt = let a = grows (suc back) caller (omega (arith, lt)) in let b = twice at in omega (arith, a, b)

-- what a row takes of the tape
abbrev pub Takes : How → List Move → Move → List Move → Type 0
Takes (Both skip tried) rest by left = (rest ≡ by ∷ left) × IsWeavers by
Takes how rest by left = left ≡ rest

module _ (g : Game) (v : Lists) (names : Names) (s : Strategy) (first : ℕ) (tape : List Move) (old : List ℕ) where
  -- what comes after a move that is made at a row
  pub record Ready (text : List ℕ) (at : ℕ) (calls : List ℕ) (r : Row) (by : Move) (left : List Move) : Type 0 where
    pub next : ℕ
    pub opened : List ℕ
    pub is_after : after_in s r.how at r.state by calls ≡ Some (next, opened)
    pub fewer : moves_left next opened < moves_left at calls
    pub nested : (rows : ℕ) → AreNested rows at calls → AreNested rows next opened
    pub row : Row
    pub has_row : slice_get s.rows next ≡ Some row
    pub kept : (more : List ℕ) → more ≡ text ++ told_of g v names s first tape old r.pos by row.pos row.state → Kept g v names s first tape old more next opened left

  abbrev row_in : ℕ → ℕ → ℕ → How → Row
  row_in pos q aim how = record { pos = pos; state = q; aim = aim; how = how }

  -- the play begins at a row at the start with an empty aim
  pub begins : IsAt s first (g.entry g.main) g.states.start 0 → Kept g v names s first tape old old first [] tape
  begins at = record {
    pos = g.entry g.main;
    state = g.states.start;
    aim = 0;
    rets = [];
    stands = at;
    owed = refl;
    sofar = λ plan game tells. record { board = start_board (problem_in plan g); stands = starts plan g game; steps = []; last = refl; told = sym (append-nil old); goes = λ end later h. h };
  }

  module _ (closed : IsClosedStrategy g s) (few : IsInRange g s) where
    both_ready : (text : List ℕ) (at : ℕ) (calls : List ℕ) (rest left : List Move) (k : Kept g v names s first tape old text at calls rest) (skip tried : ℕ) (by : Move)
        → slice_get s.rows at ≡ Some (row_in k.pos k.state k.aim (Both skip tried)) → HowOk g s at k.pos k.state k.aim (Both skip tried)
        → rest ≡ by ∷ left → IsWeavers by → Ready text at calls (row_in k.pos k.state k.aim (Both skip tried)) by left
    both_ready text at calls rest left k skip tried Skip er ok e may =
        let w = weavers_to g k.pos k.state k.rets (slice_get g.spots k.pos) ok.2 in
        record {
          next = skip;
          opened = calls;
          is_after = refl;
          fewer = fewer_next skip at calls ok.0;
          nested = λ rows h. nested_below rows skip at calls ok.0 h;
          row = row_in (k.pos + 2) k.state k.aim ok.3.0;
          has_row = ok.3.1;
          kept = λ more told. record {
            pos = k.pos + 2;
            state = k.state;
            aim = k.aim;
            rets = k.rets;
            stands = ok.3;
            owed = k.owed;
            sofar = λ plan game tells. advance g v names s first tape old plan game tells text more (at_pair k.pos k.state k.rets) (at_pair (k.pos + 2) k.state k.rets) at skip calls calls rest left
                (row_in k.pos k.state k.aim (Both skip tried)) Skip (k.sofar plan game tells) er (λ b to h. (false, refl, e, refl, refl)) w.2 w.0 told;
          };
        }
    both_ready text at calls rest left k skip tried Try er ok e may =
        let w = weavers_to g k.pos k.state k.rets (slice_get g.spots k.pos) ok.2 in
        record {
          next = tried;
          opened = calls;
          is_after = refl;
          fewer = fewer_next tried at calls ok.1;
          nested = λ rows h. nested_below rows tried at calls ok.1 h;
          row = row_in (k.pos + 1) k.state k.aim ok.4.0;
          has_row = ok.4.1;
          kept = λ more told. record {
            pos = k.pos + 1;
            state = k.state;
            aim = k.aim;
            rets = k.rets;
            stands = ok.4;
            owed = k.owed;
            sofar = λ plan game tells. advance g v names s first tape old plan game tells text more (at_pair k.pos k.state k.rets) (at_pair (k.pos + 1) k.state k.rets) at tried calls calls rest left
                (row_in k.pos k.state k.aim (Both skip tried)) Try (k.sofar plan game tells) er (λ b to h. (true, refl, e, refl, refl)) w.2 w.1 told;
          };
        }
    both_ready text at calls rest left k skip tried Grant er ok e may = absurd may
    both_ready text at calls rest left k skip tried Refuse er ok e may = absurd may
    both_ready text at calls rest left k skip tried On er ok e may = absurd may
    both_ready text at calls rest left k skip tried Left er ok e may = absurd may
    both_ready text at calls rest left k skip tried Right er ok e may = absurd may
    both_ready text at calls rest left k skip tried Opened er ok e may = absurd may
    both_ready text at calls rest left k skip tried Failed er ok e may = absurd may
    both_ready text at calls rest left k skip tried Stop er ok e may = absurd may

    go_ready : (text : List ℕ) (at : ℕ) (calls : List ℕ) (rest left : List Move) (k : Kept g v names s first tape old text at calls rest) (move : Move) (row : ℕ)
        → slice_get s.rows at ≡ Some (row_in k.pos k.state k.aim (Go move row)) → HowOk g s at k.pos k.state k.aim (Go move row)
        → left ≡ rest → Ready text at calls (row_in k.pos k.state k.aim (Go move row)) move left
    go_ready text at calls rest left k move row er ok e =
        let t = ok.2 in
        let l = sym (local_over g k.pos k.state k.rets (slice_get g.spots k.pos) move ok.1.2 ok.1.3) ∙ ap (option_map (λ (c : Config). at_pair c.pos c.state k.rets)) t.2 in
        record {
          next = row;
          opened = calls;
          is_after = refl;
          fewer = fewer_next row at calls ok.0;
          nested = λ rows h. nested_below rows row at calls ok.0 h;
          row = row_in t.0 t.1 k.aim t.3.0;
          has_row = t.3.1;
          kept = λ more told. record {
            pos = t.0;
            state = t.1;
            aim = k.aim;
            rets = k.rets;
            stands = t.3;
            owed = k.owed;
            sofar = λ plan game tells. advance g v names s first tape old plan game tells text more (at_pair k.pos k.state k.rets) (at_pair t.0 t.1 k.rets) at row calls calls rest left
                (row_in k.pos k.state k.aim (Go move row)) move (k.sofar plan game tells) er
                (λ b to h. (refl, e, refl, refl, environments plan g game b (at_pair k.pos k.state k.rets) h ok.1.0)) ok.1.1 l told;
          };
        }

    into_ready : (text : List ℕ) (at : ℕ) (calls : List ℕ) (rest left : List Move) (k : Kept g v names s first tape old text at calls rest) (callee : ℕ) (backs : List (ℕ × ℕ))
        → slice_get s.rows at ≡ Some (row_in k.pos k.state k.aim (Into callee backs)) → HowOk g s at k.pos k.state k.aim (Into callee backs)
        → left ≡ rest → Ready text at calls (row_in k.pos k.state k.aim (Into callee backs)) On left
    into_ready text at calls rest left k callee backs er ok e =
        let t = ok.1 in
        let ret : Ret = record { back = t.1; kept = t.2 } in
        let l = calls_to g k.pos k.state t.0 t.1 t.2 k.rets (slice_get g.spots k.pos) t.4 in
        record {
          next = callee;
          opened = at ∷ calls;
          is_after = refl;
          fewer = fewer_called callee at calls ok.0;
          nested = λ rows h. (ok.0, h);
          row = row_in (g.entry t.0) k.state t.3 t.5.0;
          has_row = t.5.1;
          kept = λ more told. record {
            pos = g.entry t.0;
            state = k.state;
            aim = t.3;
            rets = ret ∷ k.rets;
            stands = t.5;
            owed = (row_in k.pos k.state k.aim (Into callee backs), er, t.6, k.owed);
            sofar = λ plan game tells. advance g v names s first tape old plan game tells text more (at_pair k.pos k.state k.rets) (at_pair (g.entry t.0) k.state (ret ∷ k.rets)) at
                callee calls (at ∷ calls) rest left
                (row_in k.pos k.state k.aim (Into callee backs)) On (k.sofar plan game tells) er
                (λ b to h. let c = at_call plan g game b (at_pair k.pos k.state k.rets) h l.1 in
                (refl, e, refl, ap (λ (bs : List (ℕ × ℕ)). bs ∷ map (backs_at s) calls) (ap backs_if er), c.0, c.1)) l.2 l.0 told;
          };
        }

    out_ready : (text : List ℕ) (at : ℕ) (calls : List ℕ) (rest left : List Move) (k : Kept g v names s first tape old text at calls rest) (rets : List Ret) → k.rets ≡ rets → Owed g s k.aim rets calls
        → slice_get s.rows at ≡ Some (row_in k.pos k.state k.aim Out) → HowOk g s at k.pos k.state k.aim Out → left ≡ rest → Ready text at calls (row_in k.pos k.state k.aim Out) On left
    out_ready text at [] rest left k [] same owed er ok e = absurd (not_both (has k.aim k.state) ok.3 (ap (λ (aim : ℕ). has aim k.state) owed ∙ has_none k.state))
    out_ready text at [] rest left k (ret ∷ rets) same owed er ok e = absurd owed
    out_ready text at (caller ∷ calls) rest left k [] same owed er ok e = absurd owed
    out_ready text at (caller ∷ calls) rest left k (ret ∷ rets) same owed er ok e =
        let back = owed.2 k.state (few.state at (row_in k.pos k.state k.aim Out) er) ok.3 in
        let found : back_of (backs_at s caller) k.state ≡ Some back.0 = ap (λ (bs : List (ℕ × ℕ)). back_of bs k.state) (ap backs_if owed.1) ∙ back.1 in
        let next = returned g.states ret.kept k.state in
        record {
          next = back.0;
          opened = calls;
          is_after = ap (option_map (λ (row : ℕ). (row, calls))) found;
          fewer = fewer_back back.0 at caller calls back.2;
          nested = λ rows h. nested_below rows back.0 caller calls back.2 h.1;
          row = row_in ret.back next owed.0.aim back.3.0;
          has_row = back.3.1;
          kept = λ more told. record {
            pos = ret.back;
            state = next;
            aim = owed.0.aim;
            rets = rets;
            stands = back.3;
            owed = owed.3;
            sofar = λ plan game tells. advance g v names s first tape old plan game tells text more (at_pair k.pos k.state (ret ∷ rets)) (at_pair ret.back next rets) at back.0
                (caller ∷ calls) calls rest left
                (row_in k.pos k.state k.aim Out) On
                (subst (λ (rs : List Ret). Sofar g names plan s first tape old text (at_pair k.pos k.state rs) at (caller ∷ calls) rest) same (k.sofar plan game tells)) er
                (λ b to h. let z = at_end plan g game b (at_pair k.pos k.state (ret ∷ rets)) h (ap is_exit_in ok.1) in (refl, e, z.0, z.1, (backs_at s caller, refl, found)))
                (ap (bad_in g k.state) ok.1) (ap (λ o. leads_in g k.pos k.state (ret ∷ rets) o On) ok.1) told;
          };
        }

    by_how : (text : List ℕ) (at : ℕ) (calls : List ℕ) (rest left : List Move) (k : Kept g v names s first tape old text at calls rest) (how : How) (entry : Option Move) (by : Move)
        → slice_get s.rows at ≡ Some (row_in k.pos k.state k.aim how) → HowOk g s at k.pos k.state k.aim how
        → move_in how entry ≡ Some by → Takes how rest by left → Ready text at calls (row_in k.pos k.state k.aim how) by left
    by_how text at calls rest left k Bad entry by er ok made takes = absurd (none-some by made)
    by_how text at calls rest left k Out entry by er ok made takes =
        subst (λ (m : Move). Ready text at calls (row_in k.pos k.state k.aim Out) m left) (same_Some On by made) (out_ready text at calls rest left k k.rets refl k.owed er ok takes)
    by_how text at calls rest left k (Both skip tried) entry by er ok made takes = both_ready text at calls rest left k skip tried by er ok takes.0 takes.1
    by_how text at calls rest left k (Go move row) entry by er ok made takes =
        subst (λ (m : Move). Ready text at calls (row_in k.pos k.state k.aim (Go move row)) m left) (same_Some move by made) (go_ready text at calls rest left k move row er ok takes)
    by_how text at calls rest left k (Into callee backs) entry by er ok made takes =
        subst (λ (m : Move). Ready text at calls (row_in k.pos k.state k.aim (Into callee backs)) m left) (same_Some On by made) (into_ready text at calls rest left k callee backs er ok takes)

    pub ready : (text : List ℕ) (at : ℕ) (calls : List ℕ) (rest left : List Move) (r : Row) (entry : Option Move) (by : Move) → Kept g v names s first tape old text at calls rest
        → slice_get s.rows at ≡ Some r → move_in r.how entry ≡ Some by → Takes r.how rest by left → Ready text at calls r by left
    ready text at calls rest left r entry by k er made takes =
        let same : row_in k.pos k.state k.aim k.stands.0 ≡ r = same_Some (row_in k.pos k.state k.aim k.stands.0) r (sym k.stands.1 ∙ er) in
        subst (λ (r : Row). move_in r.how entry ≡ Some by → Takes r.how rest by left → Ready text at calls r by left) same
        (λ made takes. by_how text at calls rest left k k.stands.0 entry by k.stands.1 (closed at (row_in k.pos k.state k.aim k.stands.0) k.stands.1) made takes) made takes
