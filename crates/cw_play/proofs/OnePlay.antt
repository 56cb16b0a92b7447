-- For each tape there is one play at most.
use Rattle.std.proofs.Common.{◌≡◌, ℕ, ◌≤◌, List, [], ◌∷◌, Bool, true, false, Some, refl, sym, ap, ap₂, ◌∙◌, subst, arith}
use Rattle.std.proofs.lemmas.Option.{same_Some}
use Rattle.cw_certs.specs.declared.moves.Move.{Move}
use Rattle.cw_certs.specs.Strategies.{How, Bad, Out, Both, Go, Into, Row, Strategy, back_of}
use Rattle.cw_rights.specs.Policies.{PlainRule}
use Rattle.cw_rights.specs.Words.{Word}
use Rattle.cw_dfa.specs.Verdicts.{IsVerdict}
use Rattle.cw_model.specs.Boards.{Problem, Board, Moves}
use Rattle.cw_model.specs.Plays.{choice, row_by, Waiting}
use Rattle.cw_trace.specs.Traces.{Taken}
use Rattle.cw_trace.proofs.Lists.{cons_head, cons_tail}
use Rattle.cw_play.specs.declared.end.PlayEnd.{PlayEnd}
use Rattle.cw_play.specs.declared.end.PlayEnd.TheVariants.{Violation, TapeSpent}
use Rattle.cw_play.specs.Plays.{Stand, Follows, Goes, EndsBy, Ends, Plays, OnePlayByATape}

one_choice : (a b : Bool) (rest other : List Move) → choice a ∷ rest ≡ choice b ∷ other → (a ≡ b) × (rest ≡ other)
one_choice true true rest other e = (refl, cc)
one_choice true false rest other e = absurd cc
one_choice false true rest other e = absurd cc
one_choice false false rest other e = (refl, cc)

follows_one : (how : How) (state : ℕ) (at next other : Stand) (tape rest more : List Move) (by by2 : Move)
    → Follows how state at tape by next rest → Follows how state at tape by2 other more → (by ≡ by2) × (rest ≡ more) × (next.row ≡ other.row) × (next.waiting ≡ other.waiting)
follows_one Bad state at next other tape rest more by by2 f g = absurd f
follows_one (Both skip tried) state at next other tape rest more by by2 f g =
    let e = one_choice f.0 g.0 rest more (sym f.2 ∙ g.2) in
    (f.1 ∙ ap choice e.0 ∙ sym g.1, e.1, f.3 ∙ ap (λ a. row_by a skip tried) e.0 ∙ sym g.3, f.4 ∙ sym g.4)
follows_one (Go move row) state at next other tape rest more by by2 f g = (f.0 ∙ sym g.0, f.1 ∙ sym g.1, f.2 ∙ sym g.2, f.3 ∙ sym g.3)
follows_one (Into callee backs) state at next other tape rest more by by2 f g = (f.0 ∙ sym g.0, f.1 ∙ sym g.1, f.2 ∙ sym g.2, f.3 ∙ sym g.3)
follows_one Out state at next other tape rest more by by2 f g =
    let e : f.4.0 ∷ next.waiting ≡ g.4.0 ∷ other.waiting = sym f.4.1 ∙ g.4.1 in
    let first = cons_head f.4.0 g.4.0 next.waiting other.waiting e in (
      f.0 ∙ sym g.0,
      f.1 ∙ sym g.1,
      same_Some next.row other.row (sym f.4.2 ∙ ap (λ (backs : List (ℕ × ℕ)). back_of backs state) first ∙ g.4.2),
      cons_tail f.4.0 g.4.0 next.waiting other.waiting e,
    )

abbrev stand : ℕ → Board → Waiting → Stand
stand row board waiting = record { row = row; board = board; waiting = waiting }

abbrev taken : Move → Board → Taken
taken by next = record { by = by; next = next }

one_stand : (x y : Stand) → x.row ≡ y.row → x.board ≡ y.board → x.waiting ≡ y.waiting → x ≡ y
one_stand x y e f g =
    ap (λ (row : ℕ). stand row x.board x.waiting) e ∙ ap (λ (board : Board). stand y.row board x.waiting) f ∙ ap (λ (waiting : Waiting). stand y.row y.board waiting) g

one_taken : (x y : Taken) → x.by ≡ y.by → x.next ≡ y.next → x ≡ y
one_taken x y e f = ap (λ (by : Move). taken by x.next) e ∙ ap (λ (next : Board). taken y.by next) f

one_rule : (rules : List PlainRule) (w : Word) (i j : ℕ) → IsVerdict rules w (Some i) → IsVerdict rules w (Some j) → i ≡ j
one_rule rules w i j h k = let a : i ≤ j = h.1 j k.0 in let b : j ≤ i = k.1 i h.0 in omega arith

module _ (p : Problem) (s : Strategy) where
  one_board : (b : Board) (by : Move) (x y : Board) → Moves p b by x → Moves p b by y → x ≡ y
  one_board b by x y m n = same_Some x y (sym m.1 ∙ n.1)

  one_end : (b : Board) (tape : List Move) (how : How) (one other : PlayEnd) → EndsBy p b tape how one → EndsBy p b tape how other → one ≡ other
  one_end b tape Bad (Violation i) (Violation j) h k = ap Violation (one_rule p.policy.rules _ i j h.1 k.1)
  one_end b tape Bad (Violation i) TapeSpent h k = absurd k
  one_end b tape Bad TapeSpent other h k = absurd h
  one_end b tape (Both skip tried) TapeSpent TapeSpent h k = refl
  one_end b tape (Both skip tried) TapeSpent (Violation j) h k = absurd k
  one_end b tape (Both skip tried) (Violation i) other h k = absurd h
  one_end b tape (Go move row) one other h k = absurd h
  one_end b tape (Into callee backs) one other h k = absurd h
  one_end b tape Out one other h k = absurd h

  -- where a play ends it doesn't go on
  no_more : (how : How) (state : ℕ) (at next : Stand) (tape rest : List Move) (end : PlayEnd) (by : Move) → EndsBy p at.board tape how end → Follows how state at tape by next rest → ⊥
  no_more Bad state at next tape rest end by h f = f
  no_more (Both skip tried) state at next tape rest TapeSpent by h f = let e : [] ≡ choice f.0 ∷ rest = sym h ∙ f.2 in cc
  no_more (Both skip tried) state at next tape rest (Violation i) by h f = h
  no_more (Go move row) state at next tape rest end by h f = h
  no_more (Into callee backs) state at next tape rest end by h f = h
  no_more Out state at next tape rest end by h f = h

  stops : (at next : Stand) (tape rest : List Move) (end : PlayEnd) (by : Move) → Ends p s at tape end → Goes p s at tape by next rest → ⊥
  stops at next tape rest end by h k =
      let same : h.row ≡ k.row = same_Some h.row k.row (sym h.has ∙ k.has) in
      no_more k.row.how k.row.state at next tape rest end by (subst (λ (r : Row). EndsBy p at.board tape r.how end) same h.ends) k.follows

  pub one_from : (steps others : List Taken) (at : Stand) (tape : List Move) (one other : PlayEnd) → Plays p s at tape one steps → Plays p s at tape other others → (one ≡ other) × (steps ≡ others)
  one_from [] [] at tape one other h k =
      let same : h.row ≡ k.row = same_Some h.row k.row (sym h.has ∙ k.has) in
      (one_end at.board tape k.row.how one other (subst (λ (r : Row). EndsBy p at.board tape r.how one) same h.ends) k.ends, refl)
  one_from [] (u ∷ us) at tape one other h k = absurd (stops at k.0 tape k.1 one u.by h k.3)
  one_from (t ∷ ts) [] at tape one other h k = absurd (stops at h.0 tape h.1 other t.by k h.3)
  one_from (t ∷ ts) (u ∷ us) at tape one other h k =
      let same : h.3.row ≡ k.3.row = same_Some h.3.row k.3.row (sym h.3.has ∙ k.3.has) in
      let f = subst (λ (r : Row). Follows r.how r.state at tape t.by h.0 h.1) same h.3.follows in
      let d = follows_one k.3.row.how k.3.row.state at h.0 k.0 tape h.1 k.1 t.by u.by f k.3.follows in
      let b : h.0.board ≡ k.0.board = one_board at.board u.by h.0.board k.0.board (subst (λ (by : Move). Moves p at.board by h.0.board) d.0 h.3.moves) k.3.moves in
      let to : h.0 ≡ k.0 = one_stand h.0 k.0 d.2 b d.3 in
      let later = subst (λ (rest : List Move). Plays p s k.0 rest one ts) d.1 (subst (λ (n : Stand). Plays p s n h.1 one ts) to h.4) in
      let r = one_from ts us k.0 k.1 one other later k.4 in
      (r.0, ap₂ (λ (x : Taken) (xs : List Taken). x ∷ xs) (one_taken t u d.0 (sym h.2 ∙ b ∙ k.2)) r.1)

pub one_play : OnePlayByATape
one_play p s row tape one other steps others h k = one_from p s steps others _ tape one other h k
