-- There is one run: at each state one move, and so one end.
use Rattle.std.proofs.Common.{◌≡◌, ◌≢◌, ◌⊎◌, inl, inr, ℕ, zero, List, [], ◌∷◌, Bool, true, false, not, Option, Some, None, refl, sym, ap, subst, ◌∙◌}
use Rattle.std.specs.Prelude.{option_map, option_and_then, is_some}
use Rattle.std.proofs.lemmas.Option.{same_Some, none-some}
use Rattle.cw_core.specs.declared.ids.SeamId.{SeamId}
use Rattle.cw_core.specs.declared.ids.MemId.{MemId}
use Rattle.cw_rights.specs.declared.capabilities.Primitive.{Primitive}
use Rattle.cw_certs.specs.declared.moves.Move.{Move}
use Rattle.cw_certs.specs.declared.moves.Move.TheVariants.{Skip, Try, Grant, Refuse, On as OnMove, Left as LeftMove, Right as RightMove, Opened as OpenedMove, Failed as FailedMove, Stop as StopMove}
use Rattle.cw_certs.specs.declared.rows.TryRow.{TryRow}
use Rattle.cw_certs.specs.Tables.{Table}
use Rattle.cw_model.specs.Boards.{Problem, problem_of, Phase, Visit, Asked, Refused as RefusedPhase, Free, FreeSplit, Over, Board, moved, move_of}
use Rattle.cw_model.specs.Runs.{State, memories, mem_in, top_by, stays_unless, stays_where, refused_with, stops, try_of}
use Rattle.cw_value.specs.declared.values.Stop.{Stop}
use Rattle.cw_value.specs.declared.values.Stop.TheVariants.{Ended, Steps, Refused}
use Rattle.cw_value.specs.Expressions.{Outcome, gives, stops as stopped}
use Rattle.cw_value.specs.Declarations.{Done}
use Rattle.cw_value.specs.Machines.{Source, Machine, goes, halts}
use Rattle.cw_value.specs.Starts.{begun}
use Rattle.cw_value.specs.Shown.{Values}
use Rattle.cw_value.specs.Runs.{Going, answer, counted, ended_values, IsFree, IsWeaving, Leads, Chooses, Ends, over, spent, weaves, quits, asks, steps, halted, going_start, most_steps, source_of, RunsFrom}
use Rattle.cw_agree.specs.Laws.{OneRun}
use Rattle.cw_agree.proofs.Paired.{same_state, same_goes, same_halts}

-- a skip and a try, or a skip and a stop, aren't both moves of a table
not_both : (f g : ℕ → Option ℕ) (ms a b : List ℕ) → ((m x y : ℕ) → f m ≡ Some x → g m ≡ Some y → ⊥) → top_by f ms ≡ Some a → top_by g ms ≡ Some b → ⊥
not_both f g [] a b h d e = absurd (none-some a d)
not_both f g (m ∷ ms) a b h d e = by_top (f m) (g m) refl refl d e where
  by_top : (x y : Option ℕ) → f m ≡ x → g m ≡ y → option_map (λ (new : ℕ). new ∷ ms) x ≡ Some a → option_map (λ (new : ℕ). new ∷ ms) y ≡ Some b → ⊥
  by_top None y p q d e = none-some a d
  by_top (Some x) None p q d e = none-some b e
  by_top (Some x) (Some y) p q d e = h m x y p q

where_unless : (b : Bool) (m x y : ℕ) → stays_unless b m ≡ Some x → stays_where b m ≡ Some y → ⊥
where_unless true m x y d e = none-some x d
where_unless false m x y d e = none-some y e

memory_or_stop : (f : MemId → Option ℕ) (o : Option MemId) (m x y : ℕ) → option_and_then f o ≡ Some x → stays_where (not (is_some o)) m ≡ Some y → ⊥
memory_or_stop f None m x y d e = none-some x d
memory_or_stop f (Some a) m x y d e = none-some y e

refused_stops : (t : Table) (row : Option TryRow) (m x y : ℕ) → refused_with t row ≡ Some x → stays_where (stops row) m ≡ Some y → ⊥
refused_stops t None m x y d e = none-some x d
refused_stops t (Some r) m x y d e = memory_or_stop (mem_in t) r.refused m x y d e

weaving_free : (phase : Phase) → IsWeaving phase → IsFree phase → ⊥
weaving_free (Visit i a l) w h = h
weaving_free (RefusedPhase i a l) w h = h
weaving_free (Asked i a l) w h = w
weaving_free Free w h = w
weaving_free FreeSplit w h = w
weaving_free Over w h = w

same_seam : (seam seam2 : SeamId) → seam.0 ≡ seam2.0 → seam ≡ seam2
same_seam seam seam2 e = ap (λ (n : ℕ). record { 0 = n }) e

module _ (source : Source) (p : Problem) where
  by_visit : (b : Board) (i : ℕ) (a : Primitive) (l : List Primitive) (m : Move) (next : Board) → moved p b (Visit i a l) m ≡ Some next → (m ≡ Skip) ⊎ (m ≡ Try)
  by_visit b i a l Skip next e = inl refl
  by_visit b i a l Try next e = inr refl
  by_visit b i a l Grant next e = absurd (none-some next e)
  by_visit b i a l Refuse next e = absurd (none-some next e)
  by_visit b i a l OnMove next e = absurd (none-some next e)
  by_visit b i a l LeftMove next e = absurd (none-some next e)
  by_visit b i a l RightMove next e = absurd (none-some next e)
  by_visit b i a l OpenedMove next e = absurd (none-some next e)
  by_visit b i a l FailedMove next e = absurd (none-some next e)
  by_visit b i a l StopMove next e = absurd (none-some next e)

  by_refusal : (b : Board) (i : ℕ) (a : Primitive) (l : List Primitive) (m : Move) (next : Board) → moved p b (RefusedPhase i a l) m ≡ Some next → (m ≡ Skip) ⊎ (m ≡ StopMove)
  by_refusal b i a l Skip next e = inl refl
  by_refusal b i a l Try next e = absurd (none-some next e)
  by_refusal b i a l Grant next e = absurd (none-some next e)
  by_refusal b i a l Refuse next e = absurd (none-some next e)
  by_refusal b i a l OnMove next e = absurd (none-some next e)
  by_refusal b i a l LeftMove next e = absurd (none-some next e)
  by_refusal b i a l RightMove next e = absurd (none-some next e)
  by_refusal b i a l OpenedMove next e = absurd (none-some next e)
  by_refusal b i a l FailedMove next e = absurd (none-some next e)
  by_refusal b i a l StopMove next e = inr refl

  module _ (t : Table) (b : Board) (ms : List ℕ) where
    abbrev Kept : Phase → Move → List ℕ → Type 0
    Kept phase m after = memories p t b ms phase m ≡ Some after

    visit_once : (i : ℕ) (a : Primitive) (l : List Primitive) (x y : List ℕ) → Kept (Visit i a l) Skip x → Kept (Visit i a l) Try y → ⊥
    visit_once i a l x y d e =
        not_both (λ m. stays_unless (is_some (try_of t b i m)) m) (λ m. stays_where (is_some (try_of t b i m)) m) ms x y
        (λ m u v. where_unless (is_some (try_of t b i m)) m u v) d e

    refusal_once : (i : ℕ) (a : Primitive) (l : List Primitive) (x y : List ℕ) → Kept (RefusedPhase i a l) Skip x → Kept (RefusedPhase i a l) StopMove y → ⊥
    refusal_once i a l x y d e =
        not_both (λ m. refused_with t (try_of t b i m)) (λ m. stays_where (stops (try_of t b i m)) m) ms x y
        (λ m u v. refused_stops t (try_of t b i m) m u v) d e

    visit_moves : (i : ℕ) (a : Primitive) (l : List Primitive) (m n : Move) (x y : List ℕ) → (m ≡ Skip) ⊎ (m ≡ Try) → (n ≡ Skip) ⊎ (n ≡ Try) → Kept (Visit i a l) m x → Kept (Visit i a l) n y → m ≡ n
    visit_moves i a l m n x y (inl e) (inl f) h k = e ∙ sym f
    visit_moves i a l m n x y (inr e) (inr f) h k = e ∙ sym f
    visit_moves i a l m n x y (inl e) (inr f) h k = absurd (visit_once i a l x y (subst (λ z. Kept (Visit i a l) z x) e h) (subst (λ z. Kept (Visit i a l) z y) f k))
    visit_moves i a l m n x y (inr e) (inl f) h k = absurd (visit_once i a l y x (subst (λ z. Kept (Visit i a l) z y) f k) (subst (λ z. Kept (Visit i a l) z x) e h))

    refusal_moves : (i : ℕ) (a : Primitive) (l : List Primitive) (m n : Move) (x y : List ℕ) → (m ≡ Skip) ⊎ (m ≡ StopMove) → (n ≡ Skip) ⊎ (n ≡ StopMove)
        → Kept (RefusedPhase i a l) m x → Kept (RefusedPhase i a l) n y → m ≡ n
    refusal_moves i a l m n x y (inl e) (inl f) h k = e ∙ sym f
    refusal_moves i a l m n x y (inr e) (inr f) h k = e ∙ sym f
    refusal_moves i a l m n x y (inl e) (inr f) h k = absurd (refusal_once i a l x y (subst (λ z. Kept (RefusedPhase i a l) z x) e h) (subst (λ z. Kept (RefusedPhase i a l) z y) f k))
    refusal_moves i a l m n x y (inr e) (inl f) h k = absurd (refusal_once i a l y x (subst (λ z. Kept (RefusedPhase i a l) z y) f k) (subst (λ z. Kept (RefusedPhase i a l) z x) e h))

    one_by : (phase : Phase) (m n : Move) (c d : Board) (x y : List ℕ) → IsWeaving phase → moved p b phase m ≡ Some c → Kept phase m x → moved p b phase n ≡ Some d → Kept phase n y → m ≡ n
    one_by (Visit i a l) m n c d x y w e h f k = visit_moves i a l m n x y (by_visit b i a l m c e) (by_visit b i a l n d f) h k
    one_by (RefusedPhase i a l) m n c d x y w e h f k = refusal_moves i a l m n x y (by_refusal b i a l m c e) (by_refusal b i a l n d f) h k
    one_by (Asked i a l) m n c d x y w e h f k = absurd w
    one_by Free m n c d x y w e h f k = absurd w
    one_by FreeSplit m n c d x y w e h f k = absurd w
    one_by Over m n c d x y w e h f k = absurd w

  one_move : (weaver : Option Table) (s : State) (m n : Move) (a b : State) → IsWeaving s.board.phase → Chooses source p weaver m → Chooses source p weaver n
      → Leads source p weaver s m a → Leads source p weaver s n b → m ≡ n
  one_move None s m n a b w c d h k = c ∙ sym d
  one_move (Some t) s m n a b w c d h k = one_by t s.board s.mems s.board.phase m n a.board b.board a.mems b.mems w h.0.1 h.1 k.0.1 k.1

  same_next : (weaver : Option Table) (s : State) (m : Move) (a b : State) → Leads source p weaver s m a → Leads source p weaver s m b → a ≡ b
  same_next None s m a b h k = same_state a b.board b.mems (same_Some a.board b.board (sym h.0 ∙ k.0)) (h.1 ∙ sym k.1)
  same_next (Some t) s m a b h k = same_state a b.board b.mems (same_Some a.board b.board (sym h.0.1 ∙ k.0.1)) (same_Some a.mems b.mems (sym h.1 ∙ k.1))

  next_by : (weaver : Option Table) (s : State) (m n : Move) (a b : State) → m ≡ n → Leads source p weaver s m a → Leads source p weaver s n b → a ≡ b
  next_by weaver s m n a b e h k = same_next weaver s m a b h (subst (λ x. Leads source p weaver s x b) (sym e) k)

  same_asked : (i j : ℕ) (a c : Primitive) (l k : List Primitive) → Asked i a l ≡ Asked j c k → a ≡ c
  same_asked i j a c l k e = cc

  module _ (weaver : Option Table) where
    over_once : (n : ℕ) (s : Going) (v : Values) → s.woven.board.phase ≡ Over → Ends source p weaver n s v → v ≡ ended_values s Ended
    over_once n s v e (over _ _ q) = refl
    over_once n s v e (spent _ q) = absurd (q e)
    over_once n s v e (weaves _ _ m next _ w c ns mv rest) = absurd (subst IsWeaving e w)
    over_once n s v e (quits _ _ next seam w c mv f) = absurd (subst IsWeaving e w)
    over_once n s v e (asks _ _ st b l next _ q mv rest) = absurd (let clash : Over ≡ Asked st b l = sym e ∙ q in cc)
    over_once n s v e (steps _ _ way m next _ h st mv rest) = absurd (subst IsFree e h)
    over_once n s v e (halted _ _ why m h st) = absurd (subst IsFree e h)

    spent_once : (s : Going) (v : Values) → s.woven.board.phase ≢ Over → Ends source p weaver zero s v → v ≡ ended_values s Steps
    spent_once s v e (over _ _ q) = absurd (e q)
    spent_once s v e (spent _ q) = refl

    one_end : (n : ℕ) (s : Going) (v w : Values) → Ends source p weaver n s v → Ends source p weaver n s w → v ≡ w
    one_end n s v w (over _ _ q) d = sym (over_once n s w q d)
    one_end n s v w (spent _ q) d = sym (spent_once s w q d)
    one_end n s v w (weaves k _ m next _ wv c ns mv rest) (over _ _ q) = absurd (subst IsWeaving q wv)
    one_end n s v w (weaves k _ m next _ wv c ns mv rest) (weaves _ _ m2 next2 _ wv2 c2 ns2 mv2 rest2) =
        let e = one_move weaver s.woven m m2 next next2 wv c c2 mv mv2 in
        let f = next_by weaver s.woven m m2 next next2 e mv mv2 in
        one_end n _ v w rest
        (subst (λ (x : State). Ends source p weaver n (record s { woven = x; tried = counted m s.tried }) w) (sym f)
        (subst (λ (x : Move). Ends source p weaver n (record s { woven = next2; tried = counted x s.tried }) w) (sym e) rest2))
    one_end n s v w (weaves k _ m next _ wv c ns mv rest) (quits _ _ next2 seam wv2 c2 mv2 f) = absurd (ns (one_move weaver s.woven m StopMove next next2 wv c c2 mv mv2))
    one_end n s v w (weaves k _ m next _ wv c ns mv rest) (asks _ _ st b l next2 _ q mv2 rest2) = absurd (subst IsWeaving q wv)
    one_end n s v w (weaves k _ m next _ wv c ns mv rest) (steps _ _ way m2 next2 _ h st mv2 rest2) = absurd (weaving_free s.woven.board.phase wv h)
    one_end n s v w (weaves k _ m next _ wv c ns mv rest) (halted _ _ why m2 h st) = absurd (weaving_free s.woven.board.phase wv h)
    one_end n s v w (quits k _ next seam wv c mv f) (over _ _ q) = absurd (subst IsWeaving q wv)
    one_end n s v w (quits k _ next seam wv c mv f) (weaves _ _ m2 next2 _ wv2 c2 ns2 mv2 rest2) = absurd (ns2 (one_move weaver s.woven m2 StopMove next2 next wv c2 c mv2 mv))
    one_end n s v w (quits k _ next seam wv c mv f) (quits _ _ next2 seam2 wv2 c2 mv2 f2) =
        ap (λ (x : SeamId). ended_values s (Refused x)) (same_seam seam seam2 (same_Some seam.0 seam2.0 (sym f ∙ f2)))
    one_end n s v w (quits k _ next seam wv c mv f) (asks _ _ st b l next2 _ q mv2 rest2) = absurd (subst IsWeaving q wv)
    one_end n s v w (quits k _ next seam wv c mv f) (steps _ _ way m2 next2 _ h st mv2 rest2) = absurd (weaving_free s.woven.board.phase wv h)
    one_end n s v w (quits k _ next seam wv c mv f) (halted _ _ why m2 h st) = absurd (weaving_free s.woven.board.phase wv h)
    one_end n s v w (asks k _ st a l next _ q mv rest) (over _ _ q2) = absurd (let clash : Asked st a l ≡ Over = sym q ∙ q2 in cc)
    one_end n s v w (asks k _ st a l next _ q mv rest) (weaves _ _ m2 next2 _ wv2 c2 ns2 mv2 rest2) = absurd (subst IsWeaving q wv2)
    one_end n s v w (asks k _ st a l next _ q mv rest) (quits _ _ next2 seam2 wv2 c2 mv2 f2) = absurd (subst IsWeaving q wv2)
    one_end n s v w (asks k _ st a l next _ q mv rest) (asks _ _ st2 a2 l2 next2 _ q2 mv2 rest2) =
        let e : answer p s.woven.board a s.tries ≡ answer p s.woven.board a2 s.tries = ap (λ x. answer p s.woven.board x s.tries) (same_asked st st2 a a2 l l2 (sym q ∙ q2)) in
        let f = next_by weaver s.woven (answer p s.woven.board a s.tries).0 (answer p s.woven.board a2 s.tries).0 next next2 (ap (λ x. x.0) e) mv mv2 in
        one_end n _ v w rest
        (subst (λ (x : State). Ends source p weaver n (record s { woven = x; tries = (answer p s.woven.board a s.tries).1 }) w) (sym f)
        (subst (λ x. Ends source p weaver n (record s { woven = next2; tries = x }) w) (sym (ap (λ x. x.1) e)) rest2))
    one_end n s v w (asks k _ st a l next _ q mv rest) (steps _ _ way m2 next2 _ h st2 mv2 rest2) = absurd (subst IsFree q h)
    one_end n s v w (asks k _ st a l next _ q mv rest) (halted _ _ why m2 h st2) = absurd (subst IsFree q h)
    one_end n s v w (steps k _ way m next _ h st mv rest) (over _ _ q2) = absurd (subst IsFree q2 h)
    one_end n s v w (steps k _ way m next _ h st mv rest) (weaves _ _ m2 next2 _ wv2 c2 ns2 mv2 rest2) = absurd (weaving_free s.woven.board.phase wv2 h)
    one_end n s v w (steps k _ way m next _ h st mv rest) (quits _ _ next2 seam2 wv2 c2 mv2 f2) = absurd (weaving_free s.woven.board.phase wv2 h)
    one_end n s v w (steps k _ way m next _ h st mv rest) (asks _ _ st2 a2 l2 next2 _ q2 mv2 rest2) = absurd (subst IsFree q2 h)
    one_end n s v w (steps k _ way m next _ h st mv rest) (steps _ _ way2 m2 next2 _ h2 st2 mv2 rest2) =
        let e = same_goes source p way way2 m m2 (sym st ∙ st2) in
        let f = next_by weaver s.woven (move_of way) (move_of way2) next next2 (ap move_of e.0) mv mv2 in
        one_end k _ v w rest
        (subst (λ (x : State). Ends source p weaver k (record s { woven = x; machine = m }) w) (sym f)
        (subst (λ (x : Machine). Ends source p weaver k (record s { woven = next2; machine = x }) w) (sym e.1) rest2))
    one_end n s v w (steps k _ way m next _ h st mv rest) (halted _ _ why m2 h2 st2) = absurd (let clash : goes way m ≡ halts why m2 = sym st ∙ st2 in cc)
    one_end n s v w (halted k _ why m h st) (over _ _ q2) = absurd (subst IsFree q2 h)
    one_end n s v w (halted k _ why m h st) (weaves _ _ m2 next2 _ wv2 c2 ns2 mv2 rest2) = absurd (weaving_free s.woven.board.phase wv2 h)
    one_end n s v w (halted k _ why m h st) (quits _ _ next2 seam2 wv2 c2 mv2 f2) = absurd (weaving_free s.woven.board.phase wv2 h)
    one_end n s v w (halted k _ why m h st) (asks _ _ st2 a2 l2 next2 _ q2 mv2 rest2) = absurd (subst IsFree q2 h)
    one_end n s v w (halted k _ why m h st) (steps _ _ way2 m2 next2 _ h2 st2 mv2 rest2) = absurd (let clash : halts why m ≡ goes way2 m2 = sym st ∙ st2 in cc)
    one_end n s v w (halted k _ why m h st) (halted _ _ why2 m2 h2 st2) =
        let e = same_halts source p why why2 m m2 (sym st ∙ st2) in
        ap (λ (x : Machine). record { made = x.made; tried = s.tried; stop = why }) e.1 ∙ ap (λ (x : Stop). record { made = m2.made; tried = s.tried; stop = x }) e.0

    from_once : (tries : List Move) (o : Outcome Done) (v w : Values) → RunsFrom source p weaver tries o v → RunsFrom source p weaver tries o w → v ≡ w
    from_once tries (stopped why m) v w h k = h ∙ sym k
    from_once tries (gives d m) v w h k = one_end most_steps (going_start source p weaver tries m) v w h k

pub one_run : OneRun
one_run weaver policy bytes file handed_in v w h k =
    let s = source_of bytes file handed_in in
    from_once s (problem_of policy bytes file) weaver handed_in.tries (begun s handed_in.calls) v w h k
