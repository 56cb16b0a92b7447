-- Woven runs, whatever the table: they add no path, try seldom, and what is said of them is put end to end.
use Rattle.std.proofs.Common.{◌≡◌, ℕ, suc, ◌+◌, ◌≤◌, List, [], ◌∷◌, ◌++◌, map, length, Bool, true, false, cond, Some, None, refl, sym, ap, ap₂, ◌∙◌, subst, append_assoc, arith}
use Rattle.std.proofs.lemmas.Option.{none-some, same_Some, cond_some}
use Rattle.cw_rights.specs.declared.capabilities.Limit.{Limit as ALimit}
use Rattle.cw_rights.specs.declared.capabilities.Primitive.{Primitive}
use Rattle.cw_rights.specs.declared.capabilities.Primitive.TheVariants.{Limit, Enter, Split}
use Rattle.cw_rights.specs.Policies.{PlainPolicy, primitives}
use Rattle.cw_certs.specs.declared.moves.Move.{Move}
use Rattle.cw_certs.specs.declared.moves.Move.TheVariants.{Skip, Try, Grant, Refuse, Stop}
use Rattle.cw_certs.specs.Tables.{Table}
use Rattle.cw_syntax.specs.Plans.{Call, Label, Plan}
use Rattle.cw_syntax.specs.Frames.{Item, Entry, Todo, Frame, Way, pass, front, PathFrom}
use Rattle.cw_model.specs.Boards.{Problem, Phase, Visit, Asked, Refused, Free, FreeSplit, Over, Board, onward, begin, way_of, granted, refused, answered, moved}
use Rattle.cw_model.specs.Boards.{may_grant, may_refuse, can_stop, start_board}
use Rattle.cw_model.specs.Runs.{State, start_state, Goes, WovenRun, last, reached, passed_in, passed, erased, is_asked, tries, NeverStops}
use Rattle.cw_model.proofs.Moving.{granted_stack}
use Rattle.cw_game.proofs.Moves.{step_of}

-- End to end.
pub never_append : (p : Problem) (s : State) (run more : List State) → NeverStops p s run → NeverStops p (last s run) more → NeverStops p s (run ++ more)
never_append p s [] more h k = k
never_append p s (next ∷ run) more h k = (h.0, never_append p next run more h.1 k)

pub erased_append : (s : State) (run more : List State) → erased s (run ++ more) ≡ erased s run ++ erased (last s run) more
erased_append s [] more = refl
erased_append s (next ∷ run) more = ap (λ l. passed s ++ l) (erased_append next run more) ∙ sym (append_assoc (passed s) (erased next run) (erased (last next run) more))

-- a run that passes no item, and one that passes an item first
pub erased_join : (s : State) (run more : List State) (next : State) (i : Item) (items : List Item) → erased s run ≡ [] → passed (last s run) ≡ i ∷ [] → erased next more ≡ items
    → erased s (run ++ next ∷ more) ≡ i ∷ items
erased_join s run more next i items none one rest =
    ◌∙◌ {b = erased s run ++ (passed (last s run) ++ erased next more)} (erased_append s run (next ∷ more))
    (ap₂ (λ y z. y ++ z) none (ap₂ (λ y z. y ++ z) one rest))

-- No path is added.
front_is : (plan : Plan) (stack next : List Frame) (way : Way) → pass plan stack way ≡ Some next → (i : Item) × (front stack ≡ i ∷ [])
front_is plan [] next way e = absurd (none-some next e)
front_is plan ([] ∷ frames) next way e = absurd (none-some next e)
front_is plan ((i ∷ is) ∷ frames) next way e = (i, refl)

path_step : (plan : Plan) (stack next : List Frame) (way : Way) (is : List Item) → pass plan stack way ≡ Some next → PathFrom plan next is → PathFrom plan stack (front stack ++ is)
path_step plan stack next way is e h = let f = front_is plan stack next way e in subst (λ l. PathFrom plan stack (l ++ is)) (sym f.1) (way, next, f.1, e, h)

answered_stack : (p : Problem) (b next : Board) (i : ℕ) (a : Primitive) (later : List Primitive) (by : Move) → answered p b i a later by ≡ Some next → next.stack ≡ b.stack
answered_stack p b next i a later Grant e = ap (λ n. n.stack) (sym (cond_some (may_grant b.caps a) (granted b i a later) next e).1) ∙ granted_stack b i a later
answered_stack p b next i a later Refuse e = ap (λ n. n.stack) (sym (cond_some (may_refuse p.policy b.caps a) (refused p b i a later) next e).1)
answered_stack p b next i a later _ e = absurd (none-some next e)

path_back : (p : Problem) (b next : Board) (phase : Phase) (by : Move) (is : List Item) → moved p b phase by ≡ Some next → PathFrom p.plan next.stack is
    → PathFrom p.plan b.stack (passed_in phase b.stack ++ is)
path_back p b next (Visit i a later) Skip is e h = subst (λ n. PathFrom p.plan n.stack is) (sym (same_Some _ next e)) h
path_back p b next (Visit i a later) Try is e h = subst (λ n. PathFrom p.plan n.stack is) (sym (same_Some _ next e)) h
path_back p b next (Refused i a later) Skip is e h = subst (λ n. PathFrom p.plan n.stack is) (sym (same_Some _ next e)) h
path_back p b next (Refused i a later) Stop is e h = subst (λ n. PathFrom p.plan n.stack is) (sym (same_Some _ next e)) h
path_back p b next (Asked i a later) by is e h = subst (λ stack. PathFrom p.plan stack is) (answered_stack p b next i a later by e) h
path_back p b next Free by is e h =
    let w = step_of p None b next by (way_of by) refl e in
    path_step p.plan b.stack w.2.0 w.0 is w.2.1 (subst (λ n. PathFrom p.plan n.stack is) (sym w.2.2) h)
path_back p b next FreeSplit by is e h =
    let w = step_of p (Some b.caps) b next by (way_of by) refl e in
    path_step p.plan b.stack w.2.0 w.0 is w.2.1 (subst (λ n. PathFrom p.plan n.stack is) (sym w.2.2) h)
path_back p b next _ _ is e h = absurd (none-some next e)

pub path_of : (p : Problem) (t : Table) (s : State) (run : List State) → Goes p t s run → PathFrom p.plan s.board.stack (erased s run)
path_of p t s [] h = tt
path_of p t s (next ∷ run) h = path_back p s.board next.board s.board.phase h.0.0 (erased next run) h.0.1.0.1 (path_of p t next run h.1)

-- How many tries may come before the next item.
abbrev weight : Phase → ℕ
weight (Visit i a later) = suc (length later)
weight (Asked i a later) = length later
weight (Refused i a later) = length later
weight Free = 0
weight FreeSplit = 0
weight Over = 0

weight_onward : (i : ℕ) (later : List Primitive) → weight (onward i later) ≡ length later
weight_onward i [] = refl
weight_onward i (a ∷ later) = refl

asked_onward : (i : ℕ) (later : List Primitive) → is_asked (onward i later) ≡ 0
asked_onward i [] = refl
asked_onward i (a ∷ later) = refl

not_empty : {A : Type 0} (i : A) (l is : List A) → l ≡ i ∷ [] → l ++ is ≡ [] → ⊥
not_empty i l is e h = let f : i ∷ ([] ++ is) ≡ [] = sym (ap (λ k. k ++ is) e) ∙ h in cc

-- A phase that comes after these are passed.
few_phase : (phase : Phase) (i n : ℕ) (later : List Primitive) → onward i later ≡ phase → n ≤ weight phase → is_asked phase + n ≤ length later
few_phase phase i n later e le =
    let w = weight_onward i later in
    let a = asked_onward i later in
    subst (λ y. n ≤ weight y → is_asked y + n ≤ length later) e (λ l. omega (arith, w, a, l)) le

granted_few : (b : Board) (i n : ℕ) (a : Primitive) (later : List Primitive) → n ≤ weight (granted b i a later).phase → is_asked (granted b i a later).phase + n ≤ length later
granted_few b i n Split later le = omega (arith, le)
granted_few b i n a later le = few_phase (onward (suc i) later) (suc i) n later refl le

refused_few : (halts : Bool) (i n : ℕ) (a : Primitive) (later : List Primitive) → n ≤ weight (cond halts (Refused i a later) (onward (suc i) later))
    → is_asked (cond halts (Refused i a later) (onward (suc i) later)) + n ≤ length later
refused_few true i n a later le = omega (arith, le)
refused_few false i n a later le = few_phase (onward (suc i) later) (suc i) n later refl le

answered_few : (p : Problem) (b next : Board) (i n : ℕ) (a : Primitive) (later : List Primitive) (by : Move) → answered p b i a later by ≡ Some next → n ≤ weight next.phase
    → is_asked next.phase + n ≤ length later
answered_few p b next i n a later Grant e le =
    subst (λ y. n ≤ weight y.phase → is_asked y.phase + n ≤ length later) (cond_some (may_grant b.caps a) (granted b i a later) next e).1 (λ l. granted_few b i n a later l) le
answered_few p b next i n a later Refuse e le =
    subst (λ y. n ≤ weight y.phase → is_asked y.phase + n ≤ length later) (cond_some (may_refuse p.policy b.caps a) (refused p b i a later) next e).1
    (λ l. refused_few (can_stop p.policy b.caps a) i n a later l) le
answered_few p b next i n a later _ e le = absurd (none-some next e)

few_step : (p : Problem) (b next : Board) (phase : Phase) (by : Move) (is : List Item) (n : ℕ) → moved p b phase by ≡ Some next → passed_in phase b.stack ++ is ≡ []
    → (is ≡ [] → n ≤ weight next.phase) → is_asked next.phase + n ≤ weight phase
few_step p b next (Visit i a later) Skip is n e h k = let f = few_phase next.phase (suc i) n later (ap (λ y. y.phase) (same_Some _ next e)) (k h) in omega (arith, f)
few_step p b next (Visit i a later) Try is n e h k = let le = k h in subst (λ y. n ≤ weight y → is_asked y + n ≤ suc (length later)) (ap (λ y. y.phase) (same_Some _ next e)) (λ l. omega (arith, l)) le
few_step p b next (Refused i a later) Skip is n e h k = few_phase next.phase (suc i) n later (ap (λ y. y.phase) (same_Some _ next e)) (k h)
few_step p b next (Refused i a later) Stop is n e h k = let le = k h in subst (λ y. n ≤ weight y → is_asked y + n ≤ length later) (ap (λ y. y.phase) (same_Some _ next e)) (λ l. omega (arith, l)) le
few_step p b next (Asked i a later) by is n e h k = answered_few p b next i n a later by e (k h)
few_step p b next Free by is n e h k =
    let w = step_of p None b next by (way_of by) refl e in
    let f = front_is p.plan b.stack w.2.0 w.0 w.2.1 in
    absurd (not_empty f.0 (front b.stack) is f.1 h)
few_step p b next FreeSplit by is n e h k =
    let w = step_of p (Some b.caps) b next by (way_of by) refl e in
    let f = front_is p.plan b.stack w.2.0 w.0 w.2.1 in
    absurd (not_empty f.0 (front b.stack) is f.1 h)
few_step p b next _ _ is n e h k = absurd (none-some next e)

few_from : (p : Problem) (t : Table) (s : State) (run : List State) → Goes p t s run → erased s run ≡ [] → tries run ≤ weight s.board.phase
few_from p t s [] h e = omega arith
few_from p t s (next ∷ run) h e = few_step p s.board next.board s.board.phase h.0.0 (erased next run) (tries run) h.0.1.0.1 e (λ e'. few_from p t next run h.1 e')

limits_length : (limits : List ALimit) (rest : List Primitive) → length (map (λ limit. Limit limit) limits ++ rest) ≡ length limits + length rest
limits_length [] rest = omega arith
limits_length (l ∷ limits) rest = let e = limits_length limits rest in omega (arith, e)

last_length : (is_split : Bool) → length (Enter ∷ cond is_split (Split ∷ []) []) ≤ 2
last_length true = omega arith
last_length false = omega arith

front_weight : (policy : PlainPolicy) (i : ℕ) (is_split : Bool) → weight (onward i (primitives policy is_split)) ≤ length policy.limits + 2
front_weight policy i is_split =
    let w = weight_onward i (primitives policy is_split) in
    let n = limits_length policy.limits (Enter ∷ cond is_split (Split ∷ []) []) in
    let l = last_length is_split in
    omega (arith, w, n, l)

begin_weight : (policy : PlainPolicy) (stack : List Frame) → weight (begin policy stack) ≤ length policy.limits + 2
begin_weight policy [] = omega arith
begin_weight policy ([] ∷ frames) = omega arith
begin_weight policy ((Entry f j ∷ is) ∷ frames) = front_weight policy 0 false
begin_weight policy ((Todo (Label at mark j l s) ∷ is) ∷ frames) = front_weight policy 0 false
begin_weight policy ((Todo (Call at j callee) ∷ is) ∷ frames) = front_weight policy 0 callee.split
begin_weight policy (_ ∷ frames) = omega arith

granted_weight : (b : Board) (i : ℕ) (a : Primitive) (later : List Primitive) → weight (granted b i a later).phase ≤ length later
granted_weight b i Split later = omega arith
granted_weight b i a later = let w = weight_onward (suc i) later in omega (arith, w)

refused_weight : (halts : Bool) (i : ℕ) (a : Primitive) (later : List Primitive) → weight (cond halts (Refused i a later) (onward (suc i) later)) ≤ length later
refused_weight true i a later = omega arith
refused_weight false i a later = let w = weight_onward (suc i) later in omega (arith, w)

answered_weight : (p : Problem) (b next : Board) (i : ℕ) (a : Primitive) (later : List Primitive) (by : Move) → answered p b i a later by ≡ Some next → weight next.phase ≤ length later
answered_weight p b next i a later Grant e = subst (λ y. weight y.phase ≤ length later) (cond_some (may_grant b.caps a) (granted b i a later) next e).1 (granted_weight b i a later)
answered_weight p b next i a later Refuse e =
    subst (λ y. weight y.phase ≤ length later) (cond_some (may_refuse p.policy b.caps a) (refused p b i a later) next e).1 (refused_weight (can_stop p.policy b.caps a) i a later)
answered_weight p b next i a later _ e = absurd (none-some next e)

short_step : (p : Problem) (b next : Board) (phase : Phase) (by : Move) → moved p b phase by ≡ Some next → weight phase ≤ length p.policy.limits + 2 → weight next.phase ≤ length p.policy.limits + 2
short_step p b next (Visit i a later) Skip e h = let w = weight_onward (suc i) later in subst (λ y. weight y.phase ≤ length p.policy.limits + 2) (same_Some _ next e) (omega (arith, w, h))
short_step p b next (Visit i a later) Try e h = subst (λ y. weight y.phase ≤ length p.policy.limits + 2) (same_Some _ next e) (omega (arith, h))
short_step p b next (Refused i a later) Skip e h = let w = weight_onward (suc i) later in subst (λ y. weight y.phase ≤ length p.policy.limits + 2) (same_Some _ next e) (omega (arith, w, h))
short_step p b next (Refused i a later) Stop e h = subst (λ y. weight y.phase ≤ length p.policy.limits + 2) (same_Some _ next e) (omega arith)
short_step p b next (Asked i a later) by e h = let w = answered_weight p b next i a later by e in omega (arith, w, h)
short_step p b next Free by e h = let w = step_of p None b next by (way_of by) refl e in subst (λ y. weight y.phase ≤ length p.policy.limits + 2) w.2.2 (begin_weight p.policy w.2.0)
short_step p b next FreeSplit by e h = let w = step_of p (Some b.caps) b next by (way_of by) refl e in subst (λ y. weight y.phase ≤ length p.policy.limits + 2) w.2.2 (begin_weight p.policy w.2.0)
short_step p b next _ _ e h = absurd (none-some next e)

short : (p : Problem) (t : Table) (s : State) (run : List State) → Goes p t s run → weight s.board.phase ≤ length p.policy.limits + 2 → weight (last s run).board.phase ≤ length p.policy.limits + 2
short p t s [] h w = w
short p t s (next ∷ run) h w = short p t next run h.1 (short_step p s.board next.board s.board.phase h.0.0 h.0.1.0.1 w)

-- Between two steps of the program there are at most two tries more than the policy has limits.
pub few : (p : Problem) (t : Table) (run later : List State) → WovenRun p t run → Goes p t (reached p t run) later → erased (reached p t run) later ≡ [] → tries later ≤ length p.policy.limits + 2
few p t run later h k e =
    let f = few_from p t (reached p t run) later k e in
    let w = short p t (start_state p t) run h (begin_weight p.policy (start_board p).stack) in
    omega (arith, f, w)
