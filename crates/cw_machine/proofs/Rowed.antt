-- A step of an item is that of its row.
use Rattle.std.proofs.Common.{◌≡◌, ℕ, List, [], ◌∷◌, true, false, map, Option, Some, None, refl, sym, ap, ap₂, ◌∙◌, subst, drop, length, arith}
use Rattle.std.specs.Prelude.{unwrap_or}
use Rattle.cw_syntax.specs.declared.program.Name.{Name}
use Rattle.cw_syntax.specs.Trees.{Definition}
use Rattle.cw_syntax.specs.Plans.{Callee, Plain, Break, Continue, Return, Open, Close, Call, Group, Label, If, While, Do, For}
use Rattle.cw_syntax.specs.Frames.{Item, Entry, Todo, Test, After, LoopEnd, End, Frame, On}
use Rattle.cw_value.specs.Expressions.{Scope, Memory, Outcome, gives, stops}
use Rattle.cw_value.specs.Deeds.{Passing, does, deed_of}
use Rattle.cw_value.specs.Machines.{Source, Locals, Machine, Step, back_by, by_outcome, call_in, deed_in, function, goes, memory, scope_in, step_by, within}
use Rattle.cw_deeds.specs.declared.items.Row.{Row}
use Rattle.cw_deeds.specs.declared.items.Row.TheVariants as row
use Rattle.cw_deeds.specs.Rows.{row_of}
use Rattle.cw_machine.specs.declared.machine.Wait.{Wait}
use Rattle.cw_machine.specs.Knowing.{deed_for}
use Rattle.cw_machine.specs.Shown.{IsInnerRow, Waits, call_of, calls, calls_at, calls_by, locals_of, outcome_of, returns, stays, stays_at, stays_by}

-- neither a call nor an end
abbrev pub IsInner : Item → Type 0
IsInner (Todo (Call at j callee)) = ⊥
IsInner (End f) = ⊥
IsInner _ = Unit {0}

deed_is : (f : Definition) (i : Item) → deed_of f i ≡ deed_for (Some f) (row_of i)
deed_is f (Entry g j) = refl
deed_is f (Test at true u s) = refl
deed_is f (Test at false u s) = refl
deed_is f (After at) = refl
deed_is f LoopEnd = refl
deed_is f (End g) = refl
deed_is f (Todo (Plain at)) = refl
deed_is f (Todo (Break at)) = refl
deed_is f (Todo (Continue at)) = refl
deed_is f (Todo (Return at)) = refl
deed_is f (Todo (Open at j d)) = refl
deed_is f (Todo (Close at j d)) = refl
deed_is f (Todo (Call at j callee)) = refl
deed_is f (Todo (Group ss)) = refl
deed_is f (Todo (Label at mark j l s)) = refl
deed_is f (Todo (If at s t)) = refl
deed_is f (Todo (While at s)) = refl
deed_is f (Todo (Do at s)) = refl
deed_is f (Todo (For at init d u s)) = refl

does_row : (o : Option Definition) (i : Item) (sc : Scope) (m : Memory) → deed_in o i sc m ≡ does sc (deed_for o (row_of i)) m
does_row None i sc m = refl
does_row (Some f) i sc m = ap (λ d. does sc d m) (deed_is f i)

module _ (s : Source) where
  stays_outcome : (i : Item) (top : Locals) (rest : List Locals) (o : Outcome Passing) → IsInner i → by_outcome s false i top rest o ≡ stays_by s top rest o
  stays_outcome i top rest (stops x k) n = refl
  stays_outcome (Entry g j) top rest (gives p k) n = refl
  stays_outcome (Test at d u b) top rest (gives p k) n = refl
  stays_outcome (After at) top rest (gives p k) n = refl
  stays_outcome LoopEnd top rest (gives p k) n = refl
  stays_outcome (End f) top rest (gives p k) n = absurd n
  stays_outcome (Todo (Plain at)) top rest (gives p k) n = refl
  stays_outcome (Todo (Break at)) top rest (gives p k) n = refl
  stays_outcome (Todo (Continue at)) top rest (gives p k) n = refl
  stays_outcome (Todo (Return at)) top rest (gives p k) n = refl
  stays_outcome (Todo (Open at j d)) top rest (gives p k) n = refl
  stays_outcome (Todo (Close at j d)) top rest (gives p k) n = refl
  stays_outcome (Todo (Call at j callee)) top rest (gives p k) n = absurd n
  stays_outcome (Todo (Group ss)) top rest (gives p k) n = refl
  stays_outcome (Todo (Label at mark j l b)) top rest (gives p k) n = refl
  stays_outcome (Todo (If at a b)) top rest (gives p k) n = refl
  stays_outcome (Todo (While at b)) top rest (gives p k) n = refl
  stays_outcome (Todo (Do at b)) top rest (gives p k) n = refl
  stays_outcome (Todo (For at init d u b)) top rest (gives p k) n = refl

  stays_within : (i : Item) (m : Machine) (ls : List Locals) → IsInner i → within s false i m ls ≡ stays_at s (row_of i) m ls
  stays_within i m [] n = refl
  stays_within i m (top ∷ rest) n =
      ap (by_outcome s false i top rest) (does_row (function s top.function) i (scope_in s (function s top.function)) (memory m top))
      ∙ stays_outcome i top rest (outcome_of s (row_of i) m top) n

  -- an item that is neither a call nor an end
  pub inner_step : (i : Item) (frames : List Frame) (m : Machine) → IsInner i → step_by s false i frames m ≡ stays s (row_of i) m
  inner_step (End f) frames m n = absurd n
  inner_step (Entry g j) frames m n = stays_within (Entry g j) m m.frames n
  inner_step (Test at d u b) frames m n = stays_within (Test at d u b) m m.frames n
  inner_step (After at) frames m n = stays_within (After at) m m.frames n
  inner_step LoopEnd frames m n = stays_within LoopEnd m m.frames n
  inner_step (Todo b) frames m n = stays_within (Todo b) m m.frames n

  calls_outcome : (at j : ℕ) (callee : Callee) (top : Locals) (rest : List Locals) (o : Outcome Passing)
      → by_outcome s false (Todo (Call at j callee)) top rest o ≡ calls_by s callee.number top rest o
  calls_outcome at j callee top rest (stops x k) = refl
  calls_outcome at j callee top rest (gives p k) = refl

  calls_within : (at j : ℕ) (callee : Callee) (m : Machine) (ls : List Locals)
      → within s false (Todo (Call at j callee)) m ls ≡ calls_at s (row_of (Todo (Call at j callee))) callee.number m ls
  calls_within at j callee m [] = refl
  calls_within at j callee m (top ∷ rest) =
      let i = Todo (Call at j callee) in
      ap (by_outcome s false i top rest) (does_row (function s top.function) i (scope_in s (function s top.function)) (memory m top))
      ∙ calls_outcome at j callee top rest (outcome_of s (row_of i) m top)

  -- a call
  pub call_step : (at j : ℕ) (callee : Callee) (frames : List Frame) (m : Machine) → step_by s false (Todo (Call at j callee)) frames m ≡ calls s at callee.number callee.result m
  call_step at j callee frames m = calls_within at j callee m m.frames

  -- the end of the last frame, and the end of one with a call that waits
  pub last_end : (f : ℕ) (m : Machine) → step_by s false (End f) [] m ≡ goes On m
  last_end f m = refl

  pub end_step : (f : ℕ) (frame : Frame) (frames : List Frame) (w : Wait) (shown m : Machine) (top : Locals) (rest : List Locals) → call_in frame ≡ call_of w → top.saved ≡ None
      → m ≡ record shown { frames = top ∷ (locals_of w ∷ rest) } → step_by s false (End f) (frame ∷ frames) m ≡ returns s w (record shown { frames = top ∷ rest })
  end_step f frame frames w shown m top rest call none is =
      let below : Option _ → Option _ → Step = λ c saved. back_by s c top (locals_of w) rest (record shown { shared = unwrap_or saved shown.shared; frames = locals_of w ∷ rest }) in
      ap (step_by s false (End f) (frame ∷ frames)) is ∙ ap₂ below call none

-- ---- the item by its row

inner_of : (i : Item) → IsInnerRow (row_of i) → IsInner i
inner_of (Entry g j) h = tt
inner_of (Test at d u s) h = tt
inner_of (After at) h = tt
inner_of LoopEnd h = tt
inner_of (End g) h = h
inner_of (Todo (Plain at)) h = tt
inner_of (Todo (Break at)) h = tt
inner_of (Todo (Continue at)) h = tt
inner_of (Todo (Return at)) h = tt
inner_of (Todo (Open at j d)) h = tt
inner_of (Todo (Close at j d)) h = tt
inner_of (Todo (Call at j callee)) h = h
inner_of (Todo (Group ss)) h = tt
inner_of (Todo (Label at mark j l s)) h = tt
inner_of (Todo (If at s t)) h = tt
inner_of (Todo (While at s)) h = tt
inner_of (Todo (Do at s)) h = tt
inner_of (Todo (For at init d u s)) h = tt

-- a row that is neither a call's nor an end's
pub by_inner : (s : Source) (i : Item) (frames : List Frame) (m : Machine) (row : Row) → row_of i ≡ row → IsInnerRow row → stays s row m ≡ step_by s false i frames m
by_inner s i frames m row is inner = ap (λ r. stays s r m) (sym is) ∙ sym (inner_step s i frames m (inner_of i (subst IsInnerRow (sym is) inner)))

pub by_call : (s : Source) (i : Item) (frames : List Frame) (m : Machine) (at callee : ℕ) (x : Option Name) → row_of i ≡ row.Calls at callee x → calls s at callee x m ≡ step_by s false i frames m
by_call s (Entry g j) frames m at n x e = absurd (cc)
by_call s (Test at' true u b) frames m at n x e = absurd (cc)
by_call s (Test at' false u b) frames m at n x e = absurd (cc)
by_call s (After at') frames m at n x e = absurd (cc)
by_call s LoopEnd frames m at n x e = absurd (cc)
by_call s (End g) frames m at n x e = absurd (cc)
by_call s (Todo (Plain at')) frames m at n x e = absurd (cc)
by_call s (Todo (Break at')) frames m at n x e = absurd (cc)
by_call s (Todo (Continue at')) frames m at n x e = absurd (cc)
by_call s (Todo (Return at')) frames m at n x e = absurd (cc)
by_call s (Todo (Open at' j d)) frames m at n x e = absurd (cc)
by_call s (Todo (Close at' j d)) frames m at n x e = absurd (cc)
by_call s (Todo (Call at' j callee)) frames m at n x e =
    let a : at' ≡ at = cc in
    let b : callee.number ≡ n = cc in
    let c : callee.result ≡ x = cc in
    sym (ap (λ k. calls s k callee.number callee.result m) a ∙ ap (λ k. calls s at k callee.result m) b ∙ ap (λ k. calls s at n k m) c) ∙ sym (call_step s at' j callee frames m)
by_call s (Todo (Group ss)) frames m at n x e = absurd (cc)
by_call s (Todo (Label at' mark j l b)) frames m at n x e = absurd (cc)
by_call s (Todo (If at' a b)) frames m at n x e = absurd (cc)
by_call s (Todo (While at' b)) frames m at n x e = absurd (cc)
by_call s (Todo (Do at' b)) frames m at n x e = absurd (cc)
by_call s (Todo (For at' init d u b)) frames m at n x e = absurd (cc)

pub an_end : (i : Item) → row_of i ≡ row.Ends → (f : ℕ) × (i ≡ End f)
an_end (Entry g j) e = absurd (cc)
an_end (Test at true u b) e = absurd (cc)
an_end (Test at false u b) e = absurd (cc)
an_end (After at) e = absurd (cc)
an_end LoopEnd e = absurd (cc)
an_end (End g) e = (g, refl)
an_end (Todo (Plain at)) e = absurd (cc)
an_end (Todo (Break at)) e = absurd (cc)
an_end (Todo (Continue at)) e = absurd (cc)
an_end (Todo (Return at)) e = absurd (cc)
an_end (Todo (Open at j d)) e = absurd (cc)
an_end (Todo (Close at j d)) e = absurd (cc)
an_end (Todo (Call at j callee)) e = absurd (cc)
an_end (Todo (Group ss)) e = absurd (cc)
an_end (Todo (Label at mark j l b)) e = absurd (cc)
an_end (Todo (If at a b)) e = absurd (cc)
an_end (Todo (While at b)) e = absurd (cc)
an_end (Todo (Do at b)) e = absurd (cc)
an_end (Todo (For at init d u b)) e = absurd (cc)

no_frames : (frames : List Frame) → Waits frames [] → frames ≡ []
no_frames [] h = refl
no_frames (frame ∷ frames) h = absurd (cc)

-- the last frame ends
pub at_last : (s : Source) (i : Item) (frames : List Frame) (m : Machine) → row_of i ≡ row.Ends → Waits frames [] → goes On m ≡ step_by s false i frames m
at_last s i frames m e h =
    let f = an_end i e in
    sym (last_end s f.0 m) ∙ ap (λ fs. step_by s false (End f.0) fs m) (sym (no_frames frames h)) ∙ ap (λ x. step_by s false x frames m) (sym f.1)

ends_at : (s : Source) (f : ℕ) (frames : List Frame) (w : Wait) (later : List Wait) (m shown : Machine) (top : Locals) → Waits frames (w ∷ later) → top.saved ≡ None
    → m ≡ record shown { frames = top ∷ (locals_of w ∷ map locals_of later) } → step_by s false (End f) frames m ≡ returns s w (record shown { frames = top ∷ map locals_of later })
ends_at s f [] w later m shown top h none is = absurd (cc)
ends_at s f (frame ∷ frames) w later m shown top h none is =
    let call : call_in frame ≡ call_of w = cc in
    end_step s f frame frames w shown m top (map locals_of later) call none is

-- a frame ends whose call waits
pub at_back : (s : Source) (i : Item) (frames : List Frame) (w : Wait) (later : List Wait) (m shown : Machine) (top : Locals) → row_of i ≡ row.Ends → Waits frames (w ∷ later) → top.saved ≡ None
    → m ≡ record shown { frames = top ∷ (locals_of w ∷ map locals_of later) } → returns s w (record shown { frames = top ∷ map locals_of later }) ≡ step_by s false i frames m
at_back s i frames w later m shown top e h none is =
    let f = an_end i e in
    sym (ends_at s f.0 frames w later m shown top h none is) ∙ ap (λ x. step_by s false x frames m) (sym f.1)

-- where taking off the first changes nothing there is none
pub none_in : {A : Type 0} (xs : List A) → xs ≡ drop 1 xs → xs ≡ []
none_in [] e = refl
none_in (x ∷ xs) e = let n : length (x ∷ xs) ≡ length xs = ap length e in absurd (omega arith)
