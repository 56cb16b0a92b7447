-- The steps of a stack are those of the table.
use Rattle.std.proofs.Common.{◌≡◌, ◌≢◌, ℕ, List, [], ◌∷◌, ◌++◌, Bool, true, false, Option, Some, None, refl, sym, ap, ap₂, ◌∙◌, subst, option_map}
use Rattle.std.proofs.lemmas.Option.{none-some, same_Some}
use Rattle.cw_syntax.specs.Plans.{Callee, Stm, Plain, Break, Continue, Return, Open, Close, Call, Group, Label, If, While, Do, For, Stms, Plan}
use Rattle.cw_syntax.specs.Frames.{Item, Entry, Todo, Test, After, LoopEnd, End, Frame, items_of, init_if, after_if, settle, broken, continued, ended, Way, On, Left, Right, Opened, Failed, after, popped, pushed, frame_of, pass, front}
use Rattle.cw_syntax.specs.Steps.{NoLoopEnd, NoTurn, IsTurn, Ends, no_items, an_end, an_entry, a_statement, a_test, a_step, a_loops_end, Passes, entry, plain, left, right, goes_in, goes_out, goes_on, step, break_out, continue_at, return_at, label, expanded, failed, close, Steps, within, call, returns, over, StepsAreTheTable}
use Rattle.cw_syntax.proofs.Settling.{settles, settles_to}

-- what a break, a continue and a return drop
broken_at : (rest behind : Frame) → broken rest ≡ Some behind → (before : Frame) × (before ++ LoopEnd ∷ behind ≡ rest) × NoLoopEnd before
broken_at [] behind e = absurd (none-some behind e)
broken_at (LoopEnd ∷ is) behind e = ([], ap (λ l. LoopEnd ∷ l) (sym (same_Some is behind e)), tt)
broken_at (Entry f j ∷ is) behind e = let h = broken_at is behind e in (Entry f j ∷ h.0, ap (λ l. Entry f j ∷ l) h.1, h.2)
broken_at (Todo s ∷ is) behind e = let h = broken_at is behind e in (Todo s ∷ h.0, ap (λ l. Todo s ∷ l) h.1, h.2)
broken_at (Test at d u s ∷ is) behind e = let h = broken_at is behind e in (Test at d u s ∷ h.0, ap (λ l. Test at d u s ∷ l) h.1, h.2)
broken_at (After at ∷ is) behind e = let h = broken_at is behind e in (After at ∷ h.0, ap (λ l. After at ∷ l) h.1, h.2)
broken_at (End f ∷ is) behind e = let h = broken_at is behind e in (End f ∷ h.0, ap (λ l. End f ∷ l) h.1, h.2)

broken_to : (before behind : Frame) → NoLoopEnd before → broken (before ++ LoopEnd ∷ behind) ≡ Some behind
broken_to [] behind h = refl
broken_to (LoopEnd ∷ is) behind h = absurd h
broken_to (Entry f j ∷ is) behind h = broken_to is behind h
broken_to (Todo s ∷ is) behind h = broken_to is behind h
broken_to (Test at d u s ∷ is) behind h = broken_to is behind h
broken_to (After at ∷ is) behind h = broken_to is behind h
broken_to (End f ∷ is) behind h = broken_to is behind h

continued_at : (rest behind : Frame) → continued rest ≡ Some behind → (before : Frame) × (before ++ behind ≡ rest) × NoTurn before × IsTurn behind
continued_at [] behind e = absurd (none-some behind e)
continued_at (Test at d u s ∷ is) behind e = ([], sym (same_Some (Test at d u s ∷ is) behind e), tt, subst IsTurn (same_Some (Test at d u s ∷ is) behind e) tt)
continued_at (After at ∷ is) behind e = ([], sym (same_Some (After at ∷ is) behind e), tt, subst IsTurn (same_Some (After at ∷ is) behind e) tt)
continued_at (Entry f j ∷ is) behind e = let h = continued_at is behind e in (Entry f j ∷ h.0, ap (λ l. Entry f j ∷ l) h.1, h.2, h.3)
continued_at (Todo s ∷ is) behind e = let h = continued_at is behind e in (Todo s ∷ h.0, ap (λ l. Todo s ∷ l) h.1, h.2, h.3)
continued_at (LoopEnd ∷ is) behind e = let h = continued_at is behind e in (LoopEnd ∷ h.0, ap (λ l. LoopEnd ∷ l) h.1, h.2, h.3)
continued_at (End f ∷ is) behind e = let h = continued_at is behind e in (End f ∷ h.0, ap (λ l. End f ∷ l) h.1, h.2, h.3)

turn_stays : (behind : Frame) → IsTurn behind → continued behind ≡ Some behind
turn_stays [] h = absurd h
turn_stays (Test at d u s ∷ is) h = refl
turn_stays (After at ∷ is) h = refl
turn_stays (Entry f j ∷ is) h = absurd h
turn_stays (Todo s ∷ is) h = absurd h
turn_stays (LoopEnd ∷ is) h = absurd h
turn_stays (End f ∷ is) h = absurd h

continued_to : (before behind : Frame) → NoTurn before → IsTurn behind → continued (before ++ behind) ≡ Some behind
continued_to [] behind h t = turn_stays behind t
continued_to (Test at d u s ∷ is) behind h t = absurd h
continued_to (After at ∷ is) behind h t = absurd h
continued_to (Entry f j ∷ is) behind h t = continued_to is behind h t
continued_to (Todo s ∷ is) behind h t = continued_to is behind h t
continued_to (LoopEnd ∷ is) behind h t = continued_to is behind h t
continued_to (End f ∷ is) behind h t = continued_to is behind h t

ends_of : (rest : Frame) → Ends rest (ended rest)
ends_of [] = no_items
ends_of (End f ∷ is) = an_end f is (ended is) (ends_of is)
ends_of (Entry f j ∷ is) = an_entry f j is (ended is) (ends_of is)
ends_of (Todo s ∷ is) = a_statement s is (ended is) (ends_of is)
ends_of (Test at d u s ∷ is) = a_test at d u s is (ended is) (ends_of is)
ends_of (After at ∷ is) = a_step at is (ended is) (ends_of is)
ends_of (LoopEnd ∷ is) = a_loops_end is (ended is) (ends_of is)

ended_is : (rest ends : Frame) → Ends rest ends → ended rest ≡ ends
ended_is _ _ no_items = refl
ended_is _ _ (an_end f is ends h) = ap (λ l. End f ∷ l) (ended_is is ends h)
ended_is _ _ (an_entry f j is ends h) = ended_is is ends h
ended_is _ _ (a_statement s is ends h) = ended_is is ends h
ended_is _ _ (a_test at d u s is ends h) = ended_is is ends h
ended_is _ _ (a_step at is ends h) = ended_is is ends h
ended_is _ _ (a_loops_end is ends h) = ended_is is ends h

to : (i : Item) (way : Way) (rest next raw : Frame) → Passes i way rest next → Some next ≡ Some raw → Passes i way rest raw
to i way rest next raw p e = subst (λ r. Passes i way rest r) (same_Some next raw e) p

break_passes : (at : ℕ) (rest raw : Frame) → broken rest ≡ Some raw → Passes (Todo (Break at)) On rest raw
break_passes at rest raw e = let h = broken_at rest raw e in subst (λ r. Passes (Todo (Break at)) On r raw) h.1 (break_out at h.0 raw h.2)

continue_passes : (at : ℕ) (rest raw : Frame) → continued rest ≡ Some raw → Passes (Todo (Continue at)) On rest raw
continue_passes at rest raw e = let h = continued_at rest raw e in subst (λ r. Passes (Todo (Continue at)) On r raw) h.1 (continue_at at h.0 raw h.2 h.3)

passes : (i : Item) (way : Way) (rest raw : Frame) → after i way rest ≡ Some raw → Passes i way rest raw
passes (Entry f j) On rest raw e = to (Entry f j) On rest rest raw (entry f j rest) e
passes (Todo (Plain at)) On rest raw e = to (Todo (Plain at)) On rest rest raw (plain at rest) e
passes (Todo (Break at)) On rest raw e = break_passes at rest raw e
passes (Todo (Continue at)) On rest raw e = continue_passes at rest raw e
passes (Todo (Return at)) On rest raw e = to (Todo (Return at)) On rest (ended rest) raw (return_at at rest (ended rest) (ends_of rest)) e
passes (Todo (Open at j d)) Opened rest raw e = to (Todo (Open at j d)) Opened rest rest raw (expanded at j d rest) e
passes (Todo (Open at j d)) Failed rest raw e = to (Todo (Open at j d)) Failed rest rest raw (failed at j d rest) e
passes (Todo (Close at j d)) On rest raw e = to (Todo (Close at j d)) On rest rest raw (close at j d rest) e
passes (Todo (Label at mark j l s)) On rest raw e = to (Todo (Label at mark j l s)) On rest (Todo s ∷ rest) raw (label at mark j l s rest) e
passes (Todo (If at s t)) Left rest raw e = to (Todo (If at s t)) Left rest (Todo s ∷ rest) raw (left at s t rest) e
passes (Todo (If at s t)) Right rest raw e = to (Todo (If at s t)) Right rest (Todo t ∷ rest) raw (right at s t rest) e
passes (Test at true u s) Left rest raw e = to (Test at true u s) Left rest (Todo s ∷ after_if u at (Test at true u s ∷ rest)) raw (goes_in at u s rest) e
passes (Test at true u s) Right rest raw e = to (Test at true u s) Right rest rest raw (goes_out at u s rest) e
passes (Test at false u s) On rest raw e = to (Test at false u s) On rest (Todo s ∷ after_if u at (Test at false u s ∷ rest)) raw (goes_on at u s rest) e
passes (After at) On rest raw e = to (After at) On rest rest raw (step at rest) e
passes _ _ _ raw e = absurd (none-some raw e)

passed : (i : Item) (way : Way) (rest raw : Frame) → Passes i way rest raw → after i way rest ≡ Some raw
passed _ _ _ _ (entry f j rest) = refl
passed _ _ _ _ (plain at rest) = refl
passed _ _ _ _ (left at s t rest) = refl
passed _ _ _ _ (right at s t rest) = refl
passed _ _ _ _ (goes_in at u s rest) = refl
passed _ _ _ _ (goes_out at u s rest) = refl
passed _ _ _ _ (goes_on at u s rest) = refl
passed _ _ _ _ (step at rest) = refl
passed _ _ _ _ (break_out at before behind h) = broken_to before behind h
passed _ _ _ _ (continue_at at before behind h t) = continued_to before behind h t
passed _ _ _ _ (return_at at rest ends h) = ap Some (ended_is rest ends h)
passed _ _ _ _ (label at mark j l s rest) = refl
passed _ _ _ _ (expanded at j d rest) = refl
passed _ _ _ _ (failed at j d rest) = refl
passed _ _ _ _ (close at j d rest) = refl

abbrev onto : List Frame → Option Frame → Option (List Frame)
onto frames raw = option_map (λ next. settle next ∷ frames) raw

-- within a frame a step goes by the item
same_pass : (plan : Plan) (i : Item) (way : Way) (rest raw : Frame) (frames : List Frame) → Passes i way rest raw → pass plan ((i ∷ rest) ∷ frames) way ≡ onto frames (after i way rest)
same_pass plan _ _ _ _ frames (entry f j rest) = refl
same_pass plan _ _ _ _ frames (plain at rest) = refl
same_pass plan _ _ _ _ frames (left at s t rest) = refl
same_pass plan _ _ _ _ frames (right at s t rest) = refl
same_pass plan _ _ _ _ frames (goes_in at u s rest) = refl
same_pass plan _ _ _ _ frames (goes_out at u s rest) = refl
same_pass plan _ _ _ _ frames (goes_on at u s rest) = refl
same_pass plan _ _ _ _ frames (step at rest) = refl
same_pass plan _ _ _ _ frames (break_out at before behind h) = refl
same_pass plan _ _ _ _ frames (continue_at at before behind h t) = refl
same_pass plan _ _ _ _ frames (return_at at rest ends h) = refl
same_pass plan _ _ _ _ frames (label at mark j l s rest) = refl
same_pass plan _ _ _ _ frames (expanded at j d rest) = refl
same_pass plan _ _ _ _ frames (failed at j d rest) = refl
same_pass plan _ _ _ _ frames (close at j d rest) = refl

pub first_is : (i k : Item) → i ∷ [] ≡ k ∷ [] → i ≡ k
first_is i k e = cc

module _ (plan : Plan) where
  in_frame : (i : Item) (way : Way) (rest : Frame) (frames next : List Frame) (o : Option Frame) → after i way rest ≡ o → onto frames o ≡ Some next → Steps plan ((i ∷ rest) ∷ frames) i way next
  in_frame i way rest frames next None e f = absurd (none-some next f)
  in_frame i way rest frames next (Some raw) e f = subst (λ n. Steps plan ((i ∷ rest) ∷ frames) i way n) (same_Some (settle raw ∷ frames) next f) (within i way rest raw (settle raw) frames (passes i way rest raw e) (settles raw))

  calls : (at j : ℕ) (callee : Callee) (rest : Frame) (frames next : List Frame) (o : Option Frame) → frame_of plan callee.number ≡ o → option_map (λ frame. frame ∷ ((Todo (Call at j callee) ∷ rest) ∷ frames)) o ≡ Some next → Steps plan ((Todo (Call at j callee) ∷ rest) ∷ frames) (Todo (Call at j callee)) On next
  calls at j callee rest frames next None e f = absurd (none-some next f)
  calls at j callee rest frames next (Some frame) e f = subst (λ n. Steps plan ((Todo (Call at j callee) ∷ rest) ∷ frames) (Todo (Call at j callee)) On n) (same_Some (frame ∷ ((Todo (Call at j callee) ∷ rest) ∷ frames)) next f) (call at j callee rest frame frames e)

  ends : (f : ℕ) (is : Frame) (frames next : List Frame) → popped frames ≡ Some next → Steps plan ((End f ∷ is) ∷ frames) (End f) On next
  ends f is [] next e = subst (λ n. Steps plan ((End f ∷ is) ∷ []) (End f) On n) (same_Some [] next e) (over f is)
  ends f is ([] ∷ frames) next e = absurd (none-some next e)
  ends f is ((i ∷ rest) ∷ frames) next e = subst (λ n. Steps plan ((End f ∷ is) ∷ ((i ∷ rest) ∷ frames)) (End f) On n) (same_Some (settle rest ∷ frames) next e) (returns f is i rest (settle rest) frames (settles rest))

  by_front : (i : Item) (way : Way) (rest : Frame) (frames next : List Frame) → pass plan ((i ∷ rest) ∷ frames) way ≡ Some next → Steps plan ((i ∷ rest) ∷ frames) i way next
  by_front (Todo (Call at j callee)) On rest frames next e = calls at j callee rest frames next (frame_of plan callee.number) refl e
  by_front (Todo (Call at j callee)) Left rest frames next e = absurd (none-some next e)
  by_front (Todo (Call at j callee)) Right rest frames next e = absurd (none-some next e)
  by_front (Todo (Call at j callee)) Opened rest frames next e = absurd (none-some next e)
  by_front (Todo (Call at j callee)) Failed rest frames next e = absurd (none-some next e)
  by_front (End f) On rest frames next e = ends f rest frames next e
  by_front (End f) Left rest frames next e = absurd (none-some next e)
  by_front (End f) Right rest frames next e = absurd (none-some next e)
  by_front (End f) Opened rest frames next e = absurd (none-some next e)
  by_front (End f) Failed rest frames next e = absurd (none-some next e)
  by_front i way rest frames next e = in_frame i way rest frames next (after i way rest) refl e

  steps : (stack next : List Frame) (i : Item) (way : Way) → front stack ≡ i ∷ [] → pass plan stack way ≡ Some next → Steps plan stack i way next
  steps [] next i way e f = absurd (none-some next f)
  steps ([] ∷ frames) next i way e f = absurd (none-some next f)
  steps ((k ∷ rest) ∷ frames) next i way e f = subst (λ n. Steps plan ((k ∷ rest) ∷ frames) n way next) (first_is k i e) (by_front k way rest frames next f)

  stepped : (stack next : List Frame) (i : Item) (way : Way) → Steps plan stack i way next → (front stack ≡ i ∷ []) × (pass plan stack way ≡ Some next)
  stepped _ _ _ _ (within i way rest raw next frames p s) =
      (refl, same_pass plan i way rest raw frames p ∙ ap (onto frames) (passed i way rest raw p) ∙ ap (λ n. Some (n ∷ frames)) (settles_to raw next s))
  stepped _ _ _ _ (call at j callee rest frame frames e) = (refl, ap (option_map (λ n. n ∷ ((Todo (Call at j callee) ∷ rest) ∷ frames))) e)
  stepped _ _ _ _ (returns f is caller rest next frames s) = (refl, ap (λ n. Some (n ∷ frames)) (settles_to rest next s))
  stepped _ _ _ _ (over f is) = (refl, refl)

pub tabled : StepsAreTheTable
tabled plan stack next i way = (λ h. steps plan stack next i way h.0 h.1, λ h. stepped plan stack next i way h)
