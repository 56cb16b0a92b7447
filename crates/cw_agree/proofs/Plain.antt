-- What a frame keeps of the file's values is all that tells the values of the woven run from those of the plain one.
use Rattle.std.proofs.Common.{◌≡◌, ℕ, ℤ, List, [], ◌∷◌, map, Bool, false, Option, Some, None, refl, sym, ap, ◌∙◌}
use Rattle.std.specs.Prelude.{unwrap_or}
use Rattle.cw_syntax.specs.declared.program.Name.{Name}
use Rattle.cw_syntax.specs.Names.{text}
use Rattle.cw_syntax.specs.Plans.{Plain, Break, Continue, Return, Open, Close, Call, Group, Label, If, While, Do, For}
use Rattle.cw_syntax.specs.Frames.{Item, Entry, Todo, Test, After, LoopEnd, End, Frame}
use Rattle.cw_value.specs.Stores.{Cell, Store}
use Rattle.cw_value.specs.Expressions.{Outcome, gives, stops, Target, OwnSpot, SharedSpot, Nothing, target_at, location_of}
use Rattle.cw_value.specs.Deeds.{Passing}
use Rattle.cw_value.specs.Machines.{Source, Locals, Machine, Step, goes, halts, step, step_by, within, by_outcome, deed_in, scope_in, function, memory, ends_in, call_in, back_by, back_to, result_by, taken_over, taken_by, form_in, whole_from}

-- the values without what frames keep of the file's
abbrev pub plain_locals : Locals → Locals
plain_locals l = record l { saved = None }

abbrev pub plain : Machine → Machine
plain m = record m { frames = map plain_locals m.frames }

abbrev pub plain_step : Step → Step
plain_step (goes way m) = goes way (plain m)
plain_step (halts x m) = halts x (plain m)

-- what a frame keeps of the file's values is what they are
abbrev pub SavedIs : Store → Option Store → Type 0
SavedIs g None = Unit {0}
SavedIs g (Some x) = x ≡ g

abbrev pub TopSaved : Store → List Locals → Type 0
TopSaved g [] = Unit {0}
TopSaved g (l ∷ ls) = SavedIs g l.saved

module _ (s : Source) where
  plain_taken : (at : ℕ) (t : Target) (z : ℤ) (caller : Locals) (rest : List Locals) (m : Machine)
      → taken_by at t z (plain_locals caller) (map plain_locals rest) (plain m) ≡ plain_step (taken_by at t z caller rest m)
  plain_taken at (OwnSpot p) z caller rest m = refl
  plain_taken at (SharedSpot p) z caller rest m = refl
  plain_taken at Nothing z caller rest m = refl

  plain_over : (at : ℕ) (x : Name) (c : Cell) (caller : Locals) (rest : List Locals) (m : Machine)
      → taken_over s at x c (plain_locals caller) (map plain_locals rest) (plain m) ≡ plain_step (taken_over s at x c caller rest m)
  plain_over at x None caller rest m = refl
  plain_over at x (Some z) caller rest m =
      plain_taken (whole_from at (form_in (function s caller.function) at)) (target_at (location_of (scope_in s (function s caller.function)) (text s.bytes x))) z caller rest m

  plain_result : (at : ℕ) (x : Option Name) (c : Cell) (caller : Locals) (rest : List Locals) (m : Machine)
      → result_by s at x c (plain_locals caller) (map plain_locals rest) (plain m) ≡ plain_step (result_by s at x c caller rest m)
  plain_result at None c caller rest m = refl
  plain_result at (Some x) c caller rest m = plain_over at x c caller rest m

  pub shared_back : (g : Store) (o : Option Store) → SavedIs g o → unwrap_or o g ≡ g
  shared_back g None h = refl
  shared_back g (Some x) h = h

  plain_by : (call : Option (ℕ × Option Name)) (top caller : Locals) (rest : List Locals) (m : Machine)
      → back_by s call (plain_locals top) (plain_locals caller) (map plain_locals rest) (plain m) ≡ plain_step (back_by s call top caller rest m)
  plain_by None top caller rest m = refl
  plain_by (Some call) top caller rest m = plain_result call.0 call.1 top.answer caller rest m

  plain_back : (call : Option (ℕ × Option Name)) (top : Locals) (rest : List Locals) (m : Machine) → SavedIs m.shared top.saved
      → back_to s call (plain_locals top) (map plain_locals rest) (plain m) ≡ plain_step (back_to s call top rest m)
  plain_back call top [] m h = refl
  plain_back call top (caller ∷ rest) m h =
      ap (λ (g : Store). back_by s call (plain_locals top) (plain_locals caller) (map plain_locals rest) (plain (record m { shared = g; frames = caller ∷ rest })))
      (sym (shared_back m.shared top.saved h))
      ∙ plain_by call top caller rest (record m { shared = unwrap_or top.saved m.shared; frames = caller ∷ rest })

  plain_ends : (frames : List Frame) (m : Machine) (ls : List Locals) → TopSaved m.shared ls → ends_in s frames (plain m) (map plain_locals ls) ≡ plain_step (ends_in s frames m ls)
  plain_ends [] m ls h = refl
  plain_ends (frame ∷ frames) m [] h = refl
  plain_ends (frame ∷ frames) m (l ∷ ls) h = plain_back (call_in frame) l ls m h

  plain_outcome : (split : Bool) (i : Item) (top : Locals) (rest : List Locals) (o : Outcome Passing)
      → by_outcome s false i (plain_locals top) (map plain_locals rest) o ≡ plain_step (by_outcome s split i top rest o)
  plain_outcome split i top rest (stops x k) = refl
  plain_outcome split (Entry f j) top rest (gives p k) = refl
  plain_outcome split (Test at d u b) top rest (gives p k) = refl
  plain_outcome split (After at) top rest (gives p k) = refl
  plain_outcome split LoopEnd top rest (gives p k) = refl
  plain_outcome split (End f) top rest (gives p k) = refl
  plain_outcome split (Todo (Plain at)) top rest (gives p k) = refl
  plain_outcome split (Todo (Break at)) top rest (gives p k) = refl
  plain_outcome split (Todo (Continue at)) top rest (gives p k) = refl
  plain_outcome split (Todo (Return at)) top rest (gives p k) = refl
  plain_outcome split (Todo (Open at j d)) top rest (gives p k) = refl
  plain_outcome split (Todo (Close at j d)) top rest (gives p k) = refl
  plain_outcome split (Todo (Call at j callee)) top rest (gives p k) = refl
  plain_outcome split (Todo (Group ss)) top rest (gives p k) = refl
  plain_outcome split (Todo (Label at mark j l b)) top rest (gives p k) = refl
  plain_outcome split (Todo (If at a b)) top rest (gives p k) = refl
  plain_outcome split (Todo (While at b)) top rest (gives p k) = refl
  plain_outcome split (Todo (Do at b)) top rest (gives p k) = refl
  plain_outcome split (Todo (For at init d u b)) top rest (gives p k) = refl

  plain_within : (split : Bool) (i : Item) (m : Machine) (ls : List Locals) → within s false i (plain m) (map plain_locals ls) ≡ plain_step (within s split i m ls)
  plain_within split i m [] = refl
  plain_within split i m (l ∷ ls) = plain_outcome split i l ls (deed_in (function s l.function) i (scope_in s (function s l.function)) (memory m l))

  plain_by_item : (split : Bool) (i : Item) (frames : List Frame) (m : Machine) → TopSaved m.shared m.frames → step_by s false i frames (plain m) ≡ plain_step (step_by s split i frames m)
  plain_by_item split (End f) frames m h = plain_ends frames m m.frames h
  plain_by_item split (Entry f j) frames m h = plain_within split (Entry f j) m m.frames
  plain_by_item split (Todo b) frames m h = plain_within split (Todo b) m m.frames
  plain_by_item split (Test at d u b) frames m h = plain_within split (Test at d u b) m m.frames
  plain_by_item split (After at) frames m h = plain_within split (After at) m m.frames
  plain_by_item split LoopEnd frames m h = plain_within split LoopEnd m m.frames

  -- a step is the same without what frames keep
  pub step_plain : (split : Bool) (stack : List Frame) (m : Machine) → TopSaved m.shared m.frames → step s false stack (plain m) ≡ plain_step (step s split stack m)
  step_plain split [] m h = refl
  step_plain split ([] ∷ frames) m h = refl
  step_plain split ((i ∷ is) ∷ frames) m h = plain_by_item split i frames m h
