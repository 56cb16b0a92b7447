-- Which moves a board has.
use Rattle.std.proofs.Common.{◌≡◌, ◌<◌, ◌≤◌, ℕ, zero, suc, ◌+◌, List, [], ◌∷◌, Bool, true, false, nat_lt, Option, Some, None, drop, map, length, get_or, refl, sym, ap, ap₂, ◌∙◌, arith}
use Rattle.std.proofs.Common.{add-one, drop-cons}
use Rattle.std.specs.Prelude.{option_map, is_some, slice_get}
use Rattle.std.proofs.lemmas.Bool.Decides.{nat_tests}
use Rattle.std.proofs.lemmas.Option.{none-some}
use Rattle.std.specs.declared.collections.VecDeque.{VecDeque}
use Rattle.std.specs.declared.alloc.Global.{Global}
use Rattle.cw_syntax.specs.declared.program.Function.{Function}
use Rattle.cw_syntax.specs.Trees.{definition_of}
use Rattle.cw_syntax.specs.Plans.{Scene, Plain, Break, Continue, Return, Open, Close, Call, Group, Label, If, While, Do, For, Plan, routines_from}
use Rattle.cw_syntax.specs.Frames.{Item, Entry, Todo, Test, After, LoopEnd, End, Frame, Way, broken, continued, pass, frame_of, new_frame}
use Rattle.cw_rights.specs.declared.capabilities.Caps.{Caps}
use Rattle.cw_rights.specs.declared.capabilities.Primitive.{Primitive}
use Rattle.cw_rights.specs.Policies.{PlainPolicy}
use Rattle.cw_boards.specs.declared.items.Item.{Item as Held}
use Rattle.cw_boards.specs.declared.turns.Way.{Way as HeldWay}
use Rattle.cw_boards.specs.declared.turns.Way.TheVariants.{On}
use Rattle.cw_model.specs.Boards.{Problem, Phase, Board, Weaver, Environment, landed, stepped, onward, turn_of as party_turn}
use Rattle.cw_boards.specs.declared.kinds.FrontKind.{FrontKind}
use Rattle.cw_boards.specs.declared.choices.Phase.{Phase as HeldPhase}
use Rattle.cw_boards.specs.Held.{refusing, primitives_at, phase_by, item_of, frame_in}
use Rattle.cw_boards.specs.Choices.{primitives_by}
use Rattle.cw_boards.specs.Changes.{may_turn, may_step}
use Rattle.cw_boards.proofs.Routines.{routine_at, routine_none}
use Rattle.cw_boards.proofs.Gets.{drop_none, drop_some}
use Rattle.cw_boards.proofs.Chosen.{primitives_are}
use Rattle.cw_boards.specs.Kinds.{item_kind, front_kind}
use Rattle.cw_boards.specs.Turns.{way_in, turn_of}

pub some_mapped : {A B : Type 0} (f : A → B) (o : Option A) → is_some (option_map f o) ≡ is_some o
some_mapped f None = refl
some_mapped f (Some x) = refl

pub may_is : (plan : Plan) (i : Item) (w : HeldWay) (is : Frame) (frames : List Frame) → is_some (pass plan ((i ∷ is) ∷ frames) (way_in w)) ≡ may_turn plan (turn_of (item_kind i) w) (i ∷ is) frames
may_is plan (Entry f j) On is frames = refl
may_is plan (Entry f j) _ is frames = refl
may_is plan (Todo (Plain at)) On is frames = refl
may_is plan (Todo (Plain at)) _ is frames = refl
may_is plan (Todo (Break at)) On is frames = some_mapped _ (broken is)
may_is plan (Todo (Break at)) _ is frames = refl
may_is plan (Todo (Continue at)) On is frames = some_mapped _ (continued is)
may_is plan (Todo (Continue at)) _ is frames = refl
may_is plan (Todo (Return at)) On is frames = refl
may_is plan (Todo (Return at)) _ is frames = refl
may_is plan (Todo (Open at j d)) On is frames = refl
may_is plan (Todo (Open at j d)) _ is frames = refl
may_is plan (Todo (Close at j d)) On is frames = refl
may_is plan (Todo (Close at j d)) _ is frames = refl
may_is plan (Todo (Call at j callee)) On is frames = some_mapped _ (frame_of plan callee.number)
may_is plan (Todo (Call at j callee)) _ is frames = refl
may_is plan (Todo (Group ss)) On is frames = refl
may_is plan (Todo (Group ss)) _ is frames = refl
may_is plan (Todo (Label at mark j l s)) On is frames = refl
may_is plan (Todo (Label at mark j l s)) _ is frames = refl
may_is plan (Todo (If at s t)) On is frames = refl
may_is plan (Todo (If at s t)) _ is frames = refl
may_is plan (Todo (While at s)) On is frames = refl
may_is plan (Todo (While at s)) _ is frames = refl
may_is plan (Todo (Do at s)) On is frames = refl
may_is plan (Todo (Do at s)) _ is frames = refl
may_is plan (Todo (For at init decided stepped s)) On is frames = refl
may_is plan (Todo (For at init decided stepped s)) _ is frames = refl
may_is plan (Test at true stepped s) On is frames = refl
may_is plan (Test at true stepped s) _ is frames = refl
may_is plan (Test at false stepped s) On is frames = refl
may_is plan (Test at false stepped s) _ is frames = refl
may_is plan (After at) On is frames = refl
may_is plan (After at) _ is frames = refl
may_is plan LoopEnd On is frames = refl
may_is plan LoopEnd _ is frames = refl
may_is plan (End f) On is frames = refl
may_is plan (End f) _ is frames = refl

pub first_is : {A : Type 0} (xs : List A) (x : A) → 0 < length xs → x ≡ get_or xs 0 x → xs ≡ x ∷ drop 1 xs
first_is [] x l e = absurd (omega arith)
first_is (y ∷ xs) x l e = ap (λ z. z ∷ xs) (sym e)

pub may_at : (plan : Plan) (s : Scene) (stack : List (VecDeque Held Global)) (frame : VecDeque Held Global) (item : Held) (w : HeldWay) → 0 < length stack → frame ≡ get_or stack 0 frame
    → 0 < length frame.items → item ≡ get_or frame.items 0 item
    → may_turn plan (turn_of (item_kind (item_of s item)) w) (frame_in s frame) (map (frame_in s) (drop 1 stack)) ≡ is_some (pass plan (map (frame_in s) stack) (way_in w))
may_at plan s stack frame item w l e k f =
    let a = first_is stack frame l e in
    let b : frame_in s frame ≡ item_of s item ∷ map (item_of s) (drop 1 frame.items) = ap (map (item_of s)) (first_is frame.items item k f) in
    ap (λ x. may_turn plan (turn_of (item_kind (item_of s item)) w) x (map (frame_in s) (drop 1 stack))) b
    ∙ sym (may_is plan (item_of s item) w (map (item_of s) (drop 1 frame.items)) (map (frame_in s) (drop 1 stack)))
    ∙ ap (λ x. is_some (pass plan (x ∷ map (frame_in s) (drop 1 stack)) (way_in w))) (sym b)
    ∙ ap (λ x. is_some (pass plan (map (frame_in s) x) (way_in w))) (sym a)

pub stepped_may : (p : Problem) (mode : Option Caps) (b : Board) (way : Option Way) → is_some (stepped p mode b way) ≡ may_step p b.stack way
stepped_may p mode b None = refl
stepped_may p mode b (Some way) = some_mapped (landed p mode b way) (pass p.plan b.stack way)

some_at : {A : Type 0} (xs : List A) (i : ℕ) → i < length xs → (x : A) × (x ≡ get_or xs i x)
some_at [] i l = absurd (omega arith)
some_at (y ∷ xs) zero l = (y, refl)
some_at (y ∷ xs) (suc i) l = some_at xs i (omega arith)

pub function_is : (s : Scene) (fs : List Function) (f : ℕ) → nat_lt f (length fs) ≡ is_some (option_map (new_frame f) (slice_get (routines_from s 0 (map definition_of fs)) f))
function_is s fs f = by (nat_lt f (length fs)) refl
  where
    by : (t : Bool) → nat_lt f (length fs) ≡ t → nat_lt f (length fs) ≡ is_some (option_map (new_frame f) (slice_get (routines_from s 0 (map definition_of fs)) f))
    by true t =
        let l : f < length fs = grind (arith, nat_tests) in
        let x = some_at fs f l in
        t ∙ sym (ap (λ o. is_some (option_map (new_frame f) o)) (routine_at s fs 0 f x.0 l x.1))
    by false t =
        let l : length fs ≤ f = grind (arith, nat_tests) in
        t ∙ sym (ap (λ o. is_some (option_map (new_frame f) o)) (routine_none s fs 0 f l))

-- a frame from one item on
pub from_here : {A : Type 0} (xs : List A) (i : ℕ) (x : A) → i < length xs → x ≡ get_or xs i x → drop i xs ≡ x ∷ drop (i + 1) xs
from_here xs i x l e = drop-cons xs i x l ∙ ap₂ (λ y ys. y ∷ ys) (sym e) (ap (λ n. drop n xs) (sym (add-one i)))

pub phase_by_kind : (policy : PlainPolicy) (stack : List Frame) (k : Option FrontKind) (held : HeldPhase) → k ≡ front_kind stack
    → phase_by (primitives_at policy stack) held ≡ phase_by (primitives_by policy k) held
phase_by_kind policy stack k held e = ap (λ l. phase_by l held) (primitives_are policy stack) ∙ ap (λ k. phase_by (primitives_by policy k) held) (sym e)

pub weavers_not : (all : List Primitive) (n : ℕ) (phase : Phase) → phase ≡ onward n (drop n all) → None ≡ slice_get all n → party_turn phase ≡ Some Weaver → ⊥
weavers_not all n phase e h w = let z : Some Environment ≡ Some Weaver = sym (ap (λ l. party_turn (onward n l)) (drop_none all n (sym h))) ∙ sym (ap party_turn e) ∙ w in absurd (cc)

pub weavers_are : (all : List Primitive) (n : ℕ) (a : Primitive) (phase : Phase) → phase ≡ onward n (drop n all) → Some a ≡ slice_get all n → party_turn phase ≡ Some Weaver
weavers_are all n a phase e h = ap party_turn e ∙ ap (λ l. party_turn (onward n l)) (drop_some all n a (sym h))

pub refused_not : (all : List Primitive) (n : ℕ) (phase : Phase) → phase ≡ refusing n (drop n all) → None ≡ slice_get all n → party_turn phase ≡ Some Weaver → ⊥
refused_not all n phase e h w = none-some Weaver (sym (ap (λ l. party_turn (refusing n l)) (drop_none all n (sym h))) ∙ sym (ap party_turn e) ∙ w)

pub refused_are : (all : List Primitive) (n : ℕ) (a : Primitive) (phase : Phase) → phase ≡ refusing n (drop n all) → Some a ≡ slice_get all n → party_turn phase ≡ Some Weaver
refused_are all n a phase e h = ap party_turn e ∙ ap (λ l. party_turn (refusing n l)) (drop_some all n a (sym h))
