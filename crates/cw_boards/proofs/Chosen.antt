-- What a move does, by the choice that it makes.
use Rattle.std.proofs.Common.{◌≡◌, ℕ, suc, ◌+◌, List, [], ◌∷◌, ◌++◌, Bool, true, false, cond, Option, Some, None, drop, refl, sym, ap, ap₂, ◌∙◌, subst, add-one}
use Rattle.std.specs.Prelude.{slice_get}
use Rattle.cw_rights.specs.declared.capabilities.Caps.{Caps}
use Rattle.cw_rights.specs.declared.capabilities.Primitive.{Primitive}
use Rattle.cw_rights.specs.declared.capabilities.Primitive.TheVariants.{Limit, Enter, Split}
use Rattle.std.proofs.lemmas.Option.{none-some, same_Some}
use Rattle.cw_rights.specs.declared.words.Letter.{Letter}
use Rattle.cw_rights.specs.Capabilities.{applied}
use Rattle.cw_rights.specs.Policies.{PlainPolicy, IsBad}
use Rattle.cw_rights.specs.Words.{Word}
use Rattle.cw_certs.specs.declared.moves.Move.{Move}
use Rattle.cw_certs.specs.declared.moves.Move.TheVariants.{Skip, Try, Grant, Refuse, On, Left, Right, Opened, Failed, Stop}
use Rattle.cw_syntax.specs.Plans.{Plain, Break, Continue, Return, Open, Close, Call, Group, Label, If, While, Do, For}
use Rattle.cw_syntax.specs.Frames.{Item, Entry, Todo, Test, After, LoopEnd, End, Frame, Way}
use Rattle.cw_boards.specs.declared.kinds.FrontKind.{FrontKind}
use Rattle.cw_boards.specs.declared.choices.Phase.{Phase as HeldPhase}
use Rattle.cw_boards.specs.declared.choices.Phase.TheVariants.{Visit as HeldVisit, Asked as HeldAsked, Refused as HeldRefused, Split as HeldSplit, Over as HeldOver}
use Rattle.cw_boards.specs.declared.choices.Choice.{Choice}
use Rattle.cw_boards.specs.declared.choices.Choice.TheVariants.{Forbidden, To}
use Rattle.cw_model.specs.Boards.{Problem, Phase, Visit, Asked, Refused, Free, FreeSplit, Over, Board, primitives_in, onward, may_grant, may_refuse, can_stop, refused, stepped, moved}
use Rattle.cw_model.specs.Boards.{granted, kept_after, caps_after, letters, landed, begin, Violates}
use Rattle.cw_boards.specs.Kinds.{item_kind, front_kind}
use Rattle.cw_boards.specs.Held.{refusing, primitives_at, phase_by, asking}
use Rattle.cw_boards.specs.Choices.{refused_phase, refused_choice, primitives_by, choice_of, visit_choice, asked_choice, granted_choice, chosen}
use Rattle.cw_boards.specs.Changes.{kept_by, caps_by, letters_by, reached_letter}
use Rattle.cw_boards.proofs.Gets.{drop_none, drop_some}

-- the primitives at a front, by its kind
primitives_of : (policy : PlainPolicy) (i : Item) (is : Frame) → primitives_in policy (i ∷ is) ≡ primitives_by policy (Some (item_kind i))
primitives_of policy (Entry f j) is = refl
primitives_of policy (Todo (Plain at)) is = refl
primitives_of policy (Todo (Break at)) is = refl
primitives_of policy (Todo (Continue at)) is = refl
primitives_of policy (Todo (Return at)) is = refl
primitives_of policy (Todo (Open at j d)) is = refl
primitives_of policy (Todo (Close at j d)) is = refl
primitives_of policy (Todo (Call at j callee)) is = refl
primitives_of policy (Todo (Group ss)) is = refl
primitives_of policy (Todo (Label at mark j l s)) is = refl
primitives_of policy (Todo (If at s t)) is = refl
primitives_of policy (Todo (While at s)) is = refl
primitives_of policy (Todo (Do at s)) is = refl
primitives_of policy (Todo (For at init decided stepped s)) is = refl
primitives_of policy (Test at decided stepped s) is = refl
primitives_of policy (After at) is = refl
primitives_of policy LoopEnd is = refl
primitives_of policy (End f) is = refl

pub primitives_are : (policy : PlainPolicy) (stack : List Frame) → primitives_at policy stack ≡ primitives_by policy (front_kind stack)
primitives_are policy [] = refl
primitives_are policy ([] ∷ frames) = refl
primitives_are policy ((i ∷ is) ∷ frames) = primitives_of policy i is

-- the phase of the next stage
next_stage : (all : List Primitive) (stage : ℕ) → onward (suc stage) (drop (suc stage) all) ≡ phase_by all (HeldVisit (stage + 1))
next_stage all stage = ap (λ n. onward n (drop n all)) (sym (add-one stage))

-- in a visit
visited : (p : Problem) (b : Board) (stage : ℕ) (a : Primitive) (m : Move) → drop stage (primitives_at p.policy b.stack) ≡ a ∷ drop (suc stage) (primitives_at p.policy b.stack)
    → moved p b (Visit stage a (drop (suc stage) (primitives_at p.policy b.stack))) m ≡ chosen p b (visit_choice stage (Some a) m) m
visited p b stage a Skip e = ap (λ f. Some (record b { phase = f })) (next_stage (primitives_at p.policy b.stack) stage)
visited p b stage a Try e = ap (λ f. Some (record b { phase = f })) (sym (ap (asking stage) e))
visited p b stage a Grant e = refl
visited p b stage a Refuse e = refl
visited p b stage a On e = refl
visited p b stage a Left e = refl
visited p b stage a Right e = refl
visited p b stage a Opened e = refl
visited p b stage a Failed e = refl
visited p b stage a Stop e = refl

visit_at : (p : Problem) (b : Board) (stage : ℕ) (m : Move) (o : Option Primitive) → slice_get (primitives_at p.policy b.stack) stage ≡ o
    → moved p b (phase_by (primitives_at p.policy b.stack) (HeldVisit stage)) m ≡ chosen p b (visit_choice stage o m) m
visit_at p b stage m None e = ap (λ l. moved p b (onward stage l) m) (drop_none (primitives_at p.policy b.stack) stage e)
visit_at p b stage m (Some a) e =
    let d = drop_some (primitives_at p.policy b.stack) stage a e in
    ap (λ l. moved p b (onward stage l) m) d ∙ visited p b stage a m d

-- at a grant and a refusal
granted_is : (p : Problem) (b : Board) (stage : ℕ) (a : Primitive) → Some (granted b stage a (drop (suc stage) (primitives_at p.policy b.stack))) ≡ chosen p b (granted_choice a (stage + 1)) Grant
granted_is p b stage (Limit limit) = ap (λ f. Some (record b { caps = applied b.caps (Limit limit); phase = f })) (next_stage (primitives_at p.policy b.stack) stage)
granted_is p b stage Enter = ap (λ f. Some (record b { caps = applied b.caps Enter; phase = f })) (next_stage (primitives_at p.policy b.stack) stage)
granted_is p b stage Split = refl

grant_by : (p : Problem) (b : Board) (stage : ℕ) (a : Primitive) (t : Bool)
    → cond t (Some (granted b stage a (drop (suc stage) (primitives_at p.policy b.stack)))) None ≡ chosen p b (cond t (granted_choice a (stage + 1)) Forbidden) Grant
grant_by p b stage a true = granted_is p b stage a
grant_by p b stage a false = refl

refused_by : (p : Problem) (b : Board) (stage : ℕ) (a : Primitive) (t : Bool) → drop stage (primitives_at p.policy b.stack) ≡ a ∷ drop (suc stage) (primitives_at p.policy b.stack)
    → cond t (Refused stage a (drop (suc stage) (primitives_at p.policy b.stack))) (onward (suc stage) (drop (suc stage) (primitives_at p.policy b.stack)))
    ≡ phase_by (primitives_at p.policy b.stack) (refused_phase t stage)
refused_by p b stage a true e = sym (ap (refusing stage) e)
refused_by p b stage a false e = next_stage (primitives_at p.policy b.stack) stage

refuse_by : (p : Problem) (b : Board) (stage : ℕ) (a : Primitive) (t : Bool) → drop stage (primitives_at p.policy b.stack) ≡ a ∷ drop (suc stage) (primitives_at p.policy b.stack)
    → cond t (Some (refused p b stage a (drop (suc stage) (primitives_at p.policy b.stack)))) None ≡ chosen p b (cond t (To (refused_phase (can_stop p.policy b.caps a) stage)) Forbidden) Refuse
refuse_by p b stage a true e = ap (λ f. Some (record b { phase = f })) (refused_by p b stage a (can_stop p.policy b.caps a) e)
refuse_by p b stage a false e = refl

answered : (p : Problem) (b : Board) (stage : ℕ) (a : Primitive) (m : Move) → drop stage (primitives_at p.policy b.stack) ≡ a ∷ drop (suc stage) (primitives_at p.policy b.stack)
    → moved p b (Asked stage a (drop (suc stage) (primitives_at p.policy b.stack))) m ≡ chosen p b (asked_choice p.policy b.caps stage (Some a) m) m
answered p b stage a Grant e = grant_by p b stage a (may_grant b.caps a)
answered p b stage a Refuse e = refuse_by p b stage a (may_refuse p.policy b.caps a) e
answered p b stage a Skip e = refl
answered p b stage a Try e = refl
answered p b stage a On e = refl
answered p b stage a Left e = refl
answered p b stage a Right e = refl
answered p b stage a Opened e = refl
answered p b stage a Failed e = refl
answered p b stage a Stop e = refl

asked_at : (p : Problem) (b : Board) (stage : ℕ) (m : Move) (o : Option Primitive) → slice_get (primitives_at p.policy b.stack) stage ≡ o
    → moved p b (phase_by (primitives_at p.policy b.stack) (HeldAsked stage)) m ≡ chosen p b (asked_choice p.policy b.caps stage o m) m
asked_at p b stage m None e = ap (λ l. moved p b (asking stage l) m) (drop_none (primitives_at p.policy b.stack) stage e)
asked_at p b stage m (Some a) e =
    let d = drop_some (primitives_at p.policy b.stack) stage a e in
    ap (λ l. moved p b (asking stage l) m) d ∙ answered p b stage a m d

-- after a refusal
resumed : (p : Problem) (b : Board) (stage : ℕ) (a : Primitive) (m : Move)
    → moved p b (Refused stage a (drop (suc stage) (primitives_at p.policy b.stack))) m ≡ chosen p b (refused_choice stage (Some a) m) m
resumed p b stage a Skip = ap (λ f. Some (record b { phase = f })) (next_stage (primitives_at p.policy b.stack) stage)
resumed p b stage a Stop = refl
resumed p b stage a Try = refl
resumed p b stage a Grant = refl
resumed p b stage a Refuse = refl
resumed p b stage a On = refl
resumed p b stage a Left = refl
resumed p b stage a Right = refl
resumed p b stage a Opened = refl
resumed p b stage a Failed = refl

refused_at : (p : Problem) (b : Board) (stage : ℕ) (m : Move) (o : Option Primitive) → slice_get (primitives_at p.policy b.stack) stage ≡ o
    → moved p b (phase_by (primitives_at p.policy b.stack) (HeldRefused stage)) m ≡ chosen p b (refused_choice stage o m) m
refused_at p b stage m None e = ap (λ l. moved p b (refusing stage l) m) (drop_none (primitives_at p.policy b.stack) stage e)
refused_at p b stage m (Some a) e = ap (λ l. moved p b (refusing stage l) m) (drop_some (primitives_at p.policy b.stack) stage a e) ∙ resumed p b stage a m

pub moved_is : (p : Problem) (b : Board) (held : HeldPhase) (m : Move)
    → moved p b (phase_by (primitives_at p.policy b.stack) held) m ≡ chosen p b (choice_of p.policy (primitives_at p.policy b.stack) b.caps held m) m
moved_is p b (HeldVisit stage) m = visit_at p b stage m (slice_get (primitives_at p.policy b.stack) stage) refl
moved_is p b (HeldAsked stage) m = asked_at p b stage m (slice_get (primitives_at p.policy b.stack) stage) refl
moved_is p b (HeldRefused stage) m = refused_at p b stage m (slice_get (primitives_at p.policy b.stack) stage) refl
moved_is p b HeldSplit m = refl
moved_is p b HeldOver m = refl

-- what a step changes
kept_at : (mode : Option Caps) (i : Item) (is : Frame) (frames : List Frame) (kept : List (Option Caps)) → kept_after mode ((i ∷ is) ∷ frames) kept ≡ kept_by (item_kind i) mode kept
kept_at mode (Entry f j) is frames kept = refl
kept_at mode (Todo (Plain at)) is frames kept = refl
kept_at mode (Todo (Break at)) is frames kept = refl
kept_at mode (Todo (Continue at)) is frames kept = refl
kept_at mode (Todo (Return at)) is frames kept = refl
kept_at mode (Todo (Open at j d)) is frames kept = refl
kept_at mode (Todo (Close at j d)) is frames kept = refl
kept_at mode (Todo (Call at j callee)) is frames kept = refl
kept_at mode (Todo (Group ss)) is frames kept = refl
kept_at mode (Todo (Label at mark j l s)) is frames kept = refl
kept_at mode (Todo (If at s t)) is frames kept = refl
kept_at mode (Todo (While at s)) is frames kept = refl
kept_at mode (Todo (Do at s)) is frames kept = refl
kept_at mode (Todo (For at init decided stepped s)) is frames kept = refl
kept_at mode (Test at decided stepped s) is frames kept = refl
kept_at mode (After at) is frames kept = refl
kept_at mode LoopEnd is frames kept = refl
kept_at mode (End f) is frames [] = refl
kept_at mode (End f) is frames (k ∷ kept) = refl

caps_at : (policy : PlainPolicy) (i : Item) (is : Frame) (frames : List Frame) (kept : List (Option Caps)) (way : Way) (caps : Caps)
    → caps_after policy ((i ∷ is) ∷ frames) kept way caps ≡ caps_by policy (item_kind i) kept way caps
caps_at policy (Entry f j) is frames kept way caps = refl
caps_at policy (Todo (Plain at)) is frames kept way caps = refl
caps_at policy (Todo (Break at)) is frames kept way caps = refl
caps_at policy (Todo (Continue at)) is frames kept way caps = refl
caps_at policy (Todo (Return at)) is frames kept way caps = refl
caps_at policy (Todo (Open at j d)) is frames kept way caps = refl
caps_at policy (Todo (Close at j d)) is frames kept way caps = refl
caps_at policy (Todo (Call at j callee)) is frames kept way caps = refl
caps_at policy (Todo (Group ss)) is frames kept way caps = refl
caps_at policy (Todo (Label at mark j l s)) is frames kept way caps = refl
caps_at policy (Todo (If at s t)) is frames kept way caps = refl
caps_at policy (Todo (While at s)) is frames kept way caps = refl
caps_at policy (Todo (Do at s)) is frames kept way caps = refl
caps_at policy (Todo (For at init decided stepped s)) is frames kept way caps = refl
caps_at policy (Test at decided stepped s) is frames kept way caps = refl
caps_at policy (After at) is frames kept way caps = refl
caps_at policy LoopEnd is frames kept way caps = refl
caps_at policy (End f) is frames kept way caps = refl

letters_at : (i : Item) (is : Frame) (frames : List Frame) (caps : Caps) → letters ((i ∷ is) ∷ frames) caps ≡ letters_by (item_kind i) caps
letters_at (Entry f j) is frames caps = refl
letters_at (Todo (Plain at)) is frames caps = refl
letters_at (Todo (Break at)) is frames caps = refl
letters_at (Todo (Continue at)) is frames caps = refl
letters_at (Todo (Return at)) is frames caps = refl
letters_at (Todo (Open at j d)) is frames caps = refl
letters_at (Todo (Close at j d)) is frames caps = refl
letters_at (Todo (Call at j callee)) is frames caps = refl
letters_at (Todo (Group ss)) is frames caps = refl
letters_at (Todo (Label at mark j l s)) is frames caps = refl
letters_at (Todo (If at s t)) is frames caps = refl
letters_at (Todo (While at s)) is frames caps = refl
letters_at (Todo (Do at s)) is frames caps = refl
letters_at (Todo (For at init decided stepped s)) is frames caps = refl
letters_at (Test at decided stepped s) is frames caps = refl
letters_at (After at) is frames caps = refl
letters_at LoopEnd is frames caps = refl
letters_at (End f) is frames caps = refl

abbrev pub Changed : Problem → Board → Option Caps → Way → List Frame → FrontKind → Board
Changed p b mode way next k = record {
  stack = next;
  kept = kept_by k mode b.kept;
  caps = caps_by p.policy k b.kept way b.caps;
  word = b.word ++ letters_by k b.caps;
  phase = begin p.policy next;
}

landed_at : (p : Problem) (b : Board) (mode : Option Caps) (way : Way) (next : List Frame) (i : Item) (is : Frame) (frames : List Frame) → b.stack ≡ (i ∷ is) ∷ frames
    → landed p mode b way next ≡ Changed p b mode way next (item_kind i)
landed_at p b mode way next i is frames e =
    let k : kept_after mode b.stack b.kept ≡ kept_by (item_kind i) mode b.kept = ap (λ s. kept_after mode s b.kept) e ∙ kept_at mode i is frames b.kept in
    let c : caps_after p.policy b.stack b.kept way b.caps ≡ caps_by p.policy (item_kind i) b.kept way b.caps = ap (λ s. caps_after p.policy s b.kept way b.caps) e
    ∙ caps_at p.policy i is frames b.kept way b.caps in
    let l : letters b.stack b.caps ≡ letters_by (item_kind i) b.caps = ap (λ s. letters s b.caps) e ∙ letters_at i is frames b.caps in
    let f : List (Option Caps) → Caps → Word → Board = λ kept caps ls. record { stack = next; kept = kept; caps = caps; word = b.word ++ ls; phase = begin p.policy next } in
    ap₂ (λ x y. f x y (letters b.stack b.caps)) k c ∙ ap (λ z. f (kept_by (item_kind i) mode b.kept) (caps_by p.policy (item_kind i) b.kept way b.caps) z) l

pub landed_is : (p : Problem) (b : Board) (mode : Option Caps) (way : Way) (next : List Frame) (k : FrontKind) → front_kind b.stack ≡ Some k → landed p mode b way next ≡ Changed p b mode way next k
landed_is p b mode way next k h = by b.stack refl
  where
    by : (stack : List Frame) → b.stack ≡ stack → landed p mode b way next ≡ Changed p b mode way next k
    by [] e = absurd (none-some k (sym (ap front_kind e) ∙ h))
    by ([] ∷ frames) e = absurd (none-some k (sym (ap front_kind e) ∙ h))
    by ((i ∷ is) ∷ frames) e = landed_at p b mode way next i is frames e ∙ ap (Changed p b mode way next) (same_Some (item_kind i) k (sym (ap front_kind e) ∙ h))

-- violations
no_letter_at : (i : Item) (is : Frame) (frames : List Frame) (caps : Caps) → None ≡ reached_letter Free (Some (item_kind i)) caps → letters ((i ∷ is) ∷ frames) caps ≡ []
no_letter_at (Entry f j) is frames caps e = refl
no_letter_at (Todo (Plain at)) is frames caps e = refl
no_letter_at (Todo (Break at)) is frames caps e = refl
no_letter_at (Todo (Continue at)) is frames caps e = refl
no_letter_at (Todo (Return at)) is frames caps e = refl
no_letter_at (Todo (Open at j d)) is frames caps e = refl
no_letter_at (Todo (Close at j d)) is frames caps e = refl
no_letter_at (Todo (Call at j callee)) is frames caps e = refl
no_letter_at (Todo (Group ss)) is frames caps e = refl
no_letter_at (Todo (Label at mark j l s)) is frames caps e = absurd (cc)
no_letter_at (Todo (If at s t)) is frames caps e = refl
no_letter_at (Todo (While at s)) is frames caps e = refl
no_letter_at (Todo (Do at s)) is frames caps e = refl
no_letter_at (Todo (For at init decided stepped s)) is frames caps e = refl
no_letter_at (Test at decided stepped s) is frames caps e = refl
no_letter_at (After at) is frames caps e = refl
no_letter_at LoopEnd is frames caps e = refl
no_letter_at (End f) is frames caps e = refl

letter_at : (x : Letter) (i : Item) (is : Frame) (frames : List Frame) (caps : Caps) → Some x ≡ reached_letter Free (Some (item_kind i)) caps → letters ((i ∷ is) ∷ frames) caps ≡ x ∷ []
letter_at x (Entry f j) is frames caps e = absurd (cc)
letter_at x (Todo (Plain at)) is frames caps e = absurd (cc)
letter_at x (Todo (Break at)) is frames caps e = absurd (cc)
letter_at x (Todo (Continue at)) is frames caps e = absurd (cc)
letter_at x (Todo (Return at)) is frames caps e = absurd (cc)
letter_at x (Todo (Open at j d)) is frames caps e = absurd (cc)
letter_at x (Todo (Close at j d)) is frames caps e = absurd (cc)
letter_at x (Todo (Call at j callee)) is frames caps e = absurd (cc)
letter_at x (Todo (Group ss)) is frames caps e = absurd (cc)
letter_at x (Todo (Label at mark j l s)) is frames caps e = ap (λ y. y ∷ []) (same_Some (record { label = l; caps = caps }) x (sym e))
letter_at x (Todo (If at s t)) is frames caps e = absurd (cc)
letter_at x (Todo (While at s)) is frames caps e = absurd (cc)
letter_at x (Todo (Do at s)) is frames caps e = absurd (cc)
letter_at x (Todo (For at init decided stepped s)) is frames caps e = absurd (cc)
letter_at x (Test at decided stepped s) is frames caps e = absurd (cc)
letter_at x (After at) is frames caps e = absurd (cc)
letter_at x LoopEnd is frames caps e = absurd (cc)
letter_at x (End f) is frames caps e = absurd (cc)

no_letter : (stack : List Frame) (caps : Caps) → None ≡ reached_letter Free (front_kind stack) caps → letters stack caps ≡ []
no_letter [] caps e = refl
no_letter ([] ∷ frames) caps e = refl
no_letter ((i ∷ is) ∷ frames) caps e = no_letter_at i is frames caps e

the_letter : (x : Letter) (stack : List Frame) (caps : Caps) → Some x ≡ reached_letter Free (front_kind stack) caps → letters stack caps ≡ x ∷ []
the_letter x [] caps e = absurd (cc)
the_letter x ([] ∷ frames) caps e = absurd (cc)
the_letter x ((i ∷ is) ∷ frames) caps e = letter_at x i is frames caps e

pub violates_not : (p : Problem) (b : Board) → None ≡ reached_letter b.phase (front_kind b.stack) b.caps → Violates p b → ⊥
violates_not p b e v = v.1 (no_letter b.stack b.caps (e ∙ ap (λ f. reached_letter f (front_kind b.stack) b.caps) v.0))

reached_free : (x : Letter) (phase : Phase) (k : Option FrontKind) (caps : Caps) → Some x ≡ reached_letter phase k caps → phase ≡ Free
reached_free x (Visit stage a later) k caps e = absurd (cc)
reached_free x (Asked stage a later) k caps e = absurd (cc)
reached_free x (Refused stage a later) k caps e = absurd (cc)
reached_free x Free k caps e = refl
reached_free x FreeSplit k caps e = absurd (cc)
reached_free x Over k caps e = absurd (cc)

pub violates_where : (p : Problem) (b : Board) (x : Letter) → Some x ≡ reached_letter b.phase (front_kind b.stack) b.caps → (IsBad p.policy (b.word ++ x ∷ []) → Violates p b)
    × (Violates p b → IsBad p.policy (b.word ++ x ∷ []))
violates_where p b x e =
    let f = reached_free x b.phase (front_kind b.stack) b.caps e in
    let l = the_letter x b.stack b.caps (e ∙ ap (λ g. reached_letter g (front_kind b.stack) b.caps) f) in (
      λ bad. (f, (λ z. let q : x ∷ [] ≡ [] = sym l ∙ z in absurd (cc)), subst (λ ls. IsBad p.policy (b.word ++ ls)) (sym l) bad),
      λ v. subst (λ ls. IsBad p.policy (b.word ++ ls)) l v.2,
    )

pub changed_by : (p : Problem) (b : Board) (mode : Option Caps) (way : Way) (next : List Frame) (k : FrontKind) (kept : List (Option Caps)) (caps : Caps) (word : Word) (phase : Phase)
    → kept ≡ kept_by k mode b.kept → caps ≡ caps_by p.policy k b.kept way b.caps → word ≡ b.word ++ letters_by k b.caps → phase ≡ begin p.policy next
    → record { stack = next; kept = kept; caps = caps; word = word; phase = phase } ≡ Changed p b mode way next k
changed_by p b mode way next k kept caps word phase e f g h =
    let build : List (Option Caps) → Caps → Word → Phase → Board = λ ke ca wo ph. record { stack = next; kept = ke; caps = ca; word = wo; phase = ph } in
    ap₂ (λ x y. build x y word phase) e f ∙ ap₂ (λ x y. build (kept_by k mode b.kept) (caps_by p.policy k b.kept way b.caps) x y) g h

-- the same, by the kind of the front
pub letter_by_kind : (p : Problem) (b : Board) (o : Option Letter) (k : Option FrontKind) (held : HeldPhase) → k ≡ front_kind b.stack → b.phase ≡ phase_by (primitives_at p.policy b.stack) held
    → o ≡ reached_letter (phase_by (primitives_by p.policy k) held) k b.caps → o ≡ reached_letter b.phase (front_kind b.stack) b.caps
letter_by_kind p b o k held e f h =
    h ∙ ap (λ k. reached_letter (phase_by (primitives_by p.policy k) held) k b.caps) e
    ∙ ap (λ l. reached_letter (phase_by l held) (front_kind b.stack) b.caps) (sym (primitives_are p.policy b.stack))
    ∙ ap (λ g. reached_letter g (front_kind b.stack) b.caps) (sym f)

pub moved_by_kind : (p : Problem) (b : Board) (k : Option FrontKind) (held : HeldPhase) (m : Move) (c : Choice) → k ≡ front_kind b.stack
    → c ≡ choice_of p.policy (primitives_by p.policy k) b.caps held m → moved p b (phase_by (primitives_at p.policy b.stack) held) m ≡ chosen p b c m
moved_by_kind p b k held m c e f =
    moved_is p b held m
    ∙ ap (λ l. chosen p b (choice_of p.policy l b.caps held m) m) (primitives_are p.policy b.stack)
    ∙ ap (λ k. chosen p b (choice_of p.policy (primitives_by p.policy k) b.caps held m) m) (sym e)
    ∙ ap (λ d. chosen p b d m) (sym f)
