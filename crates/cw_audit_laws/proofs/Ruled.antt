-- Plays in which the weaver always skips go side by side under policies with the same descriptors, labels and rules.
use Rattle.std.proofs.Common.{◌≡◌, ℕ, suc, List, [], ◌∷◌, ◌++◌, option_map, Option, Some, None, refl, sym, ap, ap₂, ◌∙◌, subst, ◌⊎◌, inl, inr}
use Rattle.std.specs.Prelude.{map, false}
use Rattle.std.proofs.lemmas.Option.{none-some, same_Some}
use Rattle.cw_lemmas.proofs.Options.{option_map_some}
use Rattle.cw_rights.specs.declared.capabilities.Caps.{Caps}
use Rattle.cw_rights.specs.declared.capabilities.Primitive.{Primitive}
use Rattle.cw_rights.specs.Policies.{PlainPolicy, PlainDescriptor, IsBad, start_caps}
use Rattle.cw_rights.specs.Words.{Word}
use Rattle.cw_certs.specs.declared.moves.Move.{Move}
use Rattle.cw_certs.specs.declared.moves.Move.TheVariants.{Skip}
use Rattle.cw_syntax.specs.Names.{Names}
use Rattle.cw_syntax.specs.Trees.{File}
use Rattle.cw_syntax.specs.Plans.{Stm, Plain, Break, Continue, Return, Open, Close, Call, Group, Label, If, While, Do, For, Plan, plan_of}
use Rattle.cw_syntax.specs.Frames.{Entry, Todo, Test, After, LoopEnd, End, Frame, Way, pass, start_stack}
use Rattle.cw_syntax.specs.Frames.{Opened as OpenedWay}
use Rattle.cw_resolve.specs.Scenes.{names_of}
use Rattle.cw_model.specs.Boards.{Problem, problem_of, Phase, Visit, Free, Over, Board, primitives_in, onward, begin, letters, start_board, Violates, way_of}
use Rattle.cw_model.specs.Boards.{kept_after, caps_after, landed, stepped, passed_by, moved, Moves, turn_of, Environment}
use Rattle.cw_audit_table.specs.Plays.{Played, begins, skips, goes, IsViolating, IsVerdict, IsUnasked}
use Rattle.cw_audit_table.proofs.Plays.{nothing_is_asked}
use Rattle.cw_audit_laws.specs.Ruling.{HaveSameRules, AreViolatedAlike, AuditsSeeRulesAlone}
use Rattle.cw_audit_laws.proofs.Unsplit.{whole_plan, whole_stack, unsplit, plan_whole, pass_whole, start_whole}

-- ---- what a step sees of a policy and of a stack

-- the policy, but for what no such play sees
abbrev seen : PlainPolicy → PlainPolicy
seen x = record {
  descriptors = x.descriptors;
  limits = [];
  refuse_limit = false;
  refuse_enter = false;
  refuse_split = false;
  split = [];
  labels = x.labels;
  rules = x.rules;
  stop = false;
  format = 2;
  detached = [];
}

module _ (x : PlainPolicy) where
  abbrev CapsSeen : List Frame → List (Option Caps) → Way → Caps → Type 0
  CapsSeen stack kept way caps = caps_after x stack kept way caps ≡ caps_after (seen x) (whole_stack stack) kept way caps

  caps_stm : (s : Stm) (is : Frame) (frames : List Frame) (kept : List (Option Caps)) (way : Way) (caps : Caps) → CapsSeen ((Todo s ∷ is) ∷ frames) kept way caps
  caps_stm (Open at j d) is frames kept OpenedWay caps = refl
  caps_stm (Open at j d) is frames kept _ caps = refl
  caps_stm (Close at j d) is frames kept way caps = refl
  caps_stm (Plain at) is frames kept way caps = refl
  caps_stm (Break at) is frames kept way caps = refl
  caps_stm (Continue at) is frames kept way caps = refl
  caps_stm (Return at) is frames kept way caps = refl
  caps_stm (Call at j callee) is frames kept way caps = refl
  caps_stm (Group ss) is frames kept way caps = refl
  caps_stm (Label at mark j l s) is frames kept way caps = refl
  caps_stm (If at s t) is frames kept way caps = refl
  caps_stm (While at s) is frames kept way caps = refl
  caps_stm (Do at s) is frames kept way caps = refl
  caps_stm (For at init decided stepped s) is frames kept way caps = refl

  caps_seen : (stack : List Frame) (kept : List (Option Caps)) (way : Way) (caps : Caps) → CapsSeen stack kept way caps
  caps_seen [] kept way caps = refl
  caps_seen ([] ∷ frames) kept way caps = refl
  caps_seen ((Todo s ∷ is) ∷ frames) kept way caps = caps_stm s is frames kept way caps
  caps_seen ((End f ∷ is) ∷ frames) kept way caps = refl
  caps_seen ((Entry f j ∷ is) ∷ frames) kept way caps = refl
  caps_seen ((Test at decided stepped s ∷ is) ∷ frames) kept way caps = refl
  caps_seen ((After at ∷ is) ∷ frames) kept way caps = refl
  caps_seen ((LoopEnd ∷ is) ∷ frames) kept way caps = refl

kept_stm : (s : Stm) (is : Frame) (frames : List Frame) (kept : List (Option Caps)) → kept_after None ((Todo s ∷ is) ∷ frames) kept ≡ kept_after None (whole_stack ((Todo s ∷ is) ∷ frames)) kept
kept_stm (Call at j callee) is frames kept = refl
kept_stm (Open at j d) is frames kept = refl
kept_stm (Close at j d) is frames kept = refl
kept_stm (Plain at) is frames kept = refl
kept_stm (Break at) is frames kept = refl
kept_stm (Continue at) is frames kept = refl
kept_stm (Return at) is frames kept = refl
kept_stm (Group ss) is frames kept = refl
kept_stm (Label at mark j l s) is frames kept = refl
kept_stm (If at s t) is frames kept = refl
kept_stm (While at s) is frames kept = refl
kept_stm (Do at s) is frames kept = refl
kept_stm (For at init decided stepped s) is frames kept = refl

kept_seen : (stack : List Frame) (kept : List (Option Caps)) → kept_after None stack kept ≡ kept_after None (whole_stack stack) kept
kept_seen [] kept = refl
kept_seen ([] ∷ frames) kept = refl
kept_seen ((Todo s ∷ is) ∷ frames) kept = kept_stm s is frames kept
kept_seen ((End f ∷ is) ∷ frames) [] = refl
kept_seen ((End f ∷ is) ∷ frames) (k ∷ kept) = refl
kept_seen ((Entry f j ∷ is) ∷ frames) kept = refl
kept_seen ((Test at decided stepped s ∷ is) ∷ frames) kept = refl
kept_seen ((After at ∷ is) ∷ frames) kept = refl
kept_seen ((LoopEnd ∷ is) ∷ frames) kept = refl

letters_stm : (s : Stm) (is : Frame) (frames : List Frame) (caps : Caps) → letters ((Todo s ∷ is) ∷ frames) caps ≡ letters (whole_stack ((Todo s ∷ is) ∷ frames)) caps
letters_stm (Label at mark j l s) is frames caps = refl
letters_stm (Call at j callee) is frames caps = refl
letters_stm (Open at j d) is frames caps = refl
letters_stm (Close at j d) is frames caps = refl
letters_stm (Plain at) is frames caps = refl
letters_stm (Break at) is frames caps = refl
letters_stm (Continue at) is frames caps = refl
letters_stm (Return at) is frames caps = refl
letters_stm (Group ss) is frames caps = refl
letters_stm (If at s t) is frames caps = refl
letters_stm (While at s) is frames caps = refl
letters_stm (Do at s) is frames caps = refl
letters_stm (For at init decided stepped s) is frames caps = refl

letters_seen : (stack : List Frame) (caps : Caps) → letters stack caps ≡ letters (whole_stack stack) caps
letters_seen [] caps = refl
letters_seen ([] ∷ frames) caps = refl
letters_seen ((Todo s ∷ is) ∷ frames) caps = letters_stm s is frames caps
letters_seen ((End f ∷ is) ∷ frames) caps = refl
letters_seen ((Entry f j ∷ is) ∷ frames) caps = refl
letters_seen ((Test at decided stepped s ∷ is) ∷ frames) caps = refl
letters_seen ((After at ∷ is) ∷ frames) caps = refl
letters_seen ((LoopEnd ∷ is) ∷ frames) caps = refl

no_front : (stack : List Frame) (caps : Caps) → stack ≡ [] → letters stack caps ≡ []
no_front [] caps e = refl
no_front (frame ∷ frames) caps e = cc

-- ---- a play comes to rest

-- the same stack, kept capabilities, capabilities and word
record IsStill (b c : Board) : Type 0 where
  pub stack : c.stack ≡ b.stack
  pub kept : c.kept ≡ b.kept
  pub caps : c.caps ≡ b.caps
  pub word : c.word ≡ b.word

abbrev IsAtRest : Board → Type 0
IsAtRest b = (b.phase ≡ Free) ⊎ (b.stack ≡ [])

module _ (q : Problem) (ms : List Move) where
  rest_onward : (later : List Primitive) (stage : ℕ) (c : Board) → Played q ms c → c.phase ≡ onward stage later → (d : Board) × Played q ms d × IsStill c d × (d.phase ≡ Free)
  rest_onward [] stage c play e = (c, play, record { stack = refl; kept = refl; caps = refl; word = refl }, e)
  rest_onward (a ∷ later) stage c play e =
      let calm : Violates q c → ⊥ = λ (v : Violates q c). let z : Visit stage a later ≡ Free = sym e ∙ v.0 in cc in
      let w = rest_onward later (suc stage) (passed_by c stage later) (skips ms c (passed_by c stage later) play (calm, ap (λ x. moved q c x Skip) e)) refl in
      (w.0, w.1, record { stack = w.2.stack; kept = w.2.kept; caps = w.2.caps; word = w.2.word }, w.3)

  begin_rest : (c : Board) → Played q ms c → c.phase ≡ begin q.policy c.stack → (d : Board) × Played q ms d × IsStill c d × IsAtRest d
  begin_rest c play e = by c.stack refl e
    where
      by : (stack : List Frame) → c.stack ≡ stack → c.phase ≡ begin q.policy stack → (d : Board) × Played q ms d × IsStill c d × IsAtRest d
      by [] es ep = (c, play, record { stack = refl; kept = refl; caps = refl; word = refl }, inr es)
      by (frame ∷ frames) es ep = let w = rest_onward (primitives_in q.policy frame) 0 c play ep in (w.0, w.1, w.2, inl w.3)

-- ---- side by side

-- The same steps, and the same of the policies that is seen.
record AreLike (p q : Problem) : Type 0 where
  pub plans : whole_plan p.plan ≡ whole_plan q.plan
  pub policies : seen p.policy ≡ seen q.policy

record IsTwin (b c : Board) : Type 0 where
  pub stack : whole_stack b.stack ≡ whole_stack c.stack
  pub kept : b.kept ≡ c.kept
  pub caps : b.caps ≡ c.caps
  pub word : b.word ≡ c.word

still_twin : (b c d : Board) → IsTwin b c → IsStill c d → IsTwin b d
still_twin b c d t s = record { stack = t.stack ∙ ap whole_stack (sym s.stack); kept = t.kept ∙ sym s.kept; caps = t.caps ∙ sym s.caps; word = t.word ∙ sym s.word }

module _ (p q : Problem) (like : AreLike p q) where
  caps_like : (s t : List Frame) (kept : List (Option Caps)) (way : Way) (caps : Caps) → whole_stack s ≡ whole_stack t → caps_after p.policy s kept way caps ≡ caps_after q.policy t kept way caps
  caps_like s t kept way caps e =
      caps_seen p.policy s kept way caps
      ∙ ap₂ (λ (x : PlainPolicy) (stack : List Frame). caps_after x stack kept way caps) like.policies e
      ∙ sym (caps_seen q.policy t kept way caps)

  letters_like : (s t : List Frame) (a b : Caps) → whole_stack s ≡ whole_stack t → a ≡ b → letters s a ≡ letters t b
  letters_like s t a b e f = letters_seen s a ∙ ap₂ (λ (stack : List Frame) (caps : Caps). letters stack caps) e f ∙ sym (letters_seen t b)

  bad_like : (v w : Word) → v ≡ w → IsBad p.policy v → IsBad q.policy w
  bad_like v w e bad =
      let there : IsBad (seen q.policy) v = subst (λ (x : PlainPolicy). IsBad x v) like.policies bad in
      subst (IsBad q.policy) e there

  violates_like : (b c : Board) → IsTwin b c → c.phase ≡ Free → Violates p b → Violates q c
  violates_like b c t free v =
      let l = letters_like b.stack c.stack b.caps c.caps t.stack t.caps in
      (free, (λ e. v.1 (l ∙ e)), bad_like (b.word ++ letters b.stack b.caps) (c.word ++ letters c.stack c.caps) (ap₂ (λ (x y : Word). x ++ y) t.word l) v.2)

  passes_like : (s t next : List Frame) (way : Way) → whole_stack s ≡ whole_stack t → pass p.plan s way ≡ Some next
      → (other : List Frame) × (pass q.plan t way ≡ Some other) × (whole_stack other ≡ whole_stack next)
  passes_like s t next way e l =
      let here : pass (whole_plan p.plan) (whole_stack s) way ≡ Some (whole_stack next) = sym (pass_whole p.plan s way) ∙ ap (option_map whole_stack) l in
      let there : pass (whole_plan q.plan) (whole_stack t) way ≡ Some (whole_stack next) =
      sym (ap₂ (λ (plan : Plan) (stack : List Frame). pass plan stack way) like.plans e) ∙ here in
      option_map_some whole_stack (pass q.plan t way) (whole_stack next) (pass_whole q.plan t way ∙ there)

  landed_twin : (b c : Board) (way : Way) (next other : List Frame) → IsTwin b c → whole_stack other ≡ whole_stack next → IsTwin (landed p None b way next) (landed q None c way other)
  landed_twin b c way next other t e = record {
    stack = sym e;
    kept = kept_seen b.stack b.kept ∙ ap₂ (λ (stack : List Frame) (kept : List (Option Caps)). kept_after None stack kept) t.stack t.kept ∙ sym (kept_seen c.stack c.kept);
    caps = caps_like b.stack c.stack b.kept way b.caps t.stack ∙ ap₂ (λ (kept : List (Option Caps)) (caps : Caps). caps_after q.policy c.stack kept way caps) t.kept t.caps;
    word = ap₂ (λ (x y : Word). x ++ y) t.word (letters_like b.stack c.stack b.caps c.caps t.stack t.caps);
  }

  -- what a skip leaves is the twin still
  skip_twin : (b next c : Board) (phase : Phase) → IsUnasked phase → moved p b phase Skip ≡ Some next → IsTwin b c → IsTwin next c
  skip_twin b next c (Visit stage a later) u e t =
      subst (λ n. IsTwin n c) (same_Some (passed_by b stage later) next e) (record { stack = t.stack; kept = t.kept; caps = t.caps; word = t.word })
  skip_twin b next c Free u e t = absurd (none-some next e)
  skip_twin b next c Over u e t = absurd (none-some next e)
  skip_twin b next c _ u e t = absurd u

  free_in : (b : Board) (phase : Phase) → IsUnasked phase → turn_of phase ≡ Some Environment → phase ≡ Free
  free_in b Free u t = refl
  free_in b (Visit stage a later) u t = let z = same_Some _ _ t in cc
  free_in b Over u t = absurd (none-some _ t)
  free_in b _ u t = absurd u

  -- the play beside it, at rest
  abbrev Beside : List Move → Board → Type 0
  Beside ms b = (c : Board) × Played q ms c × IsTwin b c × IsAtRest c

  step_by : (ms : List Move) (b next : Board) (by : Move) (o : Option Way) → way_of by ≡ o → Beside ms b → b.phase ≡ Free → (Violates p b → ⊥) → stepped p None b o ≡ Some next
      → Beside (ms ++ by ∷ []) next
  step_by ms b next by None eo w free calm e = absurd (none-some next e)
  step_by ms b next by (Some way) eo w free calm e =
      let c = w.0 in
      let n = option_map_some (landed p None b way) (pass p.plan b.stack way) next e in
      let m = passes_like b.stack c.stack n.0 way w.2.stack n.1 in
      let at_rest : c.phase ≡ Free = elim w.3 [ inl f ↦ f | inr s ↦ absurd (none-some m.0 (sym (ap (λ stack. pass q.plan stack way) s) ∙ m.1)) ] in
      let other = landed q None c way m.0 in
      let move : Moves q c by other = (
        (λ (v : Violates q c). calm (back v)),
        ap (λ x. moved q c x by) at_rest ∙ ap (stepped q None c) eo ∙ ap (option_map (landed q None c way)) m.1,
      ) in
      let play = goes ms c other by w.1 (ap turn_of at_rest) move in
      let d = begin_rest q (ms ++ by ∷ []) other play refl in
      let twin = subst (λ x. IsTwin x other) n.2 (landed_twin b c way n.0 m.0 w.2 m.2) in
      (d.0, d.1, still_twin next other d.0 twin d.2, d.3)
    where
      back : Violates q w.0 → Violates p b
      back v =
          let t = w.2 in
          let l = letters_like b.stack w.0.stack b.caps w.0.caps t.stack t.caps in
          let same = ap₂ (λ (x y : Word). x ++ y) t.word l in
          (free, (λ e. v.1 (sym l ∙ e)), subst (IsBad p.policy) (sym same) (subst (λ (x : PlainPolicy). IsBad x (w.0.word ++ letters w.0.stack w.0.caps)) (sym like.policies) v.2))

  beside : (ms : List Move) (b : Board) → Played p ms b → Beside ms b
  beside [] _ begins =
      let d = begin_rest q [] (start_board q) begins refl in
      let stacks = start_whole p.plan ∙ ap start_stack like.plans ∙ sym (start_whole q.plan) in
      let caps = ap (λ (x : PlainPolicy). start_caps x) like.policies in
      (d.0, d.1, still_twin (start_board p) (start_board q) d.0 (record { stack = stacks; kept = refl; caps = caps; word = refl }) d.2, d.3)
  beside ms next (skips _ b _ play move) =
      let w = beside ms b play in (w.0, w.1, skip_twin b next w.0 b.phase (nothing_is_asked p ms b play) move.1 w.2, w.3)
  beside _ next (goes ms b _ by play turn move) =
      let free = free_in b b.phase (nothing_is_asked p ms b play) turn in
      step_by ms b next by (way_of by) refl (beside ms b play) free move.0 (sym (ap (λ x. moved p b x by) free) ∙ move.1)

  violating_like : (ms : List Move) → IsViolating p ms → IsViolating q ms
  violating_like ms v =
      let w = beside ms v.0 v.1 in
      let c = w.0 in
      let l = letters_like v.0.stack c.stack v.0.caps c.caps w.2.stack w.2.caps in
      let free : c.phase ≡ Free = elim w.3 [ inl f ↦ f | inr s ↦ absurd (v.2.1 (l ∙ no_front c.stack c.caps s)) ] in
      (c, w.1, violates_like v.0 c w.2 free v.2)

-- ---- the law

like_back : (p q : Problem) → AreLike p q → AreLike q p
like_back p q like = record { plans = sym like.plans; policies = sym like.policies }

verdict_like : (p q : Problem) → AreLike p q → (D : Option ℕ) → IsVerdict p D → IsVerdict q D
verdict_like p q like None none = λ ms v. none ms (violating_like q p (like_back p q like) ms v)
verdict_like p q like (Some T) ((ms, many, v), least) = ((ms, many, violating_like p q like ms v), λ ns w. least ns (violating_like q p (like_back p q like) ns w))

module _ (x y : PlainPolicy) (source : List ℕ) (file : File) (same : HaveSameRules x y) where
  names_like : unsplit (names_of x) ≡ unsplit (names_of y)
  names_like = ap₂ (λ (ds : List PlainDescriptor) (ls : List (List ℕ)). record { descriptors = map (λ (d : PlainDescriptor). d.name) ds; labels = ls; splits = [] }) same.descriptors same.labels

  policies_like : seen x ≡ seen y
  policies_like = λ i. record {
    descriptors = same.descriptors i;
    limits = [];
    refuse_limit = false;
    refuse_enter = false;
    refuse_split = false;
    split = [];
    labels = same.labels i;
    rules = same.rules i;
    stop = false;
    format = 2;
    detached = [];
  }

  problems_like : AreLike (problem_of x source file) (problem_of y source file)
  problems_like = record {
    plans = plan_whole (names_of x) source file ∙ ap (λ (n : Names). plan_of n source file) names_like ∙ sym (plan_whole (names_of y) source file);
    policies = policies_like;
  }

  alike : AreViolatedAlike x y source file
  alike = record {
    plays = λ ms. (
      violating_like (problem_of x source file) (problem_of y source file) problems_like ms,
      violating_like (problem_of y source file) (problem_of x source file) (like_back (problem_of x source file) (problem_of y source file) problems_like) ms,
    );
    verdicts = λ D. (
      verdict_like (problem_of x source file) (problem_of y source file) problems_like D,
      verdict_like (problem_of y source file) (problem_of x source file) (like_back (problem_of x source file) (problem_of y source file) problems_like) D,
    );
  }

pub rules_alone : AuditsSeeRulesAlone
rules_alone x y source file same = alike x y source file same
