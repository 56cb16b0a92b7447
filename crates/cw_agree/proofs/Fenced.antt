-- Through a call in a process of its own nothing changes the file's values: neither its function nor any that it reaches does. So what a frame
-- keeps of them is what they are, in every state of a woven run.
use Rattle.std.proofs.Common.{◌≡◌, ℕ, zero, suc, ◌+◌, ℤ, List, [], ◌∷◌, ◌++◌, get_or, map, Bool, true, false, cond, Option, Some, None, refl, sym, ap, subst, ◌∙◌, arith}
use Rattle.std.specs.Prelude.{slice_get, is_some, codes}
use Rattle.std.specs.List.{AllByRecursion, Contains}
use Rattle.std.specs.Str.{bytes_eq}
use Rattle.std.proofs.lemmas.Option.{same_Some, none-some}
use Rattle.std.proofs.lemmas.List.Quantifiers.{position-Some}
use Rattle.std.proofs.lemmas.Slice.Eq.{bytes_eq-Decides}
use Rattle.cw_rights.specs.declared.capabilities.Primitive.TheVariants.{Limit, Enter}
use Rattle.cw_rights.specs.declared.capabilities.Limit.{Limit as ALimit}
use Rattle.cw_rights.specs.Policies.{PlainPolicy, primitives}
use Rattle.cw_resolve.specs.Scenes.{names_of}
use Rattle.cw_syntax.specs.declared.program.Name.{Name}
use Rattle.cw_syntax.specs.declared.program.Op.TheVariants.{Name as NameOp, Number, Char, Text as TextOp, Call as CallOp, Index as IndexOp, Prefix, Suffix, Binary, Assign, Cast, SizeOf, SizeOfType}
use Rattle.cw_syntax.specs.Names.{text, number_in, Names}
use Rattle.cw_syntax.specs.Trees.{Tree, Node, Trees, none, more, Statement, Stated, Form, Block, Declares, Evaluates, Empties, Labels, Chooses, Whiles, Does, Fors, Breaks, Continues, Returns, Definition}
use Rattle.cw_syntax.specs.Plans.{Callee, Action, Computes, Opens, Closes, Invokes, Scene, scene_of, opens_if, closes_if, descriptor_of, closed_by, call_action, assigned_action, action_of, acting, steps_of_all, numbered_all, seams_all, Routine, Plan, routines_from, function_names, plan_of}
use Rattle.cw_syntax.specs.Frames.{End, new_frame}
use Rattle.cw_callgraph.specs.Effects.{callees_all, firsts, calls, calls_of, Reaches, directly, further}
use Rattle.cw_callgraph.specs.Forbidding.{body_places, places_of, by_body, by_callee}
use Rattle.cw_callgraph.specs.Fitting.{MayBeSplit, Fits}
use Rattle.cw_callgraph.proofs.Kept.{contained, had, has_all, firsts_from}
use Rattle.cw_callgraph.specs.Finding.{with_all}
use Rattle.cw_value.specs.Expressions.{Memory, location_of, Target, OwnSpot, SharedSpot, Nothing, stored, target_at}
use Rattle.cw_value.specs.Deeds.{said_all}
use Rattle.cw_value.specs.Machines.{Source, scope_in}
use Rattle.cw_agree.proofs.Keeps.{Keeping, Quiet}
use Rattle.cw_agree.proofs.Paired.{has_split}
use Rattle.cw_agree.proofs.Forbidden.{IsSpared, AllQuiet, QuietForm}
use Rattle.cw_agree.proofs.Bodies.{body_quiet}
use Rattle.cw_agree.proofs.Calls.{CallsIn, CallsInAll, all_calls, numbers_in_all, numbered_all_calls, CalledBy, steps_call_all, FrameHas, items_have}

-- ---- a quiet deed leaves the file's values

abbrev pub SharedSame : Memory → Memory → Type 0
SharedSame m k = k.shared ≡ m.shared

stored_shared : (m : Memory) (t : Target) (z : ℤ) → IsSpared t → (stored m t z).shared ≡ m.shared
stored_shared m (OwnSpot p) z h = refl
stored_shared m (SharedSpot p) z h = absurd h
stored_shared m Nothing z h = refl

pub sparing : Keeping SharedSame IsSpared
sparing = record {
  same = λ m. refl;
  joins = λ m k l h j. j ∙ h;
  nothing = tt;
  own = λ p. tt;
  store = λ m t z h. stored_shared m t z h;
  answer = λ m z zs call. refl;
  array = λ m n cells. refl;
  plain = λ m n c. refl;
}

-- ---- lists, names

no_member : (xs : List ℕ) → ((x : ℕ) → Contains xs x → ⊥) → xs ≡ []
no_member [] h = refl
no_member (x ∷ xs) h = absurd (h x (0, omega arith, refl))

first_has : (gs : List ℕ) (g : ℕ) → Contains gs g → Contains (firsts gs) g
first_has gs g h = subst (λ l. Contains l g) (firsts_from gs) (contained (with_all [] gs) g (has_all [] gs g ∙ had gs g h))

none_split : (limits : List ALimit) → has_split (map (λ l. Limit l) limits ++ Enter ∷ []) ≡ false
none_split [] = refl
none_split (l ∷ ls) = none_split ls

pub split_there : (policy : PlainPolicy) (b : Bool) → has_split (primitives policy b) ≡ true → b ≡ true
split_there policy true h = refl
split_there policy false h = absurd (let clash : false ≡ true = sym (none_split policy.limits) ∙ h in cc)

module _ (policy : PlainPolicy) (s : Source) where
  abbrev names : Names
  names = names_of policy

  abbrev pub sc : Scene
  sc = scene_of names s.bytes s.file

  abbrev pub plan : Plan
  plan = plan_of names s.bytes s.file

  -- all that the function with this number evaluates is quiet
  abbrev pub IsQuietAt : ℕ → Type 0
  IsQuietAt n = (f : Definition) → slice_get s.file.functions n ≡ Some f → AllQuiet s f (said_all f.body)

  -- and so is it in each function that it reaches
  abbrev pub QuietReach : ℕ → Type 0
  QuietReach n = IsQuietAt n × ((h : ℕ) → Reaches plan n h → IsQuietAt h)

  through : (n g h : ℕ) → Contains (calls plan n) g → Reaches plan g h → Reaches plan n h
  through n g h c (directly _ d) = further g h (directly g c) d
  through n g h c (further k _ r d) = further k h (through n g k c r) d

  pub reach_on : (n g : ℕ) → QuietReach n → Contains (calls plan n) g → QuietReach g
  reach_on n g q c = (q.1 g (directly g c), λ h r. q.1 h (through n g h c r))

  may_quiet : (name : List ℕ) (n : ℕ) → MayBeSplit s.bytes s.file names name → number_in (function_names s.bytes s.file) name ≡ Some n → QuietReach n
  may_quiet name n may e = (
    λ f at. body_quiet s f names (no_member (body_places sc s.file f) (λ x c. may n e x (by_body (subst (λ o. Contains (places_of (body_places sc s.file) o) x) (sym at) c)))),
    λ h r f at. body_quiet s f names (no_member (body_places sc s.file f) (λ x c. may n e x (by_callee h r (subst (λ o. Contains (places_of (body_places sc s.file) o) x) (sym at) c)))),
  )

  -- ---- what a statement that is a call calls

  -- its result goes to no value of the file's where the statement is quiet
  abbrev pub ResultSpared : Definition → Name → Type 0
  ResultSpared f x = IsSpared (target_at (location_of (scope_in s (Some f)) (text s.bytes x)))

  pub record Invoked (e : Tree) (c : Callee) : Type 0 where
    pub name : List ℕ
    pub numbered : number_in sc.functions name ≡ Some c.number
    pub splits : c.split ≡ is_some (number_in policy.split name)
    pub result : (x : Name) (f : Definition) → c.result ≡ Some x → Quiet IsSpared (scope_in s (Some f)) e → ResultSpared f x

  abbrev pub ActionFits : Tree → Action → Type 0
  ActionFits e Computes = Unit {0}
  ActionFits e (Opens d) = Unit {0}
  ActionFits e (Closes d) = Unit {0}
  ActionFits e (Invokes c) = Invoked e c

  closes_fit : (e : Tree) (o : Option ℕ) → ActionFits e (closes_if o)
  closes_fit e None = tt
  closes_fit e (Some d) = tt

  opens_fit : (e : Tree) (o : Option ℕ) → ActionFits e (opens_if o)
  opens_fit e None = tt
  opens_fit e (Some d) = tt

  cond_fits : (e : Tree) (b : Bool) (o : Option ℕ) → ActionFits e (cond b (closes_if o) Computes)
  cond_fits e true o = closes_fit e o
  cond_fits e false o = tt

  closed_fits : (e : Tree) (name : List ℕ) (ts : Trees) → ActionFits e (closed_by sc name ts)
  closed_fits e name none = tt
  closed_fits e name (more a none) = cond_fits e (bytes_eq name (codes "close")) (descriptor_of sc a)
  closed_fits e name (more a (more b ts)) = tt

  call_fits : (e : Tree) (name : List ℕ) (ts : Trees) (o : Option ℕ) → number_in sc.functions name ≡ o → ActionFits e (call_action sc name ts o)
  call_fits e name ts None at = closed_fits e name ts
  call_fits e name ts (Some n) at = record {
    name = name;
    numbered = at;
    splits = refl;
    result = λ x f r q. absurd (none-some x r);
  }

  assigned_fits : (e : Tree) (x : Name) (name : List ℕ) (o : Option ℕ) → number_in sc.functions name ≡ o
      → ((f : Definition) → Quiet IsSpared (scope_in s (Some f)) e → ResultSpared f x) → ActionFits e (assigned_action sc x name o)
  assigned_fits e x name None at spared = opens_fit e (number_in names.descriptors (text s.bytes x))
  assigned_fits e x name (Some n) at spared = record {
    name = name;
    numbered = at;
    splits = refl;
    result = λ y f r q. subst (ResultSpared f) (same_Some x y r) (spared f q);
  }

  pub action_fits : (e : Tree) → ActionFits e (action_of sc e)
  action_fits (Node (CallOp g) parts from to) = call_fits (Node (CallOp g) parts from to) (text s.bytes g) parts (number_in sc.functions (text s.bytes g)) refl
  action_fits (Node (Assign zero) (more (Node NameOp ps at until) (more (Node (CallOp g) qs at2 end2) none)) from to) =
      assigned_fits (Node (Assign zero) (more (Node NameOp ps at until) (more (Node (CallOp g) qs at2 end2) none)) from to) (record { from = at; to = until }) (text s.bytes g)
      (number_in sc.functions (text s.bytes g)) refl (λ f q. q.0 refl)
  action_fits (Node NameOp parts from to) = tt
  action_fits (Node (Number n) parts from to) = tt
  action_fits (Node (Char n) parts from to) = tt
  action_fits (Node TextOp parts from to) = tt
  action_fits (Node IndexOp parts from to) = tt
  action_fits (Node (Prefix n) parts from to) = tt
  action_fits (Node (Suffix n) parts from to) = tt
  action_fits (Node (Binary n) parts from to) = tt
  action_fits (Node (Cast k) parts from to) = tt
  action_fits (Node SizeOf parts from to) = tt
  action_fits (Node (SizeOfType k) parts from to) = tt
  action_fits (Node (Assign (suc n)) parts from to) = tt
  action_fits (Node (Assign zero) none from to) = tt
  action_fits (Node (Assign zero) (more (Node (Number n1) ps at until) ts) from to) = tt
  action_fits (Node (Assign zero) (more (Node (Char n1) ps at until) ts) from to) = tt
  action_fits (Node (Assign zero) (more (Node TextOp ps at until) ts) from to) = tt
  action_fits (Node (Assign zero) (more (Node (CallOp g) ps at until) ts) from to) = tt
  action_fits (Node (Assign zero) (more (Node IndexOp ps at until) ts) from to) = tt
  action_fits (Node (Assign zero) (more (Node (Prefix n1) ps at until) ts) from to) = tt
  action_fits (Node (Assign zero) (more (Node (Suffix n1) ps at until) ts) from to) = tt
  action_fits (Node (Assign zero) (more (Node (Binary n1) ps at until) ts) from to) = tt
  action_fits (Node (Assign zero) (more (Node (Assign n1) ps at until) ts) from to) = tt
  action_fits (Node (Assign zero) (more (Node (Cast k) ps at until) ts) from to) = tt
  action_fits (Node (Assign zero) (more (Node SizeOf ps at until) ts) from to) = tt
  action_fits (Node (Assign zero) (more (Node (SizeOfType k) ps at until) ts) from to) = tt
  action_fits (Node (Assign zero) (more (Node NameOp ps at until) none) from to) = tt
  action_fits (Node (Assign zero) (more (Node NameOp ps at until) (more (Node NameOp qs at2 end2) ts)) from to) = tt
  action_fits (Node (Assign zero) (more (Node NameOp ps at until) (more (Node (Number n1) qs at2 end2) ts)) from to) = tt
  action_fits (Node (Assign zero) (more (Node NameOp ps at until) (more (Node (Char n1) qs at2 end2) ts)) from to) = tt
  action_fits (Node (Assign zero) (more (Node NameOp ps at until) (more (Node TextOp qs at2 end2) ts)) from to) = tt
  action_fits (Node (Assign zero) (more (Node NameOp ps at until) (more (Node IndexOp qs at2 end2) ts)) from to) = tt
  action_fits (Node (Assign zero) (more (Node NameOp ps at until) (more (Node (Prefix n1) qs at2 end2) ts)) from to) = tt
  action_fits (Node (Assign zero) (more (Node NameOp ps at until) (more (Node (Suffix n1) qs at2 end2) ts)) from to) = tt
  action_fits (Node (Assign zero) (more (Node NameOp ps at until) (more (Node (Binary n1) qs at2 end2) ts)) from to) = tt
  action_fits (Node (Assign zero) (more (Node NameOp ps at until) (more (Node (Assign n1) qs at2 end2) ts)) from to) = tt
  action_fits (Node (Assign zero) (more (Node NameOp ps at until) (more (Node (Cast k) qs at2 end2) ts)) from to) = tt
  action_fits (Node (Assign zero) (more (Node NameOp ps at until) (more (Node SizeOf qs at2 end2) ts)) from to) = tt
  action_fits (Node (Assign zero) (more (Node NameOp ps at until) (more (Node (SizeOfType k) qs at2 end2) ts)) from to) = tt
  action_fits (Node (Assign zero) (more (Node NameOp ps at until) (more (Node (CallOp g) qs at2 end2) (more u us))) from to) = tt

  pub record Routined (fs : List Definition) (n : ℕ) (r : Routine) : Type 0 where
    pub definition : Definition
    pub defined : slice_get fs n ≡ Some definition
    pub seam : ℕ
    pub body : r.body ≡ numbered_all (steps_of_all sc definition.body) seam

  pub routine_at : (j : ℕ) (fs : List Definition) (n : ℕ) (r : Routine) → slice_get (routines_from sc j fs) n ≡ Some r → Routined fs n r
  routine_at j [] n r e = absurd (none-some r e)
  routine_at j (f ∷ fs) zero r e = record { definition = f; defined = refl; seam = j + 1; body = ap (λ (x : Routine). x.body) (sym (same_Some _ r e)) }
  routine_at j (f ∷ fs) (suc n) r e =
      let k = routine_at (j + 1 + seams_all (steps_of_all sc f.body)) fs n r e in
      record { definition = k.definition; defined = k.defined; seam = k.seam; body = k.body }

  module _ (fits : Fits s.bytes s.file policy) where
    split_quiet : (name : List ℕ) (n : ℕ) (o : Option ℕ) → number_in policy.split name ≡ o → is_some o ≡ true → number_in (function_names s.bytes s.file) name ≡ Some n → QuietReach n
    split_quiet name n None e h at = absurd (cc)
    split_quiet name n (Some i) e h at =
        let r = position-Some (bytes_eq name) policy.split i name e in
        may_quiet name n (subst (MayBeSplit s.bytes s.file names) (sym ((bytes_eq-Decides name (get_or policy.split i name)).0 r.1)) (fits.2 i name r.0)) at

    -- ---- the calls of a function's frames

    record Second (f : Definition) (c : Callee) : Type 0 where
      split : c.split ≡ true → QuietReach c.number
      result : (x : Name) → c.result ≡ Some x → AllQuiet s f (said_all f.body) → ResultSpared f x

    acting_fits : (f : Definition) (e : Tree) (from : ℕ) (a : Action) → (AllQuiet s f (said_all f.body) → Quiet IsSpared (scope_in s (Some f)) e) → ActionFits e a
        → CallsIn (λ at c. Second f c) (acting a from)
    acting_fits f e from Computes q h = tt
    acting_fits f e from (Opens d) q h = tt
    acting_fits f e from (Closes d) q h = tt
    acting_fits f e from (Invokes c) q h =
        record { split = λ x. split_quiet h.name c.number (number_in policy.split h.name) refl (sym h.splits ∙ x) h.numbered; result = λ x r all. h.result x f r (q all) }

    form_called : (f : Definition) (form : Form) (from to : ℕ) → (AllQuiet s f (said_all f.body) → QuietForm s f form) → CalledBy (λ at c. Second f c) sc (Stated form from to)
    form_called f (Evaluates e) from to q = acting_fits f e from (action_of sc e) q (action_fits e)
    form_called f (Block ss) from to q = tt
    form_called f (Declares d) from to q = tt
    form_called f Empties from to q = tt
    form_called f (Labels l m b) from to q = tt
    form_called f (Chooses e a b) from to q = tt
    form_called f (Whiles e a) from to q = tt
    form_called f (Does a e) from to q = tt
    form_called f (Fors i t u a) from to q = tt
    form_called f Breaks from to q = tt
    form_called f Continues from to q = tt
    form_called f (Returns e) from to q = tt

    all_called : (f : Definition) (sts : List Statement) → (AllQuiet s f (said_all f.body) → AllQuiet s f sts) → AllByRecursion (CalledBy (λ at c. Second f c) sc) sts
    all_called f [] q = tt
    all_called f (Stated form from to ∷ sts) q = (form_called f form from to (λ h. (q h).0), all_called f sts (λ h. (q h).1))

    -- a call in a frame of the function with this number
    pub record Called (n : ℕ) (c : Callee) : Type 0 where
      pub reaches : Contains (calls plan n) c.number
      pub split : c.split ≡ true → QuietReach c.number
      pub result : (x : Name) (f : Definition) → c.result ≡ Some x → slice_get s.file.functions n ≡ Some f → IsQuietAt n → ResultSpared f x

    body_called : (n : ℕ) (r : Routine) → slice_get plan.routines n ≡ Some r → CallsInAll (λ at c. Called n c) r.body
    body_called n r e =
        let k = routine_at 0 s.file.functions n r e in
        let f = k.definition in
        all_calls (λ at c. Contains (calls plan n) c.number) (λ at c. Second f c) (λ at c. Called n c)
        (λ at c p q. record {
          reaches = p;
          split = q.split;
          result = λ x g r at quiet. let same = same_Some f g (sym k.defined ∙ at) in subst (λ (h : Definition). ResultSpared h x) same (q.result x r (quiet f k.defined));
        })
        r.body
        (numbers_in_all (calls plan n) r.body (λ g c. subst (λ o. Contains (calls_of o) g) (sym e) (first_has (callees_all r.body) g c)))
        (subst (CallsInAll (λ at c. Second f c)) (sym k.body)
        (numbered_all_calls (λ at c. Second f c) (steps_of_all sc f.body) k.seam (steps_call_all (λ at c. Second f c) sc f.body (all_called f (said_all f.body) (λ h. h)))))

    pub new_called : (n : ℕ) (r : Routine) → slice_get plan.routines n ≡ Some r → FrameHas (λ at c. Called n c) (new_frame n r)
    new_called n r e = (tt, items_have (λ at c. Called n c) r.body (End n ∷ []) (body_called n r e) (tt, tt))
