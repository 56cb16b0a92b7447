-- What is live, by the numbers of promises.
use Rattle.std.proofs.Common.{◌≡◌, ℕ, ◌+◌, ◌<◌, ◌≤◌, List, [], ◌∷◌, ◌++◌, Bool, true, false, cond, ◌||◌, Option, Some}
use Rattle.std.proofs.Common.{None, map, filter_map, option_map, take, length, get_or, refl, sym, ap, ap₂, ◌∙◌, subst, arith}
use Rattle.std.specs.Prelude.{slice_get, slice_index}
use Rattle.std.specs.List.{Contains, cons_option}
use Rattle.std.specs.List.Sorted.{IsStrictlySortedBy}
use Rattle.std.specs.Ordering.{nat_cmp, ordering_then}
use Rattle.std.specs.declared.cmp.Ordering.TheVariants.{Less}
use Rattle.std.proofs.lemmas.List.{map-append, length-map, get_or_default}
use Rattle.std.proofs.lemmas.Option.{slice_get_within, get_or_from_slice_get}
use Rattle.cw_fixpoint.specs.Closures.{Exactly}
use Rattle.cw_joins.specs.Members.{IsMember, first, IsPair, HaveMore, pair_cmp}
use Rattle.cw_fixpoint.specs.Numbers.{number_in}
use Rattle.cw_fixpoint.proofs.Numbers.{stands, below, same_order}
use Rattle.cw_game.specs.declared.spots.Spot.{Spot}
use Rattle.cw_game.specs.Games.{Game, Config, resumed, leads_in, weavers_in}
use Rattle.cw_game.specs.Pairs.{Called, call_in, is_call_in, is_exit_in}
use Rattle.cw_product.specs.Product.{Held as HeldGame, game_of}
use Rattle.cw_solve.specs.declared.contexts.Context.{Context}
use Rattle.cw_solve.specs.Contexts.{context}
use Rattle.cw_solve.specs.Low.{HeightsAreLow}
use Rattle.cw_solve.specs.Solved.{Held}
use Rattle.cw_lemmas.proofs.Lists.{contains_map, map_contains}
use Rattle.cw_lemmas.proofs.Options.{option_map_some as mapped}
use Rattle.cw_lazy_table.specs.declared.key.Key.{Key}
use Rattle.cw_lazy_table.specs.Choices.{lost_in, set_in, choices, start_of, IsReady}
use Rattle.cw_lazy_table.specs.Closing.{key, moves_on, visited, begun, answered, gone_on, waits, ends, back}
use Rattle.cw_lazy_table.specs.Laws.{CanBegin}
use Rattle.cw_lazy_table.specs.Live.{IsLive, calls}
use Rattle.cw_lazy_table.specs.Numbered.{whole, whole_pair, small, lost_by, set_at, numbered, ArePromises, CanAsk, CanTake, AreNumbered, ArePaired}
use Rattle.cw_lazy_table.specs.SeamKeys.{key_cmp, AreOf, IsPut}
use Rattle.cw_lazy_table.proofs.Choosing.{safe_at, set_full}
use Rattle.cw_lazy_table.proofs.Finding.{of_in}
use Rattle.cw_lazy_table.proofs.Listing.{rows_exactly, sorted_map}
use Rattle.cw_lazy_table.proofs.Putting.{put_next}
use Rattle.cw_lazy_table.proofs.Renaming.{AreNamed, named_member, member_named, named_pair, pair_named}
use Rattle.cw_lazy_table.proofs.Returning.{alive, ended_at}

cons_map : {A B : Type 0} (f : A → B) (o : Option A) (xs : List A) → cons_option (option_map f o) (map f xs) ≡ map f (cons_option o xs)
cons_map f None xs = refl
cons_map f (Some x) xs = refl

maps_in : {A B C : Type 0} (f : B → C) (h : A → Option B) (l : A → Option C) (xs : List A) → ((x : A) → l x ≡ option_map f (h x)) → filter_map l xs ≡ map f (filter_map h xs)
maps_in f h l [] e = refl
maps_in f h l (x ∷ xs) e = ap₂ cons_option (e x) (maps_in f h l xs e) ∙ cons_map f (h x) (filter_map h xs)

-- what is read of a list at a number
pub read_at : (P : ℕ → Type 0) (es : List ℕ) (n x : ℕ) → n < length es → x ≡ get_or es n x → P (slice_index es n) → P x
read_at P es n x l e p = subst P (get_or_default es n 0 x l ∙ sym e) p

-- a list in which numbers stand in order
module _ (es : List ℕ) (order : IsStrictlySortedBy nat_cmp es) where
  pub key_order : (x y : Key) → x.promise < length es → y.promise < length es → key_cmp (whole es x) (whole es y) ≡ key_cmp x y
  key_order x y lx ly = ap (λ o. ordering_then (nat_cmp x.pos y.pos) (ordering_then (nat_cmp x.state y.state) o)) (same_order es order x.promise y.promise lx ly)

  pub pair_order : (x y : Key × Key) → (x.0.promise < length es) × (x.1.promise < length es) → (y.0.promise < length es) × (y.1.promise < length es)
      → pair_cmp key_cmp (whole_pair es x) (whole_pair es y) ≡ pair_cmp key_cmp x y
  pair_order x y lx ly = ap₂ ordering_then (key_order x.0 y.0 lx.0 ly.0) (key_order x.1 y.1 lx.1 ly.1)

module _ (g : Game) (functions : ℕ) (can : CanBegin g functions) (low : HeightsAreLow g) (es : List ℕ) (are : ArePromises g es) where
  abbrev Member : Key → Type 0
  Member k = IsMember (choices g) (start_of g) k

  abbrev tell : ℕ × ℕ → ℕ × ℕ
  tell x = (x.0, number_in nat_cmp es x.1)

  -- the promise of what is live is one of them, and so is what a call promises
  promise_there : (k : Key) → Member k → Contains es k.promise
  promise_there k m = let s = safe_at g functions can k.pos k.state k.promise (alive g functions can low k m) in are.all s.function k.promise s.needed

  pub set_of_call : (p q e : ℕ) (c : Called) → IsLive g p q e → call_in (slice_get g.spots p) ≡ Some c → Contains es (set_in g p q e)
  set_of_call p q e c live is =
      let begun = calls p q e (set_in g p q e) c live is (set_full g functions can low p q e c live is) in
      let s = safe_at g functions can (g.entry c.function) q (set_in g p q e) begun in
      are.all s.function (set_in g p q e) s.needed

  set_there : (k : Key) (c : Called) → Member k → call_in (slice_get g.spots k.pos) ≡ Some c → Contains es (set_in g k.pos k.state k.promise)
  set_there k c m is = set_of_call k.pos k.state k.promise c (alive g functions can low k m) is

  module _ (k : Key) (m : Member k) where
    abbrev n : ℕ
    n = number_in nat_cmp es k.promise

    abbrev o : Option Spot
    o = slice_get g.spots k.pos

    is : slice_index es n ≡ k.promise
    is = stands es are.order k.promise (promise_there k m)

    whole_small : whole es (small es k) ≡ k
    whole_small = ap (λ (e : ℕ). key k.pos k.state e) is

    visited_named : visited g (lost_by g es) (set_at g es) (small es k) o ≡ map (small es) (visited g (lost_in g) (set_in g) k o)
    visited_named = by (weavers_in o)
      where
        by : (b : Bool) → cond b (key (cond (lost_in g (k.pos + 2) k.state (slice_index es n)) (k.pos + 1) (k.pos + 2)) k.state n ∷ []) []
            ≡ map (small es) (cond b (key (cond (lost_in g (k.pos + 2) k.state k.promise) (k.pos + 1) (k.pos + 2)) k.state k.promise ∷ []) [])
        by true = ap (λ (e : ℕ). key (cond (lost_in g (k.pos + 2) k.state e) (k.pos + 1) (k.pos + 2)) k.state n ∷ []) is
        by false = refl

    begun_named : (c : Option Called) → begun g (lost_by g es) (set_at g es) (small es k) c ≡ map (small es) (begun g (lost_in g) (set_in g) k c)
    begun_named None = refl
    begun_named (Some c) = ap (λ (e : ℕ). key (g.entry c.function) k.state (number_in nat_cmp es (set_in g k.pos k.state e)) ∷ []) is

    answered_named : answered g (lost_by g es) (set_at g es) (small es k) o ≡ map (small es) (answered g (lost_in g) (set_in g) k o)
    answered_named = cases (weavers_in o || is_call_in o)
      where
        led : (c : Option Config) → option_map (λ (c : Config). key c.pos c.state n) c ≡ option_map (small es) (option_map (λ (c : Config). key c.pos c.state k.promise) c)
        led None = refl
        led (Some c) = refl

        cases : (b : Bool) → cond b [] (filter_map (λ by. option_map (λ (c : Config). key c.pos c.state n) (leads_in g k.pos k.state [] o by)) moves_on)
            ≡ map (small es) (cond b [] (filter_map (λ by. option_map (λ (c : Config). key c.pos c.state k.promise) (leads_in g k.pos k.state [] o by)) moves_on))
        cases true = refl
        cases false =
            maps_in (small es) (λ by. option_map (λ (c : Config). key c.pos c.state k.promise) (leads_in g k.pos k.state [] o by))
            (λ by. option_map (λ (c : Config). key c.pos c.state n) (leads_in g k.pos k.state [] o by)) moves_on (λ by. led (leads_in g k.pos k.state [] o by))

    gone_named : (r : Option (ℕ × ℕ)) → gone_on g (lost_by g es) (set_at g es) (small es k) r ≡ map (small es) (gone_on g (lost_in g) (set_in g) k r)
    gone_named None = refl
    gone_named (Some pair) = ap (λ (e : ℕ). cond (lost_in g pair.0 pair.1 e) [] (key pair.0 pair.1 n ∷ [])) is ∙ by (lost_in g pair.0 pair.1 k.promise)
      where
        by : (b : Bool) → cond b [] (key pair.0 pair.1 n ∷ []) ≡ map (small es) (cond b [] (key pair.0 pair.1 k.promise ∷ []))
        by true = refl
        by false = refl

    after_named : (numbered g es).after (small es k) ≡ map (small es) ((choices g).after k)
    after_named =
        let v = visited g (lost_in g) (set_in g) k o in
        let b = begun g (lost_in g) (set_in g) k (call_in o) in
        let a = answered g (lost_in g) (set_in g) k o in
        let r = gone_on g (lost_in g) (set_in g) k (resumed g k.pos k.state) in
        ap₂ (λ (x y : List Key). x ++ y) (ap₂ (λ (x y : List Key). x ++ y) visited_named (begun_named (call_in o)) ∙ sym (map-append (small es) v b))
        (ap₂ (λ (x y : List Key). x ++ y) answered_named (gone_named (resumed g k.pos k.state)) ∙ sym (map-append (small es) a r)) ∙ sym (map-append (small es) (v ++ b) (a ++ r))

    waits_named : (c : Option Called) → waits g (lost_by g es) (set_at g es) (small es k) c ≡ option_map tell (waits g (lost_in g) (set_in g) k c)
    waits_named None = refl
    waits_named (Some c) = ap (λ (e : ℕ). Some (g.exit c.function, number_in nat_cmp es (set_in g k.pos k.state e))) is

    ends_named : ends g (lost_by g es) (set_at g es) (small es k) o ≡ option_map tell (ends g (lost_in g) (set_in g) k o)
    ends_named = by (is_exit_in o)
      where
        by : (b : Bool) → cond b (Some (k.pos, n)) None ≡ option_map tell (cond b (Some (k.pos, k.promise)) None)
        by true = refl
        by false = refl

  join_named : (a b : Key) (c : Option Called) → back g (lost_by g es) (set_at g es) (small es a) c (small es b) ≡ small es (back g (lost_in g) (set_in g) a c b)
  join_named a b None = refl
  join_named a b (Some c) = refl

  one_group : (a b : Key) (x y : ℕ × ℕ) → Member a → Member b → (choices g).waits a ≡ Some x → (choices g).ends b ≡ Some y → tell x ≡ tell y → x ≡ y
  one_group a b x y m n w e t =
      let c = mapped (λ (c : Called). (g.exit c.function, set_in g a.pos a.state a.promise)) (call_in (slice_get g.spots a.pos)) x w in
      let i : set_in g a.pos a.state a.promise ≡ x.1 = ap (λ (z : ℕ × ℕ). z.1) c.2 in
      let j : b.promise ≡ y.1 = ap (λ (z : ℕ × ℕ). z.1) (ended_at b (slice_get g.spots b.pos) y e) in
      let u : slice_index es (number_in nat_cmp es x.1) ≡ x.1 = stands es are.order x.1 (subst (Contains es) i (set_there a c.0 m c.1)) in
      let v : slice_index es (number_in nat_cmp es y.1) ≡ y.1 = stands es are.order y.1 (subst (Contains es) j (promise_there b n)) in
      ap₂ (λ (s t : ℕ). (s, t)) (ap (λ (z : ℕ × ℕ). z.0) t) (sym u ∙ ap (λ (z : ℕ × ℕ). slice_index es z.1) t ∙ v)

  are_named : AreNamed (choices g) (numbered g es) (start_of g) (small es) tell
  are_named = record {
    after = after_named;
    waits = λ k m. waits_named k m (call_in (slice_get g.spots k.pos));
    ends = ends_named;
    one = one_group;
    join = λ a b m n. join_named a b (call_in (slice_get g.spots a.pos));
  }

  abbrev Taken : Key → Type 0
  Taken q = IsMember (numbered g es) (small es (start_of g)) q

  -- a member by its number, and the other way round
  pub taken_within : (q : Key) → Taken q → q.promise < length es
  taken_within q t =
      let z = member_named (choices g) (numbered g es) (start_of g) (small es) tell are_named q t in
      subst (λ (x : Key). x.promise < length es) z.2 (below es are.order z.0.promise (promise_there z.0 z.1))

  pub taken_member : (q : Key) → Taken q → Member (whole es q)
  taken_member q t =
      let z = member_named (choices g) (numbered g es) (start_of g) (small es) tell are_named q t in
      subst Member (sym (whole_small z.0 z.1) ∙ ap (whole es) z.2) z.1

  member_taken : (k : Key) → Member k → (q : Key) × Taken q × (k ≡ whole es q)
  member_taken k m = (small es k, named_member (choices g) (numbered g es) (start_of g) (small es) tell are_named k m, sym (whole_small k m))

  rises : (x y : Key) → Taken x → Taken y → key_cmp x y ≡ Less → key_cmp (whole es x) (whole es y) ≡ Less
  rises x y a b l = key_order es are.order x y (taken_within x a) (taken_within y b) ∙ l

  pub members_whole : (ks : List Key) → Exactly key_cmp (λ (k : Key). IsMember (numbered g es) (small es (start_of g)) k) ks
      → Exactly key_cmp (λ (k : Key). IsMember (choices g) (start_of g) k) (map (whole es) ks)
  members_whole ks e = rows_exactly key_cmp key_cmp Taken Member (whole es) ks e rises taken_member member_taken

  abbrev Paired : Key × Key → Type 0
  Paired ab = IsPair (numbered g es) (small es (start_of g)) ab

  pub pair_within : (ab : Key × Key) → Paired ab → (ab.0.promise < length es) × (ab.1.promise < length es)
  pair_within ab is = (taken_within ab.0 is.waiting, taken_within ab.1 is.ending)

  paired_whole : (q : Key × Key) → Paired q → IsPair (choices g) (start_of g) (whole_pair es q)
  paired_whole q is =
      let z = pair_named (choices g) (numbered g es) (start_of g) (small es) tell are_named q is in
      subst (λ (ab : Key × Key). IsPair (choices g) (start_of g) ab)
      (ap₂ (λ (a b : Key). (a, b)) (sym (whole_small z.0.0 z.1.waiting)) (sym (whole_small z.0.1 z.1.ending)) ∙ ap (whole_pair es) z.2) z.1

  whole_paired : (ab : Key × Key) → IsPair (choices g) (start_of g) ab → (q : Key × Key) × Paired q × (ab ≡ whole_pair es q)
  whole_paired ab is = (
    (small es ab.0, small es ab.1),
    named_pair (choices g) (numbered g es) (start_of g) (small es) tell are_named ab is,
    ap₂ (λ (a b : Key). (a, b)) (sym (whole_small ab.0 is.waiting)) (sym (whole_small ab.1 is.ending)),
  )

  pair_rises : (x y : Key × Key) → Paired x → Paired y → pair_cmp key_cmp x y ≡ Less → pair_cmp key_cmp (whole_pair es x) (whole_pair es y) ≡ Less
  pair_rises x y a b l = pair_order es are.order x y (pair_within x a) (pair_within y b) ∙ l

  pub pairs_whole : (ps : List (Key × Key)) → Exactly (pair_cmp key_cmp) (λ (ab : Key × Key). IsPair (numbered g es) (small es (start_of g)) ab) ps
      → Exactly (pair_cmp key_cmp) (λ (ab : Key × Key). IsPair (choices g) (start_of g) ab) (map (whole_pair es) ps)
  pairs_whole ps e = rows_exactly (pair_cmp key_cmp) (pair_cmp key_cmp) Paired (λ ab. IsPair (choices g) (start_of g) ab) (whole_pair es) ps e pair_rises paired_whole whole_paired

  -- and so many
  pub more_whole : (n : ℕ) → HaveMore key_cmp (numbered g es) (small es (start_of g)) n → HaveMore key_cmp (choices g) (start_of g) n
  more_whole n h = record {
    members = map (whole es) h.members;
    pairs = map (whole_pair es) h.pairs;
    ascend = sorted_map key_cmp key_cmp (whole es) h.members (λ x y a b l. rises x y (h.are x (of_in h.members x a)) (h.are y (of_in h.members y b)) l) h.ascend;
    rise = sorted_map (pair_cmp key_cmp) (pair_cmp key_cmp) (whole_pair es) h.pairs (λ x y a b l. pair_rises x y (h.meet x (of_in h.pairs x a)) (h.meet y (of_in h.pairs y b)) l) h.rise;
    are = λ k c. let z = map_contains (whole es) h.members k c in subst Member z.2 (taken_member z.0 (h.are z.0 z.1));
    meet = λ ab c. let z = map_contains (whole_pair es) h.pairs ab c in subst (λ (ab : Key × Key). IsPair (choices g) (start_of g) ab) z.2 (paired_whole z.0 (h.meet z.0 z.1));
    more =
        let a = length-map h.members (whole es) in
        let b = length-map h.pairs (whole_pair es) in
        let m = h.more in
        omega (arith, a, b, m);
  }

-- a key of the closure may be asked for
pub can_ask : (h : HeldGame) (s : Held) (es : List ℕ) (q : Key) → CanTake h s es q → CanAsk h s es q
can_ask h s es q take =
    let g = game_of h in
    let functions = length h.graph.parts.items in
    record {
      promises = take.promises;
      within = taken_within g functions take.ready.begins take.ready.low es take.promises q take.member;
      can = record { ready = take.ready; member = taken_member g functions take.ready.begins take.ready.low es take.promises q take.member };
    }

pub start_take : (h : HeldGame) (s : Held) → IsReady h s → (es : List ℕ) → ArePromises (game_of h) es → (k : Key) → k ≡ small es (start_of (game_of h)) → CanTake h s es k
start_take h s ready es are k e = subst (CanTake h s es) (sym e) (record { ready = ready; promises = are; member = first })

-- all that the closure has, and all its pairs
pub are_numbered : (h : HeldGame) (s : Held) → IsReady h s → (es : List ℕ) → ArePromises (game_of h) es → (ks : List Key)
    → Exactly key_cmp (IsMember (numbered (game_of h) es) (small es (start_of (game_of h)))) ks → length ks ≤ 65536 → AreNumbered h es ks
are_numbered h s ready es are ks e few =
    let g = game_of h in
    let functions = length h.graph.parts.items in
    record {
      promises = are;
      within = λ k c. taken_within g functions ready.begins ready.low es are k ((e.1 k).0 c);
      live = record {
        begins = ready.begins;
        low = ready.low;
        are = members_whole g functions ready.begins ready.low es are ks e;
        few = let long = length-map ks (whole es) in omega (arith, few, long);
      };
    }

pub are_paired : (h : HeldGame) (s : Held) → IsReady h s → (es : List ℕ) → ArePromises (game_of h) es → (ps : List (Key × Key))
    → Exactly (pair_cmp key_cmp) (IsPair (numbered (game_of h) es) (small es (start_of (game_of h)))) ps → ArePaired h es ps
are_paired h s ready es are ps e =
    let g = game_of h in
    let functions = length h.graph.parts.items in
    record {
      promises = are;
      within = λ ab c. pair_within g functions ready.begins ready.low es are ab ((e.1 ab).0 c);
      returns = record { begins = ready.begins; low = ready.low; are = pairs_whole g functions ready.begins ready.low es are ps e };
    }

-- the promises of the first contexts, and of one more
pub promise_more : (cs : List Context) (n : ℕ) (c : Context) (old new : List ℕ) → Some c ≡ slice_get cs n → AreOf (map (λ (x : Context). x.promise) (take n cs)) old → IsPut old c.promise new
    → AreOf (map (λ (x : Context). x.promise) (take (n + 1) cs)) new
promise_more cs n c old new at are put =
    let f = λ (x : Context). x.promise in
    put_next f cs n c old new (slice_get_within cs n c (sym at)) are (subst (λ (e : ℕ). IsPut old e new) (ap f (sym (get_or_from_slice_get cs n c c (sym at)))) put)

-- the promises of all contexts
pub are_promises : (h : HeldGame) (s : Held) → IsReady h s → (es : List ℕ) → Exactly nat_cmp (Contains (map (λ (c : Context). c.promise) s.contexts)) es → ArePromises (game_of h) es
are_promises h s ready es e = record {
  order = e.0;
  all = λ f x need. (e.1 x).1 (contains_map (λ (c : Context). c.promise) s.contexts (context f x) (ready.needed.all (context f x) need));
}
