-- What is live are the members of the closure.
use Rattle.std.proofs.Common.{◌≡◌, inl, inr, ⊎_elim, ℕ, ◌+◌, List, [], ◌∷◌, ◌++◌, Bool, true, false, cond, ◌||◌, Option, Some, None, option_map, filter_map, refl, sym, ap, ap₂, ◌∙◌, subst}
use Rattle.std.specs.Prelude.{slice_get}
use Rattle.std.specs.List.{Contains, cons_option}
use Rattle.std.proofs.lemmas.Option.{none-some, same_Some, cond_some}
use Rattle.std.proofs.lemmas.List.Elements.{Contains-append_left, Contains-append_right, Contains-append_cases}
use Rattle.std.proofs.lemmas.Bool.{false_from_ne_true, true_from_ne_false}
use Rattle.std.specs.Cmp.{both_ways as same_bools}
use Rattle.cw_core.specs.StateSet.{has as has_member}
use Rattle.cw_core.proofs.Sets.{same_from_members}
use Rattle.cw_rights.specs.declared.capabilities.Primitive.{Primitive}
use Rattle.cw_certs.specs.declared.moves.Move.{Move}
use Rattle.cw_certs.specs.declared.moves.Move.TheVariants.{Skip, Try, Grant, Refuse, On, Left, Right, Opened, Failed, Stop}
use Rattle.cw_game.specs.declared.spots.Spot.{Spot}
use Rattle.cw_game.specs.declared.spots.Spot.TheVariants.{Visit}
use Rattle.cw_game.specs.Games.{Game, Config, resumed, leads_in, weavers_in}
use Rattle.cw_game.specs.Pairs.{has, all_states, Called, call_in, is_call_in, is_exit_in}
use Rattle.cw_joins.specs.Members.{IsMember, first, then, joins}
use Rattle.cw_lazy_table.specs.Live.{IsFull, IsLive, begins, skips, tries, moves, goes_on, calls, returns}
use Rattle.cw_lazy_table.specs.declared.key.Key.{Key}
use Rattle.cw_lazy_table.specs.Closing.{key, moves_on, visited, begun, answered, gone_on, after, waits, ends, back, rules, AreRight}
use Rattle.cw_lazy_table.specs.Staged.{AreStaged}
use Rattle.cw_lazy_table.proofs.Finding.{In, in_of, of_in}
use Rattle.cw_lemmas.proofs.Lists.{contains_none as nothing, contains_one as only_one}
use Rattle.cw_lemmas.proofs.Options.{option_map_some as mapped}

pub kept_in : {A B : Type 0} (f : A → Option B) (xs : List A) (x : A) (y : B) → In xs x → f x ≡ Some y → In (filter_map f xs) y
kept_in f [] x y n e = absurd n
kept_in f (z ∷ zs) x y (inl i) e = subst (λ o. In (cons_option o (filter_map f zs)) y) (sym (ap f i ∙ e)) (inl refl)
kept_in {B = B} f (z ∷ zs) x y (inr n) e = more (f z) (filter_map f zs) (kept_in f zs x y n e)
  where
    more : (o : Option B) (ys : List B) → In ys y → In (cons_option o ys) y
    more None ys n = n
    more (Some v) ys n = inr n

kept_from : {A B : Type 0} (f : A → Option B) (xs : List A) (y : B) → In (filter_map f xs) y → (x : A) × (f x ≡ Some y)
kept_from f [] y n = absurd n
kept_from {A = A} {B = B} f (z ∷ zs) y n = by (f z) refl n (kept_from f zs y)
  where
    by : (o : Option B) → f z ≡ o → In (cons_option o (filter_map f zs)) y → (In (filter_map f zs) y → (x : A) × (f x ≡ Some y)) → (x : A) × (f x ≡ Some y)
    by None e n h = h n
    by (Some v) e (inl i) h = (z, e ∙ ap Some i)
    by (Some v) e (inr n) h = h n

the_one : {A : Type 0} (x : A) → Contains (x ∷ []) x
the_one x = of_in (x ∷ []) x (inl refl)

-- two sets that a call promises are one
pub full_is : (g : Game) (call : Called) (q e a b : ℕ) → IsFull g call q e a → IsFull g call q e b → a ≡ b
unfolding has_member
full_is g call q e a b f h = same_from_members a b (λ x. same_bools (has a x) (has b x) (within f h x) (within h f x))
  where
    within : {c d : ℕ} → IsFull g call q e c → IsFull g call q e d → (x : ℕ) → has c x ≡ true → has d x ≡ true
    within {c} {d} f h x t = by (has d x) refl
      where
        by : (o : Bool) → has d x ≡ o → has d x ≡ true
        by true k = k
        by false k = absurd (f.kept x t (h.left_out x (f.states x t) k))

module _ (g : Game) (staged : AreStaged g) (lost : (p q e : ℕ) → Bool) (set : (p q e : ℕ) → ℕ) (right : AreRight g lost set) where
  abbrev start : Key
  start = key (g.entry g.main) g.states.start (all_states g)

  abbrev Live : Key → Type 0
  Live k = IsLive g k.pos k.state k.promise

  -- forth
  visit_live : (k b : Key) → Live k → (o : Option Spot) → slice_get g.spots k.pos ≡ o → Contains (visited g lost set k o) b → Live b
  visit_live k b live (Some (Visit j i a)) es c = by (lost (k.pos + 2) k.state k.promise) refl c
    where
      by : (l : Bool) → lost (k.pos + 2) k.state k.promise ≡ l → Contains (key (cond l (k.pos + 1) (k.pos + 2)) k.state k.promise ∷ []) b → Live b
      by true l c = subst Live (only_one _ b c) (tries k.pos k.state k.promise j i a live es (right.skip_lost k.pos k.state k.promise j i a live es l))
      by false l c = subst Live (only_one _ b c) (skips k.pos k.state k.promise j i a live es (right.skip_kept k.pos k.state k.promise j i a live es l))
  visit_live k b live _ es c = absurd (nothing b c)

  call_live : (k b : Key) → Live k → (o : Option Called) → call_in (slice_get g.spots k.pos) ≡ o → Contains (begun g lost set k o) b → Live b
  call_live k b live None es c = absurd (nothing b c)
  call_live k b live (Some call) es c = subst Live (only_one _ b c) (calls k.pos k.state k.promise (set k.pos k.state k.promise) call live es (right.full k.pos k.state k.promise call live es))

  move_live : (k b : Key) → Live k → (o : Option Spot) → slice_get g.spots k.pos ≡ o → Contains (answered g lost set k o) b → Live b
  move_live k b live o es c = by (weavers_in o) (is_call_in o) refl refl c
    where
      by : (w v : Bool) → weavers_in o ≡ w → is_call_in o ≡ v
          → Contains (cond (w || v) [] (filter_map (λ by. option_map (λ (c : Config). key c.pos c.state k.promise) (leads_in g k.pos k.state [] o by)) moves_on)) b → Live b
      by true v ew ev c = absurd (nothing b c)
      by false true ew ev c = absurd (nothing b c)
      by false false ew ev c =
          let z = kept_from (λ by. option_map (λ (c : Config). key c.pos c.state k.promise) (leads_in g k.pos k.state [] o by)) moves_on b (in_of _ b c) in
          let y = mapped (λ (c : Config). key c.pos c.state k.promise) (leads_in g k.pos k.state [] o z.0) b z.1 in
          subst Live y.2 (moves k.pos k.state k.promise z.0 y.0 live (ap weavers_in es ∙ ew) (ap is_call_in es ∙ ev) (ap (λ o. leads_in g k.pos k.state [] o z.0) es ∙ y.1))

  resume_live : (k b : Key) → Live k → (o : Option (ℕ × ℕ)) → resumed g k.pos k.state ≡ o → Contains (gone_on g lost set k o) b → Live b
  resume_live k b live None es c = absurd (nothing b c)
  resume_live k b live (Some pair) es c = by (lost pair.0 pair.1 k.promise) refl c
    where
      by : (l : Bool) → lost pair.0 pair.1 k.promise ≡ l → Contains (cond l [] (key pair.0 pair.1 k.promise ∷ [])) b → Live b
      by true l c = absurd (nothing b c)
      by false l c = subst Live (only_one _ b c) (goes_on k.pos k.state k.promise pair live es (right.on_kept k.pos k.state k.promise pair live es l))

  after_live : (k b : Key) → Live k → Contains (after g lost set k (slice_get g.spots k.pos)) b → Live b
  after_live k b live c =
      let o = slice_get g.spots k.pos in
      let r = resumed g k.pos k.state in
      ⊎_elim
      (λ d. ⊎_elim (λ v. visit_live k b live o refl v) (λ v. call_live k b live (call_in o) refl v) (Contains-append_cases (visited g lost set k o) (begun g lost set k (call_in o)) b d))
      (λ d. ⊎_elim (λ v. move_live k b live o refl v) (λ v. resume_live k b live r refl v) (Contains-append_cases (answered g lost set k o) (gone_on g lost set k r) b d))
      (Contains-append_cases (visited g lost set k o ++ begun g lost set k (call_in o)) (answered g lost set k o ++ gone_on g lost set k r) b c)

  ends_at : (k : Key) (o : Option Spot) (x : ℕ × ℕ) → ends g lost set k o ≡ Some x → (k.pos, k.promise) ≡ x
  ends_at k o x e = (cond_some (is_exit_in o) (k.pos, k.promise) x e).1

  join_live : (a b : Key) (x : ℕ × ℕ) → Live a → Live b → (o : Option Called) → call_in (slice_get g.spots a.pos) ≡ o → waits g lost set a o ≡ Some x
      → ends g lost set b (slice_get g.spots b.pos) ≡ Some x → Live (back g lost set a o b)
  join_live a b x la lb None es w e = la
  join_live a b x la lb (Some call) es w e =
      let z : (g.exit call.function, set a.pos a.state a.promise) ≡ (b.pos, b.promise) = same_Some (g.exit call.function, set a.pos a.state a.promise) x w
      ∙ sym (ends_at b (slice_get g.spots b.pos) x e) in
      let l : IsLive g (g.exit call.function) b.state (set a.pos a.state a.promise) = subst (λ (y : ℕ × ℕ). IsLive g y.0 b.state y.1) (sym z) lb in
      returns a.pos a.state a.promise (set a.pos a.state a.promise) b.state call la es (right.full a.pos a.state a.promise call la es) l

  pub member_live : (k : Key) → IsMember (rules g lost set) start k → Live k
  member_live k first = begins
  member_live k (then a b m c) = after_live a b (member_live a m) c
  member_live k (joins a b x m n w e) = join_live a b x (member_live a m) (member_live b n) (call_in (slice_get g.spots a.pos)) refl w e

  -- back
  in_moves : (p q : ℕ) (o : Option Spot) (by : Move) (c : Config) → weavers_in o ≡ false → leads_in g p q [] o by ≡ Some c → In moves_on by
  in_moves p q o Grant c w l = inl refl
  in_moves p q o Refuse c w l = inr (inl refl)
  in_moves p q o On c w l = inr (inr (inl refl))
  in_moves p q o Left c w l = inr (inr (inr (inl refl)))
  in_moves p q o Right c w l = inr (inr (inr (inr (inl refl))))
  in_moves p q o Opened c w l = inr (inr (inr (inr (inr (inl refl)))))
  in_moves p q o Failed c w l = inr (inr (inr (inr (inr (inr (inl refl))))))
  in_moves p q (Some (Visit j i a)) Skip c w l = cc
  in_moves p q _ Skip c w l = absurd (none-some c l)
  in_moves p q (Some (Visit j i a)) Try c w l = cc
  in_moves p q _ Try c w l = absurd (none-some c l)
  in_moves p q (Some (Visit j i a)) Stop c w l = cc
  in_moves p q _ Stop c w l = absurd (none-some c l)

  to_visited : (k b : Key) → Contains (visited g lost set k (slice_get g.spots k.pos)) b → Contains (after g lost set k (slice_get g.spots k.pos)) b
  to_visited k b c =
      let o = slice_get g.spots k.pos in
      let r = resumed g k.pos k.state in
      Contains-append_left (visited g lost set k o ++ begun g lost set k (call_in o)) (answered g lost set k o ++ gone_on g lost set k r) b
      (Contains-append_left (visited g lost set k o) (begun g lost set k (call_in o)) b c)

  to_begun : (k b : Key) → Contains (begun g lost set k (call_in (slice_get g.spots k.pos))) b → Contains (after g lost set k (slice_get g.spots k.pos)) b
  to_begun k b c =
      let o = slice_get g.spots k.pos in
      let r = resumed g k.pos k.state in
      Contains-append_left (visited g lost set k o ++ begun g lost set k (call_in o)) (answered g lost set k o ++ gone_on g lost set k r) b
      (Contains-append_right (visited g lost set k o) (begun g lost set k (call_in o)) b c)

  to_answered : (k b : Key) → Contains (answered g lost set k (slice_get g.spots k.pos)) b → Contains (after g lost set k (slice_get g.spots k.pos)) b
  to_answered k b c =
      let o = slice_get g.spots k.pos in
      let r = resumed g k.pos k.state in
      Contains-append_right (visited g lost set k o ++ begun g lost set k (call_in o)) (answered g lost set k o ++ gone_on g lost set k r) b
      (Contains-append_left (answered g lost set k o) (gone_on g lost set k r) b c)

  to_gone : (k b : Key) → Contains (gone_on g lost set k (resumed g k.pos k.state)) b → Contains (after g lost set k (slice_get g.spots k.pos)) b
  to_gone k b c =
      let o = slice_get g.spots k.pos in
      let r = resumed g k.pos k.state in
      Contains-append_right (visited g lost set k o ++ begun g lost set k (call_in o)) (answered g lost set k o ++ gone_on g lost set k r) b
      (Contains-append_right (answered g lost set k o) (gone_on g lost set k r) b c)

  visit_to : (p q e j i : ℕ) (a : Primitive) (l : Bool) → slice_get g.spots p ≡ Some (Visit j i a) → lost (p + 2) q e ≡ l
      → Contains (visited g lost set (key p q e) (slice_get g.spots p)) (key (cond l (p + 1) (p + 2)) q e)
  visit_to p q e j i a l es el =
      subst (λ o. Contains (visited g lost set (key p q e) o) (key (cond l (p + 1) (p + 2)) q e)) (sym es)
      (subst (λ b. Contains (key (cond b (p + 1) (p + 2)) q e ∷ []) (key (cond l (p + 1) (p + 2)) q e)) (sym el) (the_one (key (cond l (p + 1) (p + 2)) q e)))

  move_to : (p q e : ℕ) (o : Option Spot) (by : Move) (c : Config) → weavers_in o ≡ false → is_call_in o ≡ false → leads_in g p q [] o by ≡ Some c
      → Contains (answered g lost set (key p q e) o) (key c.pos c.state e)
  move_to p q e o by c w k l =
      subst (λ b. Contains (cond b [] (filter_map (λ by. option_map (λ (c : Config). key c.pos c.state e) (leads_in g p q [] o by)) moves_on)) (key c.pos c.state e)) (sym (ap₂ (λ x y. x || y) w k))
      (of_in _ _ (kept_in (λ by. option_map (λ (c : Config). key c.pos c.state e) (leads_in g p q [] o by)) moves_on by (key c.pos c.state e) (in_moves p q o by c w l)
      (ap (option_map (λ (c : Config). key c.pos c.state e)) l)))

  pub live_member : (p q e : ℕ) → IsLive g p q e → IsMember (rules g lost set) start (key p q e)
  live_member p q e begins = first
  live_member r x y (skips p q e j i a live es n) =
      let l = false_from_ne_true (lost (p + 2) q e) (λ t. n (right.skip_lost p q e j i a live es t)) in
      then (key p q e) (key (p + 2) q e) (live_member p q e live) (to_visited (key p q e) (key (p + 2) q e) (visit_to p q e j i a false es l))
  live_member r x y (tries p q e j i a live es k) =
      let l = true_from_ne_false (lost (p + 2) q e) (λ t. right.skip_kept p q e j i a live es t k) in
      then (key p q e) (key (p + 1) q e) (live_member p q e live) (to_visited (key p q e) (key (p + 1) q e) (visit_to p q e j i a true es l))
  live_member r x y (moves p q e by next live w k l) =
      then (key p q e) (key next.pos next.state e) (live_member p q e live) (to_answered (key p q e) (key next.pos next.state e) (move_to p q e (slice_get g.spots p) by next w k l))
  live_member r x y (goes_on p q e pair live is n) =
      let l = false_from_ne_true (lost pair.0 pair.1 e) (λ t. n (right.on_lost p q e pair live is t)) in
      then (key p q e) (key pair.0 pair.1 e) (live_member p q e live) (to_gone (key p q e) (key pair.0 pair.1 e)
      (subst (λ o. Contains (gone_on g lost set (key p q e) o) (key pair.0 pair.1 e)) (sym is)
      (subst (λ b. Contains (cond b [] (key pair.0 pair.1 e ∷ [])) (key pair.0 pair.1 e)) (sym l) (the_one (key pair.0 pair.1 e)))))
  live_member r x y (calls p q e s call live es f) =
      let same : set p q e ≡ s = full_is g call q e (set p q e) s (right.full p q e call live es) f in
      subst (λ z. IsMember (rules g lost set) start (key (g.entry call.function) q z)) same
      (then (key p q e) (key (g.entry call.function) q (set p q e)) (live_member p q e live) (to_begun (key p q e) (key (g.entry call.function) q (set p q e))
      (subst (λ o. Contains (begun g lost set (key p q e) o) (key (g.entry call.function) q (set p q e))) (sym es) (the_one (key (g.entry call.function) q (set p q e))))))
  live_member r x y (returns p q e s z call live es f ended) =
      let same : set p q e ≡ s = full_is g call q e (set p q e) s (right.full p q e call live es) f in
      let b = key (g.exit call.function) z s in
      let w : waits g lost set (key p q e) (call_in (slice_get g.spots p)) ≡ Some (g.exit call.function, s) = ap (waits g lost set (key p q e)) es ∙ ap (λ y. Some (g.exit call.function, y)) same in
      let v : ends g lost set b (slice_get g.spots (g.exit call.function)) ≡ Some (g.exit call.function, s) = ap (ends g lost set b) (staged.ends p call es) in
      subst (λ o. IsMember (rules g lost set) start (back g lost set (key p q e) o b)) es
      (joins (key p q e) b (g.exit call.function, s) (live_member p q e live) (live_member (g.exit call.function) z s ended) w v)
