-- What the search for rights states reaches are the rights states.
use Rattle.std.proofs.Common.{◌≡◌, ◌⊎◌, inl, inr, ℕ, zero, suc, ◌+◌, ◌<◌, List, [], ◌∷◌, ◌++◌, Bool, true, false, cond, Option, Some, None, length, refl, sym, ap, ◌∙◌, subst, arith, ⊎_elim}
use Rattle.std.specs.Prelude.{slice_get}
use Rattle.std.specs.List.{Contains, AllByRecursion}
use Rattle.std.specs.List.Sorted.{IsStrictlySortedBy}
use Rattle.std.specs.Ordering.{on}
use Rattle.std.specs.declared.cmp.Ordering.TheVariants.{Less}
use Rattle.std.proofs.lemmas.List.{get_or-map, length-map}
use Rattle.std.proofs.lemmas.List.Elements.{Contains-append_left, Contains-append_right, Contains-append_cases}
use Rattle.std.proofs.lemmas.Option.{none-some, same_Some}
use Rattle.cw_fixpoint.specs.Closures.{Reached, first, then, Exactly, HasMore}
use Rattle.cw_rights.specs.declared.capabilities.Rights.{Rights}
use Rattle.cw_rights.specs.declared.capabilities.Caps.{Caps}
use Rattle.cw_rights.specs.declared.capabilities.Limit.{Limit as ALimit}
use Rattle.cw_rights.specs.declared.capabilities.Primitive.TheVariants.{Limit, Enter}
use Rattle.cw_rights.specs.declared.capabilities.Allowed.{Allowed}
use Rattle.cw_rights.specs.declared.capabilities.Allowed.TheVariants.{Yes, NotCapable, BadDescriptor}
use Rattle.cw_rights.specs.Capabilities.{allowed, applied, opened, closed}
use Rattle.cw_rights.specs.Policies.{PlainDescriptor, PlainPolicy, start_caps}
use Rattle.cw_model.specs.Boards.{is_yes, may_grant}
use Rattle.cw_states.specs.declared.order.Ranked.{Ranked}
use Rattle.cw_states.specs.declared.uses.Uses.{Uses}
use Rattle.cw_states.specs.Rights.{IsRightsState, at_start, by_enter, by_limit, by_open, by_close, caps_cmp}
use Rattle.cw_lemmas.proofs.Lists.{contains_none, contains_one, head_in}
use Rattle.cw_states.specs.Growing.{ranked, all_caps, after_limit, after_limits, after_open, is_true, is_closed, after_close, after_held, after}
use Rattle.cw_states.proofs.Meaning.{yes_is}

true_is : (o : Option Bool) → is_true o ≡ true → o ≡ Some true
true_is None e = cc
true_is (Some b) e = ap Some e

closes_is : (n : Option ℕ) (o : Option Bool) → is_closed n o ≡ true → (n ≡ None) ⊎ (o ≡ Some true)
closes_is None o e = inl refl
closes_is (Some n) o e = inr (true_is o e)

is_closes : (n : Option ℕ) (o : Option Bool) → (n ≡ None) ⊎ (o ≡ Some true) → is_closed n o ≡ true
is_closes n o (inl e) = ap (λ n. is_closed n o) e
is_closes None o (inr e) = refl
is_closes (Some n) o (inr e) = ap is_true e

module _ (policy : PlainPolicy) (uses : Uses) where
  abbrev Is : Caps → Type 0
  Is c = IsRightsState policy uses c

  abbrev pub step : Ranked → List Ranked
  step k = after policy uses k.caps

  abbrev pub starts : List Ranked
  starts = ranked (start_caps policy) ∷ []

  -- ---- what follows a rights state is one

  from_limit : (c : Caps) (limit : ALimit) → Contains policy.limits limit → Is c → (r : Ranked) → Contains (after_limit c limit) r → Is r.caps
  from_limit c limit there is r h = by (may_grant c (Limit limit)) refl h
    where
      by : (b : Bool) → may_grant c (Limit limit) ≡ b → Contains (cond b (ranked (applied c (Limit limit)) ∷ []) []) r → Is r.caps
      by true e h =
          subst (λ (k : Ranked). Is k.caps) (contains_one (ranked (applied c (Limit limit))) r h)
          (by_limit c limit there (yes_is (allowed c limit) e) is)
      by false e h = absurd (contains_none r h)

  from_limits : (c : Caps) (limits : List ALimit) → ((l : ALimit) → Contains limits l → Contains policy.limits l) → Is c → (r : Ranked)
      → Contains (after_limits c limits) r → Is r.caps
  from_limits c [] sub is r h = absurd (contains_none r h)
  from_limits c (l ∷ ls) sub is r h = ⊎_elim (λ h. from_limit c l (sub l (head_in l ls)) is r h)
      (λ h. from_limits c ls (λ x n. sub x (Contains-append_right (l ∷ []) ls x n)) is r h)
      (Contains-append_cases (after_limit c l) (after_limits c ls) r h)

  from_open : (c : Caps) (d : ℕ) (descriptor : PlainDescriptor) → slice_get policy.descriptors d ≡ Some descriptor → Is c → (n : Option ℕ)
      → descriptor.number ≡ n
      → (r : Ranked) → Contains (after_open n descriptor.rights d c) r → Is r.caps
  from_open c d descriptor at is None e r h =
      subst (λ (k : Ranked). Is k.caps) (contains_one (ranked (opened c d descriptor.rights)) r h) (by_open c d descriptor (at, e) is)
  from_open c d descriptor at is (Some n) e r h = absurd (contains_none r h)

  from_close : (c : Caps) (d : ℕ) (descriptor : PlainDescriptor) → slice_get policy.descriptors d ≡ Some descriptor → Is c → (b : Bool)
      → is_closed descriptor.number (slice_get uses.closes d) ≡ b → (r : Ranked) → Contains (after_close b d c) r → Is r.caps
  from_close c d descriptor at is true e r h =
      subst (λ (k : Ranked). Is k.caps) (contains_one (ranked (closed c d)) r h)
      (by_close c d (descriptor, at, closes_is descriptor.number (slice_get uses.closes d) e) is)
  from_close c d descriptor at is false e r h = absurd (contains_none r h)

  from_held : (c : Caps) (ds : List PlainDescriptor) (d : ℕ) → ((k : ℕ) → slice_get ds k ≡ slice_get policy.descriptors (d + k)) → Is c
      → (r : Ranked) → Contains (after_held uses ds d c) r → Is r.caps
  from_held c [] d at is r h = absurd (contains_none r h)
  from_held c (x ∷ rest) d at is r h =
      let same : d + 0 ≡ d = omega arith in
      let here : slice_get policy.descriptors d ≡ Some x = ap (slice_get policy.descriptors) (sym same) ∙ sym (at 0) in
      ⊎_elim (λ h. from_open c d x here is x.number refl r h)
      (λ h. ⊎_elim (λ h. from_close c d x here is (is_closed x.number (slice_get uses.closes d)) refl r h)
      (λ h. from_held c rest (d + 1) (λ k. let e : d + suc k ≡ d + 1 + k = omega arith in at (suc k) ∙ ap (slice_get policy.descriptors) e) is r h)
      (Contains-append_cases (after_close (is_closed x.number (slice_get uses.closes d)) d c) (after_held uses rest (d + 1) c) r h))
      (Contains-append_cases (after_open x.number x.rights d c) (after_close (is_closed x.number (slice_get uses.closes d)) d c
      ++ after_held uses rest (d + 1) c) r h)

  from_step : (k r : Ranked) → Is k.caps → Contains (step k) r → Is r.caps
  from_step k r is h =
      let c = k.caps in
      ⊎_elim (λ h. subst (λ (x : Ranked). Is x.caps) (contains_one (ranked (applied c Enter)) r h) (by_enter c is))
      (λ h. ⊎_elim (λ h. from_limits c policy.limits (λ l n. n) is r h)
      (λ h. from_held c policy.descriptors 0 (λ k. let e : k ≡ 0 + k = omega arith in ap (slice_get policy.descriptors) e) is r h)
      (Contains-append_cases (after_limits c policy.limits) (after_held uses policy.descriptors 0 c) r h))
      (Contains-append_cases (ranked (applied c Enter) ∷ []) (after_limits c policy.limits ++ after_held uses policy.descriptors 0 c) r h)

  pub reached : (k : Ranked) → Reached step starts k → Is k.caps
  reached k (first q h) = subst (λ (x : Ranked). Is x.caps) (contains_one (ranked (start_caps policy)) k h) at_start
  reached k (then a b r h) = from_step a k (reached a r) h

  -- ---- and each rights state is reached

  in_limit : (c : Caps) (limit : ALimit) → allowed c limit ≡ Yes → Contains (after_limit c limit) (ranked (applied c (Limit limit)))
  in_limit c limit e =
      subst (λ b. Contains (cond b (ranked (applied c (Limit limit)) ∷ []) []) (ranked (applied c (Limit limit)))) (sym (ap is_yes e))
      (head_in (ranked (applied c (Limit limit))) [])

  in_limits : (c : Caps) (limits : List ALimit) (limit : ALimit) → Contains limits limit → allowed c limit ≡ Yes
      → Contains (after_limits c limits) (ranked (applied c (Limit limit)))
  in_limits c [] limit there e = absurd (contains_none limit there)
  in_limits c (l ∷ ls) limit there e =
      let to = ranked (applied c (Limit limit)) in
      ⊎_elim (λ h. Contains-append_left (after_limit c l) (after_limits c ls) to
      (subst (λ x. Contains (after_limit c x) to) (sym (contains_one l limit h)) (in_limit c limit e)))
      (λ h. Contains-append_right (after_limit c l) (after_limits c ls) to (in_limits c ls limit h e)) (Contains-append_cases (l ∷ []) ls limit there)

  in_open : (c : Caps) (d : ℕ) (n : Option ℕ) (rights : Rights) → n ≡ None → Contains (after_open n rights d c) (ranked (opened c d rights))
  in_open c d None rights e = head_in (ranked (opened c d rights)) []
  in_open c d (Some n) rights e = absurd (cc)

  in_close : (c : Caps) (d : ℕ) (b : Bool) → b ≡ true → Contains (after_close b d c) (ranked (closed c d))
  in_close c d true e = head_in (ranked (closed c d)) []
  in_close c d false e = absurd (cc)

  opens_in : (c : Caps) (ds : List PlainDescriptor) (d k e : ℕ) (descriptor : PlainDescriptor) → e ≡ d + k → slice_get ds k ≡ Some descriptor
      → descriptor.number ≡ None
      → Contains (after_held uses ds d c) (ranked (opened c e descriptor.rights))
  opens_in c [] d k e descriptor s at var = absurd (none-some descriptor at)
  opens_in c (x ∷ rest) d zero e descriptor s at var =
      let here : x ≡ descriptor = same_Some x descriptor at in
      let same : d ≡ e = omega arith in
      let one =
      subst (λ (y : PlainDescriptor). Contains (after_open x.number x.rights d c) (ranked (opened c d y.rights))) here
      (in_open c d x.number x.rights (ap (λ (y : PlainDescriptor). y.number) here ∙ var)) in
      Contains-append_left (after_open x.number x.rights d c) (after_close (is_closed x.number (slice_get uses.closes d)) d c
      ++ after_held uses rest (d + 1) c) (ranked (opened c e descriptor.rights))
      (subst (λ n. Contains (after_open x.number x.rights d c) (ranked (opened c n descriptor.rights))) same one)
  opens_in c (x ∷ rest) d (suc k) e descriptor s at var =
      let to = ranked (opened c e descriptor.rights) in
      let next : e ≡ d + 1 + k = omega arith in
      Contains-append_right (after_open x.number x.rights d c) (after_close (is_closed x.number (slice_get uses.closes d)) d c
      ++ after_held uses rest (d + 1) c) to
      (Contains-append_right (after_close (is_closed x.number (slice_get uses.closes d)) d c) (after_held uses rest (d + 1) c) to
      (opens_in c rest (d + 1) k e descriptor next at var))

  closes_in : (c : Caps) (ds : List PlainDescriptor) (d k e : ℕ) (descriptor : PlainDescriptor) → e ≡ d + k → slice_get ds k ≡ Some descriptor
      → is_closed descriptor.number (slice_get uses.closes e) ≡ true → Contains (after_held uses ds d c) (ranked (closed c e))
  closes_in c [] d k e descriptor s at may = absurd (none-some descriptor at)
  closes_in c (x ∷ rest) d zero e descriptor s at may =
      let here : descriptor ≡ x = sym (same_Some x descriptor at) in
      let same : e ≡ d = omega arith in
      let is : is_closed x.number (slice_get uses.closes d) ≡ true =
      subst (λ (y : PlainDescriptor). is_closed y.number (slice_get uses.closes d) ≡ true) here
      (subst (λ n. is_closed descriptor.number (slice_get uses.closes n) ≡ true) same may) in
      let b = is_closed x.number (slice_get uses.closes d) in
      let to = ranked (closed c e) in
      Contains-append_right (after_open x.number x.rights d c) (after_close b d c ++ after_held uses rest (d + 1) c) to
      (Contains-append_left (after_close b d c) (after_held uses rest (d + 1) c) to
      (subst (λ n. Contains (after_close b d c) (ranked (closed c n))) (sym same) (in_close c d b is)))
  closes_in c (x ∷ rest) d (suc k) e descriptor s at may =
      let to = ranked (closed c e) in
      let next : e ≡ d + 1 + k = omega arith in
      Contains-append_right (after_open x.number x.rights d c) (after_close (is_closed x.number (slice_get uses.closes d)) d c
      ++ after_held uses rest (d + 1) c) to
      (Contains-append_right (after_close (is_closed x.number (slice_get uses.closes d)) d c) (after_held uses rest (d + 1) c) to
      (closes_in c rest (d + 1) k e descriptor next at may))

  past_enter : (c : Caps) (r : Ranked) → Contains (after_limits c policy.limits ++ after_held uses policy.descriptors 0 c) r
      → Contains (step (ranked c)) r
  past_enter c r h =
      Contains-append_right (ranked (applied c Enter) ∷ []) (after_limits c policy.limits ++ after_held uses policy.descriptors 0 c) r h

  past_limits : (c : Caps) (r : Ranked) → Contains (after_held uses policy.descriptors 0 c) r → Contains (step (ranked c)) r
  past_limits c r h = past_enter c r (Contains-append_right (after_limits c policy.limits) (after_held uses policy.descriptors 0 c) r h)

  pub led : (c : Caps) → Is c → Reached step starts (ranked c)
  led c at_start = first (ranked (start_caps policy)) (head_in (ranked (start_caps policy)) [])
  led c (by_enter a h) = then (ranked a) (ranked (applied a Enter)) (led a h)
      (head_in (ranked (applied a Enter)) (after_limits a policy.limits ++ after_held uses policy.descriptors 0 a))
  led c (by_limit a limit there e h) =
      let to = ranked (applied a (Limit limit)) in
      then (ranked a) to (led a h)
      (past_enter a to (Contains-append_left (after_limits a policy.limits) (after_held uses policy.descriptors 0 a) to
      (in_limits a policy.limits limit there e)))
  led c (by_open a d descriptor is h) =
      let to = ranked (opened a d descriptor.rights) in
      then (ranked a) to (led a h) (past_limits a to (opens_in a policy.descriptors 0 d d descriptor (omega arith) is.0 is.1))
  led c (by_close a d may h) =
      let to = ranked (closed a d) in
      then (ranked a) to (led a h)
      (past_limits a to (closes_in a policy.descriptors 0 d d may.0 (omega arith) may.1 (is_closes may.0.number (slice_get uses.closes d) may.2)))

-- ---- the list of what is reached

all_less : (c : Caps) (xs : List Ranked) → AllByRecursion (λ (y : Ranked). caps_cmp c y.caps ≡ Less) xs
    → AllByRecursion (λ y. caps_cmp c y ≡ Less) (all_caps xs)
all_less c [] a = tt
all_less c (x ∷ xs) (l, a) = (l, all_less c xs a)

sorted_caps : (xs : List Ranked) → IsStrictlySortedBy (on (λ (r : Ranked). r.caps) caps_cmp) xs → IsStrictlySortedBy caps_cmp (all_caps xs)
unfolding IsStrictlySortedBy
sorted_caps [] s = tt
sorted_caps (x ∷ xs) (a, s) = (all_less x.caps xs a, sorted_caps xs s)

in_caps : (xs : List Ranked) (r : Ranked) → Contains xs r → Contains (all_caps xs) r.caps
in_caps xs r (k, l, e) = let n = length-map xs (λ (r : Ranked). r.caps) in
    (k, omega (arith, l, n), get_or-map (λ (r : Ranked). r.caps) xs k r r.caps l ∙ ap (λ (r : Ranked). r.caps) e)

of_caps : (xs : List Ranked) (c : Caps) → Contains (all_caps xs) c → Contains xs (ranked c)
of_caps xs c (k, l, e) =
    let n = length-map xs (λ (r : Ranked). r.caps) in
    let within : k < length xs = omega (arith, l, n) in
    (k, within, ap ranked (sym (get_or-map (λ (r : Ranked). r.caps) xs k (ranked c) c within) ∙ e))

module _ (policy : PlainPolicy) (uses : Uses) (begin : Caps) (begins : begin ≡ start_caps policy) where
  pub exactly_caps : (xs : List Ranked) → Exactly (on (λ (r : Ranked). r.caps) caps_cmp) (Reached (step policy uses) (ranked begin ∷ [])) xs
      → Exactly caps_cmp (IsRightsState policy uses) (all_caps xs)
  exactly_caps xs all =
      let h = subst (λ c. Exactly (on (λ (r : Ranked). r.caps) caps_cmp) (Reached (step policy uses) (ranked c ∷ [])) xs) begins all in (
        sorted_caps xs h.0,
        λ c. (
          λ n. reached policy uses (ranked c) ((h.1 (ranked c)).0 (of_caps xs c n)),
          λ is. in_caps xs (ranked c)
              ((h.1 (ranked c)).1 (led policy uses c is)),
        ),
      )

  pub more_caps : (n : ℕ) → HasMore (on (λ (r : Ranked). r.caps) caps_cmp) (Reached (step policy uses) (ranked begin ∷ [])) n
      → HasMore caps_cmp (IsRightsState policy uses) n
  more_caps n all =
      let h = subst (λ c. HasMore (on (λ (r : Ranked). r.caps) caps_cmp) (Reached (step policy uses) (ranked c ∷ [])) n) begins all in
      let m = length-map h.0 (λ (r : Ranked). r.caps) in
      let l = h.3 in
      (all_caps h.0, sorted_caps h.0 h.1, λ c i. reached policy uses (ranked c) (h.2 (ranked c) (of_caps h.0 c i)), omega (arith, l, m))
