-- Flags whose ranks are kept, and those whose indices are.
use Rattle.std.proofs.Common.{◌≡◌, ℕ, zero, suc, ◌+◌, ◌<◌, ◌≤◌, Bool, true, false, cond, List, [], ◌∷◌, ◌++◌, length, get_or, replicate, refl, sym, ap, ◌∙◌, arith, inl, inr}
use Rattle.std.proofs.lemmas.Bool.{cases_order, cases_lt, false≢true}
use Rattle.std.proofs.lemmas.List.{map-append, length-append, length-map, get_or_append_left, get_or_past}
use Rattle.cw_links.specs.Flags.{is_flagged, number, rank}
use Rattle.cw_links.specs.Marked.{AreMarked}
use Rattle.cw_links.specs.Ranked.{is_some, flags_of, AreRanked}
use Rattle.cw_links.proofs.Plain.{number-plain}
use Rattle.cw_links.proofs.Ranks.{number-none, number-append, number_push, rank-append, rank_all, flagged_within}

-- ---- ranks by index

-- an index is flagged where its number is one more than a rank
pub flag_read : (ranks : List ℕ) (index : ℕ) → is_flagged (flags_of ranks) index ≡ is_some (get_or ranks index 0)
flag_read [] zero = refl
flag_read [] (suc index) = refl
flag_read (r ∷ ranks) zero = refl
flag_read (r ∷ ranks) (suc index) = flag_read ranks index

pub some_is : (n : ℕ) → is_some n ≡ true → 0 < n
some_is zero e = absurd (false≢true e)
some_is (suc n) e = omega arith

pub is_some_of : (n : ℕ) → 0 < n → is_some n ≡ true
is_some_of zero lt = absurd (omega (arith, lt))
is_some_of (suc n) lt = refl

pub length-flags_of : (ranks : List ℕ) → length (flags_of ranks) ≡ length ranks
length-flags_of ranks = length-map ranks is_some

none_read : (ranks : List ℕ) (index : ℕ) → length ranks ≡ 0 → get_or ranks index 0 ≡ 0
none_read ranks index none = get_or_past ranks index 0 (omega (arith, none))

pub none_ranked : AreRanked [] 0
none_ranked = record { few = omega arith; are = λ index lt. absurd (omega (arith, lt, none_read [] index refl)); all = sym number-none }

pub flags_more : (ranks : List ℕ) (r : ℕ) → flags_of (ranks ++ r ∷ []) ≡ flags_of ranks ++ is_some r ∷ []
flags_more ranks r = map-append is_some ranks (r ∷ [])

module _ (ranks : List ℕ) (flagged : ℕ) (are : AreRanked ranks flagged) (few : length ranks < 4294967295) where
  -- the ranks of the indices that were there stay
  old_rank : (r index : ℕ) → index < length ranks → 0 < get_or (ranks ++ r ∷ []) index 0 → get_or (ranks ++ r ∷ []) index 0 ≡ rank (flags_of (ranks ++ r ∷ [])) index + 1
  old_rank r index lt some =
      let same : get_or (ranks ++ r ∷ []) index 0 ≡ get_or ranks index 0 = get_or_append_left ranks (r ∷ []) 0 index lt in
      let long = length-flags_of ranks in
      same ∙ are.are index (omega (arith, same, some))
      ∙ ap (λ (n : ℕ). n + 1) (sym (rank-append (flags_of ranks) (is_some r ∷ []) index (omega (arith, lt, long))) ∙ ap (λ (ms : List Bool). rank ms index) (sym (flags_more ranks r)))

  last_read : (r : ℕ) → get_or (ranks ++ r ∷ []) (length ranks) 0 ≡ r
  last_read r = at ranks
    where
      at : (xs : List ℕ) → get_or (xs ++ r ∷ []) (length xs) 0 ≡ r
      at [] = refl
      at (x ∷ xs) = at xs

  -- and the last one has its own
  each_rank : (r : ℕ) → (0 < r → r ≡ flagged + 1) → (index : ℕ) → 0 < get_or (ranks ++ r ∷ []) index 0
      → get_or (ranks ++ r ∷ []) index 0 ≡ rank (flags_of (ranks ++ r ∷ [])) index + 1
  each_rank r is index some =
      elim (cases_order index (length ranks)) [
        | inr (inl lt) ↦ old_rank r index lt some
        | inr (inr gt) ↦
            let past = get_or_past (ranks ++ r ∷ []) index 0 (omega (arith, gt, length-append ranks (r ∷ []))) in
            absurd (omega (arith, past, some))
        | inl e ↦
            let long = length-flags_of ranks in
            let here : get_or (ranks ++ r ∷ []) index 0 ≡ r = ap (λ (k : ℕ). get_or (ranks ++ r ∷ []) k 0) e ∙ last_read r in
            let counts : rank (flags_of (ranks ++ r ∷ [])) index ≡ flagged
            = ap (λ (ms : List Bool). rank ms index) (flags_more ranks r) ∙ rank-append (flags_of ranks) (is_some r ∷ []) index (omega (arith, e, long))
            ∙ rank_all (flags_of ranks) index (omega (arith, e, long)) ∙ sym are.all in
            omega (arith, here, counts, is (omega (arith, here, some)))
      ]

  pub ranked_more : AreRanked (ranks ++ (flagged + 1) ∷ []) (flagged + 1)
  ranked_more = record {
    few = omega (arith, few, length-append ranks ((flagged + 1) ∷ []));
    are = each_rank (flagged + 1) (λ lt. refl);
    all = omega (
      arith,
      are.all,
      number_push (flags_of ranks) (is_some (flagged + 1)),
      ap (λ (b : Bool). cond {A = ℕ} b 1 0) (is_some_of (flagged + 1) (omega arith)),
      ap number (flags_more ranks (flagged + 1)),
    );
  }

  pub unranked_more : AreRanked (ranks ++ 0 ∷ []) flagged
  unranked_more = record {
    few = omega (arith, few, length-append ranks (0 ∷ []));
    are = each_rank 0 (λ lt. absurd (omega (arith, lt)));
    all = omega (arith, are.all, number_push (flags_of ranks) false, ap number (flags_more ranks 0));
  }

-- ---- indices by rank

pub none_marked : AreMarked [] []
none_marked = record {
  few = omega arith;
  all = sym number-none;
  flagged = λ link lt. absurd (omega (arith, lt, number-none));
  ranked = λ link lt. absurd (omega (arith, lt, number-none));
}

module _ (flags : List Bool) (indices : List ℕ) (are : AreMarked flags indices) where
  -- where further flags come at the end, what was there stays
  kept_flag : (more : List Bool) (link : ℕ) → link < number flags → is_flagged (flags ++ more) (get_or indices link 0) ≡ true
  kept_flag more link lt =
      let within = flagged_within flags (get_or indices link 0) (are.flagged link lt) in
      get_or_append_left flags more false (get_or indices link 0) within ∙ are.flagged link lt

  kept_rank : (more : List Bool) (link : ℕ) → link < number flags → rank (flags ++ more) (get_or indices link 0) ≡ link
  kept_rank more link lt =
      let within = flagged_within flags (get_or indices link 0) (are.flagged link lt) in
      rank-append flags more (get_or indices link 0) (omega (arith, within)) ∙ are.ranked link lt

  pub plain_marked : (many : ℕ) → length (flags ++ replicate many false) ≤ 4294967295 → AreMarked (flags ++ replicate many false) indices
  plain_marked many few =
      let same : number (flags ++ replicate many false) ≡ number flags = omega (arith, number-append flags (replicate many false), number-plain many) in
      record {
        few = few;
        all = are.all ∙ sym same;
        flagged = λ link lt. kept_flag (replicate many false) link (omega (arith, lt, same));
        ranked = λ link lt. kept_rank (replicate many false) link (omega (arith, lt, same));
      }

  last_flag : (xs : List Bool) → get_or (xs ++ true ∷ []) (length xs) false ≡ true
  last_flag [] = refl
  last_flag (x ∷ xs) = last_flag xs

  last_index : (xs : List ℕ) (n : ℕ) → get_or (xs ++ n ∷ []) (length xs) 0 ≡ n
  last_index [] n = refl
  last_index (x ∷ xs) n = last_index xs n

  -- the index of a link that was there, and that of the last one
  index_kept : (n link : ℕ) → link < number flags → get_or (indices ++ n ∷ []) link 0 ≡ get_or indices link 0
  index_kept n link lt = get_or_append_left indices (n ∷ []) 0 link (omega (arith, lt, are.all))

  index_last : (n link : ℕ) → link ≡ number flags → get_or (indices ++ n ∷ []) link 0 ≡ n
  index_last n link e = ap (λ (k : ℕ). get_or (indices ++ n ∷ []) k 0) (omega (arith, e, are.all)) ∙ last_index indices n

  pub marked_more : length flags < 4294967295 → AreMarked (flags ++ true ∷ []) (indices ++ length flags ∷ [])
  marked_more few =
      let one : number (flags ++ true ∷ []) ≡ number flags + 1 = number_push flags true in
      let new = indices ++ length flags ∷ [] in
      record {
        few = omega (arith, few, length-append flags (true ∷ []));
        all = omega (arith, one, are.all, length-append indices (length flags ∷ []));
        flagged = λ link lt.
            elim (cases_lt link (number flags)) [
              | inl old ↦ ap (λ (k : ℕ). is_flagged (flags ++ true ∷ []) k) (index_kept (length flags) link old) ∙ kept_flag (true ∷ []) link old
              | inr le ↦ ap (λ (k : ℕ). is_flagged (flags ++ true ∷ []) k) (index_last (length flags) link (omega (arith, le, lt, one))) ∙ last_flag flags
            ];
        ranked = λ link lt.
            elim (cases_lt link (number flags)) [
              | inl old ↦ ap (λ (k : ℕ). rank (flags ++ true ∷ []) k) (index_kept (length flags) link old) ∙ kept_rank (true ∷ []) link old
              | inr le ↦
                  let e : link ≡ number flags = omega (arith, le, lt, one) in
                  ap (λ (k : ℕ). rank (flags ++ true ∷ []) k) (index_last (length flags) link e) ∙ rank-append flags (true ∷ []) (length flags) (omega arith)
                  ∙ rank_all flags (length flags) (omega arith) ∙ sym e
            ];
      }
