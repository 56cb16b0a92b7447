-- A context is added, with its indices: what stands in the store then.
use Rattle.std.proofs.Common.{◌≡◌, ℕ, ◌+◌, ◌-◌, ◌*◌, ◌<◌, ◌≤◌, List, [], ◌∷◌, ◌++◌, cond, true, length, get_or, take, replicate, refl, sym, ap, ◌∙◌, subst, arith, inl, inr}
use Rattle.std.specs.Prelude.{slice_get, slice_index, count_by}
use Rattle.std.proofs.lemmas.Bool.{cases_lt}
use Rattle.std.proofs.lemmas.List.{length-replicate, length-append, length_push, get_or-replicate, get_or_past, get_or_append_left, get_or-append_right, take-append-le, take_all}
use Rattle.std.proofs.lemmas.List.Sums.{sum_by-append, sum_by_push}
use Rattle.std.proofs.lemmas.Option.{slice_get_within}
use Rattle.cw_lemmas.proofs.Lists.{get_last, get_front}
use Rattle.cw_game.specs.Games.{Game}
use Rattle.cw_game.specs.Pairs.{Called}
use Rattle.cw_links.specs.Flags.{is_flagged}
use Rattle.cw_solve.specs.declared.contexts.Context.{Context}
use Rattle.cw_solve.specs.Contexts.{size, cells_of, AreNeeded}
use Rattle.cw_solve.specs.Rounds.{base, positions, IsCell}
use Rattle.cw_solve.specs.Tables.{is_none, AreTabled}
use Rattle.cw_solve.proofs.Fresh.{none_written, values_more}
use Rattle.cw_solve.proofs.Slots.{within, slot_within}
use Rattle.cw_linked.specs.declared.work.Work.{Work}
use Rattle.cw_linked.specs.Added.{IsLaid, Pushes}
use Rattle.cw_linked.specs.Calls.{AreCallers}
use Rattle.cw_linked.specs.Founds.{IsLink}
use Rattle.cw_linked.specs.Queues.{AreLong, AreHigh, IsLinkAt, AreFlagged, AreDue}
use Rattle.cw_linked.specs.Works.{known_of, IsKnown, AreUpTo, index_at, value_at}
use Rattle.cw_linked.proofs.Adding.{push_cases}
use Rattle.cw_linked.proofs.Bounding.{index_is}

-- no number of a longer list is above
pub up_to_append : (values : List ℕ) (n v most : ℕ) → v ≤ most → AreUpTo values most → AreUpTo (values ++ replicate n v) most
up_to_append values n v most le up k =
    elim (cases_lt k (length values)) [
      | inl lt ↦ let e = get_or_append_left values (replicate n v) 0 k lt in let h = up k in omega (arith, e, h)
      | inr ge ↦
          let e = get_or-append_right values (replicate n v) (length values) k 0 refl ge in
          elim (cases_lt (k - length values) n) [
            | inl lt ↦ let w = get_or-replicate n (k - length values) v 0 lt in omega (arith, e, w, le)
            | inr past ↦ let w = get_or_past (replicate n v) (k - length values) 0 (let l = length-replicate {A = ℕ} n v in omega (arith, l, past)) in omega (arith, e, w)
          ]
    ]

module _ (g : Game) (contexts : List Context) (new : Context) where
  abbrev Longer : List Context
  Longer = contexts ++ new ∷ []

  pub base_before : (i : ℕ) → i ≤ length contexts → base g Longer i ≡ base g contexts i
  base_before i le = ap (λ (cs : List Context). cells_of g cs) (take-append-le i contexts (new ∷ []) le)

  pub base_end : base g Longer (length contexts) ≡ cells_of g contexts
  base_end = base_before (length contexts) (omega arith) ∙ ap (λ (cs : List Context). cells_of g cs) (take_all (length contexts) contexts (omega arith))

  pub cells_longer : cells_of g Longer ≡ cells_of g contexts + size g new.function
  cells_longer = sum_by_push (λ (c : Context). size g c.function) contexts new

  pub cell_on : (i : ℕ) (c : Context) (p q : ℕ) → IsCell g contexts i c p q → IsCell g Longer i c p q
  cell_on i c p q is = record { at = get_front contexts (new ∷ []) i c is.at; of = is.of; state = is.state }

  pub link_on : (i : ℕ) (c : Context) (p x : ℕ) (call : Called) → IsLink g contexts i c p x call → IsLink g Longer i c p x call
  link_on i c p x call is = record { cell = cell_on i c p x is.cell; calls = is.calls; class = is.class }

  pub index_on : (i : ℕ) (c : Context) (p q : ℕ) → IsCell g contexts i c p q → index_at g Longer i p q ≡ index_at g contexts i p q
  index_on i c p q is =
      let lt = slice_get_within contexts i c is.at in
      index_is g Longer i c p q (get_front contexts (new ∷ []) i c is.at)
      ∙ ap (λ (b : ℕ). b + (q * positions g c.function + (p - g.entry c.function))) (base_before i (omega (arith, lt)))
      ∙ sym (index_is g contexts i c p q is.at)

  -- what stood for a cell stands there still
  pub value_on : (values more : List ℕ) → length values ≡ cells_of g contexts → (i : ℕ) (c : Context) (p q : ℕ) → IsCell g contexts i c p q
      → value_at g Longer (values ++ more) i p q ≡ value_at g contexts values i p q
  value_on values more long i c p q is =
      let inside : index_at g contexts i p q < length values = omega (arith, index_is g contexts i c p q is.at, slot_within g contexts i c p q is, long) in
      ap (λ (k : ℕ). get_or (values ++ more) k 0) (index_on i c p q is) ∙ get_or_append_left values more 0 (index_at g contexts i p q) inside

  -- and a new cell has what is added
  pub value_new : (values : List ℕ) (v : ℕ) → length values ≡ cells_of g contexts → (p q : ℕ) → IsCell g Longer (length contexts) new p q
      → value_at g Longer (values ++ replicate (size g new.function) v) (length contexts) p q ≡ v
  value_new values v long p q is =
      let at = get_last contexts new in
      let row = within g Longer (length contexts) new p q is in
      let index : index_at g Longer (length contexts) p q ≡ length values + (q * positions g new.function + (p - g.entry new.function))
      = index_is g Longer (length contexts) new p q at ∙ ap (λ (b : ℕ). b + (q * positions g new.function + (p - g.entry new.function))) (base_end ∙ sym long) in
      let rest : index_at g Longer (length contexts) p q - length values ≡ q * positions g new.function + (p - g.entry new.function) = omega (arith, index) in
      get_or-append_right values (replicate (size g new.function) v) (length values) (index_at g Longer (length contexts) p q) 0 refl (omega (arith, index))
      ∙ ap (λ (k : ℕ). get_or (replicate (size g new.function) v) k 0) rest
      ∙ get_or-replicate (size g new.function) (q * positions g new.function + (p - g.entry new.function)) v 0 row

module _ (g : Game) (old new : Work) (c : Context) (laid : IsLaid g (known_of old)) (pushes : Pushes g old new c (size g c.function)) where
  abbrev Contexts : List Context
  Contexts = old.blocks.contexts.items

  abbrev More : List Context
  More = Contexts ++ c ∷ []

  abbrev many : ℕ
  many = size g c.function

  cells : length new.store.heights ≡ length old.store.heights + many
  cells = ap (λ (ys : List ℕ). length ys) pushes.indices.heights ∙ length-append old.store.heights (replicate many 0)
      ∙ ap (λ (n : ℕ). length old.store.heights + n) (length-replicate {A = ℕ} many 0)

  counted : new.written + count_by is_none new.store.heights ≡ length new.store.heights
  counted =
      let w = pushes.written in
      let hs = ap (λ (ys : List ℕ). count_by is_none ys) pushes.indices.heights in
      let both = sum_by-append (λ (x : ℕ). cond (is_none x) 1 0) old.store.heights (replicate many 0) in
      let all = none_written many in
      omega (arith, w, hs, both, all, cells, laid.counted)

  longer : length new.blocks.contexts.items ≡ length Contexts + 1
  longer = ap (λ (cs : List Context). length cs) pushes.contexts ∙ length_push Contexts c

  pub pushed_known : AreTabled g More → IsKnown g (known_of new)
  pushed_known tabled = record {
    blocks = record {
      first = ap (λ (cs : List Context). slice_get cs 0) pushes.contexts ∙ tabled.first;
      needed = subst (λ (cs : List Context). AreNeeded g cs) (sym pushes.contexts) tabled.needed;
      begins = λ i lt. ap (λ (bs : List ℕ). slice_index bs i) pushes.bases
          ∙ values_more (λ n. cells_of g (take n More)) old.blocks.bases.items (length Contexts) (length old.store.heights) laid.bases
          (λ k less. laid.begins k less ∙ sym (base_before g Contexts c k (omega (arith, less)))) (laid.cells ∙ sym (base_end g Contexts c)) i (omega (arith, lt, longer))
          ∙ ap (λ (cs : List Context). cells_of g (take i cs)) (sym pushes.contexts);
      bases = ap (λ (bs : List ℕ). length bs) pushes.bases ∙ length_push old.blocks.bases.items (length old.store.heights) ∙ ap (λ (n : ℕ). n + 1) laid.bases ∙ sym longer;
      few = subst (λ (cs : List Context). cells_of g cs ≤ 4194304) (sym pushes.contexts) tabled.few;
    };
    cells = cells ∙ ap (λ (n : ℕ). n + many) laid.cells ∙ sym (cells_longer g Contexts c) ∙ ap (λ (cs : List Context). cells_of g cs) (sym pushes.contexts);
    counted = counted;
  }

  longer_by : (xs ys : List ℕ) (v : ℕ) → length xs ≡ length old.store.heights → ys ≡ xs ++ replicate many v → length ys ≡ length new.store.heights
  longer_by xs ys v long is =
      ap (λ (zs : List ℕ). length zs) is ∙ length-append xs (replicate many v) ∙ ap (λ (n : ℕ). length xs + n) (length-replicate {A = ℕ} many v)
      ∙ ap (λ (n : ℕ). n + many) long ∙ sym cells

  pub pushed_long : AreLong old → AreLong new
  pushed_long long = record {
    flags = pushes.indices.long ∙ ap (λ (n : ℕ). n + many) long.flags ∙ sym cells;
    asked = longer_by old.store.asked new.store.asked 0 long.asked pushes.indices.asked;
    due = longer_by old.store.due new.store.due 0 long.due pushes.indices.due;
    to = longer_by old.store.to new.store.to 0 long.to pushes.indices.to;
    waves = longer_by old.store.waves new.store.waves 0 long.waves pushes.indices.waves;
  }

  pub pushed_high : AreHigh old → AreHigh new
  pushed_high high = record {
    heights = subst (λ (n : ℕ). AreUpTo new.store.heights n) (sym pushes.written) (subst (λ (ys : List ℕ). AreUpTo ys old.written) (sym pushes.indices.heights)
        (up_to_append old.store.heights many 0 old.written (omega arith) high.heights));
    asked = subst (λ (n : ℕ). AreUpTo new.store.asked (2 * n + 2)) (sym pushes.written) (subst (λ (ys : List ℕ). AreUpTo ys (2 * old.written + 2)) (sym pushes.indices.asked)
        (up_to_append old.store.asked many 0 (2 * old.written + 2) (omega arith) high.asked));
    due = subst (λ (n : ℕ). AreUpTo new.store.due (2 * n + 1)) (sym pushes.written) (subst (λ (ys : List ℕ). AreUpTo ys (2 * old.written + 1)) (sym pushes.indices.due)
        (up_to_append old.store.due many 0 (2 * old.written + 1) (omega arith) high.due));
    waves = subst (λ (n : ℕ). AreUpTo new.store.waves n) (sym pushes.written) (subst (λ (ys : List ℕ). AreUpTo ys old.written) (sym pushes.indices.waves)
        (up_to_append old.store.waves many 0 old.written (omega arith) high.waves));
  }

  -- and each of its links' indices is flagged
  pub pushed_flagged : AreLong old → AreFlagged g old → AreFlagged g new
  pushed_flagged long flagged k link =
      let l = subst (λ (cs : List Context). IsLinkAt g cs k) pushes.contexts link in
      elim (push_cases Contexts c l.0 l.1 l.5.cell.at) [
        | inl h ↦
            let before : IsLink g Contexts l.0 l.1 l.2 l.3 l.4 = record { cell = record { at = h; of = l.5.cell.of; state = l.5.cell.state }; calls = l.5.calls; class = l.5.class } in
            let index : k ≡ index_at g Contexts l.0 l.2 l.3 = l.6 ∙ index_on g Contexts c l.0 l.1 l.2 l.3 before.cell in
            let is = index_is g Contexts l.0 l.1 l.2 l.3 h in
            let inside = slot_within g Contexts l.0 l.1 l.2 l.3 before.cell in
            pushes.indices.kept k (omega (arith, index, is, inside, laid.cells, long.flags)) ∙ flagged k (l.0, l.1, l.2, l.3, l.4, before, index)
        | inr h ↦
            let there : IsLink g More (length Contexts) c l.2 l.3 l.4
            = subst (λ (d : Context). IsLink g More (length Contexts) d l.2 l.3 l.4) (sym h.1) (subst (λ (i : ℕ). IsLink g More i l.1 l.2 l.3 l.4) h.0 l.5) in
            let is = index_is g More (length Contexts) c l.2 l.3 there.cell.at in
            let at : k ≡ index_at g More (length Contexts) l.2 l.3 = l.6 ∙ ap (λ (i : ℕ). index_at g More i l.2 l.3) h.0 in
            let index : k ≡ length old.store.flags + (l.3 * positions g c.function + (l.2 - g.entry c.function)) = omega (arith, at, is, base_end g Contexts c, laid.cells, long.flags) in
            subst (λ (y : ℕ). is_flagged new.store.flags y ≡ true) (sym index)
            (pushes.flagged l.2 l.3 l.4 there.cell.of there.calls there.class (within g More (length Contexts) c l.2 l.3 there.cell))
      ]

  -- and there is a list for it
  pub pushed_callers : AreLong old → AreCallers old → AreCallers new
  pushed_callers long callers = record {
    more = omega (arith, longer, pushes.lists);
    few = λ k lt. elim (cases_lt k (length old.store.heights)) [
      | inl before ↦
          let e : slice_index new.store.to k ≡ slice_index old.store.to k = ap (λ (ys : List ℕ). slice_index ys k) pushes.indices.to
          ∙ get_or_append_left old.store.to (replicate many 0) 0 k (omega (arith, before, long.to)) in
          let f = callers.few k before in
          omega (arith, e, f, longer)
      | inr after ↦
          let e : slice_index new.store.to k ≡ 0 = ap (λ (ys : List ℕ). slice_index ys k) pushes.indices.to
          ∙ get_or-append_right old.store.to (replicate many 0) (length old.store.to) k 0 refl (omega (arith, after, long.to))
          ∙ get_or-replicate many (k - length old.store.to) 0 0 (omega (arith, after, long.to, lt, cells)) in
          omega (arith, e)
    ];
  }

  pub pushed_dues : AreLong old → AreDue g old → AreDue g new
  pushed_dues long dues k lt some =
      elim (cases_lt k (length old.store.heights)) [
        | inl before ↦
            let e : slice_index new.store.due k ≡ slice_index old.store.due k = ap (λ (ys : List ℕ). slice_index ys k) pushes.indices.due
            ∙ get_or_append_left old.store.due (replicate many 0) 0 k (omega (arith, before, long.due)) in
            let t : slice_index new.store.to k ≡ slice_index old.store.to k = ap (λ (ys : List ℕ). slice_index ys k) pushes.indices.to
            ∙ get_or_append_left old.store.to (replicate many 0) 0 k (omega (arith, before, long.to)) in
            let h = dues k before (omega (arith, some, e)) in (
              subst (λ (cs : List Context). IsLinkAt g cs k) (sym pushes.contexts) (link_there k h.0),
              λ tied. let low = h.1 (omega (arith, tied, t)) in omega (arith, low, e),
            )
        | inr after ↦
            let e : slice_index new.store.due k ≡ 0 = ap (λ (ys : List ℕ). slice_index ys k) pushes.indices.due
            ∙ get_or-append_right old.store.due (replicate many 0) (length old.store.due) k 0 refl (omega (arith, after, long.due))
            ∙ get_or-replicate many (k - length old.store.due) 0 0 (omega (arith, after, long.due, lt, cells)) in
            absurd (omega (arith, e, some))
      ]
    where
      link_there : (k : ℕ) → IsLinkAt g Contexts k → IsLinkAt g More k
      link_there k l = (l.0, l.1, l.2, l.3, l.4, link_on g Contexts c l.0 l.1 l.2 l.3 l.4 l.5, l.6 ∙ sym (index_on g Contexts c l.0 l.1 l.2 l.3 l.5.cell))
