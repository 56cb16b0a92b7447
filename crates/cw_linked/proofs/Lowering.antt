-- Keys become lower: what is asked for is still asked for.
use Rattle.std.proofs.Common.{◌≡◌, ℕ, ◌+◌, ◌*◌, ◌<◌, List, false, Some, sym, ◌∙◌, subst, arith, inl, inr}
use Rattle.std.specs.Prelude.{slice_get}
use Rattle.cw_game.specs.Games.{Game, Holds}
use Rattle.cw_game.specs.Pairs.{has, Called, call_in}
use Rattle.cw_solve.specs.declared.contexts.Context.{Context}
use Rattle.cw_product.specs.Routed.{AreRouted}
use Rattle.cw_solve.specs.Rounds.{IsCell}
use Rattle.cw_linked.specs.Founds.{Found, AreAlike, IsLink, height_back, IsShrinking, AreRight, Waits, IsClosed, IsCalled, IsStanding, AllClosed, AllCalled, AllStanding}
use Rattle.cw_linked.specs.Steps.{IsSame, with_keys, Lowers, AsksCell, AsksLink}
use Rattle.cw_linked.proofs.Taking.{same_or_other, one_call, at_same}

-- what is left to do stays left, or is done
abbrev pub IsFewer : (ℕ → ℕ → ℕ → Type 0) → (ℕ → ℕ → ℕ → Type 0) → Type 0
IsFewer Rest Fewer = (i p q : ℕ) → Rest i p q → Fewer i p q

pub waits_less : (a b most : ℕ) → (0 < a → Waits b a) → Waits a most → Waits b most
waits_less a b most f w = let h = f w.0 in (h.0, omega (arith, h.1, w.1))

-- what is true of a link is true of the same one
pub link_is : (g : Game) (contexts : List Context) (j : ℕ) (d : Context) (r x : ℕ) (call : Called) → IsLink g contexts j d r x call → (i : ℕ) (c : Context) (p k : ℕ) (other : Called)
    → IsLink g contexts i c p k other → IsSame i p k j r x → (F : ℕ → Context → ℕ → ℕ → Called → Type 0) → F j d r x call → F i c p k other
link_is g contexts j d r x call link i c p k other is e F h =
    let same : call ≡ other = one_call (slice_get g.spots p) call other (subst (λ (y : ℕ). call_in (slice_get g.spots y) ≡ Some call) (sym e.1) link.calls) is.calls in
    at_same g contexts i c p k j d r x is.cell link.cell e (λ i c p k. F i c p k other) (subst (λ (y : Called). F j d r x y) same h)

module _ (g : Game) (functions : ℕ) (routed : AreRouted g functions) (alike : AreAlike g) (contexts : List Context)
    (below : (i : ℕ) (c : Context) → slice_get contexts i ≡ Some c → c.function < functions) where
  module _ (s : Found) (asked due : ℕ → ℕ → ℕ → ℕ) (lowers : Lowers g contexts s asked due) where
    abbrev After : Found
    After = with_keys s asked due

    pub lowers_closed : (i : ℕ) (c : Context) (p q : ℕ) → IsCell g contexts i c p q → IsClosed g s i c p q → IsClosed g After i c p q
    lowers_closed i c p q is closed none plain n lost = waits_less (s.asked i p q) (asked i p q) (2 * n + 2) (lowers.cells i c p q is) (closed none plain n lost)

    pub lowers_called : (i : ℕ) (c : Context) (p q : ℕ) → IsCell g contexts i c p q → IsCalled g s i p q → IsCalled g After i p q
    lowers_called i c p q is called call es t none n le some within =
        waits_less (s.asked i p q) (asked i p q) (2 * n + 2) (lowers.cells i c p q is)
        (called call es t none n le some within)

    pub lowers_standing : (i : ℕ) (c : Context) (p k : ℕ) (call : Called) (x : ℕ) → IsLink g contexts i c p k call → IsStanding g contexts s i p k call x → IsStanding g contexts After i p k call x
    lowers_standing i c p k call x is stands t set goes member some =
        waits_less (s.due i p k) (due i p k) (2 * height_back g s i call k x + 1) (lowers.links i c p k call is) (stands t set goes member some)

    pub lowers_all_closed : (Rest : ℕ → ℕ → ℕ → Type 0) → AllClosed g contexts s Rest → AllClosed g contexts After Rest
    lowers_all_closed Rest all i c p q is = elim (all i c p q is) [ inl h ↦ inl (lowers_closed i c p q is h) | inr rest ↦ inr rest ]

    pub lowers_all_called : (Rest : ℕ → ℕ → ℕ → Type 0) → AllCalled g contexts s Rest → AllCalled g contexts After Rest
    lowers_all_called Rest all i c p q is = elim (all i c p q is) [ inl h ↦ inl (lowers_called i c p q is h) | inr rest ↦ inr rest ]

    pub lowers_all_standing : (Rest : ℕ → ℕ → ℕ → Type 0) → AllStanding g contexts s Rest → AllStanding g contexts After Rest
    lowers_all_standing Rest all i c p k call is = elim (all i c p k call is) [
      | inl h ↦ inl (
        λ free. waits_less (s.due i p k) (due i p k) 1 (lowers.links i c p k call is) (h.0 free),
        λ x t. lowers_standing i c p k call x is (h.1 x t),
      )
      | inr rest ↦ inr rest
    ]

    -- what is right stays right, where each new key is
    pub lowers_right : AreRight g contexts s
        → ((i : ℕ) (c : Context) (p q : ℕ) → IsCell g contexts i c p q → 0 < asked i p q → (s.height i p q ≡ 0) × ((n : ℕ) × (asked i p q ≡ 2 * n) × (Holds g n p q (has c.promise) ≡ false)))
        → ((i : ℕ) (c : Context) (p k : ℕ) (call : Called) → IsLink g contexts i c p k call → 0 < due i p k
        → (n : ℕ) × (due i p k ≡ 2 * n + 1) × (0 < n → IsShrinking g contexts s i p k call n))
        → AreRight g contexts After
    lowers_right right cells links = record {
      taken = right.taken;
      lost = cells;
      linked = right.linked;
      later = right.later;
      past = right.past;
      due = links;
    }

  module _ (s : Found) (j : ℕ) (d : Context) (r x : ℕ) where
    -- one cell is asked for
    module _ (cell : IsCell g contexts j d r x) (asked : ℕ → ℕ → ℕ → ℕ) (key : ℕ) (asks : AsksCell g contexts s asked j r x key) where
      asks_waits : (i : ℕ) (c : Context) (p q : ℕ) → IsCell g contexts i c p q → 0 < s.asked i p q → Waits (asked i p q) (s.asked i p q)
      asks_waits i c p q is = elim (same_or_other i p q j r x) [
        | inl e ↦ at_same g contexts i c p q j d r x is cell e (λ i c p q. 0 < s.asked i p q → Waits (asked i p q) (s.asked i p q)) asks.lower
        | inr o ↦ λ lt. let same = asks.others i c p q is o in (omega (arith, same, lt), omega (arith, same))
      ]

      pub asks_lowers : Lowers g contexts s asked s.due
      asks_lowers = record { cells = asks_waits; links = λ i c p k call is lt. (lt, omega arith) }

      pub asks_right : AreRight g contexts s → (n : ℕ) → key ≡ 2 * n → Holds g n r x (has d.promise) ≡ false → AreRight g contexts (with_keys s asked s.due)
      asks_right right n e lost = lowers_right s asked s.due asks_lowers right
          (λ i c p q is. elim (same_or_other i p q j r x) [
            | inl same ↦ at_same g contexts i c p q j d r x is cell same
                (λ i c p q. 0 < asked i p q → (s.height i p q ≡ 0) × ((n : ℕ) × (asked i p q ≡ 2 * n) × (Holds g n p q (has c.promise) ≡ false)))
                (λ lt. elim asks.is [
                  | inl new ↦ (new.0, (n, new.1 ∙ e, lost))
                  | inr old ↦ let l = right.lost j d r x cell (omega (arith, lt, old)) in (l.0, (l.1.0, old ∙ l.1.1, l.1.2))
                ])
            | inr o ↦ λ lt. let same = asks.others i c p q is o in let l = right.lost i c p q is (omega (arith, lt, same)) in (l.0, (l.1.0, same ∙ l.1.1, l.1.2))
          ])
          right.due

    -- one link is asked for
    module _ (call : Called) (link : IsLink g contexts j d r x call) (due : ℕ → ℕ → ℕ → ℕ) (key : ℕ) (asks : AsksLink g contexts s due j r x key) where
      pub link_lowers : Lowers g contexts s s.asked due
      link_lowers = record {
        cells = λ i c p q is lt. (lt, omega arith);
        links = λ i c p k other is. elim (same_or_other i p k j r x) [
          | inl e ↦ link_is g contexts j d r x call link i c p k other is e (λ i c p k other. 0 < s.due i p k → Waits (due i p k) (s.due i p k)) asks.lower
          | inr o ↦ λ lt. let same = asks.others i c p k other is o in (omega (arith, same, lt), omega (arith, same))
        ];
      }

      pub link_right : AreRight g contexts s → (n : ℕ) → key ≡ 2 * n + 1 → 0 < n → IsShrinking g contexts s j r x call n → AreRight g contexts (with_keys s s.asked due)
      link_right right n e some shrinks = lowers_right s s.asked due link_lowers right right.lost
          (λ i c p k other is. elim (same_or_other i p k j r x) [
            | inl same ↦ link_is g contexts j d r x call link i c p k other is same
                (λ i c p k other. 0 < due i p k → (n : ℕ) × (due i p k ≡ 2 * n + 1) × (0 < n → IsShrinking g contexts s i p k other n)) (λ lt. elim asks.is [
                  | inl new ↦ (n, new ∙ e, λ more. shrinks)
                  | inr old ↦ let l = right.due j d r x call link (omega (arith, lt, old)) in (l.0, old ∙ l.1, l.2)
                ])
            | inr o ↦ λ lt. let same = asks.others i c p k other is o in let l = right.due i c p k other is (omega (arith, lt, same)) in (l.0, same ∙ l.1, l.2)
          ])
