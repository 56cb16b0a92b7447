-- The links of a context wait to be tied.
use Rattle.std.proofs.Common.{◌≡◌, ℕ, ◌<◌, List, ◌||◌, false, Some, length, set, refl, sym, ap, ap₂, ◌∙◌, subst, arith, inl, inr, Bool}
use Rattle.std.specs.Prelude.{◌⊎◌, slice_get, slice_index, nat_eq, nat_lt}
use Rattle.std.proofs.lemmas.Bool.{cases_eq}
use Rattle.std.proofs.lemmas.List.{get_or-set_same}
use Rattle.cw_game.specs.Games.{Game}
use Rattle.cw_game.specs.Pairs.{Called, call_in}
use Rattle.cw_links.specs.Keys.{lowered}
use Rattle.cw_solve.specs.declared.contexts.Context.{Context}
use Rattle.cw_solve.specs.Rounds.{slot, IsCell}
use Rattle.cw_linked.specs.declared.work.Work.{Work}
use Rattle.cw_linked.specs.Added.{ThePair, AllOf, IsLinkOf, FreesLinks}
use Rattle.cw_linked.specs.Founds.{class_of, IsLink}
use Rattle.cw_linked.specs.Queues.{AreLong, AreSameBut, AsksForLink}
use Rattle.cw_linked.specs.Works.{Known, index_at}
use Rattle.cw_linked.proofs.Asking.{kept_low, chosen_then, chosen_else}
use Rattle.std.proofs.lemmas.Bool.{cases_Bool as decide}
use Rattle.cw_linked.proofs.Backs.{due_other, due_length}
use Rattle.cw_linked.proofs.Bounding.{index_is}
use Rattle.cw_linked.proofs.Taking.{one_call}

-- nothing changes
pub same_but : (w : Work) → AreSameBut w w
same_but w = record { known = refl; to = refl; waves = refl; flags = refl; lists = refl }

-- a key of 1 is written or was there
due_one : (due : List ℕ) (index : ℕ) → index < length due → slice_index (lowered due index 1) index ≡ 1
due_one due index lt =
    elim (decide (nat_eq (slice_index due index) 0 || nat_lt 1 (slice_index due index))) [
      | inl h ↦ ap (λ (ys : List ℕ). slice_index ys index) (chosen_then _ (set due index 1) due h) ∙ get_or-set_same due index 1 0 lt
      | inr h ↦ let w = kept_low (slice_index due index) 1 h in let e = ap (λ (ys : List ℕ). slice_index ys index) (chosen_else _ (set due index 1) due h) in omega (arith, w.0, w.1, e)
    ]

module _ (g : Game) (i : ℕ) (c : Context) where
  -- where no link is at these pairs
  pub frees_nothing : (w : Work) (These : ℕ → ℕ → Type 0) → ((p x : ℕ) (call : Called) → IsLink g w.blocks.contexts.items i c p x call → These p x → ⊥) → FreesLinks g w w i c These
  frees_nothing w These none = record { others = same_but w; asked = refl; long = refl; links = λ p x call is these. absurd (none p x call is these); rest = λ k. inl refl }

  -- the link at one pair
  pub frees_one : (old new : Work) (r y a : ℕ) → a < length old.store.due → a ≡ index_at g old.blocks.contexts.items i r y → IsLinkOf g old.blocks.contexts.items i c a → AsksForLink old new a 1
      → FreesLinks g old new i c (ThePair r y)
  frees_one old new r y a lt at is asks =
      let here : slice_index new.store.due a ≡ 1 = ap (λ (ys : List ℕ). slice_index ys a) asks.due ∙ due_one old.store.due a lt in
      record {
        others = asks.others;
        asked = asks.asked;
        long = ap (λ (ys : List ℕ). length ys) asks.due ∙ due_length old.store.due a 1;
        links = λ p x call link e.
            ap (slice_index new.store.due) (ap₂ (λ (m n : ℕ). index_at g old.blocks.contexts.items i m n) e.0 e.1 ∙ sym at) ∙ here;
        rest = λ k. elim (cases_eq k a) [
          | inl e ↦ inr (subst (λ (z : ℕ). IsLinkOf g old.blocks.contexts.items i c z) (sym e) is, ap (slice_index new.store.due) e ∙ here)
          | inr ne ↦ inl (ap (λ (ys : List ℕ). slice_index ys k) asks.due ∙ due_other old.store.due a 1 k ne)
        ];
      }

  -- those at some pairs, and then those at others
  pub frees_more : (old mid new : Work) (These Those All : ℕ → ℕ → Type 0) → FreesLinks g old mid i c These → FreesLinks g mid new i c Those
      → ((p x : ℕ) → IsCell g old.blocks.contexts.items i c p x → All p x → These p x ⊎ Those p x) → FreesLinks g old new i c All
  frees_more old mid new These Those All one two parts = record {
    others = record {
      known = two.others.known ∙ one.others.known;
      to = two.others.to ∙ one.others.to;
      waves = two.others.waves ∙ one.others.waves;
      flags = two.others.flags ∙ one.others.flags;
      lists = two.others.lists ∙ one.others.lists;
    };
    asked = two.asked ∙ one.asked;
    long = two.long ∙ one.long;
    links = λ p x call link all. elim (parts p x link.cell all) [
      | inl these ↦
          let was = one.links p x call link these in
          elim (two.rest (index_at g old.blocks.contexts.items i p x)) [ inl same ↦ same ∙ was | inr now ↦ now.1 ]
      | inr those ↦
          subst (λ (t : Known). slice_index new.store.due (index_at g t.blocks.contexts.items i p x) ≡ 1) one.others.known
          (two.links p x call (subst (λ (t : Known). IsLink g t.blocks.contexts.items i c p x call) (sym one.others.known) link) those)
    ];
    rest = λ k. elim (two.rest k) [
      | inr now ↦ inr (subst (λ (t : Known). IsLinkOf g t.blocks.contexts.items i c k) one.others.known now.0, now.1)
      | inl same ↦ elim (one.rest k) [ inl was ↦ inl (same ∙ was) | inr was ↦ inr (was.0, same ∙ was.1) ]
    ];
  }

  -- pairs that are among these
  pub frees_these : (old new : Work) (These Those : ℕ → ℕ → Type 0) → FreesLinks g old new i c These → ((p x : ℕ) → IsCell g old.blocks.contexts.items i c p x → Those p x → These p x)
      → FreesLinks g old new i c Those
  frees_these old new These Those frees among = record {
    others = frees.others;
    asked = frees.asked;
    long = frees.long;
    links = λ p x call link those. frees.links p x call link (among p x link.cell those);
    rest = frees.rest;
  }

  -- at a call that isn't split one link stands, at the first state
  pub frees_first : (old new : Work) (r : ℕ) → ((call : Called) → call_in (slice_get g.spots r) ≡ Some call → call.split ≡ false) → FreesLinks g old new i c (ThePair r 0)
      → FreesLinks g old new i c (AllOf r)
  frees_first old new r whole frees = record {
    others = frees.others;
    asked = frees.asked;
    long = frees.long;
    links = λ p x call link e.
        let one = whole call (subst (λ (y : ℕ). call_in (slice_get g.spots y) ≡ Some call) e link.calls) in
        let zero_is : 0 ≡ x = ap (λ (s : Bool). class_of g s x) (sym one) ∙ link.class in
        frees.links p x call link (e, sym zero_is);
    rest = frees.rest;
  }

  -- the lists are as long as they were
  pub frees_long : (old new : Work) (These : ℕ → ℕ → Type 0) → FreesLinks g old new i c These → AreLong old → AreLong new
  frees_long old new These frees long =
      let same = ap (λ (t : Known). length t.heights) frees.others.known in
      record {
        flags = ap (λ (ms : List Bool). length ms) frees.others.flags ∙ long.flags ∙ sym same;
        asked = ap (λ (ys : List ℕ). length ys) frees.asked ∙ long.asked ∙ sym same;
        due = frees.long ∙ long.due ∙ sym same;
        to = ap (λ (ys : List ℕ). length ys) frees.others.to ∙ long.to ∙ sym same;
        waves = ap (λ (ys : List ℕ). length ys) frees.others.waves ∙ long.waves ∙ sym same;
      }

  -- whether a cell is that of a link
  module _ (contexts : List Context) (p x index : ℕ) (cell : IsCell g contexts i c p x) (at : index ≡ slot g contexts i c.function p x) where
    pub link_here : (call : Called) → call_in (slice_get g.spots p) ≡ Some call → class_of g call.split x ≡ x → IsLinkOf g contexts i c index
    link_here call es class = (p, x, call, record { cell = cell; calls = es; class = class }, at ∙ sym (index_is g contexts i c p x cell.at))

-- a link stands for its own class alone
pub class_here : (g : Game) (p x k : ℕ) (called call : Called) → call_in (slice_get g.spots p) ≡ Some called → class_of g called.split x ≡ k → (k ≡ x → ⊥)
    → call_in (slice_get g.spots p) ≡ Some call → class_of g call.split x ≡ x → ⊥
class_here g p x k called call es class other is own =
    other (sym class ∙ ap (λ (y : Called). class_of g y.split x) (one_call (slice_get g.spots p) called call es is) ∙ own)
