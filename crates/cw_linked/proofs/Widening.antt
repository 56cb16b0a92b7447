-- A context is pushed: it is one of few, and what stands there then.
use Rattle.std.proofs.Common.{◌≡◌, ℕ, ◌+◌, ◌≤◌, List, [], ◌∷◌, ◌++◌, length, ap, ◌∙◌, subst, arith}
use Rattle.std.proofs.lemmas.List.{length_push}
use Rattle.std.proofs.lemmas.List.Elements.{Contains-push}
use Rattle.cw_game.specs.Games.{Game}
use Rattle.cw_links.specs.Stores.{Stored, with_lists}
use Rattle.cw_solve.specs.declared.contexts.Context.{Context}
use Rattle.cw_solve.specs.Contexts.{size}
use Rattle.cw_product.specs.Routed.{IsThere, AreRouted}
use Rattle.cw_solve.specs.Tables.{AreTabled}
use Rattle.cw_solve.proofs.Keeping.{few_tabled}
use Rattle.cw_solve.proofs.Tabling.{there}
use Rattle.cw_linked.specs.declared.work.Work.{Work}
use Rattle.cw_linked.specs.Added.{PushesIndices, PushesContext, FlagsLinks, Pushes, IsOpen}
use Rattle.cw_linked.proofs.Pushing.{cells_longer}

-- Contexts that may be tabled are few, also with one more.
module _ (g : Game) (functions : ℕ) (routed : AreRouted g functions) (contexts : List Context) (c : Context) (tabled : AreTabled g (contexts ++ c ∷ [])) where
  pub last_there : IsThere g functions c.function
  last_there = there g functions routed c (tabled.needed.needed c (Contains-push contexts c))

  pub few_contexts : length contexts + 1 ≤ 4194304
  few_contexts =
      let le = few_tabled g functions routed (contexts ++ c ∷ []) tabled in
      omega (arith, le, length_push contexts c)

pub few_cells : (g : Game) (w : Work) (c : Context) → IsOpen g w → AreTabled g (w.blocks.contexts.items ++ c ∷ []) → length w.store.heights + size g c.function ≤ 4194304
few_cells g w c kept tabled = omega (arith, kept.laid.cells, tabled.few, cells_longer g w.blocks.contexts.items c)

-- Lists are made, indices are added to the store, and the context to the others.
pub pushes_then : (g : Game) (old new : Work) (c : Context) (reached : Stored) (base : ℕ) → reached ≡ with_lists old.store reached.lists → length old.store.lists ≤ length reached.lists
    → length old.blocks.contexts.items + 2 ≤ length reached.lists → PushesIndices reached new.store (size g c.function) → FlagsLinks g reached.flags new.store.flags c.function (size g c.function)
    → PushesContext old.blocks new.blocks c base → base ≡ length old.store.heights → new.written ≡ old.written → Pushes g old new c (size g c.function)
pushes_then g old new c reached base same more enough added flagged pushes begins written =
    let indices = subst (λ (s : Stored). PushesIndices s new.store (size g c.function)) same added in
    record {
      contexts = pushes.contexts;
      bases = pushes.bases ∙ ap (λ (n : ℕ). old.blocks.bases.items ++ n ∷ []) begins;
      written = written;
      indices = record {
        heights = indices.heights;
        asked = indices.asked;
        due = indices.due;
        to = indices.to;
        waves = indices.waves;
        long = indices.long;
        kept = indices.kept;
        lists = omega (arith, more, added.lists);
      };
      flagged = subst (λ (s : Stored). FlagsLinks g s.flags new.store.flags c.function (size g c.function)) same flagged;
      lists = omega (arith, enough, added.lists);
    }
