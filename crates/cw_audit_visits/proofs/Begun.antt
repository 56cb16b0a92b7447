-- A search begins.
use Rattle.std.proofs.Common.{◌≡◌, ℕ, ◌∙◌, Some, None, sym, ap, subst}
use Rattle.std.specs.Prelude.{option_map, cond}
use Rattle.indexmap.specs.IndexMap.{get}
use Rattle.cw_core.specs.declared.ids.PosId.{PosId}
use Rattle.cw_core.specs.declared.ids.StateId.{StateId}
use Rattle.cw_audit_store.specs.declared.row_key.Way.TheVariants.{Begun}
use Rattle.cw_product.specs.Product.{Held, game_of}
use Rattle.cw_audit_store.specs.declared.row_key.Entrance.{Entrance}
use Rattle.cw_audit_store.specs.declared.row_key.RowKey.{RowKey}
use Rattle.cw_audit_store.specs.declared.row_key.Row.{Row}
use Rattle.cw_audit_store.specs.declared.row_key.Entered.{Entered}
use Rattle.cw_audit_store.specs.declared.row_key.Hit.{Hit}
use Rattle.cw_audit_store.specs.Stores.{row_at, group_at, row_key_eq}
use Rattle.cw_audit_search.specs.Searches.{is_group}
use Rattle.cw_audit_search.proofs.Proposing.{main_arrival}
use Rattle.cw_audit_search.proofs.Setting.{begins_sound, group_itself}
use Rattle.cw_audit_search.proofs.Ways.{begins_ways}
use Rattle.cw_audit_visits.specs.declared.under_way.Search.{Search}
use Rattle.cw_audit_visits.specs.Searching.{entrance, row_key, found_of, functions_of, IsFairGame, IsKept, IsGroupSet, IsDue, ways_of}
use Rattle.cw_audit_visits.proofs.Sets.{group_reach, group_call}
use Rattle.cw_audit_visits.proofs.Gone.{entry_due}

module _ (h : Held) (fair : IsFairGame h) (s s2 : Search) (f : ℕ) (q : StateId) (main : f ≡ (game_of h).main) (start : q.0 ≡ (game_of h).states.start)
    (groups : (at : Entrance) → group_at s.store at ≡ None) (rows : (at : RowKey) → row_at s.store at ≡ None) (hit : s.store.hit ≡ None)
    (set : IsGroupSet s.store s2.store (record { function = f; state = q }) (record { reach = 0; call = None })) where
  only_main : (f2 q2 : ℕ) → (found_of s2.store).reach f2 q2 ≡ cond (is_group (game_of h).main (game_of h).states.start f2 q2) (Some 0) None
  only_main f2 q2 =
      (group_reach s.store s2.store f q.0 (record { reach = 0; call = None }) set).reach f2 q2
      ∙ ap (cond (is_group f q.0 f2 q2) (Some 0)) (ap (option_map (λ (e : Entered). e.reach)) (groups (entrance f2 q2)))
      ∙ ap (λ f. cond (is_group f q.0 f2 q2) (Some 0) None) main
      ∙ ap (λ q. cond (is_group (game_of h).main q f2 q2) (Some 0) None) start

  no_call : (ways_of s2.store).call (game_of h).main (game_of h).states.start ≡ Some None
  no_call =
      (group_call s.store s2.store f q.0 (record { reach = 0; call = None }) set).call (game_of h).main (game_of h).states.start
      ∙ ap (λ f. cond (is_group f q.0 (game_of h).main (game_of h).states.start) (Some None) ((ways_of s.store).call (game_of h).main (game_of h).states.start)) main
      ∙ ap (λ q. cond (is_group (game_of h).main q (game_of h).main (game_of h).states.start) (Some None) ((ways_of s.store).call (game_of h).main (game_of h).states.start)) start
      ∙ ap (λ b. cond b (Some None) ((ways_of s.store).call (game_of h).main (game_of h).states.start)) (group_itself (game_of h).main (game_of h).states.start)

  pub begun_kept : IsKept (game_of h) (functions_of h) s2
  begun_kept = record {
    sound = begins_sound (game_of h) (functions_of h) fair (found_of s2.store) only_main
        (λ f2 q2 p2 x2.
        ap (λ m. option_map (λ (r : Row). r.inside) (get row_key_eq m (row_key f2 q2 p2 x2))) set.rows
        ∙ ap (option_map (λ (r : Row). r.inside)) (rows (row_key f2 q2 p2 x2)))
        (ap (option_map (λ (h : Hit). h.distance)) (set.hit ∙ hit)) (main_arrival (game_of h) (functions_of h) fair);
    ways = begins_ways (game_of h) (found_of s2.store) (ways_of s2.store) only_main
        (λ f2 q2 p2 x2.
        ap (λ m. option_map (λ (r : Row). r.inside) (get row_key_eq m (row_key f2 q2 p2 x2))) set.rows
        ∙ ap (option_map (λ (r : Row). r.inside)) (rows (row_key f2 q2 p2 x2)))
        (ap (option_map (λ (h : Hit). h.distance)) (set.hit ∙ hit)) no_call;
  }

  pub begun_reach : (found_of s2.store).reach f q.0 ≡ Some 0
  begun_reach =
      subst (λ f. (found_of s2.store).reach f q.0 ≡ Some 0) (sym main) (subst (λ q. (found_of s2.store).reach (game_of h).main q ≡ Some 0) (sym start) begun_kept.sound.main)

  pub begun_due : (p : PosId) → p.0 ≡ (game_of h).entry (game_of h).main → IsDue h s2 (row_key f q.0 p.0 q.0) 0 Begun
  begun_due p is = entry_due h s2 f q.0 p fair begun_kept (is ∙ ap (λ f. (game_of h).entry f) (sym main)) (0, begun_reach)
