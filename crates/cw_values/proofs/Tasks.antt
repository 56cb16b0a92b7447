-- The task of a point, by its number.
use Rattle.std.proofs.Common.{◌≡◌, ℕ, ◌<◌, ◌≤◌, List, map, length, get_or, Some, None, option_map, refl, sym, ap, subst, ◌∙◌}
use Rattle.std.specs.Prelude.{slice_get}
use Rattle.std.specs.List.{All}
use Rattle.std.proofs.lemmas.List.Elements.{All-get_or}
use Rattle.std.proofs.lemmas.Option.{slice_get-map, slice_get_past, slice_get_read}
use Rattle.cw_syntax.specs.Trees.{Definition}
use Rattle.cw_machine.specs.declared.tasks.Task.{Task}
use Rattle.cw_machine.specs.Knowing.{IsTask, rows_in}

pub past : (tasks : List Task) (n : ℕ) → length tasks ≤ n → None ≡ slice_get (rows_in tasks) n
past tasks n h = sym (slice_get-map (λ (t : Task). t.row) tasks n ∙ ap (option_map (λ (t : Task). t.row)) (slice_get_past tasks n h))

module _ (tasks : List Task) (n : ℕ) (t : Task) (within : n < length tasks) (is : t ≡ get_or tasks n t) where
  pub here : Some t.row ≡ slice_get (rows_in tasks) n
  here = sym (slice_get-map (λ (t : Task). t.row) tasks n ∙ ap (option_map (λ (t : Task). t.row)) (slice_get_read tasks (length tasks) n t refl within is))

  pub right : (functions : List Definition) → All (IsTask functions) tasks → IsTask functions t
  right functions all = subst (IsTask functions) (sym is) (All-get_or (IsTask functions) tasks n t within all)
