-- Keys by kind, one key further.
use Rattle.std.proofs.Common.{◌≡◌, ℕ, ◌+◌, ◌<◌, List, [], Option, Some, option_map, filter_map, take, length, get_or, ap, ◌∙◌}
use Rattle.std.specs.Prelude.{slice_get}
use Rattle.cw_game.specs.declared.spots.Spot.{Spot}
use Rattle.cw_game.specs.Games.{Game}
use Rattle.cw_lazy_table.specs.declared.key.Key.{Key}
use Rattle.cw_lazy_table.specs.declared.seam_key.ByKind.{ByKind}
use Rattle.cw_lazy_table.specs.declared.seam_key.SeamKey.{SeamKey}
use Rattle.cw_lazy_table.specs.Kinds.{SpotKind, Asked, Label, Open, Close, Call}
use Rattle.cw_lazy_table.specs.SeamKeys.{part_in, part_there, seam_key, seam_key_of, put_seam_key, ComeByKind}
use Rattle.cw_lazy_table.proofs.Ascending.{filtered_at}
use Rattle.cw_lazy_table.proofs.Placing.{put_seam_key_is}

module _ (g : Game) (keys : List Key) (i : ℕ) (d : Key) (s : Spot) (old new : ByKind) (lt : i < length keys) (at : Some s ≡ slice_get g.spots (get_or keys i d).pos) where
  abbrev Puts : SpotKind → (old new : List SeamKey) → Type 0
  Puts k old new = new ≡ put_seam_key old (option_map (seam_key (get_or keys i d)) (part_in k s))

  one_more : (k : SpotKind) (old new : List SeamKey) → old ≡ filter_map (seam_key_of g k) (take i keys) → Puts k old new → new ≡ filter_map (seam_key_of g k) (take (i + 1) keys)
  one_more k old new h e =
      filtered_at (seam_key_of g k) keys i d [] old new lt h
      (e ∙ put_seam_key_is old _ (seam_key_of g k (get_or keys i d)) (ap (λ (o : Option Spot). option_map (seam_key (get_or keys i d)) (part_there k o)) at))

  pub come_more : ComeByKind g (take i keys) old → Puts Asked old.asked.items new.asked.items → Puts Label old.labels.items new.labels.items → Puts Open old.opens.items new.opens.items
      → Puts Close old.closes.items new.closes.items → Puts Call old.calls.items new.calls.items → ComeByKind g (take (i + 1) keys) new
  come_more h asked labels opens closes calls = record {
    asked = one_more Asked old.asked.items new.asked.items h.asked asked;
    labels = one_more Label old.labels.items new.labels.items h.labels labels;
    opens = one_more Open old.opens.items new.opens.items h.opens opens;
    closes = one_more Close old.closes.items new.closes.items h.closes closes;
    calls = one_more Call old.calls.items new.calls.items h.calls calls;
  }
