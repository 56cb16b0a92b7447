-- Rows are read one by one.
use Rattle.std.proofs.Common.{◌≡◌, List, [], ◌∷◌, ◌++◌, map, refl, sym, ap, ◌∙◌, subst, append_assoc}
use Rattle.std.specs.List.{AllByRecursion}
use Rattle.std.proofs.lemmas.List.{map-append}
use Rattle.cw_lemmas.proofs.Lists.{all_push}
use Rattle.cw_audit_table.specs.Tables.{row_of}
use Rattle.cw_audit_store.specs.declared.row_key.Entrance.{Entrance}
use Rattle.cw_audit_store.specs.declared.row_key.RowKey.{RowKey}
use Rattle.cw_audit_store.specs.declared.store.Store.{Store}
use Rattle.cw_audit_store.specs.Finding.{found_of}
use Rattle.cw_audit_search.specs.Grouped.{IsRowRight}
use Rattle.cw_audit_listing.specs.Lists.{plain, AreKnown, ARow, group, row_key_in, IsNext, AreRead}

pub read_none : (s : Store) (e : Entrance) (row_keys : List RowKey) (rows : List ARow) → rows ≡ [] → AreKnown s row_keys → AreRead s e row_keys row_keys rows
read_none s e row_keys rows none known = subst (AreRead s e row_keys row_keys) (sym none) (record { whole = refl; right = tt; known = known })

pub read_more : (s : Store) (e : Entrance) (row_keys rest more : List RowKey) (rows after : List ARow) (row : ARow) → AreRead s e row_keys rest rows → IsNext s e rest more row
    → after ≡ rows ++ row ∷ [] → AreRead s e row_keys more after
read_more s e row_keys rest more rows after row h next is = subst (AreRead s e row_keys more) (sym is)
    (record {
      whole = h.whole ∙ ap (λ r. map (row_key_in e) (map row_of rows) ++ r) next.whole ∙ sym (append_assoc (map (row_key_in e) (map row_of rows)) (row_key_in e (row_of row) ∷ []) (map plain more))
          ∙ ap (λ r. r ++ map plain more) (sym (map-append (row_key_in e) (map row_of rows) (row_of row ∷ [])))
          ∙ ap (λ r. map (row_key_in e) r ++ map plain more) (sym (map-append row_of rows (row ∷ [])));
      right = subst (AllByRecursion (IsRowRight (found_of s) (group e 0 []))) (sym (map-append row_of rows (row ∷ [])))
          (all_push (IsRowRight (found_of s) (group e 0 [])) (map row_of rows) (row_of row) h.right next.right);
      known = next.known;
    })
