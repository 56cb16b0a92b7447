-- Labels that are added to others stand after them, and are some of the labels that were left.
use Rattle.std.proofs.Common.{◌≡◌, ℕ, List, [], ◌∷◌, ◌++◌, Bool, true, false, cond, Contains, refl, sym, ap, ◌∙◌, subst, append_assoc, append-nil}
use Rattle.std.specs.List.{All, list_any}
use Rattle.std.specs.Str.{bytes_eq}
use Rattle.std.proofs.lemmas.List.Elements.{All-nil, All-cons, All-head, All-tail, All-weaker, All-contains_itself, Contains-append_left}
use Rattle.cw_regex.specs.Adding.{Adds}
use Rattle.cw_regex.specs.Labels.{Gains}
use Rattle.cw_regex.specs.Meaning.{with_name, with_names, labels_in}
use Rattle.cw_regex.specs.Parts.{Part, identifier, parts}

with_names-append : (ws vs names : List (List ℕ)) → with_names names (ws ++ vs) ≡ with_names (with_names names ws) vs
with_names-append [] vs names = refl
with_names-append (w ∷ ws) vs names = with_names-append ws vs (with_name names w)

-- and then further ones
pub adds_more : (old now new left after rest : List (List ℕ)) → Adds old now left after → Adds now new after rest → Adds old new left rest
adds_more old now new left after rest a b = record {
  added = a.added ++ b.added;
  split = a.split ∙ ap (λ l. a.added ++ l) b.split ∙ sym (append_assoc a.added b.added rest);
  all = b.all ∙ ap (λ l. with_names l b.added) a.all ∙ sym (with_names-append a.added b.added old);
}

-- and all that were left
pub adds_all : (old now new left after : List (List ℕ)) → Adds old now left after → new ≡ with_names now after → new ≡ with_names old left
adds_all old now new left after a e = e ∙ ap (λ l. with_names l after) a.all ∙ sym (with_names-append a.added after old) ∙ ap (with_names old) (sym a.split)

abbrev Fresh : List (List ℕ) → List (List ℕ) → List (List ℕ) → Type 0
Fresh all names new = (added : List (List ℕ)) × (new ≡ names ++ added) × All (Contains all) added

fresh_name : (all ws names : List (List ℕ)) (w : List ℕ) (b : Bool) → Contains all w → ((names : List (List ℕ)) → Fresh all names (with_names names ws)) →
    Fresh all names (with_names (cond b names (names ++ w ∷ [])) ws)
fresh_name all ws names w true k f = f names
fresh_name all ws names w false k f =
    let x = f (names ++ w ∷ []) in
    (w ∷ x.0, x.1 ∙ append_assoc names (w ∷ []) x.0, All-cons (Contains all) w x.0 k x.2)

fresh : (all ws names : List (List ℕ)) → All (Contains all) ws → Fresh all names (with_names names ws)
fresh all [] names h = ([], sym (append-nil names), All-nil (Contains all))
fresh all (w ∷ ws) names h = fresh_name all ws names w (list_any (bytes_eq w) names) (All-head (Contains all) w ws h) (λ ns. fresh all ws ns (All-tail (Contains all) w ws h))

-- of the labels of a text
pub adds_gains : (text : List ℕ) (old new after : List (List ℕ)) → Adds old new (labels_in false (parts text)) after → Gains text old new
adds_gains text old new after a =
    let itself = All-contains_itself a.added in
    let some = All-weaker (Contains a.added) (Contains (a.added ++ after)) (λ x. Contains-append_left a.added after x) a.added itself in
    let x = fresh (labels_in false (parts text)) a.added old (subst (λ l. All (Contains l) a.added) (sym a.split) some) in
    record { added = x.0; kept = a.all ∙ x.1; named = x.2 }

-- all were added
pub gains_all : (text : List ℕ) (old new : List (List ℕ)) → new ≡ with_names old (labels_in false (parts text)) → Gains text old new
gains_all text old new e =
    let all = labels_in false (parts text) in
    adds_gains text old new [] (record { added = all; split = sym (append-nil all); all = e })

-- outside brackets an identifier is a label
pub identifier_left : (inside : Bool) (w : List ℕ) (ps rest : List Part) → ps ≡ identifier w ∷ rest → inside ≡ false → labels_in inside ps ≡ (w ∷ []) ++ labels_in inside rest
identifier_left false w ps rest e f = ap (labels_in false) e
identifier_left true w ps rest e f = absurd (cc)
