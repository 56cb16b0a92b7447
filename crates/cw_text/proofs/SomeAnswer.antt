-- Each text is the tape of some moves, or has a first line with a field that names none.
use Rattle.std.proofs.Common.{◌≡◌, ◌⊎◌, ℕ, suc, ◌+◌, List, [], ◌∷◌, ◌++◌, length, Bool, true, false, Result, Ok, Err, refl, sym, ap, ap₂, ◌∙◌, subst, inl, inr, arith, append_assoc, append-nil}
use Rattle.std.specs.Prelude.{Contains}
use Rattle.std.specs.List.{flat_map}
use Rattle.std.specs.Str.{bytes_eq}
use Rattle.std.proofs.lemmas.Grind.{flat_map-append}
use Rattle.std.proofs.lemmas.List.{map-append}
use Rattle.std.proofs.lemmas.List.Elements.{All-nil, All-cons, All-append}
use Rattle.std.proofs.lemmas.Slice.Eq.{bytes_eq-Decides}
use Rattle.cw_lemmas.proofs.Truths.{not_both}
use Rattle.cw_certs.specs.declared.moves.Move.{Move}
use Rattle.cw_certs.specs.declared.moves.Move.TheVariants.{Skip, Try, Stop}
use Rattle.cw_text.specs.declared.fault.TextFault.{TextFault}
use Rattle.cw_text.specs.declared.fault.TextFault.TheVariants as fault
use Rattle.cw_text.specs.Moves.{move_name, IsWeavers, IsEnvironments}
use Rattle.cw_text.specs.Tapes.{fields, lines, IsIn, AreNames, IsOther, IsAnswer}
use Rattle.cw_text.proofs.Names.{move_of, named_back}

weavers_or_not : (by : Move) → IsWeavers by ⊎ (IsWeavers by → ⊥)
weavers_or_not Skip = inl tt
weavers_or_not Try = inl tt
weavers_or_not _ = inr (λ h. h)

pub environments_or_not : (by : Move) → IsEnvironments by ⊎ (IsEnvironments by → ⊥)
environments_or_not Skip = inr (λ h. h)
environments_or_not Try = inr (λ h. h)
environments_or_not Stop = inr (λ h. h)
environments_or_not _ = inl tt

module _ (play : Bool) where
  in_or_not : (by : Move) → IsIn play by ⊎ (IsIn play by → ⊥)
  in_or_not by = go play
    where
      go : (p : Bool) → IsIn p by ⊎ (IsIn p by → ⊥)
      go true = weavers_or_not by
      go false = environments_or_not by

  abbrev Named : List ℕ → Type 0
  Named field = (by : Move) × IsIn play by × (move_name by ≡ field)

  -- a field names a move of such a tape, or none
  field_names : (field : List ℕ) → Named field ⊎ IsOther play field
  field_names field = go (in_or_not (move_of field)) (bytes_eq (move_name (move_of field)) field) refl
    where
      -- a move with this name is the one that the field gives
      only : (by : Move) → move_name by ≡ field → move_of field ≡ by
      only by e = ap move_of (sym e) ∙ named_back by

      go : IsIn play (move_of field) ⊎ (IsIn play (move_of field) → ⊥) → (b : Bool) → bytes_eq (move_name (move_of field)) field ≡ b → Named field ⊎ IsOther play field
      go (inl may) true e = inl (move_of field, may, (bytes_eq-Decides (move_name (move_of field)) field).0 e)
      go (inl may) false e = inr (λ by m named. not_both (bytes_eq (move_name (move_of field)) field)
          ((bytes_eq-Decides (move_name (move_of field)) field).1 (ap move_name (only by named) ∙ named)) e)
      go (inr never) b e = inr (λ by m named. never (subst (IsIn play) (sym (only by named)) m))

  fields_name : (names : List (List ℕ)) → ((moves : List Move) × AreNames play names moves) ⊎ ((field : List ℕ) × Contains names field × IsOther play field)
  fields_name [] = inl ([], record { may = All-nil (IsIn play); named = refl })
  fields_name (w ∷ ws) = go (field_names w) (fields_name ws)
    where
      go : Named w ⊎ IsOther play w → ((moves : List Move) × AreNames play ws moves) ⊎ ((field : List ℕ) × Contains ws field × IsOther play field)
          → ((moves : List Move) × AreNames play (w ∷ ws) moves) ⊎ ((field : List ℕ) × Contains (w ∷ ws) field × IsOther play field)
      go (inr other) rest = inr (w, (0, omega arith, refl), other)
      go (inl one) (inl rest) =
          inl (one.0 ∷ rest.0, record { may = All-cons (IsIn play) one.0 rest.0 one.1 rest.1.may; named = ap₂ (λ (x : List ℕ) (xs : List (List ℕ)). x ∷ xs) (sym one.2) rest.1.named })
      go (inl one) (inr rest) = let lt = rest.1.1 in inr (rest.0, (suc rest.1.0, omega (arith, lt), rest.1.2), rest.2)

  joined : (a b : List (List ℕ)) (xs ys : List Move) → AreNames play a xs → AreNames play b ys → AreNames play (a ++ b) (xs ++ ys)
  joined a b xs ys h k = record {
    may = All-append (IsIn play) xs ys h.may k.may;
    named = ap₂ (λ (x y : List (List ℕ)). x ++ y) h.named k.named ∙ sym (map-append move_name xs ys);
  }

  -- what the lines of a text are, from one of them on
  abbrev LinesAre : List (List ℕ) → Type 0
  LinesAre all = ((moves : List Move) × AreNames play (flat_map fields all) moves)
      ⊎ ((before : List (List ℕ)) × (line : List ℕ) × (after : List (List ℕ)) × (all ≡ before ++ line ∷ after)
      × ((moves : List Move) × AreNames play (flat_map fields before) moves) × ((field : List ℕ) × Contains (fields line) field × IsOther play field))

  lines_name : (before after : List (List ℕ)) (moves : List Move) → AreNames play (flat_map fields before) moves → LinesAre (before ++ after)
  lines_name before [] moves h = inl (moves, subst (λ (l : List (List ℕ)). AreNames play (flat_map fields l) moves) (sym (append-nil before)) h)
  lines_name before (line ∷ after) moves h = go (fields_name (fields line)) (lines_name (before ++ line ∷ []) after)
    where
      go : ((ms : List Move) × AreNames play (fields line) ms) ⊎ ((field : List ℕ) × Contains (fields line) field × IsOther play field)
          → ((ms : List Move) → AreNames play (flat_map fields (before ++ line ∷ [])) ms → LinesAre ((before ++ line ∷ []) ++ after)) → LinesAre (before ++ line ∷ after)
      go (inr other) on = inr (before, line, after, refl, (moves, h), other)
      go (inl more) on =
          let one : flat_map fields (line ∷ []) ≡ fields line = append-nil (fields line) in
          let all = subst (λ (l : List (List ℕ)). AreNames play l (moves ++ more.0)) (ap (λ l. flat_map fields before ++ l) (sym one) ∙ sym (flat_map-append fields before (line ∷ [])))
          (joined (flat_map fields before) (fields line) moves more.0 h more.1) in
          subst LinesAre (append_assoc before (line ∷ []) after) (on (moves ++ more.0) all)

  answer_of : (text : List ℕ) → LinesAre (lines text) → (answer : Result (List Move) TextFault) × IsAnswer play text answer
  answer_of text (inl tape) = (Ok tape.0, tape.1)
  answer_of text (inr (before, line, after, stands, earlier, other)) = (
    Err (fault.Line (length before + 1)),
    record {
      before = before;
      line = line;
      after = after;
      stands = stands;
      counted = refl;
      moves = earlier.0;
      earlier = earlier.1;
      field = other.0;
      has = other.1;
      other = other.2;
    },
  )

pub some_answer : (play : Bool) (text : List ℕ) → (answer : Result (List Move) TextFault) × IsAnswer play text answer
some_answer play text = answer_of play text (lines_name play [] (lines text) [] (record { may = All-nil (IsIn play); named = refl }))
