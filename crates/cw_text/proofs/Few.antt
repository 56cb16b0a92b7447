-- A tape has at most one move more than its text has bytes.
use Rattle.std.proofs.Common.{◌≡◌, ℕ, ◌+◌, ◌≤◌, List, [], ◌∷◌, length, not, Bool, true, false, cond, refl, ap, arith, length-append}
use Rattle.std.specs.Prelude.{◌==◌, filter}
use Rattle.std.specs.List.{flat_map, slice_split, onto_first}
use Rattle.std.proofs.lemmas.List.{length-map}
use Rattle.std.proofs.lemmas.List.Sums.{length-filter, count_by-le-length}
use Rattle.cw_certs.specs.declared.moves.Move.{Move}
use Rattle.cw_text.specs.Moves.{move_name}
use Rattle.cw_text.specs.Tapes.{is_white, lines, fields, IsTape}

-- the bytes of these parts, and one for each
abbrev room : List (List ℕ) → ℕ
room [] = 0
room (part ∷ parts) = length part + 1 + room parts

room_more : (b : ℕ) (parts : List (List ℕ)) (n : ℕ) (ends : Bool) → room parts ≡ n + 1 → room (cond ends ([] ∷ parts) (onto_first b parts)) ≡ n + 2
room_more b parts n true e = omega (arith, e)
room_more b [] n false e = absurd (omega (arith, e))
room_more b (part ∷ parts) n false e = omega (arith, e)

room_split : (p : ℕ → Bool) (bytes : List ℕ) → room (slice_split p bytes) ≡ length bytes + 1
room_split p [] = refl
room_split p (b ∷ bytes) = omega (arith, room_more b (slice_split p bytes) (length bytes) (p b) (room_split p bytes))

parts_few : (parts : List (List ℕ)) → length parts ≤ room parts
parts_few [] = omega arith
parts_few (part ∷ parts) = omega (arith, parts_few parts)

filter_few : (p : List ℕ → Bool) (parts : List (List ℕ)) → length (filter p parts) ≤ length parts
filter_few p parts = omega (arith, length-filter p parts, count_by-le-length p parts)

fields_few : (line : List ℕ) → length (fields line) ≤ length line + 1
fields_few line = omega (arith, filter_few (λ field. not (length field == 0)) (slice_split is_white line), parts_few (slice_split is_white line), room_split is_white line)

all_few : (ls : List (List ℕ)) → length (flat_map fields ls) ≤ room ls
all_few [] = omega arith
all_few (line ∷ ls) = omega (arith, length-append (fields line) (flat_map fields ls), fields_few line, all_few ls)

pub moves_few : (play : Bool) (text : List ℕ) (moves : List Move) → IsTape play text moves → length moves ≤ length text + 1
moves_few play text moves h = omega (arith, length-map moves move_name, ap length h.named, all_few (lines text), room_split (λ b. b == 10) text)
