-- Sets of positions as numbers, and how one follows another.
use Rattle.std.specs.Prelude.{ℕ, ◌+◌, ◌^◌, Bool, true, false, ◌&&◌, ◌||◌, cond, nat_eq}
use Rattle.std.specs.Int.{bit_at}
use Rattle.std.specs.Int.RustNames.{bit_or}
use Rattle.cw_rights.specs.declared.words.Letter.{Letter}
use Rattle.cw_rights.specs.Words.{fits}
use Rattle.cw_rights.specs.Trees.{Tree, nothing, never, one, seq, alt, star, plus, maybe, count}

abbrev pub has : ℕ → ℕ → Bool
has set i = nat_eq (bit_at set i) 1

-- whether it matches the empty word
abbrev pub skips : Tree → Bool
skips nothing = true
skips never = false
skips (one l) = false
skips (seq r s) = skips r && skips s
skips (alt r s) = skips r || skips s
skips (star r) = true
skips (plus r) = skips r
skips (maybe r) = true

-- whether the expression may end after a literal of the set
abbrev pub ends : Tree → ℕ → ℕ → Bool
ends nothing k set = false
ends never k set = false
ends (one l) k set = has set k
ends (seq r s) k set = (ends r k set && skips s) || ends s (k + count r) set
ends (alt r s) k set = ends r k set || ends s (k + count r) set
ends (star r) k set = ends r k set
ends (plus r) k set = ends r k set
ends (maybe r) k set = ends r k set

-- the literals that may read the letter after those of the set; `enter`: those that may come first, too
abbrev pub reads : Tree → ℕ → Bool → ℕ → Letter → ℕ
reads nothing k enter set c = 0
reads never k enter set c = 0
reads (one l) k enter set c = cond (enter && fits l c) (2 ^ k) 0
reads (seq r s) k enter set c = bit_or (reads r k enter set c) (reads s (k + count r) ((enter && skips r) || ends r k set) set c)
reads (alt r s) k enter set c = bit_or (reads r k enter set c) (reads s (k + count r) enter set c)
reads (star r) k enter set c = reads r k (enter || ends r k set) set c
reads (plus r) k enter set c = reads r k (enter || ends r k set) set c
reads (maybe r) k enter set c = reads r k enter set c
