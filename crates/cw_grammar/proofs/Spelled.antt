-- Texts that were read byte by byte.
use Rattle.std.proofs.Common.{◌≡◌, ℕ, List, length, ap, sym}
use Rattle.std.proofs.lemmas.Slice.Eq.{HasBytesAt, text_from_reads}
use Rattle.cw_grammar.specs.Spelling.{keywords, spelled}

pub keyword_read : (text terminal : List ℕ) → length text ≡ length terminal → HasBytesAt text 0 terminal → spelled keywords terminal ≡ spelled keywords text
keyword_read text terminal len bytes = ap (spelled keywords) (sym (text_from_reads text terminal len bytes))
