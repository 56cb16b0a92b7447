-- What a part begins with can be read once.
use Rattle.std.proofs.Common.{◌≡◌, ℕ, List, Ok, Err, if◌then◌else◌, refl, sym}
use Rattle.cw_syntax.specs.declared.program.Name.{Name}
use Rattle.cw_grammar.specs.declared.terminals.Terminal.TheVariants as w
use Rattle.cw_grammar.specs.declared.terminals.Lexeme.{Lexeme}
use Rattle.cw_grammar.specs.Declarations.{Specifiers}
use Rattle.cw_grammar.specs.Files.{Declares}
use Rattle.cw_expressions.specs.Cursor.{◌>>=◌, begins, after}
use Rattle.cw_parse.specs.Lists.{Read}
use Rattle.cw_parse.specs.DeclarationReading.{front, header_behind, header, begins_header}
use Rattle.cw_parse.specs.StatementReading.{body, headed, held, parted, headed_behind, part}

by_front : (ts : List Lexeme) (r : Read ((Specifiers × ℕ) × Name)) →
    (do
      is_header ← (do
        f ← r
        Ok (begins w.Open f.1))
      if is_header then (do
        p ← (do
          f ← r
          header_behind f.0 f.1)
        if begins w.Semicolon p.1 then Ok (Declares p.0, after p.1) else body p.0 p.1) else held ts)
    ≡ (do
      f ← r
      if begins w.Open f.1 then (do
        p ← header_behind f.0 f.1
        if begins w.Semicolon p.1 then Ok (Declares p.0, after p.1) else body p.0 p.1) else held ts)
by_front ts (Ok f) = refl
by_front ts (Err e) = refl

pub part_parted : (ts : List Lexeme) → part ts ≡ parted ts
unfolding parted begins_header headed header part headed_behind
part_parted ts = sym (by_front ts (front ts))
