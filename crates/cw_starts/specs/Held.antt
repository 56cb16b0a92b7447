-- What the code holds of what is declared at file scope.
use Rattle.std.specs.Prelude.{◌≡◌, ℕ, List, Bool, ◌&&◌, ◌||◌, cond, is_some, Some, None, pos}
use Rattle.std.specs.List.{list_any}
use Rattle.std.specs.Borrow.{Bor}
use Rattle.std.specs.Str.{bytes_eq}
use Rattle.cw_syntax.specs.Names.{text}
use Rattle.cw_syntax.specs.declared.program.Item.{Item}
use Rattle.cw_syntax.specs.Trees.{Declared, declared_of}
use Rattle.cw_value.specs.Stores.{Cell}
use Rattle.cw_value.specs.Declarations.{size_in}
use Rattle.cw_value.specs.Starts.{has_list}

abbrev pub item_at : Bor Item → Declared
item_at i = declared_of i.now

abbrev pub named_at : List ℕ → List ℕ → Declared → Bool
named_at bytes name i = bytes_eq name (text bytes i.name)

abbrev pub stated_size : Declared → Bool
stated_size i = is_some (size_in i.array) || i.braces

-- a name begins unset where some declaration of it has an initialiser, and else with 0
abbrev pub begins_with : List ℕ → List Declared → List ℕ → Cell
begins_with bytes items name = cond (list_any (λ i. named_at bytes name i && has_list i.init) items) None (Some (pos 0))

-- a text is among these where it is the name of some declaration with an initialiser
abbrev pub AreListed : List ℕ → List Declared → List (List ℕ) → Type 0
AreListed bytes items texts = (name : List ℕ) → list_any (bytes_eq name) texts ≡ list_any (λ i. named_at bytes name i && has_list i.init) items
