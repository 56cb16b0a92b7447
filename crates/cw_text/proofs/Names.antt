-- The move of a name is the one that has the name.
use Rattle.std.proofs.Common.{◌≡◌, ℕ, cond, List, refl}
use Rattle.std.specs.Prelude.{codes}
use Rattle.std.specs.Str.{bytes_eq}
use Rattle.cw_certs.specs.declared.moves.Move.{Move}
use Rattle.cw_certs.specs.declared.moves.Move.TheVariants.{Skip, Try, Grant, Refuse, On, Left, Right, Opened, Failed, Stop}
use Rattle.cw_text.specs.Moves.{move_name}

-- the move whose name this is, a stop where it is none's
unfoldable pub move_of : List ℕ → Move
move_of w =
    cond (bytes_eq w (codes "skip")) Skip (cond (bytes_eq w (codes "try")) Try (cond (bytes_eq w (codes "grant")) Grant
    (cond (bytes_eq w (codes "refuse")) Refuse (cond (bytes_eq w (codes "on")) On (cond (bytes_eq w (codes "left")) Left
    (cond (bytes_eq w (codes "right")) Right (cond (bytes_eq w (codes "opened")) Opened (cond (bytes_eq w (codes "failed")) Failed Stop))))))))

pub named_back : (by : Move) → move_of (move_name by) ≡ by
unfolding move_of
named_back Skip = refl
named_back Try = refl
named_back Grant = refl
named_back Refuse = refl
named_back On = refl
named_back Left = refl
named_back Right = refl
named_back Opened = refl
named_back Failed = refl
named_back Stop = refl
