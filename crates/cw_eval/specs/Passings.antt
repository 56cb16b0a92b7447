-- What the code's deeds and ways stand for.
use Rattle.std.specs.Prelude.{option_map}
use Rattle.cw_syntax.specs.Trees.{declaration_of, trees_of}
use Rattle.cw_syntax.specs.Frames.{Way, On, Left, Right, Opened, Failed}
use Rattle.cw_value.specs.Deeds.{Deed, Rests, Computes, Makes, Decides, Opens, Calls, Answers, Passing}
use Rattle.cw_scope.specs.Held.{tree_at}
use Rattle.cw_eval.specs.declared.deeds.Deed.{Deed as HeldDeed}
use Rattle.cw_eval.specs.declared.deeds.Deed.TheVariants as deed
use Rattle.cw_eval.specs.declared.deeds.Way.{Way as HeldWay}
use Rattle.cw_eval.specs.declared.deeds.Way.TheVariants as way
use Rattle.cw_eval.specs.declared.deeds.Passing.{Passing as HeldPassing}

abbrev pub deed_in : HeldDeed → Deed
deed_in deed.Rests = Rests
deed_in (deed.Computes e) = Computes (option_map tree_at e)
deed_in (deed.Makes d) = Makes (declaration_of d.now)
deed_in (deed.Decides e) = Decides (option_map tree_at e)
deed_in (deed.Opens e) = Opens (option_map tree_at e)
deed_in (deed.Calls parts) = Calls (trees_of parts.now)
deed_in (deed.Answers e) = Answers (option_map tree_at e)

abbrev pub way_in : HeldWay → Way
way_in way.On = On
way_in way.Left = Left
way_in way.Right = Right
way_in way.Opened = Opened
way_in way.Failed = Failed

abbrev pub passing_of : HeldPassing → Passing
passing_of p = record { way = way_in p.way; arguments = p.arguments.items; answer = p.answer }
