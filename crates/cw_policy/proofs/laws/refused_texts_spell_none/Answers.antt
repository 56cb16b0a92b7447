use Rattle.cw_policy.proofs.Same.{refused_spells_none}
use Rattle.cw_policy.proofs.laws.refused_texts_spell_none.Goals as goal

pub returns : goal.returns
returns c = refused_spells_none
