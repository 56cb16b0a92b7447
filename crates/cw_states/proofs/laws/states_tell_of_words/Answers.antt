use Rattle.cw_states.proofs.Meant.{states_tell, reached_is_meant, linked_by_meaning}
use Rattle.cw_states.proofs.laws.states_tell_of_words.Goals as goal

pub returns-clause-states : goal.returns-clause-states
returns-clause-states c = λ uses v spots are have. states_tell uses v are spots have

pub returns-clause-reached : goal.returns-clause-reached
returns-clause-reached c = reached_is_meant

pub returns-clause-linked : goal.returns-clause-linked
returns-clause-linked c = linked_by_meaning
