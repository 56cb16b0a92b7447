-- Working definitions: the fault of a game by that of its states.
use Rattle.cw_states.specs.declared.fault.StatesFault.{StatesFault}
use Rattle.cw_states.specs.declared.fault.StatesFault.TheVariants as states
use Rattle.cw_product.specs.declared.fault.GameFault.{GameFault}
use Rattle.cw_product.specs.declared.fault.GameFault.TheVariants.{TooManyCaps, TooManyWords, TooManyStates, NoMemory}

abbrev pub fault_of : StatesFault → GameFault
fault_of states.TooManyCaps = TooManyCaps
fault_of states.TooManyWords = TooManyWords
fault_of states.TooManyStates = TooManyStates
fault_of states.NoMemory = NoMemory
