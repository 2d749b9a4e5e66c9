use Rattle.fs_spelling.proofs.WrongElements.{element_wrong, element_stops}
use Rattle.fs_spelling.proofs.document.wrong_element.Goals as goal

pub returns : goal.returns
returns c = λ at outer c name body f. (element_wrong at outer c name body f, element_stops at outer c name body f)
