use Rattle.d64_dos.proofs.SameWords.{left_same, whole_same}
use Rattle.d64_dos.proofs.laws.reasons_decide_what_comes_back.Goals as goal

pub returns : goal.returns
returns c = λ image slot cell sound. (left_same image slot cell sound, whole_same image slot cell sound)
