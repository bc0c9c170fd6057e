use Rattle.families.proofs.Realize.{run_cc3, whole_cc2}
use Rattle.families.proofs.views_tell.Goals as goal

pub returns : goal.returns
returns c = λ G n f J w. (run_cc3 G n f J w, whole_cc2 G n f J w)
