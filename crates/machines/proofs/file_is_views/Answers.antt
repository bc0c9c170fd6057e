use Rattle.machines.proofs.Likeness.{file_same}
use Rattle.machines.proofs.file_is_views.Goals as goal

pub returns : goal.returns
returns c = λ G n f J code. file_same G n f J code
