use Rattle.machines.proofs.Likeness.{file_tells}
use Rattle.machines.proofs.file_tells.Goals as goal

pub returns : goal.returns
returns c = λ G n f J ok code. file_tells G n f J code ok
