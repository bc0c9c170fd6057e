use Rattle.families.proofs.Realize.{unbroken}
use Rattle.families.proofs.realized_unbroken.Goals as goal

pub returns : goal.returns
returns g c = λ G n f J. unbroken G n f J g.F.Family.machines
