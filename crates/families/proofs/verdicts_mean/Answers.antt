use Rattle.families.proofs.Verdicts.{verdict_means}
use Rattle.families.proofs.verdicts_mean.Goals as goal

pub returns : goal.returns
returns g c = λ G n f J. verdict_means G n f J g.F.Family.machines
