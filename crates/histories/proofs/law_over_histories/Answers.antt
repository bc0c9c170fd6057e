use Rattle.histories.proofs.Laws.{law}
use Rattle.histories.proofs.law_over_histories.Goals as goal

pub returns : goal.returns
returns g c = law g.F.Family.machines
