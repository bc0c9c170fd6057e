use Rattle.acts.proofs.Diamond.{parts_decide}
use Rattle.acts.proofs.parts_decide.Goals as goal

pub returns : goal.returns
returns c = λ G D u w gu gw s l. parts_decide G D w u gu gw s l
