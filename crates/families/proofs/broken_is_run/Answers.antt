use Rattle.families.proofs.Realize.{local-run, last_whole}
use Rattle.families.proofs.broken_is_run.Goals as goal

pub returns : goal.returns
returns g c = λ G n f J able w. (
  λ b. last_whole G n f J g.F.Family.machines able w b.local b.quiet b.last,
  λ b. local-run G n f J g.F.Family.machines able w b.local,
)
