use Rattle.acts.proofs.Stuck.{stuck_longest, within}
use Rattle.acts.specs.Acts.{line}
use Rattle.acts.proofs.stuck_is_longest.Goals as goal

pub returns : goal.returns
returns c = λ G D lines w s. (
  stuck_longest G D lines w s,
  λ u g on. within G D (line lines) w s.granted s.along s.refused u g on,
)
