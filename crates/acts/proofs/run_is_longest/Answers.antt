use Rattle.acts.proofs.Running.{run-longest}
use Rattle.acts.proofs.run_is_longest.Goals as goal

pub returns : goal.returns
returns c = run-longest
