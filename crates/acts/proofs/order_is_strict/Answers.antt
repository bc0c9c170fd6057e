use Rattle.acts.proofs.Ordering.{sooner_strict, before_strict}
use Rattle.acts.proofs.order_is_strict.Goals as goal

pub returns : goal.returns
returns c = (sooner_strict, before_strict)
