use Rattle.std.proofs.Common.{refl}
use Rattle.exchanges.proofs.worked_exchanges_hold.Goals as goal

pub returns : goal.returns
returns c = ((refl, refl), ((refl, refl), ((refl, refl), ((refl, refl), ((refl, refl), tt)))))
