use Rattle.std.proofs.Common.{sym}
use Rattle.families.proofs.Agreement.{same_broken}
use Rattle.families.proofs.way_does_not_matter.Goals as goal

pub returns : goal.returns
returns c = λ G f lawful u w lu lw s k. (same_broken G f lawful u w lu lw s k, same_broken G f lawful w u lw lu (λ p. sym (s p)) k)
