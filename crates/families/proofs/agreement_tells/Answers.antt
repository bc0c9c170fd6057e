use Rattle.families.proofs.Agreement.{begins-agrees, agrees-begins}
use Rattle.families.proofs.agreement_tells.Goals as goal

pub returns : goal.returns
returns c = λ G n f J w l. (begins-agrees G n f J w, agrees-begins G n f J w l.granted)
