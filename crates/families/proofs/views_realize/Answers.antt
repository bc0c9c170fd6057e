use Rattle.families.proofs.Realize.{tree_precise, tree_lively}
use Rattle.families.proofs.views_realize.Goals as goal

pub returns : goal.returns
returns c = λ G n f J ok. (tree_precise G n f J ok, tree_lively G n f J ok)
