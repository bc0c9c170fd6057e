use Rattle.answering.proofs.Only.{only_add, only_withdraw}
use Rattle.answering.proofs.right_answers_are_computed.Goals as goal

pub returns : goal.returns
returns c = λ G L h W. (λ i cl O P r. only_add G L h W i cl O P r, λ i r. only_withdraw G h i r)
