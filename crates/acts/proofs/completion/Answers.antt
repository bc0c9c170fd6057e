use Rattle.acts.proofs.Diamond.{Completed, complete}
use Rattle.acts.proofs.completion.Goals as goal

pub returns : goal.returns
returns c = λ G D w u gw gu b.
    let k : Completed G w u = complete G D w u gw gu b in
    (k.more, k.granted, k.parts)
