use Rattle.families.proofs.Matching.{alike_same}
use Rattle.families.proofs.alike_do_the_same.Goals as goal

pub returns : goal.returns
returns g c = let a = g.L.Likeness.families in alike_same a.parties a.one a.other a.related a.alike
