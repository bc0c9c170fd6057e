use Rattle.std.proofs.Common.{ap, ◌∙◌}
use Rattle.channel.specs.Places.{counted}
use Rattle.channel.proofs.Counting.{counted_none}
use Rattle.channel.proofs.pile.PileStore.clear.Goals as goal

pub returns : goal.returns
returns c = ap counted c.new.ensures ∙ counted_none 32
