use Rattle.std.proofs.Common.{rules}
use Rattle.channel.specs.Pairs.{in_order}
use Rattle.channel.specs.Stores.{queued}
use Rattle.channel.proofs.Storing.{stored-none}
use Rattle.channel.proofs.line.Line.new.Goals as goal

pub returns : goal.returns
returns c =
    let made = c.in_ok-stores.ensures.ok in
    stored-none in_order queued c.in_ok-stores.stores made.long (λ k x l h. let call = made.at k x h in search rules)
