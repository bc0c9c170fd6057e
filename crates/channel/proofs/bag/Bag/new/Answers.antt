use Rattle.std.proofs.Common.{replicate, ap, ◌∙◌}
use Rattle.std.proofs.lemmas.List.{get_or-replicate, length-replicate}
use Rattle.channel.specs.declared.place.TheConstants.{PLACES}
use Rattle.channel.specs.Pairs.{in_any_order}
use Rattle.channel.specs.Places.{counted}
use Rattle.channel.specs.Stores.{piled}
use Rattle.channel.proofs.Counting.{counted_none}
use Rattle.channel.proofs.Storing.{stored-none}
use Rattle.channel.proofs.bag.Bag.new.Goals as goal

pub returns : goal.returns
returns c =
    let pile = c.new.result in
    stored-none in_any_order piled (replicate PLACES pile) (length-replicate PLACES pile)
    (λ k x l h. ap piled (get_or-replicate PLACES k pile x h) ∙ ap counted c.new.ensures ∙ counted_none 32)
