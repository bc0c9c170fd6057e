use Rattle.std.proofs.Common.{◌≡◌, ◌<◌, true, rules}
use Rattle.channel.specs.Pairs.{in_range}
use Rattle.channel.specs.Places.{place_of}
use Rattle.channel.proofs.Storing.{stored-carried}
use Rattle.channel.proofs.link.LinkChannel.carry.Goals as goal

pub returns-clause-after : goal.returns-clause-after
returns-clause-after g c =
    let act = c.args.act in
    let place : (in_range act ≡ true) × (c.in_ok-at.at ≡ place_of act) × (c.in_ok-at.at < 36) = search rules in
    stored-carried g.S.Store.way g.S.Store.held g.met.S.Store.lawful c.args.self.now.stores c.in_ok-at.at c.index-self-at.result _ act
    (search rules) place.0 place.1 (search rules) (search rules)
