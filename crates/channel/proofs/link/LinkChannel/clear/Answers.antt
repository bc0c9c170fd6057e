use Rattle.std.proofs.Common.{rules}
use Rattle.channel.specs.Places.{stored}
use Rattle.channel.proofs.Storing.{stored-cleared}
use Rattle.channel.proofs.link.LinkChannel.clear.Goals as goal

pub returns : goal.returns
returns g c =
    let W = g.S.Store.way in
    let held = g.S.Store.held in
    let stores = c.loop-store.store-items in
    let cleared =
    stored-cleared W held g.met.S.Store.lawful stores c.loop-store.invariant.0 (λ k x l h. c.loop-store.invariant.1 k x l (search rules))
    (stored W held c.args.self.now.stores) in
    search rules
