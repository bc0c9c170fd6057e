use Rattle.std.proofs.Common.{rules}
use borrow.Author.Tests.{tests}
use Rattle.std.proofs.lemmas.Iterator.{cases_from_all, YieldsList-from_slice}
use Rattle.channel.proofs.Storing.{Bare, all_still}
use Rattle.channel.proofs.link.LinkChannel.idle.Goals as goal

pub returns : goal.returns
returns g c =
    let W = g.S.Store.way in
    let held = g.S.Store.held in
    let stores = c.args.self.now.stores in
    all_still W held g.met.S.Store.lawful stores c.all.result
    (cases_from_all _ _ _ (λ x. Bare W (held x)) (λ x. Bare W (held x) → ⊥) c.all.ensures.ran (YieldsList-from_slice stores cc)
    (λ x q k. search (rules, tests)) (λ x q k. search (rules, tests)))
    (search rules)
