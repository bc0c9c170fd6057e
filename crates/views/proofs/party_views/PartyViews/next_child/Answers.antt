use Rattle.std.proofs.Common.{ℕ, rules}
use borrow.Author.Tests.{tests}
use Rattle.std.proofs.lemmas.Iterator.Consumers.{YieldsList-from_filter, YieldsList-at}
use Rattle.views.specs.declared.view.View.{View}
use Rattle.views.proofs.Least.{least_of}
use Rattle.views.proofs.Choosing.{is_later, later_views, best_of}
use Rattle.views.proofs.party_views.PartyViews.next_child.Goals as goal

pub returns : goal.returns
returns c =
    let nodes = c.args.self.now.views.items in
    let later = later_views nodes (cc) c.enumerate.ensures.source c.enumerate.ensures.count c.skip.ensures.source c.skip.ensures.count in
    let least = least_of _ _ (λ (x : ℕ × View). x.1.act) c.min_by_key.result c.min_by_key.ensures.runs
    (YieldsList-from_filter _ (λ y. is_later c.args.at c.args.party c.args.last y.1) (YieldsList-at c.filter.ensures.source later) c.filter.ensures.closure (λ x r q k. search (rules, tests)))
    (λ x k q h. search rules) in
    best_of nodes c.args.at c.args.party c.args.last _ _ (λ a b s. search (rules, tests)) c.min_by_key.result c.map.result least (search (rules, tests))
