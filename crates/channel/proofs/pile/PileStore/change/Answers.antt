use Rattle.std.proofs.Common.{ℕ, ◌+◌, ◌-◌, ◌<◌, ap, ◌∙◌, arith, rules}
use Rattle.channel.specs.Pairs.{total}
use Rattle.channel.specs.Places.{counted}
use Rattle.channel.proofs.Counting.{sent_few, received_count, put-total, take-total, counted-put, counted-take}
use Rattle.channel.proofs.pile.PileStore.change.Goals as goal

pub overflow_add-self : goal.overflow_add-self
overflow_add-self c =
    let pile = c.args.self.now in
    let h : total 32 (counted pile.counts) < 32 = sent_few pile.counts c.args.act.letter c.args.act.name c.in-Send.is c.requires.allowed in
    let t = pile.tie in
    omega arith

pub invariant_of-self : goal.invariant_of-self
invariant_of-self c =
    let pile = c.args.self.now in
    record { tie = rw c.from.ensures (ap (λ (n : ℕ). n + 1) pile.tie ∙ put-total pile.counts 32 (search rules) c.args.act.name c.requires.name) }

pub invariant_of-self-in-Receive : goal.invariant_of-self-in-Receive
invariant_of-self-in-Receive c =
    let pile = c.args.self.now in
    let act = c.args.act in
    let h = received_count pile.counts act.letter act.name c.in-Receive.is c.requires.allowed in
    record { tie = rw c.from.ensures (ap (λ (n : ℕ). n - 1) pile.tie ∙ take-total pile.counts 32 (search rules) act.name c.requires.name h) }

pub returns-in-Send : goal.returns-in-Send
returns-in-Send c = rw c.from.ensures (counted-put c.args.self.now.counts c.args.act.letter c.args.act.name (search rules) c.in-Send.is)

pub returns-in-Receive : goal.returns-in-Receive
returns-in-Receive c = rw c.from.ensures (counted-take c.args.self.now.counts c.args.act.letter c.args.act.name (search rules) c.in-Receive.is)
