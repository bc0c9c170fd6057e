use Rattle.std.proofs.Common.{length}
use Rattle.std.proofs.lemmas.List.{length_push}
use Rattle.std.proofs.lemmas.Iterator.Consumers.{YieldsList-at, YieldsList-turn, YieldsList-end}
use Rattle.views.specs.Parties.{nodes_in, tables_in}
use Rattle.filing.proofs.Putting.{numbered_parties, is_party, parties_all, table_fits, table_puts, last_fits, file_puts}
use Rattle.filing.proofs.machine_file.put_machines.Goals as goal

pub put_party-requires : goal.put_party-requires
put_party-requires c =
    let ps = c.args.parties.now in
    let n = c.args.count in
    let i = c.loop-party in
    let parties = numbered_parties ps n c.zip-party-items.ensures.first c.zip-party-items.ensures.second.0 in
    let p = c.in-Some.party in
    let x = c.in-Some.views.now in
    let turn = YieldsList-turn (YieldsList-at c.into_iter-party-iterator.ensures.into_iter_gives parties)
    i.yielded i.party-iterator i.yielded_by c.next.result c.next.new.self (p, c.in-Some.views) c.in-Some.is c.next.ensures.steps in
    let P = is_party ps n (length i.yielded) p x c.requires.within turn.0 turn.1 in
    table_fits (tables_in ps) c.args.code n c.args.output.now i.output (length i.yielded) c.requires.room i.invariant p (nodes_in x) P.number P.below P.is

pub loop-party-preserved : goal.loop-party-preserved
loop-party-preserved c =
    let ps = c.args.parties.now in
    let n = c.args.count in
    let i = c.loop-party in
    let parties = numbered_parties ps n c.zip-party-items.ensures.first c.zip-party-items.ensures.second.0 in
    let p = c.in-Some.party in
    let x = c.in-Some.views.now in
    let turn = YieldsList-turn (YieldsList-at c.into_iter-party-iterator.ensures.into_iter_gives parties)
    i.yielded i.party-iterator i.yielded_by c.next.result c.next.new.self (p, c.in-Some.views) c.in-Some.is c.next.ensures.steps in
    let P = is_party ps n (length i.yielded) p x c.requires.within turn.0 turn.1 in
    table_puts (tables_in ps) c.args.code n c.args.output.now i.output (length i.yielded) c.requires.room i.invariant p (nodes_in x) P.number P.below P.is
    c.put_party.new.output _ (length_push i.yielded (p, c.in-Some.views)) c.put_party.ensures

pub put-requires-2 : goal.put-requires-2
put-requires-2 c =
    let ps = c.args.parties.now in
    let n = c.args.count in
    let i = c.loop-party in
    let parties = numbered_parties ps n c.zip-party-items.ensures.first c.zip-party-items.ensures.second.0 in
    let end = YieldsList-end (YieldsList-at c.into_iter-party-iterator.ensures.into_iter_gives parties)
    i.yielded i.party-iterator i.yielded_by c.next.result c.next.new.self c.in-None.is c.next.ensures.steps in
    last_fits (tables_in ps) c.args.code n c.args.output.now i.output (length i.yielded) c.requires.room i.invariant
    (parties_all ps n (length i.yielded) c.requires.within end.1)

pub returns : goal.returns
returns c =
    let ps = c.args.parties.now in
    let n = c.args.count in
    let i = c.loop-party in
    let parties = numbered_parties ps n c.zip-party-items.ensures.first c.zip-party-items.ensures.second.0 in
    let end = YieldsList-end (YieldsList-at c.into_iter-party-iterator.ensures.into_iter_gives parties)
    i.yielded i.party-iterator i.yielded_by c.next.result c.next.new.self c.in-None.is c.next.ensures.steps in
    file_puts (tables_in ps) c.args.code n c.args.output.now i.output (length i.yielded) c.requires.room i.invariant
    (parties_all ps n (length i.yielded) c.requires.within end.1) c.put-2.new.self c.put-2.ensures
