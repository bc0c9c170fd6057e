use Rattle.views.specs.Parties.{nodes_in}
use Rattle.filing.proofs.Putting.{party_puts}
use Rattle.filing.proofs.machine_file.put_party.Goals as goal

pub returns : goal.returns
returns c =
    party_puts c.args.output.now c.put.new.self c.args.party (nodes_in c.args.views.now) c.requires c.put.ensures
    c.put_moves.new.output c.put_moves.ensures c.put_lasts.new.output c.put_lasts.ensures
