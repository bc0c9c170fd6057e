use Rattle.std.proofs.Common.{subst}
use Rattle.channel.specs.Meaning.{Lawful}
use Rattle.chart.specs.Of.{lines_in}
use Rattle.book.specs.Past.{standing}
use Rattle.session.proofs.Adding.{refused_added, chart_added}
use Rattle.session.proofs.clerk.commands.add_file.Goals as goal

pub returns-in-Err : goal.returns-in-Err
returns-in-Err g c = λ G h P.
    refused_added G h c.args.id c.args.file.now c.in-Err.fault (standing g.C.Channel.meaning c.args.book.now) P c.in-Err.ensures.0

pub returns : goal.returns
returns g c = λ G h P.
    let K = c.add.ensures G h P in
    let L : Lawful G = subst Lawful P.rest.clearly (g.met.C.Channel.lawful c.args.book.now.channel) in
    chart_added G h c.args.id c.args.file.now (lines_in c.read.new.self) c.add.result (standing g.C.Channel.meaning c.add.new.self)
    L c.in_default.ensures P.right K.0 K.1
