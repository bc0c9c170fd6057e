use Rattle.std.proofs.Common.{rules}
use Rattle.lines.proofs.Steps.{more}
use Rattle.lines.proofs.progress.Progress.pass.Goals as goal

pub overflow_add-self : goal.overflow_add-self
overflow_add-self c =
    let g = c.args.self.now in
    let m = more g.sheet.now g.done c.from.result c.args.party c.from.ensures (search rules) g.six g.within in
    search rules

pub invariant_of-self-clause-within : goal.invariant_of-self-clause-within
invariant_of-self-clause-within c =
    let g = c.args.self.now in
    (more g.sheet.now g.done c.from.result c.args.party c.from.ensures (search rules) g.six g.within).within

pub returns-then-is_some-clause-less : goal.returns-then-is_some-clause-less
returns-then-is_some-clause-less c h =
    let g = c.args.self.now in
    (more g.sheet.now g.done c.from.result c.args.party c.from.ensures h g.six g.within).less
