use Rattle.std.proofs.Common.{rules, tests}
use Rattle.std.proofs.lemmas.Iterator.{first_from_Range}
use Rattle.lines.specs.Of.{lines_of}
use Rattle.lines.proofs.Pairings.{UnpairedAt, PairedAt, first_of, paired_at}
use Rattle.lines.proofs.sheet.Sheet.first_unpaired.Goals as goal

pub returns : goal.returns
returns c =
    let cl = lines_of c.args.self.now in
    first_of cl c.find.result (first_from_Range _ _ _ c.find.result (UnpairedAt cl) (PairedAt cl) c.find.ensures.ran (λ x q k. search (rules, tests)) (λ x q k. search (rules, tests, paired_at)))
