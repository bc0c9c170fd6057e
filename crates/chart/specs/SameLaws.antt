-- Equality of charts is an equivalence.
use Rattle.std.specs.Cmp.{IsEquivalence, IsPartialEquivalence, partial_equiv_from_equiv}
use Rattle.std.proofs.lemmas.Cmp.{on_equiv, lists_equiv}
use Rattle.acts.specs.contracts.ActEq.TheImpl.Laws as acts
use Rattle.chart.specs.Of.{lines_in}
use Rattle.chart.specs.Same.{same_charts}

pub same_equivalence : IsEquivalence same_charts
same_equivalence = on_equiv lines_in (lists_equiv (lists_equiv acts.laws-law))

pub same_partial : IsPartialEquivalence same_charts
same_partial = partial_equiv_from_equiv same_equivalence
