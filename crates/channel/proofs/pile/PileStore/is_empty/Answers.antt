use Rattle.std.proofs.Common.{◌≡◌, length, sym, ◌∙◌, rules}
use Rattle.std.proofs.lemmas.Bool.{eqb-true, eq-eqb}
use Rattle.channel.proofs.Counting.{total-none, none-total}
use Rattle.channel.proofs.pile.PileStore.is_empty.Goals as goal

pub returns : goal.returns
returns c =
    let pile = c.args.self.now in
    let n : length pile.counts ≡ 32 = search rules in (
      λ e. total-none pile.counts 32 n (sym pile.tie ∙ eqb-true pile.size 0 e),
      λ z. eq-eqb pile.size 0 (pile.tie ∙ none-total pile.counts 32 n z),
    )
