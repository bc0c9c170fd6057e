use Rattle.std.proofs.Common.{ℕ, List, length, sym, ◌∙◌, subst}
use Rattle.std.proofs.lemmas.List.{length_push}
use Rattle.std.proofs.lemmas.Iterator.Consumers.{YieldsList-at, YieldsList-turn}
use Rattle.chart.specs.Putting.{Fits, Puts}
use Rattle.views.specs.Parties.{nodes_in}
use Rattle.views.proofs.Choosing.{later_views}
use Rattle.filing.proofs.Putting.{comes, move_fits, move_puts}
use Rattle.filing.proofs.machine_file.put_moves.Goals as goal

pub put-requires : goal.put-requires
put-requires c =
    let xs = nodes_in c.args.views.now in
    let i = c.loop-number in
    let k = c.in-Some.number in
    let x = c.in-Some.view.now in
    let later = later_views xs (cc) c.enumerate.ensures.source c.enumerate.ensures.count c.skip-number-items.ensures.source c.skip-number-items.ensures.count in
    let turn = YieldsList-turn (YieldsList-at c.into_iter-number-iterator.ensures.into_iter_gives later)
    i.yielded i.number-iterator i.yielded_by c.next.result c.next.new.self (k, c.in-Some.view) c.in-Some.is c.next.ensures.steps in
    subst (Fits i.output) (sym c.move_bytes.ensures)
    (move_fits c.args.output.now i.output (length i.yielded) k xs x (comes xs (length i.yielded) k x turn.0 turn.1) c.requires i.invariant)

pub loop-number-preserved : goal.loop-number-preserved
loop-number-preserved c =
    let xs = nodes_in c.args.views.now in
    let i = c.loop-number in
    let k = c.in-Some.number in
    let x = c.in-Some.view.now in
    let later = later_views xs (cc) c.enumerate.ensures.source c.enumerate.ensures.count c.skip-number-items.ensures.source c.skip-number-items.ensures.count in
    let turn = YieldsList-turn (YieldsList-at c.into_iter-number-iterator.ensures.into_iter_gives later)
    i.yielded i.number-iterator i.yielded_by c.next.result c.next.new.self (k, c.in-Some.view) c.in-Some.is c.next.ensures.steps in
    let C = comes xs (length i.yielded) k x turn.0 turn.1 in
    move_puts c.args.output.now i.output (length i.yielded) k xs x C c.requires i.invariant c.put.new.self _
    (length_push i.yielded (k, c.in-Some.view) ∙ sym C.number) (subst (λ (l : List ℕ). Puts i.output l c.put.new.self) c.move_bytes.ensures c.put.ensures)
