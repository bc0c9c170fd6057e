use Rattle.std.proofs.Common.{◌≡◌, ℕ, ◌+◌, List, get_or, take, sym, ◌∙◌, subst}
use Rattle.chart.specs.Putting.{Fits, Puts}
use Rattle.views.specs.declared.view.View.{View}
use Rattle.views.specs.Spelled.{root}
use Rattle.views.specs.Parties.{nodes_in}
use Rattle.filing.specs.Filed.{last_of, each_view}
use Rattle.filing.proofs.Rows.{last_yes, last_no}
use Rattle.filing.proofs.Putting.{row_fits, row_puts, row_none}
use Rattle.filing.proofs.machine_file.put_lasts.Goals as goal
use Rattle.filing.proofs.machine_file.put_lasts.Goals.{then-view-ne0, else-view-ne0}

pub put-requires : goal.put-requires
put-requires c =
    let i = c.loop-number in
    let a = c.args.output.now in
    let xs = c.views-view-items.result.now in
    let e : nodes_in c.args.views.now ≡ xs = sym c.views-view-items.ensures.value in
    let room = subst (λ (l : List View). Fits a (each_view last_of 0 l)) e c.requires in
    let so_far = subst (λ (l : List View). Puts a (each_view last_of 0 (take i.number l)) i.output) e i.invariant in
    subst (Fits i.output) (last_yes i.number (get_or xs i.number root) c.if-view-ne0.true ∙ sym c.last_bytes.ensures)
    (row_fits last_of a i.output i.number xs root c.loop-number-test.true room so_far)

pub loop-number-preserved : goal.loop-number-preserved
loop-number-preserved c =
    let i = c.loop-number in
    let a = c.args.output.now in
    let xs = c.views-view-items.result.now in
    let e : nodes_in c.args.views.now ≡ xs = sym c.views-view-items.ensures.value in
    let room = subst (λ (l : List View). Fits a (each_view last_of 0 l)) e c.requires in
    let so_far = subst (λ (l : List View). Puts a (each_view last_of 0 (take i.number l)) i.output) e i.invariant in
    let more : Puts a (each_view last_of 0 (take (i.number + 1) xs)) c.if-view-ne0.output = elim c.if-view-ne0.branch [
      | then-view-ne0 w ↦
          subst (Puts a (each_view last_of 0 (take (i.number + 1) xs))) (sym w.output-is)
          (row_puts last_of a i.output i.number xs root c.loop-number-test.true room so_far w.put.new.self
          (subst (λ (l : List ℕ). Puts i.output l w.put.new.self) (w.last_bytes.ensures ∙ sym (last_yes i.number (get_or xs i.number root) w.if-view-ne0.true)) w.put.ensures))
      | else-view-ne0 w ↦
          subst (Puts a (each_view last_of 0 (take (i.number + 1) xs))) (sym w.output-is)
          (row_none last_of a i.output i.number xs root c.loop-number-test.true room so_far (last_no i.number (get_or xs i.number root) w.if-view-ne0.false))
    ] in
    subst (λ (l : List View). Puts a (each_view last_of 0 (take (i.number + 1) l)) c.if-view-ne0.output) (sym e) more
