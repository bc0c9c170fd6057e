use Rattle.std.proofs.Common.{◌≡◌, ℕ, ◌+◌, ◌*◌, ◌<◌, ◌≤◌, List, length, get_or, Some, None, vec_items, vec_len, sym, ap, ◌∙◌, subst, add-one, arith}
use Rattle.std.proofs.lemmas.Nat.{one_shl}
use Rattle.std.proofs.lemmas.List.{get_or_read}
use Rattle.acts.specs.declared.Act.{Act}
use Rattle.acts.specs.Acts.{line}
use Rattle.chart.specs.Of.{lines_in}
use Rattle.views.specs.declared.view.View.{View}
use Rattle.views.specs.declared.party_views.PartyViews.{PartyViews}
use Rattle.views.specs.Building.{Entered}
use Rattle.views.specs.Tables.{shown, table_of, ShowsBelow}
use Rattle.views.proofs.Showing.{shows_none, shows_empty, shows_chart, shows_all}
use Rattle.views.proofs.party_views.PartyViews.build.Goals as goal
use Rattle.views.proofs.party_views.PartyViews.build.Goals.{in-Some, in_default}

pub loop-id-init : goal.loop-id-init
loop-id-init c =
    let f = table_of c.args.charts.now in
    let n = c.restart.new.self.views.ok.0 in
    let e = ap length c.restart.ensures in
    (omega arith, subst (ShowsBelow f c.args.party 0) (sym c.restart.ensures) (shows_none f c.args.party))

pub loop-id-preserved : goal.loop-id-preserved
loop-id-preserved c =
    let charts = c.args.charts.now in
    let f = table_of charts in
    let p = c.args.party in
    let id = c.loop-id.id in
    let i = c.loop-id.invariant in
    let was : List View = vec_items c.loop-id.self.views in
    let eight : length charts ≡ 8 = c.requires in
    let lt : id < length charts = let h = c.loop-id-test.true in let e = c.loop-id.auto.id-end in omega arith in
    let low : id < 8 = omega arith in
    let x = c.index-charts-id.result in
    let at : get_or charts id None ≡ x = sym (get_or_read charts id x lt c.index-charts-id.is None) in
    let Next : PartyViews → Type 0 = λ s. (vec_len s.views ≤ 1 + 32 * (id + 1)) × ShowsBelow f p (id + 1) (vec_items s.views) in
    elim c.match-chart.branch [
      | in-Some w ↦
          let e : f id ≡ Some (lines_in w.in-Some.chart) = ap shown (at ∙ w.in-Some.is) in
          let E : Entered was (line (lines_in w.in-Some.chart) p) _ (vec_items w.enter_line.new.self.views) =
          subst (λ (l : List Act). Entered was l _ (vec_items w.enter_line.new.self.views)) w.line.ensures.acts w.enter_line.ensures in
          let n0 = c.loop-id.self.views.ok.0 in
          let n1 = w.enter_line.new.self.views.ok.0 in
          let few = w.enter_line.ensures.few in
          let short = w.line.ensures.short in
          let r : Next w.enter_line.new.self = (
            omega (arith, i.0),
            subst (λ (k : ℕ). ShowsBelow f p k (vec_items w.enter_line.new.self.views)) (sym (add-one id))
                (shows_chart f p id was i.1 (lines_in w.in-Some.chart) e _ (one_shl id 8 low) (vec_items w.enter_line.new.self.views) E),
          ) in
          subst Next (sym w.self-is) r
      | in_default w ↦
          let r : Next c.loop-id.self = (
            omega (arith, i.0),
            subst (λ (k : ℕ). ShowsBelow f p k was) (sym (add-one id)) (shows_empty f p id was i.1 (ap shown (at ∙ w.in_default.is))),
          ) in
          subst Next (sym w.self-is) r
    ]

pub returns : goal.returns
returns c =
    let f = table_of c.args.charts.now in
    let e : c.loop-id.id ≡ 8 = let a = c.loop-id-test.false in let b = c.loop-id.auto.id-end in let r = c.requires in omega arith in
    shows_all f c.args.party (vec_items c.loop-id.self.views)
    (subst (λ (k : ℕ). ShowsBelow f c.args.party k (vec_items c.loop-id.self.views)) e c.loop-id.invariant.1)
