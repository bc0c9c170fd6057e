-- What a table of views shows of the charts that it was made from.
use Rattle.std.specs.Prelude.{◌≡◌, ℕ, List, Some, None, Option, slice_index_or}
use Rattle.acts.specs.Acts.{Lines}
use Rattle.chart.specs.declared.chart.Chart.{Chart}
use Rattle.chart.specs.Of.{lines_in}
use Rattle.families.specs.Judgement.{Charts}
use Rattle.numbering.specs.Numbering.{views_below, views_of}
use Rattle.numbering.specs.Masks.{mask, begins, completes}
use Rattle.views.specs.declared.view.View.{View}
use Rattle.views.specs.Spelled.{spelled}
use Rattle.views.specs.Building.{Masked}

abbrev pub shown : Option Chart → Option Lines
shown None = None
shown (Some c) = Some (lines_in c)

-- the charts that stand under the ids
abbrev pub table_of : List (Option Chart) → Charts
table_of charts i = shown (slice_index_or charts i None)

-- the table has the party's views in the charts whose ids are below k, each with the masks of these charts
pub record ShowsBelow (f : Charts) (p k : ℕ) (nodes : List View) : Type 0 where
  pub views : spelled nodes ≡ views_below p f k
  pub charts : Masked (λ x. x.charts) (λ v. mask (begins f p v) k) nodes
  pub complete : Masked (λ x. x.complete) (λ v. mask (completes f p v) k) nodes

-- the table has the party's views by number, each with the masks of the charts whose line begins with it and whose line it is
pub record Shows (f : Charts) (p : ℕ) (nodes : List View) : Type 0 where
  pub views : spelled nodes ≡ views_of p f
  pub charts : Masked (λ x. x.charts) (λ v. mask (begins f p v) 8) nodes
  pub complete : Masked (λ x. x.complete) (λ v. mask (completes f p v) 8) nodes
