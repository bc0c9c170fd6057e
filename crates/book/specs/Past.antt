-- A book and its past.
use Rattle.std.specs.Prelude.{◌≡◌, ℕ, Bool, List, [], Some, None, Option, slice_index_or}
use Rattle.acts.specs.declared.Act.{Act}
use Rattle.acts.specs.Acts.{Lines}
use Rattle.channel.specs.Meaning.{Meaning}
use Rattle.chart.specs.declared.chart.Chart.{Chart}
use Rattle.chart.specs.Of.{lines_in}
use Rattle.conversation.specs.Conversations.{Reached}
use Rattle.book.specs.declared.book.Book.{Book}
use Rattle.book.specs.History.{Call, Answer, History, then, held}
use Rattle.book.specs.Right.{Right, AllRight}

abbrev pub shown : Option Chart → Option Lines
shown None = None
shown (Some c) = Some (lines_in c)

-- the charts that stand under the ids
abbrev pub table_of : List (Option Chart) → ℕ → Option Lines
table_of charts i = shown (slice_index_or charts i None)

-- what a book stands for: its channel's meaning, and the chart under each id
pub record Standing : Type 0 where
  pub channel : Meaning
  pub charts : ℕ → Option Lines

abbrev pub charts_of : {C : Type 0} → Book C → ℕ → Option Lines
charts_of b = table_of b.charts

abbrev pub standing : {C : Type 0} → (C → Meaning) → Book C → Standing
standing meaning b = record { channel = meaning b.channel; charts = charts_of b }

-- every answer of h was right, the book holds what h says, and its channel is clear: it grants from now on what it grants from clear
pub record Past (G : List Act → Bool) (h : History) (b : Standing) : Type 0 where
  pub right : AllRight G h
  pub holds : (i : ℕ) → b.charts i ≡ held h i
  pub rest : Reached G b.channel []

-- a call with its answer, after any past: the answer is right, and the past goes on by it
abbrev pub Keeps : Standing → Call → Answer → Standing → Type 0
Keeps was c r is = (G : List Act → Bool) (h : History) → Past G h was → Right G h c r × Past G (then h c r) is
