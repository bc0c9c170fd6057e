-- How a table of views grows by a line.
use Rattle.std.specs.Prelude.{◌≡◌, ℕ, ◌+◌, ◌<◌, ◌≤◌, Bool, false, cond, List, [], length, get_or, bit_or, slice_index_or}
use Rattle.acts.specs.declared.Act.{Act}
use Rattle.families.specs.Tests.{same_acts, begins_with}
use Rattle.numbering.specs.Numbering.{among, noted_along}
use Rattle.views.specs.declared.view.View.{View}
use Rattle.views.specs.Spelled.{root, spelled}

-- the views of a table stay, and new ones are of no chart
pub record Grown (nodes more : List View) : Type 0 where
  pub longer : length nodes ≤ length more
  pub few : length more ≤ length nodes + 1
  pub old : (j : ℕ) → j < length nodes → slice_index_or more j root ≡ slice_index_or nodes j root
  pub new : (j : ℕ) → length nodes ≤ j → j < length more → ((get_or more j root).charts ≡ 0) × ((get_or more j root).complete ≡ 0)

-- a view with another chart whose line begins with it, or whose line it is
abbrev pub in_chart : View → ℕ → View
in_chart x bit = record { lengthens = x.lengthens; act = x.act; charts = bit_or x.charts bit; complete = x.complete }

abbrev pub completing : View → ℕ → View
completing x bit = record { lengthens = x.lengthens; act = x.act; charts = x.charts; complete = bit_or x.complete bit }

-- the mask of every view is t of its list
abbrev pub Masked : (View → ℕ) → (List Act → ℕ) → List View → Type 0
Masked get t nodes = (j : ℕ) → j < length nodes → get (slice_index_or nodes j root) ≡ t (slice_index_or (spelled nodes) j [])

-- lists that are no views have no charts
abbrev pub Bare : (List Act → ℕ) → List View → Type 0
Bare t nodes = (v : List Act) → among (spelled nodes) v ≡ false → t v ≡ 0

-- t with the bit of one chart more, where a test holds
abbrev pub with_bit : (List Act → Bool) → ℕ → (List Act → ℕ) → List Act → ℕ
with_bit test bit t v = cond (test v) (bit_or (t v) bit) (t v)

-- a line was entered: its beginnings are noted, and they and the whole line carry the chart's bit
pub record Entered (nodes : List View) (l : List Act) (bit : ℕ) (more : List View) : Type 0 where
  pub views : spelled more ≡ noted_along (spelled nodes) [] l
  pub few : length more ≤ length nodes + length l
  pub charts : (t : List Act → ℕ) → Masked (λ x. x.charts) t nodes → Bare t nodes
      → Masked (λ x. x.charts) (with_bit (λ v. begins_with v l) bit t) more
  pub complete : (t : List Act → ℕ) → Masked (λ x. x.complete) t nodes → Bare t nodes
      → Masked (λ x. x.complete) (with_bit (λ v. same_acts v l) bit t) more

-- a line is being entered: so far its first acts, and the view that they make
pub record Entering (nodes : List View) (done : List Act) (bit at : ℕ) (more : List View) : Type 0 where
  pub views : spelled more ≡ noted_along (spelled nodes) [] done
  pub few : length more ≤ length nodes + length done
  pub below : at < length more
  pub here : get_or (spelled more) at [] ≡ done
  pub charts : (t : List Act → ℕ) → Masked (λ x. x.charts) t nodes → Bare t nodes
      → Masked (λ x. x.charts) (with_bit (λ v. begins_with v done) bit t) more
  pub complete : (t : List Act → ℕ) → Masked (λ x. x.complete) t nodes → Bare t nodes
      → Masked (λ x. x.complete) t more
