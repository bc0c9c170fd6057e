-- What there is to find in a table of charts.
use Rattle.std.specs.Prelude.{◌≡◌, ℕ, length, Some, Option}
use Rattle.acts.specs.Acts.{Lines}

-- all charts of the table have as many parties as this one
abbrev pub AsMany : (ℕ → Option Lines) → Lines → Type 0
AsMany f c = (i : ℕ) (d : Lines) → f i ≡ Some d → length d ≡ length c

-- a chart of the table has another number of parties: that number
pub record NotAsMany (f : ℕ → Option Lines) (c : Lines) (n : ℕ) : Type 0 where
  pub id : ℕ
  pub other : Lines
  pub there : f id ≡ Some other
  pub parties : length other ≡ n
  pub differ : length other ≡ length c → ⊥

-- the chart stands under this id, and under no id
abbrev pub Somewhere : (ℕ → Option Lines) → Lines → ℕ → Type 0
Somewhere f c i = f i ≡ Some c

abbrev pub Nowhere : (ℕ → Option Lines) → Lines → Type 0
Nowhere f c = (i : ℕ) → Somewhere f c i → ⊥
