-- Bytes put into an output one piece after another.
use Rattle.std.specs.Prelude.{◌≡◌, ℕ, ◌+◌, ◌≤◌, List, length}
use Rattle.chart.specs.declared.output.Output.{Output}
use Rattle.chart.specs.Writing.{put}

-- the output has room for these bytes from its place on
abbrev pub Fits : Output → List ℕ → Type 0
Fits o bytes = o.place + length bytes ≤ length o.bytes.now

-- these bytes are put at the place of the output a, which leaves b, with its place behind them
pub record Puts (a : Output) (bytes : List ℕ) (b : Output) : Type 0 where
  pub output : b.bytes.now ≡ put a.bytes.now a.place bytes
  pub place : b.place ≡ a.place + length bytes
  pub same : b.bytes.ghost_name ≡ a.bytes.ghost_name
