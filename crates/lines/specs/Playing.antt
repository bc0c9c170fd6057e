-- A run along the lines without a channel: how far it has come.
use Rattle.std.specs.Prelude.{◌≡◌, ℕ, ◌<◌, Bool, true, false, ◌||◌, List, [], ◌∷◌, ◌++◌, nat_lt}
use Rattle.acts.specs.declared.Act.{Act}
use Rattle.acts.specs.Acts.{part, sends, receives, is_send, Lines, Own}
use Rattle.acts.specs.Language.{plays}
use Rattle.acts.specs.Theorems.{Stuck}
use Rattle.lines.specs.Progress.{Within, so_far, left}

-- a receive needs more sends of its message so far than receives
abbrev pub ready_by : Lines → List ℕ → Act → Bool
ready_by c done a =
    is_send a.letter
    || nat_lt (receives a.peer a.party a.name (so_far c done a.party)) (sends a.peer a.party a.name (so_far c done a.peer))

-- the playing order w has brought every party so far
pub record Going (c : Lines) (done : List ℕ) (w : List Act) : Type 0 where
  pub playing : plays w ≡ true
  pub parts : (p : ℕ) → part p w ≡ so_far c done p

-- one act more is played, or no line can go on and nothing changes
pub record Advanced (c : Lines) (done : List ℕ) (moved : Bool) (more : List ℕ) : Type 0 where
  pub within : Within c more
  pub less : moved ≡ true → left more < left done
  pub on : Own c → moved ≡ true → (w : List Act) → Going c done w → (a : Act) × Going c more (w ++ (a ∷ []))
  pub stands : Own c → moved ≡ false → (w : List Act) → Going c done w → Stuck plays c w
