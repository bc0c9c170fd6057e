-- The channel that grants the empty list only.
use Rattle.std.specs.Prelude.{Bool, true, false, List, [], ◌∷◌}
use Rattle.acts.specs.declared.Act.{Act}
use Rattle.channel.specs.Meaning.{Meaning}

abbrev pub silent : List Act → Bool
silent [] = true
silent (a ∷ l) = false

abbrev pub mute_meaning : Meaning
mute_meaning = record { clearly = silent; grants = silent; waits = λ s r k. 0 }
