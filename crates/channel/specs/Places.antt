-- What waits, where each sender and receiver of six parties have a place in a list.
use Rattle.std.specs.Prelude.{ℕ, ◌+◌, ◌*◌, cond, ◌&&◌, List, map, nat_lt, slice_index, slice_index_or}
use Rattle.acts.specs.declared.Act.{Act}
use Rattle.acts.specs.Acts.{from, to}
use Rattle.channel.specs.Meaning.{Meaning}
use Rattle.channel.specs.Pairs.{Way, State, meaning_of}

abbrev pub slot : ℕ → ℕ → ℕ
slot s r = s * 6 + r

-- the place of an act's message
abbrev pub place_of : Act → ℕ
place_of a = slot (from a.letter a.party a.peer) (to a.letter a.party a.peer)

-- the state of a list, each item of which holds what waits at its place
abbrev pub stored : (W : Way) → {X : Type 0} → (X → W.Waiting) → List X → State W
stored W held xs s r = cond (nat_lt s 6 && nat_lt r 6) (slice_index_or (map held xs) (slot s r) W.none) W.none

-- what such a list means
abbrev pub meaning_in : (W : Way) → {X : Type 0} → (X → W.Waiting) → List X → Meaning
meaning_in W held xs = meaning_of W (stored W held xs)

-- how many of each name, as a list from name 0 up
abbrev pub counted : List ℕ → ℕ → ℕ
counted xs m = slice_index xs m
