-- The bytes of a chart file.
use Rattle.std.specs.Prelude.{ℕ, suc, List, [], ◌∷◌, ◌++◌, length}
use Rattle.acts.specs.declared.Act.{Act}
use Rattle.acts.specs.Acts.{byte_of_letter, Lines}

-- an act: its letter, its peer and its name
abbrev pub act_bytes : Act → List ℕ
act_bytes a = byte_of_letter a.letter ∷ a.peer ∷ a.name ∷ []

abbrev pub acts_bytes : List Act → List ℕ
acts_bytes [] = []
acts_bytes (a ∷ l) = act_bytes a ++ acts_bytes l

-- a line: L, its party, its acts
abbrev pub line_bytes : ℕ → List Act → List ℕ
line_bytes p l = 76 ∷ p ∷ acts_bytes l

-- the lines of the parties from p up
abbrev pub lines_bytes : ℕ → Lines → List ℕ
lines_bytes p [] = []
lines_bytes p (l ∷ c) = line_bytes p l ++ lines_bytes (suc p) c

-- the file without its end: C, the number of parties, the lines
abbrev pub front_bytes : ℕ → Lines → List ℕ
front_bytes n c = 67 ∷ n ∷ lines_bytes 0 c

-- the file of a chart: all lines, and Z
abbrev pub file_of : Lines → List ℕ
file_of c = front_bytes (length c) c ++ (90 ∷ [])
