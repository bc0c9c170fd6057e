-- The bytes of the machine file and of the list file.
use Rattle.std.specs.Prelude.{ℕ, zero, suc, ◌/◌, ◌%◌, Bool, cond, List, [], ◌∷◌, ◌++◌, Some, None, Option}
use Rattle.acts.specs.declared.Act.{Act}
use Rattle.acts.specs.Language.{maybe}
use Rattle.acts.specs.Acts.{byte_of_letter}
use Rattle.families.specs.Judgement.{Charts}
use Rattle.families.specs.Tests.{is_last}
use Rattle.numbering.specs.Numbering.{place, views_of}

-- a number in two bytes, the high one first
abbrev pub word : ℕ → List ℕ
word k = (k / 256) ∷ (k % 256) ∷ []

-- the last act of a view, which the empty one lacks, and the view that it lengthens
abbrev pub last_act : List Act → Option Act
last_act [] = None
last_act (a ∷ []) = Some a
last_act (a ∷ b ∷ v) = last_act (b ∷ v)

abbrev pub lengthens : List Act → List Act
lengthens [] = []
lengthens (a ∷ []) = []
lengthens (a ∷ b ∷ v) = a ∷ lengthens (b ∷ v)

-- a move: its letter, the view that it lengthens, the view that it leads to, its peer and its name
abbrev pub move_bytes : (from to : ℕ) → Act → List ℕ
move_bytes from to a = byte_of_letter a.letter ∷ (word from ++ (word to ++ (a.peer ∷ a.name ∷ [])))

-- the move to the view v, which has the number k; the empty view has none
abbrev pub move_to : (views : List (List Act)) (k : ℕ) → List Act → List ℕ
move_to views k v = maybe [] (move_bytes (place views (lengthens v)) k) (last_act v)

-- F and the number of a view
abbrev pub last_bytes : ℕ → List ℕ
last_bytes k = 70 ∷ word k

-- these for the view v with the number k, if it passes the test
abbrev pub last_at : (List Act → Bool) → (k : ℕ) → List Act → List ℕ
last_at t k v = cond (t v) (last_bytes k) []

-- what g makes of each of the views vs, numbered from k on
abbrev pub each_from : {X : Type 0} → (g : ℕ → List Act → List X) (k : ℕ) → (vs : List (List Act)) → List X
each_from g k [] = []
each_from g k (v ∷ vs) = g k v ++ each_from g (suc k) vs

-- a party: P, the party, the moves to its views and its last views, by rising number
abbrev pub party_bytes : Charts → ℕ → List ℕ
party_bytes f p = 80 ∷ p ∷ (each_from (move_to (views_of p f)) 0 (views_of p f) ++ each_from (last_at (is_last f p)) 0 (views_of p f))

-- the parties 0 to n - 1
abbrev pub parties_below : Charts → ℕ → List ℕ
parties_below f zero = []
parties_below f (suc n) = parties_below f n ++ party_bytes f n

-- the machine file: K, the channel's code, the number of parties, the parties, Z
abbrev pub machine_file_bytes : (code n : ℕ) → Charts → List ℕ
machine_file_bytes code n f = 75 ∷ code ∷ n ∷ (parties_below f n ++ (90 ∷ []))

-- an act of a list file: its letter, party, peer and name
abbrev pub told_bytes : List Act → List ℕ
told_bytes [] = []
told_bytes (a ∷ w) = byte_of_letter a.letter ∷ a.party ∷ a.peer ∷ a.name ∷ told_bytes w

-- the list file: W, the kind, the acts, Z
abbrev pub list_file_bytes : (kind : ℕ) → List Act → List ℕ
list_file_bytes kind w = 87 ∷ kind ∷ (told_bytes w ++ (90 ∷ []))
