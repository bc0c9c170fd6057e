-- What the laws of a language give, as statements that contracts cite.
use Rattle.std.specs.Prelude.{◌≡◌, ℕ, Bool, true, false, ◌↔◌, List, [], ◌∷◌, ◌++◌, length}
use Rattle.acts.specs.declared.Act.{Act}
use Rattle.acts.specs.Acts.{part, SameParts, Beginning, Lines, line, Along, Own}
use Rattle.acts.specs.Language.{Diamond, Causal, plays, Longest, run, size}

-- two granted lists in which every party has the same part leave the same lists granted
abbrev pub PartsDecide : Type 0
PartsDecide = (G : List Act → Bool) → Diamond G → (u w : List Act) → G u ≡ true → G w ≡ true → SameParts u w
    → (l : List Act) → G (u ++ l) ≡ G (w ++ l)

-- a granted list whose parts are beginnings of another granted list's can be lengthened to exactly those parts
abbrev pub Completion : Type 0
Completion = (G : List Act → Bool) → Diamond G → (w u : List Act) → G w ≡ true → G u ≡ true
    → ((p : ℕ) → Beginning (part p w) (part p u))
    → (x : List Act) × (G (w ++ x) ≡ true) × SameParts (w ++ x) u

-- w goes along the lines, and no line's next act is granted after it
pub record Stuck (G : List Act → Bool) (c : Lines) (w : List Act) : Type 0 where
  pub granted : G w ≡ true
  pub along : Along c w
  pub refused : (a : Act) (rest : List Act) → part a.party w ++ (a ∷ rest) ≡ line c a.party → G (w ++ (a ∷ [])) ≡ false

-- where no line can go on, no list goes further along the lines, in all or for any party
abbrev pub StuckIsLongest : Type 0
StuckIsLongest = (G : List Act → Bool) → Diamond G → (c : Lines) (w : List Act) → Stuck G c w
    → Longest G c (length w) × ((u : List Act) → G u ≡ true → Along c u → (p : ℕ) → Beginning (part p u) (part p w))

-- a run with as many steps as the lines have acts is a longest list
abbrev pub RunIsLongest : Type 0
RunIsLongest = (G : List Act → Bool) → Diamond G → (c : Lines) → Own c → Longest G c (length (run G c (size c) []))

-- the playing orders form a language with these laws: the test and the relation say the same
abbrev pub PlayingOrders : Type 0
PlayingOrders = Diamond plays × ((w : List Act) → (plays w ≡ true) ↔ Causal w)
