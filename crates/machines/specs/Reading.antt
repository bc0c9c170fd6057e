-- The family of machines that a machine file gives.
use Rattle.std.specs.Prelude.{ℕ, zero, suc, ◌+◌, ◌*◌, cond, List, [], ◌∷◌, ◌++◌, length, drop, ◌==◌, slice_index}
use mathlib.Core.List.{Memᴰ}
use Rattle.acts.specs.declared.Act.{Act}
use Rattle.files.specs.Rules.{is_act, letter_of}
use Rattle.families.specs.Families.{Machines}

-- what a file says: an act of a party leads from one view to another, or a view of a party is a last one
pub data Entry : Type 0 where
  leads : (party from : ℕ) (act : Act) (to : ℕ) → Entry
  ends : (party view : ℕ) → Entry

-- how many operands a letter takes: K two, P one, S and R six, F two, Z none
abbrev pub operands : ℕ → ℕ
operands b = cond (b == 75) 2 (cond (b == 80) 1 (cond (is_act b) 6 (cond (b == 70) 2 0)))

-- the number in two bytes
abbrev pub number : (high low : ℕ) → ℕ
number high low = high * 256 + low

-- what the letter b says with its operands x among the commands of the party p
abbrev pub said : (p b : ℕ) → (x : List ℕ) → List Entry
said p b x =
    cond (is_act b)
    (leads p (number (slice_index x 0) (slice_index x 1)) (record { party = p; letter = letter_of b; peer = slice_index x 4; name = slice_index x 5 })
    (number (slice_index x 2) (slice_index x 3)) ∷ [])
    (cond (b == 70) (ends p (number (slice_index x 0) (slice_index x 1)) ∷ []) [])

-- the party whose commands follow: P names another
abbrev pub party_after : (p b : ℕ) → (x : List ℕ) → ℕ
party_after p b x = cond (b == 80) (slice_index x 0) p

-- command after command up to Z, so many at most
abbrev pub entries_from : (k p : ℕ) → List ℕ → List Entry
entries_from zero p file = []
entries_from (suc k) p [] = []
entries_from (suc k) p (b ∷ x) = cond (b == 90) [] (said p b x ++ entries_from k (party_after p b x) (drop (operands b) x))

-- what a file says, from its front
abbrev pub entries : List ℕ → List Entry
entries file = entries_from (length file) 0 file

-- the family that a file gives: places are numbers of views, 0 is the start, moves and last places are those that it says
abbrev pub file_family : List ℕ → Machines
file_family file = record {
  Place = λ p. ℕ;
  start = λ p. 0;
  Final = λ p q. Memᴰ (ends p q) (entries file);
  Moves = λ p q a r. Memᴰ (leads p q a r) (entries file);
}
