-- Which command may stand where, and what is wrong with one: the rules of the chart file.
use Rattle.std.specs.Prelude.{◌≡◌, ℕ, pred, ◌+◌, Bool, true, cond, not, ◌&&◌, ◌||◌, ◌⊎◌, List, [], ◌∷◌, ◌++◌, length, Some, None, Option, ◌==◌, nat_le, nat_lt, slice_index}
use Rattle.fault.specs.declared.Fault.{Fault}
use Rattle.fault.specs.declared.FileCause.{FileCause}
use Rattle.fault.specs.declared.FileCause.TheVariants.{Ends, NotAllowed, OutOfRange, LineFull}
use Rattle.fault.specs.declared.Layer.TheVariants.{File}
use Rattle.acts.specs.declared.Act.{Act}
use Rattle.acts.specs.declared.Letter.{Letter}
use Rattle.acts.specs.declared.Letter.TheVariants.{Send, Receive}
use Rattle.acts.specs.Acts.{Lines}
use Rattle.lines.specs.Charts.{Begun, newest, lengthened}
use Rattle.files.specs.Bytes.{front_bytes}

-- how far a file has come: the parties that C named, 0 before it, and the lines begun, of which the last may go on
pub record Stage : Type 0 where
  pub parties : ℕ
  pub lines : Lines

abbrev pub outset : Stage
outset = record { parties = 0; lines = [] }

-- the complete commands that lead to a stage
abbrev pub so_far : Stage → List ℕ
so_far s = cond (s.parties == 0) [] (front_bytes s.parties s.lines)

-- a stage that commands can lead to, each allowed after those before it
abbrev pub Sound : Stage → Type 0
Sound s = ((s.parties ≡ 0) × (s.lines ≡ [])) ⊎ Begun s.parties s.lines

abbrev pub is_act : ℕ → Bool
is_act b = b == 83 || b == 82

-- C first, L while lines are missing, S and R in a line, Z in the last line; n parties are named and k lines begun
abbrev pub allowed : (n k b : ℕ) → Bool
allowed n k b =
    (b == 67 && n == 0)
    || ((b == 76 && nat_lt k n) || ((is_act b && nat_lt 0 k) || (b == 90 && (nat_lt 0 n && k == n))))

-- how many operands a letter takes
abbrev pub operands : ℕ → ℕ
operands b = cond (is_act b) 2 (cond (b == 90) 0 1)

-- the first operand: two to six parties, the next party, a peer other than the line's party
abbrev pub first_fits : (n k b x : ℕ) → Bool
first_fits n k b x =
    cond (b == 67) (nat_le 2 x && nat_le x 6)
    (cond (b == 76) (x == k) (cond (is_act b) (nat_lt x n && not (x == pred k)) true))

-- the second operand, a name
abbrev pub second_fits : (b y : ℕ) → Bool
second_fits b y = cond (is_act b) (nat_lt y 32) true

-- a row of the table of refusals: when it applies, and what is answered then
pub record Row : Type 0 where
  pub when : Bool
  pub fault : Fault

abbrev pub file_row : Bool → FileCause → ℕ → Row
file_row b cause place = record { when = b; fault = record { layer = File cause; place = place } }

-- the first row that applies
abbrev pub first : List Row → Option Fault
first [] = None
first (r ∷ rows) = cond r.when (Some r.fault) (first rows)

-- the rows of one command: n parties named, k lines begun, m acts in the last of them; the file has `size` bytes, the
-- command is due at the offset `at`, `left` bytes stand there, and the first three of them are b, x and y
abbrev pub rows : (n k m size at left b x y : ℕ) → List Row
rows n k m size at left b x y =
    file_row (left == 0) Ends size
    ∷ file_row (not (allowed n k b)) NotAllowed at
    ∷ file_row (nat_lt left (1 + operands b)) Ends size
    ∷ file_row (not (first_fits n k b x)) OutOfRange (at + 1)
    ∷ file_row (not (second_fits b y)) OutOfRange (at + 2)
    ∷ file_row (is_act b && not (nat_lt m 32)) LineFull at
    ∷ []

-- what is wrong with the command that stands at `rest` after a stage, if anything is
abbrev pub wrong : Stage → (size at : ℕ) → List ℕ → Option Fault
wrong s size at rest =
    first (rows s.parties (length s.lines) (length (newest s.lines)) size at (length rest)
    (slice_index rest 0) (slice_index rest 1) (slice_index rest 2))

abbrev pub letter_of : ℕ → Letter
letter_of b = cond (b == 83) Send Receive

-- the act of the last line that a command names
abbrev pub act_of : Lines → (b x y : ℕ) → Act
act_of c b x y = record { party = pred (length c); letter = letter_of b; peer = x; name = y }

-- the stage after a command that is right
abbrev pub grown : Stage → (b x y : ℕ) → Stage
grown s b x y =
    cond (b == 67) (record { parties = x; lines = [] })
    (cond (b == 76) (record { parties = s.parties; lines = s.lines ++ ([] ∷ []) })
    (cond (is_act b) (record { parties = s.parties; lines = lengthened s.lines (act_of s.lines b x y) }) s))
