-- How far the parties have come along their lines.
use Rattle.std.specs.Prelude.{◌≡◌, ℕ, ◌+◌, ◌-◌, ◌<◌, ◌≤◌, Bool, true, false, cond, List, length, take, sum_by, slice_index, slice_get, slice_set, is_some, Some, Option, MatchOption}
use Rattle.acts.specs.declared.Act.{Act}
use Rattle.acts.specs.Acts.{Lines, line}

-- no party has done more acts than its line has
abbrev pub Within : Lines → List ℕ → Type 0
Within c done = (p : ℕ) → slice_index done p ≤ length (line c p)

-- the acts of a party so far
abbrev pub so_far : Lines → List ℕ → ℕ → List Act
so_far c done p = take (slice_index done p) (line c p)

-- the next act of a party, where its line has one
abbrev pub next_act : Lines → List ℕ → ℕ → Option Act
next_act c done p = slice_get (line c p) (slice_index done p)

-- one act more of a party is done, where its line has one
abbrev pub passed : Lines → List ℕ → ℕ → List ℕ
passed c done p = cond (is_some (next_act c done p)) (slice_set done p (slice_index done p + 1)) done

-- the next act of a party, where there is one, has the answer no
abbrev pub Refused : (Act → Bool → Type 0) → Lines → List ℕ → ℕ → Type 0
Refused answers c done p = (a : Act) → next_act c done p ≡ Some a → answers a false

-- the first party whose next act has the answer yes, with this act; or none, where no next act has it
abbrev pub Chosen : (Act → Bool → Type 0) → Lines → List ℕ → Option (ℕ × Act) → Type 0
Chosen answers c done r =
    MatchOption r ((q : ℕ) → Refused answers c done q)
    (λ x. (x.0 < length done) × (next_act c done x.0 ≡ Some x.1) × answers x.1 true × ((q : ℕ) → q < x.0 → Refused answers c done q))

-- what can still be done, at most
abbrev pub left : List ℕ → ℕ
left done = sum_by (λ d. 32 - d) done
