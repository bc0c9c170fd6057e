-- Bytes put into an output.
use Rattle.std.specs.Prelude.{◌≡◌, ℕ, ◌+◌, ◌<◌, ◌≤◌, List, ◌++◌, length, take, drop, Result, MatchResult}
use Rattle.fault.specs.declared.Fault.{Fault}
use Rattle.fault.specs.declared.BookCause.TheVariants.{OutputShort}
use Rattle.fault.specs.declared.Layer.TheVariants.{Book}

-- the output with these bytes at the offset `at`, and its other bytes as they were
abbrev pub put : List ℕ → ℕ → List ℕ → List ℕ
put out at bytes = take at out ++ (bytes ++ drop (at + length bytes) out)

-- the bytes stand at the output's front, its other bytes are as they were, and the answer is their number
pub record Wrote (bytes out : List ℕ) (n : ℕ) (after : List ℕ) : Type 0 where
  pub room : length bytes ≤ length out
  pub answer : n ≡ length bytes
  pub output : after ≡ bytes ++ drop (length bytes) out

-- the output is too short and as it was, and the place is the length due
pub record TooShort (bytes out : List ℕ) (f : Fault) (after : List ℕ) : Type 0 where
  pub short : length out < length bytes
  pub fault : f ≡ record { layer = Book OutputShort; place = length bytes }
  pub output : after ≡ out

abbrev pub Written : List ℕ → List ℕ → Result ℕ Fault → List ℕ → Type 0
Written bytes out r after = MatchResult r (λ n. Wrote bytes out n after) (λ f. TooShort bytes out f after)
