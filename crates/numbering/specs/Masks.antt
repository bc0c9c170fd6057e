-- Masks of charts: eight bits, bit i for id i.
use Rattle.std.specs.Prelude.{ℕ, zero, suc, ◌+◌, ◌*◌, ◌^◌, Bool, true, false, List}
use Rattle.acts.specs.declared.Act.{Act}
use Rattle.acts.specs.Acts.{line}
use Rattle.families.specs.Tests.{same_acts, begins_with, passes}
use Rattle.families.specs.Judgement.{Charts}

abbrev pub one : Bool → ℕ
one true = 1
one false = 0

-- the mask of the ids below k that pass a test
abbrev pub mask : (ℕ → Bool) → ℕ → ℕ
mask t zero = 0
mask t (suc k) = one (t k) * 2 ^ k + mask t k

-- how many ids below k pass a test
abbrev pub passing : (ℕ → Bool) → ℕ → ℕ
passing t zero = 0
passing t (suc k) = passing t k + one (t k)

-- v is a beginning of the party's line in the chart under the id
abbrev pub begins : Charts → ℕ → List Act → ℕ → Bool
begins f p v i = passes (λ c. begins_with v (line c p)) (f i)

-- v is the party's whole line in the chart under the id
abbrev pub completes : Charts → ℕ → List Act → ℕ → Bool
completes f p v i = passes (λ c. same_acts v (line c p)) (f i)
