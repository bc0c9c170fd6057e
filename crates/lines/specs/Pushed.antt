-- One act more on a list of acts that has room for it.
use Rattle.std.specs.Prelude.{◌≡◌, ℕ, Bool, cond, List, [], ◌∷◌, ◌++◌, length, nat_lt}
use Rattle.acts.specs.declared.Act.{Act}

-- the acts, with one more at the end where they are fewer than the most that there may be
abbrev pub added : ℕ → List Act → Act → List Act
added most w a = cond (nat_lt (length w) most) (w ++ (a ∷ [])) w

-- the act is added at the end where there are fewer than the most acts, and otherwise nothing changes
pub record Pushed (most : ℕ) (done : Bool) (a : Act) (was is : List Act) : Type 0 where
  pub test : done ≡ nat_lt (length was) most
  pub after : is ≡ cond done (was ++ (a ∷ [])) was
