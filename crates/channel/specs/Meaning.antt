-- What a channel means, the laws that it keeps, and what its calls do to its meaning.
use Rattle.std.specs.Prelude.{◌≡◌, ℕ, ◌+◌, ◌-◌, ◌<◌, Bool, true, cond, List, [], ◌∷◌, ◌++◌}
use Rattle.acts.specs.declared.Act.{Act}
use Rattle.acts.specs.declared.Letter.TheVariants.{Receive}
use Rattle.acts.specs.Acts.{InRange, sends, receives}
use Rattle.acts.specs.Language.{Diamond}

-- the laws of the lists that a channel grants from clear: those of a language; an act out of range for six parties
-- is never granted, nor a receive of which no message waits
pub record Lawful (G : List Act → Bool) : Type 0 where
  pub diamond : Diamond G
  pub range : (l : List Act) (a : Act) → G (l ++ (a ∷ [])) ≡ true → InRange 6 a
  pub waits : (l : List Act) (a : Act) → G (l ++ (a ∷ [])) ≡ true → a.letter ≡ Receive
      → receives a.peer a.party a.name l < sends a.peer a.party a.name l

-- the lists granted from clear, the lists granted from now on, and how many of each message wait (sender, receiver, name)
pub record Meaning : Type 0 where
  pub clearly : List Act → Bool
  pub grants : List Act → Bool
  pub waits : ℕ → ℕ → ℕ → ℕ

-- after clear nothing waits, and the lists granted from now on are those from clear
abbrev pub cleared : Meaning → Meaning
cleared m = record { clearly = m.clearly; grants = m.clearly; waits = λ s r k. 0 }

-- after a carried act the lists are granted that were granted with the act in front; a send adds a waiting message,
-- a receive takes one off
abbrev pub carried : Act → Meaning → Meaning
carried a m = record {
  clearly = m.clearly;
  grants = λ l. m.grants (a ∷ l);
  waits = λ s r k. (m.waits s r k + sends s r k (a ∷ [])) - receives s r k (a ∷ []);
}

-- after a call of carry: changed where the act was done, and otherwise the same
abbrev pub tried : Bool → Act → Meaning → Meaning
tried b a m = cond b (carried a m) m

-- nothing waits
abbrev pub Still : Meaning → Type 0
Still m = (s r k : ℕ) → m.waits s r k ≡ 0
