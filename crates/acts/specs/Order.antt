-- The order of acts, and the order of lists of acts.
use Rattle.std.specs.Prelude.{◌≡◌, ℕ, ◌<◌, ◌⊎◌, List, [], ◌∷◌, length}
use Rattle.acts.specs.declared.Act.{Act}
use Rattle.acts.specs.declared.Letter.{Letter}
use Rattle.acts.specs.declared.Letter.TheVariants.{Send, Receive}

-- of two lists the leftmost difference decides
abbrev pub Leftmost : {A : Type 0} → (A → A → Type 0) → List A → List A → Type 0
Leftmost R [] w = ⊥
Leftmost R (a ∷ u) [] = ⊥
Leftmost R (a ∷ u) (b ∷ w) = R a b ⊎ ((a ≡ b) × Leftmost R u w)

-- a send comes before a receive
abbrev pub rank : Letter → ℕ
rank Send = 0
rank Receive = 1

-- what decides between two acts: the party, then the letter, then the peer, then the name
abbrev pub fields : Act → List ℕ
fields a = a.party ∷ rank a.letter ∷ a.peer ∷ a.name ∷ []

-- the act a comes before the act b
abbrev pub Sooner : Act → Act → Type 0
Sooner a b = Leftmost ◌<◌ (fields a) (fields b)

-- the list with fewer acts comes first; among equals the leftmost differing act decides
abbrev pub Before : List Act → List Act → Type 0
Before u w = (length u < length w) ⊎ ((length u ≡ length w) × Leftmost Sooner u w)

-- of two different ones exactly one comes first, and what comes before a second comes before all after the second
pub record Strict {A : Type 0} (R : A → A → Type 0) : Type 0 where
  pub never : (a : A) → R a a → ⊥
  pub onward : (a b c : A) → R a b → R b c → R a c
  pub total : (a b : A) → (a ≡ b) ⊎ (R a b ⊎ R b a)

abbrev pub OrderIsStrict : Type 0
OrderIsStrict = Strict Sooner × Strict Before
