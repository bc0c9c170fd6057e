-- Languages: which lists of acts are granted, one act after another; and the language of playing orders.
use Rattle.std.specs.Prelude.{◌≡◌, ℕ, zero, suc, ◌+◌, ◌<◌, ◌≤◌, Bool, true, cond, ◌&&◌, ◌||◌, ◌≢◌, List, [], ◌∷◌, ◌++◌, length, drop, Some, None, Option, nat_lt}
use Rattle.acts.specs.declared.Act.{Act}
use Rattle.acts.specs.declared.Letter.TheVariants.{Receive}
use Rattle.acts.specs.Acts.{part, sends, receives, is_send, Lines, line, Along}

-- the laws of a language: the empty list and every beginning of a granted list are granted, and of two acts
-- of different parties that are each granted, each is granted after the other, and then the same lists are
pub record Diamond (G : List Act → Bool) : Type 0 where
  pub empty : G [] ≡ true
  pub beginning : (l m : List Act) → G (l ++ m) ≡ true → G l ≡ true
  pub both : (l : List Act) (a b : Act) → a.party ≢ b.party → G (l ++ (a ∷ [])) ≡ true → G (l ++ (b ∷ [])) ≡ true
      → G (l ++ (a ∷ b ∷ [])) ≡ true
  pub either : (l : List Act) (a b : Act) → a.party ≢ b.party → G (l ++ (a ∷ [])) ≡ true → G (l ++ (b ∷ [])) ≡ true
      → (m : List Act) → G (l ++ (a ∷ b ∷ m)) ≡ G (l ++ (b ∷ a ∷ m))

-- every receive takes a message that was sent before and not yet received: the k-th receive of a message
-- comes after its k-th send
abbrev pub Causal : List Act → Type 0
Causal w =
    (u v : List Act) (a : Act) → u ++ (a ∷ v) ≡ w → a.letter ≡ Receive
    → receives a.peer a.party a.name u < sends a.peer a.party a.name u

-- the same as a test: `before` holds the acts so far, in any order
abbrev pub ready : List Act → Act → Bool
ready before a =
    is_send a.letter || nat_lt (receives a.peer a.party a.name before) (sends a.peer a.party a.name before)

abbrev pub orderly : List Act → List Act → Bool
orderly before [] = true
orderly before (a ∷ w) = ready before a && orderly (a ∷ before) w

abbrev pub plays : List Act → Bool
plays w = orderly [] w

-- a list goes along the lines as far as the language grants, and no list does so with more acts
pub record Longest (G : List Act → Bool) (c : Lines) (k : ℕ) : Type 0 where
  pub order : List Act
  pub granted : G order ≡ true
  pub along : Along c order
  pub size : length order ≡ k
  pub most : (w : List Act) → G w ≡ true → Along c w → length w ≤ k

-- the next act of the party's line after the list w, if there is one
abbrev pub headed : List Act → Option Act
headed [] = None
headed (a ∷ l) = Some a

abbrev pub next : Lines → List Act → ℕ → Option Act
next c w p = headed (drop (length (part p w)) (line c p))

-- the act of an option where it is granted after w
abbrev pub grantable : (List Act → Bool) → List Act → Option Act → Option Act
grantable G w None = None
grantable G w (Some a) = cond (G (w ++ (a ∷ []))) (Some a) None

abbrev pub or_else : Option Act → Option Act → Option Act
or_else None y = y
or_else (Some a) y = Some a

-- the granted next act of the first of so many parties that has one
abbrev pub choice : (List Act → Bool) → Lines → List Act → ℕ → Option Act
choice G c w zero = None
choice G c w (suc p) = or_else (choice G c w p) (grantable G w (next c w p))

-- what follows from an option: one answer where there is no act, another by the act
abbrev pub maybe : {X : Type 0} → X → (Act → X) → Option Act → X
maybe none some None = none
maybe none some (Some a) = some a

-- a run along the lines from w on, of so many acts at most: each time the first party that can goes on
abbrev pub run : (List Act → Bool) → Lines → ℕ → List Act → List Act
run G c zero w = w
run G c (suc k) w = maybe w (λ a. run G c k (w ++ (a ∷ []))) (choice G c w (length c))

-- how many acts all lines hold
abbrev pub size : Lines → ℕ
size [] = 0
size (l ∷ c) = length l + size c
