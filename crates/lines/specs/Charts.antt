-- What the lines of a chart keep: they are paired, and they can be played.
use Rattle.std.specs.Prelude.{◌≡◌, ℕ, ◌<◌, ◌≤◌, List, [], ◌∷◌, ◌++◌, length}
use Rattle.std.specs.List.{AllByRecursion}
use Rattle.acts.specs.declared.Act.{Act}
use Rattle.acts.specs.declared.Message.{Message}
use Rattle.acts.specs.Acts.{InRange, Known, rank_of, part, sends, receives, Lines, line, Along}
use Rattle.acts.specs.Language.{Causal}

-- the line of the party p among n: at most 32 acts, all in range and all its own
pub record Fine (n p : ℕ) (l : List Act) : Type 0 where
  pub short : length l ≤ 32
  pub acts : AllByRecursion (λ a. InRange n a × (a.party ≡ p)) l

-- lines of n parties, from 0 up, of which the later ones may still be missing
pub record Begun (n : ℕ) (c : Lines) : Type 0 where
  pub low : 2 ≤ n
  pub high : n ≤ 6
  pub few : length c ≤ n
  pub fine : (p : ℕ) → Fine n p (line c p)

-- one line for each of two to six parties
abbrev pub Lined : Lines → Type 0
Lined c = Begun (length c) c

-- as many sends of the message on the sender's line as receives on the receiver's
abbrev pub Pairs : Lines → ℕ → ℕ → ℕ → Type 0
Pairs c s r m = sends s r m (line c s) ≡ receives s r m (line c r)

-- every message is paired
abbrev pub Paired : Lines → Type 0
Paired c = (s r m : ℕ) → Pairs c s r m

-- k is the number of a message that is not paired, and every message with a lower number is
pub record FirstUnpaired (c : Lines) (k : ℕ) : Type 0 where
  pub message : Message
  pub known : Known message
  pub number : rank_of message ≡ k
  pub unpaired : Pairs c message.sender message.receiver message.name → ⊥
  pub least : (t : Message) → Known t → rank_of t < k → Pairs c t.sender t.receiver t.name

-- every message between two of six parties is paired
abbrev pub KnownPaired : Lines → Type 0
KnownPaired c = (t : Message) → Known t → Pairs c t.sender t.receiver t.name

-- every party's acts are a beginning of its line, and the k-th receive of a message comes after its k-th send
pub record PlayingOrder (c : Lines) (w : List Act) : Type 0 where
  pub causal : Causal w
  pub along : Along c w

-- some playing order holds all acts
pub record Playable (c : Lines) : Type 0 where
  pub order : List Act
  pub playing : PlayingOrder c order
  pub all : (p : ℕ) → part p order ≡ line c p

-- some playing order has k acts, and none has more
pub record LongestOrder (c : Lines) (k : ℕ) : Type 0 where
  pub order : List Act
  pub playing : PlayingOrder c order
  pub acts : length order ≡ k
  pub most : (w : List Act) → PlayingOrder c w → length w ≤ k

-- what every chart keeps
pub record IsChart (c : Lines) : Type 0 where
  pub lined : Lined c
  pub paired : Paired c
  pub playable : Playable c

-- the last of the lines, and the lines with one act more at its end
abbrev pub newest : Lines → List Act
newest [] = []
newest (l ∷ []) = l
newest (l ∷ k ∷ c) = newest (k ∷ c)

abbrev pub lengthened : Lines → Act → Lines
lengthened [] a = []
lengthened (l ∷ []) a = (l ++ (a ∷ [])) ∷ []
lengthened (l ∷ k ∷ c) a = l ∷ lengthened (k ∷ c) a
