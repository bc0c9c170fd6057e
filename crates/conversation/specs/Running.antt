-- A chart's lines run over a channel, act by act.
use Rattle.std.specs.Prelude.{◌≡◌, ℕ, ◌<◌, Bool, List, [], ◌∷◌, ◌++◌, length, Some, None, Option}
use Rattle.acts.specs.declared.Act.{Act}
use Rattle.acts.specs.Acts.{part, Lines, Own}
use Rattle.acts.specs.Language.{Longest, size}
use Rattle.acts.specs.Theorems.{Stuck}
use Rattle.lines.specs.Progress.{Within, so_far, left}
use Rattle.lines.specs.Pushed.{added}
use Rattle.channel.specs.Meaning.{Meaning, Lawful}
use Rattle.conversation.specs.Conversations.{Conversation, Reached}

-- the channel has carried w, and w has brought every party so far
pub record Going (G : List Act → Bool) (m : Meaning) (c : Lines) (done : List ℕ) (w : List Act) : Type 0 where
  pub reached : Reached G m w
  pub parts : (p : ℕ) → part p w ≡ so_far c done p

-- one act more is carried
pub record Moved (c : Lines) (m : Meaning) (done : List ℕ) (a : Act) (n : Meaning) (more : List ℕ) : Type 0 where
  pub within : Within c more
  pub less : left more < left done
  pub on : Own c → (G : List Act → Bool) → Lawful G → (w : List Act) → Going G m c done w → Going G n c more (w ++ (a ∷ []))

-- no line can go on, and nothing changes
pub record Stood (c : Lines) (m : Meaning) (done : List ℕ) (n : Meaning) (more : List ℕ) : Type 0 where
  pub same : more ≡ done
  pub meaning : n ≡ m
  pub stuck : (G : List Act → Bool) (w : List Act) → Going G m c done w → Stuck G c w

abbrev pub Stepped : Lines → Meaning → List ℕ → Option Act → Meaning → List ℕ → Type 0
Stepped c m done (Some a) n more = Moved c m done a n more
Stepped c m done None n more = Stood c m done n more

-- the acts carried go along the lines, no list that is granted from clear goes further, and where they are all acts
-- they are a conversation
pub record Ran (G : List Act → Bool) (c : Lines) (w : List Act) (k : ℕ) : Type 0 where
  pub count : length w ≡ k
  pub stuck : Stuck G c w
  pub most : Longest G c k
  pub whole : k ≡ size c → Conversation G c w
  pub short : k < size c → (v : List Act) → Conversation G c v → ⊥

-- one act more where there is room
abbrev pub noted : List Act → Act → List Act
noted w a = added 192 w a
