-- Held charts, their views, local lists, and what breaks CC2 and CC3.
use Rattle.std.specs.Prelude.{◌≡◌, ℕ, ◌<◌, Bool, true, ◌⊎◌, List, ◌++◌, length, Some, Option}
use Rattle.acts.specs.declared.Act.{Act}
use Rattle.acts.specs.Acts.{part, Quiet, Beginning, Lines, line}
use Rattle.acts.specs.Order.{Before}
use Rattle.lines.specs.Charts.{Lined}
use Rattle.channel.specs.Meaning.{Lawful}
use Rattle.conversation.specs.Conversations.{Conversation, Talks}

-- the chart held under each id, if there is one
abbrev pub Charts : Type 0
Charts = ℕ → Option Lines

-- some held chart has the property
pub record HeldChart (f : Charts) (P : Lines → Type 0) : Type 0 where
  pub id : ℕ
  pub chart : Lines
  pub held : f id ≡ Some chart
  pub fits : P chart

-- a view of a party: a beginning of its line in some held chart
abbrev pub View : Charts → ℕ → List Act → Type 0
View f p v = HeldChart f (λ c. Beginning v (line c p))

-- a last view: the whole line of the party in some held chart
abbrev pub LastView : Charts → ℕ → List Act → Type 0
LastView f p v = HeldChart f (λ c. v ≡ line c p)

-- a list is local when it is granted from clear and every part is a view; past the parties of the charts lines are empty
pub record Local (G : List Act → Bool) (f : Charts) (w : List Act) : Type 0 where
  pub granted : G w ≡ true
  pub views : (p : ℕ) → View f p (part p w)

-- a conversation of some held chart
abbrev pub HeldConversation : (List Act → Bool) → Charts → List Act → Type 0
HeldConversation G f w = HeldChart f (λ c. Conversation G c w)

-- a beginning of a held conversation
abbrev pub BeginsHeld : (List Act → Bool) → Charts → List Act → Type 0
BeginsHeld G f w = (x : List Act) × HeldConversation G f (w ++ x)

-- CC2: a local list after which nothing waits and every part is a last view is a held conversation; w breaks it
pub record BreaksCc2 (G : List Act → Bool) (f : Charts) (w : List Act) : Type 0 where
  pub local : Local G f w
  pub quiet : Quiet w
  pub last : (p : ℕ) → LastView f p (part p w)
  pub broken : ¬ HeldConversation G f w

-- CC3: every local list is a beginning of a held conversation; w breaks it
pub record BreaksCc3 (G : List Act → Bool) (f : Charts) (w : List Act) : Type 0 where
  pub local : Local G f w
  pub broken : ¬ BeginsHeld G f w

abbrev pub NothingBreaks : (List Act → Bool) → Charts → Type 0
NothingBreaks G f = (w : List Act) → (¬ BreaksCc2 G f w) × (¬ BreaksCc3 G f w)

-- a list that breaks CC2 is of kind 1, one that breaks CC3 alone of kind 2
pub data Broken (G : List Act → Bool) (f : Charts) (k : ℕ) (w : List Act) : Type 0 where
  of_cc2 : k ≡ 1 → BreaksCc2 G f w → Broken G f k w
  of_cc3 : k ≡ 2 → ¬ BreaksCc2 G f w → BreaksCc3 G f w → Broken G f k w

-- u is w, or comes before it: it has fewer acts, or as many and the leftmost differing act comes first
abbrev pub Upto : List Act → List Act → Type 0
Upto u w = (u ≡ w) ⊎ Before u w

-- the told list, of kind k: it breaks, and no list that breaks comes before it
pub record Told (G : List Act → Bool) (f : Charts) (k : ℕ) (w : List Act) : Type 0 where
  pub broken : Broken G f k w
  pub least : (v : List Act) (j : ℕ) → Broken G f j v → Upto w v

-- charts that can be judged: the channel is lawful, ids are 0 to 7, every chart has lines of n parties and a conversation, and some chart is held
pub record Judgeable (G : List Act → Bool) (n : ℕ) (f : Charts) : Type 0 where
  pub lawful : Lawful G
  pub ids : (i : ℕ) (c : Lines) → f i ≡ Some c → i < 8
  pub lined : (i : ℕ) (c : Lines) → f i ≡ Some c → Lined c
  pub parties : (i : ℕ) (c : Lines) → f i ≡ Some c → length c ≡ n
  pub talk : (i : ℕ) (c : Lines) → f i ≡ Some c → Talks G c
  pub some : HeldChart f (λ c. length c ≡ n)
