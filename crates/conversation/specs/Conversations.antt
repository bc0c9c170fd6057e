-- Conversations of a chart over a channel.
use Rattle.std.specs.Prelude.{◌≡◌, ℕ, ◌+◌, Bool, true, List, ◌++◌}
use Rattle.acts.specs.declared.Act.{Act}
use Rattle.acts.specs.Acts.{part, sends, receives, Quiet, Lines, line}
use Rattle.channel.specs.Meaning.{Meaning}

-- a list that the channel grants from clear, after which nothing waits, and in which every party's part is its line
pub record Conversation (G : List Act → Bool) (c : Lines) (w : List Act) : Type 0 where
  pub granted : G w ≡ true
  pub quiet : Quiet w
  pub lines : (p : ℕ) → part p w ≡ line c p

-- the chart has a conversation over the channel
abbrev pub Talks : (List Act → Bool) → Lines → Type 0
Talks G c = (w : List Act) × Conversation G c w

-- a channel that grants G from clear has carried the list w since: it grants from now on what G grants after w, and
-- what waits was sent and not received
pub record Reached (G : List Act → Bool) (m : Meaning) (w : List Act) : Type 0 where
  pub granted : G w ≡ true
  pub clearly : m.clearly ≡ G
  pub onward : (l : List Act) → m.grants l ≡ G (w ++ l)
  pub waits : (s r k : ℕ) → m.waits s r k + receives s r k w ≡ sends s r k w
