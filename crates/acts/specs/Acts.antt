-- Acts, the parts of a list of acts, and how many of a message it sends and receives.
use Rattle.std.specs.Prelude.{◌≡◌, ℕ, suc, ◌+◌, ◌*◌, ◌<◌, Bool, true, false, cond, ◌&&◌, ◌≢◌, List, [], ◌∷◌, ◌++◌, ◌==◌, slice_index_or}
use Rattle.acts.specs.declared.Act.{Act}
use Rattle.acts.specs.declared.Message.{Message}
use Rattle.acts.specs.declared.Letter.{Letter}
use Rattle.acts.specs.declared.Letter.TheVariants.{Send, Receive}

-- an act is in range for n parties: party and peer are two of them, and names go up to 31
pub record InRange (n : ℕ) (a : Act) : Type 0 where
  pub party : a.party < n
  pub peer : a.peer < n
  pub apart : a.peer ≢ a.party
  pub name : a.name < 32

-- the message of an act: a send's goes from the party to the peer, a receive's the other way
abbrev pub from : Letter → ℕ → ℕ → ℕ
from Send p e = p
from Receive p e = e

abbrev pub to : Letter → ℕ → ℕ → ℕ
to Send p e = e
to Receive p e = p

abbrev pub message_of : Act → Message
message_of a = record {
  sender = from a.letter a.party a.peer;
  receiver = to a.letter a.party a.peer;
  name = a.name;
}

-- the byte of a letter: S and R
abbrev pub byte_of_letter : Letter → ℕ
byte_of_letter Send = 83
byte_of_letter Receive = 82

-- messages are numbered by sender, then receiver, then name
abbrev pub rank_of : Message → ℕ
rank_of t = (t.sender * 6 + t.receiver) * 32 + t.name

-- a message between two of six parties
pub record Known (t : Message) : Type 0 where
  pub sender : t.sender < 6
  pub receiver : t.receiver < 6
  pub name : t.name < 32

-- the part of a party in a list: its acts there, in order
abbrev pub part : ℕ → List Act → List Act
part p [] = []
part p (a ∷ w) = cond (a.party == p) (a ∷ part p w) (part p w)

abbrev pub is_send : Letter → Bool
is_send Send = true
is_send Receive = false

abbrev pub is_receive : Letter → Bool
is_receive Send = false
is_receive Receive = true

-- this act is the send of the message with name m from s to r
abbrev pub send_of : ℕ → ℕ → ℕ → Act → Bool
send_of s r m a = is_send a.letter && (a.party == s && (a.peer == r && a.name == m))

-- this act is the receive of the message with name m from s to r
abbrev pub receive_of : ℕ → ℕ → ℕ → Act → Bool
receive_of s r m a = is_receive a.letter && (a.party == r && (a.peer == s && a.name == m))

-- how many acts of a list pass a test
abbrev pub tally : (Act → Bool) → List Act → ℕ
tally t [] = 0
tally t (a ∷ w) = cond (t a) (suc (tally t w)) (tally t w)

-- how often a list sends a message, and how often it receives it
abbrev pub sends : ℕ → ℕ → ℕ → List Act → ℕ
sends s r m w = tally (send_of s r m) w

abbrev pub receives : ℕ → ℕ → ℕ → List Act → ℕ
receives s r m w = tally (receive_of s r m) w

-- nothing waits: every message is received as often as it is sent
abbrev pub Quiet : List Act → Type 0
Quiet w = (s r m : ℕ) → sends s r m w ≡ receives s r m w

-- the two lists have the same parts
abbrev pub SameParts : List Act → List Act → Type 0
SameParts u w = (p : ℕ) → part p u ≡ part p w

-- v is a beginning of l
abbrev pub Beginning : List Act → List Act → Type 0
Beginning v l = (rest : List Act) × (v ++ rest ≡ l)

-- the lines of a chart, one for each party from 0 up; past its parties a line is empty
abbrev pub Lines : Type 0
Lines = List (List Act)

abbrev pub line : Lines → ℕ → List Act
line c p = slice_index_or c p []

-- the parts of a list are beginnings of the lines
abbrev pub Along : Lines → List Act → Type 0
Along c w = (p : ℕ) → Beginning (part p w) (line c p)

-- every line holds acts of its own party only
abbrev pub Own : Lines → Type 0
Own c = (p : ℕ) → part p (line c p) ≡ line c p
