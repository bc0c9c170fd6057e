-- The calls that a book had, with their answers, and what follows from them alone.
use Rattle.std.specs.Prelude.{ℕ, zero, suc, ◌+◌, Bool, false, cond, ◌||◌, List, [], ◌∷◌, ◌++◌, length, is_some, Some, None, Ok, Err, Option, Result, ◌==◌}
use Rattle.fault.specs.declared.Fault.{Fault}
use Rattle.acts.specs.declared.Act.{Act}
use Rattle.acts.specs.Acts.{Lines}
use Rattle.files.specs.Rules.{letter_of}
use Rattle.families.specs.Judgement.{Charts}

-- a call of a book
pub data Call : Type 0 where
  -- an id and a chart
  add : ℕ → Lines → Call
  -- an id
  withdraw : ℕ → Call
  -- with so many working cells and output bytes lent
  judge : (cells output : ℕ) → Call
  begin : Call
  -- four bytes: party, letter, peer, name
  act : (party letter peer name : ℕ) → Call
  end : Call
  abandon : Call

-- what a granted call answers
pub data Reply : Type 0 where
  -- add, withdraw and begin: charts held; act: charts that still agree; abandon: acts of the play
  count : ℕ → Reply
  -- judge: the kind and the file that it wrote
  verdict : (kind : ℕ) → (file : List ℕ) → Reply
  -- end: the chart's id and the acts of the play
  named : (id acts : ℕ) → Reply

abbrev pub Answer : Type 0
Answer = Result Reply Fault

-- the calls with their answers; the last one outermost
pub data History : Type 0 where
  start : History
  then : History → Call → Answer → History

-- a table with another entry under i
abbrev pub put : {X : Type 0} → ℕ → X → (ℕ → X) → ℕ → X
put i x f j = cond (i == j) x (f j)

-- the charts held after a granted call
abbrev pub holding : Call → Charts → Charts
holding (add i c) f = put i (Some c) f
holding (withdraw i) f = put i None f
holding (judge cells output) f = f
holding begin f = f
holding (act p l e m) f = f
holding end f = f
holding abandon f = f

-- the chart held under an id: from its granted add until the next granted withdraw that names its id
abbrev pub held : History → Charts
held start = λ j. None
held (then h k (Ok r)) = holding k (held h)
held (then h k (Err e)) = held h

-- the act that four bytes name
abbrev pub act_of : (party letter peer name : ℕ) → Act
act_of p l e m = record { party = p; letter = letter_of l; peer = e; name = m }

abbrev pub played : Option (List Act) → Act → Option (List Act)
played None a = None
played (Some w) a = Some (w ++ (a ∷ []))

-- the acts of the play after a granted call
abbrev pub playing_on : Call → Option (List Act) → Option (List Act)
playing_on (add i c) o = o
playing_on (withdraw i) o = o
playing_on (judge cells output) o = o
playing_on begin o = Some []
playing_on (act p l e m) o = played o (act_of p l e m)
playing_on end o = None
playing_on abandon o = None

-- the acts so far where a play is on: those granted since the begin; nothing at rest
abbrev pub playing : History → Option (List Act)
playing start = None
playing (then h k (Ok r)) = playing_on k (playing h)
playing (then h k (Err e)) = playing h

-- the acts that the channel has carried since it was clear: those of the play, and none at rest
abbrev pub carried_by : Option (List Act) → List Act
carried_by None = []
carried_by (Some w) = w

abbrev pub is_kind_none : Reply → Bool
is_kind_none (count n) = false
is_kind_none (verdict k file) = k == 0
is_kind_none (named i n) = false

-- whether a judge of kind 0 stands after a granted call
abbrev pub standing_on : Call → Reply → Bool → Bool
standing_on (add i c) r b = false
standing_on (withdraw i) r b = false
standing_on (judge cells output) r b = is_kind_none r || b
standing_on begin r b = b
standing_on (act p l e m) r b = b
standing_on end r b = b
standing_on abandon r b = b

-- a judge of kind 0 was granted, and no add or withdraw since
abbrev pub standing : History → Bool
standing start = false
standing (then h k (Ok r)) = standing_on k r (standing h)
standing (then h k (Err e)) = standing h

-- how many of the first k ids name a chart
abbrev pub counted : ℕ → Charts → ℕ
counted zero f = 0
counted (suc k) f = counted k f + cond (is_some (f k)) 1 0

-- how many charts are held: ids are 0 to 7
unfoldable pub number : Charts → ℕ
number f = counted 8 f

-- the number of parties of a chart, or what is known otherwise
abbrev pub parties_of : Option Lines → ℕ → ℕ
parties_of None n = n
parties_of (Some c) n = length c

abbrev pub parties_below : ℕ → Charts → ℕ
parties_below zero f = 0
parties_below (suc k) f = parties_of (f k) (parties_below k f)

-- the number of parties of the held charts, which is the same for all; 0 where none is held
unfoldable pub parties : Charts → ℕ
parties f = parties_below 8 f
