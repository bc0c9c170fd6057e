-- The calls that a book had, with their answers, and what follows from them alone.
use Rattle.std.specs.Prelude.{ℕ, zero, suc, ◌+◌, Bool, false, cond, is_some, Some, None, Ok, Err, Option, Result, ◌==◌}
use Rattle.fault.specs.declared.Fault.{Fault}
use Rattle.acts.specs.Acts.{Lines}

-- a call of a book
pub data Call : Type 0 where
  add : ℕ → Lines → Call
  withdraw : ℕ → Call

-- both calls answer the number of charts then held
abbrev pub Answer : Type 0
Answer = Result ℕ Fault

-- the calls with their answers; the last one outermost
pub data History : Type 0 where
  start : History
  then : History → Call → Answer → History

-- a table with another entry under i
abbrev pub put : {X : Type 0} → ℕ → X → (ℕ → X) → ℕ → X
put i x f j = cond (i == j) x (f j)

-- the chart held under an id: from its granted add until the next granted withdraw that names its id
abbrev pub held : History → ℕ → Option Lines
held start = λ j. None
held (then h (add i c) (Ok n)) = put i (Some c) (held h)
held (then h (add i c) (Err e)) = held h
held (then h (withdraw i) (Ok n)) = put i None (held h)
held (then h (withdraw i) (Err e)) = held h

-- whether a play is on: no call begins one yet
abbrev pub in_play : History → Bool
in_play h = false

-- how many of the first k ids name a chart
abbrev pub counted : ℕ → (ℕ → Option Lines) → ℕ
counted zero f = 0
counted (suc k) f = counted k f + cond (is_some (f k)) 1 0

-- how many charts are held: ids are 0 to 7
abbrev pub number : (ℕ → Option Lines) → ℕ
number f = counted 8 f
