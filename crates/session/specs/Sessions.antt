-- The text that a session gives, as a function of its bytes.
use Rattle.std.specs.Prelude.{ℕ, zero, suc, ◌+◌, ◌*◌, Bool, cond, List, [], ◌++◌, length, take, drop, Ok, Err, Result, ◌==◌, nat_lt, slice_index}
use Rattle.fault.specs.declared.Fault.{Fault}
use Rattle.fault.specs.declared.SessionCause.TheVariants.{UnknownLetter, CutShort}
use Rattle.fault.specs.declared.Layer.TheVariants.{Session}
use Rattle.acts.specs.declared.Act.{Act}
use Rattle.acts.specs.Acts.{Lines}
use Rattle.files.specs.Reading.{reading}
use Rattle.book.specs.History.{Call, add, withdraw, History, start, then, held}
use Rattle.answering.specs.Answering.{answered}
use Rattle.session.specs.Lines.{answer_text}

-- what a command gives: a line, and the past after it
pub record Outcome : Type 0 where
  pub line : List ℕ
  pub past : History

-- a call of the book, answered rightly
abbrev pub called : (List Act → Bool) → ℕ → History → Call → Outcome
called G letter h call = record { line = answer_text letter (answered G (held h) call); past = then h call (answered G (held h) call) }

-- A: the file is read before its chart is added
abbrev pub adds : (List Act → Bool) → History → ℕ → Result Lines Fault → Outcome
adds G h id (Ok c) = called G 65 h (add id c)
adds G h id (Err f) = record { line = answer_text 65 (Err f); past = h }

-- a session that cannot go on
abbrev pub unknown_at : ℕ → List ℕ
unknown_at at = answer_text 63 (Err (record { layer = Session UnknownLetter; place = at }))

abbrev pub cut_at : ℕ → List ℕ
cut_at size = answer_text 63 (Err (record { layer = Session CutShort; place = size }))

-- the length of A's file: two bytes, high byte first
abbrev pub file_length : List ℕ → ℕ
file_length rest = slice_index rest 2 * 256 + slice_index rest 3

-- the text of the commands that stand at `rest`, so many at most, after a past; the session has `size` bytes
abbrev pub transcript : ℕ → (List Act → Bool) → History → (size at : ℕ) → List ℕ → List ℕ
transcript zero G h size at rest = []
transcript (suc k) G h size at rest =
    cond (length rest == 0) []
    (cond (slice_index rest 0 == 65)
    (cond (nat_lt (length rest) 4) (cut_at size)
    (cond (nat_lt (length rest) (4 + file_length rest)) (cut_at size)
    ((adds G h (slice_index rest 1) (reading (take (file_length rest) (drop 4 rest)))).line
    ++ transcript k G (adds G h (slice_index rest 1) (reading (take (file_length rest) (drop 4 rest)))).past size (at + (4 + file_length rest)) (drop (4 + file_length rest) rest))))
    (cond (slice_index rest 0 == 87)
    (cond (nat_lt (length rest) 2) (cut_at size)
    ((called G 87 h (withdraw (slice_index rest 1))).line ++ transcript k G (called G 87 h (withdraw (slice_index rest 1))).past size (at + 2) (drop 2 rest)))
    (unknown_at at)))

abbrev pub text_of_session : (List Act → Bool) → List ℕ → List ℕ
text_of_session G bytes = transcript (suc (length bytes)) G start (length bytes) 0 bytes
