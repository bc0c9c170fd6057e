-- One command of a chart file, taken from the place where it is due.
use Rattle.std.specs.Prelude.{◌≡◌, ℕ, ◌+◌, ◌<◌, cond, List, [], length, drop, Some, None, Option, Result, MatchResult, ◌==◌, slice_index}
use Rattle.std.specs.declared.ops.ControlFlow.{ControlFlow}
use Rattle.std.specs.declared.ops.ControlFlow.TheVariants.{Continue, Break}
use Rattle.fault.specs.declared.Fault.{Fault}
use Rattle.lines.specs.declared.sheet.Sheet.{Sheet}
use Rattle.lines.specs.Charts.{Lined, newest}
use Rattle.lines.specs.Of.{lines_of}
use Rattle.files.specs.Bytes.{file_of}
use Rattle.files.specs.Answers.{BadFile}
use Rattle.files.specs.Rules.{Stage, first, rows, operands, grown}
use Rattle.chart.specs.declared.reader.Reader.{Reader}

-- the stage that a sheet has come to
abbrev pub stage_of : Sheet → Stage
stage_of s = record { parties = s.parties; lines = lines_of s }

-- the stage, the file and the place that a reader has come to
abbrev pub stage_at : Reader → Stage
stage_at r = stage_of r.sheet.now

abbrev pub file_at : Reader → List ℕ
file_at r = r.cursor.file.now

abbrev pub place_at : Reader → ℕ
place_at r = r.cursor.place

-- bytes stand where a command is due, and the first of them
abbrev pub Due : Reader → Type 0
Due r = place_at r < length (file_at r)

abbrev pub letter_at : Reader → ℕ
letter_at r = slice_index (drop (place_at r) (file_at r)) 0

-- what is wrong with a command whose letter is b, in a file at the offset `at`, if anything is
abbrev pub wrong_as : ℕ → Stage → List ℕ → ℕ → Option Fault
wrong_as b s file at =
    first (rows s.parties (length s.lines) (length (newest s.lines)) (length file) at (length (drop at file))
    b (slice_index (drop at file) 1) (slice_index (drop at file) 2))

-- only the last command breaks off
abbrev pub flow_of : ℕ → ControlFlow Unit Unit
flow_of b = cond (b == 90) (Break tt) (Continue tt)

-- the command was right: whether it was the last, the stage after it, the place behind it
pub record Took (b : ℕ) (s : Stage) (file : List ℕ) (at : ℕ) (flow : ControlFlow Unit Unit) (t : Stage) (to : ℕ) : Type 0 where
  pub right : wrong_as b s file at ≡ None
  pub ended : flow ≡ flow_of b
  pub stage : t ≡ grown s b (slice_index (drop at file) 1) (slice_index (drop at file) 2)
  pub place : to ≡ at + (1 + operands b)

-- the command is taken where it is right, and otherwise the fault is what is wrong with it; file and sheet stay the same ones
pub record Taken (b : ℕ) (r : Reader) (answer : Result (ControlFlow Unit Unit) Fault) (after : Reader) : Type 0 where
  pub verdict : MatchResult answer
      (λ flow. Took b (stage_at r) (file_at r) (place_at r) flow (stage_at after) (place_at after))
      (λ f. wrong_as b (stage_at r) (file_at r) (place_at r) ≡ Some f)
  pub file : file_at after ≡ file_at r
  pub sheet : after.sheet.ghost_name ≡ r.sheet.ghost_name

-- nothing has been read yet
pub record AtFront (r : Reader) : Type 0 where
  pub parties : r.sheet.now.parties ≡ 0
  pub lines : lines_of r.sheet.now ≡ []
  pub place : place_at r ≡ 0

-- the sheet holds the lines of a complete file, or the fault says what spoils the file; it is the same sheet
pub record Read (r : Reader) (answer : Result Unit Fault) (after : Reader) : Type 0 where
  pub verdict : MatchResult answer
      (λ _. Lined (lines_of after.sheet.now) × (file_of (lines_of after.sheet.now) ≡ file_at r))
      (λ f. BadFile (file_at r) f)
  pub sheet : after.sheet.ghost_name ≡ r.sheet.ghost_name
