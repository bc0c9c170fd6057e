-- The one answer to a file, said of the file: it is a chart's bytes, or something spoils it first.
use Rattle.std.specs.Prelude.{◌≡◌, ℕ, ◌<◌, List, ◌∷◌, ◌++◌, length, Some, Ok, Err, Result}
use Rattle.fault.specs.declared.Fault.{Fault}
use Rattle.fault.specs.declared.FileCause.{FileCause}
use Rattle.fault.specs.declared.FileCause.TheVariants.{GoesOn}
use Rattle.fault.specs.declared.ChartCause.{ChartCause}
use Rattle.fault.specs.declared.ChartCause.TheVariants.{NotPaired, NotPlayable}
use Rattle.fault.specs.declared.Layer.TheVariants.{File, Chart}
use Rattle.acts.specs.Acts.{Lines}
use Rattle.acts.specs.Language.{size}
use Rattle.lines.specs.Charts.{Lined, IsChart, Paired, FirstUnpaired, LongestOrder}
use Rattle.files.specs.Bytes.{file_of}
use Rattle.files.specs.Rules.{Stage, Sound, so_far, wrong}

abbrev pub file_fault : FileCause → ℕ → Fault
file_fault cause place = record { layer = File cause; place = place }

abbrev pub chart_fault : ChartCause → ℕ → Fault
chart_fault cause place = record { layer = Chart cause; place = place }

-- the file begins with complete commands, each allowed after those before it, and the command due next is wrong
pub record Stops (file : List ℕ) (f : Fault) : Type 0 where
  pub stage : Stage
  pub sound : Sound stage
  pub rest : List ℕ
  pub whole : so_far stage ++ rest ≡ file
  pub wrongly : wrong stage (length file) (length (so_far stage)) rest ≡ Some f

-- the file is complete, and bytes stand behind it
pub record IsGoingOn (file : List ℕ) (f : Fault) : Type 0 where
  pub lines : Lines
  pub lined : Lined lines
  pub more : ℕ
  pub rest : List ℕ
  pub whole : file_of lines ++ (more ∷ rest) ≡ file
  pub fault : f ≡ file_fault GoesOn (length (file_of lines))

-- the file is complete, and its lines are not paired
pub record IsNotPaired (file : List ℕ) (f : Fault) : Type 0 where
  pub lines : Lines
  pub lined : Lined lines
  pub whole : file_of lines ≡ file
  pub number : ℕ
  pub least : FirstUnpaired lines number
  pub fault : f ≡ chart_fault NotPaired number

-- the file is complete, its lines are paired, and no playing order holds all acts
pub record IsNotPlayable (file : List ℕ) (f : Fault) : Type 0 where
  pub lines : Lines
  pub lined : Lined lines
  pub whole : file_of lines ≡ file
  pub paired : Paired lines
  pub acts : ℕ
  pub longest : LongestOrder lines acts
  pub fewer : acts < size lines
  pub fault : f ≡ chart_fault NotPlayable acts

-- what is wrong with a file as bytes
pub data BadFile (file : List ℕ) (f : Fault) : Type 0 where
  stops : Stops file f → BadFile file f
  goes_on : IsGoingOn file f → BadFile file f

-- what is wrong with a file
pub data Refused (file : List ℕ) (f : Fault) : Type 0 where
  bad_file : BadFile file f → Refused file f
  not_paired : IsNotPaired file f → Refused file f
  not_playable : IsNotPlayable file f → Refused file f

-- the file is the bytes of the chart with these lines
pub record ChartFile (file : List ℕ) (c : Lines) : Type 0 where
  pub chart : IsChart c
  pub bytes : file_of c ≡ file

abbrev pub Answers : List ℕ → Result Lines Fault → Type 0
Answers file (Ok c) = ChartFile file c
Answers file (Err f) = Refused file f
