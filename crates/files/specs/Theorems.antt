-- What holds of files and charts, as statements that contracts cite.
use Rattle.std.specs.Prelude.{◌≡◌, ℕ, ◌<◌, List, length, take, Ok, Result}
use Rattle.fault.specs.declared.Fault.{Fault}
use Rattle.acts.specs.Acts.{Lines}
use Rattle.lines.specs.Charts.{IsChart}
use Rattle.files.specs.Bytes.{file_of}
use Rattle.files.specs.Answers.{Answers}
use Rattle.files.specs.Reading.{reading}

-- every file has an answer, which `reading` computes, and no other
pub record OneAnswer (file : List ℕ) : Type 0 where
  pub some : Answers file (reading file)
  pub only : (r : Result Lines Fault) → Answers file r → r ≡ reading file

abbrev pub EveryFile : Type 0
EveryFile = (file : List ℕ) → OneAnswer file

-- a chart's bytes read as that chart, charts with the same bytes are the same, and a file that is read has the bytes of what was read
pub record Matching : Type 0 where
  pub reads_back : (c : Lines) → IsChart c → reading (file_of c) ≡ Ok c
  pub same : (c d : Lines) → IsChart c → IsChart d → file_of c ≡ file_of d → c ≡ d
  pub writes_back : (file : List ℕ) (c : Lines) → reading file ≡ Ok c → IsChart c × (file_of c ≡ file)

abbrev pub RoundTrip : Type 0
RoundTrip = Matching

-- beyond 592 bytes it makes no difference what follows
abbrev pub LongFiles : Type 0
LongFiles = (file : List ℕ) → 592 < length file → reading file ≡ reading (take 593 file)
