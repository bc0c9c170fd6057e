-- Every file has one answer; files and charts match.
use Rattle.std.proofs.Common.{◌≡◌, ℕ, List, [], ◌∷◌, Ok, Err, Result, sym, refl, ap, ◌∙◌, subst, append-nil}
use Rattle.fault.specs.declared.Fault.{Fault}
use Rattle.acts.specs.Acts.{Lines}
use Rattle.lines.specs.Charts.{IsChart}
use Rattle.files.specs.Bytes.{file_of}
use Rattle.files.specs.Answers.{stops, goes_on, bad_file, not_paired, not_playable, ChartFile, Answers}
use Rattle.files.specs.Reading.{reading}
use Rattle.files.specs.Theorems.{EveryFile, Matching}
use Rattle.files.proofs.Judging.{judged-unpaired, judged_stuck, judged_chart}
use Rattle.files.proofs.Scanning.{reading_right}
use Rattle.files.proofs.Reaching.{reading_stops, reading_ends}

-- whatever is right is what `reading` answers
read : (file : List ℕ) (r : Result Lines Fault) → Answers file r → reading file ≡ r
read file (Ok c) k =
    reading_ends file c [] k.chart.lined (append-nil (file_of c) ∙ k.bytes) ∙ judged_chart c k.chart
read file (Err f) (bad_file (stops k)) = reading_stops file k.stage k.rest f k.sound k.whole k.wrongly
read file (Err f) (bad_file (goes_on k)) =
    reading_ends file k.lines (k.more ∷ k.rest) k.lined k.whole ∙ ap Err (sym k.fault)
read file (Err f) (not_paired k) =
    reading_ends file k.lines [] k.lined (append-nil (file_of k.lines) ∙ k.whole)
    ∙ judged-unpaired k.lines k.number k.least
    ∙ ap Err (sym k.fault)
read file (Err f) (not_playable k) =
    reading_ends file k.lines [] k.lined (append-nil (file_of k.lines) ∙ k.whole)
    ∙ judged_stuck k.lines k.acts k.lined k.paired k.longest k.fewer
    ∙ ap Err (sym k.fault)

pub only_answer : (file : List ℕ) (r : Result Lines Fault) → Answers file r → r ≡ reading file
only_answer file r k = sym (read file r k)

pub every_file : EveryFile
every_file file = record { some = reading_right file; only = only_answer file }

reads_back : (c : Lines) → IsChart c → reading (file_of c) ≡ Ok c
reads_back c i = read (file_of c) (Ok c) (record { chart = i; bytes = refl })

same_ok : (r : Result Lines Fault) (c d : Lines) → r ≡ Ok c → r ≡ Ok d → c ≡ d
same_ok r c d e f = cc

pub matching : Matching
matching = record {
  reads_back = reads_back;
  same = λ c d i j e. same_ok (reading (file_of c)) c d (reads_back c i) (ap reading e ∙ reads_back d j);
  writes_back = λ file c e.
      let k : ChartFile file c = subst (Answers file) e (reading_right file) in
      (k.chart, k.bytes);
}
