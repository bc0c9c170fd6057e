-- A file is read, and its chart added: the answer is the computed one.
use Rattle.std.proofs.Common.{◌≡◌, ℕ, Bool, List, length, Ok, Err, Result, ap, ◌∙◌, subst}
use Rattle.fault.specs.declared.Fault.{Fault}
use Rattle.acts.specs.declared.Act.{Act}
use Rattle.acts.specs.Acts.{Lines}
use Rattle.channel.specs.Meaning.{Lawful}
use Rattle.files.specs.Answers.{ChartFile, Refused}
use Rattle.files.specs.Reading.{reading}
use Rattle.files.proofs.Lined.{begun_own}
use Rattle.files.proofs.Matching.{only_answer}
use Rattle.book.specs.History.{add, Answer, History, then, held}
use Rattle.book.specs.Right.{Right, AllRight}
use Rattle.book.specs.Past.{Standing, Past}
use Rattle.book.proofs.Laws.{law}
use Rattle.answering.specs.Answering.{answered}
use Rattle.answering.proofs.Only.{only_add}
use Rattle.session.specs.Lines.{answer_text}
use Rattle.session.specs.Sessions.{adds}
use Rattle.session.specs.Stepping.{Added}

pub refused_added : (G : List Act → Bool) (h : History) (id : ℕ) (file : List ℕ) (f : Fault) (b : Standing) → Past G h b → Refused file f
    → Added G h id file (Err f) b
refused_added G h id file f b P R =
    let e : Err f ≡ reading file = only_answer file (Err f) R in
    record {
      line = ap (λ (r : Result Lines Fault). (adds G h id r).line) e;
      past = subst (λ (r : Result Lines Fault). Past G (adds G h id r).past b) e P;
    }

pub chart_added : (G : List Act → Bool) (h : History) (id : ℕ) (file : List ℕ) (c : Lines) (r : Answer) (b : Standing) → Lawful G → ChartFile file c
    → AllRight G h → Right G h (add id c) r → Past G (then h (add id c) r) b → Added G h id file r b
chart_added G h id file c r b L k A R P =
    let e : Ok c ≡ reading file = only_answer file (Ok c) k in
    let a : r ≡ answered G (held h) (add id c) =
    only_add G L h (law G h A) id c (begun_own (length c) c k.chart.lined) k.chart.paired r R in
    record {
      line = ap (answer_text 65) a ∙ ap (λ (x : Result Lines Fault). (adds G h id x).line) e;
      past = subst (λ (x : Result Lines Fault). Past G (adds G h id x).past b) e
          (subst (λ (x : Answer). Past G (then h (add id c) x) b) a P);
    }
