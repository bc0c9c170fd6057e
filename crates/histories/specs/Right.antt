-- The right answer to a call after a history: the first row that applies, and otherwise it is granted.
use Rattle.std.specs.Prelude.{◌≡◌, ℕ, ◌*◌, ◌<◌, ◌≤◌, Bool, true, false, ◌⊎◌, List, [], ◌∷◌, ◌++◌, length, is_some, Some, None, Ok, Err, ◌≢◌}
use Rattle.fault.specs.declared.BookCause.{BookCause}
use Rattle.fault.specs.declared.BookCause.TheVariants.{InPlay, IdAbove, IdTaken, OtherParties, EqualChart, NoConversation, IdFree, NothingHeld, TooManyTuples, OutputShort, NoVerdict, AtRest, OperandOutOfRange, NoView, NotAtEnd}
use Rattle.fault.specs.declared.ChannelCause.TheVariants.{Denied}
use Rattle.fault.specs.declared.Layer.TheVariants.{Book, Channel}
use Rattle.acts.specs.declared.Act.{Act}
use Rattle.acts.specs.Acts.{part, Quiet, Lines, line}
use Rattle.acts.specs.Language.{Longest}
use Rattle.lines.specs.Charts.{IsChart}
use Rattle.files.specs.Rules.{is_act}
use Rattle.conversation.specs.Conversations.{Talks}
use Rattle.families.specs.Judgement.{Charts, View, LastView, NothingBreaks, Told}
use Rattle.families.specs.Tests.{agrees, passes}
use Rattle.numbering.specs.Masks.{passing}
use Rattle.machines.specs.Files.{machine_file_bytes, list_file_bytes}
use Rattle.verdicts.specs.Product.{product}
use Rattle.histories.specs.History.{Call, add, withdraw, judge, begin, act, end, abandon, count, verdict, named, Answer, History, start, then, held, playing, carried_by, standing, act_of, put, number, parties}

abbrev pub refusal : BookCause → ℕ → Answer
refusal cause place = Err (record { layer = Book cause; place = place })

-- a row: when it applies, and what is answered then
pub record Row : Type 1 where
  pub when : Type 0
  pub answer : Answer → Type 0

abbrev pub refuses : Type 0 → BookCause → ℕ → Row
refuses P cause place = record { when = P; answer = λ r. r ≡ refusal cause place }

-- the first row that applies answers, and where none does the call is granted
abbrev pub First : List Row → (Answer → Type 0) → Answer → Type 0
First [] granted r = granted r
First (x ∷ rows) granted r = (x.when × x.answer r) ⊎ ((x.when → ⊥) × First rows granted r)

-- a play is on, and a play is not on
abbrev pub IsInPlay : History → Type 0
IsInPlay h = is_some (playing h) ≡ true

abbrev pub Resting : History → Type 0
Resting h = is_some (playing h) ≡ false

-- a held chart has another number of parties: that number
pub record HasOtherParties (h : History) (c : Lines) (n : ℕ) : Type 0 where
  pub id : ℕ
  pub other : Lines
  pub held_there : held h id ≡ Some other
  pub parties : length other ≡ n
  pub differ : length other ≡ length c → ⊥

-- a held chart is equal: its id
abbrev pub HasEqualChart : History → Lines → ℕ → Type 0
HasEqualChart h c id = held h id ≡ Some c

-- no chart is held
abbrev pub HoldsNothing : Charts → Type 0
HoldsNothing f = (i : ℕ) (c : Lines) → f i ≢ Some c

-- a search goes over at most so many tuples of views, with two cells for each
abbrev pub most_tuples : ℕ
most_tuples = 1048576

-- what judge has to write: machines where nothing breaks, and otherwise the told list, each with its kind
pub data Due (G : List Act → Bool) (code : ℕ) (f : Charts) : (kind : ℕ) → (file : List ℕ) → Type 0 where
  machines : {kind : ℕ} {file : List ℕ} → NothingBreaks G f → kind ≡ 0 → file ≡ machine_file_bytes code (parties f) f → Due G code f kind file
  told : {kind : ℕ} {file : List ℕ} (w : List Act) → Told G f kind w → file ≡ list_file_bytes kind w → Due G code f kind file

-- the file that is due is longer than the output: its length
pub record IsOutputShort (G : List Act → Bool) (code : ℕ) (f : Charts) (output length-due : ℕ) : Type 0 where
  pub kind : ℕ
  pub file : List ℕ
  pub due : Due G code f kind file
  pub is : length file ≡ length-due
  pub short : output < length-due

-- judge is granted: it answers the kind and writes the file that is due
pub record Judged (G : List Act → Bool) (code : ℕ) (f : Charts) (output : ℕ) (r : Answer) : Type 0 where
  pub kind : ℕ
  pub file : List ℕ
  pub due : Due G code f kind file
  pub fits : length file ≤ output
  pub is : r ≡ Ok (verdict kind file)

-- how many held charts have every part as a beginning of their lines
unfoldable pub agreeing : Charts → List Act → ℕ
agreeing f w = passing (λ i. passes (agrees w) (f i)) 8

-- the least of the parties below n that is not at a last view
pub record NotLast (f : Charts) (w : List Act) (n p : ℕ) : Type 0 where
  pub below : p < n
  pub this : LastView f p (part p w) → ⊥
  pub least : (q : ℕ) → q < p → LastView f q (part q w)

-- the held chart with exactly the parts of w as its lines
pub record WithLines (f : Charts) (w : List Act) (id : ℕ) : Type 0 where
  pub chart : Lines
  pub held_there : f id ≡ Some chart
  pub lines : (p : ℕ) → part p w ≡ line chart p

-- the right answers over a channel with this code that grants the lists G from clear
abbrev pub Right : (List Act → Bool) → ℕ → History → Call → Answer → Type 0
Right G code h (add i c) = First (
    refuses (IsInPlay h) InPlay 0
    ∷ refuses (7 < i) IdAbove i
    ∷ refuses (is_some (held h i) ≡ true) IdTaken i
    ∷ record { when = (n : ℕ) × HasOtherParties h c n; answer = λ r. (n : ℕ) × HasOtherParties h c n × (r ≡ refusal OtherParties n) }
    ∷ record { when = (j : ℕ) × HasEqualChart h c j; answer = λ r. (j : ℕ) × HasEqualChart h c j × (r ≡ refusal EqualChart j) }
    ∷ record { when = Talks G c → ⊥; answer = λ r. (k : ℕ) × Longest G c k × (r ≡ refusal NoConversation k) }
    ∷ [])
    (λ r. Talks G c × (r ≡ Ok (count (number (put i (Some c) (held h))))))
Right G code h (withdraw i) = First (
    refuses (IsInPlay h) InPlay 0
    ∷ refuses (7 < i) IdAbove i
    ∷ refuses (is_some (held h i) ≡ false) IdFree i
    ∷ [])
    (λ r. r ≡ Ok (count (number (put i None (held h)))))
Right G code h (judge cells output) = First (
    refuses (IsInPlay h) InPlay 0
    ∷ refuses (HoldsNothing (held h)) NothingHeld 0
    ∷ refuses ((most_tuples < product (held h)) ⊎ (cells < 2 * product (held h))) TooManyTuples (product (held h))
    ∷ record { when = (n : ℕ) × IsOutputShort G code (held h) output n; answer = λ r. (n : ℕ) × IsOutputShort G code (held h) output n × (r ≡ refusal OutputShort n) }
    ∷ [])
    (λ r. Judged G code (held h) output r)
Right G code h begin = First (
    refuses (IsInPlay h) InPlay 0
    ∷ refuses (standing h ≡ false) NoVerdict 0
    ∷ [])
    (λ r. r ≡ Ok (count (number (held h))))
Right G code h (act p l e m) = First (
    refuses (Resting h) AtRest 0
    ∷ refuses (parties (held h) ≤ p) OperandOutOfRange 0
    ∷ refuses (is_act l ≡ false) OperandOutOfRange 1
    ∷ refuses ((parties (held h) ≤ e) ⊎ (e ≡ p)) OperandOutOfRange 2
    ∷ refuses (31 < m) OperandOutOfRange 3
    ∷ refuses (View (held h) p (part p (carried_by (playing h)) ++ (act_of p l e m ∷ [])) → ⊥) NoView p
    ∷ record {
      when = G (carried_by (playing h) ++ (act_of p l e m ∷ [])) ≡ false;
      answer = λ r. r ≡ Err (record { layer = Channel Denied; place = length (carried_by (playing h)) });
    }
    ∷ [])
    (λ r. View (held h) p (part p (carried_by (playing h)) ++ (act_of p l e m ∷ []))
    × (r ≡ Ok (count (agreeing (held h) (carried_by (playing h) ++ (act_of p l e m ∷ []))))))
Right G code h end = First (
    refuses (Resting h) AtRest 0
    ∷ record {
      when = (p : ℕ) × NotLast (held h) (carried_by (playing h)) (parties (held h)) p;
      answer = λ r. (p : ℕ) × NotLast (held h) (carried_by (playing h)) (parties (held h)) p × (r ≡ refusal NotAtEnd p);
    }
    ∷ refuses (Quiet (carried_by (playing h)) → ⊥) NotAtEnd (parties (held h))
    ∷ [])
    (λ r. Quiet (carried_by (playing h))
    × ((id : ℕ) × WithLines (held h) (carried_by (playing h)) id × (r ≡ Ok (named id (length (carried_by (playing h)))))))
Right G code h abandon = First (
    refuses (Resting h) AtRest 0
    ∷ [])
    (λ r. r ≡ Ok (count (length (carried_by (playing h)))))

-- what is handed in as a chart is one
abbrev pub Proper : Call → Type 0
Proper (add i c) = IsChart c
Proper (withdraw i) = Unit {0}
Proper (judge cells output) = Unit {0}
Proper begin = Unit {0}
Proper (act p l e m) = Unit {0}
Proper end = Unit {0}
Proper abandon = Unit {0}

-- every call was proper and every answer right
abbrev pub AllRight : (List Act → Bool) → ℕ → History → Type 0
AllRight G code start = Unit {0}
AllRight G code (then h k r) = AllRight G code h × Proper k × Right G code h k r
