-- The right answer to a call after a history: the first row that applies, and otherwise it is granted.
use Rattle.std.specs.Prelude.{◌≡◌, ℕ, ◌<◌, Bool, true, false, ◌⊎◌, List, [], ◌∷◌, length, is_some, Some, None, Ok, Err}
use Rattle.fault.specs.declared.BookCause.{BookCause}
use Rattle.fault.specs.declared.BookCause.TheVariants.{InPlay, IdAbove, IdTaken, OtherParties, EqualChart, NoConversation, IdFree}
use Rattle.fault.specs.declared.Layer.TheVariants.{Book}
use Rattle.acts.specs.declared.Act.{Act}
use Rattle.acts.specs.Acts.{Lines}
use Rattle.acts.specs.Language.{Longest}
use Rattle.conversation.specs.Conversations.{Talks}
use Rattle.book.specs.History.{Call, add, withdraw, Answer, History, start, then, held, in_play, put, number}

abbrev pub refusal : BookCause → ℕ → Answer
refusal cause place = Err (record { layer = Book cause; place = place })

-- a row: when it applies, and what is answered then
pub record Row : Type 1 where
  pub when : Type 0
  pub answer : Answer → Type 0

abbrev pub refuses : Type 0 → BookCause → ℕ → Row
refuses P cause place = record { when = P; answer = λ r. r ≡ refusal cause place }

-- the first row that applies answers, and where none does the call is granted
abbrev pub First : List Row → (Answer → Type 0) → Answer → Type 0
First [] granted r = granted r
First (x ∷ rows) granted r = (x.when × x.answer r) ⊎ ((x.when → ⊥) × First rows granted r)

-- a held chart has another number of parties: that number
pub record HasOtherParties (h : History) (c : Lines) (n : ℕ) : Type 0 where
  pub id : ℕ
  pub other : Lines
  pub held_there : held h id ≡ Some other
  pub parties : length other ≡ n
  pub differ : length other ≡ length c → ⊥

-- a held chart is equal: its id
abbrev pub HasEqualChart : History → Lines → ℕ → Type 0
HasEqualChart h c id = held h id ≡ Some c

-- over the lists G that the channel grants from clear
abbrev pub Right : (List Act → Bool) → History → Call → Answer → Type 0
Right G h (add i c) = First (
    refuses (in_play h ≡ true) InPlay 0
    ∷ refuses (7 < i) IdAbove i
    ∷ refuses (is_some (held h i) ≡ true) IdTaken i
    ∷ record { when = (n : ℕ) × HasOtherParties h c n; answer = λ r. (n : ℕ) × HasOtherParties h c n × (r ≡ refusal OtherParties n) }
    ∷ record { when = (j : ℕ) × HasEqualChart h c j; answer = λ r. (j : ℕ) × HasEqualChart h c j × (r ≡ refusal EqualChart j) }
    ∷ record { when = Talks G c → ⊥; answer = λ r. (k : ℕ) × Longest G c k × (r ≡ refusal NoConversation k) }
    ∷ [])
    (λ r. Talks G c × (r ≡ Ok (number (put i (Some c) (held h)))))
Right G h (withdraw i) = First (
    refuses (in_play h ≡ true) InPlay 0
    ∷ refuses (7 < i) IdAbove i
    ∷ refuses (is_some (held h i) ≡ false) IdFree i
    ∷ [])
    (λ r. r ≡ Ok (number (put i None (held h))))

-- every answer was right
abbrev pub AllRight : (List Act → Bool) → History → Type 0
AllRight G start = Unit {0}
AllRight G (then h c r) = AllRight G h × Right G h c r
