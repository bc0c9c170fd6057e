-- The right answer to a call of a book, computed from the charts held.
use Rattle.std.specs.Prelude.{◌≡◌, ℕ, zero, suc, Bool, true, false, cond, not, ◌&&◌, List, [], ◌∷◌, length, is_some, Some, None, Ok, Option, ◌==◌, nat_lt}
use Rattle.fault.specs.declared.BookCause.TheVariants.{IdAbove, IdTaken, OtherParties, EqualChart, NoConversation, IdFree}
use Rattle.acts.specs.declared.Act.{Act}
use Rattle.acts.specs.Acts.{Lines, Own}
use Rattle.acts.specs.Language.{run, size}
use Rattle.acts.specs.Order.{rank}
use Rattle.lines.specs.Charts.{Paired}
use Rattle.channel.specs.Meaning.{Lawful}
use Rattle.book.specs.History.{Call, add, withdraw, Answer, History, held, put, number}
use Rattle.book.specs.Law.{Law}
use Rattle.book.specs.Right.{Right, refusal}

-- equal acts, lists of acts and lines, as tests
abbrev pub same_act : Act → Act → Bool
same_act a b = a.party == b.party && (rank a.letter == rank b.letter && (a.peer == b.peer && a.name == b.name))

abbrev pub same_list : {X : Type 0} → (X → X → Bool) → List X → List X → Bool
same_list t [] [] = true
same_list t [] (y ∷ w) = false
same_list t (x ∷ u) [] = false
same_list t (x ∷ u) (y ∷ w) = t x y && same_list t u w

abbrev pub equal_lines : Lines → Lines → Bool
equal_lines = same_list (same_list same_act)

-- a test of the chart under an id, false where there is none
abbrev pub passes : (Lines → Bool) → Option Lines → Bool
passes t None = false
passes t (Some d) = t d

-- the least number below k that passes a test
abbrev pub or_new : Option ℕ → Bool → ℕ → Option ℕ
or_new (Some j) b k = Some j
or_new None b k = cond b (Some k) None

abbrev pub least : ℕ → (ℕ → Bool) → Option ℕ
least zero t = None
least (suc k) t = or_new (least k t) (t k) k

-- what is answered at a number that was found, and otherwise
abbrev pub found : Option ℕ → (ℕ → Answer) → Answer → Answer
found (Some j) f r = f j
found None f r = r

-- the parties of a chart
abbrev pub parties_of : Option Lines → ℕ
parties_of None = 0
parties_of (Some d) = length d

-- the most acts that are granted from clear along the lines
abbrev pub most_acts : (List Act → Bool) → Lines → ℕ
most_acts G c = length (run G c (size c) [])

abbrev pub answered : (List Act → Bool) → (ℕ → Option Lines) → Call → Answer
answered G f (add i c) =
    cond (nat_lt 7 i) (refusal IdAbove i)
    (cond (is_some (f i)) (refusal IdTaken i)
    (found (least 8 (λ j. passes (λ d. not (length d == length c)) (f j))) (λ j. refusal OtherParties (parties_of (f j)))
    (found (least 8 (λ j. passes (λ d. equal_lines d c) (f j))) (λ j. refusal EqualChart j)
    (cond (nat_lt (most_acts G c) (size c)) (refusal NoConversation (most_acts G c)) (Ok (number (put i (Some c) f)))))))
answered G f (withdraw i) =
    cond (nat_lt 7 i) (refusal IdAbove i) (cond (is_some (f i)) (Ok (number (put i None f))) (refusal IdFree i))

-- after a history whose answers were right, over a lawful channel, the right answer is the computed one
abbrev pub AnswersComputed : Type 0
AnswersComputed =
    (G : List Act → Bool) → Lawful G → (h : History) → Law G h
    → ((i : ℕ) (c : Lines) → Own c → Paired c → (r : Answer) → Right G h (add i c) r → r ≡ answered G (held h) (add i c))
    × ((i : ℕ) (r : Answer) → Right G h (withdraw i) r → r ≡ answered G (held h) (withdraw i))
