-- The lines of text that a session gives.
use Rattle.std.specs.Prelude.{ℕ, List, [], ◌∷◌, ◌++◌, Ok, Err, decimal, Result}
use Rattle.fault.specs.declared.Fault.{Fault}
use Rattle.fault.specs.Numbers.{number_of}

-- two numbers and a 0 behind the letter, single spaces, a line feed
abbrev pub tail_text : (number : List ℕ) (a : ℕ) → List ℕ
tail_text number a = 32 ∷ (number ++ (32 ∷ (decimal a ++ (32 ∷ 48 ∷ 10 ∷ []))))

-- granted: 0 and the answer; refused: the number and the place
abbrev pub answer_tail : Result ℕ Fault → List ℕ
answer_tail (Ok k) = tail_text (48 ∷ []) k
answer_tail (Err f) = tail_text (decimal (number_of f.layer)) f.place

-- the line of an answer
abbrev pub answer_text : ℕ → Result ℕ Fault → List ℕ
answer_text letter r = letter ∷ answer_tail r
