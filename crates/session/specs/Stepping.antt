-- One command of a session, with the book that it calls.
use Rattle.std.specs.Prelude.{◌≡◌, ℕ, suc, ◌<◌, ◌≤◌, Bool, List, ◌++◌, length, drop, Result}
use Rattle.fault.specs.declared.Fault.{Fault}
use Rattle.acts.specs.declared.Act.{Act}
use Rattle.files.specs.Reading.{reading}
use Rattle.book.specs.History.{History}
use Rattle.book.specs.Past.{Standing, Past}
use Rattle.session.specs.Lines.{answer_text}
use Rattle.session.specs.Sessions.{adds, transcript}
use Rattle.session.specs.Course.{Course}

-- a file is read and its chart added, after any past
pub record Added (G : List Act → Bool) (h : History) (id : ℕ) (file : List ℕ) (r : Result ℕ Fault) (is : Standing) : Type 0 where
  pub line : answer_text 65 r ≡ (adds G h id (reading file)).line
  pub past : Past G (adds G h id (reading file)).past is

abbrev pub Adds : Standing → ℕ → List ℕ → Result ℕ Fault → Standing → Type 0
Adds was id file r is = (G : List Act → Bool) (h : History) → Past G h was → Added G h id file r is

-- a session cannot go on: a line, and no byte is left
pub record Stops (was : Course) (line : List ℕ) (is : Course) : Type 0 where
  pub session : is.session ≡ was.session
  pub place : is.place ≡ length was.session
  pub text : is.text ≡ was.text ++ line
  pub book : is.book ≡ was.book

-- what the session's text is from a place on, so many commands at most, after a past
abbrev pub left : ℕ → (List Act → Bool) → History → (session : List ℕ) (place : ℕ) → List ℕ
left k G h session place = transcript k G h (length session) place (drop place session)

-- a command gave a line, the session goes on behind it, and the text from there on is that line and what follows
pub record Stepped (G : List Act → Bool) (h : History) (was is : Course) : Type 0 where
  pub line : List ℕ
  pub past : History
  pub session : is.session ≡ was.session
  pub text : is.text ≡ was.text ++ line
  pub kept : Past G past is.book
  pub onward : was.place < is.place
  pub within : is.place ≤ length was.session
  pub rest : (k : ℕ) → left (suc k) G h was.session was.place ≡ line ++ left k G past was.session is.place

abbrev pub Steps : Course → Course → Type 0
Steps was is = (G : List Act → Bool) (h : History) → Past G h was.book → Stepped G h was is
