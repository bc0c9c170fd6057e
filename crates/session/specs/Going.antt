-- How far a session has come.
use Rattle.std.specs.Prelude.{◌≡◌, ℕ, ◌-◌, ◌<◌, ◌≤◌, Bool, List, ◌++◌, length}
use Rattle.acts.specs.declared.Act.{Act}
use Rattle.book.specs.History.{History}
use Rattle.book.specs.Past.{Past}
use Rattle.session.specs.Sessions.{text_of_session}
use Rattle.session.specs.Course.{Course}
use Rattle.session.specs.Stepping.{left}

-- the text so far and the text of what is left make the session's text
pub record Going (G : List Act → Bool) (session : List ℕ) (c : Course) : Type 0 where
  pub same : c.session ≡ session
  pub past : History
  pub kept : Past G past c.book
  pub fuel : ℕ
  pub enough : length session - c.place < fuel
  pub within : c.place ≤ length session
  pub whole : c.text ++ left fuel G past session c.place ≡ text_of_session G session
