-- What a clerk stands for.
use Rattle.std.specs.Prelude.{ℕ, List, string_bytes}
use Rattle.channel.specs.declared.channel.Channel as Channel
use Rattle.book.specs.Past.{Standing, standing}
use Rattle.session.specs.declared.clerk.Clerk.{Clerk}

-- a session's bytes, the place of the next command, the text so far, and what the book stands for
pub record Course : Type 0 where
  pub session : List ℕ
  pub place : ℕ
  pub text : List ℕ
  pub book : Standing

abbrev pub course : {C : Type 0} {ghosts : Channel.Ghosts C} → Clerk C ghosts → Course
course {C} {ghosts} c = record { session = c.session.now; place = c.place; text = string_bytes c.text; book = standing ghosts.meaning c.book }
