-- A channel that denies every act is lawful: it grants no list with an act.
use Rattle.std.specs.Prelude.{◌≡◌, true, List, [], ◌∷◌, ◌++◌, ◌≢◌, refl}
use Rattle.std.proofs.lemmas.Bool.{false≢true}
use Rattle.acts.specs.declared.Act.{Act}
use Rattle.channel.specs.Meaning.{Lawful}
use Rattle.channeltests.specs.Mute.{silent}

none : (l : List Act) (a : Act) → silent (l ++ (a ∷ [])) ≢ true
none [] a h = false≢true h
none (b ∷ l) a h = false≢true h

front : (l m : List Act) → silent (l ++ m) ≡ true → silent l ≡ true
front [] m h = refl
front (b ∷ l) m h = absurd (false≢true h)

pub silent_lawful : Lawful silent
silent_lawful = record {
  diamond = record {
    empty = refl;
    beginning = front;
    both = λ l a b n h k. absurd (none l a h);
    either = λ l a b n h k. absurd (none l a h);
  };
  range = λ l a h. absurd (none l a h);
  waits = λ l a h. absurd (none l a h);
}
