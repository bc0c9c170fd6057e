-- What a verdict means, and what is proved of views, families and tests, as statements that contracts cite.
use Rattle.std.specs.Prelude.{◌≡◌, ℕ, ◌<◌, ◌≤◌, Bool, true, ◌⊎◌, ◌↔◌, List, length}
use Rattle.acts.specs.declared.Act.{Act}
use Rattle.acts.specs.Acts.{Quiet, SameParts, Beginning, Along}
use Rattle.channel.specs.Meaning.{Lawful}
use Rattle.families.specs.Judgement.{Charts, HeldChart, View, LastView, Local, HeldConversation, BeginsHeld, BreaksCc2, BreaksCc3, NothingBreaks, Broken, Told, Judgeable}
use Rattle.families.specs.Families.{Machines, tree, Run, Whole, Able, Precise, NoDeadEnd, AlikePair}
use Rattle.families.specs.Tests.{begins_with, same_acts, quiet, is_view, is_last, is_local, kind_of}

-- a local list begins a held conversation exactly where one held chart has all its parts as beginnings of its lines
abbrev pub AgreementTells : Type 0
AgreementTells = (G : List Act → Bool) (n : ℕ) (f : Charts) → Judgeable G n f → (w : List Act) → Local G f w
    → BeginsHeld G f w ↔ HeldChart f (λ c. Along c w)

-- two local lists with the same parts break alike
abbrev pub WayDoesNotMatter : Type 0
WayDoesNotMatter = (G : List Act → Bool) (f : Charts) → Lawful G → (u w : List Act) → Local G f u → Local G f w → SameParts u w
    → (k : ℕ) → Broken G f k u ↔ Broken G f k w

-- where nothing breaks, the family of the views holds precisely the held conversations and has no dead end
abbrev pub ViewsRealize : Type 0
ViewsRealize = (G : List Act → Bool) (n : ℕ) (f : Charts) → Judgeable G n f
    → NothingBreaks G f → Precise (tree f) G n f × NoDeadEnd (tree f) G n

-- where some family does so, nothing breaks
abbrev pub RealizedUnbroken : Machines → Type 0
RealizedUnbroken M = (G : List Act → Bool) (n : ℕ) (f : Charts) → Judgeable G n f
    → Precise M G n f → NoDeadEnd M G n → NothingBreaks G f

-- every able family can be led along a list that breaks, and one that breaks CC2 is whole in it
abbrev pub BrokenIsRun : Machines → Type 0
BrokenIsRun M = (G : List Act → Bool) (n : ℕ) (f : Charts) → Judgeable G n f → Able M G n f → (w : List Act)
    → (BreaksCc2 G f w → Whole M G n w) × (BreaksCc3 G f w → Run M G n w)

-- what the family of the views does beyond the held conversations breaks CC3 or CC2
abbrev pub ViewsTell : Type 0
ViewsTell = (G : List Act → Bool) (n : ℕ) (f : Charts) → Judgeable G n f → (w : List Act)
    → (Run (tree f) G n w → ¬ BeginsHeld G f w → BreaksCc3 G f w)
    × (Whole (tree f) G n w → ¬ HeldConversation G f w → BreaksCc2 G f w)

-- the family goes beyond the held conversations along the list: it can be led along it, and the list begins none of them, or is whole and none of them
pub record Beyond (M : Machines) (G : List Act → Bool) (n : ℕ) (f : Charts) (w : List Act) : Type 0 where
  pub led : Run M G n w
  pub beyond : (¬ BeginsHeld G f w) ⊎ ((¬ HeldConversation G f w) × Whole M G n w)

-- what the told list means: every able family goes beyond the held conversations along it, and the family of the views does so along none with fewer acts
pub record ToldMeans (M : Machines) (G : List Act → Bool) (n : ℕ) (f : Charts) (w : List Act) : Type 0 where
  pub led : Able M G n f → Run M G n w
  pub beyond : (¬ BeginsHeld G f w) ⊎ ((¬ HeldConversation G f w) × (Able M G n f → Whole M G n w))
  pub fewest : (v : List Act) → Beyond (tree f) G n f v → length w ≤ length v

-- what a verdict means, against any family: where nothing breaks, the family of the views holds precisely the held conversations and has no dead end;
-- where any family does so, nothing breaks; and what the told list means
pub record VerdictMeans (M : Machines) (G : List Act → Bool) (n : ℕ) (f : Charts) : Type 0 where
  pub views_realize : NothingBreaks G f → Precise (tree f) G n f × NoDeadEnd (tree f) G n
  pub realized_unbroken : Precise M G n f → NoDeadEnd M G n → NothingBreaks G f
  pub told_means : (k : ℕ) (w : List Act) → Told G f k w → ToldMeans M G n f w

abbrev pub VerdictsMean : Machines → Type 0
VerdictsMean M = (G : List Act → Bool) (n : ℕ) (f : Charts) → Judgeable G n f → VerdictMeans M G n f

-- two families do the same: they have runs along the same lists and the same whole lists, are precise together and without dead ends together
pub record DoTheSame (M N : Machines) (G : List Act → Bool) (n : ℕ) : Type 0 where
  pub runs : (w : List Act) → Run M G n w ↔ Run N G n w
  pub wholes : (w : List Act) → Whole M G n w ↔ Whole N G n w
  pub precise : (f : Charts) → Precise M G n f ↔ Precise N G n f
  pub no_dead_end : NoDeadEnd M G n ↔ NoDeadEnd N G n

-- alike families do the same
abbrev pub AlikeDoTheSame : AlikePair → Type 0
AlikeDoTheSame a = (G : List Act → Bool) → DoTheSame a.one a.other G a.parties

-- the tests of lists say what they should
pub record ListTests : Type 0 where
  pub same : (u w : List Act) → (same_acts u w ≡ true) ↔ (u ≡ w)
  pub beginning : (v l : List Act) → (begins_with v l ≡ true) ↔ Beginning v l
  pub nothing_waits : (w : List Act) → (quiet w ≡ true) ↔ Quiet w

-- the tests of views, local lists and kinds say what they should
pub record JudgeTests (G : List Act → Bool) (f : Charts) : Type 0 where
  pub view : (p : ℕ) (v : List Act) → (is_view f p v ≡ true) ↔ View f p v
  pub last : (p : ℕ) (v : List Act) → (is_last f p v ≡ true) ↔ LastView f p v
  pub local : (w : List Act) → (is_local G f w ≡ true) ↔ Local G f w
  pub kind : (w : List Act) → Local G f w → (k : ℕ) → Broken G f k w ↔ ((kind_of f w ≡ k) × (0 < k))
  pub sound : (w : List Act) → Local G f w → (kind_of f w ≡ 0) ↔ ((¬ BreaksCc2 G f w) × (¬ BreaksCc3 G f w))

abbrev pub TestsDecide : Type 0
TestsDecide = ListTests × ((G : List Act → Bool) (n : ℕ) (f : Charts) → Judgeable G n f → JudgeTests G f)
