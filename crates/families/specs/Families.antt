-- Families of machines, their runs, and the family of the views.
use Rattle.std.specs.Prelude.{◌≡◌, ℕ, ◌<◌, Bool, true, ◌↔◌, List, [], ◌∷◌, ◌++◌}
use Rattle.std.specs.List.{AllByRecursion}
use Rattle.acts.specs.declared.Act.{Act}
use Rattle.acts.specs.Acts.{InRange, part, Quiet}
use Rattle.families.specs.Judgement.{Charts, View, LastView, HeldConversation}

-- a family gives each party a machine: places of any kind, a start, last places, and moves under acts, several under one act if it likes
pub record Machines : Type 1 where
  pub Place : ℕ → Type 0
  pub start : (p : ℕ) → Place p
  pub Final : (p : ℕ) → Place p → Type 0
  pub Moves : (p : ℕ) → Place p → Act → Place p → Type 0

-- a path of a party's machine from a place along a list of acts to a place
pub data Path (M : Machines) (p : ℕ) : M.Place p → List Act → M.Place p → Type 0 where
  stay : {q : M.Place p} → Path M p q [] q
  move : {q r s : M.Place p} {a : Act} {l : List Act} → M.Moves p q a r → Path M p r l s → Path M p q (a ∷ l) s

-- a list of acts in range for n parties, granted from clear, with a path for each party's part from its start
pub record Run (M : Machines) (G : List Act → Bool) (n : ℕ) (w : List Act) : Type 0 where
  pub granted : G w ≡ true
  pub range : AllByRecursion (InRange n) w
  pub at : (p : ℕ) → p < n → M.Place p
  pub path : (p : ℕ) (h : p < n) → Path M p (M.start p) (part p w) (at p h)

-- a run is whole when nothing waits and every path ends at a last place
pub record Whole (M : Machines) (G : List Act → Bool) (n : ℕ) (w : List Act) : Type 0 where
  pub run : Run M G n w
  pub quiet : Quiet w
  pub final : (p : ℕ) (h : p < n) → M.Final p (run.at p h)

-- further acts, and further paths from where the run's paths end, that make the run whole
pub record MadeWhole (M : Machines) (G : List Act → Bool) (n : ℕ) (w : List Act) (r : Run M G n w) : Type 0 where
  pub more : List Act
  pub granted : G (w ++ more) ≡ true
  pub range : AllByRecursion (InRange n) more
  pub quiet : Quiet (w ++ more)
  pub at : (p : ℕ) → p < n → M.Place p
  pub path : (p : ℕ) (h : p < n) → Path M p (r.at p h) (part p more) (at p h)
  pub final : (p : ℕ) (h : p < n) → M.Final p (at p h)

-- the family is able to hold the held conversations: they are among its whole lists
abbrev pub Able : Machines → (List Act → Bool) → ℕ → Charts → Type 0
Able M G n f = (w : List Act) → HeldConversation G f w → Whole M G n w

-- it holds precisely the held conversations: they are its whole lists, and no others are
abbrev pub Precise : Machines → (List Act → Bool) → ℕ → Charts → Type 0
Precise M G n f = (w : List Act) → HeldConversation G f w ↔ Whole M G n w

-- every run can be made whole
abbrev pub NoDeadEnd : Machines → (List Act → Bool) → ℕ → Type 0
NoDeadEnd M G n = (w : List Act) (r : Run M G n w) → MadeWhole M G n w r

-- the family of the views: a place is a list, empty at the start; a move lengthens it to a view; the last views are final
abbrev pub tree : Charts → Machines
tree f = record {
  Place = λ p. List Act;
  start = λ p. [];
  Final = λ p v. LastView f p v;
  Moves = λ p v a x. (v ++ (a ∷ []) ≡ x) × View f p x;
}

-- places of two families, party by party, that do the same: the starts are related, each move of one is matched by a move of the other between
-- related places, and related places are last places together
pub record Alike (n : ℕ) (M N : Machines) (R : (p : ℕ) → M.Place p → N.Place p → Type 0) : Type 0 where
  pub starts : (p : ℕ) → p < n → R p (M.start p) (N.start p)
  pub forth : (p : ℕ) → p < n → (q r : M.Place p) (s : N.Place p) (a : Act) → R p q s → M.Moves p q a r
      → (t : N.Place p) × N.Moves p s a t × R p r t
  pub back : (p : ℕ) → p < n → (q : M.Place p) (s t : N.Place p) (a : Act) → R p q s → N.Moves p s a t
      → (r : M.Place p) × M.Moves p q a r × R p r t
  pub final : (p : ℕ) → p < n → (q : M.Place p) (s : N.Place p) → R p q s → M.Final p q ↔ N.Final p s

-- two families of so many parties with such a relation
pub record AlikePair : Type 1 where
  pub parties : ℕ
  pub one : Machines
  pub other : Machines
  pub related : (p : ℕ) → one.Place p → other.Place p → Type 0
  pub alike : Alike parties one other related
