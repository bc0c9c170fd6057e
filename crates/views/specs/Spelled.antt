-- The lists of acts that a table of views holds, by number.
use Rattle.std.specs.Prelude.{◌≡◌, ℕ, ◌<◌, List, [], ◌∷◌, ◌++◌, length, get_or, slice_index_or}
use Rattle.acts.specs.declared.Act.{Act}
use Rattle.acts.specs.declared.Letter.TheVariants.{Send}
use Rattle.views.specs.declared.view.View.{View}

-- view 0
abbrev pub root : View
root = record { lengthens = 0; act = record { party = 0; letter = Send; peer = 0; name = 0 }; charts = 0; complete = 0 }

-- each view is the list of the view that it lengthens, and its act
abbrev pub spelled_from : List (List Act) → List View → List (List Act)
spelled_from vs [] = vs
spelled_from vs (x ∷ xs) = spelled_from (vs ++ ((slice_index_or vs x.lengthens [] ++ (x.act ∷ [])) ∷ [])) xs

-- view 0 is the empty list
abbrev pub spelled : List View → List (List Act)
spelled [] = []
spelled (x ∷ xs) = spelled_from ([] ∷ []) xs

-- every view but the first lengthens an earlier one
abbrev pub Earlier : List View → Type 0
Earlier nodes = (k : ℕ) → 0 < k → k < length nodes → (get_or nodes k root).lengthens < k

-- the view k lengthens the view `at` by the act a
pub record Child (nodes : List View) (at : ℕ) (a : Act) (k : ℕ) : Type 0 where
  pub later : 0 < k
  pub below : k < length nodes
  pub lengthens : (get_or nodes k root).lengthens ≡ at
  pub act : (get_or nodes k root).act ≡ a

abbrev pub NoChild : List View → ℕ → Act → Type 0
NoChild nodes at a = (k : ℕ) → Child nodes at a k → ⊥
