-- The views of a party, numbered as they first come: by the charts' ids, then by length.
use Rattle.std.specs.Prelude.{◌≡◌, ℕ, zero, suc, ◌<◌, Bool, false, cond, ◌||◌, List, [], ◌∷◌, ◌++◌, length, Some, None, Option, slice_index_or}
use Rattle.acts.specs.declared.Act.{Act}
use Rattle.acts.specs.Acts.{Lines, line}
use Rattle.families.specs.Judgement.{Charts}
use Rattle.families.specs.Tests.{same_acts}

-- v stands among the lists
abbrev pub among : List (List Act) → List Act → Bool
among [] v = false
among (x ∷ vs) v = same_acts x v || among vs v

-- the place at which v first stands; their number where it does not
abbrev pub place : List (List Act) → List Act → ℕ
place [] v = 0
place (x ∷ vs) v = cond (same_acts x v) 0 (suc (place vs v))

-- no list stands at two places: each is at its first place
abbrev pub Apart : List (List Act) → Type 0
Apart vs = (k : ℕ) → k < length vs → place vs (slice_index_or vs k []) ≡ k

-- one list more at the end, unless it is there already
abbrev pub noted : List (List Act) → List Act → List (List Act)
noted vs v = cond (among vs v) vs (vs ++ (v ∷ []))

-- v with one act of l more each time, noted in turn
abbrev pub noted_along : List (List Act) → List Act → List Act → List (List Act)
noted_along vs v [] = vs
noted_along vs v (a ∷ l) = noted_along (noted vs (v ++ (a ∷ []))) (v ++ (a ∷ [])) l

-- the beginnings of a chart's line, by length
abbrev pub noted_line : ℕ → Option Lines → List (List Act) → List (List Act)
noted_line p None vs = vs
noted_line p (Some c) vs = noted_along vs [] (line c p)

-- the views of a party in the charts whose ids are below k; view 0 is the empty one
abbrev pub views_below : ℕ → Charts → ℕ → List (List Act)
views_below p f zero = [] ∷ []
views_below p f (suc k) = noted_line p (f k) (views_below p f k)

-- the views of a party by number: ids are 0 to 7
unfoldable pub views_of : ℕ → Charts → List (List Act)
views_of p f = views_below p f 8
