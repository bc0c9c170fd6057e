-- What there is to know about a list of acts and the held charts, computed.
use Rattle.std.specs.Prelude.{ℕ, zero, suc, Bool, true, false, cond, not, ◌&&◌, ◌||◌, List, [], ◌∷◌, Some, None, Option, ◌==◌}
use Rattle.std.specs.List.{list_all}
use Rattle.acts.specs.declared.Act.{Act}
use Rattle.acts.specs.declared.Message.{Message}
use Rattle.acts.specs.Acts.{message_of, part, sends, receives, Lines, line}
use Rattle.acts.specs.Order.{rank}
use Rattle.families.specs.Judgement.{Charts}

-- equal acts and lists
abbrev pub same_act : Act → Act → Bool
same_act a b = a.party == b.party && (rank a.letter == rank b.letter && (a.peer == b.peer && a.name == b.name))

abbrev pub same_list : {X : Type 0} → (X → X → Bool) → List X → List X → Bool
same_list t [] [] = true
same_list t [] (y ∷ w) = false
same_list t (x ∷ u) [] = false
same_list t (x ∷ u) (y ∷ w) = t x y && same_list t u w

abbrev pub same_acts : List Act → List Act → Bool
same_acts = same_list same_act

-- v is a beginning of l
abbrev pub begins_with : List Act → List Act → Bool
begins_with [] l = true
begins_with (a ∷ v) [] = false
begins_with (a ∷ v) (b ∷ l) = same_act a b && begins_with v l

-- the message is sent as often as it is received
abbrev pub balanced : List Act → Message → Bool
balanced w m = sends m.sender m.receiver m.name w == receives m.sender m.receiver m.name w

-- nothing waits: the messages of all acts are
abbrev pub quiet : List Act → Bool
quiet w = list_all (λ a. balanced w (message_of a)) w

-- every number below k, and some number below k, passes
abbrev pub all_below : ℕ → (ℕ → Bool) → Bool
all_below zero t = true
all_below (suc k) t = all_below k t && t k

abbrev pub some_below : ℕ → (ℕ → Bool) → Bool
some_below zero t = false
some_below (suc k) t = some_below k t || t k

-- a test of the chart under an id, false where there is none
abbrev pub passes : (Lines → Bool) → Option Lines → Bool
passes t None = false
passes t (Some c) = t c

-- some held chart passes
abbrev pub some_held : Charts → (Lines → Bool) → Bool
some_held f t = some_below 8 (λ i. passes t (f i))

abbrev pub is_view : Charts → ℕ → List Act → Bool
is_view f p v = some_held f (λ c. begins_with v (line c p))

abbrev pub is_last : Charts → ℕ → List Act → Bool
is_last f p v = some_held f (λ c. same_acts v (line c p))

-- granted, and every part is a view
abbrev pub is_local : (List Act → Bool) → Charts → List Act → Bool
is_local G f w = G w && all_below 6 (λ p. is_view f p (part p w))

-- every part is a last view
abbrev pub all_last : Charts → List Act → Bool
all_last f w = all_below 6 (λ p. is_last f p (part p w))

-- the parts are beginnings of the chart's lines, and the parts are the chart's lines
abbrev pub agrees : List Act → Lines → Bool
agrees w c = all_below 6 (λ p. begins_with (part p w) (line c p))

abbrev pub equals : List Act → Lines → Bool
equals w c = all_below 6 (λ p. same_acts (part p w) (line c p))

-- one held chart agrees with all parts, and one has exactly these parts
abbrev pub agreeing : Charts → List Act → Bool
agreeing f w = some_held f (agrees w)

abbrev pub exact : Charts → List Act → Bool
exact f w = some_held f (equals w)

-- the kind of a local list: 1 where it breaks CC2, 2 where it breaks CC3 alone, otherwise 0
abbrev pub kind_of : Charts → List Act → ℕ
kind_of f w = cond (quiet w && (all_last f w && not (exact f w))) 1 (cond (agreeing f w) 0 2)
