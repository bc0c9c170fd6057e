-- The lines that have begun, as the first of six stored ones.
use Rattle.std.proofs.Common.{◌≡◌, ℕ, ◌≤◌, List, [], ◌∷◌, ◌++◌, map, length, take, refl, ap, ◌∙◌, arith}
use Rattle.std.specs.List.{sum_by}
use Rattle.std.proofs.lemmas.List.Recursion.{is_sum_by}
use Rattle.std.proofs.lemmas.List.{length-map, take-map, length-take-le}
use Rattle.acts.specs.declared.Act.{Act}
use Rattle.acts.specs.Acts.{Lines}
use Rattle.acts.specs.Language.{size}
use Rattle.lines.specs.Charts.{newest, lengthened}

pub newest_last : (c : Lines) (l : List Act) → newest (c ++ (l ∷ [])) ≡ l
newest_last [] l = refl
newest_last (k ∷ []) l = refl
newest_last (k ∷ j ∷ c) l = newest_last (j ∷ c) l

pub lengthened_last : (c : Lines) (l : List Act) (a : Act) → lengthened (c ++ (l ∷ [])) a ≡ c ++ ((l ++ (a ∷ [])) ∷ [])
lengthened_last [] l a = refl
lengthened_last (k ∷ []) l a = refl
lengthened_last (k ∷ j ∷ c) l a = ap (λ (x : Lines). k ∷ x) (lengthened_last (j ∷ c) l a)

pub count : {X : Type 0} (f : X → List Act) (items : List X) (k : ℕ) → k ≤ length items → length (take k (map f items)) ≡ k
count f items k h = length-take-le k (map f items) (let e = length-map items f in omega arith)

-- the acts of all lines, line by line
pub size_sum : {X : Type 0} (f : X → List Act) (items : List X) (k : ℕ) → size (take k (map f items)) ≡ sum_by (λ x. length (f x)) (take k items)
size_sum f items k = ap size (take-map f k items) ∙ is_sum_by (λ xs. size (map f xs)) (λ x. length (f x)) refl (λ x xs. refl) (take k items)
