-- The files as a loop writes them: one view, one party or one act more at the end.
use Rattle.std.proofs.Common.{◌≡◌, ℕ, suc, ◌+◌, ◌<◌, Bool, true, false, List, [], ◌∷◌, ◌++◌, length, get_or, take, refl, ap, ◌∙◌, append-nil, arith}
use Rattle.std.proofs.lemmas.List.{take_more}
use Rattle.std.proofs.lemmas.Bool.{cond-true, cond-false}
use Rattle.acts.specs.declared.Act.{Act}
use Rattle.acts.specs.Acts.{byte_of_letter}
use Rattle.families.specs.Judgement.{Charts}
use Rattle.numbering.specs.Numbering.{place}
use Rattle.machines.specs.Files.{move_bytes, move_to, last_bytes, last_at, each_from, party_bytes, parties_below, told_bytes}
use Rattle.machines.proofs.Ending.{move_push}
use Rattle.machines.proofs.Each.{each_more}

-- view 0 has no move
pub moves_first : (views vs : List (List Act)) → get_or vs 0 [] ≡ [] → each_from (move_to views) 0 (take 1 vs) ≡ []
moves_first views [] e = refl
moves_first views (v ∷ vs) e = append-nil (move_to views 0 v) ∙ ap (move_to views 0) e

pub moves_more : (views vs : List (List Act)) (i : ℕ) (u : List Act) (a : Act) → i < length vs → get_or vs i [] ≡ u ++ (a ∷ [])
    → each_from (move_to views) 0 (take (i + 1) vs) ≡ each_from (move_to views) 0 (take i vs) ++ move_bytes (place views u) i a
moves_more views vs i u a h e =
    each_more (move_to views) vs i h
    ∙ ap (λ (x : List ℕ). each_from (move_to views) 0 (take i vs) ++ x) (ap (move_to views i) e ∙ move_push views i u a)

module _ (t : List Act → Bool) (vs : List (List Act)) (i : ℕ) (h : i < length vs) where
  pub lasts_more_yes : t (get_or vs i []) ≡ true → each_from (last_at t) 0 (take (i + 1) vs) ≡ each_from (last_at t) 0 (take i vs) ++ last_bytes i
  lasts_more_yes e =
      each_more (last_at t) vs i h
      ∙ ap (λ (x : List ℕ). each_from (last_at t) 0 (take i vs) ++ x) (cond-true (t (get_or vs i [])) (last_bytes i) [] e)

  pub lasts_more_no : t (get_or vs i []) ≡ false → each_from (last_at t) 0 (take (i + 1) vs) ≡ each_from (last_at t) 0 (take i vs)
  lasts_more_no e =
      each_more (last_at t) vs i h
      ∙ ap (λ (x : List ℕ). each_from (last_at t) 0 (take i vs) ++ x) (cond-false (t (get_or vs i [])) (last_bytes i) [] e)
      ∙ append-nil (each_from (last_at t) 0 (take i vs))

pub parties_more : (f : Charts) (n : ℕ) → parties_below f (n + 1) ≡ parties_below f n ++ party_bytes f n
parties_more f n =
    let e : n + 1 ≡ suc n = omega arith in
    ap (parties_below f) e

-- an act of a list file
abbrev pub told_act : Act → List ℕ
told_act a = byte_of_letter a.letter ∷ a.party ∷ a.peer ∷ a.name ∷ []

pub told_push : (w : List Act) (a : Act) → told_bytes (w ++ (a ∷ [])) ≡ told_bytes w ++ told_act a
told_push [] a = refl
told_push (b ∷ w) a = ap (λ (x : List ℕ). told_act b ++ x) (told_push w a)

pub told_more : (w : List Act) (i : ℕ) (d : Act) → i < length w → told_bytes (take (i + 1) w) ≡ told_bytes (take i w) ++ told_act (get_or w i d)
told_more w i d h = ap told_bytes (take_more w i d h) ∙ told_push (take i w) (get_or w i d)
