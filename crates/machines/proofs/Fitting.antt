-- A machine file is made of bytes, and not too many.
use Rattle.std.proofs.Common.{ℕ, zero, suc, ◌+◌, ◌*◌, ◌<◌, ◌≤◌, Bool, true, false, cond, List, [], ◌∷◌, length, get_or, sym, ap, ◌∙◌, subst, inl, inr, arith, length-append}
use Rattle.std.specs.List.{AllByRecursion}
use Rattle.std.proofs.ByRecursion.{All-append}
use Rattle.acts.specs.declared.Act.{Act}
use Rattle.acts.specs.declared.Letter.{Letter}
use Rattle.acts.specs.declared.Letter.TheVariants.{Send, Receive}
use Rattle.acts.specs.Acts.{InRange, byte_of_letter}
use Rattle.families.specs.Judgement.{Charts, View, Judgeable}
use Rattle.families.specs.Tests.{same_acts, is_last}
use Rattle.families.proofs.Agreement.{few_parties}
use Rattle.numbering.specs.Numbering.{place, views_of}
use Rattle.machines.specs.Files.{move_bytes, move_to, last_bytes, last_at, each_from, party_bytes, parties_below, machine_file_bytes}
use Rattle.machines.specs.Theorems.{Fits}
use Rattle.machines.proofs.Ending.{ended, move_push}
use Rattle.machines.proofs.Each.{each_all}
use Rattle.machines.proofs.Views.{view_at_lem, view_act, views_few}
use Rattle.machines.proofs.Sizes.{lasts_few, party_size}

abbrev Bytes : List ℕ → Type 0
Bytes file = AllByRecursion (λ b. b < 256) file

place_upto : (vs : List (List Act)) (v : List Act) → place vs v ≤ length vs
place_upto [] v = omega arith
place_upto (x ∷ vs) v = go (same_acts x v) (place_upto vs v)
  where
    go : (b : Bool) → place vs v ≤ length vs → cond b 0 (suc (place vs v)) ≤ suc (length vs)
    go true h = omega arith
    go false h = omega arith

letter_byte : (l : Letter) → byte_of_letter l < 256
letter_byte Send = omega arith
letter_byte Receive = omega arith

move_bytes_lem : (from to n : ℕ) (a : Act) → from < 512 → to < 512 → n ≤ 6 → InRange n a → Bytes (move_bytes from to a)
move_bytes_lem from to n a hf ht hn r =
    let e = r.peer in
    let m = r.name in
    (letter_byte a.letter, (omega arith, (omega arith, (omega arith, (omega arith, (omega arith, (omega arith, tt)))))))

last_bytes_lem : (b : Bool) (k : ℕ) → k < 512 → Bytes (cond b (last_bytes k) [])
last_bytes_lem true k h = (omega arith, (omega arith, (omega arith, tt)))
last_bytes_lem false k h = tt

module _ (G : List Act → Bool) (n : ℕ) (f : Charts) (J : Judgeable G n f) where
  view_move : (p k : ℕ) (v : List Act) → k < 512 → View f p v → Bytes (move_to (views_of p f) k v)
  view_move p k v h x = elim (ended v) [
    | inl e ↦ subst (λ (u : List Act). Bytes (move_to (views_of p f) k u)) (sym e) tt
    | inr e ↦
        let s = place_upto (views_of p f) e.before in
        let w = views_few G n f J p in
        subst Bytes (sym (ap (move_to (views_of p f) k) e.is ∙ move_push (views_of p f) k e.before e.act))
        (move_bytes_lem (place (views_of p f) e.before) k n e.act (omega arith) h (few_parties G n f J)
        (view_act G n f J p e.before e.act (subst (View f p) e.is x)).0)
  ]

  party_bytes_lem : (p : ℕ) → p < n → Bytes (party_bytes f p)
  party_bytes_lem p h =
      let w = views_few G n f J p in
      let few = few_parties G n f J in (
        omega arith,
        (
          omega arith,
          All-append (λ b. b < 256) (each_from (move_to (views_of p f)) 0 (views_of p f)) (each_from (last_at (is_last f p)) 0 (views_of p f))
              (each_all (move_to (views_of p f)) (λ b. b < 256) 0 (views_of p f)
              (λ at l. view_move p (0 + at) (get_or (views_of p f) at []) (omega arith) (view_at_lem G n f J p at l)))
              (each_all (last_at (is_last f p)) (λ b. b < 256) 0 (views_of p f)
              (λ at l. last_bytes_lem (is_last f p (get_or (views_of p f) at [])) (0 + at) (omega arith))),
        ),
      )

  parties_bytes : (k : ℕ) → k ≤ n → Bytes (parties_below f k)
  parties_bytes zero h = tt
  parties_bytes (suc k) h =
      All-append (λ b. b < 256) (parties_below f k) (party_bytes f k) (parties_bytes k (omega arith)) (party_bytes_lem k (omega arith))

  -- two bytes, at most 256 moves of seven and at most eight last views of three
  parties_few : (k : ℕ) → length (parties_below f k) ≤ 1818 * k
  parties_few zero = omega arith
  parties_few (suc k) =
      let a = length-append (parties_below f k) (party_bytes f k) in
      let b = parties_few k in
      let c = party_size f k in
      let d = views_few G n f J k in
      let e = lasts_few f k in
      omega arith

  pub file_fits : (code : ℕ) → code < 256 → Fits (machine_file_bytes code n f)
  file_fits code h =
      let few = few_parties G n f J in
      let a = length-append (parties_below f n) (90 ∷ []) in
      let b = parties_few n in
      record {
        bytes = (
          omega arith,
          (h, (omega arith, All-append (λ x. x < 256) (parties_below f n) (90 ∷ []) (parties_bytes n (omega arith)) (omega arith, tt))),
        );
        few = omega arith;
      }
