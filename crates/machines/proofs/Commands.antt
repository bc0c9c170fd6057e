-- What a machine file says, command by command.
use Rattle.std.proofs.Common.{◌≡◌, ℕ, zero, suc, ◌/◌, ◌%◌, ◌≤◌, Bool, true, false, cond, eqb, List, [], ◌∷◌, ◌++◌, length, drop, Some, None, Option, sym, refl, ap, ◌∙◌, append_assoc, append-nil, div-add-mod', arith, length-drop}
use Rattle.acts.specs.declared.Act.{Act}
use Rattle.acts.specs.declared.Letter.{Letter}
use Rattle.acts.specs.declared.Letter.TheVariants.{Send, Receive}
use Rattle.acts.specs.Language.{maybe}
use Rattle.acts.specs.Acts.{byte_of_letter}
use Rattle.families.specs.Judgement.{Charts}
use Rattle.families.specs.Tests.{is_last}
use Rattle.numbering.specs.Numbering.{place, views_of}
use Rattle.machines.specs.Files.{word, last_act, lengthens, move_bytes, move_to, last_bytes, last_at, each_from, party_bytes, parties_below, machine_file_bytes}
use Rattle.machines.specs.Reading.{Entry, leads, ends, operands, number, said, party_after, entries_from, entries}

-- as many commands as bytes are enough
pub enough : (k j p : ℕ) (file : List ℕ) → length file ≤ k → length file ≤ j → entries_from k p file ≡ entries_from j p file
enough zero zero p file h l = refl
enough zero (suc j) p [] h l = refl
enough zero (suc j) p (b ∷ x) h l = absurd (omega arith)
enough (suc k) zero p [] h l = refl
enough (suc k) zero p (b ∷ x) h l = absurd (omega arith)
enough (suc k) (suc j) p [] h l = refl
enough (suc k) (suc j) p (b ∷ x) h l =
    let n = length-drop (operands b) x in
    ap (λ (e : List Entry). cond (eqb b 90) [] (said p b x ++ e))
    (enough k j (party_after p b x) (drop (operands b) x) (omega arith) (omega arith))

-- what a file says from a command of the party p on
abbrev pub rest : (p : ℕ) → List ℕ → List Entry
rest p file = entries_from (length file) p file

trimmed : (k p : ℕ) (file : List ℕ) → length file ≤ k → entries_from k p file ≡ rest p file
trimmed k p file h = enough k (length file) p file h (omega arith)

pub number_of : (k : ℕ) → number (k / 256) (k % 256) ≡ k
number_of k = div-add-mod' k 256

-- the act with this party
abbrev pub by : ℕ → Act → Act
by p a = record { party = p; letter = a.letter; peer = a.peer; name = a.name }

pub rest_move : (p from to : ℕ) (a : Act) (file : List ℕ) → rest p (move_bytes from to a ++ file) ≡ leads p from (by p a) to ∷ rest p file
rest_move p from to a file = go a.letter a.peer a.name
  where
    go : (l : Letter) (e m : ℕ)
        → rest p (byte_of_letter l ∷ (word from ++ (word to ++ (e ∷ m ∷ file))))
        ≡ leads p from (record { party = p; letter = l; peer = e; name = m }) to ∷ rest p file
    go Send e m =
        λ i. leads p (number_of from i) (record { party = p; letter = Send; peer = e; name = m }) (number_of to i)
        ∷ trimmed (suc (suc (suc (suc (suc (suc (length file))))))) p file (omega arith) i
    go Receive e m =
        λ i. leads p (number_of from i) (record { party = p; letter = Receive; peer = e; name = m }) (number_of to i)
        ∷ trimmed (suc (suc (suc (suc (suc (suc (length file))))))) p file (omega arith) i

pub rest_last : (p k : ℕ) (file : List ℕ) → rest p (last_bytes k ++ file) ≡ ends p k ∷ rest p file
rest_last p k file = λ i. ends p (number_of k i) ∷ trimmed (suc (suc (length file))) p file (omega arith) i

pub rest_party : (p q : ℕ) (file : List ℕ) → rest p (80 ∷ q ∷ file) ≡ rest q file
rest_party p q file = trimmed (suc (length file)) q file (omega arith)

-- what is said of each of numbered views
rest_each : (p : ℕ) (g : ℕ → List Act → List ℕ) (h : ℕ → List Act → List Entry)
    → ((k : ℕ) (v : List Act) (file : List ℕ) → rest p (g k v ++ file) ≡ h k v ++ rest p file)
    → (k : ℕ) (vs : List (List Act)) (file : List ℕ) → rest p (each_from g k vs ++ file) ≡ each_from h k vs ++ rest p file
rest_each p g h e k [] file = refl
rest_each p g h e k (v ∷ vs) file =
    ap (rest p) (append_assoc (g k v) (each_from g (suc k) vs) file)
    ∙ e k v (each_from g (suc k) vs ++ file)
    ∙ ap (λ (x : List Entry). h k v ++ x) (rest_each p g h e (suc k) vs file)
    ∙ sym (append_assoc (h k v) (each_from h (suc k) vs) (rest p file))

-- the move to a view, and that it is a last one
abbrev pub move_said : (p : ℕ) (views : List (List Act)) (k : ℕ) → List Act → List Entry
move_said p views k v = maybe [] (λ a. leads p (place views (lengthens v)) (by p a) k ∷ []) (last_act v)

abbrev pub last_said : (p : ℕ) → (List Act → Bool) → (k : ℕ) → List Act → List Entry
last_said p t k v = cond (t v) (ends p k ∷ []) []

rest_moves : (p : ℕ) (views : List (List Act)) (k : ℕ) (vs : List (List Act)) (file : List ℕ)
    → rest p (each_from (move_to views) k vs ++ file) ≡ each_from (move_said p views) k vs ++ rest p file
rest_moves p views = rest_each p (move_to views) (move_said p views) (λ k v file. go k v file (last_act v))
  where
    go : (k : ℕ) (v : List Act) (file : List ℕ) (o : Option Act)
        → rest p (maybe [] (move_bytes (place views (lengthens v)) k) o ++ file)
        ≡ maybe [] (λ a. leads p (place views (lengthens v)) (by p a) k ∷ []) o ++ rest p file
    go k v file None = refl
    go k v file (Some a) = rest_move p (place views (lengthens v)) k a file

rest_lasts : (p : ℕ) (t : List Act → Bool) (k : ℕ) (vs : List (List Act)) (file : List ℕ)
    → rest p (each_from (last_at t) k vs ++ file) ≡ each_from (last_said p t) k vs ++ rest p file
rest_lasts p t = rest_each p (last_at t) (last_said p t) (λ k v file. go k file (t v))
  where
    go : (k : ℕ) (file : List ℕ) (b : Bool) → rest p (cond b (last_bytes k) [] ++ file) ≡ cond b (ends p k ∷ []) [] ++ rest p file
    go k file true = rest_last p k file
    go k file false = refl

-- what is said of a party, and of the parties below n
unfoldable pub party_said : Charts → ℕ → List Entry
party_said f p = each_from (move_said p (views_of p f)) 0 (views_of p f) ++ each_from (last_said p (is_last f p)) 0 (views_of p f)

pub rest_of_party : (f : Charts) (q p : ℕ) (file : List ℕ) → rest q (party_bytes f p ++ file) ≡ party_said f p ++ rest p file
unfolding party_said
rest_of_party f q p file =
    let vs = views_of p f in
    let m = each_from (move_to vs) 0 vs in
    let l = each_from (last_at (is_last f p)) 0 vs in
    let d = each_from (move_said p vs) 0 vs in
    let s = each_from (last_said p (is_last f p)) 0 vs in
    rest_party q p ((m ++ l) ++ file)
    ∙ ap (rest p) (append_assoc m l file)
    ∙ rest_moves p vs 0 vs (l ++ file)
    ∙ ap (λ (x : List Entry). d ++ x) (rest_lasts p (is_last f p) 0 vs file)
    ∙ sym (append_assoc d s (rest p file))

abbrev pub said_below : Charts → ℕ → List Entry
said_below f zero = []
said_below f (suc n) = said_below f n ++ party_said f n

-- the party whose commands come last
abbrev lastly : ℕ → ℕ → ℕ
lastly q zero = q
lastly q (suc n) = n

rest_below : (f : Charts) (n q : ℕ) (file : List ℕ) → rest q (parties_below f n ++ file) ≡ said_below f n ++ rest (lastly q n) file
rest_below f zero q file = refl
rest_below f (suc n) q file =
    ap (rest q) (append_assoc (parties_below f n) (party_bytes f n) file)
    ∙ rest_below f n q (party_bytes f n ++ file)
    ∙ ap (λ (x : List Entry). said_below f n ++ x) (rest_of_party f (lastly q n) n file)
    ∙ sym (append_assoc (said_below f n) (party_said f n) (rest n file))

-- what a machine file says
pub file_says : (code n : ℕ) (f : Charts) → entries (machine_file_bytes code n f) ≡ said_below f n
file_says code n f =
    trimmed (suc (suc (length (parties_below f n ++ (90 ∷ []))))) 0 (parties_below f n ++ (90 ∷ [])) (omega arith)
    ∙ rest_below f n 0 (90 ∷ [])
    ∙ append-nil (said_below f n)
