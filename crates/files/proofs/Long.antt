-- Beyond 592 bytes it makes no difference what follows.
use Rattle.std.proofs.Common.{◌≡◌, ℕ, zero, suc, ◌+◌, ◌-◌, ◌*◌, ◌<◌, ◌≤◌, Bool, true, false, cond, eqb, ltb, List, [], ◌∷◌, ◌++◌, length, get_or, take, Some, Ok, Err, Option, Result, sym, refl, ap, ◌∙◌, inl, inr, arith, length-append, length-take}
use Rattle.std.proofs.lemmas.List.{get_or-take}
use Rattle.std.proofs.lemmas.Bool.{ne_eqb, le-ltb, cond-false}
use Rattle.fault.specs.declared.Fault.{Fault}
use Rattle.acts.specs.declared.Act.{Act}
use Rattle.acts.specs.Acts.{Lines, line}
use Rattle.lines.specs.Charts.{Begun, Lined, newest}
use Rattle.files.specs.Bytes.{acts_bytes, line_bytes, lines_bytes, front_bytes, file_of}
use Rattle.files.specs.Rules.{Stage, Sound, so_far, is_act, operands, first, rows, wrong}
use Rattle.files.specs.Answers.{Stops, IsGoingOn, stops, goes_on, bad_file, not_paired, not_playable, Answers}
use Rattle.files.specs.Reading.{reading}
use Rattle.files.specs.Theorems.{LongFiles}
use Rattle.files.proofs.Stages.{front-from}
use Rattle.files.proofs.Scanning.{reading_right}
use Rattle.files.proofs.Matching.{only_answer}

-- an act has three bytes, a line two and its acts
length_acts : (l : List Act) → length (acts_bytes l) ≡ 3 * length l
length_acts [] = refl
length_acts (a ∷ l) = let e = length_acts l in omega arith

length_lines : (p : ℕ) (c : Lines) → ((q : ℕ) → length (line c q) ≤ 32) → length (lines_bytes p c) ≤ 98 * length c
length_lines p [] h = omega arith
length_lines p (l ∷ c) h =
    let e = length-append (line_bytes p l) (lines_bytes (suc p) c) in
    let f = length_acts l in
    let g = length_lines (suc p) c (λ q. h (suc q)) in
    let s = h 0 in
    omega arith

length_front : (n : ℕ) (c : Lines) → Begun n c → length (front_bytes n c) ≤ 590
length_front n c b =
    let e = length_lines 0 c (λ q. (b.fine q).short) in
    let f = b.few in
    let g = b.high in
    omega arith

length_so_far : (s : Stage) → Sound s → length (so_far s) ≤ 590
length_so_far s (inl e) =
    let f : length (so_far s) ≡ 0 = ap (λ (n : ℕ). length (cond (eqb n 0) [] (front_bytes n s.lines))) e.0 in
    omega arith
length_so_far s (inr b) =
    let l = b.low in
    let e = ap (length {A = ℕ}) (front-from s (omega arith)) in
    let f = length_front s.parties s.lines b in
    omega arith

length_file : (c : Lines) → Lined c → length (file_of c) ≤ 591
length_file c d =
    let e = length-append (front_bytes (length c) c) (90 ∷ []) in
    let f = length_front (length c) c d in
    omega arith

-- the first k of two lists in a row, where that is n more than the first one has
take_beyond : (k n : ℕ) (u v : List ℕ) → k ≡ length u + n → take k (u ++ v) ≡ u ++ take n v
take_beyond k n [] v e = let f : k ≡ n = omega arith in ap (λ (x : ℕ). take x v) f
take_beyond zero n (x ∷ u) v e = absurd (omega arith)
take_beyond (suc k) n (x ∷ u) v e = ap (λ (w : List ℕ). x ∷ w) (take_beyond k n u v (omega arith))

-- with three bytes or more no row says that the file ends
two_rows : (t u v : Bool) (f g h : Fault) (o : Option Fault) → t ≡ false → v ≡ false
    → cond t (Some f) (cond u (Some g) (cond v (Some h) o)) ≡ cond u (Some g) o
two_rows t u v f g h o e i =
    cond-false t (Some f) (cond u (Some g) (cond v (Some h) o)) e
    ∙ ap (λ (x : Option Fault). cond u (Some g) x) (cond-false v (Some h) o i)

at_most_two : (s t : Bool) → cond s 2 (cond t 0 1) ≤ 2
at_most_two true true = omega arith
at_most_two true false = omega arith
at_most_two false true = omega arith
at_most_two false false = omega arith

no_end : (b left : ℕ) → 3 ≤ left → ltb left (1 + operands b) ≡ false
no_end b left h = le-ltb left (1 + operands b) (let e = at_most_two (is_act b) (eqb b 90) in omega arith)

same_rows : (n k m at size size' left left' b x y : ℕ) → 3 ≤ left → 3 ≤ left'
    → first (rows n k m size at left b x y) ≡ first (rows n k m size' at left' b x y)
same_rows n k m at size size' left left' b x y h g =
    two_rows (eqb left 0) _ _ _ _ _ _ (ne_eqb left 0 (λ e. omega arith)) (no_end b left h)
    ∙ sym (two_rows (eqb left' 0) _ _ _ _ _ _ (ne_eqb left' 0 (λ e. omega arith)) (no_end b left' g))

-- what is wrong with a command is seen in three bytes
same_wrong : (s : Stage) (size size' at n : ℕ) (rest : List ℕ) → 3 ≤ n → 3 ≤ length rest
    → wrong s size' at (take n rest) ≡ wrong s size at rest
same_wrong s size size' at n rest h g =
    let l = length-take n rest in
    let b : get_or (take n rest) 0 0 ≡ get_or rest 0 0 = get_or-take n rest 0 0 (omega arith) in
    let x : get_or (take n rest) 1 0 ≡ get_or rest 1 0 = get_or-take n rest 1 0 (omega arith) in
    let y : get_or (take n rest) 2 0 ≡ get_or rest 2 0 = get_or-take n rest 2 0 (omega arith) in
    (λ i. first (rows s.parties (length s.lines) (length (newest s.lines)) size' at (length (take n rest)) (b i) (x i) (y i)))
    ∙ same_rows s.parties (length s.lines) (length (newest s.lines)) at size' size (length (take n rest)) (length rest)
    (get_or rest 0 0) (get_or rest 1 0) (get_or rest 2 0) (omega arith) g

front_stops : (file : List ℕ) (f : Fault) → 592 < length file → Stops file f → Stops (take 593 file) f
front_stops file f h k =
    let u : List ℕ = so_far k.stage in
    let n : ℕ = 593 - length u in
    let short = length_so_far k.stage k.sound in
    let l₁ = ap (length {A = ℕ}) k.whole in
    let l₂ = length-append u k.rest in
    record {
      stage = k.stage;
      sound = k.sound;
      rest = take n k.rest;
      whole = sym (take_beyond 593 n u k.rest (omega arith)) ∙ ap (take 593) k.whole;
      wrongly = same_wrong k.stage (length file) (length (take 593 file)) (length u) n k.rest (omega arith) (omega arith) ∙ k.wrongly;
    }

front_goes_on : (file : List ℕ) (f : Fault) → IsGoingOn file f → IsGoingOn (take 593 file) f
front_goes_on file f k =
    let u : List ℕ = file_of k.lines in
    let n : ℕ = 592 - length u in
    let short = length_file k.lines k.lined in
    record {
      lines = k.lines;
      lined = k.lined;
      more = k.more;
      rest = take n k.rest;
      whole = sym (take_beyond 593 (suc n) u (k.more ∷ k.rest) (omega arith)) ∙ ap (take 593) k.whole;
      fault = k.fault;
    }

-- a complete file is not so long
not_long : (file : List ℕ) (c : Lines) → 592 < length file → Lined c → file_of c ≡ file → ⊥
not_long file c h d e =
    let f = length_file c d in
    let g = ap (length {A = ℕ}) e in
    omega arith

front_answers : (file : List ℕ) (r : Result Lines Fault) → 592 < length file → Answers file r → Answers (take 593 file) r
front_answers file (Ok c) h k = absurd (not_long file c h k.chart.lined k.bytes)
front_answers file (Err f) h (bad_file (stops k)) = bad_file (stops (front_stops file f h k))
front_answers file (Err f) h (bad_file (goes_on k)) = bad_file (goes_on (front_goes_on file f k))
front_answers file (Err f) h (not_paired k) = absurd (not_long file k.lines h k.lined k.whole)
front_answers file (Err f) h (not_playable k) = absurd (not_long file k.lines h k.lined k.whole)

pub long_files : LongFiles
long_files file h =
    only_answer (take 593 file) (reading file) (front_answers file (reading file) h (reading_right file))
