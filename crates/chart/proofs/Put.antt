-- Bytes put into an output one after another, and how many a file has.
use Rattle.std.proofs.Common.{◌≡◌, ℕ, zero, suc, ◌+◌, ◌*◌, ◌<◌, ◌≤◌, List, [], ◌∷◌, ◌++◌, length, take, drop, sym, ap, ◌∙◌, append_assoc, add-zero, add-one, arith, length-append}
use Rattle.std.proofs.lemmas.List.{length-take-le, length-drop, take_at, drop_at, drop-drop, take-append-drop}
use Rattle.acts.specs.declared.Act.{Act}
use Rattle.acts.specs.Acts.{Lines, line}
use Rattle.acts.specs.Language.{size}
use Rattle.files.specs.Bytes.{acts_bytes, line_bytes, lines_bytes, file_of}
use Rattle.chart.specs.Writing.{put}

pub length-put : (out : List ℕ) (at : ℕ) (xs : List ℕ) → at + length xs ≤ length out → length (put out at xs) ≡ length out
length-put out at xs h =
    let e₁ = length-append (take at out) (xs ++ drop (at + length xs) out) in
    let e₂ = length-append xs (drop (at + length xs) out) in
    let e₃ = length-take-le at out (omega arith) in
    let e₄ = length-drop (at + length xs) out in
    omega arith

-- one piece behind another
pub put_more : (out : List ℕ) (at : ℕ) (xs ys : List ℕ) (to : ℕ) → to ≡ at + length xs → at + length xs ≤ length out
    → put (put out at xs) to ys ≡ put out at (xs ++ ys)
put_more out at xs ys to e h =
    let front : List ℕ = take at out ++ xs in
    let back : List ℕ = drop (at + length xs) out in
    let size : length front ≡ to = (let e₁ = length-append (take at out) xs in let e₂ = length-take-le at out (omega arith) in omega arith) in
    let same : put out at xs ≡ front ++ back = sym (append_assoc (take at out) xs back) in
    let rest : drop (to + length ys) (front ++ back) ≡ drop (at + length (xs ++ ys)) out =
    sym (drop-drop (length ys) to (front ++ back))
    ∙ ap (drop (length ys)) (drop_at front back to size)
    ∙ drop-drop (length ys) (at + length xs) out
    ∙ ap (λ (n : ℕ). drop n out) (let e₁ = length-append xs ys in let k : (at + length xs) + length ys ≡ at + length (xs ++ ys) = omega arith in k) in
    ap (λ (o : List ℕ). put o to ys) same
    ∙ ap (λ (l : List ℕ). l ++ (ys ++ drop (to + length ys) (front ++ back))) (take_at front back to size)
    ∙ ap (λ (l : List ℕ). front ++ (ys ++ l)) rest
    ∙ append_assoc (take at out) xs (ys ++ drop (at + length (xs ++ ys)) out)
    ∙ ap (λ (l : List ℕ). take at out ++ l) (sym (append_assoc xs ys (drop (at + length (xs ++ ys)) out)))

pub length_acts : (l : List Act) → length (acts_bytes l) ≡ 3 * length l
length_acts [] = omega arith
length_acts (a ∷ l) = let e = length_acts l in omega arith

pub length_lines : (p : ℕ) (c : Lines) → length (lines_bytes p c) ≡ 2 * length c + 3 * size c
length_lines p [] = omega arith
length_lines p (l ∷ c) =
    let e = length_lines (suc p) c in
    let f = length-append (line_bytes p l) (lines_bytes (suc p) c) in
    let g = length_acts l in
    omega arith

pub length_file : (c : Lines) → length (file_of c) ≡ 3 + (2 * length c + 3 * size c)
length_file c =
    let e = length_lines 0 c in
    let f = length-append (lines_bytes 0 c) (90 ∷ []) in
    omega arith

pub put-none : (out : List ℕ) (at : ℕ) → put out at [] ≡ out
put-none out at = ap (λ (n : ℕ). take at out ++ drop n out) (add-zero at) ∙ take-append-drop at out

pub size-take : (k : ℕ) (c : Lines) → size (take k c) ≤ size c
size-take zero c = omega arith
size-take (suc k) [] = omega arith
size-take (suc k) (l ∷ c) = let e = size-take k c in omega arith

-- one line more
pub one_line : (c : Lines) (p : ℕ) (l : List Act) → p < length c → l ≡ line c p → size (take (p + 1) c) ≡ size (take p c) + length l
one_line [] p l h e = absurd (omega arith)
one_line (k ∷ c) zero l h e = let g = ap length e in omega arith
one_line (k ∷ c) (suc p) l h e =
    let g = one_line c p l (omega arith) e in
    let f : size (take (suc p + 1) (k ∷ c)) ≡ length k + size (take (p + 1) c) = ap (λ (n : ℕ). size (take n (k ∷ c))) (add-one (suc p)) ∙ ap (λ (n : ℕ). length k + size (take n c)) (sym (add-one p)) in
    omega arith
