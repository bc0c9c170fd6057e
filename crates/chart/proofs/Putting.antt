-- Pieces put into an output one behind another.
use Rattle.std.proofs.Common.{◌≡◌, ℕ, ◌+◌, ◌≤◌, List, [], ◌∷◌, ◌++◌, ◌<◌, length, take, get_or, sym, refl, ap, ◌∙◌, subst, add-zero, arith, length-append}
use Rattle.std.proofs.lemmas.List.{length-take-le, take_more, take_all}
use Rattle.acts.specs.declared.Act.{Act}
use Rattle.acts.specs.Acts.{Lines, line}
use Rattle.files.specs.Bytes.{act_bytes, acts_bytes, line_bytes, lines_bytes, front_bytes, file_of}
use Rattle.files.proofs.Stages.{acts_more, lines_more}
use Rattle.chart.specs.declared.output.Output.{Output}
use Rattle.chart.specs.Writing.{put}
use Rattle.chart.specs.Putting.{Fits, Puts}
use Rattle.chart.proofs.Put.{put-none, put_more, length-put, length_acts, length_lines, length_file, size-take, one_line}

-- nothing put
pub puts-none : (a : Output) → Puts a [] a
puts-none a = record { output = sym (put-none a.bytes.now a.place); place = sym (add-zero a.place); same = refl }

-- one piece behind another
pub puts-more : (a b c : Output) (xs ys : List ℕ) → Fits a xs → Puts a xs b → Puts b ys c → Puts a (xs ++ ys) c
puts-more a b c xs ys h p q = record {
  output =
      q.output
      ∙ ap (λ (o : List ℕ). put o b.place ys) p.output
      ∙ put_more a.bytes.now a.place xs ys b.place p.place h;
  place = let e = length-append xs ys in let f = p.place in let g = q.place in omega arith;
  same = q.same ∙ p.same;
}

-- the output stays as long: room behind the piece was room before it
pub puts-room : (a b : Output) (xs : List ℕ) (more : ℕ) → a.place + (length xs + more) ≤ length a.bytes.now → Puts a xs b
    → b.place + more ≤ length b.bytes.now
puts-room a b xs more h p =
    let f = p.place in
    let g : length b.bytes.now ≡ length a.bytes.now = ap length p.output ∙ length-put a.bytes.now a.place xs (omega arith) in
    omega arith

-- a line so far has room for its next act
pub act_room : (a b : Output) (p i : ℕ) (acts : List Act) → Fits a (line_bytes p acts) → i < length acts
    → Puts a (line_bytes p (take i acts)) b → b.place + 3 ≤ length b.bytes.now
act_room a b p i acts room h k =
    let e = length_acts acts in
    let f = length_acts (take i acts) in
    let t = length-take-le i acts (omega arith) in
    puts-room a b (line_bytes p (take i acts)) 3 (omega arith) k

-- one act more of a line
pub act_more : (a b c : Output) (p i : ℕ) (acts : List Act) (d : Act) → Fits a (line_bytes p acts) → i < length acts
    → Puts a (line_bytes p (take i acts)) b → Puts b (act_bytes (get_or acts i d)) c → Puts a (line_bytes p (take (i + 1) acts)) c
act_more a b c p i acts d room h k q =
    let e = length_acts acts in
    let f = length_acts (take i acts) in
    let t = length-take-le i acts (omega arith) in
    subst (λ (l : List ℕ). Puts a (76 ∷ p ∷ l) c)
    (sym (acts_more (take i acts) (get_or acts i d)) ∙ ap acts_bytes (sym (take_more acts i d h)))
    (puts-more a b c (line_bytes p (take i acts)) (act_bytes (get_or acts i d)) (omega arith) k q)

-- the lines so far have room for the next one
pub line_room : (a b : Output) (p : ℕ) (c : Lines) (l : List Act) → Fits a (file_of c) → p < length c → l ≡ line c p
    → Puts a (front_bytes (length c) (take p c)) b → Fits b (line_bytes p l)
line_room a b p c l room h e k =
    let n = length_file c in
    let f = length_lines 0 (take p c) in
    let t = length-take-le p c (omega arith) in
    let s = one_line c p l h e in
    let z = size-take (p + 1) c in
    let g = length_acts l in
    puts-room a b (front_bytes (length c) (take p c)) (length (line_bytes p l)) (omega arith) k

-- one line more
pub line_more : (a b d : Output) (p : ℕ) (c : Lines) (l : List Act) → Fits a (file_of c) → p < length c → l ≡ line c p
    → Puts a (front_bytes (length c) (take p c)) b → Puts b (line_bytes p l) d → Puts a (front_bytes (length c) (take (p + 1) c)) d
line_more a b d p c l room h e k q =
    let n = length_file c in
    let f = length_lines 0 (take p c) in
    let t = length-take-le p c (omega arith) in
    let z = size-take p c in
    subst (λ (x : List ℕ). Puts a (67 ∷ length c ∷ x) d)
    (sym (lines_more 0 p (take p c) l (omega arith))
    ∙ ap (λ (x : List Act). lines_bytes 0 (take p c ++ (x ∷ []))) e
    ∙ ap (lines_bytes 0) (sym (take_more c p [] h)))
    (puts-more a b d (front_bytes (length c) (take p c)) (line_bytes p l) (omega arith) k q)

-- the whole file
pub file_whole : (a b d : Output) (p : ℕ) (c : Lines) → Fits a (file_of c) → length c ≤ p → Puts a (front_bytes (length c) (take p c)) b
    → Puts b (90 ∷ []) d → Puts a (file_of c) d
file_whole a b d p c room h k q =
    let n = length-append (front_bytes (length c) c) (90 ∷ []) in
    puts-more a b d (front_bytes (length c) c) (90 ∷ []) (omega arith)
    (subst (λ (l : Lines). Puts a (front_bytes (length c) l) b) (take_all p c h) k) q
