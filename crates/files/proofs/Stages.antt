-- How a stage grows by one command, and how the last one closes it.
use Rattle.std.proofs.Common.{◌≡◌, ℕ, zero, suc, pred, ◌+◌, ◌<◌, ◌≤◌, true, false, eqb, List, [], ◌∷◌, ◌++◌, length, get_or, drop, None, sym, refl, ap, ◌∙◌, subst, inl, inr, append_assoc, append-nil, arith, length-append}
use Rattle.std.proofs.ByRecursion.{All-push}
use Rattle.std.proofs.lemmas.List.{get_or_push}
use Rattle.std.proofs.lemmas.Bool.{cases_eq, eqb-true, cond-true, cond-false, eq-eqb, ne_eqb, both_ways}
use Rattle.acts.specs.declared.Act.{Act}
use Rattle.acts.specs.Acts.{InRange, Lines, line}
use Rattle.lines.specs.Charts.{Fine, Begun, Lined, newest, lengthened}
use Rattle.lines.proofs.Sheets.{newest_last, lengthened_last}
use Rattle.files.specs.Bytes.{act_bytes, acts_bytes, line_bytes, lines_bytes, front_bytes, file_of}
use Rattle.files.specs.Rules.{Stage, so_far, Sound, operands, wrong, act_of, grown}
use Rattle.files.proofs.Lined.{RightAct}
use Rattle.files.proofs.Commands.{Names, Begins, Acts, Ends, Command, names, begins, sends, receives, ends, command}

-- the bytes of one line more, of one act more, and of a front with one command more
pub lines_more : (p q : ℕ) (c : Lines) (l : List Act) → q ≡ p + length c → lines_bytes p (c ++ (l ∷ [])) ≡ lines_bytes p c ++ line_bytes q l
lines_more p q [] l e =
    let same : p ≡ q = omega arith in
    append-nil (line_bytes p l) ∙ ap (λ (r : ℕ). line_bytes r l) same
lines_more p q (k ∷ c) l e =
    ap (λ (x : List ℕ). line_bytes p k ++ x) (lines_more (suc p) q c l (omega arith))
    ∙ sym (append_assoc (line_bytes p k) (lines_bytes (suc p) c) (line_bytes q l))

pub acts_more : (l : List Act) (a : Act) → acts_bytes (l ++ (a ∷ [])) ≡ acts_bytes l ++ act_bytes a
acts_more [] a = refl
acts_more (b ∷ l) a = ap (λ (x : List ℕ). act_bytes b ++ x) (acts_more l a)

act_more : (c : Lines) (l : List Act) (a : Act) → lines_bytes 0 (c ++ ((l ++ (a ∷ [])) ∷ [])) ≡ lines_bytes 0 (c ++ (l ∷ [])) ++ act_bytes a
act_more c l a =
    let e : length c ≡ 0 + length c = omega arith in
    lines_more 0 (length c) c (l ++ (a ∷ [])) e
    ∙ ap (λ (x : List ℕ). lines_bytes 0 c ++ (76 ∷ length c ∷ x)) (acts_more l a)
    ∙ sym (append_assoc (lines_bytes 0 c) (line_bytes (length c) l) (act_bytes a))
    ∙ ap (λ (x : List ℕ). x ++ act_bytes a) (sym (lines_more 0 (length c) c l e))

front_more : (n : ℕ) (c d : Lines) (command more : List ℕ) → lines_bytes 0 d ≡ lines_bytes 0 c ++ command
    → front_bytes n d ++ more ≡ front_bytes n c ++ (command ++ more)
front_more n c d command more e =
    ap (λ (x : List ℕ). 67 ∷ n ∷ (x ++ more)) e
    ∙ ap (λ (x : List ℕ). 67 ∷ n ∷ x) (append_assoc (lines_bytes 0 c) command more)

-- a stage after C
pub begun_from : (s : Stage) → Sound s → 0 < s.parties → Begun s.parties s.lines
begun_from s (inl h) g = absurd (omega arith)
begun_from s (inr h) g = h

pub front-from : (s : Stage) → 0 < s.parties → so_far s ≡ front_bytes s.parties s.lines
front-from s h =
    cond-false (eqb s.parties 0) [] (front_bytes s.parties s.lines) (ne_eqb s.parties 0 (λ e. omega arith))

-- the last of some lines, and those before it
pub record Split (c : Lines) : Type 0 where
  pub done : Lines
  pub last : List Act
  pub whole : done ++ (last ∷ []) ≡ c

pub split : (c : Lines) → 0 < length c → Split c
split [] h = absurd (omega arith)
split (l ∷ []) h = record { done = []; last = l; whole = refl }
split (l ∷ k ∷ c) h =
    let r : Split (k ∷ c) = split (k ∷ c) (omega arith) in
    record { done = l ∷ r.done; last = r.last; whole = ap (λ (x : Lines). l ∷ x) r.whole }

pub line_last : (c : Lines) (l : List Act) → line (c ++ (l ∷ [])) (length c) ≡ l
line_last c l = get_or_push c l [] (length c) refl

line_other : (c : Lines) (l k : List Act) (p : ℕ) → (p ≡ length c → ⊥) → line (c ++ (l ∷ [])) p ≡ line (c ++ (k ∷ [])) p
line_other [] l k zero n = absurd (n refl)
line_other [] l k (suc p) n = refl
line_other (j ∷ c) l k zero n = refl
line_other (j ∷ c) l k (suc p) n = line_other c l k p (λ e. n (ap suc e))

-- a new line is empty, as one that is missing
line_new : (c : Lines) (p : ℕ) → line (c ++ ([] ∷ [])) p ≡ line c p
line_new [] zero = refl
line_new [] (suc p) = refl
line_new (l ∷ c) zero = refl
line_new (l ∷ c) (suc p) = line_new c p

-- C: no line has begun
begun_none : (n : ℕ) → 2 ≤ n → n ≤ 6 → Begun n []
begun_none n h g = record { low = h; high = g; few = omega arith; fine = λ p. record { short = omega arith; acts = tt } }

-- L: one line more
begun_new : (n : ℕ) (c : Lines) → Begun n c → length c < n → Begun n (c ++ ([] ∷ []))
begun_new n c b h = record {
  low = b.low;
  high = b.high;
  few = let e = length-append c ([] ∷ []) in omega arith;
  fine = λ p. subst (Fine n p) (sym (line_new c p)) (b.fine p);
}

-- S and R: one act more in the last line
pub record Longer (n : ℕ) (c : Lines) (a : Act) : Type 0 where
  pub begun : Begun n (lengthened c a)
  pub bytes : lines_bytes 0 (lengthened c a) ≡ lines_bytes 0 c ++ act_bytes a

begun_longer : (n : ℕ) (c : Lines) (l : List Act) (a : Act) → Begun n (c ++ (l ∷ [])) → length l < 32 → InRange n a
    → a.party ≡ length c → Begun n (c ++ ((l ++ (a ∷ [])) ∷ []))
begun_longer n c l a b room i own = record {
  low = b.low;
  high = b.high;
  few = let e = length-append c (l ∷ []) in
      let f = length-append c ((l ++ (a ∷ [])) ∷ []) in
      let g = b.few in
      omega arith;
  fine = λ p. elim (cases_eq p (length c)) [
    | inl e ↦ subst (λ (q : ℕ). Fine n q (line (c ++ ((l ++ (a ∷ [])) ∷ [])) q)) (sym e) here
    | inr e ↦ subst (Fine n p) (line_other c l (l ++ (a ∷ [])) p e) (b.fine p)
  ];
}
  where
    was : Fine n (length c) l
    was = subst (Fine n (length c)) (line_last c l) (b.fine (length c))

    here : Fine n (length c) (line (c ++ ((l ++ (a ∷ [])) ∷ [])) (length c))
    here = subst (Fine n (length c)) (sym (line_last c (l ++ (a ∷ [])))) (record {
      short = let e = length-append l (a ∷ []) in omega arith;
      acts = All-push (RightAct n (length c)) l a was.acts (i, own);
    })

longer_last : (n : ℕ) (c : Lines) (l : List Act) (a : Act) → Begun n (c ++ (l ∷ [])) → length l < 32 → InRange n a
    → a.party ≡ length c → Longer n (c ++ (l ∷ [])) a
longer_last n c l a b room i own =
    let e = lengthened_last c l a in
    record {
      begun = subst (Begun n) (sym e) (begun_longer n c l a b room i own);
      bytes = ap (lines_bytes 0) e ∙ act_more c l a;
    }

pub longer : (n : ℕ) (c : Lines) (a : Act) → Begun n c → 0 < length c → length (newest c) < 32 → InRange n a
    → a.party ≡ pred (length c) → Longer n c a
longer n c a b h room i own =
    let r : Split c = split c h in
    let e = ap (length {A = List Act}) r.whole in
    let f = length-append r.done (r.last ∷ []) in
    let g = ap (λ (d : Lines). length (newest d)) r.whole in
    let k = ap (length {A = Act}) (newest_last r.done r.last) in
    subst (λ (d : Lines). Longer n d a) r.whole
    (longer_last n r.done r.last a (subst (Begun n) (sym r.whole) b) (omega arith) i (omega arith))

-- the stage after the command at the front of `rest`, with what stands behind that command
pub record Grew (s : Stage) (rest : List ℕ) : Type 0 where
  pub sound : Sound (grown s (get_or rest 0 0) (get_or rest 1 0) (get_or rest 2 0))
  pub same : so_far (grown s (get_or rest 0 0) (get_or rest 1 0) (get_or rest 2 0)) ++ drop (1 + operands (get_or rest 0 0)) rest
      ≡ so_far s ++ rest

names_grew : (s : Stage) (x left : ℕ) (more : List ℕ) → Names s.parties x left → Grew s (67 ∷ x ∷ more)
names_grew s x left more h = record {
  sound = inr (begun_none x h.low h.high);
  same =
      ap (λ (b : List ℕ). b ++ more) (cond-false (eqb x 0) [] (67 ∷ x ∷ []) (ne_eqb x 0 (λ e. omega arith)))
      ∙ ap (λ (b : List ℕ). b ++ (67 ∷ x ∷ more))
      (sym (cond-true (eqb s.parties 0) [] (front_bytes s.parties s.lines) (eq-eqb s.parties 0 h.unnamed)));
}

-- after C a stage goes on with the bytes of the command
on_front : (s : Stage) (d : Lines) (command more : List ℕ) → 0 < s.parties → lines_bytes 0 d ≡ lines_bytes 0 s.lines ++ command
    → so_far (record { parties = s.parties; lines = d }) ++ more ≡ so_far s ++ (command ++ more)
on_front s d command more h e =
    ap (λ (b : List ℕ). b ++ more) (front-from (record { parties = s.parties; lines = d }) h)
    ∙ front_more s.parties s.lines d command more e
    ∙ ap (λ (b : List ℕ). b ++ (command ++ more)) (sym (front-from s h))

begins_grew : (s : Stage) (x left : ℕ) (more : List ℕ) → Sound s → Begins s.parties (length s.lines) x left
    → Grew s (76 ∷ x ∷ more)
begins_grew s x left more d h =
    let n : 0 < s.parties = omega arith in
    record {
      sound = inr (begun_new s.parties s.lines (begun_from s d n) h.missing);
      same = on_front s (s.lines ++ ([] ∷ [])) (76 ∷ x ∷ []) more n
          (lines_more 0 x s.lines [] (omega arith));
    }

acts_longer : (s : Stage) (b x y left : ℕ) → Sound s → Acts s.parties (length s.lines) (length (newest s.lines)) x y left
    → Longer s.parties s.lines (act_of s.lines b x y)
acts_longer s b x y left d h =
    let g : Begun s.parties s.lines = begun_from s d (omega arith) in
    longer s.parties s.lines (act_of s.lines b x y) g h.begun h.room
    (record {
      party = let few = g.few in let e : pred (length s.lines) < s.parties = omega arith in e;
      peer = h.peer;
      apart = h.apart;
      name = h.name;
    }) refl

sends_grew : (s : Stage) (x y left : ℕ) (more : List ℕ) → Sound s
    → Acts s.parties (length s.lines) (length (newest s.lines)) x y left → Grew s (83 ∷ x ∷ y ∷ more)
sends_grew s x y left more d h =
    let g = acts_longer s 83 x y left d h in
    record {
      sound = inr g.begun;
      same = on_front s (lengthened s.lines (act_of s.lines 83 x y)) (83 ∷ x ∷ y ∷ []) more (omega arith) g.bytes;
    }

receives_grew : (s : Stage) (x y left : ℕ) (more : List ℕ) → Sound s
    → Acts s.parties (length s.lines) (length (newest s.lines)) x y left → Grew s (82 ∷ x ∷ y ∷ more)
receives_grew s x y left more d h =
    let g = acts_longer s 82 x y left d h in
    record {
      sound = inr g.begun;
      same = on_front s (lengthened s.lines (act_of s.lines 82 x y)) (82 ∷ x ∷ y ∷ []) more (omega arith) g.bytes;
    }

-- the command at the front of `rest`
abbrev Due : Stage → List ℕ → Type 0
Due s rest =
    Command s.parties (length s.lines) (length (newest s.lines)) (length rest) (get_or rest 0 0) (get_or rest 1 0) (get_or rest 2 0)

due : (s : Stage) (rest : List ℕ) (size at : ℕ) → wrong s size at rest ≡ None → Due s rest
due s rest size at e =
    command s.parties (length s.lines) (length (newest s.lines)) size at (length rest)
    (get_or rest 0 0) (get_or rest 1 0) (get_or rest 2 0) e

not_ended : (b : ℕ) → b ≡ 90 → eqb b 90 ≡ false → ⊥
not_ended b e h = both_ways (eqb b 90) h (eq-eqb b 90 e)

grew_acts : (s : Stage) (b x : ℕ) (more : List ℕ) → Sound s → eqb b 90 ≡ false → Due s (b ∷ x ∷ more) → Grew s (b ∷ x ∷ more)
grew_acts s b x more d n (names e h) = subst (λ (z : ℕ). Grew s (z ∷ x ∷ more)) (sym e) (names_grew s x _ more h)
grew_acts s b x more d n (begins e h) = subst (λ (z : ℕ). Grew s (z ∷ x ∷ more)) (sym e) (begins_grew s x _ more d h)
grew_acts s b x more d n (ends e h) = absurd (not_ended b e n)
grew_acts s b x [] d n (sends e h) = absurd (let w = h.whole in omega arith)
grew_acts s b x (y ∷ more) d n (sends e h) = subst (λ (z : ℕ). Grew s (z ∷ x ∷ y ∷ more)) (sym e) (sends_grew s x y _ more d h)
grew_acts s b x [] d n (receives e h) = absurd (let w = h.whole in omega arith)
grew_acts s b x (y ∷ more) d n (receives e h) = subst (λ (z : ℕ). Grew s (z ∷ x ∷ y ∷ more)) (sym e) (receives_grew s x y _ more d h)

-- with less than two bytes only the end is right
too_few : (s : Stage) (rest : List ℕ) → length rest < 2 → eqb (get_or rest 0 0) 90 ≡ false → Due s rest → ⊥
too_few s rest f n (names e h) = let w = h.whole in omega arith
too_few s rest f n (begins e h) = let w = h.whole in omega arith
too_few s rest f n (sends e h) = let w = h.whole in omega arith
too_few s rest f n (receives e h) = let w = h.whole in omega arith
too_few s rest f n (ends e h) = not_ended (get_or rest 0 0) e n

pub grew : (s : Stage) (rest : List ℕ) (size at : ℕ) → Sound s → wrong s size at rest ≡ None → eqb (get_or rest 0 0) 90 ≡ false
    → Grew s rest
grew s [] size at d w n = absurd (too_few s [] (omega arith) n (due s [] size at w))
grew s (b ∷ []) size at d w n = absurd (too_few s (b ∷ []) (omega arith) n (due s (b ∷ []) size at w))
grew s (b ∷ x ∷ more) size at d w n = grew_acts s b x more d n (due s (b ∷ x ∷ more) size at w)

-- the lines of a stage that Z closes
pub record Closed (s : Stage) (rest : List ℕ) : Type 0 where
  pub lined : Lined s.lines
  pub same : file_of s.lines ++ drop 1 rest ≡ so_far s ++ rest

closed_by : (s : Stage) (rest : List ℕ) → get_or rest 0 0 ≡ 90 → Due s rest → Ends s.parties (length s.lines) (length rest)
closed_by s rest e (names f h) = absurd (omega arith)
closed_by s rest e (begins f h) = absurd (omega arith)
closed_by s rest e (sends f h) = absurd (omega arith)
closed_by s rest e (receives f h) = absurd (omega arith)
closed_by s rest e (ends f h) = h

ends_closed : (s : Stage) (rest : List ℕ) → Sound s → get_or rest 0 0 ≡ 90 → Ends s.parties (length s.lines) (length rest)
    → Closed s rest
ends_closed s [] d e h = absurd (let w = h.whole in omega arith)
ends_closed s (b ∷ more) d e h =
    let c : Lines = s.lines in
    let n : 0 < s.parties = h.named in
    record {
      lined = subst (λ (k : ℕ). Begun k c) (sym h.all) (begun_from s d n);
      same =
          append_assoc (front_bytes (length c) c) (90 ∷ []) more
          ∙ ap (λ (k : ℕ). front_bytes k c ++ (90 ∷ more)) h.all
          ∙ ap (λ (z : ℕ). front_bytes s.parties c ++ (z ∷ more)) (sym e)
          ∙ ap (λ (x : List ℕ). x ++ (b ∷ more)) (sym (front-from s n));
    }

pub closed : (s : Stage) (rest : List ℕ) (size at : ℕ) → Sound s → wrong s size at rest ≡ None → eqb (get_or rest 0 0) 90 ≡ true
    → Closed s rest
closed s rest size at d w z =
    let e : get_or rest 0 0 ≡ 90 = eqb-true (get_or rest 0 0) 90 z in
    ends_closed s rest d e (closed_by s rest e (due s rest size at w))
