-- A scan of a file comes through every stage that the file leads to.
use Rattle.std.proofs.Common.{◌≡◌, ℕ, zero, suc, pred, ◌+◌, ◌<◌, ◌≤◌, false, eqb, List, [], ◌∷◌, ◌++◌, length, get_or, drop, Some, None, Err, Option, Result, sym, refl, ap, ◌∙◌, subst, inl, inr, append_assoc, append-nil, arith, length-append, length-drop}
use Rattle.std.specs.List.{AllByRecursion}
use Rattle.std.proofs.lemmas.List.{get_or_at}
use Rattle.std.proofs.lemmas.Bool.{cond-false}
use Rattle.fault.specs.declared.Fault.{Fault}
use Rattle.acts.specs.declared.Act.{Act}
use Rattle.acts.specs.declared.Letter.{Letter}
use Rattle.acts.specs.declared.Letter.TheVariants.{Send, Receive}
use Rattle.acts.specs.Acts.{InRange, Lines, byte_of_letter}
use Rattle.lines.specs.Charts.{Fine, Begun, Lined, newest, lengthened}
use Rattle.lines.proofs.Sheets.{newest_last, lengthened_last}
use Rattle.files.specs.Bytes.{act_bytes, acts_bytes, lines_bytes, front_bytes, file_of}
use Rattle.files.specs.Rules.{Stage, outset, Sound, so_far, operands, wrong, grown}
use Rattle.files.specs.Reading.{ended, unless, scan, reading}
use Rattle.files.proofs.Lined.{RightAct}
use Rattle.files.proofs.Commands.{Clear, Acts, none-wrong, clear-names, clear-begins, clear-sends, clear-receives, clear_ends}
use Rattle.files.proofs.Stages.{front-from}
use Rattle.files.proofs.Scanning.{stands}

-- the answer r is what a scan from the stage s on gives, with fuel for all bytes that are left
pub record Reached (file : List ℕ) (r : Result Lines Fault) (s : Stage) (rest : List ℕ) : Type 0 where
  pub fuel : ℕ
  pub at : ℕ
  pub enough : length rest < fuel
  pub place : at + length rest ≡ length file
  pub same : r ≡ scan fuel s (length file) at rest

unless-none : (o : Option Fault) (r : Result Lines Fault) → o ≡ None → unless o r ≡ r
unless-none o r e = ap (λ (x : Option Fault). unless x r) e

unless-some : (o : Option Fault) (f : Fault) (r : Result Lines Fault) → o ≡ Some f → unless o r ≡ Err f
unless-some o f r e = ap (λ (x : Option Fault). unless x r) e

-- the fuel of a scan is never used up
record Fuelled (file : List ℕ) (r : Result Lines Fault) (s : Stage) (rest : List ℕ) : Type 0 where
  pub fuel : ℕ
  pub at : ℕ
  pub enough : length rest ≤ fuel
  pub place : at + length rest ≡ length file
  pub same : r ≡ scan (suc fuel) s (length file) at rest

fuelled : {file : List ℕ} {r : Result Lines Fault} {s : Stage} {rest : List ℕ} → Reached file r s rest → Fuelled file r s rest
fuelled {file} {r} {s} {rest} c = go c.fuel c.enough c.same
  where
    go : (k : ℕ) → length rest < k → r ≡ scan k s (length file) c.at rest → Fuelled file r s rest
    go zero h e = absurd (omega arith)
    go (suc k) h e = record { fuel = k; at = c.at; enough = omega arith; place = c.place; same = e }

-- none of the rows applies to the command at the front of `rest`
abbrev Right : Stage → List ℕ → Type 0
Right s rest =
    Clear s.parties (length s.lines) (length (newest s.lines)) (length rest) (get_or rest 0 0) (get_or rest 1 0) (get_or rest 2 0)

right_none : (s : Stage) (size at : ℕ) (rest : List ℕ) → Right s rest → wrong s size at rest ≡ None
right_none s size at rest c =
    none-wrong s.parties (length s.lines) (length (newest s.lines)) size at (length rest)
    (get_or rest 0 0) (get_or rest 1 0) (get_or rest 2 0) c

-- one command on
advance : (file : List ℕ) (r : Result Lines Fault) (s : Stage) (rest : List ℕ) → Right s rest → eqb (get_or rest 0 0) 90 ≡ false
    → Reached file r s rest
    → Reached file r (grown s (get_or rest 0 0) (get_or rest 1 0) (get_or rest 2 0)) (drop (1 + operands (get_or rest 0 0)) rest)
advance file r s rest c z k =
    let f : Fuelled file r s rest = fuelled k in
    let n : ℕ = 1 + operands (get_or rest 0 0) in
    let w : wrong s (length file) f.at rest ≡ None = right_none s (length file) f.at rest c in
    let p = stands s (length file) f.at rest w in
    let l = length-drop n rest in
    let e = f.place in
    let h = f.enough in
    record {
      fuel = f.fuel;
      at = f.at + n;
      enough = omega arith;
      place = omega arith;
      same = f.same ∙ unless-none (wrong s (length file) f.at rest) _ w ∙ cond-false (eqb (get_or rest 0 0) 90) _ _ z;
    }

module _ (file : List ℕ) (r : Result Lines Fault) where
  -- C
  after_names : (n : ℕ) (more : List ℕ) → 2 ≤ n → n ≤ 6 → Reached file r outset (67 ∷ n ∷ more)
      → Reached file r (record { parties = n; lines = [] }) more
  after_names n more h g k =
      advance file r outset (67 ∷ n ∷ more)
      (clear-names 0 0 0 (length (67 ∷ n ∷ more)) n (get_or more 0 0)
      (record { unnamed = refl; low = h; high = g; whole = omega arith }))
      refl k

  -- L
  after_begins : (n : ℕ) (c : Lines) (more : List ℕ) → length c < n
      → Reached file r (record { parties = n; lines = c }) (76 ∷ length c ∷ more)
      → Reached file r (record { parties = n; lines = c ++ ([] ∷ []) }) more
  after_begins n c more h k =
      advance file r (record { parties = n; lines = c }) (76 ∷ length c ∷ more)
      (clear-begins n (length c) (length (newest c)) (length (76 ∷ length c ∷ more)) (length c) (get_or more 0 0)
      (record { missing = h; next = refl; whole = omega arith }))
      refl k

  -- S and R
  after_letter : (n : ℕ) (c : Lines) (l : Letter) (x y : ℕ) (more : List ℕ)
      → Acts n (length c) (length (newest c)) x y (length (83 ∷ x ∷ y ∷ more))
      → Reached file r (record { parties = n; lines = c }) (byte_of_letter l ∷ x ∷ y ∷ more)
      → Reached file r (record { parties = n; lines = lengthened c (record { party = pred (length c); letter = l; peer = x; name = y }) }) more
  after_letter n c Send x y more h k =
      advance file r (record { parties = n; lines = c }) (83 ∷ x ∷ y ∷ more)
      (clear-sends n (length c) (length (newest c)) (length (83 ∷ x ∷ y ∷ more)) x y h) refl k
  after_letter n c Receive x y more h k =
      advance file r (record { parties = n; lines = c }) (82 ∷ x ∷ y ∷ more)
      (clear-receives n (length c) (length (newest c)) (length (82 ∷ x ∷ y ∷ more)) x y h) refl k

  after_act : (n : ℕ) (c : Lines) (l : List Act) (a : Act) (more : List ℕ) → length l < 32 → InRange n a → a.party ≡ length c
      → Reached file r (record { parties = n; lines = c ++ (l ∷ []) }) (act_bytes a ++ more)
      → Reached file r (record { parties = n; lines = c ++ ((l ++ (a ∷ [])) ∷ []) }) more
  after_act n c l a more room i own k =
      let d : Lines = c ++ (l ∷ []) in
      let e = length-append c (l ∷ []) in
      let f = ap (length {A = Act}) (newest_last c l) in
      let g : pred (length d) ≡ a.party = omega arith in
      let q : ◌≡◌ {A = Act} (record { party = pred (length d); letter = a.letter; peer = a.peer; name = a.name }) a =
      λ j. record { party = g j; letter = a.letter; peer = a.peer; name = a.name } in
      subst (λ (x : Lines). Reached file r (record { parties = n; lines = x }) more) (ap (lengthened d) q ∙ lengthened_last c l a)
      (after_letter n d a.letter a.peer a.name more
      (record {
        begun = omega arith;
        peer = i.peer;
        apart = λ p. i.apart (p ∙ g);
        name = i.name;
        room = omega arith;
        whole = omega arith;
      }) k)

all_middle : (P : Act → Type 0) (l : List Act) (a : Act) (m : List Act) → AllByRecursion P (l ++ (a ∷ m)) → P a
all_middle P [] a m h = h.0
all_middle P (b ∷ l) a m h = all_middle P l a m h.1

module _ (file : List ℕ) (r : Result Lines Fault) (n : ℕ) where
  abbrev At : Lines → List ℕ → Type 0
  At c more = Reached file r (record { parties = n; lines = c }) more

  -- over the acts that are left of the last line
  over_acts : (c : Lines) (todo done : List Act) (more : List ℕ) → Fine n (length c) (done ++ todo)
      → At (c ++ (done ∷ [])) (acts_bytes todo ++ more) → At (c ++ ((done ++ todo) ∷ [])) more
  over_acts c [] done more h k = subst (λ (l : List Act). At (c ++ (l ∷ [])) more) (sym (append-nil done)) k
  over_acts c (a ∷ todo) done more h k =
      let assoc : (done ++ (a ∷ [])) ++ todo ≡ done ++ (a ∷ todo) = append_assoc done (a ∷ []) todo in
      let i : RightAct n (length c) a = all_middle (RightAct n (length c)) done a todo h.acts in
      let e = length-append done (a ∷ todo) in
      let s = h.short in
      subst (λ (l : List Act). At (c ++ (l ∷ [])) more) assoc
      (over_acts c todo (done ++ (a ∷ [])) more (subst (Fine n (length c)) (sym assoc) h)
      (after_act file r n c done a (acts_bytes todo ++ more) (omega arith) i.0 i.1 k))

  -- over the lines that are left
  over_lines : (todo done : Lines) (more : List ℕ) → Begun n (done ++ todo)
      → At done (lines_bytes (length done) todo ++ more) → At (done ++ todo) more
  over_lines [] done more b k = subst (λ (c : Lines). At c more) (sym (append-nil done)) k
  over_lines (l ∷ todo) done more b k =
      let assoc : (done ++ (l ∷ [])) ++ todo ≡ done ++ (l ∷ todo) = append_assoc done (l ∷ []) todo in
      let fine : Fine n (length done) l = subst (Fine n (length done)) (get_or_at done l todo [] (length done) refl) (b.fine (length done)) in
      let e = length-append done (l ∷ todo) in
      let f = b.few in
      let g = length-append done (l ∷ []) in
      let next : suc (length done) ≡ length (done ++ (l ∷ [])) = omega arith in
      let begun : At (done ++ ([] ∷ [])) ((acts_bytes l ++ lines_bytes (suc (length done)) todo) ++ more) =
      after_begins file r n done ((acts_bytes l ++ lines_bytes (suc (length done)) todo) ++ more) (omega arith) k in
      let acts : At (done ++ (l ∷ [])) (lines_bytes (suc (length done)) todo ++ more) =
      over_acts done l [] (lines_bytes (suc (length done)) todo ++ more) fine
      (subst (At (done ++ ([] ∷ []))) (append_assoc (acts_bytes l) (lines_bytes (suc (length done)) todo) more) begun) in
      subst (λ (c : Lines). At c more) assoc
      (over_lines todo (done ++ (l ∷ [])) more (subst (Begun n) (sym assoc) b)
      (subst (λ (p : ℕ). At (done ++ (l ∷ [])) (lines_bytes p todo ++ more)) next acts))

-- a scan begins at the outset
start : (file : List ℕ) → Reached file (reading file) outset file
start file = record { fuel = suc (length file); at = 0; enough = omega arith; place = omega arith; same = refl }

reached_from : (file : List ℕ) (r : Result Lines Fault) (s : Stage) (rest : List ℕ) → Sound s → so_far s ++ rest ≡ file
    → Reached file r outset file → Reached file r s rest
reached_from file r s rest (inl e) w k =
    let q : outset ≡ s = λ i. record { parties = sym e.0 i; lines = sym e.1 i } in
    let v : rest ≡ file = ap (λ (t : Stage). so_far t ++ rest) q ∙ w in
    subst (λ (t : Stage). Reached file r t rest) q (subst (Reached file r outset) (sym v) k)
reached_from file r s rest (inr b) w k =
    let l = b.low in
    let v : front_bytes s.parties s.lines ++ rest ≡ file = ap (λ (x : List ℕ). x ++ rest) (sym (front-from s (omega arith))) ∙ w in
    over_lines file r s.parties s.lines [] rest b
    (after_names file r s.parties (lines_bytes 0 s.lines ++ rest) b.low b.high (subst (Reached file r outset) (sym v) k))

pub reached : (file : List ℕ) (s : Stage) (rest : List ℕ) → Sound s → so_far s ++ rest ≡ file → Reached file (reading file) s rest
reached file s rest d w = reached_from file (reading file) s rest d w (start file)

-- the answer at a stage where something is wrong
stopped : (file : List ℕ) (r : Result Lines Fault) (s : Stage) (rest : List ℕ) (f : Fault) → so_far s ++ rest ≡ file
    → wrong s (length file) (length (so_far s)) rest ≡ Some f → Reached file r s rest → r ≡ Err f
stopped file r s rest f w e k =
    let u : Fuelled file r s rest = fuelled k in
    let l₁ = ap (length {A = ℕ}) w in
    let l₂ = length-append (so_far s) rest in
    let p = u.place in
    let q : length (so_far s) ≡ u.at = omega arith in
    u.same ∙ unless-some (wrong s (length file) u.at rest) f _ (subst (λ (a : ℕ). wrong s (length file) a rest ≡ Some f) q e)

pub reading_stops : (file : List ℕ) (s : Stage) (rest : List ℕ) (f : Fault) → Sound s → so_far s ++ rest ≡ file
    → wrong s (length file) (length (so_far s)) rest ≡ Some f → reading file ≡ Err f
reading_stops file s rest f d w e = stopped file (reading file) s rest f w e (reached file s rest d w)

-- the answer behind Z
at_end : (file : List ℕ) (r : Result Lines Fault) (c : Lines) (rest : List ℕ) → Lined c → file_of c ++ rest ≡ file
    → Reached file r (record { parties = length c; lines = c }) (90 ∷ rest) → r ≡ ended c (length (file_of c)) rest
at_end file r c rest d w k =
    let s : Stage = record { parties = length c; lines = c } in
    let u : Fuelled file r s (90 ∷ rest) = fuelled k in
    let h = d.low in
    let l₁ = ap (length {A = ℕ}) w in
    let l₂ = length-append (file_of c) rest in
    let p = u.place in
    let q : u.at + 1 ≡ length (file_of c) = omega arith in
    let v = right_none s (length file) u.at (90 ∷ rest)
    (clear_ends (length c) (length c) (length (newest c)) (length (90 ∷ rest)) (get_or rest 0 0) (get_or rest 1 0)
    (record { named = omega arith; all = refl; whole = omega arith })) in
    u.same ∙ unless-none (wrong s (length file) u.at (90 ∷ rest)) _ v ∙ ap (λ (a : ℕ). ended c a rest) q

pub reading_ends : (file : List ℕ) (c : Lines) (rest : List ℕ) → Lined c → file_of c ++ rest ≡ file
    → reading file ≡ ended c (length (file_of c)) rest
reading_ends file c rest d w =
    let s : Stage = record { parties = length c; lines = c } in
    let h = d.low in
    let v : so_far s ++ (90 ∷ rest) ≡ file =
    ap (λ (x : List ℕ). x ++ (90 ∷ rest)) (front-from s (omega arith))
    ∙ sym (append_assoc (front_bytes (length c) c) (90 ∷ []) rest)
    ∙ w in
    at_end file (reading file) c rest d w (reached file s (90 ∷ rest) (inr d) v)
