-- What `scan` answers is right.
use Rattle.std.proofs.Common.{◌≡◌, ℕ, zero, suc, ◌+◌, ◌<◌, ◌≤◌, Bool, true, false, cond, eqb, List, [], ◌∷◌, ◌++◌, length, get_or, drop, Some, None, Option, Result, sym, refl, ap, ◌∙◌, subst, inl, append-nil, arith, length-append, length-drop}
use Rattle.std.proofs.lemmas.Bool.{ltb-false}
use Rattle.fault.specs.declared.Fault.{Fault}
use Rattle.fault.specs.declared.FileCause.TheVariants.{GoesOn}
use Rattle.acts.specs.Acts.{Lines}
use Rattle.lines.specs.Charts.{Lined, newest}
use Rattle.files.specs.Bytes.{file_of}
use Rattle.files.specs.Rules.{Stage, outset, Sound, so_far, operands, wrong, grown}
use Rattle.files.specs.Answers.{file_fault, stops, goes_on, Refused, bad_file, Answers}
use Rattle.files.specs.Reading.{ended, unless, scan, reading}
use Rattle.files.proofs.Commands.{clear}
use Rattle.files.proofs.Stages.{Grew, grew, Closed, closed}
use Rattle.files.proofs.Judging.{judged_right}

-- a command with which nothing is wrong stands there whole
pub stands : (s : Stage) (size at : ℕ) (rest : List ℕ) → wrong s size at rest ≡ None → 1 + operands (get_or rest 0 0) ≤ length rest
stands s size at rest w =
    ltb-false (length rest) (1 + operands (get_or rest 0 0))
    (clear s.parties (length s.lines) (length (newest s.lines)) size at (length rest)
    (get_or rest 0 0) (get_or rest 1 0) (get_or rest 2 0) w).whole

ended_right : (file : List ℕ) (c : Lines) (at : ℕ) (rest : List ℕ) → Lined c → file_of c ++ rest ≡ file → at ≡ length (file_of c)
    → Answers file (ended c at rest)
ended_right file c at [] d w e = judged_right file c d (sym (append-nil (file_of c)) ∙ w)
ended_right file c at (b ∷ rest) d w e = bad_file (goes_on (record {
  lines = c;
  lined = d;
  more = b;
  rest = rest;
  whole = w;
  fault = ap (file_fault GoesOn) e;
}))

-- one step: something is wrong, or Z ends the file, or the file goes on
step_right : (file : List ℕ) (o : Option Fault) (z : Bool) (r q : Result Lines Fault) → ((f : Fault) → o ≡ Some f → Refused file f)
    → (o ≡ None → z ≡ true → Answers file r) → (o ≡ None → z ≡ false → Answers file q) → Answers file (unless o (cond z r q))
step_right file (Some f) z r q bad end on = bad f refl
step_right file None true r q bad end on = end refl refl
step_right file None false r q bad end on = on refl refl

-- by induction on the fuel, of which there is more than bytes are left
scan_right : (k : ℕ) (file : List ℕ) (s : Stage) (at : ℕ) (rest : List ℕ) → Sound s → so_far s ++ rest ≡ file
    → at ≡ length (so_far s) → length rest < k → Answers file (scan k s (length file) at rest)
scan_right zero file s at rest d w e h = absurd (omega arith)
scan_right (suc k) file s at rest d w e h =
    step_right file (wrong s (length file) at rest) (eqb (get_or rest 0 0) 90) _ _
    (λ f v. bad_file (stops (record {
      stage = s;
      sound = d;
      rest = rest;
      whole = w;
      wrongly = subst (λ (a : ℕ). wrong s (length file) a rest ≡ Some f) e v;
    })))
    (λ v z.
    let g : Closed s rest = closed s rest (length file) at d v z in
    let p = stands s (length file) at rest v in
    let l₁ = ap (length {A = ℕ}) g.same in
    let l₂ = length-append (file_of s.lines) (drop 1 rest) in
    let l₃ = length-append (so_far s) rest in
    let l₄ = length-drop 1 rest in
    ended_right file s.lines (at + 1) (drop 1 rest) g.lined (g.same ∙ w) (omega arith))
    (λ v z.
    let n : ℕ = 1 + operands (get_or rest 0 0) in
    let t : Stage = grown s (get_or rest 0 0) (get_or rest 1 0) (get_or rest 2 0) in
    let g : Grew s rest = grew s rest (length file) at d v z in
    let p = stands s (length file) at rest v in
    let l₁ = ap (length {A = ℕ}) g.same in
    let l₂ = length-append (so_far t) (drop n rest) in
    let l₃ = length-append (so_far s) rest in
    let l₄ = length-drop n rest in
    scan_right k file t (at + n) (drop n rest) g.sound (g.same ∙ w) (omega arith) (omega arith))

pub reading_right : (file : List ℕ) → Answers file (reading file)
reading_right file = scan_right (suc (length file)) file outset 0 file (inl (refl, refl)) refl refl (omega arith)
