-- How far a file has been read: the stage, and the place behind its commands.
use Rattle.std.proofs.Common.{◌≡◌, ℕ, ◌+◌, ◌<◌, ◌≤◌, Bool, true, false, cond, eqb, List, [], ◌∷◌, ◌++◌, length, get_or, drop, Some, None, Ok, Err, Result, MatchResult, is_some, sym, refl, ap, ◌∙◌, subst, inl, append-nil, arith, length-append}
use Rattle.std.specs.List.{AllByRecursion}
use Rattle.std.proofs.lemmas.List.{drop-drop, length-drop, drop_all, drop_more}
use Rattle.std.proofs.lemmas.Result.{MatchResult-weaker}
use Rattle.std.proofs.lemmas.Bool.{eqb-true, ltb-false, false≢true}
use Rattle.std.specs.ControlFlow.{continue_value}
use Rattle.std.specs.declared.ops.ControlFlow.{ControlFlow}
use Rattle.std.specs.declared.ops.ControlFlow.TheVariants.{Continue, Break}
use Rattle.fault.specs.declared.Fault.{Fault}
use Rattle.fault.specs.declared.FileCause.TheVariants.{GoesOn}
use Rattle.lines.specs.Charts.{Lined, newest}
use Rattle.files.specs.Bytes.{front_bytes, file_of}
use Rattle.files.specs.Rules.{Stage, Sound, so_far, Row, first, rows, wrong, operands, grown}
use Rattle.files.specs.Answers.{BadFile, stops, goes_on, file_fault}
use Rattle.files.proofs.Stages.{Grew, grew, Closed, closed}
use Rattle.chart.specs.declared.reader.Reader.{Reader}
use Rattle.chart.specs.Steps.{stage_at, file_at, place_at, letter_at, wrong_as, flow_of, Took, Taken, Read}

pub record Reached (s : Stage) (file : List ℕ) (at : ℕ) : Type 0 where
  pub sound : Sound s
  pub whole : so_far s ++ drop at file ≡ file
  pub within : at ≤ length file

pub begun : (s : Stage) (file : List ℕ) → s.parties ≡ 0 → s.lines ≡ [] → Reached s file 0
begun s file n c = record {
  sound = inl (n, c);
  whole = ap (λ (b : Bool). cond b [] (front_bytes s.parties s.lines) ++ file) (ap (λ (k : ℕ). eqb k 0) n);
  within = omega arith;
}

-- where no row answers, none applies
all_off : (rs : List Row) → first rs ≡ None → AllByRecursion (λ r. r.when ≡ false) rs
all_off [] e = tt
all_off (r ∷ rs) e = go r.when refl e (all_off rs)
  where
    go : (b : Bool) → r.when ≡ b → cond b (Some r.fault) (first rs) ≡ None → (first rs ≡ None → AllByRecursion (λ r. r.when ≡ false) rs)
        → AllByRecursion (λ r. r.when ≡ false) (r ∷ rs)
    go true h k f = let z : ◌≡◌ {A = ℕ} 0 1 = cc in absurd (omega arith)
    go false h k f = (h, f k)

-- a right command has all its bytes
pub enough : (b : ℕ) (s : Stage) (file : List ℕ) (at : ℕ) → at ≤ length file → wrong_as b s file at ≡ None → at + (1 + operands b) ≤ length file
enough b s file at h e =
    let off = all_off (rows s.parties (length s.lines) (length (newest s.lines)) (length file) at (length (drop at file))
    b (get_or (drop at file) 1 0) (get_or (drop at file) 2 0)) e in
    let k : 1 + operands b ≤ length (drop at file) = ltb-false (length (drop at file)) (1 + operands b) off.1.1.0 in
    let d = length-drop at file in
    omega arith

pub reached_place : (s : Stage) (file : List ℕ) (at : ℕ) → Reached s file at → length (so_far s) ≡ at
reached_place s file at r =
    let e = ap length r.whole in
    let f = length-append (so_far s) (drop at file) in
    let g = length-drop at file in
    let h = r.within in
    omega arith

-- only Z breaks off
flow_at : (b : Bool) (f : ControlFlow Unit Unit) → f ≡ cond b (Break tt) (Continue tt) → (f ≡ Break tt → b ≡ true) × (f ≡ Continue tt → b ≡ false)
flow_at true f e = (λ _. refl, λ g. cc)
flow_at false f e = (λ g. cc, λ _. refl)

goes_on_at : (b : ℕ) → Continue tt ≡ flow_of b → eqb b 90 ≡ false
goes_on_at b e = (flow_at (eqb b 90) (Continue tt) e).1 refl

breaks_at : (b : ℕ) → Break tt ≡ flow_of b → eqb b 90 ≡ true
breaks_at b e = (flow_at (eqb b 90) (Break tt) e).0 refl

module _ (s t : Stage) (file : List ℕ) (at to : ℕ) (r : Reached s file at) where
  abbrev b : ℕ
  b = get_or (drop at file) 0 0

  pub onward : Took b s file at (Continue tt) t to → Reached t file to
  onward k =
      let u : Stage = grown s b (get_or (drop at file) 1 0) (get_or (drop at file) 2 0) in
      let g : Grew s (drop at file) = grew s (drop at file) (length file) at r.sound k.right (goes_on_at b k.ended) in
      record {
        sound = subst Sound (sym k.stage) g.sound;
        whole =
            ap (λ (x : Stage). so_far x ++ drop to file) k.stage
            ∙ ap (λ (n : ℕ). so_far u ++ drop n file) k.place
            ∙ ap (λ (l : List ℕ). so_far u ++ l) (sym (drop-drop (1 + operands b) at file))
            ∙ g.same
            ∙ r.whole;
        within = subst (λ (n : ℕ). n ≤ length file) (sym k.place) (enough b s file at r.within k.right);
      }

  pub refused : (f : Fault) → wrong_as b s file at ≡ Some f → BadFile file f
  refused f e = stops (record {
    stage = s;
    sound = r.sound;
    rest = drop at file;
    whole = r.whole;
    wrongly = ap (λ (n : ℕ). wrong s (length file) n (drop at file)) (reached_place s file at r) ∙ e;
  })

  -- behind the last command
  pub record AtEnd : Type 0 where
    pub lined : Lined t.lines
    pub whole : file_of t.lines ++ drop to file ≡ file
    pub within : to ≤ length file

  pub last : Took b s file at (Break tt) t to → AtEnd
  last k =
      let y : eqb b 90 ≡ true = breaks_at b k.ended in
      let z : b ≡ 90 = eqb-true b 90 y in
      let c : Closed s (drop at file) = closed s (drop at file) (length file) at r.sound k.right y in
      let same : t ≡ s = k.stage ∙ ap (λ (n : ℕ). grown s n (get_or (drop at file) 1 0) (get_or (drop at file) 2 0)) z in
      let by : to ≡ at + 1 = k.place ∙ ap (λ (n : ℕ). at + (1 + operands n)) z in
      record {
        lined = subst (λ (x : Stage). Lined x.lines) (sym same) c.lined;
        whole =
            ap (λ (x : Stage). file_of x.lines ++ drop to file) same
            ∙ ap (λ (n : ℕ). file_of s.lines ++ drop n file) by
            ∙ ap (λ (l : List ℕ). file_of s.lines ++ l) (sym (drop-drop 1 at file))
            ∙ c.same
            ∙ r.whole;
        within = subst (λ (n : ℕ). n ≤ length file) (sym k.place) (enough b s file at r.within k.right);
      }

  pub complete : AtEnd → to ≡ length file → file_of t.lines ≡ file
  complete k e =
      sym (append-nil (file_of t.lines))
      ∙ ap (λ (l : List ℕ). file_of t.lines ++ l) (sym (drop_all to file (omega arith)))
      ∙ k.whole

  pub more_follows : AtEnd → (f : Fault) → to < length file → f ≡ file_fault GoesOn to → BadFile file f
  more_follows k f h e =
      let size : length (file_of t.lines) ≡ to =
      (let e₁ = ap length k.whole in let e₂ = length-append (file_of t.lines) (drop to file) in let e₃ = length-drop to file in omega arith) in
      goes_on (record {
        lines = t.lines;
        lined = k.lined;
        more = get_or file to 0;
        rest = drop (to + 1) file;
        whole = ap (λ (l : List ℕ). file_of t.lines ++ l) (sym (drop_more file to 0 h)) ∙ k.whole;
        fault = e ∙ ap (file_fault GoesOn) (sym size);
      })

-- a reader that began as `a` has come as far as r
pub record Came (a r : Reader) : Type 0 where
  pub reached : Reached (stage_at r) (file_at a) (place_at r)
  pub file : file_at r ≡ file_at a
  pub sheet : r.sheet.ghost_name ≡ a.sheet.ghost_name

-- what the flow of a command says
continues : (f : ControlFlow Unit Unit) → is_some (continue_value f) ≡ true → f ≡ Continue tt
continues (Continue u) e = refl
continues (Break u) e = absurd (false≢true e)

breaks : (f : ControlFlow Unit Unit) → is_some (continue_value f) ≡ false → f ≡ Break tt
breaks (Continue u) e = absurd (false≢true (sym e))
breaks (Break u) e = refl

module _ (a r t : Reader) (k : Came a r) where
  -- the same command, read off the file that the reader began with
  took : (flow to : ControlFlow Unit Unit) → flow ≡ to → Taken (letter_at r) r (Ok flow) t
      → Took (get_or (drop (place_at r) (file_at a)) 0 0) (stage_at r) (file_at a) (place_at r) to (stage_at t) (place_at t)
  took flow to e q =
      subst (λ (x : List ℕ). Took (get_or (drop (place_at r) x) 0 0) (stage_at r) x (place_at r) to (stage_at t) (place_at t)) k.file
      (subst (λ (x : ControlFlow Unit Unit). Took (letter_at r) (stage_at r) (file_at r) (place_at r) x (stage_at t) (place_at t)) e q.verdict)

  pub command_more : (flow : ControlFlow Unit Unit) → is_some (continue_value flow) ≡ true → Taken (letter_at r) r (Ok flow) t → Came a t
  command_more flow e q = record {
    reached = onward (stage_at r) (stage_at t) (file_at a) (place_at r) (place_at t) k.reached (took flow (Continue tt) (continues flow e) q);
    file = q.file ∙ k.file;
    sheet = q.sheet ∙ k.sheet;
  }

  pub command_wrong : (f : Fault) → Taken (letter_at r) r (Err f) t → Read a (Err f) t
  command_wrong f q = record {
    verdict = refused (stage_at r) (stage_at t) (file_at a) (place_at r) (place_at t) k.reached f
        (subst (λ (x : List ℕ). wrong_as (get_or (drop (place_at r) x) 0 0) (stage_at r) x (place_at r) ≡ Some f) k.file q.verdict);
    sheet = q.sheet ∙ k.sheet;
  }

  pub command_last : (flow : ControlFlow Unit Unit) (answer : Result Unit Fault) → is_some (continue_value flow) ≡ false
      → Taken (letter_at r) r (Ok flow) t
      → MatchResult answer (λ _. place_at t ≡ length (file_at t)) (λ f. (place_at t < length (file_at t)) × (f ≡ file_fault GoesOn (place_at t)))
      → Read a answer t
  command_last flow answer e q h =
      let same : file_at t ≡ file_at a = q.file ∙ k.file in
      let E = last (stage_at r) (stage_at t) (file_at a) (place_at r) (place_at t) k.reached (took flow (Break tt) (breaks flow e) q) in
      record {
        verdict = MatchResult-weaker answer h
            (λ _ g. (E.lined, complete (stage_at r) (stage_at t) (file_at a) (place_at r) (place_at t) k.reached E (g ∙ ap length same)))
            (λ f g. more_follows (stage_at r) (stage_at t) (file_at a) (place_at r) (place_at t) k.reached E f
            (subst (λ (x : List ℕ). place_at t < length x) same g.0) g.1);
        sheet = q.sheet ∙ k.sheet;
      }
