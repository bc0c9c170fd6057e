-- One command of a session: it is cut short, unknown, or done.
use Rattle.std.proofs.Common.{◌≡◌, ℕ, zero, suc, ◌+◌, ◌*◌, ◌<◌, ◌≤◌, Bool, true, false, eqb, ltb, List, [], ◌++◌, length, get_or, take, drop, Result, sym, refl, ap, ◌∙◌, subst, append-nil, arith}
use Rattle.std.proofs.lemmas.List.{length-drop, drop-drop}
use Rattle.std.proofs.lemmas.Bool.{cond-true, cond-false, lt-ltb, le-ltb, eq-eqb, ne_eqb}
use Rattle.fault.specs.declared.Fault.{Fault}
use Rattle.acts.specs.declared.Act.{Act}
use Rattle.files.specs.Reading.{reading}
use Rattle.book.specs.History.{withdraw, Answer, History, then, held}
use Rattle.book.specs.Right.{Right}
use Rattle.answering.specs.Answering.{answered}
use Rattle.answering.proofs.Only.{only_withdraw}
use Rattle.book.specs.Past.{Past}
use Rattle.session.specs.Lines.{answer_text}
use Rattle.session.specs.Sessions.{adds, called, cut_at, unknown_at, file_length, transcript}
use Rattle.session.specs.Course.{Course}
use Rattle.session.specs.Stepping.{Added, Stops, left, Stepped}

-- at the end of the bytes nothing follows
pub nothing_left : (k : ℕ) (G : List Act → Bool) (h : History) (session : List ℕ) (place : ℕ) → length session ≤ place → left k G h session place ≡ []
nothing_left zero G h session place e = refl
nothing_left (suc k) G h session place e =
    cond-true (eqb (length (drop place session)) 0) _ _ (eq-eqb (length (drop place session)) 0 (let d = length-drop place session in omega arith))

module _ (G : List Act → Bool) (h : History) (was is : Course) (within : was.place < length was.session) where
  abbrev rest : List ℕ
  rest = drop was.place was.session

  some : eqb (length rest) 0 ≡ false
  some = ne_eqb (length rest) 0 (λ z. let e = length-drop was.place was.session in absurd (omega arith))

  -- the session stops here
  pub stops : (line : List ℕ) → Past G h was.book → Stops was line is → ((k : ℕ) → left (suc k) G h was.session was.place ≡ line) → Stepped G h was is
  stops line P s e = record {
    line = line;
    past = h;
    session = s.session;
    text = s.text;
    kept = subst (Past G h) (sym s.book) P;
    onward = let p = s.place in omega arith;
    within = let p = s.place in omega arith;
    rest = λ k. e k ∙ sym (append-nil line) ∙ ap (λ (l : List ℕ). line ++ l) (sym (nothing_left k G h was.session is.place (let p = s.place in omega arith)));
  }

  module _ (A : get_or rest 0 0 ≡ 65) where
    letter_a : eqb (get_or rest 0 0) 65 ≡ true
    letter_a = eq-eqb (get_or rest 0 0) 65 A

    -- A without its operands, or without all bytes of its file
    pub cut_a : length rest < 4 → (k : ℕ) → left (suc k) G h was.session was.place ≡ cut_at (length was.session)
    cut_a c k =
        cond-false (eqb (length rest) 0) _ _ some
        ∙ cond-true (eqb (get_or rest 0 0) 65) _ _ letter_a
        ∙ cond-true (ltb (length rest) 4) _ _ (lt-ltb (length rest) 4 c)

    pub cut_file : 4 ≤ length rest → length rest < 4 + file_length rest → (k : ℕ)
        → left (suc k) G h was.session was.place ≡ cut_at (length was.session)
    cut_file l c k =
        cond-false (eqb (length rest) 0) _ _ some
        ∙ cond-true (eqb (get_or rest 0 0) 65) _ _ letter_a
        ∙ cond-false (ltb (length rest) 4) _ _ (le-ltb (length rest) 4 l)
        ∙ cond-true (ltb (length rest) (4 + file_length rest)) _ _ (lt-ltb (length rest) (4 + file_length rest) c)

    pub added_on : (file : List ℕ) (r : Result ℕ Fault) → is.session ≡ was.session → 4 + file_length rest ≤ length rest
        → file ≡ take (file_length rest) (drop 4 rest) → is.place ≡ was.place + (4 + file_length rest) → Added G h (get_or rest 1 0) file r is.book
        → is.text ≡ was.text ++ answer_text 65 r → Stepped G h was is
    added_on file r same l f e D x =
        let o = adds G h (get_or rest 1 0) (reading file) in
        let d = length-drop was.place was.session in
        record {
          line = o.line;
          past = o.past;
          session = same;
          text = x ∙ ap (λ (y : List ℕ). was.text ++ y) D.line;
          kept = D.past;
          onward = omega arith;
          within = omega arith;
          rest = λ k.
              cond-false (eqb (length rest) 0) _ _ some
              ∙ cond-true (eqb (get_or rest 0 0) 65) _ _ letter_a
              ∙ cond-false (ltb (length rest) 4) _ _ (le-ltb (length rest) 4 (omega arith))
              ∙ cond-false (ltb (length rest) (4 + file_length rest)) _ _ (le-ltb (length rest) (4 + file_length rest) l)
              ∙ ap (λ (y : List ℕ). (adds G h (get_or rest 1 0) (reading y)).line
              ++ transcript k G (adds G h (get_or rest 1 0) (reading y)).past (length was.session) (was.place + (4 + file_length rest)) (drop (4 + file_length rest) rest)) (sym f)
              ∙ ap (λ (y : List ℕ). o.line ++ transcript k G o.past (length was.session) (was.place + (4 + file_length rest)) y) (drop-drop (4 + file_length rest) was.place was.session)
              ∙ ap (λ (y : ℕ). o.line ++ transcript k G o.past (length was.session) y (drop y was.session)) (sym e);
        }

    -- the same, as the code has it: r is what stands there, and len the length that its operands spell
    module _ (r : List ℕ) (er : r ≡ rest) where
      pub cut_operands : length r < 4 → (k : ℕ) → left (suc k) G h was.session was.place ≡ cut_at (length was.session)
      cut_operands c = cut_a (subst (λ (y : List ℕ). length y < 4) er c)

      module _ (some_operands : 4 ≤ length r) (len : ℕ) (el : len ≡ get_or r 2 0 * 256 + get_or r 3 0) where
        spelled : len ≡ file_length rest
        spelled = el ∙ ap file_length er

        pub cut_bytes : length (drop 4 r) < len → (k : ℕ) → left (suc k) G h was.session was.place ≡ cut_at (length was.session)
        cut_bytes c =
            let e = ap length er in
            let f = spelled in
            let d = length-drop 4 r in
            cut_file (omega arith) (omega arith)

        pub adding_on : (file : List ℕ) (a : Result ℕ Fault) → len ≤ length (drop 4 r) → file ≡ take len (drop 4 r)
            → Added G h (get_or r 1 0) file a is.book → is.session ≡ was.session → is.place ≡ was.place + (4 + len) → is.text ≡ was.text ++ answer_text 65 a
            → Stepped G h was is
        adding_on file a l f D same to x =
            let e = ap length er in
            let s = spelled in
            let d = length-drop 4 r in
            added_on file a same (omega arith) (f ∙ ap (λ (y : List ℕ). take len (drop 4 y)) er ∙ ap (λ (y : ℕ). take y (drop 4 rest)) s)
            (omega arith) (subst (λ (y : List ℕ). Added G h (get_or y 1 0) file a is.book) er D) x

  module _ (B : get_or rest 0 0 ≡ 87) where
    letter_w : (eqb (get_or rest 0 0) 65 ≡ false) × (eqb (get_or rest 0 0) 87 ≡ true)
    letter_w = (ne_eqb (get_or rest 0 0) 65 (λ e. absurd (omega arith)), eq-eqb (get_or rest 0 0) 87 B)

    -- W without its operand
    pub cut_w : length rest < 2 → (k : ℕ) → left (suc k) G h was.session was.place ≡ cut_at (length was.session)
    cut_w c k =
        cond-false (eqb (length rest) 0) _ _ some
        ∙ cond-false (eqb (get_or rest 0 0) 65) _ _ letter_w.0
        ∙ cond-true (eqb (get_or rest 0 0) 87) _ _ letter_w.1
        ∙ cond-true (ltb (length rest) 2) _ _ (lt-ltb (length rest) 2 c)

    -- the same, as the code has it: r is what stands there
    pub cut_short_w : (r : List ℕ) → r ≡ rest → length r < 2 → (k : ℕ) → left (suc k) G h was.session was.place ≡ cut_at (length was.session)
    cut_short_w r er c = cut_w (subst (λ (y : List ℕ). length y < 2) er c)

    pub withdrawn_on : (r : List ℕ) → r ≡ rest → (a : Answer) → 2 ≤ length r → Right G h (withdraw (get_or r 1 0)) a
        → Past G (then h (withdraw (get_or r 1 0)) a) is.book → is.session ≡ was.session → is.place ≡ was.place + 2 → is.text ≡ was.text ++ answer_text 87 a
        → Stepped G h was is
    withdrawn_on r er a l R P same to x =
        let id = get_or r 1 0 in
        let id' : id ≡ get_or rest 1 0 = ap (λ (y : List ℕ). get_or y 1 0) er in
        let e : a ≡ answered G (held h) (withdraw id) = only_withdraw G h id a R in
        let o = called G 87 h (withdraw id) in
        let s = ap length er in
        let d = length-drop was.place was.session in
        record {
          line = o.line;
          past = o.past;
          session = same;
          text = x ∙ ap (λ (y : Answer). was.text ++ answer_text 87 y) e;
          kept = subst (λ (y : Answer). Past G (then h (withdraw id) y) is.book) e P;
          onward = omega arith;
          within = omega arith;
          rest = λ k.
              cond-false (eqb (length rest) 0) _ _ some
              ∙ cond-false (eqb (get_or rest 0 0) 65) _ _ letter_w.0
              ∙ cond-true (eqb (get_or rest 0 0) 87) _ _ letter_w.1
              ∙ cond-false (ltb (length rest) 2) _ _ (le-ltb (length rest) 2 (omega arith))
              ∙ ap (λ (y : ℕ). (called G 87 h (withdraw y)).line ++ transcript k G (called G 87 h (withdraw y)).past (length was.session) (was.place + 2) (drop 2 rest)) (sym id')
              ∙ ap (λ (y : List ℕ). o.line ++ transcript k G o.past (length was.session) (was.place + 2) y) (drop-drop 2 was.place was.session)
              ∙ ap (λ (y : ℕ). o.line ++ transcript k G o.past (length was.session) y (drop y was.session)) (sym to);
        }

  -- no command has this letter
  pub unknown : (r : List ℕ) → r ≡ rest → (get_or r 0 0 ≡ 65 → ⊥) → (get_or r 0 0 ≡ 87 → ⊥) → (k : ℕ)
      → left (suc k) G h was.session was.place ≡ unknown_at was.place
  unknown r er a w k =
      let e = ap (λ (y : List ℕ). get_or y 0 0) er in
      cond-false (eqb (length rest) 0) _ _ some
      ∙ cond-false (eqb (get_or rest 0 0) 65) _ _ (ne_eqb (get_or rest 0 0) 65 (λ x. a (e ∙ x)))
      ∙ cond-false (eqb (get_or rest 0 0) 87) _ _ (ne_eqb (get_or rest 0 0) 87 (λ x. w (e ∙ x)))
