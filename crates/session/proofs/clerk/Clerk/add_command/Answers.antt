use Rattle.std.proofs.Common.{◌≡◌, ℕ, ◌+◌, ◌-◌, ◌*◌, ◌<◌, ◌≤◌, List, length, get_or, take, drop, refl, ap, ◌∙◌, arith, rules}
use Rattle.std.proofs.lemmas.List.{take_rest}
use Rattle.std.proofs.lemmas.Result.{IfOk-weaker}
use Rattle.session.specs.Course.{course}
use Rattle.session.specs.Sessions.{cut_at}
use Rattle.session.proofs.Stepping.{stops, cut_operands, cut_bytes, adding_on}
use Rattle.session.proofs.clerk.Clerk.add_command.Goals as goal

pub returns-in_default : goal.returns-in_default
returns-in_default g c =
    let was = course c.args.self.now in
    let is = course c.stop.new.self in
    let r : List ℕ = c.rest.result.now in
    IfOk-weaker c.stop.result _ _
    (λ u e G h P. stops G h was is c.requires.within (cut_at (length was.session)) P e
    (cut_operands G h was is c.requires.within c.requires.letter r c.rest.ensures.value c.in_default.len_below)) c.stop.ensures

pub returns-in_default-get : goal.returns-in_default-get
returns-in_default-get g c =
    let was = course c.args.self.now in
    let is = course c.stop-in_default-get.new.self in
    let r : List ℕ = c.rest.result.now in
    let el : c.from-length.result ≡ get_or r 2 0 * 256 + get_or r 3 0 = search rules in
    let few : length (drop 4 r) < c.from-length.result = search rules in
    IfOk-weaker c.stop-in_default-get.result _ _
    (λ u e G h P. stops G h was is c.requires.within (cut_at (length was.session)) P e
    (cut_bytes G h was is c.requires.within c.requires.letter r c.rest.ensures.value c.in-len4-up.len_at_least c.from-length.result el few)) c.stop-in_default-get.ensures

pub returns : goal.returns
returns g c = λ G h P.
    let r : List ℕ = c.rest.result.now in
    let el : c.from-length.result ≡ get_or r 2 0 * 256 + get_or r 3 0 = search rules in
    let n = c.from-length.result in
    let found = c.in-Some.ensures.lookup.0 in
    let all : c.from-length.result ≤ length (drop 4 r) = (let e = ap length (take_rest r 4) in let l = found.1 in omega arith) in
    let file : c.in-Some.file.now ≡ take c.from-length.result (drop 4 r) =
    found.2 ∙ ap (λ (k : ℕ). take k (take (length r - 4) (drop 4 r))) (let z : n - 0 ≡ n = omega arith in z) ∙ ap (take n) (take_rest r 4) in
    adding_on G h (course c.args.self.now) _ c.requires.within c.requires.letter r c.rest.ensures.value c.in-len4-up.len_at_least c.from-length.result el
    c.in-Some.file.now c.in_ok-answer.answer all file (c.in_ok-answer.ensures G h P) refl refl c.in_ok-write_answer.ensures
