-- A session goes on from command to command.
use Rattle.std.proofs.Common.{◌≡◌, ℕ, zero, suc, ◌<◌, ◌≤◌, Bool, List, [], ◌++◌, length, sym, refl, ap, ◌∙◌, subst, append_assoc, append-nil, arith}
use Rattle.acts.specs.declared.Act.{Act}
use Rattle.book.specs.History.{start}
use Rattle.book.specs.Past.{Past}
use Rattle.session.specs.Sessions.{text_of_session}
use Rattle.session.specs.Course.{Course}
use Rattle.session.specs.Stepping.{left, Steps}
use Rattle.session.specs.Going.{Going}
use Rattle.session.proofs.Stepping.{nothing_left}

pub begun : (G : List Act → Bool) (c : Course) → Past G start c.book → c.place ≡ 0 → c.text ≡ [] → Going G c.session c
begun G c P z e = record {
  same = refl;
  past = start;
  kept = P;
  fuel = suc (length c.session);
  enough = omega arith;
  within = omega arith;
  whole =
      ap (λ (x : List ℕ). x ++ left (suc (length c.session)) G start c.session c.place) e
      ∙ ap (λ (p : ℕ). left (suc (length c.session)) G start c.session p) z;
}

module _ (G : List Act → Bool) (session : List ℕ) (was is : Course) (g : Going G session was) (low : was.place < length session) (steps : Steps was is) where
  some_fuel : (f : ℕ) → g.fuel ≡ f → (k : ℕ) × (g.fuel ≡ suc k)
  some_fuel zero e = absurd (let h = g.enough in omega arith)
  some_fuel (suc k) e = (k, e)

  further : (was.place < is.place) × (is.place ≤ length session)
  further =
      let x = steps G g.past g.kept in
      (x.onward, subst (λ (l : List ℕ). is.place ≤ length l) g.same x.within)

  -- the text so far, one command's line, and what follows it
  pub goes : Going G session is
  goes =
      let x = steps G g.past g.kept in
      let k = some_fuel g.fuel refl in
      let b = further in
      let c = g.enough in
      let d = k.1 in
      record {
        same = x.session ∙ g.same;
        past = x.past;
        kept = x.kept;
        fuel = k.0;
        enough = omega arith;
        within = b.1;
        whole =
            ap (λ (y : List ℕ). y ++ left k.0 G x.past session is.place) x.text
            ∙ append_assoc was.text x.line (left k.0 G x.past session is.place)
            ∙ ap (λ (y : List ℕ). was.text ++ y) (sym (subst (λ (l : List ℕ). left (suc k.0) G g.past l was.place ≡ x.line ++ left k.0 G x.past l is.place) g.same (x.rest k.0)))
            ∙ ap (λ (y : ℕ). was.text ++ left y G g.past session was.place) (sym d)
            ∙ g.whole;
      }

pub at_end : (G : List Act → Bool) (session : List ℕ) (c : Course) → Going G session c → length session ≤ c.place → c.text ≡ text_of_session G session
at_end G session c g e =
    sym (append-nil c.text) ∙ ap (λ (y : List ℕ). c.text ++ y) (sym (nothing_left g.fuel G g.past session c.place e)) ∙ g.whole
