-- Alike families have the same runs' lists, the same whole lists, and dead ends together.
use Rattle.std.proofs.Common.{ℕ, ◌<◌, Bool, List, [], ◌∷◌}
use Rattle.acts.specs.declared.Act.{Act}
use Rattle.acts.specs.Acts.{part}
use Rattle.families.specs.Judgement.{Charts}
use Rattle.families.specs.Families.{Machines, Path, stay, move, Run, Whole, MadeWhole, Able, Precise, NoDeadEnd, Alike}
use Rattle.families.specs.Theorems.{DoTheSame}
use Rattle.families.proofs.Paths.{Step, step}

-- the same likeness seen from the other family
pub turned : (n : ℕ) (M N : Machines) (R : (p : ℕ) → M.Place p → N.Place p → Type 0) → Alike n M N R → Alike n N M (λ p s q. R p q s)
turned n M N R k = record {
  starts = k.starts;
  forth = λ p h s t q a r m. k.back p h q s t a r m;
  back = λ p h s q r a x m. k.forth p h q r s a x m;
  final = λ p h s q r. ((k.final p h q s r).1, (k.final p h q s r).0);
}

module _ (n : ℕ) (M N : Machines) (R : (p : ℕ) → M.Place p → N.Place p → Type 0) (k : Alike n M N R) where
  -- a path of the other family along the same list, to a related place
  pub record Matched (p : ℕ) (s : N.Place p) (l : List Act) (r : M.Place p) : Type 0 where
    pub end : N.Place p
    pub path : Path N p s l end
    pub related : R p r end

  pub match : (p : ℕ) → p < n → (l : List Act) (q r : M.Place p) (s : N.Place p) → R p q s → Path M p q l r → Matched p s l r
  match p h [] q r s x stay = record { end = s; path = stay; related = x }
  match p h (a ∷ l) q r s x y =
      let t : Step M p q a l r = step M p q a l r y in
      let z = k.forth p h q t.next s a x t.by in
      let m : Matched p z.0 l r = match p h l t.next r z.0 z.2 t.rest in
      record { end = m.end; path = move z.1 m.path; related = m.related }

  module _ (G : List Act → Bool) where
    matched : (w : List Act) (r : Run M G n w) (p : ℕ) (h : p < n) → Matched p (N.start p) (part p w) (r.at p h)
    matched w r p h = match p h (part p w) (M.start p) (r.at p h) (N.start p) (k.starts p h) (r.path p h)

    pub run_alike : (w : List Act) → Run M G n w → Run N G n w
    run_alike w r = record {
      granted = r.granted;
      range = r.range;
      at = λ p h. (matched w r p h).end;
      path = λ p h. (matched w r p h).path;
    }

    pub whole_alike : (w : List Act) → Whole M G n w → Whole N G n w
    unfolding run_alike matched
    whole_alike w x = record {
      run = run_alike w x.run;
      quiet = x.quiet;
      final = λ p h.
          let m : Matched p (N.start p) (part p w) (x.run.at p h) = matched w x.run p h in
          (k.final p h (x.run.at p h) m.end m.related).0 (x.final p h);
    }

    pub able_alike : (f : Charts) → Able M G n f → Able N G n f
    able_alike f able w x = whole_alike w (able w x)

module _ (n : ℕ) (M N : Machines) (R : (p : ℕ) → M.Place p → N.Place p → Type 0) (k : Alike n M N R) (G : List Act → Bool) where
  pub precise_alike : (f : Charts) → Precise M G n f → Precise N G n f
  precise_alike f precise w = (
    λ x. whole_alike n M N R k G w ((precise w).0 x),
    λ y. (precise w).1 (whole_alike n N M (λ p s q. R p q s) (turned n M N R k) G w y),
  )

  -- a run of N is matched by a run of M, and what makes that whole by what makes the first whole
  pub no_dead_end_alike : NoDeadEnd M G n → NoDeadEnd N G n
  no_dead_end_alike lively w r = record {
    more = x.more;
    granted = x.granted;
    range = x.range;
    quiet = x.quiet;
    at = λ p h. (on p h).end;
    path = λ p h. (on p h).path;
    final = λ p h. (k.final p h (x.at p h) (on p h).end (on p h).related).0 (x.final p h);
  }
    where
      there : (p : ℕ) (h : p < n) → Matched n N M (λ p s q. R p q s) (turned n M N R k) p (M.start p) (part p w) (r.at p h)
      there = matched n N M (λ p s q. R p q s) (turned n M N R k) G w r

      run : Run M G n w
      run = record { granted = r.granted; range = r.range; at = λ p h. (there p h).end; path = λ p h. (there p h).path }

      x : MadeWhole M G n w run
      x = lively w run

      on : (p : ℕ) (h : p < n) → Matched n M N R k p (r.at p h) (part p x.more) (x.at p h)
      on p h = match n M N R k p h (part p x.more) (there p h).end (x.at p h) (r.at p h) (there p h).related (x.path p h)

-- alike families do the same
pub alike_same : (n : ℕ) (M N : Machines) (R : (p : ℕ) → M.Place p → N.Place p → Type 0) → Alike n M N R → (G : List Act → Bool)
    → DoTheSame M N G n
alike_same n M N R k G = record {
  runs = λ w. (run_alike n M N R k G w, run_alike n N M S b G w);
  wholes = λ w. (whole_alike n M N R k G w, whole_alike n N M S b G w);
  precise = λ f. (precise_alike n M N R k G f, precise_alike n N M S b G f);
  no_dead_end = (no_dead_end_alike n M N R k G, no_dead_end_alike n N M S b G);
}
  where
    S : (p : ℕ) → N.Place p → M.Place p → Type 0
    S p s q = R p q s

    b : Alike n N M S
    b = turned n M N R k
