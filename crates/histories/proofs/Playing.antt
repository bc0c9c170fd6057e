-- The acts of a play form a local list.
use Rattle.std.proofs.Common.{◌≡◌, ℕ, Bool, true, List, [], ◌∷◌, ◌++◌, Some, None, Ok, Err, Option, sym, refl, ap, ◌∙◌, subst, append-nil}
use native.Mathlib.Decide.{ℕ_discrete}
use Rattle.acts.specs.declared.Act.{Act}
use Rattle.acts.specs.Acts.{part}
use Rattle.acts.proofs.Parts.{part_own, part-other, part-++}
use Rattle.channel.specs.Meaning.{Lawful}
use Rattle.families.specs.Judgement.{Charts, View, Local}
use Rattle.families.proofs.Kinding.{start_view}
use Rattle.histories.specs.History.{add, withdraw, judge, begin, act, end, abandon, Reply, History, start, then, held, playing, played, carried_by, standing, act_of, parties}
use Rattle.histories.specs.Right.{AllRight}
use Rattle.histories.proofs.Granting.{none-some, some_same, added, withdrawn, judging, begun, Acted, acted}
use Rattle.histories.proofs.Standing.{standing_sound}

-- a local list goes on by a granted act that lengthens its party's part to a view
pub local_more : (G : List Act → Bool) (f : Charts) (w : List Act) (a : Act) → Local G f w → View f a.party (part a.party w ++ (a ∷ []))
    → G (w ++ (a ∷ [])) ≡ true → Local G f (w ++ (a ∷ []))
local_more G f w a l v g = record { granted = g; views = views }
  where
    views : (p : ℕ) → View f p (part p (w ++ (a ∷ [])))
    views p = elim (ℕ_discrete a.party p) [
      | yes e ↦
          subst (View f p) (sym (part-++ p w (a ∷ []) ∙ ap (λ (x : List Act). part p w ++ x) (part_own p a [] e)))
          (subst (λ (q : ℕ). View f q (part q w ++ (a ∷ []))) e v)
      | no n ↦
          subst (View f p) (sym (part-++ p w (a ∷ []) ∙ ap (λ (x : List Act). part p w ++ x) (part-other p a [] n) ∙ append-nil (part p w)))
          (l.views p)
    ]

-- a play after a judge of kind 0 that stands, with local acts so far
pub record Played (G : List Act → Bool) (h : History) (w : List Act) : Type 0 where
  pub stands : standing h ≡ true
  pub local : Local G (held h) w

module _ (G : List Act → Bool) (lawful : Lawful G) (code : ℕ) where
  -- no act yet
  play_begun : (h : History) (r : Reply) → AllRight G code h → standing h ≡ true → Local G (held h) []
  play_begun h r R s = record {
    granted = lawful.diamond.empty;
    views = start_view G (parties (held h)) (held h) (standing_sound G lawful code h R s).judged;
  }

  -- one act more
  play_on : (h : History) (p l e m : ℕ) (o : Option (List Act)) → playing h ≡ o → Acted G h p l e m
      → ((v : List Act) → playing h ≡ Some v → Played G h v) → (w : List Act) → played o (act_of p l e m) ≡ Some w → Played G h w
  play_on h p l e m None q A before w k = absurd (none-some w k)
  play_on h p l e m (Some v) q A before w k =
      let B : Played G h v = before v q in
      let c : carried_by (playing h) ≡ v = ap carried_by q in
      let a : Act = act_of p l e m in
      record {
        stands = B.stands;
        local = subst (Local G (held h)) (some_same (v ++ (a ∷ [])) w k)
            (local_more G (held h) v a B.local
            (subst (λ (x : List Act). View (held h) p (part p x ++ (a ∷ []))) c A.view)
            (subst (λ (x : List Act). G (x ++ (a ∷ [])) ≡ true) c A.granted));
      }

  pub play_local : (h : History) → AllRight G code h → (w : List Act) → playing h ≡ Some w → Played G h w
  play_local start R w e = absurd (none-some w e)
  play_local (then h k (Err x)) R w e =
      let B : Played G h w = play_local h R.0 w e in
      record { stands = B.stands; local = B.local }
  play_local (then h (add i c) (Ok r)) R w e = absurd (none-some w (sym (added G code h r i c R.2).rest ∙ e))
  play_local (then h (withdraw i) (Ok r)) R w e = absurd (none-some w (sym (withdrawn G code h r i R.2) ∙ e))
  play_local (then h (judge x y) (Ok r)) R w e = absurd (none-some w (sym (judging G code h r x y R.2).rest ∙ e))
  play_local (then h begin (Ok r)) R w e =
      let s : standing h ≡ true = begun G code h r R.2 in
      record { stands = s; local = subst (Local G (held h)) (some_same [] w e) (play_begun h r R.0 s) }
  play_local (then h (act p l q m) (Ok r)) R w e =
      let B : Played G h w = play_on h p l q m (playing h) refl (acted G code h r p l q m R.2) (play_local h R.0) w e in
      record { stands = B.stands; local = B.local }
  play_local (then h end (Ok r)) R w e = absurd (none-some w e)
  play_local (then h abandon (Ok r)) R w e = absurd (none-some w e)
