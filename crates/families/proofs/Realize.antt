-- Realizability: what a family that is able to hold the held conversations does, and that the family of the views holds them.
use Rattle.std.proofs.Common.{◌≡◌, ℕ, ◌<◌, Bool, List, [], ◌++◌, Some, sym, refl, ap, ◌∙◌, subst, inl, inr, append-nil}
use Rattle.std.specs.List.{AllByRecursion}
use Rattle.std.proofs.lemmas.Bool.{cases_lt}
use Rattle.std.proofs.ByRecursion.{All-append}
use Rattle.acts.specs.declared.Act.{Act}
use Rattle.acts.specs.Acts.{InRange, part, Quiet, Lines, line}
use Rattle.acts.proofs.Parts.{part-++}
use Rattle.conversation.specs.Conversations.{Conversation, Talks}
use Rattle.families.specs.Judgement.{Charts, View, LastView, Local, HeldConversation, BeginsHeld, BreaksCc2, BreaksCc3, NothingBreaks, Judgeable}
use Rattle.families.specs.Families.{Machines, Path, Run, Whole, MadeWhole, Able, Precise, NoDeadEnd, tree}
use Rattle.families.proofs.Ranges.{past_end, all_right, all_parts, none_past}
use Rattle.families.proofs.Agreement.{held_range, local_range}
use Rattle.families.proofs.Kinding.{start_view, held_or_cc2, begins_or_cc3}
use Rattle.families.proofs.Paths.{Parted, parted, joined, tree_end, tree_view, tree_path}

-- a path with its end, and with a last place at its end
pub record Led (M : Machines) (p : ℕ) (v : List Act) : Type 0 where
  pub end : M.Place p
  pub path : Path M p (M.start p) v end

pub record Ended (M : Machines) (p : ℕ) (v : List Act) : Type 0 where
  pub end : M.Place p
  pub path : Path M p (M.start p) v end
  pub final : M.Final p end

module _ (G : List Act → Bool) (n : ℕ) (f : Charts) (J : Judgeable G n f) where
  -- what a family that is able to hold the held conversations can do along a view
  module _ (M : Machines) (able : Able M G n f) where
    along_line : (i : ℕ) (c : Lines) → f i ≡ Some c → (p : ℕ) → p < n → Ended M p (line c p)
    along_line i c e p h =
        let t : Talks G c = J.talk i c e in
        let wh : Whole M G n t.0 = able t.0 (record { id = i; chart = c; held = e; fits = t.1 }) in
        let q : M.Place p = wh.run.at p h in
        record {
          end = q;
          path = subst (λ (l : List Act). Path M p (M.start p) l q) (t.1.lines p) (wh.run.path p h);
          final = wh.final p h;
        }

    view_path : (p : ℕ) → p < n → (v : List Act) → View f p v → Led M p v
    view_path p h v k =
        let o : Ended M p (line k.chart p) = along_line k.id k.chart k.held p h in
        let x : List Act = k.fits.0 in
        let on : Path M p (M.start p) (v ++ x) o.end =
        subst (λ (l : List Act). Path M p (M.start p) l o.end) (sym k.fits.1) o.path in
        let r : Parted M p (M.start p) v x o.end = parted M p v x (M.start p) o.end on in
        record { end = r.mid; path = r.to }

    last_path : (p : ℕ) → p < n → (v : List Act) → LastView f p v → Ended M p v
    last_path p h v k = subst (Ended M p) (sym k.fits) (along_line k.id k.chart k.held p h)

    pub local-run : (w : List Act) → Local G f w → Run M G n w
    local-run w l = record {
      granted = l.granted;
      range = local_range G n f J w l;
      at = λ p h. (view_path p h (part p w) (l.views p)).end;
      path = λ p h. (view_path p h (part p w) (l.views p)).path;
    }

    pub last_whole : (w : List Act) → Local G f w → Quiet w → ((p : ℕ) → LastView f p (part p w)) → Whole M G n w
    last_whole w l q k = record {
      run = record {
        granted = l.granted;
        range = local_range G n f J w l;
        at = λ p h. (last_path p h (part p w) (k p)).end;
        path = λ p h. (last_path p h (part p w) (k p)).path;
      };
      quiet = q;
      final = λ p h. (last_path p h (part p w) (k p)).final;
    }

  -- a run with what makes it whole is a whole run
  whole_of : (M : Machines) (w : List Act) (r : Run M G n w) (m : MadeWhole M G n w r) → Whole M G n (w ++ m.more)
  whole_of M w r m = record {
    run = record {
      granted = m.granted;
      range = All-append (InRange n) w m.more r.range m.range;
      at = m.at;
      path = λ p h. subst (λ (v : List Act). Path M p (M.start p) v (m.at p h)) (sym (part-++ p w m.more))
          (joined M p (part p m.more) (r.path p h) (m.path p h));
    };
    quiet = m.quiet;
    final = m.final;
  }

  pub unbroken : (M : Machines) → Precise M G n f → NoDeadEnd M G n → NothingBreaks G f
  unbroken M precise lively w = (
    λ b. b.broken ((precise w).1 (last_whole M able w b.local b.quiet b.last)),
    λ b. b.broken (onward b.local),
  )
    where
      able : Able M G n f
      able v = (precise v).0

      onward : Local G f w → BeginsHeld G f w
      onward l =
          let r : Run M G n w = local-run M able w l in
          let m : MadeWhole M G n w r = lively w r in
          (m.more, (precise (w ++ m.more)).1 (whole_of M w r m))

  -- the family of the views runs along local lists only, and its whole lists have last views as parts
  pub run-local : (w : List Act) → Run (tree f) G n w → Local G f w
  run-local w r = record {
    granted = r.granted;
    views = λ p. elim (cases_lt p n) [
      | inl h ↦ subst (View f p) (sym (tree_end f p (r.path p h))) (tree_view f p (r.path p h) (start_view G n f J p))
      | inr h ↦ subst (View f p) (sym (none_past n p w r.range h)) (start_view G n f J p)
    ];
  }

  pub whole_last : (w : List Act) → Whole (tree f) G n w → (p : ℕ) → LastView f p (part p w)
  whole_last w x p = elim (cases_lt p n) [
    | inl h ↦ subst (LastView f p) (sym (tree_end f p (x.run.path p h))) (x.final p h)
    | inr h ↦ record {
      id = J.some.id;
      chart = J.some.chart;
      held = J.some.held;
      fits = none_past n p w x.run.range h ∙ sym (past_end J.some.chart n p J.some.fits h);
    }
  ]

  conversation_range : (w : List Act) → HeldConversation G f w → AllByRecursion (InRange n) w
  conversation_range w x =
      all_parts (InRange n) w
      (λ p. subst (AllByRecursion (InRange n)) (sym (x.fits.lines p)) (held_range G n f J x.id x.chart x.held p))

  -- it is able to hold the held conversations
  pub tree_able : Able (tree f) G n f
  tree_able w x = record {
    run = record {
      granted = x.fits.granted;
      range = conversation_range w x;
      at = λ p h. part p w;
      path = λ p h. tree_path f p x.id x.chart x.held (part p w) [] (part p w) refl
          ([], append-nil (part p w) ∙ x.fits.lines p);
    };
    quiet = x.fits.quiet;
    final = λ p h. record { id = x.id; chart = x.chart; held = x.held; fits = x.fits.lines p };
  }

  pub tree_precise : NothingBreaks G f → Precise (tree f) G n f
  tree_precise ok w = (tree_able w, back)
    where
      back : Whole (tree f) G n w → HeldConversation G f w
      back x = elim (held_or_cc2 G n f J w (run-local w x.run) x.quiet (whole_last w x)) [
        | inl y ↦ y
        | inr b ↦ absurd ((ok w).0 b)
      ]

  on_to : (w : List Act) (r : Run (tree f) G n w) → BeginsHeld G f w → MadeWhole (tree f) G n w r
  on_to w r b =
      let x : List Act = b.0 in
      let i : ℕ = b.1.id in
      let c : Lines = b.1.chart in
      let v : Conversation G c (w ++ x) = b.1.fits in
      record {
        more = x;
        granted = v.granted;
        range = all_right (InRange n) w x (conversation_range (w ++ x) b.1);
        quiet = v.quiet;
        at = λ p h. line c p;
        path = λ p h. tree_path f p i c b.1.held (part p x) (r.at p h) (line c p)
            (ap (λ (y : List Act). y ++ part p x) (sym (tree_end f p (r.path p h))) ∙ sym (part-++ p w x) ∙ v.lines p)
            ([], append-nil (line c p));
        final = λ p h. record { id = i; chart = c; held = b.1.held; fits = refl };
      }

  pub tree_lively : NothingBreaks G f → NoDeadEnd (tree f) G n
  tree_lively ok w r = elim (begins_or_cc3 G n f J w (run-local w r)) [
    | inl b ↦ on_to w r b
    | inr k ↦ absurd ((ok w).1 k)
  ]

  -- what it does beyond the held conversations breaks
  pub run_cc3 : (w : List Act) → Run (tree f) G n w → ¬ BeginsHeld G f w → BreaksCc3 G f w
  run_cc3 w r m = record { local = run-local w r; broken = m }

  pub whole_cc2 : (w : List Act) → Whole (tree f) G n w → ¬ HeldConversation G f w → BreaksCc2 G f w
  whole_cc2 w x m = record { local = run-local w x.run; quiet = x.quiet; last = whole_last w x; broken = m }
