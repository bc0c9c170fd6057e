-- The law over histories.
use Rattle.std.proofs.Common.{◌≡◌, ℕ, ◌*◌, ◌<◌, ◌≤◌, Bool, ◌⊎◌, List, length, is_some, sym, refl, ap, subst, inl, inr, arith}
use Rattle.std.proofs.lemmas.Bool.{both_ways}
use Rattle.acts.specs.declared.Act.{Act}
use Rattle.channel.specs.Meaning.{Lawful}
use Rattle.families.specs.Judgement.{HeldConversation, BeginsHeld, Broken, of_cc2, of_cc3, Told, Judgeable}
use Rattle.families.specs.Families.{Machines, Precise, NoDeadEnd, Able, Whole}
use Rattle.families.proofs.Realize.{last_whole, unbroken}
use Rattle.families.proofs.Verdicts.{told_means}
use Rattle.machines.specs.Files.{list_file_bytes}
use Rattle.machines.specs.Reading.{file_family}
use Rattle.machines.proofs.Likeness.{file_tells}
use Rattle.verdicts.specs.Product.{product}
use Rattle.histories.specs.History.{verdict, History, held, playing, parties}
use Rattle.histories.specs.Right.{AllRight, Resting, HoldsNothing, most_tuples, Due, machines, told, IsOutputShort}
use Rattle.histories.specs.Law.{HoldingLaw, ToldLaw, VerdictLaw, OneVerdict, Law}
use Rattle.histories.proofs.Granting.{judging}
use Rattle.histories.proofs.Holding.{holding_law}
use Rattle.histories.proofs.Standing.{judgeable_some, broken_kind, unbroken_not, due_only, SomeDue, some_due, Answered, verdict_due}
use Rattle.histories.proofs.Going.{play_law}

module _ (M : Machines) (G : List Act → Bool) (h : History) (J : Judgeable G (parties (held h)) (held h)) where
  -- a list of kind 1 is no held conversation and whole in every able family, and one of kind 2 begins none
  kind_one : (kind : ℕ) (w : List Act) → Broken G (held h) kind w → kind ≡ 1
      → (¬ HeldConversation G (held h) w) × (Able M G (parties (held h)) (held h) → Whole M G (parties (held h)) w)
  kind_one kind w (of_cc2 e b) k =
      (b.broken, λ able. last_whole G (parties (held h)) (held h) J M able w b.local b.quiet b.last)
  kind_one kind w (of_cc3 e n b) k = absurd (omega arith)

  kind_two : (kind : ℕ) (w : List Act) → Broken G (held h) kind w → kind ≡ 2 → ¬ BeginsHeld G (held h) w
  kind_two kind w (of_cc2 e b) k = absurd (omega arith)
  kind_two kind w (of_cc3 e n b) k = b.broken

  one_or_two : (kind : ℕ) (w : List Act) → Broken G (held h) kind w → (kind ≡ 1) ⊎ (kind ≡ 2)
  one_or_two kind w (of_cc2 e b) = inl e
  one_or_two kind w (of_cc3 e n b) = inr e

  told_law : (kind : ℕ) (file : List ℕ) (w : List Act) → Told G (held h) kind w → file ≡ list_file_bytes kind w → ToldLaw M G h kind file
  told_law kind file w t e = record {
    list = w;
    written = e;
    means = told_means G (parties (held h)) (held h) J M kind w t;
    one = kind_one kind w t.broken;
    two = kind_two kind w t.broken;
    kinds = one_or_two kind w t.broken;
  }

  verdict_law : (code kind : ℕ) (file : List ℕ) → Due G code (held h) kind file → VerdictLaw M G h kind file
  verdict_law code kind file (machines ok e p) = record {
    machines = λ z. subst (λ (x : List ℕ). Precise (file_family x) G (parties (held h)) (held h) × NoDeadEnd (file_family x) G (parties (held h)))
        (sym p) (file_tells G (parties (held h)) (held h) J code ok);
    only_then = λ precise lively. e;
    tells = λ n. absurd (n e);
  }
  verdict_law code kind file (told w t p) = record {
    machines = λ z. absurd (broken_kind G (held h) kind w t.broken z);
    only_then = λ precise lively.
        absurd (unbroken_not G (held h) (unbroken G (parties (held h)) (held h) J M precise lively) kind w t.broken);
    tells = λ n. told_law kind file w t p;
  }

-- cells enough
few : (cells most tuples : ℕ) → tuples ≤ most → 2 * tuples ≤ cells → (most < tuples) ⊎ (cells < 2 * tuples) → ⊥
few cells most tuples a b (inl z) = omega arith
few cells most tuples a b (inr z) = omega arith

-- what is due is answered, where no row refuses
judges : (G : List Act → Bool) → Lawful G → (code : ℕ) (h : History) → HoldingLaw G h → Resting h → (HoldsNothing (held h) → ⊥)
    → product (held h) ≤ most_tuples → OneVerdict G code h
judges G lawful code h L rest some tuples = record {
  kind = D.kind;
  file = D.file;
  answered = λ cells output enough fits.
      inr (
        λ z. both_ways (is_some (playing h)) rest z,
        inr (
          some,
          inr (
            few cells most_tuples (product (held h)) tuples enough,
            inr (
              λ z. short output fits z.0 z.1,
              record { kind = D.kind; file = D.file; due = D.due; fits = fits; is = refl },
            ),
          ),
        ),
      );
}
  where
    D : SomeDue G code (held h)
    D = some_due G code (parties (held h)) (held h) (judgeable_some G lawful h L some)

    short : (output : ℕ) → length D.file ≤ output → (n : ℕ) → IsOutputShort G code (held h) output n → ⊥
    short output fits n O =
        let e = ap length (due_only G (held h) code D.kind O.kind D.file O.file D.due O.due).1 in
        let k = O.is in
        let s = O.short in
        omega arith

pub law : (M : Machines) (G : List Act → Bool) → Lawful G → (code : ℕ) (h : History) → AllRight G code h → Law M G code h
law M G lawful code h R = record {
  holding = holding_law G code h R;
  judges = judges G lawful code h (holding_law G code h R);
  verdict = λ cells output kind file x.
      let A : Answered G code (held h) kind file =
      verdict_due G lawful code h output kind file (holding_law G code h R) (judging G code h (verdict kind file) cells output x) in
      verdict_law M G h A.judged code kind file A.due;
  play = play_law G lawful code h R;
}
