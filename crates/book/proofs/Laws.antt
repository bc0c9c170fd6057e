-- What holds after every history whose answers were right.
use Rattle.std.proofs.Common.{◌≡◌, ℕ, ◌≤◌, Bool, eqb, ◌⊎◌, List, length, Some, None, Ok, Err, Option, sym, refl, ap, ◌∙◌, subst, inl, inr, arith}
use Rattle.std.proofs.lemmas.Option.{none-some}
use Rattle.std.proofs.lemmas.Bool.{cases_Bool, cases_lt, cases_eq, cond-true, cond-false, eqb-true, eqb-false}
use Rattle.acts.specs.declared.Act.{Act}
use Rattle.acts.specs.Acts.{Lines}
use Rattle.conversation.specs.Conversations.{Talks}
use Rattle.book.specs.History.{add, withdraw, History, start, then, held, put}
use Rattle.book.specs.Right.{Right, AllRight, HasEqualChart}
use Rattle.book.specs.Law.{Law, LastAdded, now_added, past_refused, past_add, past_withdraw}
use Rattle.book.proofs.Tables.{some_same}

-- what a granted add says of its chart
pub record Granted (G : List Act → Bool) (h : History) (i : ℕ) (c : Lines) : Type 0 where
  pub low : i ≤ 7
  pub same : (j : ℕ) (d : Lines) → held h j ≡ Some d → length d ≡ length c
  pub apart : (j : ℕ) → HasEqualChart h c j → ⊥
  pub talk : Talks G c

granted : (G : List Act → Bool) (h : History) (i : ℕ) (c : Lines) (n : ℕ) → Right G h (add i c) (Ok n) → Granted G h i c
granted G h i c n (inl r) = let z : ◌≡◌ {A = ℕ} 0 1 = cc r.1 in absurd (omega arith)
granted G h i c n (inr (p, inl r)) = let z : ◌≡◌ {A = ℕ} 0 1 = cc r.1 in absurd (omega arith)
granted G h i c n (inr (p, inr (a, inl r))) = let z : ◌≡◌ {A = ℕ} 0 1 = cc r.1 in absurd (omega arith)
granted G h i c n (inr (p, inr (a, inr (t, inl r)))) = let z : ◌≡◌ {A = ℕ} 0 1 = cc r.1.2 in absurd (omega arith)
granted G h i c n (inr (p, inr (a, inr (t, inr (o, inl r))))) = let z : ◌≡◌ {A = ℕ} 0 1 = cc r.1.2 in absurd (omega arith)
granted G h i c n (inr (p, inr (a, inr (t, inr (o, inr (q, inl r)))))) = let z : ◌≡◌ {A = ℕ} 0 1 = cc r.1.2 in absurd (omega arith)
granted G h i c n (inr (p, inr (a, inr (t, inr (o, inr (q, inr r)))))) = record {
  low = elim (cases_lt 7 i) [ inl g ↦ absurd (a g) | inr g ↦ g ];
  same = λ j d e. elim (cases_eq (length d) (length c)) [
    | inl g ↦ g
    | inr g ↦ absurd (o (length d, record { id = j; other = d; held_there = e; parties = refl; differ = g }))
  ];
  apart = λ j e. q (j, e);
  talk = r.1.0;
}

-- an entry of a table after a put: the new one, or one under another id
pub record Fresh (i j : ℕ) (x y : Option Lines) : Type 0 where
  pub id : i ≡ j
  pub entry : x ≡ y

pub record Before (i j : ℕ) (f : ℕ → Option Lines) (y : Option Lines) : Type 0 where
  pub other : i ≡ j → ⊥
  pub entry : f j ≡ y

put_cases : (i j : ℕ) (x y : Option Lines) (f : ℕ → Option Lines) → put i x f j ≡ y → Fresh i j x y ⊎ Before i j f y
put_cases i j x y f e = elim (cases_Bool (eqb i j)) [
  | inl g ↦ inl (record { id = eqb-true i j g; entry = sym (cond-true (eqb i j) x (f j) g) ∙ e })
  | inr g ↦ inr (record { other = eqb-false i j g; entry = sym (cond-false (eqb i j) x (f j) g) ∙ e })
]

module _ (G : List Act → Bool) (h : History) (L : Law G h) (i : ℕ) (n : ℕ) where
  -- after a granted add
  module _ (c : Lines) (A : Granted G h i c) where
    split : (j : ℕ) (d : Lines) → put i (Some c) (held h) j ≡ Some d → Fresh i j (Some c) (Some d) ⊎ Before i j (held h) (Some d)
    split j d e = put_cases i j (Some c) (Some d) (held h) e

    ids_add : (j : ℕ) (d : Lines) → put i (Some c) (held h) j ≡ Some d → j ≤ 7
    ids_add j d e = elim (split j d e) [
      | inl x ↦ subst (λ (k : ℕ). k ≤ 7) x.id A.low
      | inr x ↦ L.ids j d x.entry
    ]

    -- every chart then held has as many parties as the new one
    as_many : (j : ℕ) (d : Lines) → put i (Some c) (held h) j ≡ Some d → length d ≡ length c
    as_many j d e = elim (split j d e) [
      | inl x ↦ ap length (sym (some_same c d x.entry))
      | inr x ↦ A.same j d x.entry
    ]

    apart_add : (j k : ℕ) (d : Lines) → put i (Some c) (held h) j ≡ Some d → put i (Some c) (held h) k ≡ Some d → j ≡ k
    apart_add j k d e f = elim (split j d e) [
      | inl x ↦ elim (split k d f) [
        | inl y ↦ sym x.id ∙ y.id
        | inr y ↦ absurd (A.apart k (y.entry ∙ sym x.entry))
      ]
      | inr x ↦ elim (split k d f) [
        | inl y ↦ absurd (A.apart j (x.entry ∙ sym y.entry))
        | inr y ↦ L.apart j k d x.entry y.entry
      ]
    ]

    talk_add : (j : ℕ) (d : Lines) → put i (Some c) (held h) j ≡ Some d → Talks G d
    talk_add j d e = elim (split j d e) [
      | inl x ↦ subst (Talks G) (some_same c d x.entry) A.talk
      | inr x ↦ L.talk j d x.entry
    ]

    named_add : (j : ℕ) (d : Lines) → put i (Some c) (held h) j ≡ Some d → LastAdded (then h (add i c) (Ok n)) j d
    named_add j d e = elim (split j d e) [
      | inl x ↦
          subst (λ (k : ℕ). LastAdded (then h (add i c) (Ok n)) k d) x.id
          (subst (λ (y : Lines). LastAdded (then h (add i c) (Ok n)) i y) (some_same c d x.entry) now_added)
      | inr x ↦ past_add x.other (L.named j d x.entry)
    ]

    law_add : Law G (then h (add i c) (Ok n))
    law_add = record {
      ids = ids_add;
      parties = λ j k d b e f. as_many j d e ∙ sym (as_many k b f);
      apart = apart_add;
      talk = talk_add;
      named = named_add;
    }

  -- after a granted withdraw
  stays : (j : ℕ) (d : Lines) → put i None (held h) j ≡ Some d → Before i j (held h) (Some d)
  stays j d e = elim (put_cases i j None (Some d) (held h) e) [
    | inl x ↦ absurd (none-some d x.entry)
    | inr x ↦ x
  ]

  law_withdraw : Law G (then h (withdraw i) (Ok n))
  law_withdraw = record {
    ids = λ j d e. L.ids j d (stays j d e).entry;
    parties = λ j k d b e f. L.parties j k d b (stays j d e).entry (stays k b f).entry;
    apart = λ j k d e f. L.apart j k d (stays j d e).entry (stays k d f).entry;
    talk = λ j d e. L.talk j d (stays j d e).entry;
    named = λ j d e. past_withdraw (stays j d e).other (L.named j d (stays j d e).entry);
  }

-- the law over histories
pub law : (G : List Act → Bool) (h : History) → AllRight G h → Law G h
law G start R = record {
  ids = λ i c e. absurd (none-some c e);
  parties = λ i j c d e f. absurd (none-some c e);
  apart = λ i j c e f. absurd (none-some c e);
  talk = λ i c e. absurd (none-some c e);
  named = λ i c e. absurd (none-some c e);
}
law G (then h (add i c) (Ok n)) R = law_add G h (law G h R.0) i n c (granted G h i c n R.1)
law G (then h (add i c) (Err x)) R =
    let L = law G h R.0 in
    record { ids = L.ids; parties = L.parties; apart = L.apart; talk = L.talk; named = λ j d e. past_refused (L.named j d e) }
law G (then h (withdraw i) (Ok n)) R = law_withdraw G h (law G h R.0) i n
law G (then h (withdraw i) (Err x)) R =
    let L = law G h R.0 in
    record { ids = L.ids; parties = L.parties; apart = L.apart; talk = L.talk; named = λ j d e. past_refused (L.named j d e) }
