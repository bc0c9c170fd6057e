-- What is held after every history whose answers were right.
use Rattle.std.proofs.Common.{◌≡◌, ℕ, zero, suc, ◌<◌, ◌≤◌, Bool, eqb, ◌⊎◌, List, length, Some, None, Ok, Err, Option, sym, refl, ap, ◌∙◌, subst, inl, inr, arith}
use Rattle.std.proofs.lemmas.Bool.{cases_Bool, cases_eq, cond-true, cond-false, eqb-true, eqb-false, eq-eqb, ne_eqb}
use Rattle.acts.specs.declared.Act.{Act}
use Rattle.acts.specs.Acts.{Lines}
use Rattle.lines.specs.Charts.{IsChart}
use Rattle.conversation.specs.Conversations.{Talks}
use Rattle.families.specs.Judgement.{Charts}
use Rattle.histories.specs.History.{Call, add, withdraw, judge, begin, act, end, abandon, Reply, History, start, then, holding, held, put, parties_of, parties_below, parties}
use Rattle.histories.specs.Right.{AllRight}
use Rattle.histories.specs.Law.{names, LastAdded, now_added, past_refused, past_other, HoldingLaw}
use Rattle.histories.proofs.Granting.{none-some, some_same, Added, added}

-- the number of parties is that of every held chart, where these have the same
parties_below_lem : (f : Charts) (n : ℕ) → ((j : ℕ) (d : Lines) → f j ≡ Some d → length d ≡ n)
    → (i : ℕ) (c : Lines) → f i ≡ Some c → (k : ℕ) → i < k → parties_below k f ≡ n
parties_below_lem f n same i c e zero h = absurd (omega arith)
parties_below_lem f n same i c e (suc k) h = at (f k) refl (parties_below_lem f n same i c e k)
  where
    at : (o : Option Lines) → f k ≡ o → (i < k → parties_below k f ≡ n) → parties_of o (parties_below k f) ≡ n
    at (Some d) q below = same k d q
    at None q below = elim (cases_eq i k) [
      | inl x ↦ absurd (none-some c (sym q ∙ ap f (sym x) ∙ e))
      | inr x ↦ below (omega arith)
    ]

pub same_parties : (f : Charts) (n : ℕ) → ((j : ℕ) (d : Lines) → f j ≡ Some d → j ≤ 7) → ((j : ℕ) (d : Lines) → f j ≡ Some d → length d ≡ n)
    → (i : ℕ) (c : Lines) → f i ≡ Some c → parties f ≡ n
unfolding parties
same_parties f n ids same i c e = parties_below_lem f n same i c e 8 (let k = ids i c e in omega arith)

-- the chart of the last add that names an id is held there
put_same : (i : ℕ) (x : Option Lines) (f : Charts) → put i x f i ≡ x
put_same i x f = cond-true (eqb i i) x (f i) (eq-eqb i i refl)

put_other : (i j : ℕ) (x : Option Lines) (f : Charts) → (i ≡ j → ⊥) → put i x f j ≡ f j
put_other i j x f n = cond-false (eqb i j) x (f j) (ne_eqb i j n)

holding-other : (k : Call) (f : Charts) (i : ℕ) → (names k ≡ Some i → ⊥) → holding k f i ≡ f i
holding-other (add j c) f i n = put_other j i (Some c) f (λ e. n (ap Some e))
holding-other (withdraw j) f i n = put_other j i None f (λ e. n (ap Some e))
holding-other (judge x y) f i n = refl
holding-other begin f i n = refl
holding-other (act p l e m) f i n = refl
holding-other end f i n = refl
holding-other abandon f i n = refl

pub added_held : {h : History} {i : ℕ} {c : Lines} → LastAdded h i c → held h i ≡ Some c
added_held (now_added {h} {i} {c} {r}) = put_same i (Some c) (held h)
added_held (past_refused x) = added_held x
added_held (past_other {h} {k} {i} {c} {r} n x) = holding-other k (held h) i n ∙ added_held x

-- an entry of a table after a put: the new one, or one under another id
pub record Fresh (i j : ℕ) (x y : Option Lines) : Type 0 where
  pub id : i ≡ j
  pub entry : x ≡ y

pub record Older (i j : ℕ) (f : Charts) (y : Option Lines) : Type 0 where
  pub other : i ≡ j → ⊥
  pub entry : f j ≡ y

put_cases : (i j : ℕ) (x y : Option Lines) (f : Charts) → put i x f j ≡ y → Fresh i j x y ⊎ Older i j f y
put_cases i j x y f e = elim (cases_Bool (eqb i j)) [
  | inl g ↦ inl (record { id = eqb-true i j g; entry = sym (cond-true (eqb i j) x (f j) g) ∙ e })
  | inr g ↦ inr (record { other = eqb-false i j g; entry = sym (cond-false (eqb i j) x (f j) g) ∙ e })
]

module _ (G : List Act → Bool) (h : History) (L : HoldingLaw G h) (r : Reply) where
  -- any two held charts have the same number of parties
  as_many : (i j : ℕ) (c d : Lines) → held h i ≡ Some c → held h j ≡ Some d → length c ≡ length d
  as_many i j c d e k = L.same_parties i c e ∙ sym (L.same_parties j d k)

  -- after a granted add
  module _ (i : ℕ) (c : Lines) (chart : IsChart c) (A : Added G h i c) where
    split : (j : ℕ) (d : Lines) → put i (Some c) (held h) j ≡ Some d → Fresh i j (Some c) (Some d) ⊎ Older i j (held h) (Some d)
    split j d e = put_cases i j (Some c) (Some d) (held h) e

    -- what holds of the new chart and of those before it holds of all
    each : (P : Lines → Type 0) → P c → ((j : ℕ) (d : Lines) → held h j ≡ Some d → P d)
        → (j : ℕ) (d : Lines) → put i (Some c) (held h) j ≡ Some d → P d
    each P new old j d e = elim (split j d e) [
      | inl x ↦ subst P (some_same c d x.entry) new
      | inr x ↦ old j d x.entry
    ]

    ids_add : (j : ℕ) (d : Lines) → put i (Some c) (held h) j ≡ Some d → j ≤ 7
    ids_add j d e = elim (split j d e) [
      | inl x ↦ subst (λ (k : ℕ). k ≤ 7) x.id A.low
      | inr x ↦ L.ids j d x.entry
    ]

    -- every chart then held has as many parties as the new one
    as_new : (j : ℕ) (d : Lines) → put i (Some c) (held h) j ≡ Some d → length d ≡ length c
    as_new = each (λ d. length d ≡ length c) refl A.same

    apart_add : (j k : ℕ) (d : Lines) → put i (Some c) (held h) j ≡ Some d → put i (Some c) (held h) k ≡ Some d → j ≡ k
    apart_add j k d e f = elim (split j d e) [
      | inl x ↦ elim (split k d f) [
        | inl y ↦ sym x.id ∙ y.id
        | inr y ↦ absurd (A.apart k (y.entry ∙ sym x.entry))
      ]
      | inr x ↦ elim (split k d f) [
        | inl y ↦ absurd (A.apart j (x.entry ∙ sym y.entry))
        | inr y ↦ L.apart j k d x.entry y.entry
      ]
    ]

    last_add : (j : ℕ) (d : Lines) → put i (Some c) (held h) j ≡ Some d → LastAdded (then h (add i c) (Ok r)) j d
    last_add j d e = elim (split j d e) [
      | inl x ↦
          subst (λ (k : ℕ). LastAdded (then h (add i c) (Ok r)) k d) x.id
          (subst (λ (y : Lines). LastAdded (then h (add i c) (Ok r)) i y) (some_same c d x.entry) now_added)
      | inr x ↦ past_other (λ n. x.other (some_same i j n)) ((L.last_added j d).0 x.entry)
    ]

    pub after_add : HoldingLaw G (then h (add i c) (Ok r))
    after_add = record {
      ids = ids_add;
      charts = each IsChart chart L.charts;
      same_parties = λ j d e. as_new j d e ∙ sym (same_parties (put i (Some c) (held h)) (length c) ids_add as_new j d e);
      apart = apart_add;
      talk = each (Talks G) A.talk L.talk;
      last_added = λ j d. (last_add j d, added_held);
    }

  -- after a granted withdraw
  module _ (i : ℕ) where
    stays : (j : ℕ) (d : Lines) → put i None (held h) j ≡ Some d → Older i j (held h) (Some d)
    stays j d e = elim (put_cases i j None (Some d) (held h) e) [
      | inl x ↦ absurd (none-some d x.entry)
      | inr x ↦ x
    ]

    ids_withdraw : (j : ℕ) (d : Lines) → put i None (held h) j ≡ Some d → j ≤ 7
    ids_withdraw j d e = L.ids j d (stays j d e).entry

    pub after_withdraw : HoldingLaw G (then h (withdraw i) (Ok r))
    after_withdraw = record {
      ids = ids_withdraw;
      charts = λ j d e. L.charts j d (stays j d e).entry;
      same_parties = λ j d e. sym (same_parties (put i None (held h)) (length d) ids_withdraw
          (λ k b q. as_many k j b d (stays k b q).entry (stays j d e).entry) j d e);
      apart = λ j k d e f. L.apart j k d (stays j d e).entry (stays k d f).entry;
      talk = λ j d e. L.talk j d (stays j d e).entry;
      last_added = λ j d. (
        λ e. past_other (λ n. (stays j d e).other (some_same i j n)) ((L.last_added j d).0 (stays j d e).entry),
        added_held,
      );
    }

-- after a call that leaves the held charts as they are
module _ (G : List Act → Bool) (h g : History) (L : HoldingLaw G h) (same : held h ≡ held g)
    (on : (i : ℕ) (c : Lines) → LastAdded h i c → LastAdded g i c) where
  before : (i : ℕ) (c : Lines) → held g i ≡ Some c → held h i ≡ Some c
  before i c e = ap (λ (f : Charts). f i) same ∙ e

  after_other : HoldingLaw G g
  after_other = record {
    ids = λ i c e. L.ids i c (before i c e);
    charts = λ i c e. L.charts i c (before i c e);
    same_parties = λ i c e. L.same_parties i c (before i c e) ∙ ap parties same;
    apart = λ i j c e k. L.apart i j c (before i c e) (before j c k);
    talk = λ i c e. L.talk i c (before i c e);
    last_added = λ i c. (λ e. on i c ((L.last_added i c).0 (before i c e)), added_held);
  }

-- after a granted call that names no id
after_unnamed : (G : List Act → Bool) (h : History) (k : Call) (r : Reply) → HoldingLaw G h → held h ≡ held (then h k (Ok r)) → names k ≡ None
    → HoldingLaw G (then h k (Ok r))
after_unnamed G h k r L same none = after_other G h (then h k (Ok r)) L same (λ i c. past_other (λ e. none-some i (sym none ∙ e)))

pub holding_law : (G : List Act → Bool) (code : ℕ) (h : History) → AllRight G code h → HoldingLaw G h
holding_law G code start R = record {
  ids = λ i c e. absurd (none-some c e);
  charts = λ i c e. absurd (none-some c e);
  same_parties = λ i c e. absurd (none-some c e);
  apart = λ i j c e k. absurd (none-some c e);
  talk = λ i c e. absurd (none-some c e);
  last_added = λ i c. (λ e. absurd (none-some c e), added_held);
}
holding_law G code (then h k (Err e)) R = after_other G h (then h k (Err e)) (holding_law G code h R.0) refl (λ i c. past_refused)
holding_law G code (then h (add i c) (Ok r)) R = after_add G h (holding_law G code h R.0) r i c R.1 (added G code h r i c R.2)
holding_law G code (then h (withdraw i) (Ok r)) R = after_withdraw G h (holding_law G code h R.0) r i
holding_law G code (then h (judge x y) (Ok r)) R = after_unnamed G h (judge x y) r (holding_law G code h R.0) refl refl
holding_law G code (then h begin (Ok r)) R = after_unnamed G h begin r (holding_law G code h R.0) refl refl
holding_law G code (then h (act p l e m) (Ok r)) R = after_unnamed G h (act p l e m) r (holding_law G code h R.0) refl refl
holding_law G code (then h end (Ok r)) R = after_unnamed G h end r (holding_law G code h R.0) refl refl
holding_law G code (then h abandon (Ok r)) R = after_unnamed G h abandon r (holding_law G code h R.0) refl refl
