-- In a play: which acts are granted, and how it goes on to an end.
use Rattle.std.proofs.Common.{◌≡◌, ℕ, zero, suc, ◌<◌, Bool, true, false, cond, eqb, List, [], ◌∷◌, ◌++◌, length, is_some, Some, None, Ok, Option, sym, refl, ap, ◌∙◌, subst, inl, inr, append_assoc, append-nil, arith}
use Rattle.std.proofs.lemmas.Bool.{false≢true, both_ways, or_cases, eqb-true}
use Rattle.acts.specs.declared.Act.{Act}
use Rattle.acts.specs.declared.Letter.{Letter}
use Rattle.acts.specs.declared.Letter.TheVariants.{Send, Receive}
use Rattle.acts.specs.Acts.{InRange, part, Quiet, Lines, line, byte_of_letter}
use Rattle.acts.proofs.Parts.{part_own, part-++}
use Rattle.files.specs.Rules.{is_act, letter_of}
use Rattle.channel.specs.Meaning.{Lawful}
use Rattle.conversation.specs.Conversations.{Conversation}
use Rattle.families.specs.Judgement.{Charts, View, LastView, Local, HeldConversation}
use Rattle.families.specs.Tests.{some_below, passes, agrees}
use Rattle.families.proofs.Ranges.{all_right}
use Rattle.families.proofs.Agreement.{local_range, begins-agrees}
use Rattle.families.proofs.Kinding.{agreeing_tells, held_or_cc2, begins_or_cc3}
use Rattle.numbering.specs.Masks.{one, passing}
use Rattle.histories.specs.History.{act, end, Reply, count, named, History, then, held, playing, played, carried_by, act_of, parties}
use Rattle.histories.specs.Right.{Right, AllRight, IsInPlay, agreeing}
use Rattle.histories.specs.Law.{calling, stays, goes, CanEnd, PlayLaw}
use Rattle.histories.proofs.Granting.{Acted, acted, Ending, ending}
use Rattle.histories.proofs.Standing.{Sound, standing_sound}
use Rattle.histories.proofs.Playing.{local_more, Played, play_local}

-- a letter and its byte
letter_back : (l : Letter) → letter_of (byte_of_letter l) ≡ l
letter_back Send = refl
letter_back Receive = refl

letter_is : (l : Letter) → is_act (byte_of_letter l) ≡ true
letter_is Send = refl
letter_is Receive = refl

byte_by : (b : Bool) (l : ℕ) → (b ≡ true → l ≡ 83) → (b ≡ false → l ≡ 82) → byte_of_letter (cond b Send Receive) ≡ l
byte_by true l s r = sym (s refl)
byte_by false l s r = sym (r refl)

byte_back : (l : ℕ) → is_act l ≡ true → byte_of_letter (letter_of l) ≡ l
byte_back l e = byte_by (eqb l 83) l (eqb-true l 83) other
  where
    other : eqb l 83 ≡ false → l ≡ 82
    other n = elim (or_cases (eqb l 83) (eqb l 82) e) [
      | inl y ↦ absurd (both_ways (eqb l 83) n y)
      | inr y ↦ eqb-true l 82 y
    ]

-- the act that the call of an act names is that act
pub act_back : (a : Act) → act_of a.party (byte_of_letter a.letter) a.peer a.name ≡ a
act_back a = λ i. record { party = a.party; letter = letter_back a.letter i; peer = a.peer; name = a.name }

call_back : (p l e m : ℕ) → is_act l ≡ true → calling (act_of p l e m) ≡ act p l e m
call_back p l e m h = ap (λ (b : ℕ). act p b e m) (byte_back l h)

-- some number that passes is counted
counts : (t : ℕ → Bool) (k : ℕ) → some_below k t ≡ true → 0 < passing t k
counts t zero e = absurd (false≢true e)
counts t (suc k) e = elim (or_cases (some_below k t) (t k) e) [
  | inl x ↦ let r = counts t k x in omega arith
  | inr x ↦ let r : one (t k) ≡ 1 = ap one x in omega arith
]

-- where nothing breaks, some chart agrees with a local list
some-agrees : (G : List Act → Bool) (f : Charts) (w : List Act) → Sound G f → Local G f w → 0 < agreeing f w
unfolding agreeing
some-agrees G f w S l = elim (begins_or_cc3 G (parties f) f S.judged w l) [
  | inl b ↦ counts (λ i. passes (agrees w) (f i)) 8
      ((agreeing_tells G (parties f) f S.judged w l).1 (begins-agrees G (parties f) f S.judged w b))
  | inr b ↦ absurd ((S.unbroken w).1 b)
]

-- a play with the acts w goes on by one more
on_played : (o : Option (List Act)) (a : Act) → is_some o ≡ true → carried_by (played o a) ≡ carried_by o ++ (a ∷ [])
on_played None a e = absurd (false≢true e)
on_played (Some w) a e = refl

still_on : (o : Option (List Act)) (a : Act) → is_some o ≡ true → is_some (played o a) ≡ true
still_on None a e = absurd (false≢true e)
still_on (Some w) a e = refl

is_carried : (o : Option (List Act)) → is_some o ≡ true → o ≡ Some (carried_by o)
is_carried None e = absurd (false≢true e)
is_carried (Some w) e = refl

-- a part of a list that begins a conversation begins the line
part-begins : (c : Lines) (w x : List Act) (a : Act) → part a.party (w ++ (a ∷ x)) ≡ line c a.party
    → (part a.party w ++ (a ∷ [])) ++ part a.party x ≡ line c a.party
part-begins c w x a e =
    append_assoc (part a.party w) (a ∷ []) (part a.party x)
    ∙ ap (λ (v : List Act). part a.party w ++ v) (sym (part_own a.party a x refl))
    ∙ sym (part-++ a.party w (a ∷ x))
    ∙ e

module _ (G : List Act → Bool) (lawful : Lawful G) (code : ℕ) where
  module _ (h : History) (R : AllRight G code h) (on : IsInPlay h) where
    so_far : Played G h (carried_by (playing h))
    so_far = play_local G lawful code h R (carried_by (playing h)) (is_carried (playing h) on)

    sound : Sound G (held h)
    sound = standing_sound G lawful code h R so_far.stands

    -- the bytes of an act that lengthens its party's part to a view, and that the channel grants
    grant : (p l e m : ℕ) → is_act l ≡ true → View (held h) p (part p (carried_by (playing h)) ++ (act_of p l e m ∷ []))
        → G (carried_by (playing h) ++ (act_of p l e m ∷ [])) ≡ true
        → (k : ℕ) × (0 < k) × Right G code h (act p l e m) (Ok (count k))
    grant p l e m letter v g = (
      agreeing (held h) (carried_by (playing h) ++ (a ∷ [])),
      some-agrees G (held h) (carried_by (playing h) ++ (a ∷ [])) sound local,
      inr (
        λ z. both_ways (is_some (playing h)) z on,
        inr (
          λ z. let b = range.party in omega arith,
          inr (
            λ z. both_ways (is_act l) z letter,
            inr (
              elim [ inl z ↦ (let b = range.peer in omega arith) | inr z ↦ range.apart z ],
              inr (
                λ z. let b = range.name in omega arith,
                inr (λ z. z v, inr (λ z. both_ways (G (carried_by (playing h) ++ (a ∷ []))) z g, (v, refl))),
              ),
            ),
          ),
        ),
      ),
    )
      where
        a : Act
        a = act_of p l e m

        local : Local G (held h) (carried_by (playing h) ++ (act_of p l e m ∷ []))
        local = local_more G (held h) (carried_by (playing h)) (act_of p l e m) so_far.local v g

        range : InRange (parties (held h)) (act_of p l e m)
        range = (all_right (InRange (parties (held h))) (carried_by (playing h)) (act_of p l e m ∷ [])
            (local_range G (parties (held h)) (held h) sound.judged (carried_by (playing h) ++ (act_of p l e m ∷ [])) local)).0

    grant_act : (a : Act) → View (held h) a.party (part a.party (carried_by (playing h)) ++ (a ∷ []))
        → G (carried_by (playing h) ++ (a ∷ [])) ≡ true → (k : ℕ) × (0 < k) × Right G code h (calling a) (Ok (count k))
    grant_act a v g =
        grant a.party (byte_of_letter a.letter) a.peer a.name (letter_is a.letter)
        (subst (λ (b : Act). View (held h) a.party (part a.party (carried_by (playing h)) ++ (b ∷ []))) (sym (act_back a)) v)
        (subst (λ (b : Act). G (carried_by (playing h) ++ (b ∷ [])) ≡ true) (sym (act_back a)) g)

    only_grant : (p l e m : ℕ) (r : Reply) → Right G code h (act p l e m) (Ok r)
        → (a : Act) × (calling a ≡ act p l e m) × View (held h) a.party (part a.party (carried_by (playing h)) ++ (a ∷ []))
        × (G (carried_by (playing h) ++ (a ∷ [])) ≡ true)
    only_grant p l e m r x =
        let A : Acted G h p l e m = acted G code h r p l e m x in
        (act_of p l e m, call_back p l e m A.letter, A.view, A.granted)

    -- a play that is a conversation ends
    ends : HeldConversation G (held h) (carried_by (playing h))
        → (id : ℕ) × Right G code h end (Ok (named id (length (carried_by (playing h)))))
    ends x = (
      x.id,
      inr (
        λ z. both_ways (is_some (playing h)) z on,
        inr (
          λ z. z.1.this (record { id = x.id; chart = x.chart; held = x.held; fits = x.fits.lines z.0 }),
          inr (
            λ z. z x.fits.quiet,
            (x.fits.quiet, (x.id, record { chart = x.chart; held_there = x.held; lines = x.fits.lines }, refl)),
          ),
        ),
      ),
    )

    at_end : Quiet (carried_by (playing h)) → ((p : ℕ) → LastView (held h) p (part p (carried_by (playing h))))
        → (id : ℕ) × Right G code h end (Ok (named id (length (carried_by (playing h)))))
    at_end q last =
        elim (held_or_cc2 G (parties (held h)) (held h) sound.judged (carried_by (playing h)) so_far.local q last) [
          | inl x ↦ ends x
          | inr b ↦ absurd ((sound.unbroken (carried_by (playing h))).0 b)
        ]

    end_names : (r : Reply) → Right G code h end (Ok r)
        → (id : ℕ) × (c : Lines) × (r ≡ named id (length (carried_by (playing h)))) × (held h id ≡ Some c) × Conversation G c (carried_by (playing h))
    end_names r x =
        let E : Ending h r = ending G code h r x in (
          E.id,
          E.lines.chart,
          E.is,
          E.lines.held_there,
          record { granted = so_far.local.granted; quiet = E.quiet; lines = E.lines.lines },
        )

  -- along the rest x of a held conversation each act is granted, and end after them
  finish : (x : List Act) (h : History) → AllRight G code h → IsInPlay h → HeldConversation G (held h) (carried_by (playing h) ++ x) → CanEnd G code h
  finish [] h R on v =
      let e = ends h R on (subst (HeldConversation G (held h)) (append-nil (carried_by (playing h))) v) in
      record { further = []; after = h; on = stays; id = e.0; acts = length (carried_by (playing h)); ends = e.1 }
  finish (a ∷ x) h R on v =
      let w : List Act = carried_by (playing h) in
      let b : Act = act_of a.party (byte_of_letter a.letter) a.peer a.name in
      let view : View (held h) a.party (part a.party w ++ (a ∷ [])) =
      record {
        id = v.id;
        chart = v.chart;
        held = v.held;
        fits = (part a.party x, part-begins v.chart w x a (v.fits.lines a.party));
      } in
      let longer : (w ++ (a ∷ [])) ++ x ≡ w ++ (a ∷ x) = append_assoc w (a ∷ []) x in
      let granted : G (w ++ (a ∷ [])) ≡ true = lawful.diamond.beginning (w ++ (a ∷ [])) x (ap G longer ∙ v.fits.granted) in
      let k = grant_act h R on a view granted in
      let g : History = then h (calling a) (Ok (count k.0)) in
      let now : carried_by (playing g) ≡ w ++ (a ∷ []) =
      on_played (playing h) b on ∙ ap (λ (c : Act). w ++ (c ∷ [])) (act_back a) in
      let rest : CanEnd G code g =
      finish x g (R, tt, k.2) (still_on (playing h) b on)
      (subst (HeldConversation G (held h)) (sym (ap (λ (u : List Act). u ++ x) now ∙ longer)) v) in
      record {
        further = a ∷ rest.further;
        after = rest.after;
        on = goes k.0 k.2 rest.on;
        id = rest.id;
        acts = rest.acts;
        ends = rest.ends;
      }

  can_end : (h : History) → AllRight G code h → IsInPlay h → CanEnd G code h
  can_end h R on =
      let w : List Act = carried_by (playing h) in
      let S : Sound G (held h) = sound h R on in
      elim (begins_or_cc3 G (parties (held h)) (held h) S.judged w (so_far h R on).local) [
        | inl b ↦ finish b.0 h R on b.1
        | inr b ↦ absurd ((S.unbroken w).1 b)
      ]

  pub play_law : (h : History) → AllRight G code h → (w : List Act) → playing h ≡ Some w → PlayLaw G code h w
  play_law h R w e = subst (PlayLaw G code h) (ap carried_by e) (record {
    granted = grant_act h R on;
    only_granted = only_grant h R on;
    can_end = can_end h R on;
    at_end = at_end h R on;
    end_names = end_names h R on;
  })
    where
      on : IsInPlay h
      on = ap is_some e
