-- The family of a machine file and the family of the views do the same.
use Rattle.std.proofs.Common.{◌≡◌, ℕ, ◌<◌, Bool, true, List, [], ◌∷◌, ◌++◌, length, get_or, sym, refl, ap, ◌∙◌, subst}
use Rattle.acts.specs.declared.Act.{Act}
use Rattle.families.specs.Judgement.{Charts, View, LastView, NothingBreaks, Judgeable}
use Rattle.families.specs.Families.{Alike, tree, Precise, NoDeadEnd}
use Rattle.families.specs.Tests.{is_last}
use Rattle.families.specs.Theorems.{DoTheSame}
use Rattle.families.proofs.Kinding.{last_tells}
use Rattle.families.proofs.Matching.{alike_same}
use Rattle.families.proofs.Realize.{tree_precise, tree_lively}
use Rattle.numbering.specs.Numbering.{place, views_of}
use Rattle.numbering.proofs.Noting.{Placed, place_is}
use Rattle.machines.specs.Files.{machine_file_bytes}
use Rattle.machines.specs.Reading.{file_family}
use Rattle.machines.proofs.Commands.{by}
use Rattle.machines.proofs.Saying.{Leads, Ends, file_leads, leads_file, file_ends, ends_file}
use Rattle.machines.proofs.Views.{views_listing, view_before, view_placed, view_at_lem, view_act}

-- v is a view of the party, and q is its number
pub record Numbered (f : Charts) (p q : ℕ) (v : List Act) : Type 0 where
  pub view : View f p v
  pub number : place (views_of p f) v ≡ q

own_act : (p : ℕ) (a : Act) → a.party ≡ p → by p a ≡ a
own_act p a e = λ i. record { party = sym e i; letter = a.letter; peer = a.peer; name = a.name }

module _ (G : List Act → Bool) (n : ℕ) (f : Charts) (J : Judgeable G n f) (code : ℕ) where
  -- what stands at the number of a view
  numbered_at : (p q : ℕ) (v : List Act) → Numbered f p q v → (q < length (views_of p f)) × (get_or (views_of p f) q [] ≡ v)
  numbered_at p q v x =
      let y : Placed (views_of p f) v = view_placed G n f J p v x.view in (
        subst (λ (k : ℕ). k < length (views_of p f)) x.number y.below,
        subst (λ (k : ℕ). get_or (views_of p f) k [] ≡ v) x.number y.is,
      )

  numbered : (p q : ℕ) (v : List Act) → q < length (views_of p f) → get_or (views_of p f) q [] ≡ v → Numbered f p q v
  numbered p q v h e = record {
    view = subst (View f p) e (view_at_lem G n f J p q h);
    number = place_is (views_of p f) v (views_listing p f).apart q h e;
  }

  starts : (p : ℕ) → Numbered f p 0 []
  starts p = numbered p 0 [] (views_listing p f).some (views_listing p f).first

  -- a move of the file from the number of a view leads to the number of the lengthened view
  forth : (p q r : ℕ) (s : List Act) (a : Act) → Numbered f p q s → Leads (views_of p f) p q a r → Numbered f p r (s ++ (a ∷ []))
  forth p q r s a x y = numbered p r (s ++ (a ∷ [])) y.below (y.view ∙ (λ i. before i ++ (act i ∷ [])))
    where
      whole : View f p (y.before ++ (y.act ∷ []))
      whole = subst (View f p) y.view (view_at_lem G n f J p r y.below)

      act : y.act ≡ a
      act = sym (own_act p y.act (view_act G n f J p y.before y.act whole).1) ∙ sym y.is

      there : Numbered f p q y.before
      there = record { view = view_before f p y.before (y.act ∷ []) whole; number = sym y.from }

      before : y.before ≡ s
      before = sym (numbered_at p q y.before there).1 ∙ (numbered_at p q s x).1

  -- and where the lengthened view is one, the file has that move
  back : (p q : ℕ) (s : List Act) (a : Act) → Numbered f p q s → View f p (s ++ (a ∷ []))
      → Leads (views_of p f) p q a (place (views_of p f) (s ++ (a ∷ [])))
  back p q s a x v =
      let y : Placed (views_of p f) (s ++ (a ∷ [])) = view_placed G n f J p (s ++ (a ∷ [])) v in
      record {
        before = s;
        act = a;
        below = y.below;
        view = y.is;
        from = sym x.number;
        is = sym (own_act p a (view_act G n f J p s a v).1);
      }

  ends_last : (p q : ℕ) (s : List Act) → Numbered f p q s → Ends (views_of p f) (is_last f p) q → LastView f p s
  ends_last p q s x y =
      (last_tells f J.ids p s).0 (subst (λ (v : List Act). is_last f p v ≡ true) (numbered_at p q s x).1 y.passes)

  last_ends : (p q : ℕ) (s : List Act) → Numbered f p q s → LastView f p s → Ends (views_of p f) (is_last f p) q
  last_ends p q s x l = record {
    below = (numbered_at p q s x).0;
    passes = subst (λ (v : List Act). is_last f p v ≡ true) (sym (numbered_at p q s x).1) ((last_tells f J.ids p s).1 l);
  }

  -- views and their numbers do the same
  pub file_alike : Alike n (file_family (machine_file_bytes code n f)) (tree f) (Numbered f)
  file_alike = record {
    starts = λ p h. starts p;
    forth = λ p h q r s a x m.
        let y = forth p q r s a x (file_leads code n f p q a r m) in
        (s ++ (a ∷ []), (refl, y.view), y);
    back = λ p h q s t a x m.
        let v : View f p (s ++ (a ∷ [])) = subst (View f p) (sym m.0) m.1 in (
          place (views_of p f) (s ++ (a ∷ [])),
          leads_file code n f p q a (place (views_of p f) (s ++ (a ∷ []))) h (back p q s a x v),
          record { view = m.1; number = ap (place (views_of p f)) (sym m.0) },
        );
    final = λ p h q s x. (
      λ m. ends_last p q s x (file_ends code n f p q m),
      λ l. ends_file code n f p q h (last_ends p q s x l),
    );
  }

  pub file_same : DoTheSame (file_family (machine_file_bytes code n f)) (tree f) G n
  file_same = alike_same n (file_family (machine_file_bytes code n f)) (tree f) (Numbered f) file_alike G

  pub file_tells : NothingBreaks G f
      → Precise (file_family (machine_file_bytes code n f)) G n f × NoDeadEnd (file_family (machine_file_bytes code n f)) G n
  file_tells ok = ((file_same.precise f).1 (tree_precise G n f J ok), file_same.no_dead_end.1 (tree_lively G n f J ok))
