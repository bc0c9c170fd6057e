-- Paths of machines, and those of the family of the views.
use Rattle.std.proofs.Common.{◌≡◌, ℕ, List, [], ◌∷◌, ◌++◌, Some, sym, refl, ap, ◌∙◌, subst, append_assoc, append-nil}
use Rattle.acts.specs.declared.Act.{Act}
use Rattle.acts.specs.Acts.{Beginning, Lines, line}
use Rattle.families.specs.Judgement.{Charts, View}
use Rattle.families.specs.Families.{Machines, Path, stay, move, tree}

-- the first move of a path
pub record Step (M : Machines) (p : ℕ) (q : M.Place p) (a : Act) (l : List Act) (s : M.Place p) : Type 0 where
  pub next : M.Place p
  pub by : M.Moves p q a next
  pub rest : Path M p next l s

pub step : (M : Machines) (p : ℕ) (q : M.Place p) (a : Act) (l : List Act) (s : M.Place p) → Path M p q (a ∷ l) s → Step M p q a l s
step M p q a l s (move {r = r} m k) = record { next = r; by = m; rest = k }

-- a path along two lists passes a place between them
pub record Parted (M : Machines) (p : ℕ) (q : M.Place p) (x y : List Act) (s : M.Place p) : Type 0 where
  pub mid : M.Place p
  pub to : Path M p q x mid
  pub on : Path M p mid y s

pub parted : (M : Machines) (p : ℕ) (x y : List Act) (q s : M.Place p) → Path M p q (x ++ y) s → Parted M p q x y s
parted M p [] y q s k = record { mid = q; to = stay; on = k }
parted M p (a ∷ x) y q s k =
    let t : Step M p q a (x ++ y) s = step M p q a (x ++ y) s k in
    let r : Parted M p t.next x y s = parted M p x y t.next s t.rest in
    record { mid = r.mid; to = move t.by r.to; on = r.on }

pub joined : (M : Machines) (p : ℕ) {q m s : M.Place p} {x : List Act} (y : List Act) → Path M p q x m → Path M p m y s → Path M p q (x ++ y) s
joined M p y stay k = k
joined M p y (move t r) k = move t (joined M p y r k)

-- in the family of the views a path ends at what it has gone along
pub tree_end : (f : Charts) (p : ℕ) {q s : List Act} {l : List Act} → Path (tree f) p q l s → q ++ l ≡ s
tree_end f p (stay {q = q}) = append-nil q
tree_end f p (move {q = q} {a = a} {l = l} m k) =
    sym (append_assoc q (a ∷ []) l) ∙ ap (λ (v : List Act). v ++ l) m.0 ∙ tree_end f p k

pub tree_view : (f : Charts) (p : ℕ) {q s : List Act} {l : List Act} → Path (tree f) p q l s → View f p q → View f p s
tree_view f p stay v = v
tree_view f p (move m k) v = tree_view f p k m.1

-- and there is a path along every beginning of a line
pub tree_path : (f : Charts) (p i : ℕ) (c : Lines) → f i ≡ Some c → (l q s : List Act) → q ++ l ≡ s → Beginning s (line c p)
    → Path (tree f) p q l s
tree_path f p i c h [] q s e b = subst (λ (v : List Act). Path (tree f) p q [] v) (sym (append-nil q) ∙ e) stay
tree_path f p i c h (a ∷ l) q s e b =
    let x : List Act = q ++ (a ∷ []) in
    let e' : x ++ l ≡ s = append_assoc q (a ∷ []) l ∙ e in
    let v : View f p x = record {
      id = i;
      chart = c;
      held = h;
      fits = (l ++ b.0, sym (append_assoc x l b.0) ∙ ap (λ (v : List Act). v ++ b.0) e' ∙ b.1);
    } in
    move {r = x} (refl, v) (tree_path f p i c h l x s e' b)
