use Rattle.std.proofs.Common.{◌≡◌, ℕ, Bool, cond, List, [], ◌∷◌, length, deque_items, refl, ap, arith, rules}
use Rattle.std.proofs.lemmas.List.{nil_from_length}
use Rattle.std.proofs.lemmas.Bool.{eq-eqb}
use Rattle.channel.specs.Pairs.{times}
use Rattle.channel.proofs.queue.QueueStore.is_empty.Goals as goal

no_name : (x : List ℕ) → ((m : ℕ) → times m x ≡ 0) → length x ≡ 0
no_name [] z = refl
no_name (k ∷ x) z = absurd (let e = z k in let f = ap (λ (b : Bool). cond {A = ℕ} b 1 0) (eq-eqb k k refl) in omega arith)

pub returns : goal.returns
returns c =
    let names = deque_items c.args.self.now.names in (
      λ e. λ m. ap (times m) (nil_from_length names (search rules)),
      λ z. let k = no_name names z in search rules,
    )
