use Rattle.std.proofs.Common.{◌≡◌, length}
use Rattle.std.specs.List.{AllWithin}
use Rattle.channel.proofs.link.LinkChannel.clear.Given as goal

abbrev pub invariant-loop-store : goal.invariant-loop-store
invariant-loop-store g l =
    (length l.store-items ≡ 36) × AllWithin (λ x. g.S.Store.held x ≡ g.S.Store.way.none) l.store-items 0 l.store-index
