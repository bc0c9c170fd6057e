use Rattle.std.proofs.Common.{◌++◌, take, drop, ap, sym, ◌∙◌, subst}
use Rattle.std.proofs.Math.Seq.{take-add}
use Rattle.std.specs.Io.KnownBytes.{Consumes}
use Rattle.std.proofs.KnownBytes.{Consumes-trans}
use Rattle.input.proofs.front.Goals as goal

-- what came before still stands, and what came now stands after it
pub loop-length-preserved : goal.loop-length-preserved
loop-length-preserved g c =
    let now = c.in_ok-more.ensures in
    let came = c.loop-length.length in
    let more = c.in_ok-more.more in
    let bytes = c.read_at.new.buffer in
    let parts = take-add came more bytes ∙ ap (λ l. l ++ take more (drop came bytes)) now.front in
    (now.fits, subst (Consumes _ _) (sym parts) (Consumes-trans _ _ _ _ _ c.loop-length.invariant.1 now.bytes))
