-- `packet_write::pinging` meets its contract: the number is judged, then put. Assumes nothing.
use Rattle.std.proofs.Common.{◌∷◌, not, ◌∙◌, ap}
use lib.Dec.{eqb}
use borrow.Author.Tests.{ne_eqb}
use Rattle.wire.specs.Numbers.{bytes_of}
use Rattle.refusal.specs.declared.Refusal.TheVariants.{ZeroPing}
use Rattle.packet_write.specs.Written.{passed}
use Rattle.packet_write.proofs.WriteLaws.{be_bytes, check_passes}
use Rattle.packet_write.proofs.pinging.Goals as goal

pub returns : goal.returns
returns c =
    let a = c.args in
    check_passes (a.kind ∷ bytes_of 8 a.number) a.out.now (not (eqb a.number 0)) ZeroPing passed _ _ (ap not (ne_eqb a.number 0 c.if-number-eq0.false))
    (rw (c.to_be_bytes.ensures ∙ be_bytes a.number) at c.put.ensures)
