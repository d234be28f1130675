-- `packet_write::connect_notification` meets its contract: the number is judged, then the two bytes are put. Assumes nothing.
use Rattle.std.proofs.Common.{[], ◌∷◌, leb}
use borrow.Author.Tests.{leb-true, leb-false}
use Rattle.refusal.specs.declared.Refusal.TheVariants.{NoSuchRoute}
use Rattle.packet_laws.specs.Table.{number_right}
use Rattle.packet_laws.specs.FromRelay.{FitsRelay, relay_bytes, connect_notice}
use Rattle.packet_laws.specs.Judged.{relay_judged}
use Rattle.packet_laws.proofs.Judged.{relay_connect_judged, relay_connect_number}
use Rattle.packet_write.specs.Written.{passed}
use Rattle.packet_write.proofs.WriteLaws.{accepted_writes, checked_writes}
use Rattle.packet_write.proofs.connect_notification.Goals as goal

pub returns : goal.returns
unfolding FitsRelay relay_bytes number_right
returns c =
    let n = c.args.number.0 in
    let judged = relay_judged (connect_notice n) in
    let bytes = 2 ∷ n ∷ [] in
    record {
      fits = c.well_formed.0.1.1.0.1;
      writes =
          checked_writes judged bytes c.args.out.now _ _ (leb 16 n) NoSuchRoute passed (λ e. relay_connect_number n (leb-false 16 n e))
          (λ e w. accepted_writes judged bytes c.args.out.now _ _ _ (relay_connect_judged n (leb-true 16 n e)) w) c.numbered.ensures;
    }
