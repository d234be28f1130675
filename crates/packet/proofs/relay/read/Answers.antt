-- `packet::relay::read` meets its contract: the checks that both ends make, and then what was read. Assumes nothing.
use Rattle.std.proofs.Common.{rules, ◌≡◌, ◌∙◌, sym, ap, ℕ, drop}
use Rattle.std.specs.Prelude.{Err}
use Rattle.packet_laws.specs.Read.{packet}
use Rattle.packet_laws.specs.Table.{kind_of, body_of, relay_takes}
use Rattle.packet_laws.specs.FromClient.{from_client, relay_read}
use Rattle.packet.specs.RelayReads.{shown_client}
use Rattle.packet.proofs.CheckedLaws.{kind_passes, kind_fails}
use Rattle.packet.proofs.RelayLaws.{relay_reads_refused, relay_reads_packet}
use Rattle.packet.proofs.relay.read.Goals as goal

pub returns-in_err-kind : goal.returns-in_err-kind
unfolding relay_read
returns-in_err-kind c =
    let e : c.from_residual.result ≡ Err c.in_err-kind.field-0.0 = search rules in
    let f = kind_fails relay_takes c.args.packet.now (packet (from_client (kind_of c.args.packet.now) (body_of c.args.packet.now))) c.in_err-kind.field-0.0 (sym (c.checked.ensures relay_takes (λ _ _ e. e)) ∙ c.in_err-kind.was) in
    rw e (relay_reads_refused c.args.packet.now c.in_err-kind.field-0.0 f)

pub shown-requires : goal.shown-requires
shown-requires c =
    let p = kind_passes relay_takes c.args.packet.now c.in_ok-kind.kind (sym (c.checked.ensures relay_takes (λ _ _ e. e)) ∙ c.in_ok-kind.was) in
    rw p.0 p.1.long

pub returns : goal.returns
unfolding body_of
returns c =
    let p = kind_passes relay_takes c.args.packet.now c.in_ok-kind.kind (sym (c.checked.ensures relay_takes (λ _ _ e. e)) ∙ c.in_ok-kind.was) in
    relay_reads_packet c.args.packet.now c.shown.result p.1 (c.shown.ensures ∙ ap (λ (k : ℕ). shown_client (from_client k (drop 1 c.args.packet.now))) p.0)
