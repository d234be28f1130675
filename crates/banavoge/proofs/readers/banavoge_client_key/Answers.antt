-- `banavoge_client_key` meets its contract: the key of the packet read, or the refusal. Assumes nothing.
use mathlib.Core.Path.{◌∙◌}
use mir.Syntax.{w32}
use mir.ValLaws.{to_z-of_z}
use Rattle.packet_laws.specs.FromRelay.{client_read, client_key}
use Rattle.packet.proofs.ClientLaws.{client_key_lem}
use Rattle.fields.specs.Fields.{relay_fields}
use Rattle.banavoge_laws.proofs.Reading.{client_found, client_turned, tells_key, refuses_key}
use Rattle.banavoge.proofs.readers.banavoge_client_key.Goals as goal

pub returns-in-Ok : goal.returns-in-Ok
returns-in-Ok c =
    let read = client_read c.args.packet.now in
    let e = c.in-Ok.ensures.exact in
    tells_key relay_fields read _ client_key c.of_relay.result _ _ (client_found read c.in-Ok.shown c.of_relay.result e c.of_relay.ensures)
    (to_z-of_z w32 c.tell_key.result (record { sfits = c.tell_key.type_inv }) ∙ c.tell_key.ensures.value)
    (c.tell_key.ensures.key_after ∙ c.key.ensures ∙ client_key_lem c.args.packet.now c.in-Ok.shown e)

pub returns-in-Err : goal.returns-in-Err
returns-in-Err c =
    let read = client_read c.args.packet.now in
    refuses_key relay_fields read _ client_key c.in-Err.why _ (client_turned read c.in-Err.why c.in-Err.ensures.exact)
    (to_z-of_z w32 c.refused.result (record { sfits = c.refused.type_inv }) ∙ c.refused.ensures)
