-- `banavoge_relay_key` meets its contract: the key of the packet read, or the refusal. Assumes nothing.
use mathlib.Core.Path.{◌∙◌}
use mir.Syntax.{w32}
use mir.ValLaws.{to_z-of_z}
use Rattle.packet_laws.specs.FromClient.{relay_read, relay_key}
use Rattle.packet.proofs.RelayLaws.{relay_key_lem}
use Rattle.fields.specs.Fields.{client_fields}
use Rattle.banavoge_laws.proofs.Reading.{relay_found, relay_turned, tells_key, refuses_key}
use Rattle.banavoge.proofs.readers.banavoge_relay_key.Goals as goal

pub returns-in-Ok : goal.returns-in-Ok
returns-in-Ok c =
    let read = relay_read c.args.packet.now in
    let e = c.in-Ok.ensures.exact in
    tells_key client_fields read _ relay_key c.of_client.result _ _ (relay_found read c.in-Ok.shown c.of_client.result e c.of_client.ensures)
    (to_z-of_z w32 c.tell_key.result (record { sfits = c.tell_key.type_inv }) ∙ c.tell_key.ensures.value)
    (c.tell_key.ensures.key_after ∙ c.key.ensures ∙ relay_key_lem c.args.packet.now c.in-Ok.shown e)

pub returns-in-Err : goal.returns-in-Err
returns-in-Err c =
    let read = relay_read c.args.packet.now in
    refuses_key client_fields read _ relay_key c.in-Err.why _ (relay_turned read c.in-Err.why c.in-Err.ensures.exact)
    (to_z-of_z w32 c.refused.result (record { sfits = c.refused.type_inv }) ∙ c.refused.ensures)
