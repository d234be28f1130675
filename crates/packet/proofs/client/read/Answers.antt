-- `packet::client::read` meets its contract: the checks that both ends make, then the number's, and then what was read. Assumes nothing.
use Rattle.std.proofs.Common.{rules, arith, ◌≡◌, ◌∙◌, sym, ap, true, ℕ, get_or, drop}
use Rattle.std.specs.Prelude.{Err}
use Rattle.refusal.specs.declared.Refusal.TheVariants.{NoSuchRoute}
use Rattle.packet_laws.specs.Read.{packet, check}
use Rattle.packet_laws.specs.Table.{kind_of, body_of, client_takes, number_right}
use Rattle.packet_laws.specs.FromRelay.{from_relay, client_read}
use Rattle.packet_laws.proofs.KindLaws.{length_two}
use Rattle.packet_laws.proofs.ClientKinds.{client_fails_number}
use Rattle.packet.specs.ClientReads.{shown_relay}
use Rattle.packet.proofs.CheckedLaws.{kind_passes, kind_fails}
use Rattle.packet.proofs.ClientLaws.{client_reads_refused, client_reads_packet}
use Rattle.packet.proofs.client.read.Goals as goal

pub returns-in_err-kind : goal.returns-in_err-kind
unfolding client_read
returns-in_err-kind c =
    let b = c.args.packet.now in
    let why = c.in_err-kind.field-0.0 in
    let e : c.from_residual.result ≡ Err why = search rules in
    let after = check (number_right (kind_of b) (get_or b 1 0)) NoSuchRoute (packet (from_relay (kind_of b) (body_of b))) in
    rw e (client_reads_refused b why (kind_fails client_takes b after why (sym (c.checked.ensures client_takes (λ _ _ e. e)) ∙ c.in_err-kind.was)))

pub bounds-packet-1 : goal.bounds-packet-1
bounds-packet-1 c =
    let p = kind_passes client_takes c.args.packet.now c.in_ok-kind.kind (sym (c.checked.ensures client_takes (λ _ _ e. e)) ∙ c.in_ok-kind.was) in
    let h = length_two _ _ p.1.long in
    omega arith

pub returns-then-not-number_right : goal.returns-then-not-number_right
returns-then-not-number_right c =
    let b = c.args.packet.now in
    let p = kind_passes client_takes b c.in_ok-kind.kind (sym (c.checked.ensures client_takes (λ _ _ e. e)) ∙ c.in_ok-kind.was) in
    client_reads_refused b NoSuchRoute (client_fails_number b p.1 (ap (λ (k : ℕ). number_right k (get_or b 1 0)) (sym p.0) ∙ sym c.number_right.ensures ∙ c.if-not-number_right.true))

pub shown-requires : goal.shown-requires
shown-requires c =
    let p = kind_passes client_takes c.args.packet.now c.in_ok-kind.kind (sym (c.checked.ensures client_takes (λ _ _ e. e)) ∙ c.in_ok-kind.was) in
    rw p.0 p.1.long

pub returns : goal.returns
unfolding body_of
returns c =
    let b = c.args.packet.now in
    let p = kind_passes client_takes b c.in_ok-kind.kind (sym (c.checked.ensures client_takes (λ _ _ e. e)) ∙ c.in_ok-kind.was) in
    let n : number_right (kind_of b) (get_or b 1 0) ≡ true = ap (λ (k : ℕ). number_right k (get_or b 1 0)) (sym p.0) ∙ sym c.number_right.ensures ∙ c.if-not-number_right.false in
    client_reads_packet b c.shown.result (record { both = p.1; number = n }) (c.shown.ensures ∙ ap (λ (k : ℕ). shown_relay (from_relay k (drop 1 b))) p.0)
