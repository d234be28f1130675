-- What a reader of `packet` promises, carried over to the exported one. Assumes nothing.
use mathlib.Core.Path.{◌≡◌, ◌∙◌, refl, sym, ap, subst}
use mathlib.Core.List.{List}
use Prim.Native.Nat.{ℕ}
use lib.IntN.{ℤ, pos}
use Rattle.refusal.specs.declared.Refusal.{Refusal}
use Rattle.std.proofs.Common.{Result, Ok, Err, MatchResult, IsOkAnd}
use Rattle.packet.specs.declared.relay.ClientPacket as relay-packet
use Rattle.packet.specs.declared.client.RelayPacket as client-packet
use Rattle.packet_laws.specs.Read.{Read, packet, refused}
use Rattle.packet_laws.specs.FromClient as client
use Rattle.packet_laws.specs.FromRelay as relay
use Rattle.packet.specs.RelayReads.{shown_relay_read, shown_client}
use Rattle.packet.specs.ClientReads.{shown_client_read, shown_relay}
use Rattle.fields.specs.declared.Fields.{Fields}
use Rattle.banavoge_laws.specs.Answers.{refusal_code}
use Rattle.fields.proofs.FieldsShown.{client_fields_shown, relay_fields_shown}
use Rattle.fields.specs.Fields.{client_fields, relay_fields, client_shown, relay_shown}
use Rattle.banavoge_laws.specs.Fields.{Places, places_of, read_code, places_after, key_after, ReadsFields, ReadsKey}

-- ---- at either end: a packet was read, and these are its fields; or none was

pub record Found {A : Type 0} (fields_of : A → Fields) (read : Read A) (f : Fields) : Type 0 where
  found : A
  is : read ≡ packet found
  fields : f ≡ fields_of found

module _ {A : Type 0} (fields_of : A → Fields) (read : Read A) (z : ℤ) where
  code_found : (f : Fields) → Found fields_of read f → z ≡ pos f.kind → z ≡ read_code fields_of read
  unfolding read_code
  code_found f w e = e ∙ ap (λ (g : Fields). pos g.kind) w.fields ∙ sym (ap (read_code fields_of) w.is)

  code_turned : (why : Refusal) → read ≡ refused why → z ≡ refusal_code why → z ≡ read_code fields_of read
  unfolding read_code
  code_turned why w e = e ∙ sym (ap (read_code fields_of) w)

  pub tells : (f : Fields) (before after : Places) → Found fields_of read f → z ≡ pos f.kind → after ≡ places_of f → ReadsFields fields_of read z before after
  unfolding places_after
  tells f before after w e a = record {
    answers = code_found f w e;
    leaves = a ∙ ap places_of w.fields ∙ sym (ap (λ (r : Read A). places_after fields_of r before) w.is);
  }

  pub refuses : (why : Refusal) (before : Places) → read ≡ refused why → z ≡ refusal_code why → ReadsFields fields_of read z before before
  unfolding places_after
  refuses why before w e = record { answers = code_turned why w e; leaves = sym (ap (λ (r : Read A). places_after fields_of r before) w) }

  module _ (key_in : Read A → List ℕ) where
    pub tells_key : (f : Fields) (before after : List ℕ) → Found fields_of read f → z ≡ pos f.kind → after ≡ key_in read → ReadsKey fields_of key_in read z before after
    unfolding key_after
    tells_key f before after w e a = record {
      answers = code_found f w e;
      leaves = a ∙ ap key_in w.is ∙ sym (ap (λ (r : Read A). key_after key_in r before) w.is);
    }

    pub refuses_key : (why : Refusal) (before : List ℕ) → read ≡ refused why → z ≡ refusal_code why → ReadsKey fields_of key_in read z before before
    unfolding key_after
    refuses_key why before w e = record { answers = code_turned why w e; leaves = sym (ap (λ (r : Read A). key_after key_in r before) w) }

-- what a reader answers, with the fields of what it shows; and what is told of these fields
module _ {A S : Type 0} (fields_of : A → Fields) (read : Read A) (answer : Result S Refusal) (fields_shown : S → Fields)
    (shows : (s : S) (f : Fields) → answer ≡ Ok s → f ≡ fields_shown s → Found fields_of read f) (turns : (why : Refusal) → answer ≡ Err why → read ≡ refused why) where
  told : (given : Result Fields Refusal) (z : ℤ) (before after : Places) → MatchResult answer (λ s. IsOkAnd given (λ f. f ≡ fields_shown s)) (λ why. given ≡ Err why)
      → MatchResult given (λ f. (z ≡ pos f.kind) × (after ≡ places_of f)) (λ why. (z ≡ refusal_code why) × (after ≡ before)) → ReadsFields fields_of read z before after
  told given z before after m t = go answer refl m given refl t
    where
      go : (x : Result S Refusal) → answer ≡ x → MatchResult x (λ s. IsOkAnd given (λ f. f ≡ fields_shown s)) (λ why. given ≡ Err why) → (y : Result Fields Refusal) → given ≡ y
          → MatchResult y (λ f. (z ≡ pos f.kind) × (after ≡ places_of f)) (λ why. (z ≡ refusal_code why) × (after ≡ before)) → ReadsFields fields_of read z before after
      go (Ok s) e m (Ok f) g t = let is : f ≡ fields_shown s = rw g at m in tells fields_of read z f before after (shows s f e is) t.0 t.1
      go (Ok s) e m (Err why) g t = absurd (rw g at m)
      go (Err why) e m (Ok f) g t = absurd (cc)
      go (Err why) e m (Err other) g t =
          let q : other ≡ why = cc in
          subst (λ (x : Places). ReadsFields fields_of read z before x) (sym t.1) (refuses fields_of read z why before (turns why e) (t.0 ∙ ap refusal_code q))

-- ---- the relay's reader

pub relay_found : (read : Read client.FromClient) (shown : relay-packet.ClientPacket) (f : Fields) → Ok shown ≡ shown_relay_read read → f ≡ client_shown shown → Found client_fields read f
unfolding shown_relay_read
relay_found (packet p) shown f r e =
    let q : shown ≡ shown_client p = cc in
    record { found = p; is = refl; fields = e ∙ ap client_shown q ∙ client_fields_shown p }
relay_found (refused why) shown f r e = absurd (cc)

pub relay_turned : (read : Read client.FromClient) (why : Refusal) → Err why ≡ shown_relay_read read → read ≡ refused why
unfolding shown_relay_read
relay_turned (packet p) why r = absurd (cc)
relay_turned (refused x) why r = let q : x ≡ why = cc in ap refused q

pub relay_told : (read : Read client.FromClient) (answer : Result relay-packet.ClientPacket Refusal) (given : Result Fields Refusal) (z : ℤ) (before after : Places)
    → answer ≡ shown_relay_read read → MatchResult answer (λ s. IsOkAnd given (λ f. f ≡ client_shown s)) (λ why. given ≡ Err why)
    → MatchResult given (λ f. (z ≡ pos f.kind) × (after ≡ places_of f)) (λ why. (z ≡ refusal_code why) × (after ≡ before)) → ReadsFields client_fields read z before after
relay_told read answer given z before after e =
    told client_fields read answer client_shown (λ s f q. relay_found read s f (sym q ∙ e)) (λ why q. relay_turned read why (sym q ∙ e)) given z before after

-- ---- the client's reader

pub client_found : (read : Read relay.FromRelay) (shown : client-packet.RelayPacket) (f : Fields) → Ok shown ≡ shown_client_read read → f ≡ relay_shown shown → Found relay_fields read f
unfolding shown_client_read
client_found (packet p) shown f r e =
    let q : shown ≡ shown_relay p = cc in
    record { found = p; is = refl; fields = e ∙ ap relay_shown q ∙ relay_fields_shown p }
client_found (refused why) shown f r e = absurd (cc)

pub client_turned : (read : Read relay.FromRelay) (why : Refusal) → Err why ≡ shown_client_read read → read ≡ refused why
unfolding shown_client_read
client_turned (packet p) why r = absurd (cc)
client_turned (refused x) why r = let q : x ≡ why = cc in ap refused q

pub client_told : (read : Read relay.FromRelay) (answer : Result client-packet.RelayPacket Refusal) (given : Result Fields Refusal) (z : ℤ) (before after : Places)
    → answer ≡ shown_client_read read → MatchResult answer (λ s. IsOkAnd given (λ f. f ≡ relay_shown s)) (λ why. given ≡ Err why)
    → MatchResult given (λ f. (z ≡ pos f.kind) × (after ≡ places_of f)) (λ why. (z ≡ refusal_code why) × (after ≡ before)) → ReadsFields relay_fields read z before after
client_told read answer given z before after e =
    told relay_fields read answer relay_shown (λ s f q. client_found read s f (sym q ∙ e)) (λ why q. client_turned read why (sym q ∙ e)) given z before after
