-- What the readers tell through references: of the fields of a packet its connection number, its ping number, and where its payload stands, and by the answer
-- the kind. On a refusal nothing is set.
use Rattle.std.specs.Prelude.{List, ◌≡◌, ℕ, ℤ, pos}
use Rattle.fields.specs.declared.Fields.{Fields}
use Rattle.packet_laws.specs.Read.{Read, packet, refused}
use Rattle.banavoge_laws.specs.Answers.{refusal_code}

-- what the four references refer to
pub record Places : Type 0 where
  pub number : ℕ
  pub ping : ℕ
  pub start : ℕ
  pub size : ℕ

abbrev pub places : ℕ → ℕ → ℕ → ℕ → Places
places number ping start size = record { number = number; ping = ping; start = start; size = size }

abbrev pub places_of : Fields → Places
places_of f = places f.number f.ping f.start f.length

unfoldable pub read_code : {A : Type 0} → (A → Fields) → Read A → ℤ
read_code fields_of (packet p) = pos (fields_of p).kind
read_code fields_of (refused why) = refusal_code why

unfoldable pub places_after : {A : Type 0} → (A → Fields) → Read A → Places → Places
places_after fields_of (packet p) before = places_of (fields_of p)
places_after fields_of (refused why) before = before

pub record ReadsFields {A : Type 0} (fields_of : A → Fields) (read : Read A) (answer : ℤ) (before after : Places) : Type 0 where
  pub answers : answer ≡ read_code fields_of read
  pub leaves : after ≡ places_after fields_of read before

-- the key that is handed out: on a refusal, as it was
unfoldable pub key_after : {A : Type 0} → (Read A → List ℕ) → Read A → List ℕ → List ℕ
key_after key_in (packet p) before = key_in (packet p)
key_after key_in (refused why) before = before

pub record ReadsKey {A : Type 0} (fields_of : A → Fields) (key_in : Read A → List ℕ) (read : Read A) (answer : ℤ) (before after : List ℕ) : Type 0 where
  pub answers : answer ≡ read_code fields_of read
  pub leaves : after ≡ key_after key_in read before
