-- Stored calls. Document 01, "Examples": "A stored call is 1 byte for the call (0 arrive, 1 leave, 2 packet), 1 for the seat (0 where it names none), a
-- 2-byte length and the bytes the call is given; no other form is one."
use Rattle.std.specs.Prelude.{cond, List, [], ◌∷◌, ◌++◌, ℕ, ◌<◌, eqb, leb, length, get_or, take, drop, Option, Some, None, Result, Ok, Err}
use Rattle.wire.specs.Numbers.{Bytes, number_of, bytes_of}
use Rattle.key.specs.Keys.{IsKey}
use Rattle.rules.specs.Call.{Call, arrive, leave, packet_call, tick}
use Rattle.stored.specs.declared.StoredCall.{StoredCall}
use Rattle.stored.specs.declared.StoredCall.TheVariants.{Arrive, Leave, Packet}
use Rattle.stored.specs.declared.StoredKind.{StoredKind}
use Rattle.stored.specs.declared.StoredKind.TheVariants as kind
use Rattle.stored.specs.declared.UnknownKind.{UnknownKind}

-- ---- written

unfoldable pub stored_form : ℕ → ℕ → List ℕ → List ℕ
stored_form code seat given = code ∷ seat ∷ (bytes_of 2 (length given) ++ given)

unfoldable pub stored_bytes : Call → List ℕ
stored_bytes (arrive key) = stored_form 0 0 key
stored_bytes (leave seat) = stored_form 1 seat []
stored_bytes (packet_call seat bytes) = stored_form 2 seat bytes
-- none of these forms is a tick's, so it has none
stored_bytes (tick time number) = []

-- calls, one behind the other
unfoldable pub stored_all : List Call → List ℕ
stored_all [] = []
stored_all (call ∷ calls) = stored_bytes call ++ stored_all calls

-- what the parts of a stored call can be: a key, a seat in one byte, a length in two
unfoldable pub Storable : Call → Type 0
Storable (arrive key) = IsKey key
Storable (leave seat) = seat < 256
Storable (packet_call seat bytes) = (seat < 256) × (length bytes < 65536) × Bytes bytes
Storable (tick time number) = ⊥

-- ---- read

pub data First : Type 0 where
  none : First
  call : Call → First

-- the call with these parts, where they are the form of one
unfoldable pub formed : ℕ → ℕ → List ℕ → First
formed code seat given =
    cond (eqb code 0) (cond (eqb seat 0) (cond (eqb (length given) 32) (call (arrive given)) none) none)
    (cond (eqb code 1) (cond (eqb (length given) 0) (call (leave seat)) none)
    (cond (eqb code 2) (call (packet_call seat given)) none))

-- a head, and as many bytes behind it as its length says
unfoldable pub headed : ℕ → ℕ → ℕ → List ℕ → First
headed code seat size rest = cond (leb size (length rest)) (formed code seat (take size rest)) none

-- the stored call at the front of bytes, which more may follow
unfoldable pub first_call : List ℕ → First
first_call bytes = cond (leb 4 (length bytes)) (headed (get_or bytes 0 0) (get_or bytes 1 0) (number_of (take 2 (drop 2 bytes))) (drop 4 bytes)) none

-- the kind of the call that a stored one with this first byte is
abbrev pub kind_of : ℕ → Result StoredKind UnknownKind
kind_of code = cond (eqb code 0) (Ok kind.Arrive) (cond (eqb code 1) (Ok kind.Leave) (cond (eqb code 2) (Ok kind.Packet) (Err (record { 0 = code }))))

-- as the code has it: a key and a packet stand behind the head, and the packet's size is told
unfoldable pub shown_call : Call → ℕ → Option (StoredCall × ℕ)
shown_call (arrive key) size = Some (Arrive, size)
shown_call (leave seat) size = Some (Leave (record { 0 = seat }), size)
shown_call (packet_call seat bytes) size = Some (Packet (record { 0 = seat }) (length bytes), size)
shown_call (tick time number) size = None

unfoldable pub shown_first : First → Option (StoredCall × ℕ)
shown_first none = None
shown_first (call c) = shown_call c (length (stored_bytes c))
