-- A stored call and its bytes, both ways round:
--
--   - what was stored is read, whatever follows (`read_stored`); what follows is then what `drop-append_seam` of `lib.Seq` leaves;
--   - what is read as a call is its stored form and nothing else (`stored_read`);
--   - so no call is read exactly where no stored form stands at the front (`no_other_form`). Document 01, "Examples": "no other form is one."
--
-- Assumes nothing.
use mathlib.Core.Path.{◌≡◌, ◌∙◌, refl, sym, ap}
use mathlib.Core.List.{List, [], ◌∷◌, ◌++◌}
use Prim.Native.Nat.{ℕ, ◌≤◌, ◌<◌}
use native.Mathlib.Omega.{arith}
use lib.ListN.{length, get_or, take, drop, length-append, length-drop, take-append-drop, drop_of_length-le}
use lib.Seq.{take-append_seam, drop-append_seam, length-take-le}
use Rattle.wire.specs.Numbers.{Bytes, number_of, bytes_of}
use Rattle.wire.proofs.Numbers.{bytes_take, bytes_drop, bytes_get_d, number_lt, number_bytes_of, bytes_of_number}
use Rattle.rules.specs.Call.{Call, arrive, leave, packet_call, tick}
use Rattle.stored.specs.Stored.{stored_form, stored_bytes, Storable, First, none, call, formed, first_call}
use Rattle.stored.proofs.FormLaws.{arrival, departure, packet_sent, all_there}
use Rattle.stored.proofs.StoredLaws.{Formed, arrives, leaves, sends, size_in, given_in, Fronts, first_is}

-- ---- what was stored is read

-- a length below 65,536 is that of its two bytes, so as many bytes are taken as were given
read_form : (code seat : ℕ) (given rest : List ℕ) → length given < 65536 → first_call (stored_form code seat given ++ rest) ≡ formed code seat given
unfolding stored_form bytes_of
read_form code seat given rest h =
    let size = number_bytes_of 2 (length given) h in
    let l = length-append given rest in
    all_there (stored_form code seat given ++ rest) (omega arith) (omega arith)
    ∙ ap (λ (n : ℕ). formed code seat (take n (given ++ rest))) size ∙ ap (formed code seat) (take-append_seam given rest)

pub read_stored : (c : Call) → Storable c → (rest : List ℕ) → first_call (stored_bytes c ++ rest) ≡ call c
unfolding stored_bytes Storable
read_stored (arrive key) s rest = let l = s.long in read_form 0 0 key rest (omega arith) ∙ arrival 0 0 key refl refl l
read_stored (leave seat) s rest = read_form 1 seat [] rest (omega arith) ∙ departure 1 seat [] refl refl
read_stored (packet_call seat bytes) s rest = read_form 2 seat bytes rest s.1 ∙ packet_sent 2 seat bytes refl
read_stored (tick time number) s rest = absurd s

-- ---- what is read is a stored form

-- two bytes are those of their number: the length that was read is the one that is written
form_read : (bytes : List ℕ) → Bytes bytes → 4 ≤ length bytes → length (given_in bytes) ≡ size_in bytes
    → bytes ≡ stored_form (get_or bytes 0 0) (get_or bytes 1 0) (given_in bytes) ++ drop (size_in bytes) (drop 4 bytes)
unfolding stored_form
form_read (code ∷ seat ∷ high ∷ low ∷ rest) are long e =
    let two : List ℕ = high ∷ low ∷ [] in
    sym
    (rw (e, bytes_of_number two (bytes_take 2 (high ∷ low ∷ rest) are.1.1))
    (ap (λ (r : List ℕ). code ∷ seat ∷ high ∷ low ∷ r) (take-append-drop (number_of two) rest)))
form_read [] are long e = absurd (omega arith)
form_read (a ∷ []) are long e = absurd (omega arith)
form_read (a ∷ b ∷ []) are long e = absurd (omega arith)
form_read (a ∷ b ∷ c ∷ []) are long e = absurd (omega arith)

-- the form of a call is that of its parts
form_of : {code seat : ℕ} {given : List ℕ} {c : Call} → Formed code seat given c → stored_bytes c ≡ stored_form code seat given
unfolding stored_bytes
form_of (arrives a s l) = rw (a, s)
form_of {given} (leaves a l) = rw (a, drop_of_length-le given {i = 0} (omega arith))
form_of (sends a) = rw a

-- what stands in one byte is below 256, and a length in two is below 65,536
storable : (bytes : List ℕ) (c : Call) → Bytes bytes → Fronts bytes c → Storable c
unfolding Storable
storable bytes c are f = go c f.form
  where
    given : Bytes (given_in bytes)
    given = bytes_take (size_in bytes) (drop 4 bytes) (bytes_drop 4 bytes are)

    seat : get_or bytes 1 0 < 256
    seat = bytes_get_d 1 bytes are

    size : size_in bytes < 65536
    size =
        let two = take 2 (drop 2 bytes) in
        let l : length two ≡ 2 = length-take-le 2 (drop 2 bytes) (omega (arith, length-drop 2 bytes, f.there)) in
        rw l at (number_lt two (bytes_take 2 (drop 2 bytes) (bytes_drop 2 bytes are)))

    go : (c : Call) → Formed (get_or bytes 0 0) (get_or bytes 1 0) (given_in bytes) c → Storable c
    go c (arrives a s l) = record { long = l; bytes = given }
    go c (leaves a l) = seat
    go c (sends a) = (seat, omega (arith, f.long, size), given)

pub stored_read : (bytes : List ℕ) (c : Call) → Bytes bytes → first_call bytes ≡ call c → Storable c × (bytes ≡ stored_bytes c ++ drop (length (stored_bytes c)) bytes)
stored_read bytes c are e =
    (storable bytes c are f, front ∙ ap (λ (l : List ℕ). stored_bytes c ++ l) (sym (ap (drop (length (stored_bytes c))) front ∙ drop-append_seam (stored_bytes c) rest)))
  where
    f : Fronts bytes c
    f = first_is bytes c e

    rest : List ℕ
    rest = drop (size_in bytes) (drop 4 bytes)

    front : bytes ≡ stored_bytes c ++ rest
    front = rw (form_of f.form) (form_read bytes are (omega (arith, f.there)) f.long)

-- ---- no other form

pub no_other_form : (bytes : List ℕ) → Bytes bytes
    → (first_call bytes ≡ none → (c : Call) → Storable c → (rest : List ℕ) → bytes ≡ stored_bytes c ++ rest → ⊥)
    × (((c : Call) → Storable c → (rest : List ℕ) → bytes ≡ stored_bytes c ++ rest → ⊥) → first_call bytes ≡ none)
no_other_form bytes are = (
  λ e c s rest b. let z : ◌≡◌ {A = ℕ} 0 1 = cc (read_stored c s rest) in omega arith,
  λ not. unread (first_call bytes) refl (λ c e. let t = stored_read bytes c are e in not c t.0 (drop (length (stored_bytes c)) bytes) t.1),
)
  where
    unread : (r : First) → first_call bytes ≡ r → ((c : Call) → first_call bytes ≡ call c → ⊥) → first_call bytes ≡ none
    unread none e not = e
    unread (call c) e not = absurd (not c e)
