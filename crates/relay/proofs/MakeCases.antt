-- A stored call, made: what was read at the front of stored calls tells the call, and its step is the call's. Assumes nothing.
use mathlib.Core.Path.{◌≡◌, refl, sym, ap, subst, ◌∙◌}
use mathlib.Core.List.{List}
use Prim.Native.Nat.{ℕ, ◌+◌, ◌-◌, ◌≤◌}
use native.Mathlib.Omega.{arith}
use lib.ListN.{length, get_or, take, drop}
use lib.Seq.{take_all}
use borrow.Author.Tests.{le-leb}
use Rattle.std.proofs.Common.{Option, Some, None}
use Rattle.key.specs.Keys.{key_of}
use Rattle.rules.specs.Call.{Call, arrive, leave, packet_call, tick, Answer}
use Rattle.rules.specs.Outcome.{outcome}
use Rattle.seat.specs.declared.Seat.{Seat}
use Rattle.room_laws.specs.View.{view_room}
use Rattle.stored.specs.declared.StoredCall.{StoredCall}
use Rattle.stored.specs.declared.StoredCall.TheVariants.{Arrive, Leave, Packet}
use Rattle.stored.specs.Stored.{stored_bytes, First, none, call, first_call, shown_call, shown_first}
use Rattle.stored.proofs.StoredLaws.{Formed, arrives, leaves, sends, size_in, given_in, Fronts, first_is, same_call}
use Rattle.relay_laws.specs.Calls.{Leaves}
use Rattle.relay.specs.PlaySteps.{Reads, Makes}

-- ---- the call that was read

abbrev pub read_as : StoredCall → ℕ → Option (StoredCall × ℕ)
read_as shown size = Some (shown, size)

pub record CallRead (stored : List ℕ) (shown : StoredCall) (size : ℕ) : Type 0 where
  pub made : Call
  pub first : first_call stored ≡ call made
  pub shows : read_as shown size ≡ shown_call made (length (stored_bytes made))
  pub takes : size ≡ length (stored_bytes made)

-- two reads that are one have one call and one size
same_read : (c d : StoredCall) (m n : ℕ) → read_as c m ≡ read_as d n → (c ≡ d) × (m ≡ n)
same_read c d m n e =
    let p : StoredCall × ℕ = (c, m) in
    let r : StoredCall × ℕ = (d, n) in
    let f : Some p ≡ Some r = e in
    let q : p ≡ r = cc in
    (ap (λ (x : StoredCall × ℕ). x.0) q, ap (λ (x : StoredCall × ℕ). x.1) q)

shown_size : (c : Call) (shown : StoredCall) (size k : ℕ) → read_as shown size ≡ shown_call c k → size ≡ k
unfolding shown_call
shown_size (arrive key) shown size k e = (same_read _ _ _ _ e).1
shown_size (leave seat) shown size k e = (same_read _ _ _ _ e).1
shown_size (packet_call seat bytes) shown size k e = (same_read _ _ _ _ e).1
shown_size (tick time number) shown size k e = absurd (cc)

pub call_read : (stored : List ℕ) (shown : StoredCall) (size : ℕ) → read_as shown size ≡ shown_first (first_call stored) → CallRead stored shown size
unfolding shown_first
call_read stored shown size e = go (first_call stored) refl e
  where
    go : (f : First) → first_call stored ≡ f → read_as shown size ≡ shown_first f → CallRead stored shown size
    go none q e = absurd (cc)
    go (call c) q e = record { made = c; first = q; shows = e; takes = shown_size c shown size (length (stored_bytes c)) e }

pub none_read : (stored : List ℕ) → None ≡ shown_first (first_call stored) → first_call stored ≡ none
unfolding shown_first shown_call
none_read stored e = go (first_call stored) refl e
  where
    -- each form is shown as a call
    shown : (c : Call) → Formed (get_or stored 0 0) (get_or stored 1 0) (given_in stored) c → None ≡ shown_call c (length (stored_bytes c)) → ⊥
    shown c (arrives a b l) e = cc
    shown c (leaves a l) e = cc
    shown c (sends a) e = cc

    go : (f : First) → first_call stored ≡ f → None ≡ shown_first f → first_call stored ≡ none
    go none q e = q
    go (call c) q e = absurd (shown c (first_is stored c q).form e)

-- ---- each kind of call

module _ (stored : List ℕ) where
  pub record ArriveRead : Type 0 where
    pub there : 36 ≤ length stored
    pub long : length (take 32 (drop 4 stored)) ≡ 32
    pub first : first_call stored ≡ call (arrive (take 32 (drop 4 stored)))

  pub arrive_read : Reads stored Arrive → ArriveRead
  unfolding shown_call
  arrive_read r =
      let q = call_read stored Arrive r.size r.is in
      let f = first_is stored q.made q.first in
      go q.made q.first q.shows f f.form
    where
      go : (c : Call) → first_call stored ≡ call c → read_as Arrive r.size ≡ shown_call c (length (stored_bytes c)) → Fronts stored c → Formed (get_or stored 0 0) (get_or stored 1 0) (given_in stored) c → ArriveRead
      go c q e f (arrives a b l) =
          let k : size_in stored ≡ 32 = sym f.long ∙ l in
          let same : given_in stored ≡ take 32 (drop 4 stored) = ap (λ (n : ℕ). take n (drop 4 stored)) k in
          let t = f.there in
          record { there = omega arith; long = ap length (sym same) ∙ l; first = q ∙ ap (λ (x : List ℕ). call (arrive x)) same }
      go c q e f (leaves a l) = let d = (same_read _ _ _ _ e).0 in absurd (cc)
      go c q e f (sends a) = let d = (same_read _ _ _ _ e).0 in absurd (cc)

  pub leave_read : (seat : Seat) → Reads stored (Leave seat) → first_call stored ≡ call (leave seat.0)
  unfolding shown_call
  leave_read seat r = let q = call_read stored (Leave seat) r.size r.is in go q.made q.first q.shows
    where
      go : (c : Call) → first_call stored ≡ call c → read_as (Leave seat) r.size ≡ shown_call c (length (stored_bytes c)) → first_call stored ≡ call (leave seat.0)
      go (arrive key) q e = let d = (same_read _ _ _ _ e).0 in absurd (cc)
      go (leave i) q e = let d = (same_read _ _ _ _ e).0 in let same : seat ≡ record { 0 = i } = cc in q ∙ ap (λ (x : Seat). call (leave x.0)) (sym same)
      go (packet_call i bytes) q e = let d = (same_read _ _ _ _ e).0 in absurd (cc)
      go (tick time number) q e = absurd (cc)

  pub record PacketRead (seat : Seat) (size : ℕ) : Type 0 where
    pub there : 4 + size ≤ length stored
    pub first : first_call stored ≡ call (packet_call seat.0 (take size (drop 4 stored)))

  pub packet_read : (seat : Seat) (size : ℕ) → Reads stored (Packet seat size) → PacketRead seat size
  unfolding shown_call
  packet_read seat size r =
      let q = call_read stored (Packet seat size) r.size r.is in
      let f = first_is stored q.made q.first in
      go q.made q.first q.shows f f.form
    where
      go : (c : Call) → first_call stored ≡ call c → read_as (Packet seat size) r.size ≡ shown_call c (length (stored_bytes c)) → Fronts stored c → Formed (get_or stored 0 0) (get_or stored 1 0) (given_in stored) c → PacketRead seat size
      go c q e f (arrives a b l) = let d = (same_read _ _ _ _ e).0 in absurd (cc)
      go c q e f (leaves a l) = let d = (same_read _ _ _ _ e).0 in absurd (cc)
      go c q e f (sends a) =
          let d = (same_read _ _ _ _ e).0 in
          let k : size ≡ length (given_in stored) = cc in
          let same : seat ≡ record { 0 = get_or stored 1 0 } = cc in
          let t = f.there in
          let l = f.long in
          record {
            there = omega arith;
            first = q ∙ ap (λ (n : ℕ). call (packet_call (get_or stored 1 0) (take n (drop 4 stored)))) (sym (k ∙ l)) ∙ ap (λ (x : Seat). call (packet_call x.0 (take size (drop 4 stored)))) (sym same);
          }

-- ---- the step that was taken

module _ (s n : ℕ) (stored b out : List ℕ) (given : Answer) (b' out' : List ℕ) where
  pub makes : (c : Call) → first_call stored ≡ call c → Leaves s n (outcome (view_room s n b) c) b out given b' out' → Makes s n stored b out given b' out'
  makes c q l d e = subst (λ (x : Call). Leaves s n (outcome (view_room s n b) x) b out given b' out') (same_call c d (sym q ∙ e)) l

-- the key that is read in the part lent
pub key_read : (stored key : List ℕ) → length (take 32 (drop 4 stored)) ≡ 32 → key ≡ key_of (take (36 - 4) (drop 4 stored)) → key ≡ take 32 (drop 4 stored)
unfolding key_of
key_read stored key l e = let given = take 32 (drop 4 stored) in e ∙ simp (le-leb 32 (length given) (omega arith)) (take_all 32 given (omega arith))
