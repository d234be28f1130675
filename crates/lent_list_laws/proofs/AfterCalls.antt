-- The list that stands in the memory after a call is the one that `nearest` hands back by value, so what holds of lists by value over any calls
-- holds of lists in memory: no call makes a list that its bytes cannot hold. Assumes nothing.
use mathlib.Core.Path.{◌≡◌, ◌∙◌, refl, sym, ap, subst}
use mathlib.Core.Bool.{Bool, true, false, cond}
use mathlib.Core.List.{List, [], ◌∷◌, ◌++◌}
use mathlib.Core.Logic.{inl, inr, ⊎_elim}
use Prim.Native.Nat.{ℕ, zero, suc, ◌*◌, ◌<◌, ◌≤◌}
use native.Mathlib.Nat.{mod-eq_of_lt}
use native.Mathlib.Omega.{arith}
use lib.Dec.{leb}
use lib.ListN.{length, take, drop, replicate, length-append, length-drop, length-replicate}
use lib.Seq.{length-take-le}
use Rattle.std.specs.Prelude.{Result, Ok, Err}
use Rattle.refusal.specs.declared.Refusal.{Refusal}
use Rattle.nearest.specs.declared.Answered.{Answered}
use Rattle.wire.specs.Numbers.{Bytes, bytes_of}
use Rattle.wire.proofs.Numbers.{bytes_append, bytes_take, bytes_drop, bytes_get_d, bytes_bytes_of}
use Rattle.wire.proofs.Copy.{length_lent, length_written}
use Rattle.refusal.specs.declared.Refusal.TheVariants.{ListSize, UnknownFamily, KeyNotHeld}
use Rattle.key.specs.declared.Key.{Key}
use Rattle.key.specs.Keys.{IsKey}
use Rattle.node.specs.declared.Node.{Node}
use Rattle.node.specs.Families.{known_family}
use Rattle.node.specs.Values.{IsNode, blank_node}
use Rattle.nearest.specs.declared.NearestList.{NearestList}
use Rattle.nearest.specs.Lists.{held, holding, empty_of, size_right}
use Rattle.nearest.specs.Effect.{holds, without, after_effect}
use Rattle.nearest.specs.Calls.{begun, checked, effect_on, not_offered, taken, offered_after, offered, removed_after, removed}
use Rattle.nearest.specs.Sequence.{In}
use Rattle.nearest.proofs.Judge.{whole, size_bounds}
use Rattle.nearest.proofs.Holding.{held_length}
use Rattle.nearest.proofs.Known.{after_from}
use Rattle.nearest.proofs.Members.{in_without}
use Rattle.nearest.proofs.OfferLaws.{offer_taken}
use Rattle.nearest.proofs.Kept.{length_without, offer_keeps_whole}
use Rattle.lent_list_laws.specs.Layout.{slot_at, slots_at, list_at, slot_bytes, slots_bytes, list_bytes, stored, Fits, EachNode, Storable}
use Rattle.lent_list_laws.proofs.SlotLaws.{port_small, slots_number, length_slot}
use Rattle.lent_list_laws.proofs.StoreLaws.{stored_whole}
use Rattle.lent_list_laws.proofs.RoundTrips.{read_of_write}

-- ---- nodes that a slot can hold

each_append : (a b : List Node) → EachNode a → EachNode b → EachNode (a ++ b)
each_append [] b p q = q
each_append (n ∷ a) b p q = (p.0, p.1, each_append a b p.2 q)

each_drop : (k : ℕ) (l : List Node) → EachNode l → EachNode (drop k l)
each_drop zero l p = p
each_drop (suc k) [] p = tt
each_drop (suc k) (n ∷ l) p = each_drop k l p.2

each_take : (k : ℕ) (l : List Node) → EachNode l → EachNode (take k l)
each_take zero l p = tt
each_take (suc k) [] p = tt
each_take (suc k) (n ∷ l) p = (p.0, p.1, each_take k l p.2)

pub each_in : (l : List Node) → EachNode l → (x : Node) → In x l → Fits x
each_in [] p x i = absurd i
each_in (n ∷ l) p x (inl e) = subst Fits (sym e) (p.0, p.1)
each_in (n ∷ l) p x (inr i) = each_in l p.2 x i

in_each : (l : List Node) → ((x : Node) → In x l → Fits x) → EachNode l
in_each [] h = tt
in_each (n ∷ l) h = let f = h n (inl refl) in (f.0, f.1, in_each l (λ x i. h x (inr i)))

zeros : (k : ℕ) → Bytes (replicate k 0)
zeros zero = tt
zeros (suc k) = (omega arith, zeros k)

blank_fits : Fits blank_node
unfolding blank_node
blank_fits = (omega arith, record { long = refl; bytes = zeros 16; port = omega arith; key = record { long = refl; bytes = zeros 32 } })

each_blank : (k : ℕ) → EachNode (replicate k blank_node)
each_blank zero = tt
each_blank (suc k) = (blank_fits.0, blank_fits.1, each_blank k)

-- ---- a list read from memory

slot_fits : (s : List ℕ) → length s ≡ 51 → Bytes s → Fits (slot_at s)
unfolding slot_at
slot_fits s long b = (
  bytes_get_d 0 s b,
  record {
    long = length_lent s 1 16 (omega arith);
    bytes = bytes_take 16 (drop 1 s) (bytes_drop 1 s b);
    port = port_small s long b;
    key = record { long = length_lent s 19 32 (omega arith); bytes = bytes_take 32 (drop 19 s) (bytes_drop 19 s b) };
  },
)

each_slot : (k : ℕ) (s : List ℕ) → k * 51 ≤ length s → Bytes s → EachNode (slots_at k s)
unfolding slots_at
each_slot zero s h b = tt
each_slot (suc k) s h b =
    let f = slot_fits (take 51 s) (length-take-le 51 s (omega arith)) (bytes_take 51 s b) in
    let d = length-drop 51 s in
    (f.0, f.1, each_slot k (drop 51 s) (omega arith) (bytes_drop 51 s b))

pub read_storable : (m : List ℕ) → 850 ≤ length m → Bytes m → Storable (list_at m)
unfolding list_at
read_storable m h b =
    let d = length-drop 34 m in
    record {
      size = bytes_get_d 0 m b;
      count = bytes_get_d 1 m b;
      target = record { long = length_lent m 2 32 (omega arith); bytes = bytes_take 32 (drop 2 m) (bytes_drop 2 m b) };
      slots = slots_number 16 (drop 34 m);
      nodes = each_slot 16 (drop 34 m) (omega arith) (bytes_drop 34 m b);
    }

-- ---- a list handed back by a call

empty_storable : (target : Key) (size : ℕ) → IsKey target.0 → size < 256 → Storable (empty_of target size)
unfolding empty_of
empty_storable target size k h = record { size = h; count = omega arith; target = k; slots = refl; nodes = each_blank 16 }

pub begin_storable : (target : Key) (size : ℕ) → IsKey target.0 → Storable (begun target size).list
unfolding begun
begin_storable target size k = by (size_right size) refl
  where
    by : (t : Bool) → size_right size ≡ t
        → Storable (cond {A = Answered (Unit {0})} t (record { list = empty_of target size; answer = Ok tt }) (record { list = empty_of target 8; answer = Err ListSize })).list
    by true e = let h = size_bounds size e in empty_storable target size k (omega arith)
    by false e = empty_storable target 8 k (omega arith)

module _ (l : NearestList) (s : Storable l) where
  held_fits : EachNode (held l)
  held_fits = each_take l.count l.nodes s.nodes

  holding_storable : (ns : List Node) → l.count ≤ 16 → length ns ≤ 16 → EachNode ns → Storable (holding l ns)
  unfolding holding
  holding_storable ns c h e =
      let behind = replicate l.count blank_node ++ drop l.count l.nodes in
      let a = length-append ns (drop (length ns) behind) in
      let b = length-drop (length ns) behind in
      let d = length-append (replicate l.count blank_node) (drop l.count l.nodes) in
      let f = length-replicate l.count blank_node in
      let g = length-drop l.count l.nodes in
      let z = s.slots in
      record {
        size = s.size;
        count = omega arith;
        target = s.target;
        slots = omega arith;
        nodes =
            each_append ns (drop (length ns) behind) e
            (each_drop (length ns) behind (each_append (replicate l.count blank_node) (drop l.count l.nodes) (each_blank l.count) (each_drop l.count l.nodes s.nodes)));
      }

  count_small : checked l ≡ Ok tt → l.count ≤ 16
  count_small e = let w = whole l e in let a = w.within in let b = w.small in omega arith

  module _ (n : Node) (f : Fits n) where
    taken_storable : checked l ≡ Ok tt → known_family n.family ≡ true → Storable (taken l n).list
    unfolding taken holding
    taken_storable e k =
        let g = after_effect (effect_on l n) l.target.0 n (held l) in
        let o = offer_taken l n e k in
        let w = whole (offered l n).list (offer_keeps_whole l e s.slots s.target (λ x i. (each_in (held l) held_fits x i).1.key) n f.1.key) in
        let q : (offered l n).list.count ≡ length g = ap (λ (x : Answered Bool). x.list.count) o in
        let a = w.within in
        let b = w.small in
        holding_storable g (count_small e) (omega arith)
        (in_each g (λ x i. ⊎_elim (λ (p : x ≡ n). subst Fits (sym p) f) (each_in (held l) held_fits x) (after_from (effect_on l n) l.target.0 n (held l) x i)))

    pub offer_storable : Storable (offered l n).list
    unfolding offered offered_after
    offer_storable = by (checked l) refl
      where
        family : checked l ≡ Ok tt → (t : Bool) → known_family n.family ≡ t → Storable (cond t (taken l n) (not_offered l UnknownFamily)).list
        family e true k = taken_storable e k
        family e false k = s

        by : (a : Result (Unit {0}) Refusal) → checked l ≡ a → Storable (offered_after a l n).list
        by (Err why) e = s
        by (Ok _) e = family e (known_family n.family) refl

  pub remove_storable : (key : Key) → Storable (removed l key).list
  unfolding removed removed_after
  remove_storable key = by (checked l) refl
    where
      search : checked l ≡ Ok tt → (t : Bool)
          → Storable (cond {A = Answered (Unit {0})} t (record { list = holding l (without key.0 (held l)); answer = Ok tt }) (record { list = l; answer = Err KeyNotHeld })).list
      search e true =
          let c = count_small e in
          let z = s.slots in
          let a = length_without key.0 (held l) in
          let b = held_length l (omega arith) in
          holding_storable (without key.0 (held l)) c (omega arith)
          (in_each (without key.0 (held l)) (λ x i. each_in (held l) held_fits x (in_without key.0 (held l) x i).0))
      search e false = s

      by : (a : Result (Unit {0}) Refusal) → checked l ≡ a → Storable (removed_after a l key).list
      by (Err why) e = s
      by (Ok _) e = search e (holds key.0 (held l))

-- ---- the memory stays bytes

bytes_slots : (ns : List Node) → EachNode ns → Bytes (slots_bytes ns)
unfolding slots_bytes slot_bytes
bytes_slots [] e = tt
bytes_slots (n ∷ ns) e =
    bytes_append (slot_bytes n) (slots_bytes ns)
    (e.0, bytes_append n.address _ e.1.bytes (bytes_append (bytes_of 2 n.port) n.key.0 (bytes_bytes_of 2 n.port) e.1.key.bytes))
    (bytes_slots ns e.2)

pub bytes_stored : (l : NearestList) (m : List ℕ) → Storable l → Bytes m → Bytes (stored l m)
unfolding stored list_bytes
bytes_stored l m s b = go (leb 850 (length m))
  where
    go : (t : Bool) → Bytes (cond t (list_bytes l ++ drop 850 m) m)
    go true =
        bytes_append (list_bytes l) (drop 850 m) (
          subst (λ (x : ℕ). x < 256) (sym (mod-eq_of_lt s.size)) s.size,
          (
            subst (λ (x : ℕ). x < 256) (sym (mod-eq_of_lt s.count)) s.count,
            bytes_append l.target.0 (slots_bytes l.nodes) s.target.bytes (bytes_slots l.nodes s.nodes),
          ),
        )
        (bytes_drop 850 m b)
    go false = b

-- ---- and keeps its length

length_slots : (ns : List Node) → EachNode ns → length (slots_bytes ns) ≡ length ns * 51
unfolding slots_bytes
length_slots [] e = refl
length_slots (n ∷ ns) e =
    let a = length-append (slot_bytes n) (slots_bytes ns) in
    let b = length_slot n e.1 in
    let c = length_slots ns e.2 in
    omega arith

length_list : (l : NearestList) → Storable l → length (list_bytes l) ≡ 850
unfolding list_bytes
length_list l s =
    let a = length-append l.target.0 (slots_bytes l.nodes) in
    let b = length_slots l.nodes s.nodes in
    let c = s.slots in
    let d = s.target.long in
    omega arith

-- ---- what stands in the memory afterwards

module _ (m : List ℕ) (room : 850 ≤ length m) where
  pub length_stored : (l : NearestList) → Storable l → length (stored l m) ≡ length m
  length_stored l s = ap length (stored_whole l m room) ∙ length_written (list_bytes l) m 850 (length_list l s) room

  pub stored_read : (l : NearestList) → Storable l → list_at (stored l m) ≡ l
  stored_read l s = ap list_at (stored_whole l m room) ∙ read_of_write l (drop 850 m) s

  pub begin_then_read : (target : Key) (size : ℕ) → IsKey target.0 → list_at (stored (begun target size).list m) ≡ (begun target size).list
  begin_then_read target size k = stored_read (begun target size).list (begin_storable target size k)

  pub offer_then_read : Bytes m → (n : Node) → n.family < 256 → IsNode n → list_at (stored (offered (list_at m) n).list m) ≡ (offered (list_at m) n).list
  offer_then_read b n f i = stored_read (offered (list_at m) n).list (offer_storable (list_at m) (read_storable m room b) n (f, i))

  pub remove_then_read : Bytes m → (key : Key) → list_at (stored (removed (list_at m) key).list m) ≡ (removed (list_at m) key).list
  remove_then_read b key = stored_read (removed (list_at m) key).list (remove_storable (list_at m) (read_storable m room b) key)
