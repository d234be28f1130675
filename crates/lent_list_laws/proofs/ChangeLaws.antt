-- A list changed where it stands in memory: new slots put over the old ones, and a new count with them, are the changed list stored. What stands there is a
-- list of nodes with keys, and the key in a slot is that of its node. Assumes nothing.
use mathlib.Core.Path.{◌≡◌, ◌∙◌, sym, ap, ap₂}
use mathlib.Core.Bool.{true}
use mathlib.Core.List.{List, ◌∷◌, ◌++◌, append_assoc}
use Prim.Native.Nat.{ℕ, ◌+◌, ◌*◌, ◌<◌, ◌≤◌}
use native.Mathlib.Nat.{mod-eq_of_lt}
use native.Mathlib.Omega.{arith}
use lib.ListN.{length, get_or, take, drop, set}
use lib.Seq.{drop-drop}
use Rattle.std.specs.Prelude.{Ok}
use Rattle.wire.specs.Numbers.{Bytes}
use Rattle.wire.proofs.Numbers.{bytes_get_d}
use Rattle.wire.proofs.Copy.{length_lent}
use Rattle.key.specs.Keys.{IsKey, key_of}
use Rattle.node.specs.declared.Node.{Node}
use Rattle.node.specs.Families.{known_family}
use Rattle.node.proofs.WriteLaws.{with_part}
use Rattle.nearest.specs.declared.NearestList.{NearestList}
use Rattle.nearest.specs.Lists.{node_key, held}
use Rattle.nearest.specs.Slots.{position}
use Rattle.nearest.specs.Calls.{checked}
use Rattle.nearest.proofs.Front.{no_node}
use Rattle.nearest.proofs.Members.{in_take}
use Rattle.nearest.proofs.Judge.{whole}
use Rattle.nearest.proofs.OfferLaws.{AtPlace}
use Rattle.lent_list_laws.specs.Layout.{slots_at, list_at, slots_bytes, stored}
use Rattle.lent_list_laws.proofs.SlotLaws.{slots_front}
use Rattle.lent_list_laws.proofs.PartLaws.{key_lent}
use Rattle.lent_list_laws.proofs.StoreLaws.{list_written}
use Rattle.lent_list_laws.proofs.RoundTrips.{numbers_before}
use Rattle.lent_list_laws.proofs.AfterCalls.{each_in, read_storable}

-- the bytes of all slots
abbrev pub slots_of : List ℕ → List ℕ
slots_of m = take 816 (drop 34 m)

-- a list with another count and other slots
abbrev pub changed : NearestList → ℕ → List Node → NearestList
changed l c ns = record { target = l.target; size = l.size; count = c; nodes = ns }

-- ---- what stands there

pub nodes_there : (m : List ℕ) → slots_at 16 (slots_of m) ≡ (list_at m).nodes
unfolding list_at
nodes_there m = slots_front 16 (drop 34 m)

-- of a list that passes its test
pub count_there : (m : List ℕ) → checked (list_at m) ≡ Ok tt → get_or m 1 0 ≤ 16
unfolding list_at
count_there m e = let w = whole (list_at m) e in let x = w.within in let y = w.small in omega arith

pub key_there : (m : List ℕ) → 850 ≤ length m → (i : ℕ) → i < 16 → (part : List ℕ) → part ≡ take 32 (drop (i * 51 + 19) (slots_of m))
    → key_of part ≡ node_key (get_or (list_at m).nodes i no_node)
key_there m room i h part e =
    let long = length_lent m 34 816 room in
    key_lent 16 i (slots_of m) no_node h (omega arith) part e ∙ ap (λ (ns : List Node). node_key (get_or ns i no_node)) (nodes_there m)

module _ (m : List ℕ) (room : 850 ≤ length m) (b : Bytes m) where
  -- what is known of an offer that is not refused, once the place of its key is found
  pub placed : (n : Node) (p : ℕ) → checked (list_at m) ≡ Ok tt → known_family n.family ≡ true → IsKey (node_key n)
      → p ≡ position (list_at m).target.0 (node_key n) (held (list_at m)) → AtPlace (list_at m) n p
  unfolding list_at
  placed n p stands family key e =
      let s = read_storable m room b in
      record {
        stands = stands;
        family = family;
        slots = s.slots;
        target_key = s.target;
        new_key = key;
        held_keys = λ x i. (each_in (list_at m).nodes s.nodes x (in_take (list_at m).count (list_at m).nodes x i)).1.key;
        place = e;
      }

  -- ---- the slots written over

  front : take 34 m ≡ get_or m 0 0 ∷ (get_or m 1 0 ∷ take 32 (drop 2 m))
  front = sym (ap (take 34) (numbers_before m room b))

  module _ (ns : List Node) (new : List ℕ) (e : new ≡ slots_bytes ns) where
    put : with_part m 34 850 new ≡ (get_or m 0 0 ∷ (get_or m 1 0 ∷ (take 32 (drop 2 m) ++ slots_bytes ns))) ++ drop 850 m
    put =
        ap₂ (λ (x y : List ℕ). x ++ (y ++ drop 816 (drop 34 m))) front e
        ∙ ap (λ (l : List ℕ). (get_or m 0 0 ∷ (get_or m 1 0 ∷ take 32 (drop 2 m))) ++ (slots_bytes ns ++ l)) (drop-drop 816 34 m)
        ∙ sym (append_assoc (get_or m 0 0 ∷ (get_or m 1 0 ∷ take 32 (drop 2 m))) (slots_bytes ns) (drop 850 m))

    lowest : (c : ℕ) → c < 256 → (left : List ℕ) → left ≡ (get_or m 0 0 ∷ (c ∷ (take 32 (drop 2 m) ++ slots_bytes ns))) ++ drop 850 m
        → left ≡ stored (changed (list_at m) c ns) m
    unfolding list_at
    lowest c h left s =
        list_written (changed (list_at m) c ns) m left room
        (s ∙ ap₂ (λ (x y : ℕ). (x ∷ (y ∷ (take 32 (drop 2 m) ++ slots_bytes ns))) ++ drop 850 m) (sym (mod-eq_of_lt (bytes_get_d 0 m b))) (sym (mod-eq_of_lt h)))

    pub slots_stored : with_part m 34 850 new ≡ stored (changed (list_at m) (list_at m).count ns) m
    unfolding list_at
    slots_stored = lowest (get_or m 1 0) (bytes_get_d 1 m b) _ put

    pub count_stored : (c : ℕ) → c < 256 → set (with_part m 34 850 new) 1 c ≡ stored (changed (list_at m) c ns) m
    count_stored c h = lowest c h _ (ap (λ (l : List ℕ). set l 1 c) put)
