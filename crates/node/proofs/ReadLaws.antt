-- Laws of the reader's answer: that it stands for what is read at its place. Assumes nothing.
use mathlib.Core.Path.{◌≡◌, ◌∙◌, refl, sym, ap}
use mathlib.Core.Bool.{true, false}
use mathlib.Core.List.{List, [], ◌∷◌}
use Prim.Native.Nat.{ℕ, suc, ◌+◌, ◌-◌, ◌<◌, ◌≤◌}
use native.Mathlib.Omega.{arith}
use lib.ListN.{length, get_or, take, drop, length-drop, drop_of_length-le}
use lib.Seq.{take_all, drop-cons}
use Rattle.std.specs.Prelude.{Result, Ok, Err}
use Rattle.refusal.specs.declared.Refusal.{Refusal}
use Rattle.refusal.specs.declared.Refusal.TheVariants.{UnknownFamily, NodeCutShort}
use Rattle.node.specs.declared.Node.{Node}
use Rattle.node.specs.Families.{known_family, address_length, packed_length}
use Rattle.node.specs.Nodes.{NodeInfo, node, refused, node_of, read_node}
use Rattle.node.specs.Values.{value_of}
use Rattle.node.specs.Reads.{Reads, found_of, shown_read}
use Rattle.node.proofs.NodeLaws.{Front, nothing, unknown, cut, whole, front, read_unknown, read_cut, read_whole, read_address_long, length_read, info_of_value}

-- what the answer shows stands for the node read
node_means : (at : ℕ) (n : NodeInfo) → length n.address ≡ address_length n.family → found_of (shown_read at (node n)) ≡ node n
unfolding found_of shown_read
node_means at n long = ap node (info_of_value n long)

shown_means : (at : ℕ) (bytes : List ℕ) → Front bytes → found_of (shown_read at (read_node bytes)) ≡ read_node bytes
unfolding found_of shown_read read_node node_of
shown_means at [] nothing = refl
shown_means at (family ∷ rest) (unknown e) = let r = read_unknown family rest e in rw r
shown_means at (family ∷ rest) (cut e h) = let r = read_cut family rest e h in rw r
shown_means at (family ∷ rest) (whole e h) = let r = read_whole family rest e h in rw r (node_means at (node_of family rest) (read_address_long family rest h))

pub reads : (bytes : List ℕ) (at : ℕ) (answer : Result (Node × ℕ) Refusal) → answer ≡ shown_read at (read_node (drop at bytes)) → Reads bytes at answer
reads bytes at answer e = record { means = ap found_of e ∙ shown_means at (drop at bytes) (front (drop at bytes)); exact = e }

module _ (bytes : List ℕ) (at : ℕ) (h : at < length bytes) where
  -- the bytes from the place on: the family, and the rest
  pub from_place : drop at bytes ≡ get_or bytes at 0 ∷ drop (suc at) bytes
  from_place = drop-cons bytes at 0 h

  -- the same bytes, as a part that is lent
  pub from_part : take (length bytes - at) (drop at bytes) ≡ get_or bytes at 0 ∷ drop (suc at) bytes
  from_part = take_all (length bytes - at) (drop at bytes) (let l = length-drop at bytes in omega arith) ∙ from_place

  pub left_long : length (get_or bytes at 0 ∷ drop (suc at) bytes) ≡ length bytes - at
  left_long = sym (ap length from_place) ∙ length-drop at bytes

-- ---- each way that reading at a place can go

module _ (bytes : List ℕ) (at : ℕ) (answer : Result (Node × ℕ) Refusal) where
  refused_reads : (why : Refusal) → read_node (drop at bytes) ≡ refused why → answer ≡ Err why → Reads bytes at answer
  unfolding shown_read
  refused_reads why r e = reads bytes at answer (e ∙ sym (ap (shown_read at) r))

  pub reads_nothing : length bytes ≤ at → answer ≡ Err NodeCutShort → Reads bytes at answer
  unfolding read_node
  reads_nothing h e = refused_reads NodeCutShort (ap read_node (drop_of_length-le bytes {i = at} h)) e

  module _ (h : at < length bytes) where
    pub reads_unknown : known_family (get_or bytes at 0) ≡ false → answer ≡ Err UnknownFamily → Reads bytes at answer
    reads_unknown k e = refused_reads UnknownFamily (ap read_node (from_place bytes at h) ∙ read_unknown (get_or bytes at 0) (drop (suc at) bytes) k) e

    pub reads_cut : known_family (get_or bytes at 0) ≡ true → length bytes - at < packed_length (get_or bytes at 0)
        → answer ≡ Err NodeCutShort → Reads bytes at answer
    reads_cut k l e =
        refused_reads NodeCutShort (ap read_node (from_place bytes at h) ∙ read_cut (get_or bytes at 0) (drop (suc at) bytes) k (let q = left_long bytes at h in omega arith)) e

    pub reads_whole : known_family (get_or bytes at 0) ≡ true → packed_length (get_or bytes at 0) ≤ length bytes - at
        → answer ≡ Ok (value_of (node_of (get_or bytes at 0) (drop (suc at) bytes)), at + packed_length (get_or bytes at 0)) → Reads bytes at answer
    unfolding shown_read
    reads_whole k l e =
        let family = get_or bytes at 0 in
        let rest = drop (suc at) bytes in
        let w : packed_length family ≤ length (family ∷ rest) = let q = left_long bytes at h in omega arith in
        reads bytes at answer
        (e ∙ ap (λ (k : ℕ). Ok (value_of (node_of family rest), at + k)) (sym (length_read family rest w))
        ∙ sym (ap (shown_read at) (ap read_node (from_place bytes at h) ∙ read_whole family rest k w)))
