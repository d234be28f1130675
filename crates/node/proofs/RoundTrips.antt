-- The round trips of one node, over all bytes and all nodes:
--
--   - bytes are read as a node exactly where they begin with its packed bytes (`read_exactly`, and `read_packed` of `NodeLaws`);
--   - writing a node that was read gives back the bytes that it was read from (`write_of_read`);
--   - reading a node that was written gives it back (`read_of_write`), with 0 in the address bytes that its family does not use. They are 0 in
--     every node that was read (`read_settled`), and the writer does not look at them (`settled_packed`), so for IPv6, and for an IPv4 node
--     that was read, it is the same node (`ipv6_settled`, `read_settled`).
--
-- Assumes nothing.
use mathlib.Core.Path.{◌≡◌, ◌∙◌, refl, sym, ap, ap₂, subst}
use mathlib.Core.Bool.{Bool, true, false}
use mathlib.Core.List.{List, [], ◌∷◌, ◌++◌, append-nil}
use Prim.Native.Nat.{ℕ, ◌+◌, ◌-◌, ◌≤◌}
use native.Mathlib.Omega.{arith}
use lib.Dec.{leb}
use lib.ListN.{length, take, drop, replicate}
use lib.Seq.{length-take-le, take_all, take_at, take-append_seam}
use borrow.Author.Tests.{le-leb}
use Rattle.wire.specs.Numbers as wire
use Rattle.wire.proofs.Numbers.{bytes_take, bytes_drop}
use Rattle.std.specs.Prelude.{Result, Ok, Err}
use Rattle.refusal.specs.declared.Refusal.{Refusal}
use Rattle.refusal.specs.declared.Refusal.TheVariants.{UnknownFamily, OutputTooShort}
use Rattle.node.specs.declared.Node.{Node}
use Rattle.node.specs.Families.{known_family, address_length, packed_length}
use Rattle.node.specs.Nodes.{NodeInfo, node, packed_node, node_of, read_node, FitsNode, Taken}
use Rattle.node.specs.Values.{info_of, value_of, settled, IsNode}
use Rattle.node.specs.Reads.{Reads, found_of, shown_read}
use Rattle.node.specs.Written.{written_answer, written_output, Writes, WritesNode}
use Rattle.node.proofs.FamilyLaws.{address_fits}
use Rattle.node.proofs.NodeLaws.{Front, nothing, unknown, cut, whole, front, read_unknown, read_cut, read_whole, read_address_long, read_fits, length_read, packed_read, read_packed, same_info, same_value}

-- ---- what was read

whole_taken : (family : ℕ) (rest : List ℕ) → known_family family ≡ true → packed_length family ≤ length (family ∷ rest) → wire.Bytes (family ∷ rest)
    → Taken (family ∷ rest) (node_of family rest)
whole_taken family rest k h b = record {
  fits = read_fits family rest h k b.1;
  front = sym (ap (λ (m : ℕ). packed_node (node_of family rest) ++ drop m (family ∷ rest)) (length_read family rest h) ∙ packed_read family rest h b.1);
}

nothing_read : (n : NodeInfo) → read_node [] ≡ node n → ⊥
unfolding read_node
nothing_read n e = cc

-- a node that is read is of a known family, with as many address bytes as that has
pub read_known : (bytes : List ℕ) (n : NodeInfo) → read_node bytes ≡ node n → (known_family n.family ≡ true) × (length n.address ≡ address_length n.family)
unfolding node_of
read_known bytes n e = go bytes (front bytes) e
  where
    go : (bytes : List ℕ) → Front bytes → read_node bytes ≡ node n → (known_family n.family ≡ true) × (length n.address ≡ address_length n.family)
    go [] nothing e = absurd (nothing_read n e)
    go (family ∷ rest) (unknown k) e = cc (read_unknown family rest k)
    go (family ∷ rest) (cut k h) e = cc (read_cut family rest k h)
    go (family ∷ rest) (whole k h) e =
        let q : node_of family rest ≡ n = cc (read_whole family rest k h) in
        subst (λ (x : NodeInfo). (known_family x.family ≡ true) × (length x.address ≡ address_length x.family)) q (k, read_address_long family rest h)

pub read_exactly : (bytes : List ℕ) (n : NodeInfo) → wire.Bytes bytes → read_node bytes ≡ node n → Taken bytes n
read_exactly bytes n b e = go bytes (front bytes) b e
  where
    go : (bytes : List ℕ) → Front bytes → wire.Bytes bytes → read_node bytes ≡ node n → Taken bytes n
    go [] nothing b e = absurd (nothing_read n e)
    go (family ∷ rest) (unknown k) b e = cc (read_unknown family rest k)
    go (family ∷ rest) (cut k h) b e = cc (read_cut family rest k h)
    go (family ∷ rest) (whole k h) b e =
        let q : node_of family rest ≡ n = cc (read_whole family rest k h) in
        subst (Taken (family ∷ rest)) q (whole_taken family rest k h b)

-- an answer that found a node: which it is, and where the next starts
module _ (bytes : List ℕ) (at : ℕ) (n : Node) (next : ℕ) (is : Reads bytes at (Ok (n, next))) where
  found_node : read_node (drop at bytes) ≡ node (info_of n)
  unfolding found_of
  found_node = sym is.means

  exact : ◌≡◌ {A = Node × ℕ} (n, next) (value_of (info_of n), at + length (packed_node (info_of n)))
  unfolding shown_read
  exact = let e = is.exact ∙ ap (shown_read at) found_node in cc

  found_next : next ≡ at + length (packed_node (info_of n))
  found_next = ap (λ (p : Node × ℕ). p.1) exact

  pub found_taken : wire.Bytes bytes → Taken (drop at bytes) (info_of n)
  found_taken b = read_exactly (drop at bytes) (info_of n) (bytes_drop at bytes b) found_node

  -- what it shows is the value of what was read
  found_value : n ≡ value_of (info_of n)
  found_value = ap (λ (p : Node × ℕ). p.0) exact

-- ---- what is written

module _ (n : NodeInfo) (out left : List ℕ) (wrote : Result ℕ Refusal) (is : Writes n out wrote left) where
  pub record Put (size : ℕ) : Type 0 where
    pub known : known_family n.family ≡ true
    pub count : size ≡ length (packed_node n)
    pub bytes : left ≡ packed_node n ++ drop size out

  -- a byte count says that the node was put into the output
  pub count_put : (size : ℕ) → wrote ≡ Ok size → Put size
  unfolding written_answer written_output
  count_put size e = go (known_family n.family) refl (leb (length (packed_node n)) (length out)) refl
    where
      go : (t : Bool) → known_family n.family ≡ t → (u : Bool) → leb (length (packed_node n)) (length out) ≡ u → Put size
      go true k true l =
          let a : wrote ≡ Ok (length (packed_node n)) = is.answers ∙ simp (k, l) in
          let s : size ≡ length (packed_node n) = cc in
          record { known = k; count = s; bytes = is.leaves ∙ simp (k, l) (ap (λ (m : ℕ). packed_node n ++ drop m out) (sym s)) }
      go true k false l = let a : wrote ≡ Err OutputTooShort = is.answers ∙ simp (k, l) in cc
      go false k u l = let a : wrote ≡ Err UnknownFamily = is.answers ∙ simp k in cc

  -- a node of a known family is put into an output that has room
  pub put_count : known_family n.family ≡ true → length (packed_node n) ≤ length out
      → (wrote ≡ Ok (length (packed_node n))) × (left ≡ packed_node n ++ drop (length (packed_node n)) out)
  unfolding written_answer written_output
  put_count k h = let l = le-leb (length (packed_node n)) (length out) h in (is.answers ∙ simp (k, l), is.leaves ∙ simp (k, l))

-- ---- the address bytes that a family does not use

module _ (n : Node) (long : length n.address ≡ 16) where
  used : length (take (address_length n.family) n.address) ≡ address_length n.family
  used = length-take-le (address_length n.family) n.address (let h = address_fits n.family in omega arith)

  -- the value that shows a node has 0 there
  pub value_settled : value_of (info_of n) ≡ settled n
  unfolding value_of info_of settled
  value_settled =
      sym (same_value n.family _ _ n.port n.port n.key n.key.0
      (ap (λ (k : ℕ). take (address_length n.family) n.address ++ replicate (16 - k) 0) (sym used)) refl refl)

  -- the writer does not look at them
  pub settled_packed : info_of (settled n) ≡ info_of n
  unfolding info_of settled
  settled_packed =
      same_info n.family _ (take (address_length n.family) n.address) n.port n.port n.key.0 n.key.0
      (take_at (take (address_length n.family) n.address) (replicate (16 - address_length n.family) 0) (address_length n.family) used) refl refl

  -- IPv6 uses them all
  pub ipv6_settled : address_length n.family ≡ 16 → settled n ≡ n
  unfolding settled
  ipv6_settled e =
      same_value n.family _ n.address n.port n.port n.key n.key.0
      (ap (λ (k : ℕ). take k n.address ++ replicate (16 - k) 0) e ∙ append-nil (take 16 n.address) ∙ take_all 16 n.address (omega arith)) refl refl

shown_settled : (n : NodeInfo) → length n.address ≡ address_length n.family → settled (value_of n) ≡ value_of n
unfolding settled value_of
shown_settled n long =
    same_value n.family _ _ n.port n.port (record { 0 = n.key }) n.key
    (ap₂ (λ (l : List ℕ) (k : ℕ). l ++ replicate (16 - k) 0)
    (take_at n.address (replicate (16 - length n.address) 0) (address_length n.family) long) (sym long)) refl refl

pub read_settled : (bytes : List ℕ) (at : ℕ) (n : Node) (next : ℕ) → wire.Bytes bytes → Reads bytes at (Ok (n, next)) → settled n ≡ n
read_settled bytes at n next b is =
    let v = found_value bytes at n next is in
    ap settled v ∙ shown_settled (info_of n) (found_taken bytes at n next is b).fits.long ∙ sym v

-- ---- the round trips

-- the fields of a value are in range
pub value_fits : (n : Node) → IsNode n → known_family n.family ≡ true → FitsNode (info_of n)
unfolding info_of
value_fits n is k = record {
  known = k;
  long = used n is.long;
  bytes = bytes_take (address_length n.family) n.address is.bytes;
  port = is.port;
  key = is.key;
}

pub read_of_write : (n : Node) (out left : List ℕ) (size : ℕ) (read : Result (Node × ℕ) Refusal) → WritesNode n out left (Ok size) → Reads left 0 read
    → read ≡ Ok (settled n, size)
unfolding shown_read info_of
read_of_write n out left size read writes reads =
    let is = writes.fits in
    let p = count_put (info_of n) out left (Ok size) writes.writes size refl in
    let r : read_node (drop 0 left) ≡ node (info_of n) = ap read_node p.bytes ∙ read_packed (info_of n) (value_fits n is p.known) (drop size out) in
    let q : 0 + length (packed_node (info_of n)) ≡ size = let c = p.count in omega arith in
    reads.exact ∙ ap (shown_read 0) r ∙ ap₂ (λ (k : ℕ) (v : Node). Ok (v, k)) q (value_settled n is.long)

pub write_of_read : (bytes : List ℕ) (at : ℕ) (n : Node) (next : ℕ) (out left : List ℕ) (wrote : Result ℕ Refusal) → wire.Bytes bytes → Reads bytes at (Ok (n, next))
    → Writes (info_of n) out wrote left → next - at ≤ length out
    → (wrote ≡ Ok (next - at)) × (left ≡ take (next - at) (drop at bytes) ++ drop (next - at) out)
write_of_read bytes at value next out left wrote b is writes h =
    let n = info_of value in
    let t = found_taken bytes at value next is b in
    let q : length (packed_node n) ≡ next - at = let e = found_next bytes at value next is in omega arith in
    let p = put_count n out left wrote writes t.fits.known (omega arith) in
    let c : packed_node n ≡ take (length (packed_node n)) (drop at bytes) = sym (ap (take (length (packed_node n))) t.front ∙ take-append_seam (packed_node n) _) in
    (p.0 ∙ ap Ok q, p.1 ∙ ap (λ (l : List ℕ). l ++ drop (length (packed_node n)) out) c ∙ ap (λ (k : ℕ). take k (drop at bytes) ++ drop k out) q)
