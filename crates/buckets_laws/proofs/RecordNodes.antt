-- A node in a record of a bucket: the record of a node reads back as that node, whatever stands behind it; a record whose fields behind its key are written
-- anew holds the node written; and a record of bytes holds a node whose fields are those of a value. Assumes nothing.
use mathlib.Core.Path.{◌≡◌, ◌∙◌, refl, sym, ap}
use mathlib.Core.List.{List, [], ◌∷◌, ◌++◌, append_assoc, append-nil}
use Prim.Native.Nat.{ℕ, ◌+◌, ◌<◌}
use native.Mathlib.Omega.{arith}
use lib.ListN.{length, get_or, take, drop, length-append}
use lib.Seq.{length-take-le, take_at, drop_at, drop-drop, get_or-drop}
use Rattle.wire.specs.Numbers.{Bytes, number_of, bytes_of}
use Rattle.wire.proofs.Numbers.{bytes_append, bytes_take, bytes_drop, bytes_get_d, length_bytes_of, bytes_bytes_of, number_bytes_of, number_lt}
use Rattle.wire.proofs.Copy.{length_lent}
use Rattle.node.specs.declared.Node.{Node}
use Rattle.node.specs.Values.{IsNode}
use Rattle.nearest.specs.Lists.{node_key}
use Rattle.lent_list_laws.specs.Layout.{Fits}
use Rattle.table_laws.specs.Bytes.{splice}
use Rattle.buckets_laws.specs.Layout.{record_node, node_fields, node_record}

-- a node from its parts
same_node : (f g : ℕ) (a b : List ℕ) (p q : ℕ) (k l : List ℕ) → f ≡ g → a ≡ b → p ≡ q → k ≡ l
    → ◌≡◌ {A = Node} (record { family = f; address = a; port = p; key = record { 0 = k } })
    (record { family = g; address = b; port = q; key = record { 0 = l } })
same_node f g a b p q k l w x y z = cc

-- ---- the node that a record holds

pub record_key : (r : List ℕ) → node_key (record_node r) ≡ take 32 r
unfolding record_node
record_key r = refl

pub record_fits : (r : List ℕ) → Bytes r → length r ≡ 51 → Fits (record_node r)
unfolding record_node
record_fits r b long = (
  bytes_get_d 32 r b,
  record {
    long = length_lent r 33 16 (omega arith);
    bytes = bytes_take 16 (drop 33 r) (bytes_drop 33 r b);
    port = rw (length_lent r 49 2 (omega arith)) at (number_lt (take 2 (drop 49 r)) (bytes_take 2 (drop 49 r) (bytes_drop 49 r b)));
    key = record { long = length-take-le 32 r (omega arith); bytes = bytes_take 32 r b };
  },
)

-- ---- the record of a node

module _ (n : Node) (is : IsNode n) where
  pub length_fields : length (node_fields n) ≡ 19
  unfolding node_fields
  length_fields =
      let x = length-append n.address (bytes_of 2 n.port) in
      let z = length_bytes_of 2 n.port in
      let a = is.long in
      omega arith

  pub length_node : length (node_record n) ≡ 51
  unfolding node_record
  length_node = let x = length-append (node_key n) (node_fields n) in let l = length_fields in let k = is.key.long in omega arith

  -- its first 32 bytes are the key
  pub key_first : take 32 (node_record n) ≡ node_key n
  unfolding node_record
  key_first = take_at (node_key n) (node_fields n) 32 is.key.long

  pub fields_bytes : n.family < 256 → Bytes (node_fields n)
  unfolding node_fields
  fields_bytes f = (f, bytes_append n.address (bytes_of 2 n.port) is.bytes (bytes_bytes_of 2 n.port))

  pub record_bytes : n.family < 256 → Bytes (node_record n)
  unfolding node_record
  record_bytes f = bytes_append (node_key n) (node_fields n) is.key.bytes (fields_bytes f)

  -- bytes that begin with the key and go on with the fields hold the node
  module _ (k rest : List ℕ) (e : k ≡ node_key n) where
    key_long : length k ≡ 32
    key_long = ap length e ∙ is.key.long

    fields_then : node_fields n ++ rest ≡ n.family ∷ (n.address ++ (bytes_of 2 n.port ++ rest))
    unfolding node_fields
    fields_then = ap (λ (l : List ℕ). n.family ∷ l) (append_assoc n.address (bytes_of 2 n.port) rest)

    behind : (j : ℕ) → drop (32 + j) (k ++ (node_fields n ++ rest)) ≡ drop j (n.family ∷ (n.address ++ (bytes_of 2 n.port ++ rest)))
    behind j =
        sym (drop-drop j 32 (k ++ (node_fields n ++ rest))) ∙ ap (drop j) (drop_at k (node_fields n ++ rest) 32 key_long ∙ fields_then)

    pub fields_back : record_node (k ++ (node_fields n ++ rest)) ≡ n
    unfolding record_node
    fields_back =
        same_node (get_or (k ++ (node_fields n ++ rest)) 32 0) n.family _ n.address _ n.port _ (node_key n)
        (sym (get_or-drop 32 (k ++ (node_fields n ++ rest)) 0 0) ∙ ap (λ (l : List ℕ). get_or l 0 0) (behind 0))
        (ap (take 16) (behind 1) ∙ take_at n.address (bytes_of 2 n.port ++ rest) 16 is.long)
        (ap (λ (l : List ℕ). number_of (take 2 l)) (behind 17 ∙ drop_at n.address (bytes_of 2 n.port ++ rest) 16 is.long)
        ∙ ap number_of (take_at (bytes_of 2 n.port) rest 2 (length_bytes_of 2 n.port)) ∙ number_bytes_of 2 n.port is.port)
        (take_at k (node_fields n ++ rest) 32 key_long ∙ e)

  -- the record written reads back
  pub record_then : (rest : List ℕ) → record_node (node_record n ++ rest) ≡ n
  unfolding node_record
  record_then rest = ap record_node (append_assoc (node_key n) (node_fields n) rest) ∙ fields_back (node_key n) rest refl

  pub record_back : record_node (node_record n) ≡ n
  record_back = ap record_node (sym (append-nil (node_record n))) ∙ record_then []

  -- the fields written behind the node's key, over w bytes
  pub record_filled : (r : List ℕ) (w : ℕ) → take 32 r ≡ node_key n → record_node (splice r 32 (node_fields n) w) ≡ n
  record_filled r w e = fields_back (take 32 r) (drop w (drop 32 r)) e
