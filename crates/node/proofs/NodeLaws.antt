-- Laws of a packed node: how long it is, what it is to read one, and which bytes a node that was read is packed into. Assumes nothing.
use mathlib.Core.Path.{◌≡◌, ◌∙◌, refl, sym, ap, ap₂}
use mathlib.Core.Bool.{Bool, true, false}
use mathlib.Core.List.{List, [], ◌∷◌, ◌++◌, append_assoc}
use Prim.Native.Nat.{ℕ, suc, ◌+◌, ◌*◌, ◌-◌, ◌<◌, ◌≤◌}
use native.Mathlib.Omega.{arith}
use lib.Dec.{leb}
use lib.ListN.{length, get_or, take, drop, replicate, length-append, length-drop, take-append-drop}
use lib.Seq.{length-take-le, take_all, take_at, drop_at, take-add, drop-drop}
use borrow.Author.Tests.{le-leb, lt-leb, leb-true, leb-false}
use Rattle.std.proofs.lemmas.Grind.{common_steps}
use Rattle.wire.specs.Numbers.{Bytes, number_of, bytes_of}
use Rattle.wire.proofs.TwoBytes.{number_two}
use Rattle.wire.proofs.Numbers.{bytes_take, bytes_drop, bytes_of_number, length_bytes_of, number_bytes_of, number_lt}
use Rattle.key.specs.declared.Key.{Key}
use Rattle.key.specs.Keys.{key_of}
use Rattle.key.proofs.Lent.{key_whole}
use Rattle.refusal.specs.declared.Refusal.TheVariants.{UnknownFamily, NodeCutShort}
use Rattle.node.specs.declared.Node.{Node}
use Rattle.node.specs.Families.{known_family, address_length, packed_length}
use Rattle.node.specs.Nodes.{NodeInfo, node, refused, check, packed_node, node_of, read_node, FitsNode}
use Rattle.node.specs.Values.{info_of, value_of}
use Rattle.node.proofs.FamilyLaws.{address_fits}

-- ---- how long a packed node is

pub length_packed : (n : NodeInfo) → length n.address ≡ address_length n.family → length n.key ≡ 32 → length (packed_node n) ≡ packed_length n.family
unfolding packed_node
length_packed n a k =
    let x = length-append n.address (bytes_of 2 n.port ++ n.key) in
    let y = length-append (bytes_of 2 n.port) n.key in
    let z = length_bytes_of 2 n.port in
    omega arith

pub length_fits : (n : NodeInfo) → FitsNode n → length (packed_node n) ≡ packed_length n.family
length_fits n fits = length_packed n fits.long fits.key.long

-- ---- what the bytes at the front are

module _ (family : ℕ) (rest : List ℕ) where
  pub read_unknown : known_family family ≡ false → read_node (family ∷ rest) ≡ refused UnknownFamily
  unfolding read_node check
  read_unknown e = rw e

  pub read_cut : known_family family ≡ true → length (family ∷ rest) < packed_length family → read_node (family ∷ rest) ≡ refused NodeCutShort
  unfolding read_node check
  read_cut e h = rw (e, lt-leb (packed_length family) (length (family ∷ rest)) h)

  pub read_whole : known_family family ≡ true → packed_length family ≤ length (family ∷ rest) → read_node (family ∷ rest) ≡ node (node_of family rest)
  unfolding read_node check
  read_whole e h = rw (e, le-leb (packed_length family) (length (family ∷ rest)) h)

-- the ways that reading can go
pub data Front : List ℕ → Type 0 where
  nothing : Front []
  unknown : {family : ℕ} {rest : List ℕ} → known_family family ≡ false → Front (family ∷ rest)
  cut : {family : ℕ} {rest : List ℕ} → known_family family ≡ true → length (family ∷ rest) < packed_length family → Front (family ∷ rest)
  whole : {family : ℕ} {rest : List ℕ} → known_family family ≡ true → packed_length family ≤ length (family ∷ rest) → Front (family ∷ rest)

pub front : (bytes : List ℕ) → Front bytes
front [] = nothing
front (family ∷ rest) = at_family (known_family family) refl
  where
    at_length : known_family family ≡ true → (t : Bool) → leb (packed_length family) (length (family ∷ rest)) ≡ t → Front (family ∷ rest)
    at_length k true e = whole k (leb-true (packed_length family) (length (family ∷ rest)) e)
    at_length k false e = cut k (leb-false (packed_length family) (length (family ∷ rest)) e)

    at_family : (t : Bool) → known_family family ≡ t → Front (family ∷ rest)
    at_family true e = at_length e (leb (packed_length family) (length (family ∷ rest))) refl
    at_family false e = unknown e

-- ---- a node that was read

module _ (family : ℕ) (rest : List ℕ) (h : packed_length family ≤ length (family ∷ rest)) where
  pub read_address_long : length (node_of family rest).address ≡ address_length family
  unfolding node_of
  read_address_long = length-take-le (address_length family) rest (omega arith)

  pub read_key_long : length (node_of family rest).key ≡ 32
  unfolding node_of
  read_key_long =
      let x = length-drop (address_length family) rest in
      let y = length-drop 2 (drop (address_length family) rest) in
      length-take-le 32 (drop 2 (drop (address_length family) rest)) (omega arith)

  port_long : length (take 2 (drop (address_length family) rest)) ≡ 2
  port_long =
      let x = length-drop (address_length family) rest in
      length-take-le 2 (drop (address_length family) rest) (omega arith)

  pub length_read : length (packed_node (node_of family rest)) ≡ packed_length family
  unfolding node_of
  length_read = length_packed (node_of family rest) read_address_long read_key_long

  -- its fields are in range
  pub read_fits : known_family family ≡ true → Bytes rest → FitsNode (node_of family rest)
  unfolding node_of
  read_fits k b =
      let d = bytes_drop (address_length family) rest b in
      record {
        known = k;
        long = read_address_long;
        bytes = bytes_take (address_length family) rest b;
        port = rw port_long at (number_lt (take 2 (drop (address_length family) rest)) (bytes_take 2 (drop (address_length family) rest) d));
        key = record { long = read_key_long; bytes = bytes_take 32 (drop 2 (drop (address_length family) rest)) (bytes_drop 2 (drop (address_length family) rest) d) };
      }

  -- it is packed into the bytes that it was read from
  pub packed_read : Bytes rest → packed_node (node_of family rest) ++ drop (packed_length family) (family ∷ rest) ≡ family ∷ rest
  unfolding node_of packed_node
  packed_read b =
      let a = address_length family in
      let d = bytes_drop a rest b in
      let e : bytes_of 2 (number_of (take 2 (drop a rest))) ≡ take 2 (drop a rest) =
      ap (λ (k : ℕ). bytes_of k (number_of (take 2 (drop a rest)))) (sym port_long) ∙ bytes_of_number (take 2 (drop a rest)) (bytes_take 2 (drop a rest) d) in
      let f : take a rest ++ (bytes_of 2 (number_of (take 2 (drop a rest))) ++ take 32 (drop 2 (drop a rest))) ≡ take (a + 34) rest =
      ap (λ (l : List ℕ). take a rest ++ (l ++ take 32 (drop 2 (drop a rest)))) e ∙ ap (λ (l : List ℕ). take a rest ++ l) (sym (take-add 2 32 (drop a rest)))
      ∙ sym (take-add a 34 rest) in
      let g : packed_length family ≡ suc (a + 34) = omega arith in
      ap₂ (λ (l : List ℕ) (k : ℕ). (family ∷ l) ++ drop k (family ∷ rest)) f g ∙ ap (λ (l : List ℕ). family ∷ l) (take-append-drop (a + 34) rest)

-- ---- a node that was packed

pub same_info : (f : ℕ) (a b : List ℕ) (p q : ℕ) (k l : List ℕ) → a ≡ b → p ≡ q → k ≡ l
    → ◌≡◌ {A = NodeInfo} (record { family = f; address = a; port = p; key = k }) (record { family = f; address = b; port = q; key = l })
same_info f a b p q k l x y z = cc

module _ (n : NodeInfo) (fits : FitsNode n) (after : List ℕ) where
  packed_rest : List ℕ
  packed_rest = (n.address ++ (bytes_of 2 n.port ++ n.key)) ++ after

  behind_address : drop (address_length n.family) packed_rest ≡ bytes_of 2 n.port ++ (n.key ++ after)
  unfolding packed_rest
  behind_address =
      ap (drop (address_length n.family)) (append_assoc n.address (bytes_of 2 n.port ++ n.key) after)
      ∙ drop_at n.address ((bytes_of 2 n.port ++ n.key) ++ after) (address_length n.family) fits.long
      ∙ append_assoc (bytes_of 2 n.port) n.key after

  read_back : node_of n.family packed_rest ≡ n
  unfolding node_of packed_rest
  read_back =
      same_info n.family _ n.address _ n.port _ n.key
      (ap (take (address_length n.family)) (append_assoc n.address (bytes_of 2 n.port ++ n.key) after)
      ∙ take_at n.address ((bytes_of 2 n.port ++ n.key) ++ after) (address_length n.family) fits.long)
      (ap (λ (l : List ℕ). number_of (take 2 l)) behind_address
      ∙ ap number_of (take_at (bytes_of 2 n.port) (n.key ++ after) 2 (length_bytes_of 2 n.port)) ∙ number_bytes_of 2 n.port fits.port)
      (ap (λ (l : List ℕ). take 32 (drop 2 l)) behind_address
      ∙ ap (take 32) (drop_at (bytes_of 2 n.port) (n.key ++ after) 2 (length_bytes_of 2 n.port)) ∙ take_at n.key after 32 fits.key.long)

  -- it is read back from its packed bytes, whatever comes after them
  pub read_packed : read_node (packed_node n ++ after) ≡ node n
  unfolding packed_node packed_rest
  read_packed =
      let l = length_fits n fits in
      let k = length-append (packed_node n) after in
      read_whole n.family packed_rest fits.known (omega arith) ∙ ap node read_back

-- ---- a node by value

pub info_of_value : (n : NodeInfo) → length n.address ≡ address_length n.family → info_of (value_of n) ≡ n
unfolding info_of value_of
info_of_value n long =
    same_info n.family _ n.address n.port n.port n.key n.key
    (take_at n.address (replicate (16 - length n.address) 0) (address_length n.family) long) refl refl

-- a value of 16 address bytes and a key of 32 is packed into as many bytes as its family says
pub length_value : (n : Node) → length n.address ≡ 16 → length n.key.0 ≡ 32 → length (packed_node (info_of n)) ≡ packed_length n.family
unfolding info_of
length_value n a k =
    length_packed (info_of n) (length-take-le (address_length n.family) n.address (let h = address_fits n.family in omega arith)) k

-- ---- where the parts of a packed node stand, as parts of the lent bytes

module _ (packed : List ℕ) (a : ℕ) (h : 35 + a ≤ length packed) where
  pub port_read : get_or packed (1 + a) 0 * 256 + get_or packed (1 + a + 1) 0 ≡ number_of (take 2 (drop a (drop 1 packed)))
  port_read =
      let l = drop a (drop 1 packed) in
      let n = number_two l (let x = length-drop a (drop 1 packed) in let y = length-drop 1 packed in omega arith) in
      let e : get_or l 0 0 ≡ get_or packed (1 + a) 0 = grind (arith, common_steps) in
      let f : get_or l 1 0 ≡ get_or packed (1 + a + 1) 0 = grind (arith, common_steps) in
      ap₂ (λ (i j : ℕ). i * 256 + j) (sym e) (sym f) ∙ sym n

  pub key_part : key_of (take (length packed - (1 + a + 2)) (drop (1 + a + 2) packed)) ≡ take 32 (drop 2 (drop a (drop 1 packed)))
  key_part =
      let x = length-drop (1 + a + 2) packed in
      let e : drop (1 + a + 2) packed ≡ drop 2 (drop a (drop 1 packed)) = sym (ap (drop 2) (drop-drop a 1 packed) ∙ drop-drop 2 (1 + a) packed) in
      ap key_of (take_all (length packed - (1 + a + 2)) (drop (1 + a + 2) packed) (omega arith))
      ∙ key_whole (drop (1 + a + 2) packed) (omega arith) ∙ ap (take 32) e

-- a node by value from its parts
pub same_value : (f : ℕ) (a b : List ℕ) (p q : ℕ) (k : Key) (l : List ℕ) → a ≡ b → p ≡ q → k.0 ≡ l
    → ◌≡◌ {A = Node} (record { family = f; address = a; port = p; key = k }) (record { family = f; address = b; port = q; key = record { 0 = l } })
same_value f a b p q k l x y z =
    ap₂ {C = Node} (λ (s : List ℕ) (t : ℕ). record { family = f; address = s; port = t; key = k }) x y
    ∙ ap {B = Node} (λ (s : List ℕ). record { family = f; address = b; port = q; key = record { 0 = s } }) z

-- the value of the parts that stand in packed bytes
pub value_unpacked : (f a : ℕ) (packed address : List ℕ) (port : ℕ) (key : Key) → get_or packed 0 0 ≡ f → a ≡ address_length f → 35 + a ≤ length packed
    → address ≡ take (address_length f) (drop 1 packed) ++ replicate (16 - address_length f) 0
    → port ≡ get_or packed (1 + a) 0 * 256 + get_or packed (1 + a + 1) 0
    → key.0 ≡ key_of (take (length packed - (1 + a + 2)) (drop (1 + a + 2) packed))
    → ◌≡◌ {A = Node} (record { family = get_or packed 0 0; address = address; port = port; key = key }) (value_of (node_of f (drop 1 packed)))
unfolding node_of value_of
value_unpacked f a packed address port key named long h x y z =
    let rest = drop 1 packed in
    let l = length-take-le (address_length f) rest (let d = length-drop 1 packed in omega arith) in
    ap (λ (n : ℕ). record { family = n; address = address; port = port; key = key }) named
    ∙ same_value f _ _ _ _ key _
    (x ∙ ap (λ (n : ℕ). take (address_length f) rest ++ replicate (16 - n) 0) (sym l))
    (y ∙ port_read packed a h ∙ ap (λ (n : ℕ). number_of (take 2 (drop n rest))) long)
    (z ∙ key_part packed a h ∙ ap (λ (n : ℕ). take 32 (drop 2 (drop n rest))) long)
