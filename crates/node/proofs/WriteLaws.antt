-- Laws of writing a node: the parts put one behind the other into an output of the exact length, and the answer. Assumes nothing.
use mathlib.Core.Path.{◌≡◌, ◌∙◌, refl, sym, ap, ap₂}
use mathlib.Core.Bool.{true, false}
use mathlib.Core.List.{List, [], ◌∷◌, ◌++◌, append_assoc, append-nil}
use Prim.Native.Nat.{ℕ, ◌+◌, ◌-◌, ◌<◌, ◌≤◌}
use native.Mathlib.Omega.{arith}
use lib.ListN.{length, take, drop, set, length-set, length-append, length-drop, drop_of_length-le}
use lib.Seq.{length-take-le}
use borrow.Author.Tests.{le-leb, lt-leb}
use Rattle.wire.specs.Numbers.{bytes_of}
use Rattle.wire.proofs.Numbers.{length_bytes_of}
use Rattle.wire.proofs.Copy.{written_first, written_part, length_lent, length_written, copy_whole}
use Rattle.key.specs.Keys.{with_key}
use Rattle.key.proofs.Lent.{with_key_whole}
use borrow.Rule.Slice.PartMut.{put_mid}
use Rattle.std.proofs.lemmas.Slice.{take-put_mid}
use Rattle.std.specs.Prelude.{Ok, Err}
use Rattle.refusal.specs.declared.Refusal.TheVariants.{UnknownFamily, OutputTooShort}
use Rattle.node.specs.Families.{known_family, packed_length}
use Rattle.node.specs.Nodes.{NodeInfo, packed_node}
use Rattle.node.specs.Written.{written_answer, written_output, Writes}

-- ---- a byte and three parts written one behind the other fill an output

written_front : (out : List ℕ) (f : ℕ) → 0 < length out → take 1 (set out 0 f) ≡ f ∷ []
written_front [] f h = absurd (omega arith)
written_front (x ∷ out) f h = refl

length_put : (at k : ℕ) (out part : List ℕ) → at + k ≤ length out → length part ≡ k → length (put_mid at k out part) ≡ length out
length_put at k out part h e =
    let x = length-append (take at out) (part ++ drop k (drop at out)) in
    let y = length-append part (drop k (drop at out)) in
    let z = length-take-le at out (omega arith) in
    let v = length-drop at out in
    let w = length-drop k (drop at out) in
    omega arith

module _ (out address : List ℕ) (family a : ℕ) (room : length out ≡ 35 + a) (x : length address ≡ a) where
  abbrev after_address : List ℕ
  after_address = put_mid 1 (1 + a - 1) (set out 0 family) address

  pub address_kept : length after_address ≡ length out
  address_kept = length_put 1 (1 + a - 1) (set out 0 family) address (omega (arith, length-set {A = ℕ})) (omega arith) ∙ length-set out 0 family

  address_front : take (1 + a) after_address ≡ (family ∷ []) ++ address
  address_front =
      take-put_mid 1 (1 + a - 1) (set out 0 family) address (1 + a) (omega arith) (omega (arith, length-set {A = ℕ}))
      ∙ ap (λ (l : List ℕ). l ++ address) (written_front out family (omega arith))

  module _ (port : List ℕ) (y : length port ≡ 2) where
    abbrev after_port : List ℕ
    after_port = put_mid (1 + a) (1 + a + 2 - (1 + a)) after_address port

    pub port_kept : length after_port ≡ length out
    port_kept = length_put (1 + a) (1 + a + 2 - (1 + a)) after_address port (let e = address_kept in omega arith) (omega arith) ∙ address_kept

    pub filled : (key : List ℕ) → length key ≡ 32 → put_mid (1 + a + 2) (length after_port - (1 + a + 2)) after_port key ≡ family ∷ (address ++ (port ++ key))
    filled key z =
        let front : take (1 + a + 2) after_port ≡ ((family ∷ []) ++ address) ++ port =
        take-put_mid (1 + a) (1 + a + 2 - (1 + a)) after_address port (1 + a + 2) (omega arith) (let e = address_kept in omega arith)
        ∙ ap (λ (l : List ℕ). l ++ port) address_front in
        let none : drop (length after_port - (1 + a + 2)) (drop (1 + a + 2) after_port) ≡ [] =
        drop_of_length-le (drop (1 + a + 2) after_port) (omega (arith, length-drop (1 + a + 2) after_port)) in
        ap₂ (λ (l m : List ℕ). l ++ (key ++ m)) front none ∙ ap (λ (l : List ℕ). (((family ∷ []) ++ address) ++ port) ++ l) (append-nil key)
        ∙ append_assoc (family ∷ address) port key

-- ---- parts put into an output, one behind the other

-- an output whose part from one place to another comes back from a call that it was lent to
abbrev pub with_part : List ℕ → ℕ → ℕ → List ℕ → List ℕ
with_part l start end new = take start l ++ (new ++ drop (end - start) (drop start l))

module _ (w out l : List ℕ) (start end : ℕ) (e : l ≡ w ++ drop start out) (long : length w ≡ start) (fits : start ≤ end) where
  put_part : (new : List ℕ) → with_part l start end new ≡ (w ++ new) ++ drop end out
  put_part new =
      ap (λ (x : List ℕ). with_part x start end new) e ∙ written_part w new out start (end - start) long
      ∙ ap (λ (k : ℕ). (w ++ new) ++ drop k out) (let q : start + (end - start) ≡ end = omega arith in q)

  part_long : end ≤ length out → length (take (end - start) (drop start l)) ≡ end - start
  part_long room = length_lent l start (end - start) (let q = ap length e ∙ length_written w out start long (omega arith) in omega arith)

-- ---- the parts of a node

-- an output as long as the parts, and an address and a key that have enough bytes
pub record Fitting (out address key : List ℕ) (a : ℕ) : Type 0 where
  pub room : length out ≡ 35 + a
  pub many : length address ≡ 16
  pub most : a ≤ 16
  pub whole : length key ≡ 32

module _ (out address key : List ℕ) (family a port : ℕ) (fitting : Fitting out address key a) where
  first : set out 0 family ≡ (family ∷ []) ++ drop 1 out
  first = written_first out family (omega arith)

  -- the part lent for the address is as long as the address
  pub lent_address : length (take (1 + a - 1) (drop 1 (set out 0 family))) ≡ length (take a address)
  lent_address =
      let e = length-take-le a address (omega arith) in
      part_long (family ∷ []) out (set out 0 family) 1 (1 + a) first refl (omega arith) (omega arith) ∙ (let q : 1 + a - 1 ≡ length (take a address) = omega arith in q)

  address_long : length (family ∷ take a address) ≡ 1 + a
  address_long = let e = length-take-le a address (omega arith) in omega arith

  port_long : length ((family ∷ take a address) ++ bytes_of 2 port) ≡ 1 + a + 2
  port_long = let x = length-append (family ∷ take a address) (bytes_of 2 port) in let y = length_bytes_of 2 port in let z = address_long in omega arith

  -- the parts fill the output
  pub parts_fill : length (family ∷ (take a address ++ (bytes_of 2 port ++ key))) ≡ length out
  parts_fill =
      let x = length-append (take a address) (bytes_of 2 port ++ key) in
      let y = length-append (bytes_of 2 port) key in
      let z = length_bytes_of 2 port in
      let e = length-take-le a address (omega arith) in
      omega arith

  module _ (copied : List ℕ)
      (c : copied ≡ take (length (take a address)) (take a address) ++ drop (length (take a address)) (take (1 + a - 1) (drop 1 (set out 0 family)))) where
    pub put_address : with_part (set out 0 family) 1 (1 + a) copied ≡ (family ∷ take a address) ++ drop (1 + a) out
    put_address =
        let e : copied ≡ take a address =
        c ∙ copy_whole (take a address) (take (1 + a - 1) (drop 1 (set out 0 family))) lent_address in
        put_part (family ∷ []) out (set out 0 family) 1 (1 + a) first refl (omega arith) copied ∙ ap (λ (l : List ℕ). (family ∷ l) ++ drop (1 + a) out) e

    pub length_address : length (with_part (set out 0 family) 1 (1 + a) copied) ≡ length out
    length_address = ap length put_address ∙ length_written (family ∷ take a address) out (1 + a) address_long (omega arith)

    module _ (number : List ℕ)
        (n : number ≡ bytes_of (length (take (1 + a + 2 - (1 + a)) (drop (1 + a) (with_part (set out 0 family) 1 (1 + a) copied)))) port) where
      pub put_port : with_part (with_part (set out 0 family) 1 (1 + a) copied) (1 + a) (1 + a + 2) number
          ≡ ((family ∷ take a address) ++ bytes_of 2 port) ++ drop (1 + a + 2) out
      put_port =
          let l = with_part (set out 0 family) 1 (1 + a) copied in
          let e : number ≡ bytes_of 2 port =
          n ∙ ap (λ (k : ℕ). bytes_of k port)
          (part_long (family ∷ take a address) out l (1 + a) (1 + a + 2) put_address address_long (omega arith) (omega arith) ∙ (let q : 1 + a + 2 - (1 + a) ≡ 2 = omega arith in q)) in
          put_part (family ∷ take a address) out l (1 + a) (1 + a + 2) put_address address_long (omega arith) number
          ∙ ap (λ (x : List ℕ). ((family ∷ take a address) ++ x) ++ drop (1 + a + 2) out) e

      pub length_port : length (with_part (with_part (set out 0 family) 1 (1 + a) copied) (1 + a) (1 + a + 2) number) ≡ length out
      length_port = ap length put_port ∙ length_written ((family ∷ take a address) ++ bytes_of 2 port) out (1 + a + 2) port_long (omega arith)

      pub put_key : (keyed : List ℕ)
          → keyed ≡ with_key key (take (1 + a + 2 + 32 - (1 + a + 2)) (drop (1 + a + 2) (with_part (with_part (set out 0 family) 1 (1 + a) copied) (1 + a) (1 + a + 2) number)))
          → with_part (with_part (with_part (set out 0 family) 1 (1 + a) copied) (1 + a) (1 + a + 2) number) (1 + a + 2) (1 + a + 2 + 32) keyed
          ≡ family ∷ (take a address ++ (bytes_of 2 port ++ key))
      put_key keyed k =
          let l = with_part (with_part (set out 0 family) 1 (1 + a) copied) (1 + a) (1 + a + 2) number in
          let w = (family ∷ take a address) ++ bytes_of 2 port in
          let e : keyed ≡ key =
          k ∙ with_key_whole key (take (1 + a + 2 + 32 - (1 + a + 2)) (drop (1 + a + 2) l))
          (part_long w out l (1 + a + 2) (1 + a + 2 + 32) put_port port_long (omega arith) (omega arith) ∙ (let q : 1 + a + 2 + 32 - (1 + a + 2) ≡ 32 = omega arith in q)) in
          put_part w out l (1 + a + 2) (1 + a + 2 + 32) put_port port_long (omega arith) keyed
          ∙ ap₂ (λ (x y : List ℕ). (w ++ x) ++ y) e (drop_of_length-le out {i = 1 + a + 2 + 32} (omega arith))
          ∙ append-nil (w ++ key) ∙ append_assoc (family ∷ take a address) (bytes_of 2 port) key

-- ---- the answer

module _ (n : NodeInfo) (out : List ℕ) where
  pub writes_unknown : known_family n.family ≡ false → Writes n out (Err UnknownFamily) out
  unfolding written_answer written_output
  writes_unknown k = record { answers = simp k; leaves = simp k }

  module _ (k : known_family n.family ≡ true) (long : length (packed_node n) ≡ packed_length n.family) where
    pub writes_short : length out < packed_length n.family → Writes n out (Err OutputTooShort) out
    unfolding written_answer written_output
    writes_short h =
        let q = lt-leb (length (packed_node n)) (length out) (omega arith) in
        record { answers = simp (k, q); leaves = simp (k, q) }

    pub writes_node : (size : ℕ) (left : List ℕ) → size ≡ packed_length n.family → size ≤ length out → left ≡ packed_node n ++ drop size out
        → Writes n out (Ok size) left
    unfolding written_answer written_output
    writes_node size left s h e =
        let q = le-leb (length (packed_node n)) (length out) (omega arith) in
        let z : size ≡ length (packed_node n) = s ∙ sym long in
        record {
          answers = ap Ok z ∙ simp (k, q);
          leaves = e ∙ ap (λ (m : ℕ). packed_node n ++ drop m out) z ∙ simp (k, q);
        }
