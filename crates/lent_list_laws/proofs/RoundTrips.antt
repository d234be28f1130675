-- Writing the list that was read gives the memory back, reading the list that was written gives the list back, and what a refused call hands back
-- is the list that stood in the memory, so that storing it changes no byte. Assumes nothing.
use mathlib.Core.Path.{◌≡◌, ◌∙◌, refl, sym, ap, ap₂}
use mathlib.Core.Bool.{Bool, true, false, cond}
use mathlib.Core.List.{List, ◌∷◌, ◌++◌, append_assoc}
use Prim.Native.Nat.{ℕ, ◌≤◌, ◌%◌}
use native.Mathlib.Nat.{mod-eq_of_lt}
use native.Mathlib.Omega.{arith}
use lib.Dec.{leb}
use lib.ListN.{length, get_or, take, drop, length-drop, take-append-drop}
use lib.Seq.{take_at, drop_at, take-add, drop-drop, drop-cons}
use borrow.Author.Tests.{leb-true}
use Rattle.std.specs.Prelude.{Result, Ok, Err}
use Rattle.nearest.specs.declared.Answered.{Answered}
use Rattle.wire.specs.Numbers.{Bytes}
use Rattle.wire.proofs.Numbers.{bytes_drop, bytes_get_d}
use Rattle.refusal.specs.declared.Refusal.{Refusal}
use Rattle.refusal.specs.declared.Refusal.TheVariants.{UnknownFamily, KeyNotHeld}
use Rattle.key.specs.declared.Key.{Key}
use Rattle.node.specs.declared.Node.{Node}
use Rattle.node.specs.Families.{known_family}
use Rattle.nearest.specs.declared.NearestList.{NearestList}
use Rattle.nearest.specs.Effect.{holds, without}
use Rattle.nearest.specs.Lists.{held, holding}
use Rattle.nearest.specs.Calls.{checked, not_offered, taken, offered_after, offered, removed_after, removed}
use Rattle.lent_list_laws.specs.Layout.{slots_at, list_at, slots_bytes, list_bytes, stored, Storable}
use Rattle.lent_list_laws.proofs.SlotLaws.{slots_of_bytes, slots_back}

-- ---- from memory to the list and back

module _ (m : List ℕ) (room : 850 ≤ length m) (b : Bytes m) where
  -- what stands from the target on
  behind_numbers : (take 32 (drop 2 m) ++ slots_bytes (slots_at 16 (drop 34 m))) ++ drop 850 m ≡ drop 2 m
  behind_numbers =
      let d = length-drop 34 m in
      let s : take 32 (drop 2 m) ++ slots_bytes (slots_at 16 (drop 34 m)) ≡ take 848 (drop 2 m) =
      ap (λ (l : List ℕ). take 32 (drop 2 m) ++ l) (slots_of_bytes 16 (drop 34 m) (omega arith) (bytes_drop 34 m b))
      ∙ ap (λ (l : List ℕ). take 32 (drop 2 m) ++ take 816 l) (sym (drop-drop 32 2 m)) ∙ sym (take-add 32 816 (drop 2 m)) in
      ap₂ (λ (x y : List ℕ). x ++ y) s (sym (drop-drop 848 2 m)) ∙ take-append-drop 848 (drop 2 m)

  pub numbers_before : get_or m 0 0 ∷ (get_or m 1 0 ∷ drop 2 m) ≡ m
  numbers_before = ap (λ (l : List ℕ). get_or m 0 0 ∷ l) (sym (drop-cons m 1 0 (omega arith))) ∙ sym (drop-cons m 0 0 (omega arith))

  pub write_of_read : list_bytes (list_at m) ++ drop 850 m ≡ m
  unfolding list_bytes list_at
  write_of_read =
      ap₂ (λ (x y : ℕ). x ∷ (y ∷ ((take 32 (drop 2 m) ++ slots_bytes (slots_at 16 (drop 34 m))) ++ drop 850 m)))
      (mod-eq_of_lt (bytes_get_d 0 m b)) (mod-eq_of_lt (bytes_get_d 1 m b))
      ∙ ap (λ (l : List ℕ). get_or m 0 0 ∷ (get_or m 1 0 ∷ l)) behind_numbers ∙ numbers_before

-- so storing the list that stands there changes nothing, whatever the memory's length
pub stored_same : (m : List ℕ) → Bytes m → stored (list_at m) m ≡ m
unfolding stored
stored_same m b = by (leb 850 (length m)) refl
  where
    by : (t : Bool) → leb 850 (length m) ≡ t → cond t (list_bytes (list_at m) ++ drop 850 m) m ≡ m
    by true e = write_of_read m (leb-true 850 (length m) e) b
    by false e = refl

-- ---- from the list to memory and back

same_list : (t : Key) (u : List ℕ) (a b c d : ℕ) (ns ms : List Node) → t.0 ≡ u → a ≡ b → c ≡ d → ns ≡ ms
    → ◌≡◌ {A = NearestList} (record { target = t; size = a; count = c; nodes = ns }) (record { target = record { 0 = u }; size = b; count = d; nodes = ms })
same_list t u a b c d ns ms x y z w =
    ap₂ {C = NearestList} (λ (s : List ℕ) (l : List Node). record { target = record { 0 = s }; size = a; count = c; nodes = l }) x w
    ∙ ap₂ {C = NearestList} (λ (p q : ℕ). record { target = record { 0 = u }; size = p; count = q; nodes = ms }) y z

pub read_of_write : (l : NearestList) (rest : List ℕ) → Storable l → list_at (list_bytes l ++ rest) ≡ l
unfolding list_bytes list_at
read_of_write l rest s =
    let t = l.target.0 in
    let a = append_assoc t (slots_bytes l.nodes) rest in
    let k = s.target.long in
    same_list (record { 0 = take 32 ((t ++ slots_bytes l.nodes) ++ rest) }) t (l.size % 256) l.size (l.count % 256) l.count _ l.nodes
    (ap (take 32) a ∙ take_at t (slots_bytes l.nodes ++ rest) 32 k)
    (mod-eq_of_lt s.size)
    (mod-eq_of_lt s.count)
    (ap (λ (x : List ℕ). slots_at 16 (drop 32 x)) a ∙ ap (slots_at 16) (drop_at t (slots_bytes l.nodes ++ rest) 32 k)
    ∙ ap (λ (n : ℕ). slots_at n (slots_bytes l.nodes ++ rest)) (sym s.slots) ∙ slots_back l.nodes rest s.nodes)

-- ---- a refusal hands the list back as it stood

module _ (l : NearestList) where
  after_family : (n : Node) (t : Bool) (why : Refusal) → (cond t (taken l n) (not_offered l UnknownFamily)).answer ≡ Err why
      → (cond t (taken l n) (not_offered l UnknownFamily)).list ≡ l
  unfolding taken
  after_family n true why e = cc
  after_family n false why e = refl

  after_test : (n : Node) (a : Result (Unit {0}) Refusal) (why : Refusal) → (offered_after a l n).answer ≡ Err why → (offered_after a l n).list ≡ l
  unfolding offered_after
  after_test n (Err x) why e = refl
  after_test n (Ok _) why e = after_family n (known_family n.family) why e

  pub offer_refused_same : (n : Node) (why : Refusal) → (offered l n).answer ≡ Err why → (offered l n).list ≡ l
  unfolding offered
  offer_refused_same n why e = after_test n (checked l) why e

  after_search : (ns : NearestList) (t : Bool) (why : Refusal)
      → (cond {A = Answered (Unit {0})} t (record { list = ns; answer = Ok tt }) (record { list = l; answer = Err KeyNotHeld })).answer ≡ Err why
      → (cond {A = Answered (Unit {0})} t (record { list = ns; answer = Ok tt }) (record { list = l; answer = Err KeyNotHeld })).list ≡ l
  after_search ns true why e = cc
  after_search ns false why e = refl

  remove_after_test : (key : Key) (a : Result (Unit {0}) Refusal) (why : Refusal) → (removed_after a l key).answer ≡ Err why → (removed_after a l key).list ≡ l
  unfolding removed_after
  remove_after_test key (Err x) why e = refl
  remove_after_test key (Ok _) why e = after_search (holding l (without key.0 (held l))) (holds key.0 (held l)) why e

  pub remove_refused_same : (key : Key) (why : Refusal) → (removed l key).answer ≡ Err why → (removed l key).list ≡ l
  unfolding removed
  remove_refused_same key why e = remove_after_test key (checked l) why e

-- so storing what a refused offer or a refused removal hands back leaves every byte of the memory
module _ (m : List ℕ) (b : Bytes m) (why : Refusal) where
  pub refused_offer_stored : (n : Node) → (offered (list_at m) n).answer ≡ Err why → stored (offered (list_at m) n).list m ≡ m
  refused_offer_stored n e = ap (λ (l : NearestList). stored l m) (offer_refused_same (list_at m) n why e) ∙ stored_same m b

  pub refused_remove_stored : (key : Key) → (removed (list_at m) key).answer ≡ Err why → stored (removed (list_at m) key).list m ≡ m
  refused_remove_stored key e = ap (λ (l : NearestList). stored l m) (remove_refused_same (list_at m) key why e) ∙ stored_same m b
