-- The ways out of the search for the node at an index. Assumes nothing.
use mathlib.Core.Path.{◌≡◌, ◌∙◌, sym, ap}
use mathlib.Core.List.{List}
use Prim.Native.Nat.{ℕ, ◌*◌, ◌<◌, ◌≤◌}
use native.Mathlib.Omega.{arith}
use lib.ListN.{length, get_or, take, drop}
use lib.Seq.{get_or-take}
use borrow.Author.Tests.{le-leb, lt-leb}
use Rattle.std.specs.Prelude.{Option, None, Some, Result, Ok, Err}
use Rattle.refusal.specs.declared.Refusal.{Refusal}
use Rattle.node.specs.declared.Node.{Node}
use Rattle.node.specs.Values.{blank_node}
use Rattle.nearest.specs.Calls.{checked}
use Rattle.lent_list_laws.specs.Layout.{slot_at, slots_at, list_at}
use Rattle.lent_list_laws.specs.Calls.{short_refusal}
use Rattle.lent_list.specs.Held.{held_after, held_at}
use Rattle.lent_list_laws.proofs.SlotLaws.{slots_at_lem, slots_front}
use Rattle.lent_list_laws.proofs.ChangeLaws.{count_there, slots_of}

module _ (m : List ℕ) (index : ℕ) where
  pub held_short : (why : Refusal) → why ≡ short_refusal m → length m < 850 → Err why ≡ held_at m index
  unfolding held_at
  held_short why e h = simp (lt-leb 850 (length m) h, e)

  module _ (h : 850 ≤ length m) where
    held_told : (a : Result (Unit {0}) Refusal) → checked (list_at m) ≡ a → held_at m index ≡ held_after a (list_at m) index
    unfolding held_at
    held_told a e = simp (le-leb 850 (length m) h, e)

    pub held_refused : (why : Refusal) → checked (list_at m) ≡ Err why → Err why ≡ held_at m index
    unfolding held_after
    held_refused why a = sym (held_told (Err why) a)

    module _ (a : checked (list_at m) ≡ Ok tt) where
      pub held_nothing : get_or m 1 0 ≤ index → Ok None ≡ held_at m index
      unfolding held_after list_at
      held_nothing k = sym (held_told (Ok tt) a ∙ simp (le-leb (get_or m 1 0) index k))

      pub held_node : index < get_or m 1 0 → (n : Node) → n ≡ slot_at (take 51 (drop (index * 51) (slots_of m)))
          → Ok (Some n) ≡ held_at m index
      unfolding held_after list_at
      held_node k n e =
          let w = count_there m a in
          let there : n ≡ get_or (take (get_or m 1 0) (slots_at 16 (drop 34 m))) index blank_node =
          e ∙ sym (slots_at_lem 16 index (slots_of m) blank_node (omega arith))
          ∙ ap (λ (l : List Node). get_or l index blank_node) (slots_front 16 (drop 34 m))
          ∙ sym (get_or-take (get_or m 1 0) (slots_at 16 (drop 34 m)) index blank_node k) in
          ap {B = Result (Option Node) Refusal} (λ (x : Node). Ok (Some x)) there
          ∙ sym (held_told (Ok tt) a ∙ simp (lt-leb (get_or m 1 0) index k))
