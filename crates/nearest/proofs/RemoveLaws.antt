-- What a removal hands back, case by case. Assumes nothing.
use mathlib.Core.Path.{◌≡◌, ◌∙◌, sym, ap}
use mathlib.Core.Bool.{Bool, true, false, cond}
use mathlib.Core.List.{List, ◌∷◌, ◌++◌}
use Prim.Native.Nat.{ℕ, ◌-◌, ◌<◌, ◌≤◌}
use native.Mathlib.Omega.{arith}
use lib.ListN.{length, drop}
use Rattle.std.specs.Prelude.{Result, Ok, Err}
use Rattle.nearest.specs.declared.Answered.{Answered}
use Rattle.key.specs.declared.Key.{Key}
use Rattle.refusal.specs.declared.Refusal.{Refusal}
use Rattle.refusal.specs.declared.Refusal.TheVariants.{KeyNotHeld}
use Rattle.lists.specs.Insert.{remove_at}
use Rattle.lists.proofs.Shift.{length_out}
use Rattle.node.specs.declared.Node.{Node}
use Rattle.nearest.specs.declared.NearestList.{NearestList}
use Rattle.nearest.specs.Lists.{held, holding}
use Rattle.node.specs.Values.{blank_node}
use Rattle.nearest.specs.Effect.{holds, without}
use Rattle.nearest.specs.Calls.{checked, removed_after, removed}
use Rattle.nearest.specs.Slots.{index_of}
use Rattle.nearest.proofs.Order.{rising_up}
use Rattle.nearest.proofs.Place.{found}
use Rattle.nearest.proofs.Judge.{whole}
use Rattle.nearest.proofs.Holding.{held_length, holding_less}

abbrev removal : NearestList → Result (Unit {0}) Refusal → Answered (Unit {0})
removal l a = record { list = l; answer = a }

module _ (l : NearestList) (k : Key) where
  pub remove_refused : (why : Refusal) → checked l ≡ Err why → removal l (Err why) ≡ removed l k
  unfolding removed removed_after
  remove_refused why e = sym (ap (λ (a : Result (Unit {0}) Refusal). removed_after a l k) e)

  by_holds : (b : Bool) → checked l ≡ Ok tt → holds k.0 (held l) ≡ b
      → removed l k ≡ cond b (removal (holding l (without k.0 (held l))) (Ok tt)) (removal l (Err KeyNotHeld))
  unfolding removed removed_after
  by_holds b e f =
      ap (λ (a : Result (Unit {0}) Refusal). removed_after a l k) e
      ∙ ap (λ (x : Bool). cond x (removal (holding l (without k.0 (held l))) (Ok tt)) (removal l (Err KeyNotHeld))) f

  pub remove_taken : checked l ≡ Ok tt → holds k.0 (held l) ≡ true → removed l k ≡ removal (holding l (without k.0 (held l))) (Ok tt)
  remove_taken e f = by_holds true e f

  pub remove_missing : checked l ≡ Ok tt → holds k.0 (held l) ≡ false → removed l k ≡ removal l (Err KeyNotHeld)
  remove_missing e f = by_holds false e f

  module _ (e : checked l ≡ Ok tt) (slots : length l.nodes ≡ 16) (p : ℕ) (at : p ≡ index_of k.0 (held l)) where
    fits : l.count ≤ length l.nodes
    fits = let w = whole l e in omega arith

    pub remove_done : p < l.count → (ns : List Node) → ns ≡ remove_at p (held l) ++ (blank_node ∷ drop l.count l.nodes)
        → removal (record { target = l.target; size = l.size; count = l.count - 1; nodes = ns }) (Ok tt) ≡ removed l k
    remove_done h ns n =
        let g = fits in
        let m = held_length l fits in
        let o = found k.0 l.target.0 (held l) p (rising_up l.target.0 (held l) (whole l e).rises) (sym at) (omega arith) in
        let r = length_out p (held l) (omega arith) in
        ap (λ (x : NearestList). removal x (Ok tt))
        (holding_less l fits (remove_at p (held l)) (l.count - 1) ns (omega arith) (omega arith) n ∙ ap (holding l) (sym o.1))
        ∙ sym (remove_taken e o.0)
