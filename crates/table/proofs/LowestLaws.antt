-- The lowest place that is not listed, by marks.
use mathlib.Core.Path.{◌≡◌, refl, sym, ◌∙◌}
use mathlib.Core.Bool.{Bool, true, false, not, ◌||◌, cond}
use mathlib.Core.List.{List, []}
use Prim.Native.Nat.{ℕ, zero, suc, ◌+◌, ◌≤◌, ◌<◌}
use native.Mathlib.Numerals.{add-one}
use native.Mathlib.Omega.{arith}
use lib.ListN.{length, take, drop, get_or, set, replicate}
use lib.Seq.{take-suc, drop-cons}
use lib.Dec.{eqb}
use borrow.Author.Tests.{eqb-true, eqb-false}
use Rattle.std.proofs.Common.{get_or-set_same, get_or-set_other}
use Rattle.std.proofs.lemmas.List.{get_or-replicate}
use Rattle.std.specs.List.{position_or_len}
use Rattle.lists.specs.Find.{member}
use Rattle.lists.proofs.Members.{member_last}
use Rattle.table_laws.specs.Table.{lowest}
use Rattle.table.specs.Marks.{Marked}

pub mark_none : Marked (replicate 256 false) []
unfolding member
mark_none x h = get_or-replicate 256 x false false h

pub mark_step : (seen : List Bool) (ns : List ℕ) (i n : ℕ) → length seen ≡ 256 → i < length ns → n ≡ get_or ns i 0 → n < 256 → Marked seen (take i ns) → Marked (set seen n true) (take (i + 1) ns)
mark_step seen ns i n l h e b m x k =
    rw (add-one, take-suc ns i 0 h, ← e, member_last x (take i ns) n) (go (eqb n x) refl)
  where
    go : (t : Bool) → eqb n x ≡ t → get_or (set seen n true) x false ≡ (t || member x (take i ns))
    go true q = rw (← eqb-true n x q) (get_or-set_same seen n true false (omega arith))
    go false q = get_or-set_other seen n x true false (λ z. eqb-false n x q (sym z)) ∙ m x k

-- the first mark that is missing among n from i on
pub first_missing : (seen : List Bool) (ns : List ℕ) (i n : ℕ) → length seen ≡ 256 → Marked seen ns → i + n ≤ 256 →
    i + position_or_len not (take n (drop i seen)) ≡ lowest i n ns
unfolding lowest
first_missing seen ns i zero l m b = omega arith
first_missing seen ns i (suc n) l m b =
    rw (drop-cons seen i false (omega arith), m i (omega arith)) (go (member i ns) (first_missing seen ns (suc i) n l m (omega arith)))
  where
    go : (t : Bool) → suc i + position_or_len not (take n (drop (suc i) seen)) ≡ lowest (suc i) n ns
        → i + cond (not (not t)) (1 + (position_or_len not (take n (drop (suc i) seen)))) 0 ≡ cond t (lowest (suc i) n ns) i
    go true ih = omega arith
    go false ih = omega arith
