-- Lists that are blank behind the nodes they hold: what the calls do to them. Assumes nothing.
use mathlib.Core.Path.{◌≡◌, ◌∙◌, sym, ap}
use mathlib.Core.Bool.{Bool, true, false}
use mathlib.Core.List.{List, [], ◌++◌}
use Prim.Native.Nat.{ℕ, zero, suc, ◌+◌, ◌-◌, ◌≤◌}
use native.Mathlib.Omega.{arith}
use lib.ListN.{length, drop, replicate, replicate-append-replicate}
use lib.Seq.{take-append_seam, drop-append_seam}
use Rattle.std.specs.Prelude.{Ok, Err}
use Rattle.nearest.specs.declared.Answered.{Answered}
use Rattle.key.specs.declared.Key.{Key}
use Rattle.refusal.specs.declared.Refusal.TheVariants.{UnknownFamily, KeyNotHeld, ListSize}
use Rattle.node.specs.declared.Node.{Node}
use Rattle.node.specs.Families.{known_family}
use Rattle.nearest.specs.declared.NearestList.{NearestList}
use Rattle.nearest.specs.Lists.{held, holding, empty_of, size_right, all_known, rising}
use Rattle.node.specs.Values.{blank_node}
use Rattle.nearest.specs.Effect.{Effect, effect, after_effect, kept, holds, without}
use Rattle.nearest.specs.Calls.{begun, checked, not_offered, offer_answer, taken, offered, removed}
use Rattle.nearest.specs.Sequence.{list_of}
use Rattle.nearest.proofs.Judge.{whole_passes, bounds_size}
use Rattle.nearest.proofs.OfferLaws.{offer_taken, offer_unknown}
use Rattle.nearest.proofs.RemoveLaws.{remove_taken, remove_missing}

drop_replicate : {A : Type 0} (b : A) (m j : ℕ) → drop j (replicate m b) ≡ replicate (m - j) b
drop_replicate b m zero = let e : m ≡ m - 0 = omega arith in ap (λ (i : ℕ). replicate i b) e
drop_replicate b zero (suc j) = let e : ◌≡◌ {A = ℕ} 0 (0 - suc j) = omega arith in ap (λ (i : ℕ). replicate i b) e
drop_replicate b (suc m) (suc j) = let e : m - j ≡ suc m - suc j = omega arith in drop_replicate b m j ∙ ap (λ (i : ℕ). replicate i b) e

-- what `begin` returns
pub begun_is : (target : Key) (size : ℕ) → 1 ≤ size → size ≤ 16 → begun target size ≡ record { list = list_of target size []; answer = Ok tt }
unfolding begun list_of empty_of
begun_is target size lo hi = simp (bounds_size size lo hi)

-- what a bad size begins is what size 8 begins
pub begun_bad : (target : Key) (size : ℕ) → size_right size ≡ false → begun target size ≡ record { list = (begun target 8).list; answer = Err ListSize }
unfolding begun
begun_bad target size h = simp (h, bounds_size 8 (omega arith) (omega arith))

abbrev handing : NearestList → Effect → Answered Bool
handing l w = record { list = l; answer = offer_answer (kept w) }

-- what an offer of a node of known family hands back
abbrev pub offer_to : Key → ℕ → Node → List Node → Answered Bool
offer_to target size n h = handing (list_of target size (after_effect (effect target.0 size n h) target.0 n h)) (effect target.0 size n h)

module _ (target : Key) (size : ℕ) where
  pub held_list_of : (h : List Node) → held (list_of target size h) ≡ h
  unfolding list_of
  held_list_of h = take-append_seam h (replicate (16 - length h) blank_node)

  pub holding_list_of : (h g : List Node) → length h ≤ 16 → holding (list_of target size h) g ≡ list_of target size g
  unfolding list_of holding
  holding_list_of h g le =
      ap (λ (x : List Node). record { target = target; size = size; count = length g; nodes = g ++ x })
      (ap (λ (x : List Node). drop (length g) (replicate (length h) blank_node ++ x)) (drop-append_seam h (replicate (16 - length h) blank_node))
      ∙ ap (drop (length g))
      (replicate-append-replicate (length h) (16 - length h) blank_node
      ∙ ap (λ (i : ℕ). replicate i blank_node) (let e : length h + (16 - length h) ≡ 16 = omega arith in e))
      ∙ drop_replicate blank_node 16 (length g))

  -- ---- a list that keeps its rules

  module _ (lo : 1 ≤ size) (hi : size ≤ 16) (h : List Node) (short : length h ≤ size) (knows : all_known h ≡ true) (rises : rising target.0 h ≡ true) where
    pub list_of_whole : checked (list_of target size h) ≡ Ok tt
    unfolding list_of
    list_of_whole =
        whole_passes (list_of target size h)
        (record {
          some_room = lo;
          small = hi;
          within = short;
          knows = ap all_known (held_list_of h) ∙ knows;
          rises = ap (rising target.0) (held_list_of h) ∙ rises;
        })

    pub offer_known : (n : Node) → known_family n.family ≡ true → offered (list_of target size h) n ≡ offer_to target size n h
    unfolding taken list_of holding effect
    offer_known n f =
        offer_taken (list_of target size h) n list_of_whole f
        ∙ ap
        (λ (x : List Node). handing (holding (list_of target size h) (after_effect (effect target.0 size n x) target.0 n x)) (effect target.0 size n x))
        (held_list_of h)
        ∙ ap (λ (x : NearestList). handing x (effect target.0 size n h))
        (holding_list_of h (after_effect (effect target.0 size n h) target.0 n h) (omega arith))

    pub offer_stranger : (n : Node) → known_family n.family ≡ false → offered (list_of target size h) n ≡ not_offered (list_of target size h) UnknownFamily
    offer_stranger n f = sym (offer_unknown (list_of target size h) n list_of_whole f)

    pub remove_held : (key : Key) → holds key.0 h ≡ true
        → removed (list_of target size h) key ≡ record { list = list_of target size (without key.0 h); answer = Ok tt }
    remove_held key f =
        remove_taken (list_of target size h) key list_of_whole (ap (holds key.0) (held_list_of h) ∙ f)
        ∙ ap (λ (x : List Node). record { list = holding (list_of target size h) (without key.0 x); answer = Ok tt }) (held_list_of h)
        ∙ ap (λ (x : NearestList). record { list = x; answer = Ok tt }) (holding_list_of h (without key.0 h) (omega arith))

    pub remove_absent : (key : Key) → holds key.0 h ≡ false → removed (list_of target size h) key ≡ record { list = list_of target size h; answer = Err KeyNotHeld }
    remove_absent key f = remove_missing (list_of target size h) key list_of_whole (ap (holds key.0) (held_list_of h) ∙ f)
