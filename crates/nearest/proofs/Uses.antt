-- What the k-nearest theorem gives to whoever builds on the list: the order of offers matters only within a key; whatever finds the k nearest
-- finds what a list of size k would hold. Assumes nothing.
use mathlib.Core.Path.{◌≡◌, ◌∙◌, sym, ap, subst}
use mathlib.Core.List.{List}
use Prim.Native.Nat.{ℕ, ◌≤◌}
use Rattle.key.specs.declared.Key.{Key}
use Rattle.key.specs.Keys.{IsKey}
use Rattle.node.specs.declared.Node.{Node}
use Rattle.nearest.specs.Lists.{held}
use Rattle.nearest.specs.Calls.{begun}
use Rattle.nearest.specs.Sequence.{offers, Last, Nearest, Keyed, known_ones, list_of}
use Rattle.nearest.proofs.KNearest.{accepted_known, offers_hold_nearest, offers_leave_blank}
use Rattle.nearest.proofs.Unique.{one_nearest}

-- `Nearest` speaks only of which nodes are the last of their keys
pub nearest_of_same_last : (t : List ℕ) (k : ℕ) (xs ys h : List Node) → ((n : Node) → Last n xs → Last n ys) → ((n : Node) → Last n ys → Last n xs)
    → Nearest t k xs h → Nearest t k ys h
nearest_of_same_last t k xs ys h f g N =
    record { rises = N.rises; short = N.short; last = λ n i. f n (N.last n i); nearest = λ n l. N.nearest n (g n l) }

module _ (target : Key) (size : ℕ) (lo : 1 ≤ size) (hi : size ≤ 16) (ht : IsKey target.0) where
  -- with the theorem in terms of the nodes of known family
  pub offers_nearest_known : (ns : List Node) → Keyed ns → Nearest target.0 size (known_ones ns) (held (offers (begun target size).list ns))
  offers_nearest_known ns hs =
      subst (λ (x : List Node). Nearest target.0 size x (held (offers (begun target size).list ns))) (accepted_known target size lo hi ht ns hs)
      (offers_hold_nearest target size lo hi ht ns hs)

  -- the k nearest, however they were found, are what the list holds
  pub nearest_is_held : (ns h : List Node) → Keyed ns → Nearest target.0 size (known_ones ns) h → held (offers (begun target size).list ns) ≡ h
  nearest_is_held ns h hs N =
      one_nearest target.0 size (known_ones ns) (held (offers (begun target size).list ns)) h (offers_nearest_known ns hs) N

  -- two sequences of offers that end with the same last node of each key end in equal lists
  pub same_last_same_list : (xs ys : List Node) → Keyed xs → Keyed ys → ((n : Node) → Last n (known_ones xs) → Last n (known_ones ys))
      → ((n : Node) → Last n (known_ones ys) → Last n (known_ones xs)) → offers (begun target size).list xs ≡ offers (begun target size).list ys
  same_last_same_list xs ys ha hb f g =
      let e = nearest_is_held xs (held (offers (begun target size).list ys)) ha
      (nearest_of_same_last target.0 size (known_ones ys) (known_ones xs) (held (offers (begun target size).list ys)) g f (offers_nearest_known ys hb)) in
      offers_leave_blank target size lo hi ht xs ha ∙ ap (list_of target size) e ∙ sym (offers_leave_blank target size lo hi ht ys hb)
