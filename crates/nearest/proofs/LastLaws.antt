-- One more node offered: which nodes are then the last of their keys. Assumes nothing.
use mathlib.Core.Path.{◌≡◌, ◌∙◌, refl, sym, ap}
use mathlib.Core.Logic.{◌⊎◌, inl, inr, ⊎_elim}
use mathlib.Core.List.{List, [], ◌∷◌, ◌++◌}
use Rattle.node.specs.declared.Node.{Node}
use Rattle.nearest.specs.Lists.{node_key}
use Rattle.nearest.specs.Sequence.{In, Last}
use Rattle.nearest.proofs.Members.{in_free, free_in}

pub in_more : (ms : List Node) (n x : Node) → In x (ms ++ (n ∷ [])) → In x ms ⊎ (x ≡ n)
in_more [] n x (inl p) = inr p
in_more [] n x (inr i) = absurd i
in_more (m ∷ ms) n x (inl p) = inl (inl p)
in_more (m ∷ ms) n x (inr i) = ⊎_elim (λ j. inl (inr j)) (λ p. inr p) (in_more ms n x i)

pub more_in : (ms : List Node) (n x : Node) → In x ms ⊎ (x ≡ n) → In x (ms ++ (n ∷ []))
more_in [] n x (inl i) = absurd i
more_in [] n x (inr p) = inl p
more_in (m ∷ ms) n x (inl (inl p)) = inl p
more_in (m ∷ ms) n x (inl (inr i)) = inr (more_in ms n x (inl i))
more_in (m ∷ ms) n x (inr p) = inr (more_in ms n x (inr p))

pub last_in_all : (ms : List Node) (x : Node) → Last x ms → In x ms
last_in_all [] x l = absurd l
last_in_all (m ∷ ms) x (inl w) = inl w.0
last_in_all (m ∷ ms) x (inr l) = inr (last_in_all ms x l)

-- the last of their keys are the new node, and those of other keys that were so before
pub last_more : (ms : List Node) (n x : Node) → (x ≡ n) ⊎ (Last x ms × (node_key x ≡ node_key n → ⊥)) → Last x (ms ++ (n ∷ []))
last_more [] n x (inl p) = inl (p, in_free (node_key x) [] (λ q i e. i))
last_more [] n x (inr w) = absurd w.0
last_more (m ∷ ms) n x (inl p) = inr (last_more ms n x (inl p))
last_more (m ∷ ms) n x (inr (inl w, d)) =
    inl (w.0, in_free (node_key x) (ms ++ (n ∷ [])) (λ q i e. ⊎_elim (λ j. free_in (node_key x) ms w.1 q j e) (λ (p : q ≡ n). d (sym e ∙ ap node_key p)) (in_more ms n q i)))
last_more (m ∷ ms) n x (inr (inr l, d)) = inr (last_more ms n x (inr (l, d)))

pub more_last : (ms : List Node) (n x : Node) → Last x (ms ++ (n ∷ [])) → (x ≡ n) ⊎ (Last x ms × (node_key x ≡ node_key n → ⊥))
more_last [] n x (inl w) = inl w.0
more_last [] n x (inr l) = absurd l
more_last (m ∷ ms) n x (inl w) =
    inr (
      inl (w.0, in_free (node_key x) ms (λ q i e. free_in (node_key x) (ms ++ (n ∷ [])) w.1 q (more_in ms n q (inl i)) e)),
      λ (e : node_key x ≡ node_key n). free_in (node_key x) (ms ++ (n ∷ [])) w.1 n (more_in ms n n (inr refl)) (sym e),
    )
more_last (m ∷ ms) n x (inr l) = ⊎_elim (λ p. inl p) (λ w. inr (inr w.0, w.1)) (more_last ms n x l)
