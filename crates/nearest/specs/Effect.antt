-- Document 01, "The nearest list": what an offer does to the nodes held.
use Rattle.std.specs.Prelude.{Bool, true, false, ◌||◌, cond, List, [], ◌∷◌, ℕ, ltb, length}
use Rattle.key.specs.Keys.{same_key, nearer}
use Rattle.node.specs.declared.Node.{Node}
use Rattle.nearest.specs.Lists.{node_key}

-- whether a key is held
unfoldable pub holds : List ℕ → List Node → Bool
holds key [] = false
holds key (m ∷ ms) = same_key (node_key m) key || holds key ms

-- the node of that key replaced
unfoldable pub replace : Node → List Node → List Node
replace n [] = []
replace n (m ∷ ms) = cond (same_key (node_key m) (node_key n)) n m ∷ replace n ms

-- put in before the first that is not nearer
unfoldable pub insert : List ℕ → Node → List Node → List Node
insert target n [] = n ∷ []
insert target n (m ∷ ms) = cond (nearer target (node_key m) (node_key n)) (m ∷ insert target n ms) (n ∷ m ∷ ms)

-- the nodes of other keys
unfoldable pub without : List ℕ → List Node → List Node
without key [] = []
without key (m ∷ ms) = cond (same_key (node_key m) key) (without key ms) (m ∷ without key ms)

-- the key of the last node, which is the furthest
unfoldable pub last_key : Node → List Node → List ℕ
last_key m [] = node_key m
last_key m (n ∷ ns) = last_key n ns

unfoldable pub furthest : List Node → List ℕ
furthest [] = []
furthest (m ∷ ms) = last_key m ms

-- what an offer does: the node is put in; it replaces the node of its key; it is put in and the key named is put out; it is not kept
pub data Effect : Type 0 where
  added : Effect
  replaced : Effect
  put_out : List ℕ → Effect
  too_far : Effect

-- "An offered key already held has its node replaced. Else, with room, it is put in. Else, if nearer than the furthest, it takes that one's
-- room. Else it is not kept."
unfoldable pub effect : List ℕ → ℕ → Node → List Node → Effect
effect target size n ns =
    cond (holds (node_key n) ns) replaced (cond (ltb (length ns) size) added (cond (nearer target (node_key n) (furthest ns)) (put_out (furthest ns)) too_far))

-- the nodes held after an offer that did this
unfoldable pub after_effect : Effect → List ℕ → Node → List Node → List Node
after_effect added target n ns = insert target n ns
after_effect replaced target n ns = replace n ns
after_effect (put_out key) target n ns = insert target n (without key ns)
after_effect too_far target n ns = ns

-- whether the node offered is kept
unfoldable pub kept : Effect → Bool
kept added = true
kept replaced = true
kept (put_out key) = true
kept too_far = false
