-- Lists of nodes: which nodes stand in one after a node is put in at a place, in two lists one behind the other, and in the nodes at the places of a list;
-- and when all of them belong to a bucket. Assumes nothing.
use mathlib.Core.Path.{◌≡◌, ◌∙◌, refl, sym, ap, ap₂}
use mathlib.Core.Bool.{Bool, true, false, ◌||◌, cond, or-true}
use mathlib.Core.Logic.{◌⊎◌, inl, inr}
use mathlib.Core.List.{List, [], ◌∷◌, ◌++◌, map}
use Prim.Native.Nat.{ℕ, zero, suc, ◌<◌}
use native.Mathlib.Omega.{arith}
use lib.Dec.{eqb, ltb}
use borrow.Author.Tests.{eq-eqb, eqb-true, lt-ltb, le-ltb}
use Rattle.key.specs.Keys.{same_key}
use Rattle.key.proofs.Same.{same_sound}
use Rattle.key.proofs.Cancel.{same_differs}
use Rattle.lists.specs.Insert.{insert_at}
use Rattle.lists.specs.Find.{member}
use Rattle.node.specs.declared.Node.{Node}
use Rattle.nearest.specs.Lists.{node_key}
use Rattle.nearest.specs.Effect.{holds, replace}
use Rattle.nearest.specs.Sequence.{In}
use Rattle.nearest.proofs.Members.{held_by, in_holds, replace_in, replaced_in}
use Rattle.table_laws.specs.Table.{find_key}
use Rattle.table_laws.proofs.KeyOrder.{no, both}
use Rattle.buckets_laws.specs.Whole.{belongs, all_belong}

-- ---- put in at a place

pub in_put : (i : ℕ) (n : Node) (ns : List Node) (x : Node) → In x (insert_at i n ns) → (x ≡ n) ⊎ In x ns
in_put zero n ns x h = h
in_put (suc i) n [] x h = h
in_put (suc i) n (m ∷ ns) x (inl e) = inr (inl e)
in_put (suc i) n (m ∷ ns) x (inr h) = go (in_put i n ns x h)
  where
    go : (x ≡ n) ⊎ In x ns → (x ≡ n) ⊎ In x (m ∷ ns)
    go (inl e) = inl e
    go (inr j) = inr (inr j)

pub put_in : (i : ℕ) (n : Node) (ns : List Node) (x : Node) → (x ≡ n) ⊎ In x ns → In x (insert_at i n ns)
put_in zero n ns x h = h
put_in (suc i) n [] x h = h
put_in (suc i) n (m ∷ ns) x (inl e) = inr (put_in i n ns x (inl e))
put_in (suc i) n (m ∷ ns) x (inr (inl e)) = inl e
put_in (suc i) n (m ∷ ns) x (inr (inr j)) = inr (put_in i n ns x (inr j))

-- a key that is held stays held when a node is put in, and when the node of a held key is replaced

pub holds_put : (i : ℕ) (n : Node) (ns : List Node) (k : List ℕ) → holds k ns ≡ true → holds k (insert_at i n ns) ≡ true
holds_put i n ns k h = let q = held_by k ns h in in_holds k (insert_at i n ns) q.0 (put_in i n ns q.0 (inr q.1)) q.2

pub holds_replace : (n : Node) (ns : List Node) (k : List ℕ) → holds (node_key n) ns ≡ true → holds k ns ≡ true → holds k (replace n ns) ≡ true
holds_replace n ns k own h = let q = held_by k ns h in by q.0 q.1 q.2 (same_key (node_key q.0) (node_key n)) refl
  where
    by : (q : Node) → In q ns → node_key q ≡ k → (b : Bool) → same_key (node_key q) (node_key n) ≡ b → holds k (replace n ns) ≡ true
    by q i e true s = in_holds k (replace n ns) n (replaced_in n ns own) (sym (same_sound (node_key q) (node_key n) s) ∙ e)
    by q i e false s = in_holds k (replace n ns) q (replace_in n ns q i (same_differs (node_key q) (node_key n) s)) e

-- ---- one behind the other

pub in_front : (a b : List Node) (x : Node) → In x a → In x (a ++ b)
in_front [] b x i = absurd i
in_front (m ∷ a) b x (inl e) = inl e
in_front (m ∷ a) b x (inr i) = inr (in_front a b x i)

pub in_behind : (a b : List Node) (x : Node) → In x b → In x (a ++ b)
in_behind [] b x i = i
in_behind (m ∷ a) b x i = inr (in_behind a b x i)

pub in_either : (a b : List Node) (x : Node) → In x (a ++ b) → In x a ⊎ In x b
in_either [] b x i = inr i
in_either (m ∷ a) b x (inl e) = inl (inl e)
in_either (m ∷ a) b x (inr i) = go (in_either a b x i)
  where
    go : In x a ⊎ In x b → In x (m ∷ a) ⊎ In x b
    go (inl j) = inl (inr j)
    go (inr j) = inr j

pub holds_append : (k : List ℕ) (a b : List Node) → holds k (a ++ b) ≡ (holds k a || holds k b)
unfolding holds
holds_append k [] b = refl
holds_append k (m ∷ a) b = rw (holds_append k a b) (go (same_key (node_key m) k))
  where
    go : (t : Bool) → (t || (holds k a || holds k b)) ≡ ((t || holds k a) || holds k b)
    go true = refl
    go false = refl

-- ---- the nodes at places

module _ {A : Type 0} (f : ℕ → A) where
  pub map_same : (g : ℕ → A) (ns : List ℕ) → ((x : ℕ) → member x ns ≡ true → f x ≡ g x) → map f ns ≡ map g ns
  unfolding member
  map_same g [] h = refl
  map_same g (n ∷ ns) h =
      ap₂ (λ (x : A) (l : List A). x ∷ l) (h n (rw (eq-eqb n n refl))) (map_same g ns (λ x i. h x (rw (i, or-true (eqb n x)))))

module _ (g : ℕ → Node) where
  -- the node at a place of the list stands among them
  pub place_in_lem : (ns : List ℕ) (x : ℕ) → member x ns ≡ true → In (g x) (map g ns)
  unfolding member
  place_in_lem [] x h = absurd (no h)
  place_in_lem (n ∷ ns) x h = go (eqb n x) refl h (place_in_lem ns x)
    where
      go : (t : Bool) → eqb n x ≡ t → (t || member x ns) ≡ true → (member x ns ≡ true → In (g x) (map g ns)) → In (g x) (map g (n ∷ ns))
      go true e h ih = inl (ap g (sym (eqb-true n x e)))
      go false e h ih = inr (ih h)

  -- and each that stands among them is the node at one
  pub in_place : (ns : List ℕ) (x : Node) → In x (map g ns) → (y : ℕ) × (member y ns ≡ true) × (x ≡ g y)
  unfolding member
  in_place [] x i = absurd i
  in_place (n ∷ ns) x (inl e) = (n, rw (eq-eqb n n refl), e)
  in_place (n ∷ ns) x (inr i) = let w = in_place ns x i in (w.0, rw (w.1, or-true (eqb n w.0)), w.2)

  -- the search for a key among places finds one just where the nodes hold the key
  pub find_holds : (p : ℕ) (f : ℕ → List ℕ) (k : List ℕ) → ((x : ℕ) → node_key (g x) ≡ f x) → (ns : List ℕ) → ((x : ℕ) → member x ns ≡ true → x < p)
      → ltb (find_key p f k ns) p ≡ holds k (map g ns)
  unfolding find_key holds member
  find_holds p f k s [] b = le-ltb p p (omega arith)
  find_holds p f k s (n ∷ ns) b =
      go (same_key (f n) k) (b n (rw (eq-eqb n n refl))) (find_holds p f k s ns (λ x i. b x (rw (i, or-true (eqb n x)))))
      ∙ ap (λ (y : List ℕ). same_key y k || holds k (map g ns)) (sym (s n))
    where
      go : (t : Bool) → n < p → ltb (find_key p f k ns) p ≡ holds k (map g ns) → ltb (cond t n (find_key p f k ns)) p ≡ (t || holds k (map g ns))
      go true l ih = lt-ltb n p l
      go false l ih = ih

  -- each node replaced where it has the key
  pub replace_places : (h : ℕ → Node) (n : Node) (ns : List ℕ)
      → ((x : ℕ) → member x ns ≡ true → h x ≡ cond (same_key (node_key (g x)) (node_key n)) n (g x)) → map h ns ≡ replace n (map g ns)
  unfolding member replace
  replace_places h n [] e = refl
  replace_places h n (m ∷ ns) e =
      ap₂ (λ (x : Node) (l : List Node). x ∷ l) (e m (rw (eq-eqb m m refl))) (replace_places h n ns (λ x i. e x (rw (i, or-true (eqb m x)))))

-- ---- nodes that belong to a bucket

module _ (base : List ℕ) (b : ℕ) where
  pub belong_each : (ns : List Node) → all_belong base b ns ≡ true → (x : Node) → In x ns → belongs base b x ≡ true
  unfolding all_belong
  belong_each [] h x i = absurd i
  belong_each (n ∷ ns) h x (inl e) = ap (belongs base b) e ∙ (both (belongs base b n) _ h).0
  belong_each (n ∷ ns) h x (inr i) = belong_each ns (both (belongs base b n) _ h).1 x i

  pub each_belong : (ns : List Node) → ((x : Node) → In x ns → belongs base b x ≡ true) → all_belong base b ns ≡ true
  unfolding all_belong
  each_belong [] h = refl
  each_belong (n ∷ ns) h = rw (h n (inl refl), each_belong ns (λ x i. h x (inr i)))
