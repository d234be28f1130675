-- Which nodes stand in a list of nodes after one is put in, replaced or taken out. Assumes nothing.
use mathlib.Core.Path.{◌≡◌, ◌∙◌, refl, sym, ap, subst}
use mathlib.Core.Bool.{Bool, true, false, cond}
use mathlib.Core.Logic.{◌⊎◌, inl, inr, ⊎_elim}
use mathlib.Core.List.{List, [], ◌∷◌}
use Prim.Native.Nat.{ℕ, zero, suc}
use native.Mathlib.Omega.{arith}
use lib.ListN.{length, take}
use Rattle.key.specs.Keys.{same_key, nearer}
use Rattle.key.proofs.Same.{same_refl, same_sound}
use Rattle.key.proofs.Cancel.{same_differs, differs_same}
use Rattle.node.specs.declared.Node.{Node}
use Rattle.nearest.specs.Lists.{node_key}
use Rattle.nearest.specs.Effect.{holds, replace, insert, without}
use Rattle.nearest.specs.Sequence.{In}
use Rattle.nearest.proofs.Steps.{holds_none, holds_one, insert_none, insert_one, replace_none, replace_one, without_none, without_one}

pub never : {A : Type 0} (b : Bool) → b ≡ true → b ≡ false → A
never b p q = let z : ◌≡◌ {A = ℕ} 0 1 = cc in absurd (omega arith)

pub in_take : (k : ℕ) (l : List Node) (x : Node) → In x (take k l) → In x l
in_take zero l x i = absurd i
in_take (suc k) [] x i = absurd i
in_take (suc k) (m ∷ l) x (inl p) = inl p
in_take (suc k) (m ∷ l) x (inr i) = inr (in_take k l x i)

-- ---- held

module _ (k : List ℕ) where
  -- a key that is held is some node's
  held_step : (m : Node) (ms : List Node) (b : Bool) → same_key (node_key m) k ≡ b
      → (holds k ms ≡ true → (q : Node) × In q ms × (node_key q ≡ k)) → holds k (m ∷ ms) ≡ true → (q : Node) × In q (m ∷ ms) × (node_key q ≡ k)
  held_step m ms true e ih h = (m, inl refl, same_sound (node_key m) k e)
  held_step m ms false e ih h = let w = ih (sym (holds_one k m ms false e) ∙ h) in (w.0, inr w.1, w.2)

  pub held_by : (ms : List Node) → holds k ms ≡ true → (q : Node) × In q ms × (node_key q ≡ k)
  held_by [] h = never (holds k []) h (holds_none k)
  held_by (m ∷ ms) h = held_step m ms (same_key (node_key m) k) refl (held_by ms) h

  -- a node's key is held
  in_step : (m : Node) (ms : List Node) (b : Bool) → same_key (node_key m) k ≡ b → holds k ms ≡ true → holds k (m ∷ ms) ≡ true
  in_step m ms true e h = holds_one k m ms true e
  in_step m ms false e h = holds_one k m ms false e ∙ h

  pub in_holds : (ms : List Node) (q : Node) → In q ms → node_key q ≡ k → holds k ms ≡ true
  in_holds [] q i e = absurd i
  in_holds (m ∷ ms) q (inl p) e =
      holds_one k m ms true (ap (λ (x : Node). same_key (node_key x) k) (sym p) ∙ ap (λ (x : List ℕ). same_key x k) e ∙ same_refl k)
  in_holds (m ∷ ms) q (inr i) e = in_step m ms (same_key (node_key m) k) refl (in_holds ms q i e)

  -- a key that is not held is no node's
  pub free_in : (ms : List Node) → holds k ms ≡ false → (q : Node) → In q ms → node_key q ≡ k → ⊥
  free_in ms h q i e = never (holds k ms) (in_holds ms q i e) h

  none_by : (ms : List Node) (b : Bool) → holds k ms ≡ b → ((q : Node) → In q ms → node_key q ≡ k → ⊥) → holds k ms ≡ false
  none_by ms true e f = let w = held_by ms e in absurd (f w.0 w.1 w.2)
  none_by ms false e f = e

  pub in_free : (ms : List Node) → ((q : Node) → In q ms → node_key q ≡ k → ⊥) → holds k ms ≡ false
  in_free ms f = none_by ms (holds k ms) refl f

  -- ---- without a key

  out_step : (m : Node) (ms : List Node) (x : Node) (b : Bool) → same_key (node_key m) k ≡ b → (In x (without k ms) → In x ms × (node_key x ≡ k → ⊥))
      → In x (cond b (without k ms) (m ∷ without k ms)) → In x (m ∷ ms) × (node_key x ≡ k → ⊥)
  out_step m ms x true e ih i = let w = ih i in (inr w.0, w.1)
  out_step m ms x false e ih (inl p) = (inl p, λ (q : node_key x ≡ k). same_differs (node_key m) k e (ap node_key (sym p) ∙ q))
  out_step m ms x false e ih (inr i) = let w = ih i in (inr w.0, w.1)

  pub in_without : (ms : List Node) (x : Node) → In x (without k ms) → In x ms × (node_key x ≡ k → ⊥)
  in_without [] x i = absurd (subst (In x) (without_none k) i)
  in_without (m ∷ ms) x i =
      out_step m ms x (same_key (node_key m) k) refl (in_without ms x) (subst (In x) (without_one k m ms (same_key (node_key m) k) refl) i)

  stay_step : (m : Node) (ms : List Node) (x : Node) (b : Bool) → same_key (node_key m) k ≡ b → (In x ms → In x (without k ms))
      → (node_key x ≡ k → ⊥) → In x (m ∷ ms) → In x (cond b (without k ms) (m ∷ without k ms))
  stay_step m ms x true e ih d (inl p) = absurd (d (ap node_key p ∙ same_sound (node_key m) k e))
  stay_step m ms x true e ih d (inr i) = ih i
  stay_step m ms x false e ih d (inl p) = inl p
  stay_step m ms x false e ih d (inr i) = inr (ih i)

  pub without_in : (ms : List Node) (x : Node) → In x ms → (node_key x ≡ k → ⊥) → In x (without k ms)
  without_in [] x i d = absurd i
  without_in (m ∷ ms) x i d =
      subst (In x) (sym (without_one k m ms (same_key (node_key m) k) refl))
      (stay_step m ms x (same_key (node_key m) k) refl (λ j. without_in ms x j d) d i)

  -- a key that is not held takes nothing out
  pub without_free : (ms : List Node) → ((q : Node) → In q ms → node_key q ≡ k → ⊥) → without k ms ≡ ms
  without_free [] f = without_none k
  without_free (m ∷ ms) f =
      without_one k m ms false (differs_same (node_key m) k (f m (inl refl))) ∙ ap (λ (x : List Node). m ∷ x) (without_free ms (λ q i. f q (inr i)))

-- ---- put in

module _ (t : List ℕ) (n : Node) where
  got_step : (m : Node) (ms : List Node) (x : Node) (b : Bool) → (In x (insert t n ms) → (x ≡ n) ⊎ In x ms)
      → In x (cond b (m ∷ insert t n ms) (n ∷ m ∷ ms)) → (x ≡ n) ⊎ In x (m ∷ ms)
  got_step m ms x true ih (inl p) = inr (inl p)
  got_step m ms x true ih (inr i) = ⊎_elim (λ p. inl p) (λ j. inr (inr j)) (ih i)
  got_step m ms x false ih i = i

  pub in_insert : (ms : List Node) (x : Node) → In x (insert t n ms) → (x ≡ n) ⊎ In x ms
  in_insert [] x i = subst (In x) (insert_none t n) i
  in_insert (m ∷ ms) x i =
      got_step m ms x (nearer t (node_key m) (node_key n)) (in_insert ms x) (subst (In x) (insert_one t n m ms (nearer t (node_key m) (node_key n)) refl) i)

  put_step : (m : Node) (ms : List Node) (x : Node) (b : Bool) → ((x ≡ n) ⊎ In x ms → In x (insert t n ms))
      → (x ≡ n) ⊎ In x (m ∷ ms) → In x (cond b (m ∷ insert t n ms) (n ∷ m ∷ ms))
  put_step m ms x true ih (inl p) = inr (ih (inl p))
  put_step m ms x true ih (inr (inl p)) = inl p
  put_step m ms x true ih (inr (inr i)) = inr (ih (inr i))
  put_step m ms x false ih i = i

  pub insert_in : (ms : List Node) (x : Node) → (x ≡ n) ⊎ In x ms → In x (insert t n ms)
  insert_in [] x i = subst (In x) (sym (insert_none t n)) i
  insert_in (m ∷ ms) x i =
      subst (In x) (sym (insert_one t n m ms (nearer t (node_key m) (node_key n)) refl))
      (put_step m ms x (nearer t (node_key m) (node_key n)) (insert_in ms x) i)

  length_step : (m : Node) (ms : List Node) (b : Bool) → length (insert t n ms) ≡ suc (length ms)
      → length (cond b (m ∷ insert t n ms) (n ∷ m ∷ ms)) ≡ suc (suc (length ms))
  length_step m ms true ih = ap suc ih
  length_step m ms false ih = refl

  pub length_insert : (ms : List Node) → length (insert t n ms) ≡ suc (length ms)
  length_insert [] = ap length (insert_none t n)
  length_insert (m ∷ ms) =
      ap length (insert_one t n m ms (nearer t (node_key m) (node_key n)) refl) ∙ length_step m ms (nearer t (node_key m) (node_key n)) (length_insert ms)

-- ---- replaced

module _ (n : Node) where
  new_step : (m : Node) (ms : List Node) (x : Node) (b : Bool) → same_key (node_key m) (node_key n) ≡ b
      → (In x (replace n ms) → (x ≡ n) ⊎ (In x ms × (node_key x ≡ node_key n → ⊥)))
      → In x (cond b n m ∷ replace n ms) → (x ≡ n) ⊎ (In x (m ∷ ms) × (node_key x ≡ node_key n → ⊥))
  new_step m ms x true e ih (inl p) = inl p
  new_step m ms x false e ih (inl p) = inr (inl p, λ (q : node_key x ≡ node_key n). same_differs (node_key m) (node_key n) e (ap node_key (sym p) ∙ q))
  new_step m ms x true e ih (inr i) = ⊎_elim (λ p. inl p) (λ w. inr (inr w.0, w.1)) (ih i)
  new_step m ms x false e ih (inr i) = ⊎_elim (λ p. inl p) (λ w. inr (inr w.0, w.1)) (ih i)

  pub in_replace : (ms : List Node) (x : Node) → In x (replace n ms) → (x ≡ n) ⊎ (In x ms × (node_key x ≡ node_key n → ⊥))
  in_replace [] x i = absurd (subst (In x) (replace_none n) i)
  in_replace (m ∷ ms) x i =
      new_step m ms x (same_key (node_key m) (node_key n)) refl (in_replace ms x) (subst (In x) (replace_one n m ms (same_key (node_key m) (node_key n)) refl) i)

  old_step : (m : Node) (ms : List Node) (x : Node) (b : Bool) → same_key (node_key m) (node_key n) ≡ b → (In x ms → In x (replace n ms))
      → (node_key x ≡ node_key n → ⊥) → In x (m ∷ ms) → In x (cond b n m ∷ replace n ms)
  old_step m ms x true e ih d (inl p) = absurd (d (ap node_key p ∙ same_sound (node_key m) (node_key n) e))
  old_step m ms x false e ih d (inl p) = inl p
  old_step m ms x true e ih d (inr i) = inr (ih i)
  old_step m ms x false e ih d (inr i) = inr (ih i)

  pub replace_in : (ms : List Node) (x : Node) → In x ms → (node_key x ≡ node_key n → ⊥) → In x (replace n ms)
  replace_in [] x i d = absurd i
  replace_in (m ∷ ms) x i d =
      subst (In x) (sym (replace_one n m ms (same_key (node_key m) (node_key n)) refl))
      (old_step m ms x (same_key (node_key m) (node_key n)) refl (λ j. replace_in ms x j d) d i)

  now_step : (m : Node) (ms : List Node) (b : Bool) → same_key (node_key m) (node_key n) ≡ b → (holds (node_key n) ms ≡ true → In n (replace n ms))
      → holds (node_key n) (m ∷ ms) ≡ true → In n (cond b n m ∷ replace n ms)
  now_step m ms true e ih h = inl refl
  now_step m ms false e ih h = inr (ih (sym (holds_one (node_key n) m ms false e) ∙ h))

  pub replaced_in : (ms : List Node) → holds (node_key n) ms ≡ true → In n (replace n ms)
  replaced_in [] h = never (holds (node_key n) []) h (holds_none (node_key n))
  replaced_in (m ∷ ms) h =
      subst (In n) (sym (replace_one n m ms (same_key (node_key m) (node_key n)) refl)) (now_step m ms (same_key (node_key m) (node_key n)) refl (replaced_in ms) h)

  pub length_replace : (ms : List Node) → length (replace n ms) ≡ length ms
  unfolding replace
  length_replace [] = refl
  length_replace (m ∷ ms) = ap suc (length_replace ms)

  -- a key that is not held replaces nothing
  pub replace_free : (ms : List Node) → ((q : Node) → In q ms → node_key q ≡ node_key n → ⊥) → replace n ms ≡ ms
  replace_free [] f = replace_none n
  replace_free (m ∷ ms) f =
      replace_one n m ms false (differs_same (node_key m) (node_key n) (f m (inl refl))) ∙ ap (λ (x : List Node). m ∷ x) (replace_free ms (λ q i. f q (inr i)))
