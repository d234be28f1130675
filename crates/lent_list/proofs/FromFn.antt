-- An array made by calls of a closure, one for each index. Assumes nothing.
use Rattle.std.proofs.Common.{◌≡◌, sym, subst, ℕ, zero, suc, ◌+◌, ◌<◌, List, get_or, arith}
use native.Mathlib.Nat.{le_of_suc-le-suc, not-suc-le-zero}
use denote.Param.Members.{Mut}
use Rattle.std.specs.Fn.{Called}
use Rattle.std.specs.Array.{IsFromFnResultFrom}

-- what each call gave, of calls that leave the closure as it was
pub each_given : {F B : Type 0} (g : Mut F (ℕ × Unit {0}) B) (f : F) (P : ℕ → B → Type 0) (ys : List B) → ((x : ℕ) (y : B) (q : F) → Called g f (x, tt) y q → (q ≡ f) × P x y)
    → (n i : ℕ) → IsFromFnResultFrom g f ys i n → (k j : ℕ) (d : B) → k < n → j ≡ i + k → P j (get_or ys j d)
each_given g f P ys h zero i w k j d l e = absurd (not-suc-le-zero l)
each_given {F} {B} g f P ys h (suc n) i w zero j d l e =
    subst (λ (m : ℕ). P m (get_or ys m d)) (let z : i ≡ j = omega arith in z) (subst (λ (y : B). P i y) (sym (w.2.1 d)) (h i w.1 w.0 w.3).1)
each_given {F} g f P ys h (suc n) i w (suc k) j d l e =
    each_given g f P ys h n (i + 1) (subst (λ (q : F). IsFromFnResultFrom g q ys (i + 1) n) (h i w.1 w.0 w.3).0 w.4) k j d (le_of_suc-le-suc l) (omega arith)
