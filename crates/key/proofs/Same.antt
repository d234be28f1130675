-- Laws of `same_key`: it tells just whether two lists are equal. Assumes nothing.
use mathlib.Core.Path.{◌≡◌, ◌∙◌, refl, sym, ap, ap₂}
use mathlib.Core.Bool.{Bool, true, false, ◌&&◌, true≢false}
use mathlib.Core.List.{List, [], ◌∷◌}
use Prim.Native.Nat.{ℕ}
use lib.Dec.{eqb}
use lib.Pointwise.{pointwise}
use borrow.Author.Tests.{eq-eqb, eqb-true}
use Rattle.key.specs.Keys.{same_key}

pub same_refl : (a : List ℕ) → same_key a a ≡ true
unfolding same_key
same_refl [] = refl
same_refl (x ∷ a) = rw (eq-eqb x x refl) (same_refl a)

both : (x y : ℕ) (t : Bool) (a b : List ℕ) → eqb x y ≡ t → (same_key a b ≡ true → a ≡ b) → (t && same_key a b) ≡ true → ◌≡◌ {A = List ℕ} (x ∷ a) (y ∷ b)
both x y true a b e f h = ap₂ (λ (p : ℕ) (q : List ℕ). p ∷ q) (eqb-true x y e) (f h)
both x y false a b e f h = let z : ◌≡◌ {A = Bool} false true = h in cc

pub same_sound : (a b : List ℕ) → same_key a b ≡ true → a ≡ b
unfolding same_key
same_sound [] [] h = refl
same_sound [] (y ∷ b) h = cc
same_sound (x ∷ a) [] h = cc
same_sound (x ∷ a) (y ∷ b) h = both x y (eqb x y) a b refl (same_sound a b) h

-- a test that cannot pass fails: so keys that differ are not the same
pub not_so : {t : Bool} → (t ≡ true → ⊥) → t ≡ false
not_so {t} h = go t refl
  where
    go : (u : Bool) → t ≡ u → u ≡ false
    go true e = absurd (h e)
    go false e = refl

-- and a test that fails tells two keys apart
pub same_apart : (a b : List ℕ) → same_key a b ≡ false → a ≡ b → ⊥
same_apart a b h e = true≢false (sym (same_refl a) ∙ ap (same_key a) e ∙ h)

-- it is the test of two lists by their elements
pub same_pointwise : (a b : List ℕ) → pointwise eqb a b ≡ same_key a b
unfolding same_key
same_pointwise [] [] = refl
same_pointwise [] (y ∷ b) = refl
same_pointwise (x ∷ a) [] = refl
same_pointwise (x ∷ a) (y ∷ b) = ap (λ (t : Bool). eqb x y && t) (same_pointwise a b)
