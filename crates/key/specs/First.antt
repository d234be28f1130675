-- The first byte in which two keys differ. Document 02: "nothing after the first byte in which the two keys differ, in them or the target, changes one."
use Rattle.std.specs.Prelude.{List, ◌≡◌, ℕ, ◌<◌, ◌≤◌, get_or}

-- "the first byte in which the two keys differ": the keys are the same before it
pub record FirstDiffers (i : ℕ) (a b : List ℕ) : Type 0 where
  pub within : i < 32
  pub before : (j : ℕ) → j < i → get_or a j 0 ≡ get_or b j 0
  pub there : get_or a i 0 ≡ get_or b i 0 → ⊥

-- the same bytes up to and with one: what stands after it may be anything
abbrev pub SameTo : ℕ → List ℕ → List ℕ → Type 0
SameTo i a b = (j : ℕ) → j ≤ i → get_or a j 0 ≡ get_or b j 0
