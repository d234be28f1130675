-- Marks of places, as the search for the lowest free place keeps them.
use Rattle.std.specs.Prelude.{◌≡◌, Bool, false, List, ℕ, ◌<◌, get_or}
use Rattle.lists.specs.Find.{member}

-- mark x is set just where x is one of ns
abbrev pub Marked : List Bool → List ℕ → Type 0
Marked marks ns = (x : ℕ) → x < 256 → get_or marks x false ≡ member x ns
