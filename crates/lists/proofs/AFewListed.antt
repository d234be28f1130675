-- A few lists, computed: 7, 5 and 9, with one put in, one taken out, and one found. Assumes nothing.
use mathlib.Core.Path.{◌≡◌, refl}
use mathlib.Core.Bool.{true, false}
use mathlib.Core.List.{List, [], ◌∷◌}
use Prim.Native.Nat.{ℕ}
use lib.Dec.{ltb}
use Rattle.lists.specs.Insert.{insert_at, remove_at}
use Rattle.lists.specs.Find.{leading, first_of, member, index_of}

abbrev few : List ℕ
few = 7 ∷ 5 ∷ 9 ∷ []

-- put in at the front, in between, at the end, and past it, which is the end
pub put_in : insert_at 0 1 few ∷ insert_at 1 1 few ∷ insert_at 3 1 few ∷ insert_at 8 1 few ∷ []
    ≡ (1 ∷ 7 ∷ 5 ∷ 9 ∷ []) ∷ (7 ∷ 1 ∷ 5 ∷ 9 ∷ []) ∷ (7 ∷ 5 ∷ 9 ∷ 1 ∷ []) ∷ (7 ∷ 5 ∷ 9 ∷ 1 ∷ []) ∷ []
put_in = refl

-- taken out at the front, in between, and where there is none
pub taken_out : remove_at 0 few ∷ remove_at 1 few ∷ remove_at 3 few ∷ [] ≡ (5 ∷ 9 ∷ []) ∷ (7 ∷ 9 ∷ []) ∷ few ∷ []
taken_out = refl

-- none from the front is below 6, though one behind it is; two are below 8, and all below 10
pub below_six : leading (λ (n : ℕ). ltb n 6) few ≡ 0
unfolding leading
below_six = refl

pub below_eight : leading (λ (n : ℕ). ltb n 8) few ≡ 2
unfolding leading
below_eight = refl

pub below_ten : leading (λ (n : ℕ). ltb n 10) few ≡ 3
unfolding leading
below_ten = refl

-- where 9 stands, and where 4, which does not stand there
pub where_nine : index_of 9 few ≡ 2
unfolding first_of
where_nine = refl

pub where_four : index_of 4 few ≡ 3
unfolding first_of
where_four = refl

pub has_nine : member 9 few ≡ true
unfolding member
has_nine = refl

pub has_four : member 4 few ≡ false
unfolding member
has_four = refl
