-- A table whose count is 0 lists no place: each place of its view is what one that is not used is.
use mathlib.Core.Path.{◌≡◌, refl, ap₂}
use mathlib.Core.Bool.{Bool, false}
use mathlib.Core.List.{List, [], ◌∷◌}
use Prim.Native.Nat.{ℕ, zero, suc}
use lib.ListN.{replicate}
use Rattle.lists.specs.Find.{member}
use Rattle.table_laws.specs.Table.{count, listed, record_at, tabulate, view}

pub tabulate_all : {A : Type 0} (i n : ℕ) (f : ℕ → A) (a : A) → ((m : ℕ) → f m ≡ a) → tabulate i n f ≡ replicate n a
unfolding tabulate
tabulate_all i zero f a h = refl
tabulate_all {A} i (suc n) f a h = ap₂ (λ (x : A) (y : List A). x ∷ y) (h i) (tabulate_all (suc i) n f a h)

pub listed_none : (p : ℕ) (b : List ℕ) → count b ≡ 0 → listed p b ≡ []
unfolding listed
listed_none p b e = rw e

pub view_none : {A : Type 0} (p w : ℕ) (h : Bool → List ℕ → A) (b : List ℕ) (a : A) → count b ≡ 0 → ((r : List ℕ) → h false r ≡ a) → view p w h b ≡ replicate p a
unfolding view member
view_none p w h b a e k =
    tabulate_all 0 p (λ (m : ℕ). h (member m (listed p b)) (record_at p w b m)) a (λ m. rw (listed_none p b e) (k (record_at p w b m)))
