-- The test of a room: the seats that are listed are seats, so that each of them is looked at.
use mathlib.Core.Path.{◌≡◌, refl, ap}
use mathlib.Core.Bool.{Bool, true, ◌&&◌}
use mathlib.Core.List.{List, [], ◌∷◌}
use Prim.Native.Nat.{ℕ, suc, ◌<◌}
use native.Mathlib.Omega.{arith}
use lib.ListN.{length, get_or}
use borrow.Author.Tests.{lt-ltb}
use lib.Dec.{ltb}
use Rattle.std.specs.List.{list_all}
use Rattle.table_laws.specs.Table.{listed, used_places, key_at, table_whole}
use Rattle.table_laws.proofs.KeyOrder.{rising_at}
use Rattle.table_laws.proofs.Listed.{whole_rising}
use Rattle.room_laws.specs.Layout.{seat_bytes, fits_room, seat_table}
use Rattle.room_laws.specs.Whole.{seat_whole, seats_whole}
use Rattle.room_laws.proofs.LayoutLaws.{length_seats}

module _ (s n : ℕ) (b : List ℕ) where
  seats_low : (is : List ℕ) → ((k : ℕ) → k < length is → get_or is k 0 < s) → list_all (λ i. ltb i s && seat_whole s n b i) is ≡ seats_whole s n b is
  unfolding seats_whole
  seats_low [] low = refl
  seats_low (i ∷ is) low =
      rw (lt-ltb i s (low 0 (omega arith))) (ap (λ (r : Bool). seat_whole s n b i && r) (seats_low is (λ k h. low (suc k) (omega arith))))

  module _ (f : fits_room s n b ≡ true) where
    pub seats_used : used_places s (seat_table s n b) ≡ listed s (seat_table s n b)
    unfolding used_places
    seats_used = rw (lt-ltb s (length (seat_table s n b)) (let l = length_seats s n b f in omega arith))

    pub seats_listed : table_whole s (seat_bytes n) (seat_table s n b) ≡ true →
        list_all (λ i. ltb i s && seat_whole s n b i) (used_places s (seat_table s n b)) ≡ seats_whole s n b (listed s (seat_table s n b))
    seats_listed o =
        let is = listed s (seat_table s n b) in
        rw seats_used (seats_low is (λ k h. rising_at s (key_at s (seat_bytes n) (seat_table s n b)) is k (whole_rising s (seat_bytes n) (seat_table s n b) o) h))
