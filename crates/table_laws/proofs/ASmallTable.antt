-- One small table, computed: 4 places, and records of 33 bytes, a key and a byte. Each key is one byte, 32 times.
--
--     count  order        place 0  place 1   place 2  place 3
--     2      2 0 (7 7)    9.. 90   (7.. 70)  5.. 50   (3.. 30)
--
-- What stands in brackets is not listed: place 2, with the lower key, comes before place 0, and places 1 and 3 are free. Assumes nothing.
use Prim.Native.Nat.{ℕ}
use mathlib.Core.Path.{◌≡◌, refl}
use mathlib.Core.Bool.{true, false}
use mathlib.Core.List.{List, [], ◌∷◌, ◌++◌}
use lib.ListN.{take, drop, replicate}
use Rattle.key.specs.Keys.{same_key}
use Rattle.lists.specs.Find.{leading, first_of, member}
use Rattle.table_laws.specs.Bytes.{key_before}
use Rattle.table_laws.specs.Table.{fits_table, listed, key_at, rising_after, rising, table_whole, is_table, find_key, found, table_without, is_table_without, key_of_place, is_used, used_places, lowest, lowest_free}
use Rattle.table_laws.specs.Table.{entered, closed, put, may_put, put_in, unlisted, freed, freed_in, refilled, may_overwrite, overwritten_in}

abbrev key : ℕ → List ℕ
key n = replicate 32 n

abbrev entry : ℕ → ℕ → List ℕ
entry n byte = key n ++ (byte ∷ [])

abbrev small : List ℕ
small = 2 ∷ 2 ∷ 0 ∷ 7 ∷ 7 ∷ (entry 9 90 ++ (entry 7 70 ++ (entry 5 50 ++ entry 3 30)))

-- ---- the table

-- it has 137 bytes, and no other number of them will do
pub fits_exact : fits_table 4 33 small ≡ true
unfolding fits_table
fits_exact = refl

pub fits_short : fits_table 4 33 (drop 1 small) ≡ false
unfolding fits_table
fits_short = refl

pub fits_long : fits_table 4 33 (0 ∷ small) ≡ false
unfolding fits_table
fits_long = refl

-- a lower key comes before a higher one; a key does not come before itself
pub lower_before : key_before (key 5) (key 9) ≡ true
unfolding key_before
lower_before = refl

pub higher_before : key_before (key 9) (key 5) ≡ false
unfolding key_before
higher_before = refl

pub same_before : key_before (key 5) (key 5) ≡ false
unfolding key_before
same_before = refl

-- it is whole; with the order turned round, with a place listed twice, or with more listed than there are places, it is not
pub whole_small : is_table 4 33 small ≡ true
unfolding is_table fits_table table_whole listed rising rising_after key_at key_before
whole_small = refl

pub turned_round : is_table 4 33 (2 ∷ 0 ∷ 2 ∷ drop 3 small) ≡ false
unfolding is_table fits_table table_whole listed rising rising_after key_at key_before
turned_round = refl

pub listed_twice : is_table 4 33 (2 ∷ 2 ∷ 2 ∷ drop 3 small) ≡ false
unfolding is_table fits_table table_whole listed rising rising_after key_at key_before
listed_twice = refl

pub too_many_listed : is_table 4 33 (5 ∷ drop 1 small) ≡ false
unfolding is_table fits_table table_whole
too_many_listed = refl

-- it is whole without the key 7, whose place is not listed; it is not without the key 5, the first listed, or the key 9, the last; a table that is not whole,
-- or a byte short, is not whole without any key either
pub without_free : is_table_without 4 33 small (key 7) ≡ true
unfolding is_table_without table_without fits_table table_whole find_key listed rising rising_after key_at key_before same_key
without_free = refl

pub without_first : is_table_without 4 33 small (key 5) ≡ false
unfolding is_table_without table_without fits_table table_whole find_key listed rising rising_after key_at key_before same_key
without_first = refl

pub without_last : is_table_without 4 33 small (key 9) ≡ false
unfolding is_table_without table_without fits_table table_whole find_key listed rising rising_after key_at key_before same_key
without_last = refl

pub without_turned_round : is_table_without 4 33 (2 ∷ 0 ∷ 2 ∷ drop 3 small) (key 7) ≡ false
unfolding is_table_without table_without fits_table table_whole find_key listed rising rising_after key_at key_before same_key
without_turned_round = refl

pub without_short : is_table_without 4 33 (take 136 small) (key 7) ≡ false
unfolding is_table_without table_without fits_table table_whole find_key listed rising rising_after key_at key_before same_key
without_short = refl

-- ---- lookups

-- the keys of places 2 and 0 are found there; that of place 1, which is free, is not, and 4 says so
pub found_lower : found 4 33 small (key 5) ≡ 2
unfolding found fits_table find_key listed key_at same_key
found_lower = refl

pub found_higher : found 4 33 small (key 9) ≡ 0
unfolding found fits_table find_key listed key_at same_key
found_higher = refl

pub found_free : found 4 33 small (key 7) ≡ 4
unfolding found fits_table find_key listed key_at same_key
found_free = refl

-- the key of each place, used or not; zeros where there is no place
pub key_used : key_of_place 4 33 small 2 ≡ key 5
unfolding key_of_place fits_table key_at
key_used = refl

pub key_free : key_of_place 4 33 small 1 ≡ key 7
unfolding key_of_place fits_table key_at
key_free = refl

pub key_none : key_of_place 4 33 small 4 ≡ key 0
unfolding key_of_place fits_table
key_none = refl

-- places 0 and 2 are used, the others are not
pub used_each : is_used 4 small 0 ∷ is_used 4 small 1 ∷ is_used 4 small 2 ∷ is_used 4 small 3 ∷ [] ≡ true ∷ false ∷ true ∷ false ∷ []
unfolding is_used listed member
used_each = refl

-- they are told in the order of their keys
pub used_places_lem : used_places 4 small ≡ 2 ∷ 0 ∷ []
unfolding used_places listed
used_places_lem = refl

-- place 1 is the lowest that is free
pub lowest_free_lem : lowest_free 4 small ≡ 1
unfolding lowest_free lowest listed member
lowest_free_lem = refl

-- ---- changes

-- place 1 used for the key 7: it is listed between the other two, and its record is the new one
pub put_between : put_in 4 33 small 1 (entry 7 71) ≡ 3 ∷ 2 ∷ 1 ∷ 0 ∷ 7 ∷ (entry 9 90 ++ (entry 7 71 ++ (entry 5 50 ++ entry 3 30)))
unfolding put_in may_put put fits_table entered leading listed key_at key_before
put_between = refl

-- where there is no such place nothing changes
pub put_nowhere : put_in 4 33 small 4 (entry 7 71) ≡ small
unfolding put_in may_put fits_table
put_nowhere = refl

-- place 2 freed: place 0 alone is listed, and the record of place 2 stays
pub freed_lower : freed_in 4 small 2 ≡ 1 ∷ 0 ∷ 0 ∷ 7 ∷ 7 ∷ drop 5 small
unfolding freed_in freed unlisted closed first_of listed
freed_lower = refl

-- a place that is not used cannot be freed
pub freed_free : freed_in 4 small 1 ≡ small
unfolding freed_in freed first_of listed
freed_free = refl

-- the byte behind the key of place 2 overwritten
pub overwritten_byte : overwritten_in 4 33 small 2 32 (51 ∷ []) ≡ 2 ∷ 2 ∷ 0 ∷ 7 ∷ 7 ∷ (entry 9 90 ++ (entry 7 70 ++ (entry 5 51 ++ entry 3 30)))
unfolding overwritten_in may_overwrite refilled fits_table listed member
overwritten_byte = refl

-- a key, a place that is not used, and what stands behind a record cannot be
pub may_not_key : may_overwrite 4 33 small 2 31 (51 ∷ []) ≡ false
unfolding may_overwrite fits_table listed member
may_not_key = refl

pub overwritten_key : overwritten_in 4 33 small 2 31 (51 ∷ []) ≡ small
unfolding overwritten_in may_overwrite fits_table
overwritten_key = refl

pub overwritten_free : overwritten_in 4 33 small 1 32 (51 ∷ []) ≡ small
unfolding overwritten_in may_overwrite fits_table listed member
overwritten_free = refl

pub overwritten_behind : overwritten_in 4 33 small 2 33 (51 ∷ []) ≡ small
unfolding overwritten_in may_overwrite fits_table
overwritten_behind = refl
