-- A table of p places in bytes, with records of w bytes:
--
--     count (1) | order (p) | record 0 (w) | record 1 (w) | ..
--
-- The first `count` bytes of the order list the used places in the strictly rising order of their keys; a record begins with its key. What is not
-- listed is no part of the table.
use Rattle.std.specs.Prelude.{Option, None, Some, ℕ, zero, suc, ◌+◌, ◌*◌, ◌-◌, ◌≤◌, ◌≡◌, Bool, true, ◌&&◌, cond, List, [], ◌∷◌, ◌++◌, length, take, drop, get_or, replicate, eqb, ltb, leb}
use Rattle.key.specs.Keys.{same_key}
use Rattle.lists.specs.Insert.{insert_at, remove_at}
use Rattle.lists.specs.Find.{leading, member, index_of}
use Rattle.table_laws.specs.Bytes.{splice, key_before}

-- ---- where things stand

-- the bytes of a table
abbrev pub table_bytes : ℕ → ℕ → ℕ
table_bytes p w = 1 + p + p * w

-- bytes that are as long as a table; a place is a byte, and a record has room for a key
unfoldable pub fits_table : ℕ → ℕ → List ℕ → Bool
fits_table p w b = leb p 255 && (leb 32 w && (leb w 65535 && eqb (length b) (table_bytes p w)))

-- the same as facts
pub record Table (p w : ℕ) (b : List ℕ) : Type 0 where
  pub small : p ≤ 255
  pub key : 32 ≤ w
  pub narrow : w ≤ 65535
  pub long : length b ≡ table_bytes p w

-- where the record of place n stands
pub record Spot (p w : ℕ) (b : List ℕ) (n r : ℕ) : Type 0 where
  pub at : r ≡ 1 + p + n * w
  pub fits : r + w ≤ length b

abbrev pub count : List ℕ → ℕ
count b = get_or b 0 0

abbrev pub order : ℕ → List ℕ → List ℕ
order p b = take p (drop 1 b)

abbrev pub records : ℕ → List ℕ → List ℕ
records p b = drop (1 + p) b

-- the used places, in the order of their keys
unfoldable pub listed : ℕ → List ℕ → List ℕ
listed p b = take (count b) (order p b)

unfoldable pub record_at : ℕ → ℕ → List ℕ → ℕ → List ℕ
record_at p w b n = take w (drop (n * w) (records p b))

unfoldable pub key_at : ℕ → ℕ → List ℕ → ℕ → List ℕ
key_at p w b n = take 32 (drop (n * w) (records p b))

-- ---- whole: each place listed is a place, and the keys, by f, strictly rise

unfoldable pub rising_after : ℕ → (ℕ → List ℕ) → ℕ → List ℕ → Bool
rising_after p f m [] = true
rising_after p f m (n ∷ ns) = ltb n p && (key_before (f m) (f n) && rising_after p f n ns)

unfoldable pub rising : ℕ → (ℕ → List ℕ) → List ℕ → Bool
rising p f [] = true
rising p f (n ∷ ns) = ltb n p && rising_after p f n ns

-- the count is at most p, and what is listed rises
unfoldable pub table_whole : ℕ → ℕ → List ℕ → Bool
table_whole p w b = leb (count b) p && rising p (key_at p w b) (listed p b)

unfoldable pub is_table : ℕ → ℕ → List ℕ → Bool
is_table p w b = fits_table p w b && table_whole p w b

-- ---- lookups

-- how many, from the front, come before k
abbrev pub position : (ℕ → List ℕ) → List ℕ → List ℕ → ℕ
position f k = leading (λ (n : ℕ). key_before (f n) k)

-- where k belongs among the listed
abbrev pub place_of : ℕ → ℕ → List ℕ → List ℕ → ℕ
place_of p w b k = position (key_at p w b) k (listed p b)

-- the first whose key is k, or p
unfoldable pub find_key : ℕ → (ℕ → List ℕ) → List ℕ → List ℕ → ℕ
find_key p f k [] = p
find_key p f k (n ∷ ns) = cond (same_key (f n) k) n (find_key p f k ns)

unfoldable pub found : ℕ → ℕ → List ℕ → List ℕ → ℕ
found p w b k = cond (fits_table p w b) (find_key p (key_at p w b) k (listed p b)) p

-- what such a search among p places answers: n where it is one of them, and none where n is p
unfoldable pub place_below : ℕ → ℕ → Option ℕ
place_below p n = cond (ltb n p) (Some n) None

-- ---- whole without a key k: the search for it among the listed finds none

unfoldable pub table_without : ℕ → ℕ → List ℕ → List ℕ → Bool
table_without p w b k = table_whole p w b && eqb (find_key p (key_at p w b) k (listed p b)) p

unfoldable pub is_table_without : ℕ → ℕ → List ℕ → List ℕ → Bool
is_table_without p w b k = fits_table p w b && table_without p w b k

-- ---- places

-- the key of a place, used or not; zeros where there is no such place
unfoldable pub key_of_place : ℕ → ℕ → List ℕ → ℕ → List ℕ
key_of_place p w b n = cond (fits_table p w b && ltb n p) (key_at p w b n) (replicate 32 0)

unfoldable pub is_used : ℕ → List ℕ → ℕ → Bool
is_used p b n = ltb p (length b) && member n (listed p b)

-- the places in use, in the order of their keys; none in bytes that are too short
unfoldable pub used_places : ℕ → List ℕ → List ℕ
used_places p b = cond (ltb p (length b)) (listed p b) []

-- the lowest of the n places from i on that is not listed, or i + n
unfoldable pub lowest : ℕ → ℕ → List ℕ → ℕ
lowest i zero ns = i
lowest i (suc n) ns = cond (member i ns) (lowest (suc i) n ns) i

unfoldable pub lowest_free : ℕ → List ℕ → ℕ
lowest_free p b = cond (leb p 255 && ltb p (length b)) (lowest 0 p (listed p b)) p

-- ---- changes

-- n put in as the i-th of the c that are listed, and what stood behind them
unfoldable pub entered : ℕ → ℕ → ℕ → List ℕ → List ℕ
entered c i n o = take (c + 1) (insert_at i n o) ++ drop (c + 1) o

-- the i-th taken out, which leaves c, and what stood behind them
unfoldable pub closed : ℕ → ℕ → List ℕ → List ℕ
closed c i o = take c (remove_at i o) ++ drop c o

-- place n is used, and its record begins with `new`, whose first 32 bytes are its key
unfoldable pub put : ℕ → ℕ → List ℕ → ℕ → List ℕ → List ℕ
put p w b n new =
    (count b + 1) ∷ (entered (count b) (place_of p w b (take 32 new)) n (order p b) ++ splice (records p b) (n * w) new (length new))

-- where there is such a place, the order has room, and the record is no shorter than a key and no longer than the table's
unfoldable pub may_put : ℕ → ℕ → List ℕ → ℕ → List ℕ → Bool
may_put p w b n new = fits_table p w b && (ltb (count b) p && (ltb n p && (leb 32 (length new) && leb (length new) w)))

unfoldable pub put_in : ℕ → ℕ → List ℕ → ℕ → List ℕ → List ℕ
put_in p w b n new = cond (may_put p w b n new) (put p w b n new) b

-- place n, which is listed, is no longer used; its record stays
unfoldable pub unlisted : ℕ → List ℕ → ℕ → List ℕ
unlisted p b n = (count b - 1) ∷ (closed (count b - 1) (index_of n (listed p b)) (order p b) ++ records p b)

unfoldable pub freed : ℕ → List ℕ → ℕ → List ℕ
freed p b n = cond (ltb (index_of n (listed p b)) (count b)) (unlisted p b n) b

unfoldable pub freed_in : ℕ → List ℕ → ℕ → List ℕ
freed_in p b n = cond (ltb p (length b) && leb (count b) p) (freed p b n) b

-- the record of place n is `new` from its byte `at` on, as far as that goes
unfoldable pub refilled : ℕ → ℕ → List ℕ → ℕ → ℕ → List ℕ → List ℕ
refilled p w b n at new = splice b (1 + p + n * w + at) new (length new)

-- where place n is used, and `new` stands behind the key and within the record
unfoldable pub may_overwrite : ℕ → ℕ → List ℕ → ℕ → ℕ → List ℕ → Bool
may_overwrite p w b n at new = fits_table p w b && (ltb n p && (leb 32 at && (leb (at + length new) w && member n (listed p b))))

unfoldable pub overwritten_in : ℕ → ℕ → List ℕ → ℕ → ℕ → List ℕ → List ℕ
overwritten_in p w b n at new = cond (may_overwrite p w b n at new) (refilled p w b n at new) b

-- ---- what a table says: h tells what a place is, by whether it is used and by its record

-- f at i, at i + 1, .., n of them
unfoldable pub tabulate : {A : Type 0} → ℕ → ℕ → (ℕ → A) → List A
tabulate i zero f = []
tabulate i (suc n) f = f i ∷ tabulate (suc i) n f

unfoldable pub view : {A : Type 0} → ℕ → ℕ → (Bool → List ℕ → A) → List ℕ → List A
view p w h b = tabulate 0 p (λ n. h (member n (listed p b)) (record_at p w b n))
