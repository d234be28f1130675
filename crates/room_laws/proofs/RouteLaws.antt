-- One route put into a table of routes or taken out of it: the routes change at that place alone, and the table stays whole.
use mathlib.Core.Path.{◌≡◌, refl, sym, ap, ◌∙◌}
use mathlib.Core.Bool.{Bool, true, false, true≢false}
use mathlib.Core.List.{List, ◌++◌, append-nil}
use Prim.Native.Nat.{ℕ, ◌<◌}
use native.Mathlib.Omega.{arith}
use lib.ListN.{length, take, drop, get_or, set, drop_of_length-le}
use lib.Seq.{take_all}
use Rattle.table_laws.specs.Bytes.{member}
use Rattle.table_laws.specs.Table.{Table, count, listed, record_at, key_at, table_whole, put, put_in, freed_in}
use Rattle.table_laws.proofs.KeyOrder.{rising_below}
use Rattle.table_laws.proofs.Listed.{whole_count, whole_rising}
use Rattle.table_laws.proofs.TableLaws.{length_record, key_record, view_put, whole_put, length_put, view_freed, whole_freed, length_freed}
use Rattle.table_laws.proofs.FitsLaws.{freed_in_lem}
use Rattle.table_laws.proofs.Distinct.{unlisted_leaves_room}
use Rattle.table_laws.proofs.PutLaws.{put_in_is_put}
use Rattle.rules.specs.Room.{Key, free, wants, none, find, route_to}
use Rattle.rules.proofs.FindLaws.{find_miss}
use Rattle.room_laws.specs.Layout.{key_bytes}
use Rattle.room_laws.specs.View.{route_in, view_routes}
use Rattle.room_laws.proofs.ViewLaws.{wants_passes, route_at, route_free, route_wants}

module _ (n : ℕ) (r : List ℕ) (t : Table n key_bytes r) (o : table_whole n key_bytes r ≡ true) (j : ℕ) where
  long : n < length r
  long = let q = t.long in omega arith

  module _ (h : j < n) (key : Key) (e : length key ≡ 32) (unused : get_or (view_routes n r) j free ≡ free) (fresh : find (route_to key) (view_routes n r) ≡ none) where
    absent : member j (listed n r) ≡ false
    absent = route_free n r j h unused

    left_room : count r < n
    left_room = unlisted_leaves_room n key_bytes r long o j h absent

    is_put : put_in n key_bytes r j key ≡ put n key_bytes r j key
    is_put = put_in_is_put n key_bytes r t o j h absent key (omega arith) (omega arith)

    below : (x : ℕ) → member x (listed n r) ≡ true → x < n
    below = rising_below n (key_at n key_bytes r) (listed n r) (whole_rising n key_bytes r o)

    -- a route that is listed wants its key
    wants_key : (x : ℕ) → member x (listed n r) ≡ true → get_or (view_routes n r) x free ≡ wants (key_at n key_bytes r x)
    wants_key x m =
        route_at n r x (below x m)
        ∙ ap (λ (u : Bool). route_in u (record_at n key_bytes r x)) m
        ∙ ap (route_in true) (sym (take_all 32 (record_at n key_bytes r x) (let q = length_record n key_bytes r t x (below x m) in omega arith)) ∙ sym (key_record n key_bytes r x (omega arith)))
        ∙ wants_is (key_at n key_bytes r x)
      where
        wants_is : (k : Key) → route_in true k ≡ wants k
        wants_is k = unfold route_in in refl

    new_key : (x : ℕ) → member x (listed n r) ≡ true → key_at n key_bytes r x ≡ take 32 key → ⊥
    new_key x m q =
        true≢false
        (sym (wants_passes key (get_or (view_routes n r) x free) (wants_key x m ∙ ap wants (q ∙ take_all 32 key (omega arith))))
        ∙ find_miss (route_to key) free (view_routes n r) (unfold route_to in refl) fresh x)

    pub route_put : (view_routes n (put_in n key_bytes r j key) ≡ set (view_routes n r) j (wants key))
        × (table_whole n key_bytes (put_in n key_bytes r j key) ≡ true) × (length (put_in n key_bytes r j key) ≡ length r)
    route_put = rw is_put (
      unfold view_routes in view_put n key_bytes r j key t left_room h (omega arith) route_in ∙ ap (set (view_routes n r) j) here,
      whole_put n key_bytes r j key t left_room h (omega arith) o (omega arith) absent new_key,
      length_put n key_bytes r j key t left_room h (omega arith),
    )
      where
        here : route_in true (key ++ drop (length key) (record_at n key_bytes r j)) ≡ wants key
        here =
            let q = length_record n key_bytes r t j h in
            unfold route_in in ap wants (ap (λ (x : List ℕ). key ++ x) (drop_of_length-le (record_at n key_bytes r j) {i = length key} (omega arith)) ∙ append-nil key)

  pub route_out : (key : Key) → get_or (view_routes n r) j free ≡ wants key → (view_routes n (freed_in n r j) ≡ set (view_routes n r) j free)
      × (table_whole n key_bytes (freed_in n r j) ≡ true) × (length (freed_in n r j) ≡ length r)
  unfolding view_routes route_in
  route_out key e =
      let m = (route_wants n r j key e).1 in
      rw (freed_in_lem n r long (whole_count n key_bytes r o) j) (
        view_freed n key_bytes r j t o m route_in,
        whole_freed n key_bytes r j t o m,
        length_freed n key_bytes r j t o m,
      )
