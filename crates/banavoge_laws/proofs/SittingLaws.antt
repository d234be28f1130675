-- Who sits in a seat and where a key sits, case by case as the exports find it; and that it is what has happened: a key is told exactly where its client sits by
-- the calls and answers so far (`sitter`). Assumes nothing.
use mathlib.Core.Path.{◌≡◌, refl, sym, ap, ◌∙◌}
use mathlib.Core.Bool.{Bool, true, false, not, true≢false}
use mathlib.Core.List.{List}
use mathlib.Core.Logic.{◌≢◌}
use Prim.Native.Nat.{ℕ}
use lib.IntN.{ℤ, pos}
use Rattle.std.proofs.Common.{Option, Some, None}
use Rattle.refusal.specs.declared.Refusal.{Refusal}
use Rattle.refusal.specs.declared.Refusal.TheVariants.{RoomNotWhole, NotSeated}
use Rattle.key.proofs.Same.{same_refl}
use Rattle.rules.specs.Room.{Key, Seat, vacant, holds, is_vacant, seat_at, Found, none, at, find, seat_of, sizes_of, set_key}
use Rattle.rules.specs.Transcript.{Past, Maker, nobody, client_of, Start, sitter}
use Rattle.rules.specs.After.{client_in, Tied}
use Rattle.rules.proofs.FindLaws.{find_hit, find_miss, seat_of_holds, held_of}
use Rattle.rules.proofs.Tied.{seat_holds}
use Rattle.room.specs.Numbers.{seat_found}
use Rattle.seat.specs.declared.Seat as seats
use Rattle.room_laws.specs.View.{view_room}
use Rattle.room_laws.specs.Whole.{room_whole}
use Rattle.room_laws.specs.Lookup.{taken, key_in, seat_holding}
use Rattle.room_laws.proofs.WholeLaws.{whole_view}
use Rattle.room_laws.proofs.LookupLaws.{taken_is, seat_holding_finds}
use Rattle.relay.proofs.LeaveCases.{leave_sits}
use Rattle.banavoge_laws.specs.Answers.{refusal_code}
use Rattle.banavoge_laws.specs.Sitting.{Told, turned, sits, sitting, who_sits, sit_code, key_then, TellsSitter, told_of, place_code, seat_of_key}

-- ---- who sits in a seat

module _ (s n : ℕ) (b : List ℕ) (seat : ℕ) where
  pub not_whole_told : room_whole s n b ≡ false → who_sits s n b seat ≡ turned RoomNotWhole
  unfolding who_sits
  not_whole_told h = rw h

  whole_told : room_whole s n b ≡ true → who_sits s n b seat ≡ sitting (seat_at (view_room s n b) seat)
  unfolding who_sits
  whole_told h = rw h

  pub vacant_told : room_whole s n b ≡ true → taken s n b seat ≡ false → who_sits s n b seat ≡ turned NotSeated
  unfolding sitting
  vacant_told whole h = whole_told whole ∙ ap sitting (empty (seat_at (view_room s n b) seat) (sym (taken_is s n b whole seat) ∙ h))
    where
      empty : (x : Seat) → not (is_vacant x) ≡ false → x ≡ vacant
      empty vacant e = refl
      empty (holds held) e = let z : ◌≡◌ {A = Bool} true false = unfold is_vacant in e in cc

  pub key_told : room_whole s n b ≡ true → taken s n b seat ≡ true → (key : Key) → key ≡ key_in s n b seat → who_sits s n b seat ≡ sits key
  unfolding sitting
  key_told whole h key e = whole_told whole ∙ ap sitting (leave_sits s n b whole seat true (sym h) refl key e)

  module _ (before : List ℕ) (answer : ℤ) where
    -- a refusal leaves the key
    pub tells_refusal : (why : Refusal) → who_sits s n b seat ≡ turned why → answer ≡ refusal_code why → TellsSitter s n seat b before before answer
    unfolding sit_code key_then
    tells_refusal why w e = record { answers = e ∙ sym (ap sit_code w); leaves = sym (ap (λ (t : Told). key_then t before) w) }

    pub tells_key : (key : Key) → who_sits s n b seat ≡ sits key → answer ≡ pos 0 → TellsSitter s n seat b before key answer
    unfolding sit_code key_then
    tells_key key w e = record { answers = e ∙ sym (ap sit_code w); leaves = sym (ap (λ (t : Told). key_then t before) w) }

-- ---- where a key sits

module _ (s n : ℕ) (b : List ℕ) (key : Key) where
  pub not_whole_code : room_whole s n b ≡ false → seat_of_key s n b key ≡ refusal_code RoomNotWhole
  unfolding seat_of_key
  not_whole_code h = rw h

  whole_code : room_whole s n b ≡ true → seat_of_key s n b key ≡ place_code (seat_holding s n b key)
  unfolding seat_of_key
  whole_code h = rw h (sym (ap place_code (seat_holding_finds s n b h key)))

  module _ (whole : room_whole s n b ≡ true) (given : Option seats.Seat) (f : given ≡ seat_found (seat_holding s n b key)) where
    pub seat_code : (seat : seats.Seat) → given ≡ Some seat → seat_of_key s n b key ≡ pos seat.0
    unfolding seat_found place_code
    seat_code seat e = whole_code whole ∙ go (seat_holding s n b key) (sym e ∙ f)
      where
        go : (x : Found) → Some seat ≡ seat_found x → place_code x ≡ pos seat.0
        go none q = absurd (cc)
        go (at i) q = let z : seat.0 ≡ i = cc in ap pos (sym z)

    pub none_code : given ≡ None → seat_of_key s n b key ≡ refusal_code NotSeated
    unfolding seat_found place_code
    none_code e = whole_code whole ∙ go (seat_holding s n b key) (sym e ∙ f)
      where
        go : (x : Found) → None ≡ seat_found x → place_code x ≡ refusal_code NotSeated
        go none q = refl
        go (at i) q = absurd (cc)

-- ---- by what has happened: who sits in a seat

module _ (s n : ℕ) (b : List ℕ) (whole : room_whole s n b ≡ true) (start : Start) (past : Past) (tie : Tied start past (view_room s n b)) (seat : ℕ) where
  pub told_of_sitter : who_sits s n b seat ≡ told_of (sitter start past seat)
  unfolding sitting client_in told_of
  told_of_sitter = whole_told s n b seat whole ∙ go (seat_at (view_room s n b) seat) ∙ sym (ap told_of (tie.sits seat))
    where
      go : (x : Seat) → sitting x ≡ told_of (client_in x)
      go vacant = refl
      go (holds held) = refl

  -- a key is told exactly where its client sits
  pub client_told_lem : (key : Key) → sitter start past seat ≡ client_of key → who_sits s n b seat ≡ sits key
  unfolding told_of
  client_told_lem key e = told_of_sitter ∙ ap told_of e

  pub told_client : (key : Key) → who_sits s n b seat ≡ sits key → sitter start past seat ≡ client_of key
  unfolding told_of
  told_client key e = go (sitter start past seat) (sym told_of_sitter ∙ e)
    where
      go : (m : Maker) → told_of m ≡ sits key → m ≡ client_of key
      go nobody q = absurd (cc)
      go (client_of k) q = let z : k ≡ key = cc in ap client_of z

  -- and 3 exactly where nobody does
  pub nobody_told : sitter start past seat ≡ nobody → who_sits s n b seat ≡ turned NotSeated
  unfolding told_of
  nobody_told e = told_of_sitter ∙ ap told_of e

  pub told_nobody : who_sits s n b seat ≡ turned NotSeated → sitter start past seat ≡ nobody
  unfolding told_of
  told_nobody e = go (sitter start past seat) (sym told_of_sitter ∙ e)
    where
      go : (m : Maker) → told_of m ≡ turned NotSeated → m ≡ nobody
      go nobody q = refl
      go (client_of k) q = absurd (cc)

-- ---- and where a key sits

module _ (s n : ℕ) (b : List ℕ) (whole : room_whole s n b ≡ true) (start : Start) (past : Past) (tie : Tied start past (view_room s n b)) (key : Key) where
  abbrev held : List Seat
  held = (view_room s n b).seats

  search_code : seat_of_key s n b key ≡ place_code (find (seat_of key) held)
  unfolding seat_of_key
  search_code = rw whole

  -- a seat that the search finds is the client's
  found_sits : (seat : ℕ) → find (seat_of key) held ≡ at seat → sitter start past seat ≡ client_of key
  unfolding client_in seat_at
  found_sits seat f =
      tie.sits seat ∙ ap client_in (seat_of_holds key (seat_at (view_room s n b) seat) (find_hit (seat_of key) vacant held seat f))

  -- and the client's seat is the one that it finds: "seated keys differ"
  sits_found : (seat : ℕ) → sitter start past seat ≡ client_of key → find (seat_of key) held ≡ at seat
  unfolding seat_of seat_at
  sits_found seat e = go (find (seat_of key) held) refl
    where
      there : seat_at (view_room s n b) seat ≡ holds (set_key (held_of (seat_at (view_room s n b) seat)) key)
      there = seat_holds (sizes_of s n) start past (view_room s n b) (whole_view s n b whole) tie seat key e

      go : (f : Found) → find (seat_of key) held ≡ f → f ≡ at seat
      go none q = absurd (true≢false (sym (ap (seat_of key) there ∙ same_refl key) ∙ find_miss (seat_of key) vacant held refl q seat))
      go (at other) q =
          ap at
          ((whole_view s n b whole).seated other seat _ _
          (seat_holds (sizes_of s n) start past (view_room s n b) (whole_view s n b whole) tie other key (found_sits other q)) there refl)

  -- a seat is told exactly where the client sits in it
  pub key_found : (seat : ℕ) → sitter start past seat ≡ client_of key → seat_of_key s n b key ≡ pos seat
  unfolding place_code
  key_found seat e = search_code ∙ ap place_code (sits_found seat e)

  pub found_key : (seat : ℕ) → seat_of_key s n b key ≡ pos seat → sitter start past seat ≡ client_of key
  unfolding place_code refusal_code
  found_key seat e = go (find (seat_of key) held) refl (sym search_code ∙ e)
    where
      go : (f : Found) → find (seat_of key) held ≡ f → place_code f ≡ pos seat → sitter start past seat ≡ client_of key
      go none q c = absurd (cc)
      go (at i) q c = let z : i ≡ seat = cc in found_sits seat (q ∙ ap at z)

  -- and 3 exactly where it sits nowhere
  pub nowhere_found : ((seat : ℕ) → sitter start past seat ≢ client_of key) → seat_of_key s n b key ≡ refusal_code NotSeated
  unfolding place_code
  nowhere_found h = search_code ∙ go (find (seat_of key) held) refl
    where
      go : (f : Found) → find (seat_of key) held ≡ f → place_code f ≡ refusal_code NotSeated
      go none q = refl
      go (at i) q = absurd (h i (found_sits i q))

  pub found_nowhere : seat_of_key s n b key ≡ refusal_code NotSeated → (seat : ℕ) → sitter start past seat ≢ client_of key
  unfolding refusal_code
  found_nowhere e seat q = let c = sym (key_found seat q) ∙ e in absurd (cc)
