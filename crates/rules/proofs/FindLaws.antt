-- Laws of looking things up in a room: the lowest place that passes a test, in a list and after `set`; a test that at most one place passes;
-- seats by their number and routes by theirs. Assumes nothing.
use mathlib.Core.Path.{◌≡◌, refl, sym, ap, ◌∙◌, subst}
use mathlib.Core.Bool.{Bool, true, false, cond, true≢false, false≢true}
use mathlib.Core.Logic.{◌⊎◌, inl, inr, ◌≢◌}
use mathlib.Core.List.{List, [], ◌∷◌}
use Prim.Native.Nat.{ℕ, zero, suc, ◌+◌, ◌-◌, ◌<◌}
use native.Mathlib.Nat.{suc_inj}
use native.Mathlib.Omega.{arith}
use lib.Dec.{ltb}
use lib.ListN.{get_or, set, replicate, length}
use lib.Seq.{get_or-set_same, get_or-set_other}
use borrow.Author.Tests.{ltb-false, le-ltb}
use Rattle.key.specs.Keys.{same_key}
use Rattle.key.proofs.Same.{same_refl, same_sound, not_so, same_apart}
use Rattle.rules.specs.Room.{sizes_of, Key, Route, free, wants, Held, Seat, vacant, holds, Room, newcomer, set_key, set_seat, Found, none, at, or_later, find, seat_of, is_vacant, route_to, is_free, routes_of, seat_at, first_number, number_of_place, route_at}

-- from two constructors that are equal
pub clash : {A : Type 0} → ◌≡◌ {A = ℕ} 0 1 → A
clash z = absurd (omega arith)

-- ---- keys

pub same_swap : (a b : Key) (t : Bool) → same_key a b ≡ t → same_key b a ≡ t
same_swap a b true e = subst (λ k. same_key b k ≡ true) (sym (same_sound a b e)) (same_refl b)
same_swap a b false e = not_so (λ f. same_apart a b e (sym (same_sound b a f)))

-- ---- the lowest place that passes a test

module _ {A : Type 0} where
  pub find_hit : (test : A → Bool) (d : A) (l : List A) (i : ℕ) → find test l ≡ at i → test (get_or l i d) ≡ true
  unfolding find or_later
  find_hit test d [] i e = cc
  find_hit test d (x ∷ xs) i e = go (test x) refl (find test xs) (find_hit test d xs) e
    where
      go : (t : Bool) → test x ≡ t → (f : Found) → ((j : ℕ) → f ≡ at j → test (get_or xs j d) ≡ true) → or_later t f ≡ at i → test (get_or (x ∷ xs) i d) ≡ true
      go true ht f k h = let q : 0 ≡ i = cc in rw (← q) ht
      go false ht none k h = cc
      go false ht (at j) k h = let q : suc j ≡ i = cc in rw (← q) (k j refl)

  pub find_miss : (test : A → Bool) (d : A) (l : List A) → test d ≡ false → find test l ≡ none → (i : ℕ) → test (get_or l i d) ≡ false
  unfolding find or_later
  find_miss test d [] hd e i = hd
  find_miss test d (x ∷ xs) hd e i = go (test x) refl (find test xs) (find_miss test d xs hd) e i
    where
      go : (t : Bool) → test x ≡ t → (f : Found) → (f ≡ none → (i : ℕ) → test (get_or xs i d) ≡ false) → or_later t f ≡ none → (i : ℕ) → test (get_or (x ∷ xs) i d) ≡ false
      go true ht f k h i = cc
      go false ht none k h zero = ht
      go false ht none k h (suc i) = k refl i
      go false ht (at j) k h i = cc

  pub find_within : (test : A → Bool) (l : List A) (i : ℕ) → find test l ≡ at i → i < length l
  unfolding find or_later
  find_within test [] i e = absurd (cc)
  find_within test (x ∷ l) i e = go (test x) (find test l) (find_within test l) e
    where
      go : (t : Bool) (f : Found) → ((j : ℕ) → f ≡ at j → j < length l) → or_later t f ≡ at i → i < suc (length l)
      go true f k h = let q : 0 ≡ i = cc in omega arith
      go false none k h = absurd (cc)
      go false (at j) k h = let q : suc j ≡ i = cc in omega (arith, k j refl)

  -- none before it passes
  pub find_before : (test : A → Bool) (d : A) (l : List A) (i : ℕ) → find test l ≡ at i → (j : ℕ) → j < i → test (get_or l j d) ≡ false
  unfolding find or_later
  find_before test d [] i e j h = absurd (cc)
  find_before test d (x ∷ l) i e j h = go (test x) refl (find test l) (find_before test d l) e j h
    where
      go : (t : Bool) → test x ≡ t → (f : Found) → ((i : ℕ) → f ≡ at i → (j : ℕ) → j < i → test (get_or l j d) ≡ false)
          → or_later t f ≡ at i → (j : ℕ) → j < i → test (get_or (x ∷ l) j d) ≡ false
      go true ht f k q j h = let z : 0 ≡ i = cc in absurd (omega arith)
      go false ht none k q j h = absurd (cc)
      go false ht (at m) k q zero h = ht
      go false ht (at m) k q (suc j) h = let z : suc m ≡ i = cc in k m refl j (omega arith)

  -- where none is found, none of the list passes
  pub find_none : (test : A → Bool) (d : A) (l : List A) → find test l ≡ none → (i : ℕ) → i < length l → test (get_or l i d) ≡ false
  unfolding find or_later
  find_none test d [] e i h = absurd (omega arith)
  find_none test d (x ∷ l) e i h = go (test x) refl (find test l) (find_none test d l) e i h
    where
      go : (t : Bool) → test x ≡ t → (f : Found) → (f ≡ none → (i : ℕ) → i < length l → test (get_or l i d) ≡ false)
          → or_later t f ≡ none → (i : ℕ) → i < suc (length l) → test (get_or (x ∷ l) i d) ≡ false
      go true ht f k q i h = absurd (cc)
      go false ht none k q zero h = ht
      go false ht none k q (suc i) h = k refl i (omega arith)
      go false ht (at m) k q i h = absurd (cc)

  -- nothing is found in a list of things that do not pass
  pub find_replicate : (test : A → Bool) (n : ℕ) (x : A) → test x ≡ false → find test (replicate n x) ≡ none
  unfolding find or_later
  find_replicate test zero x h = refl
  find_replicate test (suc n) x h = rw (h, find_replicate test n x h)

  pub get_d_all : (n i : ℕ) (x : A) → get_or (replicate n x) i x ≡ x
  get_d_all zero i x = refl
  get_d_all (suc n) zero x = refl
  get_d_all (suc n) (suc i) x = get_d_all n i x

  -- replaced by one that passes just where the old one did, it is found where it was
  pub find_set_same : (test : A → Bool) (d : A) (l : List A) (i : ℕ) (y : A) → test y ≡ test (get_or l i d) → find test (set l i y) ≡ find test l
  unfolding find
  find_set_same test d [] i y e = refl
  find_set_same test d (x ∷ l) zero y e = rw e
  find_set_same test d (x ∷ l) (suc i) y e = rw (find_set_same test d l i y e)

  pub set_default : (l : List A) (i : ℕ) (d : A) → get_or (set l i d) i d ≡ d
  set_default [] i d = refl
  set_default (y ∷ l) zero d = refl
  set_default (y ∷ l) (suc i) d = set_default l i d

  -- what holds of every element and of a new one holds after it is put in
  pub set_all : (P : A → Type 0) (d : A) (l : List A) (i : ℕ) (x : A) → P x → ((j : ℕ) → P (get_or l j d)) → (j : ℕ) → P (get_or (set l i x) j d)
  set_all P d [] i x px h j = h j
  set_all P d (y ∷ l) zero x px h zero = px
  set_all P d (y ∷ l) zero x px h (suc j) = h (suc j)
  set_all P d (y ∷ l) (suc i) x px h zero = h zero
  set_all P d (y ∷ l) (suc i) x px h (suc j) = set_all P d l i x px (λ j. h (suc j)) j

  -- ---- at most one place passes a test

  abbrev pub Once : (A → Bool) → A → List A → Type 0
  Once test d l = (i j : ℕ) → test (get_or l i d) ≡ true → test (get_or l j d) ≡ true → i ≡ j

  pub find_once : (test : A → Bool) (d : A) (l : List A) (i : ℕ) → test d ≡ false → Once test d l → test (get_or l i d) ≡ true → find test l ≡ at i
  find_once test d l i hd once h = go (find test l) refl
    where
      go : (f : Found) → find test l ≡ f → find test l ≡ at i
      go none e = absurd (true≢false (sym h ∙ find_miss test d l hd e i))
      go (at j) e = e ∙ ap at (once j i (find_hit test d l j e) h)

  -- what passes after `set` is the new one, or passed before
  pub set_cases : (test : A → Bool) (d : A) (l : List A) (i : ℕ) (x : A) (j : ℕ) → test (get_or (set l i x) j d) ≡ true
      → ((j ≡ i) × (test x ≡ true)) ⊎ (test (get_or l j d) ≡ true)
  set_cases test d [] i x j h = inr h
  set_cases test d (y ∷ l) zero x zero h = inl (refl, h)
  set_cases test d (y ∷ l) zero x (suc j) h = inr h
  set_cases test d (y ∷ l) (suc i) x zero h = inr h
  set_cases test d (y ∷ l) (suc i) x (suc j) h = go (set_cases test d l i x j h)
    where
      go : ((j ≡ i) × (test x ≡ true)) ⊎ (test (get_or l j d) ≡ true) → ((suc j ≡ suc i) × (test x ≡ true)) ⊎ (test (get_or l j d) ≡ true)
      go (inl q) = inl (ap suc q.0, q.1)
      go (inr q) = inr q

  pub once_set : (test : A → Bool) (d : A) (l : List A) (i : ℕ) (x : A) → Once test d l
      → (test x ≡ true → (j : ℕ) → test (get_or l j d) ≡ true → j ≡ i) → Once test d (set l i x)
  once_set test d l i x once h a b ha hb = go (set_cases test d l i x a ha) (set_cases test d l i x b hb)
    where
      go : ((a ≡ i) × (test x ≡ true)) ⊎ (test (get_or l a d) ≡ true) → ((b ≡ i) × (test x ≡ true)) ⊎ (test (get_or l b d) ≡ true) → a ≡ b
      go (inl q) (inl s) = q.0 ∙ sym s.0
      go (inl q) (inr s) = q.0 ∙ sym (h q.1 b s)
      go (inr q) (inl s) = h s.1 a q ∙ sym s.0
      go (inr q) (inr s) = once a b q s

  pub once_tail : (test : A → Bool) (d x : A) (l : List A) → Once test d (x ∷ l) → Once test d l
  once_tail test d x l once i j hi hj = suc_inj (once (suc i) (suc j) hi hj)

  pub once_first : (test : A → Bool) (d x : A) (l : List A) → Once test d (x ∷ l) → test x ≡ true → find test l ≡ none
  once_first test d x l once h = go (find test l) refl
    where
      go : (f : Found) → find test l ≡ f → find test l ≡ none
      go none e = e
      go (at j) e = let z : 0 ≡ suc j = once 0 (suc j) h (find_hit test d l j e) in absurd (omega arith)

  -- the only one that passes is replaced by one that does not
  pub find_clear : (test : A → Bool) (d : A) (l : List A) (i : ℕ) (y : A) → Once test d l → test (get_or l i d) ≡ true → test y ≡ false → find test (set l i y) ≡ none
  unfolding find or_later
  find_clear test d [] i y once h hy = refl
  find_clear test d (x ∷ l) zero y once h hy = rw (hy, once_first test d x l once h)
  find_clear test d (x ∷ l) (suc i) y once h hy = rw (find_clear test d l i y (once_tail test d x l once) h hy) (go (test x) refl)
    where
      go : (t : Bool) → test x ≡ t → or_later (test x) none ≡ none
      go true e = let z : 0 ≡ suc i = once 0 (suc i) e h in absurd (omega arith)
      go false e = rw e

-- ---- seats

pub vacant_no_key : (key : Key) (seat : Seat) → is_vacant seat ≡ true → seat_of key seat ≡ false
unfolding is_vacant seat_of
vacant_no_key key vacant h = refl
vacant_no_key key (holds held) h = absurd (false≢true h)

-- what a seat holds; of an empty one nothing is said
abbrev pub held_of : Seat → Held
held_of vacant = newcomer (sizes_of 0 0) 0 []
held_of (holds held) = held

pub routes_held : (s : Seat) → routes_of s ≡ (held_of s).routes
unfolding routes_of
routes_held vacant = refl
routes_held (holds held) = refl

-- a seat that passes for a key holds it
pub seat_of_holds : (key : Key) (s : Seat) → seat_of key s ≡ true → s ≡ holds (set_key (held_of s) key)
unfolding seat_of
seat_of_holds key vacant h = absurd (false≢true h)
seat_of_holds key (holds held) h = ap (λ (k : Key). holds (set_key held k)) (same_sound held.key key h)

pub seat_set : (room : Room) (seat : ℕ) (s : Seat) → seat < length room.seats → seat_at (set_seat room seat s) seat ≡ s
unfolding seat_at
seat_set room seat s h = get_or-set_same room.seats seat s vacant h

pub seat_set_other : (room : Room) (seat : ℕ) (s : Seat) (other : ℕ) → other ≢ seat → seat_at (set_seat room seat s) other ≡ seat_at room other
unfolding seat_at
seat_set_other room seat s other h = get_or-set_other room.seats seat other s vacant h

-- a seat that holds a key is one of the room's
pub held_within : (room : Room) (seat : ℕ) (held : Held) → seat_at room seat ≡ holds held → seat < length room.seats
unfolding seat_at
held_within room seat held e = go room.seats seat e
  where
    go : (seats : List Seat) (seat : ℕ) → get_or seats seat vacant ≡ holds held → seat < length seats
    go [] seat e = absurd (cc)
    go (s ∷ seats) zero e = omega arith
    go (s ∷ seats) (suc seat) e = let h = go seats seat e in omega arith

-- ---- routes

pub free_not_to : (key : Key) (route : Route) → is_free route ≡ true → route_to key route ≡ false
unfolding is_free route_to
free_not_to key free h = refl
free_not_to key (wants k) h = absurd (false≢true h)

-- a route that passes for a key names it
pub route_to_wants : (key : Key) (route : Route) → route_to key route ≡ true → route ≡ wants key
unfolding route_to
route_to_wants key free h = absurd (false≢true h)
route_to_wants key (wants k) h = ap wants (same_sound k key h)

pub route_none : (number : ℕ) → route_at [] number ≡ free
unfolding route_at
route_none number = go (ltb number first_number)
  where
    go : (t : Bool) → cond t free free ≡ free
    go true = refl
    go false = refl

pub route_at_place : (routes : List Route) (place : ℕ) → route_at routes (number_of_place place) ≡ get_or routes place free
unfolding route_at
route_at_place routes place =
    let q : (16 + place) - 16 ≡ place = omega arith in
    rw (le-ltb (16 + place) 16 (omega arith), q)

-- a number with a route that names a key is the number of its place
pub wanted_high : (routes : List Route) (number : ℕ) (wanted : Key) → route_at routes number ≡ wants wanted → number ≡ number_of_place (number - first_number)
unfolding route_at
wanted_high routes number wanted e = go (ltb number first_number) refl e
  where
    go : (t : Bool) → ltb number first_number ≡ t → cond t free (get_or routes (number - first_number) free) ≡ wants wanted → number ≡ 16 + (number - 16)
    go true h q = absurd (cc)
    go false h q = let l = ltb-false number 16 h in omega arith

-- and its place has the key
pub wanted_place : (routes : List Route) (number : ℕ) (wanted : Key) → route_at routes number ≡ wants wanted → get_or routes (number - first_number) free ≡ wants wanted
wanted_place routes number wanted e =
    sym (route_at_place routes (number - first_number)) ∙ ap (route_at routes) (sym (wanted_high routes number wanted e)) ∙ e

pub route_set_other : (routes : List Route) (place : ℕ) (route : Route) (number : ℕ) → number ≢ number_of_place place
    → route_at (set routes place route) number ≡ route_at routes number
unfolding route_at
route_set_other routes place route number h = go (ltb number first_number) refl
  where
    go : (t : Bool) → ltb number first_number ≡ t → cond t free (get_or (set routes place route) (number - first_number) free) ≡ cond t free (get_or routes (number - first_number) free)
    go true e = refl
    go false e = get_or-set_other routes place (number - 16) route free (λ q. h (let l = ltb-false number 16 e in omega arith))

pub route_set : (routes : List Route) (place : ℕ) (route : Route) → place < length routes → route_at (set routes place route) (number_of_place place) ≡ route
route_set routes place route h = route_at_place (set routes place route) place ∙ get_or-set_same routes place route free h

pub route_freed : (routes : List Route) (place : ℕ) → route_at (set routes place free) (number_of_place place) ≡ free
route_freed routes place = route_at_place (set routes place free) place ∙ set_default routes place free

pub route_all_free : (n number : ℕ) → route_at (replicate n free) number ≡ free
unfolding route_at
route_all_free n number = rw (get_d_all n (number - first_number) free) (go (ltb number first_number))
  where
    go : (t : Bool) → cond t free free ≡ free
    go true = refl
    go false = refl
