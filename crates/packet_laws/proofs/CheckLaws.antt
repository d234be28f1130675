-- Laws of the checks that both ends make: the first that fails decides, and where none fails what comes after does. Assumes nothing.
use mathlib.Core.Path.{◌≡◌, refl}
use mathlib.Core.Bool.{Bool, true, false}
use mathlib.Core.List.{List}
use Prim.Native.Nat.{ℕ}
use native.Mathlib.Omega.{arith}
use lib.ListN.{length}
use Rattle.refusal.specs.declared.Refusal.{Refusal}
use Rattle.refusal.specs.Numbers.{is_retired}
use Rattle.refusal.specs.declared.Refusal.TheVariants.{PacketSize, UnexpectedKind, WrongLength, ZeroPing}
use Rattle.packet_laws.specs.Read.{Read, packet, refused, check}
use Rattle.packet_laws.specs.Table.{kind_of, body_of, size_right, length_right, ping_right, checked}

-- a packet that passes the checks 4 to 7 at an end
pub record Passes (takes : ℕ → Bool) (bytes : List ℕ) : Type 0 where
  pub size : size_right (length bytes) ≡ true
  pub kind : takes (kind_of bytes) ≡ true
  pub long : length_right (kind_of bytes) (length bytes) ≡ true
  pub ping : ping_right (kind_of bytes) (body_of bytes) ≡ true

module _ {A : Type 0} (takes : ℕ → Bool) (bytes : List ℕ) (after : Read A) where
  pub fails_size : size_right (length bytes) ≡ false → checked takes bytes after ≡ refused PacketSize
  unfolding checked check
  fails_size e = rw e

  pub fails_kind : size_right (length bytes) ≡ true → takes (kind_of bytes) ≡ false → checked takes bytes after ≡ refused UnexpectedKind
  unfolding checked check
  fails_kind e f = rw (e, f)

  pub fails_length : size_right (length bytes) ≡ true → takes (kind_of bytes) ≡ true → length_right (kind_of bytes) (length bytes) ≡ false
      → checked takes bytes after ≡ refused WrongLength
  unfolding checked check
  fails_length e f g = rw (e, f, g)

  pub fails_ping : size_right (length bytes) ≡ true → takes (kind_of bytes) ≡ true → length_right (kind_of bytes) (length bytes) ≡ true
      → ping_right (kind_of bytes) (body_of bytes) ≡ false → checked takes bytes after ≡ refused ZeroPing
  unfolding checked check
  fails_ping e f g h = rw (e, f, g, h)

  pub passes : Passes takes bytes → checked takes bytes after ≡ after
  unfolding checked check
  passes p = rw (p.size, p.kind, p.long, p.ping)

-- what the checks come to
pub data Checks {A : Type 0} (takes : ℕ → Bool) (bytes : List ℕ) (after : Read A) : Type 0 where
  pass : Passes takes bytes → Checks takes bytes after
  fail : (why : Refusal) → checked takes bytes after ≡ refused why → Checks takes bytes after

module _ {A : Type 0} (takes : ℕ → Bool) (bytes : List ℕ) (after : Read A) where
  at_ping : size_right (length bytes) ≡ true → takes (kind_of bytes) ≡ true → length_right (kind_of bytes) (length bytes) ≡ true
      → (t : Bool) → ping_right (kind_of bytes) (body_of bytes) ≡ t → Checks takes bytes after
  at_ping e f g true h = pass (record { size = e; kind = f; long = g; ping = h })
  at_ping e f g false h = fail ZeroPing (fails_ping takes bytes after e f g h)

  at_length : size_right (length bytes) ≡ true → takes (kind_of bytes) ≡ true → (t : Bool) → length_right (kind_of bytes) (length bytes) ≡ t → Checks takes bytes after
  at_length e f true g = at_ping e f g (ping_right (kind_of bytes) (body_of bytes)) refl
  at_length e f false g = fail WrongLength (fails_length takes bytes after e f g)

  at_kind : size_right (length bytes) ≡ true → (t : Bool) → takes (kind_of bytes) ≡ t → Checks takes bytes after
  at_kind e true f = at_length e f (length_right (kind_of bytes) (length bytes)) refl
  at_kind e false f = fail UnexpectedKind (fails_kind takes bytes after e f)

  at_size : (t : Bool) → size_right (length bytes) ≡ t → Checks takes bytes after
  at_size true e = at_kind e (takes (kind_of bytes)) refl
  at_size false e = fail PacketSize (fails_size takes bytes after e)

  pub checks : Checks takes bytes after
  checks = at_size (size_right (length bytes)) refl

-- ---- reading a check backwards

pub never_both : {A : Type 0} (read : Read A) (p : A) (why : Refusal) → read ≡ packet p → read ≡ refused why → ⊥
never_both read p why e f = let z : ◌≡◌ {A = ℕ} 0 1 = cc in omega arith

-- where a packet comes of a check, the check held
pub check_taken : {A : Type 0} (t : Bool) (why : Refusal) (after : Read A) (p : A) → check t why after ≡ packet p → (t ≡ true) × (after ≡ packet p)
unfolding check
check_taken true why after p e = (refl, e)
check_taken false why after p e = absurd (never_both (refused why) p why e refl)

-- document 02: "2 is retired": no check gives it
pub checked_given : {A : Type 0} (takes : ℕ → Bool) (bytes : List ℕ) (p : A) (why : Refusal) → checked takes bytes (packet p) ≡ refused why → is_retired why ≡ false
unfolding checked check
checked_given {A = A} takes bytes p why =
    go (size_right (length bytes)) (takes (kind_of bytes)) (length_right (kind_of bytes) (length bytes)) (ping_right (kind_of bytes) (body_of bytes))
  where
    named : (w : Refusal) → is_retired w ≡ false → ◌≡◌ {A = Read A} (refused w) (refused why) → is_retired why ≡ false
    named w h e = let q : w ≡ why = cc in rw (← q) h

    go : (size kind long ping : Bool)
        → check size PacketSize (check kind UnexpectedKind (check long WrongLength (check ping ZeroPing (packet p)))) ≡ refused why → is_retired why ≡ false
    go false kind long ping e = named PacketSize refl e
    go true false long ping e = named UnexpectedKind refl e
    go true true false ping e = named WrongLength refl e
    go true true true false e = named ZeroPing refl e
    go true true true true e = absurd (let z : ◌≡◌ {A = ℕ} 0 1 = cc in omega arith)
