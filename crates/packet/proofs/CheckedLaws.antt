-- Laws of the checks that both ends make, as code has them: of a refusal, what the end reads; of a kind, that the packet passes. Assumes nothing.
use mathlib.Core.Path.{◌≡◌, ap}
use mathlib.Core.Bool.{Bool, true, false}
use mathlib.Core.List.{List}
use Prim.Native.Nat.{ℕ}
use native.Mathlib.Omega.{arith}
use lib.ListN.{length}
use Rattle.refusal.specs.declared.Refusal.TheVariants.{PacketSize, UnexpectedKind, WrongLength, ZeroPing}
use Rattle.std.specs.Prelude.{Result, Ok, Err}
use Rattle.refusal.specs.declared.Refusal.{Refusal}
use Rattle.packet_laws.specs.Read.{Read, packet, refused, check}
use Rattle.packet_laws.specs.Table.{kind_of, body_of, size_right, length_right, ping_right, checked}
use Rattle.packet_laws.proofs.CheckLaws.{Passes, Checks, pass, fail, checks, passes}
use Rattle.packet.specs.Checked.{read_result, kind_checked}

module _ (takes : ℕ → Bool) (bytes : List ℕ) where
  -- the kind of a packet that passes
  pub kind_passes : (kind : ℕ) → kind_checked takes bytes ≡ Ok kind → (kind ≡ kind_of bytes) × Passes takes bytes
  unfolding kind_checked read_result
  kind_passes kind e = go (checks takes bytes (packet (kind_of bytes)))
    where
      go : Checks takes bytes (packet (kind_of bytes)) → (kind ≡ kind_of bytes) × Passes takes bytes
      go (pass p) = let q : read_result (checked takes bytes (packet (kind_of bytes))) ≡ Ok (kind_of bytes) = ap read_result (passes takes bytes (packet (kind_of bytes)) p) in (cc, p)
      go (fail why f) = let q : read_result (checked takes bytes (packet (kind_of bytes))) ≡ Err why = ap read_result f in cc

  -- the refusal of the first check that fails, whatever comes after the checks
  pub kind_fails : {A : Type 0} (after : Read A) (why : Refusal) → kind_checked takes bytes ≡ Err why → checked takes bytes after ≡ refused why
  unfolding kind_checked read_result checked check
  kind_fails {A = A} after why = go (size_right (length bytes)) (takes (kind_of bytes)) (length_right (kind_of bytes) (length bytes)) (ping_right (kind_of bytes) (body_of bytes))
    where
      named : (w : Refusal) → ◌≡◌ {A = Result ℕ Refusal} (Err w) (Err why) → ◌≡◌ {A = Read A} (refused w) (refused why)
      named w e = cc

      go : (size kind long ping : Bool)
          → read_result (check size PacketSize (check kind UnexpectedKind (check long WrongLength (check ping ZeroPing (packet (kind_of bytes)))))) ≡ Err why
          → check size PacketSize (check kind UnexpectedKind (check long WrongLength (check ping ZeroPing after))) ≡ refused why
      go false kind long ping e = named PacketSize e
      go true false long ping e = named UnexpectedKind e
      go true true false ping e = named WrongLength e
      go true true true false e = named ZeroPing e
      go true true true true e = absurd (let z : ◌≡◌ {A = ℕ} 0 1 = cc in omega arith)
