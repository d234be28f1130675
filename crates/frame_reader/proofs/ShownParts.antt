-- The part that `shown::frame` and `shown::sealed` return of what `read` answered, where they are lent the piece and the keep that it left: the frame that the call
-- showed, and its sealed bytes. Assumes nothing.
use mathlib.Core.Path.{◌≡◌, ◌∙◌, sym, ap, subst}
use mathlib.Core.List.{List}
use Prim.Native.Nat.{ℕ, ◌≤◌}
use native.Mathlib.Omega.{arith}
use lib.ListN.{length, take, drop}
use borrow.Author.Tests.{le-leb}
use Rattle.wire.proofs.Copy.{drop_take}
use Rattle.std.specs.Prelude.{Result, Ok}
use Rattle.refusal.specs.declared.Refusal.{Refusal}
use Rattle.frame.specs.declared.Shown.{Shown}
use Rattle.frame.specs.declared.Shown.TheVariants.{InPiece, InKeep}
use Rattle.frame.specs.declared.Reader.{Reader}
use Rattle.frame.specs.Reader.{read_frame}
use Rattle.frame.proofs.ReaderLaws.{shown_within}
use Rattle.frame_reader.specs.Parts.{Lent, LentPart, IsPart, front_part, past, frame_part, sealed_part}

module _ (reader : Reader) (before bytes : List ℕ) (keep piece : Lent) (k : keep.now ≡ (read_frame reader before bytes).keep) (p : piece.now ≡ bytes) where
  abbrev shown : Result Shown Refusal
  shown = (read_frame reader before bytes).read.shown

  -- a part of the piece, or of the keep, from its front on
  module _ (size : ℕ) where
    piece_part : shown ≡ Ok (InPiece size) → frame_part shown keep piece ≡ front_part piece size
    unfolding frame_part
    piece_part e =
        ap (λ (s : Result Shown Refusal). frame_part s keep piece) e
        ∙ simp (le-leb size (length piece.now) (omega (arith, ap length p, ((shown_within reader before bytes).in_the_piece size e).1)))

    keep_part : shown ≡ Ok (InKeep size) → frame_part shown keep piece ≡ front_part keep size
    unfolding frame_part
    keep_part e =
        ap (λ (s : Result Shown Refusal). frame_part s keep piece) e
        ∙ simp (le-leb size (length keep.now) (omega (arith, ap length k, ((shown_within reader before bytes).in_the_keep size e).1)))

    sealed_of : (s : Lent) → 19 ≤ size → frame_part shown keep piece ≡ front_part s size → sealed_part shown keep piece ≡ past 2 (front_part s size)
    unfolding sealed_part
    sealed_of s least e = rw e (simp (le-leb 2 size (omega (arith, least))))

    pub frame_in_piece : shown ≡ Ok (InPiece size) → (r : Lent) → IsPart (frame_part shown keep piece) r → r.now ≡ take size bytes
    frame_in_piece e r is = (subst (λ (x : LentPart). IsPart x r) (piece_part e) is).bytes ∙ ap (take size) p

    pub frame_in_keep : shown ≡ Ok (InKeep size) → (r : Lent) → IsPart (frame_part shown keep piece) r → r.now ≡ take size (read_frame reader before bytes).keep
    frame_in_keep e r is = (subst (λ (x : LentPart). IsPart x r) (keep_part e) is).bytes ∙ ap (take size) k

    pub sealed_in_piece : shown ≡ Ok (InPiece size) → (r : Lent) → IsPart (sealed_part shown keep piece) r → r.now ≡ drop 2 (take size bytes)
    sealed_in_piece e r is =
        let least = ((shown_within reader before bytes).in_the_piece size e).0 in
        (subst (λ (x : LentPart). IsPart x r) (sealed_of piece least (piece_part e)) is).bytes ∙ sym (drop_take 2 size piece.now) ∙ ap (λ (l : List ℕ). drop 2 (take size l)) p

    pub sealed_in_keep : shown ≡ Ok (InKeep size) → (r : Lent) → IsPart (sealed_part shown keep piece) r → r.now ≡ drop 2 (take size (read_frame reader before bytes).keep)
    sealed_in_keep e r is =
        let least = ((shown_within reader before bytes).in_the_keep size e).0 in
        (subst (λ (x : LentPart). IsPart x r) (sealed_of keep least (keep_part e)) is).bytes ∙ sym (drop_take 2 size keep.now) ∙ ap (λ (l : List ℕ). drop 2 (take size l)) k
