-- `in_place::front` meets its contract. Assumes nothing.
use mathlib.Core.Path.{◌≡◌, ◌∙◌, refl, ap}
use mathlib.Core.List.{List}
use Prim.Native.Nat.{ℕ, ◌<◌}
use lib.ListN.{length, replicate}
use denote.Bor.{Bor}
use borrow.Author.Tests.{lt-leb, le-leb}
use Rattle.std.specs.Prelude.{Option, Some, None}
use Rattle.std.specs.Option.{MatchOption, unwrap_or}
use Rattle.std.specs.Array.{IsFirstChunk}
use Rattle.key.specs.Keys.{key_of}
use Rattle.key.proofs.in_place.front.Goals as goal

-- the first 32 bytes, or zeros
taken : (bytes : List ℕ) (r : Option (Bor (List ℕ))) (zeros : Bor (List ℕ)) → zeros.now ≡ replicate 32 0
    → MatchOption r (length bytes < 32) (λ y. IsFirstChunk bytes y.now 32) → (unwrap_or r zeros).now ≡ key_of bytes
unfolding key_of
taken bytes None zeros e h = simp (lt-leb _ _ h) e
taken bytes (Some x) zeros e h = simp (le-leb 32 (length bytes) h.enough) h.same

pub returns : goal.returns
returns c = ap (λ (b : Bor (List ℕ)). b.now) c.unwrap_or.ensures ∙ taken c.args.bytes.now c.first_chunk.result _ refl c.first_chunk.ensures.cases
