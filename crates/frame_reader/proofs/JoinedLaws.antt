-- Laws of the bytes held at the front of a keep and the piece behind them: how many there are, and where the two bytes of their length stand. Assumes nothing.
use mathlib.Core.Path.{◌≡◌, ◌∙◌, ap}
use mathlib.Core.List.{List, [], ◌∷◌, ◌++◌}
use Prim.Native.Nat.{ℕ, ◌+◌, ◌<◌, ◌≤◌}
use native.Mathlib.Omega.{arith}
use lib.ListN.{length, get_or, take, length-append}
use lib.Seq.{length-take-le}
use mir.Syntax.{w16}
use Rattle.std.specs.Int.{from_be_bytes}
use Rattle.wire.proofs.TwoBytes.{from_two}
use Rattle.frame.specs.Frames.{length_of}

pub there_length : (held : ℕ) (keep piece : List ℕ) → held ≤ length keep → length (take held keep ++ piece) ≡ held + length piece
there_length held keep piece h = length-append (take held keep) piece ∙ ap (λ (n : ℕ). n + length piece) (length-take-le held keep h)

-- the two bytes of the length, each held or in the piece
abbrev Length : List ℕ → ℕ → Type 0
Length there n = (2 ≤ length there) × (n ≡ length_of there)

module _ {both : List ℕ} {n : ℕ} (e : n ≡ from_be_bytes w16 both) where
  two_bytes : (there : List ℕ) → 2 ≤ length there → both ≡ get_or there 0 0 ∷ get_or there 1 0 ∷ [] → Length there n
  unfolding length_of
  two_bytes there h b = (h, e ∙ ap (from_be_bytes w16) b ∙ from_two there h)

  pub both_held : (held piece : List ℕ) → 2 ≤ length held → both ≡ get_or held 0 0 ∷ get_or held 1 0 ∷ [] → Length (held ++ piece) n
  both_held [] piece h b = absurd (omega arith)
  both_held (x ∷ []) piece h b = absurd (omega arith)
  both_held (x ∷ y ∷ held) piece h b = two_bytes (x ∷ y ∷ (held ++ piece)) (omega arith) b

  pub one_held : (held piece : List ℕ) → length held ≡ 1 → 1 ≤ length piece → both ≡ get_or held 0 0 ∷ get_or piece 0 0 ∷ [] → Length (held ++ piece) n
  one_held [] piece h k b = absurd (omega arith)
  one_held (x ∷ y ∷ held) piece h k b = absurd (omega arith)
  one_held (x ∷ []) [] h k b = absurd (omega arith)
  one_held (x ∷ []) (y ∷ piece) h k b = two_bytes (x ∷ y ∷ piece) (omega arith) b

  pub none_held : (held piece : List ℕ) → length held < 1 → 2 ≤ length piece → both ≡ take 2 piece → Length (held ++ piece) n
  none_held [] [] h k b = absurd (omega arith)
  none_held [] (x ∷ []) h k b = absurd (omega arith)
  none_held [] (x ∷ y ∷ piece) h k b = two_bytes (x ∷ y ∷ piece) k b
  none_held (x ∷ held) piece h k b = absurd (omega arith)
