-- `frame_reader::joined::length_of` meets its contract: the two bytes stand at the front of both together. Assumes nothing.
use mathlib.Core.Path.{◌∙◌, ap}
use mathlib.Core.List.{[], ◌∷◌}
use Prim.Native.Nat.{ℕ}
use native.Mathlib.Omega.{arith}
use lib.ListN.{get_or}
use Rattle.frame_reader.proofs.JoinedLaws.{both_held, one_held, none_held}
use Rattle.frame_reader.proofs.joined.length_of.Goals as goal
use Rattle.frame_reader.proofs.joined.length_of.Goals.{in-empty+in_ok-first_chunk-in-empty, in-len1+in_ok-first-in-len1, in-len2-up}

pub returns : goal.returns
returns c =
    let held = c.args.held.now in
    let piece = c.args.piece.now in
    let e = c.from.ensures ∙ c.from_be_bytes.ensures in
    elim c.if-held-lt1.branch [
      | in-empty+in_ok-first_chunk-in-empty w ↦
          let first = w.in_ok-first_chunk-in-empty.ensures.cases in none_held e held piece w.in-empty.len_below first.enough (w.both-is ∙ first.same)
      | in-len1+in_ok-first-in-len1 w ↦
          let first = w.in_ok-first-in-len1.ensures.item.3 in
          one_held e held piece (omega arith) (omega arith) (w.both-is ∙ ap (λ (b : ℕ). get_or held 0 0 ∷ b ∷ []) (first.1 0))
      | in-len2-up w ↦ both_held e held piece w.in-len2-up.len_at_least w.both-is
    ]
