-- `frame_reader::read` meets its contract: 10 first, then the state, then what stands at the front. Assumes nothing.
use mathlib.Core.Path.{◌≡◌, ◌∙◌, refl, sym, ap}
use mathlib.Core.List.{List, [], ◌++◌, append-nil}
use Prim.Native.Nat.{ℕ, ◌≤◌}
use native.Mathlib.Omega.{arith}
use lib.ListN.{length, take}
use mathlib.Core.Logic.{⊎_elim}
use Rattle.frame.specs.declared.Front.TheVariants.{BadLength, Whole}
use Rattle.frame.specs.Frames.{front}
use Rattle.frame.proofs.ReaderLaws.{too_short, bad_state, all_held, holds_bad, holds_whole, by_front}
use Rattle.frame_reader.proofs.read.Goals as goal

-- with no piece behind them, the bytes held stand alone
alone : (held : List ℕ) → front held ≡ front (held ++ [])
alone held = ap front (sym (append-nil held))

pub returns-then-keep-lt-KEEP_BYTES : goal.returns-then-keep-lt-KEEP_BYTES
returns-then-keep-lt-KEEP_BYTES c =
    let a = c.args in rw (too_short a.reader a.keep.now a.piece.now (omega arith)) (record { value = c.refused.ensures; keep_after = refl })

pub returns-then-held-ge-KEEP_BYTES : goal.returns-then-held-ge-KEEP_BYTES
returns-then-held-ge-KEEP_BYTES c =
    let a = c.args in
    rw (bad_state a.reader a.keep.now a.piece.now (omega arith) (all_held a.reader a.keep.now (omega arith) (omega arith)))
    (record { value = c.refused-then-held-ge-KEEP_BYTES.ensures; keep_after = refl })

pub go_on-requires-clause-unfinished : goal.go_on-requires-clause-unfinished
go_on-requires-clause-unfinished c = alone (take c.args.reader.held c.args.keep.now) ∙ sym c.front_of.ensures ∙ c.in-Unfinished.is

pub returns-in-Unfinished : goal.returns-in-Unfinished
returns-in-Unfinished c =
    let a = c.args in
    let good = alone (take a.reader.held a.keep.now) ∙ sym c.front_of.ensures ∙ c.in-Unfinished.is in
    rw (by_front a.reader a.keep.now a.piece.now (omega arith) good (front (take a.reader.held a.keep.now ++ a.piece.now)) refl) c.go_on.ensures

pub returns-in-BadLength : goal.returns-in-BadLength
returns-in-BadLength c =
    let a = c.args in
    let held = alone (take a.reader.held a.keep.now) ∙ sym c.front_of.ensures in
    let long : 2050 ≤ length a.keep.now = omega arith in
    ⊎_elim
    (λ (e : c.front_of.result ≡ BadLength). rw (holds_bad a.reader a.keep.now a.piece.now long (held ∙ e)) (record { value = c.refused-in-BadLength.ensures; keep_after = refl }))
    (λ (w : (size : ℕ) × c.front_of.result ≡ Whole size).
    rw (holds_whole a.reader a.keep.now a.piece.now long w.0 (held ∙ w.1)) (record { value = c.refused-in-BadLength.ensures; keep_after = refl }))
    c.in-BadLength.is
