-- Laws of bytes copied into the keep behind those held. Assumes nothing.
use mathlib.Core.Path.{◌≡◌, ◌∙◌, sym, ap, ap₂}
use mathlib.Core.List.{List, ◌++◌, append_assoc}
use Prim.Native.Nat.{ℕ, ◌+◌, ◌-◌, ◌≤◌}
use native.Mathlib.Omega.{arith}
use lib.ListN.{length, take, drop, length-append}
use lib.Seq.{length-take-le, drop-drop}
use Rattle.frame.specs.Reader.{over}
use Rattle.frame.proofs.StreamLaws.{lacking}

-- the part of the keep behind the bytes held comes back with the bytes copied: they stand behind those held
pub copied : (held n : ℕ) (keep src part : List ℕ) → n ≡ length src → held + n ≤ length keep → part ≡ src
    → take held keep ++ (part ++ drop n (drop held keep)) ≡ over (take held keep ++ src) keep
copied held n keep src part e h p =
    let all : held + n ≡ length (take held keep ++ src) =
    omega (arith, length-append (take held keep) src, length-take-le held keep (omega (arith, h)), e) in
    ap₂ (λ (x y : List ℕ). take held keep ++ (x ++ y)) p (drop-drop n held keep ∙ ap (λ (m : ℕ). drop m keep) all)
    ∙ sym (append_assoc (take held keep) src (drop (length (take held keep ++ src)) keep))

-- the bytes held and what a frame lacks are the frame
pub finished : (size held : ℕ) (keep piece : List ℕ) → held ≤ length keep → held ≤ size
    → take held keep ++ take (size - held) piece ≡ take size (take held keep ++ piece)
finished size held keep piece h k =
    let l : length (take held keep) ≡ held = length-take-le held keep h in
    ap (λ (n : ℕ). take held keep ++ take (size - n) piece) (sym l) ∙ lacking (take held keep) piece size (omega (arith, l, k))
