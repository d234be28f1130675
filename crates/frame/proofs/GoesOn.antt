-- A stream read in pieces, one call: where the bytes used so far are parted into the frames shown so far and the bytes held, they are so after the next call;
-- and a refusal with 18 means that the stream has a bad length there. Assumes nothing.
use mathlib.Core.Path.{◌≡◌, ◌∙◌, refl, sym, ap, subst}
use mathlib.Core.List.{List, [], ◌∷◌, ◌++◌, append-nil, append_assoc}
use Prim.Native.Nat.{ℕ, ◌-◌, ◌<◌, ◌≤◌}
use native.Mathlib.Omega.{arith}
use lib.ListN.{length, take, drop, length-append}
use lib.Seq.{take_at, take-length, length-take-le}
use Rattle.std.specs.Prelude.{Result, Ok, Err}
use Rattle.refusal.specs.declared.Refusal.{Refusal}
use Rattle.refusal.specs.declared.Refusal.TheVariants.{BadFrame}
use Rattle.frame.specs.declared.Front.{Front}
use Rattle.frame.specs.declared.Front.TheVariants.{Unfinished, BadLength, Whole}
use Rattle.frame.specs.declared.Reader.{Reader}
use Rattle.frame.specs.declared.Shown.{Shown}
use Rattle.frame.specs.declared.Shown.TheVariants.{More, InPiece, InKeep}
use Rattle.frame.specs.Frames.{front, unfinished, bad, Parted, parted, frames_of}
use Rattle.frame.specs.Reader.{reader_holding, held_bytes, over, Outcome, read_frame}
use Rattle.frame.proofs.FrontLaws.{Long, long_of, whole_alone, bad_behind, grown}
use Rattle.frame.proofs.StreamLaws.{lacking, behind, frames_at, frame_alone, frames_behind, unfinished_front}
use Rattle.frame.proofs.ReaderLaws.{IsAccepted, Ways, ways, refuses_short, refuses_state, refuses_length, goes_on, shows_piece, shows_keep, by_front}

-- the bytes used so far, parted
abbrev pub Held : (used : List ℕ) (frames : List (List ℕ)) (reader : Reader) (keep : List ℕ) → Type 0
Held used frames reader keep = frames_of used ≡ parted frames (unfinished (held_bytes reader keep))

-- the frames that a call shows: none or one
abbrev pub frames_shown : Result Shown Refusal → (keep piece : List ℕ) → List (List ℕ)
frames_shown (Ok More) keep piece = []
frames_shown (Ok (InPiece end)) keep piece = take end piece ∷ []
frames_shown (Ok (InKeep end)) keep piece = take end keep ∷ []
frames_shown (Err why) keep piece = []

module _ (used : List ℕ) (frames : List (List ℕ)) (reader : Reader) (keep piece : List ℕ) (h : Held used frames reader keep) where
  abbrev held : List ℕ
  held = held_bytes reader keep

  state : front held ≡ Unfinished
  state = unfinished_front held used (ap (λ (p : Parted). p.rest) h)

  goes : (more : List ℕ) → frames_of (used ++ more) ≡ behind frames (frames_of (held ++ more))
  goes more = frames_behind more held used (ap (λ (p : Parted). p.rest) h) ∙ ap (λ (p : Parted). behind p.frames (frames_of (held ++ more))) h

  -- a frame that comes to be whole: what it lacked is used, it is shown, and nothing is held
  module _ (size : ℕ) (e : front (held ++ piece) ≡ Whole size) where
    abbrev lacked : ℕ
    lacked = size - length held

    there : Long (held ++ piece) size
    there = long_of (held ++ piece) size e

    longer : length held < size
    longer = grown held piece size state e

    taken : held ++ take lacked piece ≡ take size (held ++ piece)
    taken = lacking held piece size (omega (arith, longer))

    shown_length : length (take size (held ++ piece)) ≡ size
    shown_length = length-take-le size (held ++ piece) there.there

    pub finishes : frames_of (used ++ take lacked piece) ≡ parted (frames ++ (take size (held ++ piece) ∷ [])) (unfinished [])
    finishes =
        goes (take lacked piece)
        ∙ ap (λ (l : List ℕ). behind frames (frames_of l)) taken
        ∙ ap (behind frames) (frame_alone (take size (held ++ piece)) (whole_alone (held ++ piece) size e ∙ ap Whole (sym shown_length)))

  nothing : (l : List ℕ) → length l ≡ 0 → l ≡ []
  nothing [] e = refl
  nothing (x ∷ l) e = absurd (omega arith)

  -- ---- what a call comes to

  abbrev GoesOn : Outcome → Type 0
  GoesOn o = IsAccepted o.read.shown → Held (used ++ take o.read.used piece) (frames ++ frames_shown o.read.shown o.keep piece) o.read.reader o.keep

  goes_by : (o : Outcome) → Ways reader keep piece o → GoesOn o
  goes_by o (refuses_short short q) = subst GoesOn (sym q) (λ a. absurd a)
  goes_by o (refuses_state long closed q) = subst GoesOn (sym q) (λ a. absurd a)
  goes_by o (refuses_length long good e q) = subst GoesOn (sym q) (λ a. absurd a)
  goes_by o (goes_on long good e q) =
      let all : held_bytes (reader_holding (length (held ++ piece))) (over (held ++ piece) keep) ≡ held ++ piece =
      take_at (held ++ piece) (drop (length (held ++ piece)) keep) (length (held ++ piece)) refl in
      subst GoesOn (sym q)
      (λ a.
      ap (λ (l : List ℕ). frames_of (used ++ l)) (take-length piece) ∙ goes piece ∙ ap (behind frames) (frames_at (held ++ piece) Unfinished e)
      ∙ ap (λ (l : List ℕ). parted (frames ++ []) (unfinished l)) (sym all))
  goes_by o (shows_piece size long good e none q) =
      let all : lacked size e ≡ size = omega (arith, none) in
      let same : take size (held ++ piece) ≡ take size piece = ap (λ (l : List ℕ). take size (l ++ piece)) (nothing held none) in
      subst GoesOn (sym q)
      (λ a.
      ap (λ (n : ℕ). frames_of (used ++ take n piece)) (sym all) ∙ finishes size e
      ∙ ap (λ (l : List ℕ). parted (frames ++ (l ∷ [])) (unfinished [])) same)
  goes_by o (shows_keep size long good e some q) =
      let same : take size (over (take size (held ++ piece)) keep) ≡ take size (held ++ piece) =
      take_at (take size (held ++ piece)) (drop (length (take size (held ++ piece))) keep) size (shown_length size e) in
      subst GoesOn (sym q) (λ a. finishes size e ∙ ap (λ (l : List ℕ). parted (frames ++ (l ∷ [])) (unfinished [])) (sym same))

  -- an accepted call: the bytes used are parted into the frames shown and the bytes held
  pub goes_on_after : GoesOn (read_frame reader keep piece)
  goes_on_after = goes_by (read_frame reader keep piece) (ways reader keep piece)

  abbrev TellsBad : Outcome → Type 0
  TellsBad o = o.read.shown ≡ Err BadFrame → (later : List ℕ) → frames_of (used ++ (piece ++ later)) ≡ parted frames bad

  bad_length : front (held ++ piece) ≡ BadLength → (later : List ℕ) → frames_of (used ++ (piece ++ later)) ≡ parted frames bad
  bad_length e later =
      goes (piece ++ later)
      ∙ ap (λ (l : List ℕ). behind frames (frames_of l)) (sym (append_assoc held piece later))
      ∙ ap (behind frames) (frames_at ((held ++ piece) ++ later) BadLength (bad_behind (held ++ piece) later e))
      ∙ ap (λ (l : List (List ℕ)). parted l bad) (append-nil frames)

  ends_by : (o : Outcome) → Ways reader keep piece o → TellsBad o
  ends_by o (refuses_short short q) = subst TellsBad (sym q) (λ r. cc)
  ends_by o (refuses_state long closed q) = absurd (closed state)
  ends_by o (refuses_length long good e q) = λ r. bad_length e
  ends_by o (goes_on long good e q) = subst TellsBad (sym q) (λ r. cc)
  ends_by o (shows_piece size long good e none q) = subst TellsBad (sym q) (λ r. cc)
  ends_by o (shows_keep size long good e some q) = subst TellsBad (sym q) (λ r. cc)

  -- 18: a bad length stands where the next frame would begin, and what comes behind the piece does not matter
  pub ends_bad : TellsBad (read_frame reader keep piece)
  ends_bad = ends_by (read_frame reader keep piece) (ways reader keep piece)

  -- and it is told at once: where the bytes used and the piece are the frames shown, then bad, the call is refused with 18
  told_by : 2050 ≤ length keep → (frames_of (held ++ piece)).rest ≡ bad → length (frames_of (held ++ piece)).frames ≡ 0 → (f : Front) → front (held ++ piece) ≡ f
      → (read_frame reader keep piece).read.shown ≡ Err BadFrame
  told_by long r l Unfinished e = absurd (let q = sym (ap (λ (p : Parted). p.rest) (frames_at (held ++ piece) Unfinished e)) ∙ r in cc)
  told_by long r l BadLength e = ap (λ (o : Outcome). o.read.shown) (by_front reader keep piece long state BadLength e)
  told_by long r l (Whole size) e = absurd (omega (arith, l, ap (λ (p : Parted). length p.frames) (frames_at (held ++ piece) (Whole size) e)))

  pub told_at_once : 2050 ≤ length keep → frames_of (used ++ piece) ≡ parted frames bad → (read_frame reader keep piece).read.shown ≡ Err BadFrame
  told_at_once long e =
      let all : behind frames (frames_of (held ++ piece)) ≡ parted frames bad = sym (goes piece) ∙ e in
      told_by long (ap (λ (p : Parted). p.rest) all)
      (omega (arith, length-append frames (frames_of (held ++ piece)).frames, ap (λ (p : Parted). length p.frames) all)) (front (held ++ piece)) refl
