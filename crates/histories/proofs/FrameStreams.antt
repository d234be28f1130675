-- A stream of frames, as the host reads it by `banavoge_frame_read` (document 02, Req 01). However it is cut, the frames shown are the stream's in order, up to its
-- first bad length: `frames_shown_lem`, `shown_and_held`, `all_shown_whole`, `all_frames_shown`, `ends_at_bad`, `told_when_there`. An accepted call uses some of a piece
-- that has bytes (`bounded`), and shows a frame in the keep only when it was begun before (`copied_only`, `shown_in_piece`). When a call is refused, and what that
-- leaves: `short_refused`, `state_refused`, `frame_refused`, `stays_broken`. Every call has an answer: `always_answered`. Assumes nothing.
use mathlib.Core.Path.{◌≡◌, ◌∙◌, refl, sym, ap, subst}
use mathlib.Core.List.{List, [], ◌++◌, append-nil}
use Prim.Native.Nat.{ℕ, ◌+◌, ◌≤◌}
use native.Mathlib.Omega.{arith}
use lib.IntN.{ℤ, pos}
use lib.ListN.{length, take, drop, length-take, take-append-drop}
use lib.Seq.{take-add, take-take, take_all}
use Rattle.std.proofs.Common.{Result, Ok, Err}
use Rattle.refusal.specs.declared.Refusal.{Refusal}
use Rattle.refusal.specs.declared.Refusal.TheVariants.{OutputTooShort, BadFrame}
use Rattle.frame.specs.declared.Front.TheVariants.{Unfinished, Whole}
use Rattle.frame.specs.declared.Shown.{Shown}
use Rattle.frame.specs.declared.Shown.TheVariants.{More, InPiece, InKeep}
use Rattle.frame.specs.Frames.{front, unfinished, bad, Parted, parted, frames_of, concatenated, AllWhole}
use Rattle.frame.specs.Reader.{reader_holding, held_bytes, Outcome, read_frame}
use Rattle.frame.proofs.FrontLaws.{front_few}
use Rattle.frame.proofs.StreamLaws.{frames_at, frames_joined, frames_whole}
use Rattle.frame.proofs.ReaderLaws.{IsAccepted, Ways, ways, refuses_short, refuses_state, refuses_length, goes_on, shows_piece, shows_keep, in_piece, all_held, uses, keeps}
use Rattle.frame.proofs.ReaderLaws.{too_short as keep-too-short, bad_state}
use Rattle.frame.proofs.GoesOn.{frames_shown, goes_on_after, ends_bad, told_at_once}
use Rattle.banavoge_laws.specs.Answers.{refusal_code}
use Rattle.banavoge_laws.specs.Frames.{FramePlaces, frame_places, shown_code, end_after, frame_places_after}
use Rattle.histories.specs.ExportedCalls.{Below0}
use Rattle.histories.specs.FrameStream.{FrameCall, frames_seen, Reading, begun, then_read, EndsBad, CopiedOnly, ShownInPiece, Bounded, RefusedFrame, too_short, bad_frame, FrameCalls, none, next, AllRefused, AnsweredCall}
use Rattle.histories.proofs.Answered.{below_zero, below_not, same_refusal}

-- ---- the number answered tells what is shown

accepted_number : (s : Result Shown Refusal) (n : ℕ) → shown_code s ≡ pos n → IsAccepted s
unfolding shown_code
accepted_number (Ok shown) n e = tt
accepted_number (Err why) n e = below_not why n e

more_number : (s : Result Shown Refusal) → shown_code s ≡ pos 0 → s ≡ Ok More
unfolding shown_code
more_number (Ok More) e = refl
more_number (Ok (InPiece end)) e = absurd (cc)
more_number (Ok (InKeep end)) e = absurd (cc)
more_number (Err why) e = absurd (below_not why 0 e)

seen_as_shown : (s : Result Shown Refusal) (before : ℕ) (piece left : List ℕ) → frames_seen (shown_code s) (end_after s before) piece left ≡ frames_shown s left piece
unfolding shown_code end_after frames_seen
seen_as_shown (Ok More) before piece left = refl
seen_as_shown (Ok (InPiece end)) before piece left = refl
seen_as_shown (Ok (InKeep end)) before piece left = refl
seen_as_shown (Err why) before piece left = ap (λ (z : ℤ). frames_seen z before piece left) (below_zero why).is

refused_number : (s : Result Shown Refusal) (why : Refusal) → shown_code s ≡ refusal_code why → s ≡ Err why
unfolding shown_code
refused_number (Ok More) why e = absurd (below_not why 0 (sym e))
refused_number (Ok (InPiece end)) why e = absurd (below_not why 1 (sym e))
refused_number (Ok (InKeep end)) why e = absurd (below_not why 2 (sym e))
refused_number (Err other) why e = ap Err (same_refusal other why e)

-- ---- one call

module _ {held : ℕ} {keep piece left : List ℕ} {answer : ℤ} {after : FramePlaces} (c : FrameCall held keep piece answer after left) where
  abbrev outcome : Outcome
  outcome = read_frame (reader_holding held) keep piece

  held_is : after.held ≡ outcome.read.reader.held
  unfolding frame_places_after
  held_is = ap (λ (p : FramePlaces). p.held) c.reads.sets

  used_is : after.used ≡ outcome.read.used
  unfolding frame_places_after
  used_is = ap (λ (p : FramePlaces). p.used) c.reads.sets

  end_is : after.end ≡ end_after outcome.read.shown c.end_before
  unfolding frame_places_after
  end_is = ap (λ (p : FramePlaces). p.end) c.reads.sets

  seen_is : frames_seen answer after.end piece left ≡ frames_shown outcome.read.shown outcome.keep piece
  seen_is =
      rw (c.reads.answers, end_is, c.reads.leaves) (seen_as_shown outcome.read.shown c.end_before piece outcome.keep)

  is_accepted : (n : ℕ) → answer ≡ pos n → IsAccepted outcome.read.shown
  is_accepted n e = accepted_number outcome.read.shown n (sym c.reads.answers ∙ e)

  pub bounded : Bounded keep piece answer after left
  bounded = record {
    within = omega (arith, used_is, (uses (reader_holding held) keep piece).within);
    moves = λ n e some. omega (arith, used_is, (uses (reader_holding held) keep piece).moves (is_accepted n e) some);
    all = λ e. used_is ∙ (uses (reader_holding held) keep piece).all (more_number outcome.read.shown (sym c.reads.answers ∙ e));
    as_long = ap length c.reads.leaves ∙ (keeps (reader_holding held) keep piece).as_long;
    behind = ap (drop 2050) c.reads.leaves ∙ (keeps (reader_holding held) keep piece).behind;
  }

  -- which way out it is, told as the host sees it
  copied_by : (o : Outcome) → Ways (reader_holding held) keep piece o → answer ≡ shown_code o.read.shown → left ≡ o.keep → CopiedOnly held keep answer left
  unfolding shown_code
  copied_by o (refuses_short short q) a l = record {
    in_piece = λ e. l ∙ ap (λ (x : Outcome). x.keep) q;
    in_keep = λ e. absurd (below_not OutputTooShort 2 (sym (a ∙ ap (λ (x : Outcome). shown_code x.read.shown) q) ∙ e));
  }
  copied_by o (refuses_state long closed q) a l = record {
    in_piece = λ e. l ∙ ap (λ (x : Outcome). x.keep) q;
    in_keep = λ e. absurd (below_not BadFrame 2 (sym (a ∙ ap (λ (x : Outcome). shown_code x.read.shown) q) ∙ e));
  }
  copied_by o (refuses_length long good f q) a l = record {
    in_piece = λ e. l ∙ ap (λ (x : Outcome). x.keep) q;
    in_keep = λ e. absurd (below_not BadFrame 2 (sym (a ∙ ap (λ (x : Outcome). shown_code x.read.shown) q) ∙ e));
  }
  copied_by o (goes_on long good f q) a l =
      let zero_answered = a ∙ ap (λ (x : Outcome). shown_code x.read.shown) q in
      record {
        in_piece = λ e. absurd (cc);
        in_keep = λ e. absurd (cc);
      }
  copied_by o (shows_piece size long good f no_bytes q) a l =
      let one-answered = a ∙ ap (λ (x : Outcome). shown_code x.read.shown) q in
      record { in_piece = λ e. l ∙ ap (λ (x : Outcome). x.keep) q; in_keep = λ e. absurd (cc) }
  copied_by o (shows_keep size long good f some q) a l =
      let two-answered = a ∙ ap (λ (x : Outcome). shown_code x.read.shown) q in
      record { in_piece = λ e. absurd (cc); in_keep = λ e. omega (arith, some, length-take held keep) }

  pub copied_only : CopiedOnly held keep answer left
  copied_only = copied_by outcome (ways (reader_holding held) keep piece) c.reads.answers c.reads.leaves

  refused_by : (o : Outcome) → Ways (reader_holding held) keep piece o → answer ≡ shown_code o.read.shown → after ≡ frame_places_after o.read (frame_places held c.used_before c.end_before)
      → left ≡ o.keep → Below0 answer → RefusedFrame (frame_places held c.used_before c.end_before) keep answer after left
  unfolding shown_code end_after frame_places_after
  refused_by o (refuses_short short q) a s l below =
      too_short (a ∙ ap (λ (x : Outcome). shown_code x.read.shown) q) (omega (arith, short))
      (s ∙ ap (λ (x : Outcome). frame_places_after x.read (frame_places held c.used_before c.end_before)) q) (l ∙ ap (λ (x : Outcome). x.keep) q)
  refused_by o (refuses_state long closed q) a s l below =
      bad_frame (a ∙ ap (λ (x : Outcome). shown_code x.read.shown) q) long
      (s ∙ ap (λ (x : Outcome). frame_places_after x.read (frame_places held c.used_before c.end_before)) q) (l ∙ ap (λ (x : Outcome). x.keep) q)
  refused_by o (refuses_length long good f q) a s l below =
      bad_frame (a ∙ ap (λ (x : Outcome). shown_code x.read.shown) q) long
      (s ∙ ap (λ (x : Outcome). frame_places_after x.read (frame_places held c.used_before c.end_before)) q) (l ∙ ap (λ (x : Outcome). x.keep) q)
  refused_by o (goes_on long good f q) a s l below = absurd (subst Below0 (a ∙ ap (λ (x : Outcome). shown_code x.read.shown) q) below)
  refused_by o (shows_piece size long good f no_bytes q) a s l below = absurd (subst Below0 (a ∙ ap (λ (x : Outcome). shown_code x.read.shown) q) below)
  refused_by o (shows_keep size long good f some q) a s l below = absurd (subst Below0 (a ∙ ap (λ (x : Outcome). shown_code x.read.shown) q) below)

  pub frame_refused : Below0 answer → RefusedFrame (frame_places held c.used_before c.end_before) keep answer after left
  frame_refused = refused_by outcome (ways (reader_holding held) keep piece) c.reads.answers c.reads.sets c.reads.leaves

-- "A complete frame is shown either inside the piece or inside the keep, copied only when it began in an earlier scrap."
pub shown_in_piece : {keep piece left : List ℕ} {answer : ℤ} {after : FramePlaces} (size : ℕ) → FrameCall 0 keep piece answer after left → 2050 ≤ length keep
    → front piece ≡ Whole size → ShownInPiece size keep answer after left
unfolding shown_code end_after frame_places_after
shown_in_piece {keep} {piece} {left} {answer} {after} size c long whole =
    let o = in_piece (reader_holding 0) keep piece long (front_few [] (omega arith)) size whole refl in
    record {
      answers = c.reads.answers ∙ ap (λ (x : Outcome). shown_code x.read.shown) o;
      sets = c.reads.sets ∙ ap (λ (x : Outcome). frame_places_after x.read (frame_places 0 c.used_before c.end_before)) o;
      leaves = c.reads.leaves ∙ ap (λ (x : Outcome). x.keep) o;
    }

-- every call is answered
pub always_answered : (held : ℕ) (keep piece : List ℕ) → AnsweredCall held keep piece
always_answered held keep piece =
    let o = read_frame (reader_holding held) keep piece in
    record {
      answer = shown_code o.read.shown;
      after = frame_places_after o.read (frame_places held 0 0);
      left = o.keep;
      call = record { used_before = 0; end_before = 0; reads = record { answers = refl; sets = refl; leaves = refl } };
    }

-- ---- a stream

-- the bytes of a stream up to a place, and a piece from there on
piece_behind : (stream : List ℕ) (used n : ℕ) → take used stream ++ (take n (drop used stream) ++ drop n (drop used stream)) ≡ stream
piece_behind stream used n = ap (λ (l : List ℕ). take used stream ++ l) (take-append-drop n (drop used stream)) ∙ take-append-drop used stream

-- "the frames are all the stream's in order": of what was used
pub frames_shown_lem : {stream : List ℕ} {used held : ℕ} {shown : List (List ℕ)} {keep : List ℕ} → Reading stream used shown held keep
    → frames_of (take used stream) ≡ parted shown (unfinished (take held keep))
frames_shown_lem (begun keep) = frames_at [] Unfinished (front_few [] (omega arith))
frames_shown_lem {stream} (then_read {used} {held} {answer} {shown} {keep} {left} {after} before n c) =
    let piece = take n (drop used stream) in
    let o = read_frame (reader_holding held) keep piece in
    let goes = goes_on_after (take used stream) shown (reader_holding held) keep piece (frames_shown_lem before) (is_accepted c answer refl) in
    let some : o.read.used ≤ n = omega (arith, (uses (reader_holding held) keep piece).within, length-take n (drop used stream)) in
    let bytes : take (used + after.used) stream ≡ take used stream ++ take o.read.used piece =
    take-add used after.used stream
    ∙ ap (λ (m : ℕ). take used stream ++ take m (drop used stream)) (used_is c)
    ∙ ap (λ (l : List ℕ). take used stream ++ l) (sym (take-take o.read.used n (drop used stream) some)) in
    ap frames_of bytes ∙ goes
    ∙ ap (λ (l : List (List ℕ)). parted (shown ++ l) (unfinished (held_bytes o.read.reader o.keep))) (sym (seen_is c))
    ∙ ap (λ (l : List ℕ). parted (shown ++ frames_seen (pos answer) after.end piece left) (unfinished (take o.read.reader.held l))) (sym c.reads.leaves)
    ∙ ap (λ (m : ℕ). parted (shown ++ frames_seen (pos answer) after.end piece left) (unfinished (take m left))) (sym (held_is c))

-- so nothing is lost: the frames shown and the bytes held, one behind the other, are the bytes used
pub shown_and_held : {stream : List ℕ} {used held : ℕ} {shown : List (List ℕ)} {keep : List ℕ} → Reading stream used shown held keep
    → concatenated shown ++ take held keep ≡ take used stream
shown_and_held {stream} {used} {held} {shown} {keep} r =
    let e = frames_shown_lem r in
    sym (ap (λ (p : Parted). concatenated p.frames ++ take held keep) e) ∙ frames_joined (take held keep) (take used stream) (ap (λ (p : Parted). p.rest) e)

-- and each is a whole frame, and no byte more
pub all_shown_whole : {stream : List ℕ} {used held : ℕ} {shown : List (List ℕ)} {keep : List ℕ} → Reading stream used shown held keep → AllWhole shown
all_shown_whole {stream} {used} r = subst (λ (p : Parted). AllWhole p.frames) (frames_shown_lem r) (frames_whole (take used stream))

-- when all of the stream is used, the frames shown are all that it has
pub all_frames_shown : {stream : List ℕ} {used held : ℕ} {shown : List (List ℕ)} {keep : List ℕ} → Reading stream used shown held keep → length stream ≤ used
    → frames_of stream ≡ parted shown (unfinished (take held keep))
all_frames_shown {stream} {used} r all = ap frames_of (sym (take_all used stream all)) ∙ frames_shown_lem r

-- "up to its first bad length"
pub ends_at_bad : {stream : List ℕ} {used held n : ℕ} {shown : List (List ℕ)} {keep left : List ℕ} {answer : ℤ} {after : FramePlaces}
    → Reading stream used shown held keep → FrameCall held keep (take n (drop used stream)) answer after left → answer ≡ refusal_code BadFrame
    → EndsBad stream used shown n
ends_at_bad {stream} {used} {held} {n} {shown} {keep} {left} {answer} {after} r c e =
    let piece = take n (drop used stream) in
    let o = read_frame (reader_holding held) keep piece in
    let told = refused_number o.read.shown BadFrame (sym c.reads.answers ∙ e) in
    let ends = ends_bad (take used stream) shown (reader_holding held) keep piece (frames_shown_lem r) told in
    record {
      all = ap frames_of (sym (piece_behind stream used n)) ∙ ends (drop n (drop used stream));
      there = ap frames_of (take-add used n stream ∙ ap (λ (l : List ℕ). take used stream ++ l) (sym (append-nil piece))) ∙ ends [];
    }

-- and a bad length is told "as soon as both length bytes are there"
pub told_when_there : (n : ℕ) {stream : List ℕ} {used held : ℕ} {shown : List (List ℕ)} {keep left : List ℕ} {answer : ℤ} {after : FramePlaces}
    → Reading stream used shown held keep → 2050 ≤ length keep → FrameCall held keep (take n (drop used stream)) answer after left
    → frames_of (take (used + n) stream) ≡ parted shown bad → answer ≡ refusal_code BadFrame
unfolding shown_code
told_when_there n {stream} {used} {held} {shown} {keep} {left} {answer} {after} r long c e =
    let piece = take n (drop used stream) in
    c.reads.answers
    ∙ ap shown_code (told_at_once (take used stream) shown (reader_holding held) keep piece (frames_shown_lem r) long (ap frames_of (sym (take-add used n stream)) ∙ e))

-- ---- refusals

-- "10 for a keep that is too short"
pub short_refused : {held : ℕ} {keep piece left : List ℕ} {answer : ℤ} {after : FramePlaces} → FrameCall held keep piece answer after left → length keep ≤ 2049
    → answer ≡ refusal_code OutputTooShort
unfolding shown_code
short_refused {held} {keep} {piece} c short =
    c.reads.answers ∙ ap (λ (x : Outcome). shown_code x.read.shown) (keep-too-short (reader_holding held) keep piece (omega (arith, short)))

-- "18 for a reader holding 2 or more bytes that start no unfinished frame"
pub state_refused : {held : ℕ} {keep piece left : List ℕ} {answer : ℤ} {after : FramePlaces} → FrameCall held keep piece answer after left → 2050 ≤ length keep
    → (front (take held keep) ≡ Unfinished → ⊥) → answer ≡ refusal_code BadFrame
unfolding shown_code
state_refused {held} {keep} {piece} c long closed =
    c.reads.answers ∙ ap (λ (x : Outcome). shown_code x.read.shown) (bad_state (reader_holding held) keep piece long closed)

-- a reader that was left at 2,051 is refused, and stays there
broken_below : {held : ℕ} {keep piece : List ℕ} {o : Outcome} → held ≡ 2051 → Ways (reader_holding held) keep piece o → (answer : ℤ) → answer ≡ shown_code o.read.shown → Below0 answer
unfolding shown_code refusal_code
broken_below h (refuses_short short q) answer a = rw (a, q) tt
broken_below h (refuses_state long closed q) answer a = rw (a, q) tt
broken_below {held} {keep} h (refuses_length long good e q) answer a = absurd (all_held (reader_holding held) keep long (omega (arith, h)) good)
broken_below {held} {keep} h (goes_on long good e q) answer a = absurd (all_held (reader_holding held) keep long (omega (arith, h)) good)
broken_below {held} {keep} h (shows_piece size long good e no_bytes q) answer a = absurd (all_held (reader_holding held) keep long (omega (arith, h)) good)
broken_below {held} {keep} h (shows_keep size long good e some q) answer a = absurd (all_held (reader_holding held) keep long (omega (arith, h)) good)

held_stays : {before after : FramePlaces} {keep left : List ℕ} {answer : ℤ} → RefusedFrame before keep answer after left → before.held ≡ 2051 → after.held ≡ 2051
held_stays (too_short a k s l) h = ap (λ (p : FramePlaces). p.held) s ∙ h
held_stays (bad_frame a k s l) h = ap (λ (p : FramePlaces). p.held) s

stays : {held : ℕ} (calls : FrameCalls held) → held ≡ 2051 → AllRefused calls
stays none h = tt
stays (next {held} {answer} {after} {keep} {piece} {left} c later) h =
    let refused = frame_refused c (broken_below h (ways (reader_holding held) keep piece) answer c.reads.answers) in (refused, stays later (held_stays refused h))

-- "After 18 the reader gives 18 until begun anew": every call after it is refused, with 18 or, for a keep that is too short, with 10
held_after_18 : {before after : FramePlaces} {keep left : List ℕ} {answer : ℤ} → RefusedFrame before keep answer after left → answer ≡ refusal_code BadFrame → after.held ≡ 2051
held_after_18 (too_short a k s l) e = absurd (let q = same_refusal OutputTooShort BadFrame (sym a ∙ e) in let z : ◌≡◌ {A = ℕ} 0 1 = cc in omega arith)
held_after_18 (bad_frame a k s l) e = ap (λ (p : FramePlaces). p.held) s

pub stays_broken : {held : ℕ} {keep piece left : List ℕ} {answer : ℤ} {after : FramePlaces} → FrameCall held keep piece answer after left → answer ≡ refusal_code BadFrame
    → (later : FrameCalls after.held) → AllRefused later
unfolding refusal_code
stays_broken c e later = stays later (held_after_18 (frame_refused c (rw e tt)) e)
