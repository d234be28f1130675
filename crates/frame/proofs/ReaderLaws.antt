-- The ways out of a call of the reader, and what each of them leaves. Assumes nothing.
use mathlib.Core.Path.{◌≡◌, ◌∙◌, refl, sym, ap, subst}
use mathlib.Core.Bool.{Bool, true, false}
use mathlib.Core.List.{List, ◌++◌}
use Prim.Native.Nat.{ℕ, ◌+◌, ◌-◌, ◌<◌, ◌≤◌}
use native.Mathlib.Omega.{arith}
use lib.Dec.{leb}
use lib.ListN.{length, take, drop, length-append, length-take}
use lib.Seq.{length-take-le, drop-append-add, drop-drop}
use borrow.Author.Tests.{le-leb, lt-leb, leb-true, leb-false}
use Rattle.std.specs.Prelude.{Result, Ok, Err}
use Rattle.refusal.specs.declared.Refusal.{Refusal}
use Rattle.refusal.specs.declared.Refusal.TheVariants.{OutputTooShort, BadFrame}
use Rattle.wire.proofs.Copy.{length_written}
use Rattle.frame.specs.declared.Front.{Front}
use Rattle.frame.specs.declared.Front.TheVariants.{Unfinished, BadLength, Whole}
use Rattle.frame.specs.declared.Reader.{Reader}
use Rattle.frame.specs.declared.Shown.{Shown}
use Rattle.frame.specs.declared.Shown.TheVariants.{More, InPiece, InKeep}
use Rattle.frame.specs.Frames.{front}
use Rattle.frame.specs.Reader.{reader_holding, broken, held_bytes, over, Outcome, shows, refuses, read_front, read_held, read_frame}
use Rattle.frame.proofs.FrontLaws.{long_of, long_bounds, unfinished_bound, grown}

module _ (reader : Reader) (keep piece : List ℕ) where
  -- the bytes held, and the piece behind them
  abbrev there : List ℕ
  there = held_bytes reader keep ++ piece

  pub too_short : length keep < 2050 → read_frame reader keep piece ≡ refuses OutputTooShort reader keep
  unfolding read_frame
  too_short h = simp (lt-leb 2050 (length keep) h)

  module _ (long : 2050 ≤ length keep) where
    of_held : (f : Front) → front (held_bytes reader keep) ≡ f → read_frame reader keep piece ≡ read_held f (held_bytes reader keep) piece keep
    unfolding read_frame
    of_held f e = simp (le-leb 2050 (length keep) long) (ap (λ (x : Front). read_held x (held_bytes reader keep) piece keep) e)

    not_unfinished : (f : Front) → (f ≡ Unfinished → ⊥) → read_held f (held_bytes reader keep) piece keep ≡ refuses BadFrame broken keep
    not_unfinished Unfinished closed = absurd (closed refl)
    not_unfinished BadLength closed = refl
    not_unfinished (Whole size) closed = refl

    pub bad_state : (front (held_bytes reader keep) ≡ Unfinished → ⊥) → read_frame reader keep piece ≡ refuses BadFrame broken keep
    bad_state closed = of_held (front (held_bytes reader keep)) refl ∙ not_unfinished (front (held_bytes reader keep)) closed

    pub holds_bad : front (held_bytes reader keep) ≡ BadLength → read_frame reader keep piece ≡ refuses BadFrame broken keep
    holds_bad e = of_held BadLength e

    pub holds_whole : (size : ℕ) → front (held_bytes reader keep) ≡ Whole size → read_frame reader keep piece ≡ refuses BadFrame broken keep
    holds_whole size e = of_held (Whole size) e

    module _ (good : front (held_bytes reader keep) ≡ Unfinished) where
      pub by_front : (f : Front) → front there ≡ f → read_frame reader keep piece ≡ read_front f (held_bytes reader keep) piece keep
      by_front f e = of_held Unfinished good ∙ ap (λ (x : Front). read_front x (held_bytes reader keep) piece keep) e

      pub in_piece : (size : ℕ) → front there ≡ Whole size → length (held_bytes reader keep) ≡ 0 → read_frame reader keep piece ≡ shows (InPiece size) (reader_holding 0) size keep
      in_piece size e none = by_front (Whole size) e ∙ simp (lt-leb 1 (length (held_bytes reader keep)) (omega (arith, none)))

      pub in_keep : (size : ℕ) → front there ≡ Whole size → 1 ≤ length (held_bytes reader keep)
          → read_frame reader keep piece ≡ shows (InKeep size) (reader_holding 0) (size - length (held_bytes reader keep)) (over (take size there) keep)
      in_keep size e some = by_front (Whole size) e ∙ simp (le-leb 1 (length (held_bytes reader keep)) some)

  -- ---- which of them it is

  pub data Ways (o : Outcome) : Type 0 where
    refuses_short : length keep < 2050 → o ≡ refuses OutputTooShort reader keep → Ways o
    refuses_state : 2050 ≤ length keep → (front (held_bytes reader keep) ≡ Unfinished → ⊥) → o ≡ refuses BadFrame broken keep → Ways o
    refuses_length : 2050 ≤ length keep → front (held_bytes reader keep) ≡ Unfinished → front there ≡ BadLength → o ≡ refuses BadFrame broken keep → Ways o
    goes_on : 2050 ≤ length keep → front (held_bytes reader keep) ≡ Unfinished → front there ≡ Unfinished
        → o ≡ shows More (reader_holding (length there)) (length piece) (over there keep) → Ways o
    shows_piece : (size : ℕ) → 2050 ≤ length keep → front (held_bytes reader keep) ≡ Unfinished → front there ≡ Whole size → length (held_bytes reader keep) ≡ 0
        → o ≡ shows (InPiece size) (reader_holding 0) size keep → Ways o
    shows_keep : (size : ℕ) → 2050 ≤ length keep → front (held_bytes reader keep) ≡ Unfinished → front there ≡ Whole size → 1 ≤ length (held_bytes reader keep)
        → o ≡ shows (InKeep size) (reader_holding 0) (size - length (held_bytes reader keep)) (over (take size there) keep) → Ways o

  bad_not_open : {f : Front} → f ≡ BadLength → f ≡ Unfinished → ⊥
  bad_not_open e g = absurd (cc)

  whole_not_open : {f : Front} {size : ℕ} → f ≡ Whole size → f ≡ Unfinished → ⊥
  whole_not_open e g = absurd (cc)

  at_held : (size : ℕ) → 2050 ≤ length keep → front (held_bytes reader keep) ≡ Unfinished → front there ≡ Whole size
      → (t : Bool) → leb 1 (length (held_bytes reader keep)) ≡ t → Ways (read_frame reader keep piece)
  at_held size long good e true h =
      let some = leb-true 1 (length (held_bytes reader keep)) h in shows_keep size long good e some (in_keep long good size e some)
  at_held size long good e false h =
      let none : length (held_bytes reader keep) ≡ 0 = omega (arith, leb-false 1 (length (held_bytes reader keep)) h) in
      shows_piece size long good e none (in_piece long good size e none)

  at_front : 2050 ≤ length keep → front (held_bytes reader keep) ≡ Unfinished → (f : Front) → front there ≡ f → Ways (read_frame reader keep piece)
  at_front long good Unfinished e = goes_on long good e (by_front long good Unfinished e)
  at_front long good BadLength e = refuses_length long good e (by_front long good BadLength e)
  at_front long good (Whole size) e = at_held size long good e (leb 1 (length (held_bytes reader keep))) refl

  at_state : 2050 ≤ length keep → (f : Front) → front (held_bytes reader keep) ≡ f → Ways (read_frame reader keep piece)
  at_state long Unfinished e = at_front long e (front there) refl
  at_state long BadLength e = refuses_state long (bad_not_open e) (bad_state long (bad_not_open e))
  at_state long (Whole size) e = refuses_state long (whole_not_open e) (bad_state long (whole_not_open e))

  at_keep : (t : Bool) → leb 2050 (length keep) ≡ t → Ways (read_frame reader keep piece)
  at_keep true e = at_state (leb-true 2050 (length keep) e) (front (held_bytes reader keep)) refl
  at_keep false e = refuses_short (leb-false 2050 (length keep) e) (too_short (leb-false 2050 (length keep) e))

  pub ways : Ways (read_frame reader keep piece)
  ways = at_keep (leb 2050 (length keep)) refl

-- ---- a state that no call leaves

-- as many bytes as the longest frame has start no unfinished frame, whatever the keep holds
pub all_held : (reader : Reader) (keep : List ℕ) → 2050 ≤ length keep → 2050 ≤ reader.held → front (held_bytes reader keep) ≡ Unfinished → ⊥
all_held reader keep long many e =
    let b = unfinished_bound (held_bytes reader keep) e in let l = length-take reader.held keep in absurd (omega (arith, b, l, long, many))

-- ---- what every way out has

abbrev pub IsAccepted : Result Shown Refusal → Type 0
IsAccepted (Ok shown) = Unit {0}
IsAccepted (Err why) = ⊥

-- bytes written over the front of a keep: it stays as long, and behind them as it was
module _ (bytes keep : List ℕ) (n : ℕ) (l : length bytes ≤ n) (k : n ≤ length keep) where
  over_length : length (over bytes keep) ≡ length keep
  over_length = length_written bytes keep (length bytes) refl (omega (arith, l, k))

  over_behind : drop n (over bytes keep) ≡ drop n keep
  over_behind =
      let e : n ≡ length bytes + (n - length bytes) = omega (arith, l) in
      ap (λ (m : ℕ). drop m (over bytes keep)) e ∙ drop-append-add bytes (drop (length bytes) keep) (n - length bytes)
      ∙ drop-drop (n - length bytes) (length bytes) keep ∙ ap (λ (m : ℕ). drop m keep) (sym e)

module _ (reader : Reader) (keep piece : List ℕ) where
  abbrev held : List ℕ
  held = held_bytes reader keep

  -- a frame that comes to be whole lacked some bytes, and they stand at the front of the piece
  lacked_some : (size : ℕ) → front held ≡ Unfinished → front (held ++ piece) ≡ Whole size → 1 ≤ size - length held
  lacked_some size good e = omega (arith, grown held piece size good e)

  lacked_within : (size : ℕ) → front (held ++ piece) ≡ Whole size → size - length held ≤ length piece
  lacked_within size e = omega (arith, (long_of (held ++ piece) size e).there, length-append held piece)

  -- what is used stands in the piece; where the call is accepted and the piece has bytes, some are used; and where more is needed, all are
  pub record Uses (o : Outcome) : Type 0 where
    pub within : o.read.used ≤ length piece
    pub moves : IsAccepted o.read.shown → 1 ≤ length piece → 1 ≤ o.read.used
    pub all : o.read.shown ≡ Ok More → o.read.used ≡ length piece

  -- the keep stays as long, and only its first 2,050 bytes are written
  pub record Keeps (o : Outcome) : Type 0 where
    pub as_long : length o.keep ≡ length keep
    pub behind : drop 2050 o.keep ≡ drop 2050 keep

  uses_of : (o : Outcome) → Ways reader keep piece o → Uses o
  uses_of o (refuses_short short q) =
      subst Uses (sym q) (record { within = omega arith; moves = λ a. absurd a; all = λ s. cc })
  uses_of o (refuses_state long closed q) =
      subst Uses (sym q) (record { within = omega arith; moves = λ a. absurd a; all = λ s. cc })
  uses_of o (refuses_length long good e q) =
      subst Uses (sym q) (record { within = omega arith; moves = λ a. absurd a; all = λ s. cc })
  uses_of o (goes_on long good e q) = subst Uses (sym q) (record { within = omega arith; moves = λ a some. some; all = λ s. refl })
  uses_of o (shows_piece size long good e none q) =
      subst Uses (sym q)
      (record {
        within = omega (arith, none, lacked_within size e);
        moves = λ a some. omega (arith, none, lacked_some size good e);
        all = λ s. cc;
      })
  uses_of o (shows_keep size long good e some q) =
      subst Uses (sym q)
      (record { within = lacked_within size e; moves = λ a some. lacked_some size good e; all = λ s. cc })

  kept : (o : Outcome) → o.keep ≡ keep → Keeps o
  kept o e = record { as_long = ap length e; behind = ap (drop 2050) e }

  keeps_of : (o : Outcome) → Ways reader keep piece o → Keeps o
  keeps_of o (refuses_short short q) = kept o (ap (λ (x : Outcome). x.keep) q)
  keeps_of o (refuses_state long closed q) = kept o (ap (λ (x : Outcome). x.keep) q)
  keeps_of o (refuses_length long good e q) = kept o (ap (λ (x : Outcome). x.keep) q)
  keeps_of o (goes_on long good e q) =
      let l : length (held ++ piece) ≤ 2050 = omega (arith, unfinished_bound (held ++ piece) e) in
      subst Keeps (sym q) (record { as_long = over_length (held ++ piece) keep 2050 l long; behind = over_behind (held ++ piece) keep 2050 l long })
  keeps_of o (shows_piece size long good e none q) = kept o (ap (λ (x : Outcome). x.keep) q)
  keeps_of o (shows_keep size long good e some q) =
      let w = long_of (held ++ piece) size e in
      let t = length-take-le size (held ++ piece) w.there in
      let l : length (take size (held ++ piece)) ≤ 2050 = omega (arith, t, (long_bounds (held ++ piece) size w).1) in
      subst Keeps (sym q)
      (record { as_long = over_length (take size (held ++ piece)) keep 2050 l long; behind = over_behind (take size (held ++ piece)) keep 2050 l long })

  pub uses : Uses (read_frame reader keep piece)
  uses = uses_of (read_frame reader keep piece) (ways reader keep piece)

  pub keeps : Keeps (read_frame reader keep piece)
  keeps = keeps_of (read_frame reader keep piece) (ways reader keep piece)

  -- a frame that is shown has 19 bytes at least, and they stand in the piece, or in the keep
  pub record Shows (o : Outcome) : Type 0 where
    pub in_the_piece : (size : ℕ) → o.read.shown ≡ Ok (InPiece size) → (19 ≤ size) × (size ≤ length piece)
    pub in_the_keep : (size : ℕ) → o.read.shown ≡ Ok (InKeep size) → (19 ≤ size) × (size ≤ length o.keep)

  shows_none : (o : Outcome) → ((size : ℕ) → o.read.shown ≡ Ok (InPiece size) → ⊥) → ((size : ℕ) → o.read.shown ≡ Ok (InKeep size) → ⊥) → Shows o
  shows_none o no_piece no_keep = record { in_the_piece = λ size s. absurd (no_piece size s); in_the_keep = λ size s. absurd (no_keep size s) }

  shows_of : (o : Outcome) → Ways reader keep piece o → Shows o
  shows_of o (refuses_short short q) = subst Shows (sym q) (shows_none _ (λ n s. cc) (λ n s. cc))
  shows_of o (refuses_state long closed q) = subst Shows (sym q) (shows_none _ (λ n s. cc) (λ n s. cc))
  shows_of o (refuses_length long good e q) = subst Shows (sym q) (shows_none _ (λ n s. cc) (λ n s. cc))
  shows_of o (goes_on long good e q) = subst Shows (sym q) (shows_none _ (λ n s. cc) (λ n s. cc))
  shows_of o (shows_piece size long good e none q) =
      let w = long_of (held ++ piece) size e in
      subst Shows (sym q)
      (record {
        in_the_piece = λ n s.
            let same : n ≡ size = cc in
            (omega (arith, same, (long_bounds (held ++ piece) size w).0), omega (arith, same, none, w.there, length-append held piece));
        in_the_keep = λ n s. cc;
      })
  shows_of o (shows_keep size long good e some q) =
      let w = long_of (held ++ piece) size e in
      let as_long = ap (λ (x : Outcome). length x.keep) (sym q) ∙ (keeps_of o (shows_keep size long good e some q)).as_long in
      subst Shows (sym q)
      (record {
        in_the_piece = λ n s. cc;
        in_the_keep = λ n s.
            let same : n ≡ size = cc in
            (omega (arith, same, (long_bounds (held ++ piece) size w).0), omega (arith, same, (long_bounds (held ++ piece) size w).1, as_long, long));
      })

  pub shown_within : Shows (read_frame reader keep piece)
  shown_within = shows_of (read_frame reader keep piece) (ways reader keep piece)
