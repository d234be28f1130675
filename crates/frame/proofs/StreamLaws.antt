-- Laws of a stream parted into its frames: one frame at a time, and with bytes behind. Assumes nothing.
use mathlib.Core.Path.{◌≡◌, ◌∙◌, refl, sym, ap, ap₂, subst}
use mathlib.Core.List.{List, [], ◌∷◌, ◌++◌, append_assoc}
use Prim.Native.Nat.{ℕ, zero, suc, ◌+◌, ◌-◌, ◌≤◌}
use native.Mathlib.Omega.{arith}
use lib.ListN.{length, take, drop, length-drop, take-append-drop}
use lib.Seq.{take-length, drop-length, take-append-le, drop-append-le, take-append-add, length-take-le}
use Rattle.frame.specs.declared.Front.{Front}
use Rattle.frame.specs.declared.Front.TheVariants.{Unfinished, BadLength, Whole}
use Rattle.frame.specs.Frames.{front, unfinished, bad, Parted, parted, before, parted_at, parted_by, frames_of, concatenated, AllWhole}
use Rattle.frame.proofs.FrontLaws.{long_of, long_bounds, front_few, whole_behind, whole_alone}

-- bytes, and of those behind them as many as they lack of a count
pub lacking : (a b : List ℕ) (size : ℕ) → length a ≤ size → a ++ take (size - length a) b ≡ take size (a ++ b)
lacking a b size h =
    sym (ap (λ (n : ℕ). take n (a ++ b)) (let q : size ≡ length a + (size - length a) = omega (arith, h) in q) ∙ take-append-add a b (size - length a))

-- the bytes behind a first frame are fewer
fewer : (bytes : List ℕ) (size n : ℕ) → front bytes ≡ Whole size → length bytes ≤ suc n → length (drop size bytes) ≤ n
fewer bytes size n e h = omega (arith, length-drop size bytes, (long_bounds bytes size (long_of bytes size e)).0, h)

-- so many frames as bytes are enough
enough : (m n : ℕ) (bytes : List ℕ) → length bytes ≤ m → length bytes ≤ n → parted_by m bytes ≡ parted_by n bytes
unfolding parted_by
enough zero zero bytes h k = refl
enough zero (suc n) bytes h k = sym (ap (λ (f : Front). parted_at f bytes (parted_by n)) (front_few bytes (omega (arith, h))))
enough (suc m) zero bytes h k = ap (λ (f : Front). parted_at f bytes (parted_by m)) (front_few bytes (omega (arith, k)))
enough (suc m) (suc n) bytes h k = go (front bytes) refl (λ size e. enough m n (drop size bytes) (fewer bytes size m e h) (fewer bytes size n e k))
  where
    go : (f : Front) → front bytes ≡ f → ((size : ℕ) → front bytes ≡ Whole size → parted_by m (drop size bytes) ≡ parted_by n (drop size bytes))
        → parted_at (front bytes) bytes (parted_by m) ≡ parted_at (front bytes) bytes (parted_by n)
    go Unfinished e later = rw e
    go BadLength e later = rw e
    go (Whole size) e later = rw e (ap (before (take size bytes)) (later size e))

-- ---- a stream by what stands at its front

module _ (bytes : List ℕ) where
  first : (n : ℕ) → length bytes ≡ n → (f : Front) → front bytes ≡ f → frames_of bytes ≡ parted_at f bytes frames_of
  unfolding frames_of parted_by
  first zero l f e =
      let few : front bytes ≡ Unfinished = front_few bytes (omega arith) in rw l (ap (λ (f : Front). parted_at f bytes frames_of) (sym few ∙ e))
  first (suc n) l Unfinished e = rw (l, e)
  first (suc n) l BadLength e = rw (l, e)
  first (suc n) l (Whole size) e =
      rw (l, e) (ap (before (take size bytes)) (enough n (length (drop size bytes)) (drop size bytes) (fewer bytes size n e (omega (arith, l))) (omega arith)))

  pub frames_at : (f : Front) → front bytes ≡ f → frames_of bytes ≡ parted_at f bytes frames_of
  frames_at f e = first (length bytes) refl f e

-- a frame alone
pub frame_alone : (bytes : List ℕ) → front bytes ≡ Whole (length bytes) → frames_of bytes ≡ parted (bytes ∷ []) (unfinished [])
frame_alone bytes e =
    frames_at bytes (Whole (length bytes)) e
    ∙ ap₂ (λ (a : List ℕ) (b : List ℕ). before a (frames_of b)) (take-length bytes) (drop-length bytes)
    ∙ ap (before bytes) (frames_at [] Unfinished (front_few [] (omega arith)))

-- ---- with bytes behind

-- frames before those of what is parted
abbrev pub behind : List (List ℕ) → Parted → Parted
behind frames later = parted (frames ++ later.frames) later.rest

not_bad : {h : List ℕ} → bad ≡ unfinished h → ⊥
not_bad e = absurd (cc)

-- what holds of a stream that has no frame, and of one with a first frame where it holds of the bytes behind that, holds of every stream
module _ (P : List ℕ → Type 0) (none : (a : List ℕ) → front a ≡ Unfinished → P a) (wrong : (a : List ℕ) → front a ≡ BadLength → P a)
    (one : (a : List ℕ) (size : ℕ) → front a ≡ Whole size → P (drop size a) → P a) where
  by_front : (a : List ℕ) → ((size : ℕ) → front a ≡ Whole size → P (drop size a)) → (f : Front) → front a ≡ f → P a
  by_front a later Unfinished e = none a e
  by_front a later BadLength e = wrong a e
  by_front a later (Whole size) e = one a size e (later size e)

  up_to : (n : ℕ) (a : List ℕ) → length a ≤ n → P a
  up_to zero a l = none a (front_few a (omega (arith, l)))
  up_to (suc n) a l = by_front a (λ size e. up_to n (drop size a) (fewer a size n e l)) (front a) refl

  by_frames : (a : List ℕ) → P a
  by_frames a = up_to (length a) a (omega arith)

-- and so of one that ends with these bytes unfinished, where it holds of the bytes by themselves, and of a first frame before what it holds of
module _ (held : List ℕ) (P : List ℕ → Type 0) (alone : front held ≡ Unfinished → P held)
    (one : (a : List ℕ) (size : ℕ) → front a ≡ Whole size → frames_of a ≡ before (take size a) (frames_of (drop size a)) → P (drop size a) → P a) where
  by_held : (a : List ℕ) → (frames_of a).rest ≡ unfinished held → P a
  by_held =
      by_frames (λ a. (frames_of a).rest ≡ unfinished held → P a)
      (λ a e r.
      let q : unfinished a ≡ unfinished held = ap (λ (p : Parted). p.rest) (sym (frames_at a Unfinished e)) ∙ r in
      let same : held ≡ a = cc in subst P same (alone (ap front same ∙ e)))
      (λ a e r. absurd (not_bad (ap (λ (p : Parted). p.rest) (sym (frames_at a BadLength e)) ∙ r)))
      (λ a size e later r. let first = frames_at a (Whole size) e in one a size e first (later (ap (λ (p : Parted). p.rest) (sym first) ∙ r)))

-- what is unfinished at the end of a stream stands so at its own front
pub unfinished_front : (held a : List ℕ) → (frames_of a).rest ≡ unfinished held → front held ≡ Unfinished
unfinished_front held = by_held held (λ a. front held ≡ Unfinished) (λ e. e) (λ a size e first later. later)

-- with bytes behind, the frames stay, and what was unfinished goes on
pub frames_behind : (b held a : List ℕ) → (frames_of a).rest ≡ unfinished held → frames_of (a ++ b) ≡ behind (frames_of a).frames (frames_of (held ++ b))
frames_behind b held =
    by_held held (λ a. frames_of (a ++ b) ≡ behind (frames_of a).frames (frames_of (held ++ b)))
    (λ e. sym (ap (λ (p : Parted). behind p.frames (frames_of (held ++ b))) (frames_at held Unfinished e)))
    (λ a size e first later.
    let w = long_of a size e in
    frames_at (a ++ b) (Whole size) (whole_behind a b size e)
    ∙ ap₂ (λ (x y : List ℕ). before x (frames_of y)) (take-append-le size a b w.there) (drop-append-le size a b w.there)
    ∙ ap (before (take size a)) later
    ∙ sym (ap (λ (p : Parted). behind p.frames (frames_of (held ++ b))) first))

-- ---- nothing is lost, and nothing else is a frame

-- the frames and what is unfinished, one behind the other, are the stream
pub frames_joined : (held a : List ℕ) → (frames_of a).rest ≡ unfinished held → concatenated (frames_of a).frames ++ held ≡ a
unfolding concatenated
frames_joined held =
    by_held held (λ a. concatenated (frames_of a).frames ++ held ≡ a)
    (λ e. ap (λ (p : Parted). concatenated p.frames ++ held) (frames_at held Unfinished e))
    (λ a size e first later.
    ap (λ (p : Parted). concatenated p.frames ++ held) first
    ∙ append_assoc (take size a) (concatenated (frames_of (drop size a)).frames) held
    ∙ ap (λ (l : List ℕ). take size a ++ l) later
    ∙ take-append-drop size a)

pub frames_whole : (a : List ℕ) → AllWhole (frames_of a).frames
frames_whole =
    by_frames (λ a. AllWhole (frames_of a).frames)
    (λ a e. subst (λ (p : Parted). AllWhole p.frames) (sym (frames_at a Unfinished e)) tt)
    (λ a e. subst (λ (p : Parted). AllWhole p.frames) (sym (frames_at a BadLength e)) tt)
    (λ a size e later.
    let l = length-take-le size a (long_of a size e).there in
    subst (λ (p : Parted). AllWhole p.frames) (sym (frames_at a (Whole size) e)) (whole_alone a size e ∙ ap Whole (sym l), later))
