-- One turn of a run: the stored calls and the output from where the last turn ended, lent and back. A turn that stops ends the run; after one that
-- played a call the rest is to be played. Assumes nothing.
use mathlib.Core.Path.{◌≡◌, sym, ap, ap₂, subst, ◌∙◌}
use mathlib.Core.Bool.{true}
use mathlib.Core.List.{List, ◌++◌}
use Prim.Native.Nat.{ℕ, ◌+◌, ◌-◌, ◌≤◌}
use native.Mathlib.Nat.{sub-zero}
use native.Mathlib.Omega.{arith}
use lib.ListN.{length, take, drop, take-append-drop}
use lib.Seq.{drop-drop}
use Rattle.std.proofs.Common.{Result, Ok, Err}
use Rattle.rules.specs.Outcome.{outcome}
use Rattle.rules.specs.Room.{sizes_of}
use Rattle.room_laws.specs.View.{view_room}
use Rattle.room_laws.specs.Whole.{room_whole}
use Rattle.room_laws.specs.Store.{store_all}
use Rattle.stored.specs.Stored.{stored_bytes}
use Rattle.stored.proofs.StoredLaws.{first_within}
use Rattle.relay.specs.declared.play.Played.{Played}
use Rattle.relay.specs.declared.play.Run as answer
use Rattle.relay.specs.declared.play.Stop.{Stop}
use Rattle.records.specs.Output.{appended}
use Rattle.relay.specs.Play.{Next, stops, plays, next, Run, run}
use Rattle.relay.specs.PlaySteps.{Takes, stopped, played}
use Rattle.relay.proofs.PlayLaws.{ended, run_stops, next_is}
use Rattle.relay.proofs.LentParts.{from, from_is, length_from, back, back_is}
use Rattle.relay.proofs.RunCases.{told, Rests, left, rests_stopped, stepped_whole, stepped_length, rests_first}

-- a call that was played
abbrev pub step : ℕ → ℕ → Played
step read written = record { read = read; written = written }

abbrev pub took : ℕ → ℕ → Result Played Stop
took read written = Ok (step read written)

back_same : (at : ℕ) (l : List ℕ) → back at l (from at l) ≡ l
back_same at l = back_is at l (from at l) ∙ ap (λ (x : List ℕ). take at l ++ x) (from_is at l) ∙ take-append-drop at l

back_appended : (at : ℕ) (l new entry : List ℕ) → new ≡ entry ++ drop (length entry) (from at l) → back at l new ≡ appended l at entry
back_appended at l new entry e =
    back_is at l new ∙ ap (λ (x : List ℕ). take at l ++ x) e
    ∙ ap (λ (x : List ℕ). take at l ++ (entry ++ drop (length entry) x)) (from_is at l)
    ∙ ap (λ (x : List ℕ). take at l ++ (entry ++ x)) (drop-drop (length entry) at l)

module _ (s n allowance : ℕ) (stored : List ℕ) (calls bytes at : ℕ) (b out : List ℕ) (whole : room_whole s n b ≡ true)
    (few : calls ≤ allowance) (within : bytes ≤ length stored) (room : at ≤ length out) where
  -- what is left at the turn's beginning
  abbrev pub here : Run
  here = left s n (allowance - calls) (drop bytes stored) b out at

  -- the test of what comes next, of the lent parts
  next_here : (x : Next) → next (allowance - calls) (from bytes stored) (length (from at out)) ≡ x → next (allowance - calls) (drop bytes stored) (length out - at) ≡ x
  next_here x e = ap₂ (λ (l : List ℕ) (m : ℕ). next (allowance - calls) l m) (sym (from_is bytes stored)) (sym (length_from at out)) ∙ e

  -- a turn that stops
  pub turn_last : (given : Result Played Stop) (why : Stop) (b₁ new : List ℕ) → Takes s n (allowance - calls) (from bytes stored) b (from at out) given b₁ new
      → given ≡ Err why → Rests s n calls bytes at here b out (told why calls bytes at) b₁ (back at out new)
  turn_last given why b₁ new (stopped w e g p q) h =
      let same : w ≡ why = cc in
      let r : here ≡ ended why = run_stops (sizes_of s n) (view_room s n b) (drop bytes stored) (length out - at) (allowance - calls) why (next_here (stops why) (e ∙ ap stops same)) in
      let o : back at out new ≡ out = ap (back at out) q ∙ back_same at out in
      subst (λ (x : Run). Rests s n calls bytes at x b out (told why calls bytes at) b₁ (back at out new)) (sym r)
      (subst (λ (x : List ℕ). Rests s n calls bytes at (ended why) b out (told why calls bytes at) x (back at out new)) (sym p)
      (subst (λ (x : List ℕ). Rests s n calls bytes at (ended why) b out (told why calls bytes at) b x) (sym o)
      (rests_stopped s n calls bytes at why b out)))
  turn_last given why b₁ new (played c entry is e g p f q) h =
      absurd (cc)

  -- a turn that played a call of `size` bytes and wrote `more`
  pub record More (size more : ℕ) (b₁ new : List ℕ) : Type 0 where
    pub allowed : calls + 1 ≤ allowance
    pub read : bytes + size ≤ length stored
    pub wrote : at + more ≤ length out
    pub long : length (back at out new) ≡ length out
    pub still : room_whole s n b₁ ≡ true
    pub goes_on : (given : answer.Run) (b' out' : List ℕ)
        → Rests s n (calls + 1) (bytes + size) (at + more) (left s n (allowance - (calls + 1)) (drop (bytes + size) stored) b₁ (back at out new) (at + more)) b₁ (back at out new) given b' out'
        → Rests s n calls bytes at here b out given b' out'

  pub turn_more : (given : Result Played Stop) (size more : ℕ) (b₁ new : List ℕ) → Takes s n (allowance - calls) (from bytes stored) b (from at out) given b₁ new
      → given ≡ Ok (step size more) → More size more b₁ new
  turn_more given size more b₁ new (stopped w e g p q) h =
      absurd (cc)
  turn_more given size more b₁ new (played c entry is e g p f q) h =
      let answers : ◌≡◌ {A = Result Played Stop} (Ok (step (length (stored_bytes c)) (length entry))) (Ok (step size more)) = sym g ∙ h in
      let same : ◌≡◌ {A = Played} (step (length (stored_bytes c)) (length entry)) (step size more) = cc in
      let takes : length (stored_bytes c) ≡ size = ap (λ (p : Played). p.read) same in
      let writes : length entry ≡ more = ap (λ (p : Played). p.written) same in
      let comes = next_here (plays c) e in
      let i = next_is (allowance - calls) (from bytes stored) (length (from at out)) c e in
      let w = first_within (from bytes stored) c i.first in
      let lf = length_from bytes stored in
      let lo = length_from at out in
      let fits : at + length entry ≤ length out = omega arith in
      let o = back_appended at out new entry q in
      let one_less : allowance - calls - 1 ≡ allowance - (calls + 1) = omega arith in
      let dropped : drop (length (stored_bytes c)) (drop bytes stored) ≡ drop (bytes + length (stored_bytes c)) stored = drop-drop (length (stored_bytes c)) bytes stored in
      let stepped = store_all s n b (outcome (view_room s n b) c).changes in
      let go : (given : answer.Run) (b' out' : List ℕ)
      → Rests s n (calls + 1) (bytes + length (stored_bytes c)) (at + length entry)
      (left s n (allowance - (calls + 1)) (drop (bytes + length (stored_bytes c)) stored) stepped (appended out at entry) (at + length entry)) stepped (appended out at entry) given b' out'
      → Rests s n calls bytes at here b out given b' out' = λ given b' out' r.
      rests_first s n (allowance - calls) (drop bytes stored) b out calls bytes at c whole room comes entry is fits given b' out'
      (subst (λ (x : Run). Rests s n (calls + 1) (bytes + length (stored_bytes c)) (at + length entry) x stepped (appended out at entry) given b' out')
      (sym (ap₂ (λ (m : ℕ) (l : List ℕ). left s n m l stepped (appended out at entry) (at + length entry)) one_less dropped)) r) in
      record {
        allowed = omega (arith, i.allowed);
        read = omega arith;
        wrote = omega arith;
        long = ap length o ∙ stepped_length s n (allowance - calls) (drop bytes stored) b out calls bytes at c whole room comes entry is fits;
        still = ap (room_whole s n) p ∙ stepped_whole s n (allowance - calls) (drop bytes stored) b out calls bytes at c whole room comes entry is fits;
        goes_on = rw (← takes, ← writes, p, o) go;
      }

-- ---- all turns

-- what is left to play leads to what the whole run comes to
abbrev pub Leads : ℕ → ℕ → ℕ → List ℕ → List ℕ → List ℕ → List ℕ → List ℕ → ℕ → ℕ → ℕ → Type 0
Leads s n allowance stored b₀ out₀ b out calls bytes at =
    (given : answer.Run) (b' out' : List ℕ)
    → Rests s n calls bytes at (left s n (allowance - calls) (drop bytes stored) b out at) b out given b' out'
    → Rests s n 0 0 0 (run (sizes_of s n) allowance (view_room s n b₀) stored (length out₀)) b₀ out₀ given b' out'

pub leads_begun : (s n allowance : ℕ) (stored b out : List ℕ) → Leads s n allowance stored b out b out 0 0 0
leads_begun s n allowance stored b out given b' out' r =
    subst (λ (x : Run). Rests s n 0 0 0 x b out given b' out')
    (ap₂ (λ (m : ℕ) (l : ℕ). run (sizes_of s n) m (view_room s n b) stored l) (sub-zero allowance) (sub-zero (length out))) r
