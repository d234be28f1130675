-- In a whole room with a past that says what its tables say: each record of an arrival, or of a Leave, goes to a seat in which one client sits before the call
-- and still after it, though an arrival of a seated key empties one seat and takes another. Assumes nothing.
use mathlib.Core.Path.{◌≡◌, refl, sym, ap, subst, ◌∙◌}
use mathlib.Core.Bool.{Bool, true, false, cond, ◌&&◌}
use mathlib.Core.List.{[], ◌∷◌}
use mathlib.Core.Logic.{◌≢◌, ◌⊎◌, inl, inr}
use Prim.Native.Nat.{ℕ}
use borrow.Author.Tests.{ne_eqb}
use Rattle.key.specs.Keys.{same_key}
use Rattle.key.proofs.Same.{same_sound}
use Rattle.rules.specs.Room.{Sizes, Key, Room, first_number}
use Rattle.rules.specs.Whole.{Whole}
use Rattle.rules.specs.Call.{arrive, leave}
use Rattle.rules.specs.History.{Event}
use Rattle.rules.specs.Transcript.{Past, Maker, nobody, client_of, is_client, Start, is_accepted, sits_after_arrival, sits_after, sitter}
use Rattle.rules.specs.After.{Tied}
use Rattle.after_calls.specs.Told.{LeaveTells}
use Rattle.after_calls.specs.Given.{ArriveAnswered, full, takes, returns}
use Rattle.after_calls.specs.Handed.{SameSitter, EachSent}
use Rattle.after_calls.proofs.OneSeat.{one_seat}
use Rattle.after_calls.proofs.TickHanded.{each_map, turn_seated}

module _ (sizes : Sizes) (start : Start) (past : Past) where
  -- what the client in `seat` tells when it leaves, where all who sit in other seats before the call sit there after it: each record goes to one of these
  told_kept : (e : Event) (seat : ℕ) → LeaveTells sizes start past seat e.sent
      → ((i : ℕ) (k : Key) → seat ≢ i → sitter start past i ≡ client_of k → sitter start (e ∷ past) i ≡ client_of k) → EachSent (SameSitter start past (e ∷ past)) e.sent
  told_kept e seat tells stays =
      each_map (SameSitter start (e ∷ past) past) (SameSitter start past (e ∷ past)) (λ s h. record { key = h.key; written = h.before; before = h.written }) e.sent
      (turn_seated start (e ∷ past) past seat stays first_number sizes.numbers e.sent tells.in_turn)

  pub leave_handed : (seat : ℕ) (e : Event) → e.call ≡ leave seat → LeaveTells sizes start past seat e.sent → EachSent (SameSitter start past (e ∷ past)) e.sent
  leave_handed seat e c tells = told_kept e seat tells stays
    where
      none_left : (t : Bool) (m : Maker) → cond (t && false) nobody m ≡ m
      none_left true m = refl
      none_left false m = refl

      stays : (i : ℕ) (k : Key) → seat ≢ i → sitter start past i ≡ client_of k → sitter start (e ∷ past) i ≡ client_of k
      stays i k apart h = unfold sitter sits_after in rw (c, ne_eqb seat i apart) (none_left (is_accepted e.answer) (sitter start past i) ∙ h)

  module _ (room : Room) (whole : Whole sizes room) (tie : Tied start past room) (key : Key) (e : Event) (c : e.call ≡ arrive key) where
    none_sent : e.sent ≡ [] → EachSent (SameSitter start past (e ∷ past)) e.sent
    none_sent s = subst (EachSent (SameSitter start past (e ∷ past))) (sym s) (unfold EachSent in tt)

    pub arrive_handed : ArriveAnswered sizes start past key e → EachSent (SameSitter start past (e ∷ past)) e.sent
    arrive_handed (full nowhere taken a s) = none_sent s
    arrive_handed (takes seat nowhere within empty lower a s) = none_sent s
    arrive_handed (returns old seat sits within lowest lower a tells) = told_kept e old tells stays
      where
        -- the seat that is taken was its own, or empty
        not_taken : (i : ℕ) (k : Key) → old ≢ i → sitter start past i ≡ client_of k → (seat ≡ old) ⊎ (sitter start past seat ≡ nobody) → seat ≢ i
        not_taken i k apart h (inl own) q = apart (sym own ∙ q)
        not_taken i k apart h (inr empty) q = let same : nobody ≡ client_of k = sym empty ∙ ap (sitter start past) q ∙ h in absurd (cc)

        -- a key sits in one seat
        not_key : (i : ℕ) (k : Key) → old ≢ i → sitter start past i ≡ client_of k → (t : Bool) → same_key k key ≡ t → same_key k key ≡ false
        not_key i k apart h true q = absurd (apart (one_seat sizes start past room whole tie key old i sits (h ∙ ap client_of (same_sound k key q))))
        not_key i k apart h false q = q

        stays : (i : ℕ) (k : Key) → old ≢ i → sitter start past i ≡ client_of k → sitter start (e ∷ past) i ≡ client_of k
        stays i k apart h =
            unfold sitter sits_after sits_after_arrival is_client in
            rw (c, a, h, ne_eqb seat i (not_taken i k apart h lowest), not_key i k apart h (same_key k key) refl)
