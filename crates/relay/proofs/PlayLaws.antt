-- Laws of a run of stored calls: what comes next, and a run as its first call and the rest. Assumes nothing.
use mathlib.Core.Path.{◌≡◌, refl, ap, ◌∙◌, subst}
use mathlib.Core.Bool.{Bool, true, false, false≢true, cond}
use mathlib.Core.List.{List, [], ◌∷◌}
use Prim.Native.Nat.{ℕ, zero, suc, ◌-◌, ◌≤◌, ◌<◌}
use native.Mathlib.Omega.{arith}
use lib.Dec.{eqb, leb}
use lib.ListN.{length, drop}
use borrow.Author.Tests.{le-leb, lt-leb, leb-true, eq-eqb, ne_eqb, eqb-false}
use Rattle.rules.specs.Room.{Sizes, Room}
use Rattle.rules.specs.Call.{Call, arrive, leave, packet_call, tick}
use Rattle.rules.specs.Outcome.{outcome, room_after}
use Rattle.rules.specs.History.{event}
use Rattle.stored.specs.Stored.{stored_bytes, First, none, call, first_call}
use Rattle.relay.specs.declared.play.Stop.{Stop}
use Rattle.relay.specs.declared.play.Stop.TheVariants.{End, NoCall, Allowance, Output}
use Rattle.relay.specs.Play.{Next, stops, plays, least_space, next_call, next, Run, go_on, run, entry_bytes, most_space}

-- ---- what comes next

-- the same is asked before every call
pub least_space_lem : (c : Call) → least_space c ≡ most_space
least_space_lem (arrive key) = refl
least_space_lem (leave seat) = refl
least_space_lem (packet_call seat bytes) = refl
least_space_lem (tick time number) = refl

pub space_within : (c : Call) → least_space c ≤ most_space
space_within c = let e = least_space_lem c in omega arith

module _ (allowance : ℕ) (stored : List ℕ) (space : ℕ) where
  pub next_end : length stored ≡ 0 → next allowance stored space ≡ stops End
  unfolding next
  next_end e = simp (eq-eqb (length stored) 0 e)

  module _ (more : length stored ≡ 0 → ⊥) where
    pub next_allowance : allowance ≡ 0 → next allowance stored space ≡ stops Allowance
    unfolding next
    next_allowance e = simp (ne_eqb (length stored) 0 more, eq-eqb allowance 0 e)

    module _ (allowed : allowance ≡ 0 → ⊥) where
      pub next_no_call : first_call stored ≡ none → next allowance stored space ≡ stops NoCall
      unfolding next next_call
      next_no_call e = simp (ne_eqb (length stored) 0 more, ne_eqb allowance 0 allowed, e)

      pub next_output : (c : Call) → first_call stored ≡ call c → space < least_space c → next allowance stored space ≡ stops Output
      unfolding next next_call
      next_output c e h = simp (ne_eqb (length stored) 0 more, ne_eqb allowance 0 allowed, e, lt-leb (least_space c) space h)

      pub next_plays : (c : Call) → first_call stored ≡ call c → least_space c ≤ space → next allowance stored space ≡ plays c
      unfolding next next_call
      next_plays c e h = simp (ne_eqb (length stored) 0 more, ne_eqb allowance 0 allowed, e, le-leb (least_space c) space h)

-- what a call that comes next says
pub record Comes (allowance : ℕ) (stored : List ℕ) (space : ℕ) (c : Call) : Type 0 where
  pub allowed : allowance ≡ 0 → ⊥
  pub first : first_call stored ≡ call c
  pub room : least_space c ≤ space

pub next_is : (allowance : ℕ) (stored : List ℕ) (space : ℕ) (c : Call) → next allowance stored space ≡ plays c → Comes allowance stored space c
unfolding next next_call
next_is allowance stored space c e = at_end (eqb (length stored) 0) e
  where
    with_call : (f : First) → first_call stored ≡ f → (allowance ≡ 0 → ⊥) → next_call f space ≡ plays c → Comes allowance stored space c
    with_call none q a e = let z : stops NoCall ≡ plays c = e in absurd (false≢true (cc))
    with_call (call d) q a e = with_space (leb (least_space d) space) refl e
      where
        with_space : (t : Bool) → leb (least_space d) space ≡ t → cond t (plays d) (stops Output) ≡ plays c → Comes allowance stored space c
        with_space true l e = let same : d ≡ c = cc in record {
          allowed = a;
          first = q ∙ ap call same;
          room = subst (λ (x : Call). least_space x ≤ space) same (leb-true (least_space d) space l);
        }
        with_space false l e = let z : stops Output ≡ plays c = e in absurd (false≢true (cc))

    at_allowance : (t : Bool) → eqb allowance 0 ≡ t → cond t (stops Allowance) (next_call (first_call stored) space) ≡ plays c → Comes allowance stored space c
    at_allowance false q e = with_call (first_call stored) refl (eqb-false allowance 0 q) e
    at_allowance true q e = let z : stops Allowance ≡ plays c = e in absurd (false≢true (cc))

    at_end : (t : Bool) → cond t (stops End) (cond (eqb allowance 0) (stops Allowance) (next_call (first_call stored) space)) ≡ plays c
        → Comes allowance stored space c
    at_end false e = at_allowance (eqb allowance 0) refl e
    at_end true e = let z : stops End ≡ plays c = e in absurd (false≢true (cc))

-- ---- a run

-- a run of no call
abbrev pub ended : Stop → Run
ended why = record { calls = []; why = why }

-- a call, and then a run
abbrev pub first_then : Call → Run → Run
first_then c r = record { calls = c ∷ r.calls; why = r.why }

module _ (sizes : Sizes) (room : Room) (stored : List ℕ) (space : ℕ) where
  -- the rest of a run, behind a call
  abbrev pub rest_of : ℕ → Call → Run
  rest_of more c = run sizes more (room_after sizes room (outcome room c)) (drop (length (stored_bytes c)) stored) (space - length (entry_bytes (event room c)))

  pub run_stops : (allowance : ℕ) (why : Stop) → next allowance stored space ≡ stops why → run sizes allowance room stored space ≡ ended why
  unfolding run go_on next
  run_stops zero why e = go (eqb (length stored) 0) e
    where
      go : (t : Bool) → cond t (stops End) (stops Allowance) ≡ stops why → record { calls = []; why = cond t End Allowance } ≡ ended why
      go true e = let q : End ≡ why = cc in ap ended q
      go false e = let q : Allowance ≡ why = cc in ap ended q
  run_stops (suc more) why e = ap (λ (x : Next). go_on x (rest_of more)) e

  pub run_plays : (allowance : ℕ) (c : Call) → next allowance stored space ≡ plays c
      → run sizes allowance room stored space ≡ first_then c (rest_of (allowance - 1) c)
  unfolding run go_on
  run_plays zero c e = absurd ((next_is 0 stored space c e).allowed refl)
  run_plays (suc more) c e =
      let one_less : more ≡ suc more - 1 = omega arith in
      ap (λ (x : Next). go_on x (rest_of more)) e ∙ ap (λ (k : ℕ). first_then c (rest_of k c)) one_less
