-- Connected and waiting, by what has happened, in three small histories: two clients that asked for each other are connected, each under its own number, and do
-- not wait; one request is not enough; and a client's request for its own key does not stand. Assumes nothing.
use mathlib.Core.Path.{◌≡◌, refl, sym, subst, ◌∙◌}
use mathlib.Core.Bool.{Bool, true, false, cond, true≢false}
use mathlib.Core.List.{List, [], ◌∷◌}
use Prim.Native.Nat.{ℕ}
use native.Mathlib.Omega.{arith}
use Rattle.key.specs.Keys.{same_key}
use Rattle.key.proofs.Same.{same_sound}
use Rattle.rules.specs.Room.{base_sizes, Key}
use Rattle.rules.specs.Call.{Call, arrive, packet_call}
use Rattle.rules.specs.History.{happens}
use Rattle.rules.specs.Transcript.{Past, client_of, from_empty, sitter, stands}
use Rattle.rules.specs.After.{past_after}
use Rattle.after_calls.specs.GoesOn.{Connected, Waits}
use Rattle.rules.proofs.Computed.{ka, kb, kc, opened}

-- what has happened after calls from the empty room
unfoldable pub after : List Call → Past
after calls = past_after [] (happens base_sizes calls)

ask : ℕ → Key → Call
ask seat key = packet_call seat (0 ∷ key)

-- ---- KA's 16 and KB's 17 are for each other: KB asked for KC first

both_asked : List Call
both_asked = arrive ka ∷ arrive kb ∷ ask 0 kb ∷ ask 1 kc ∷ ask 1 ka ∷ []

both_connected : Connected (from_empty base_sizes) (after both_asked) 0 16 1 17
unfolding opened after both_asked ask
both_connected = record {
  key = ka;
  wanted = kb;
  apart = λ e. omega arith;
  here = record { sits = refl; asked = refl };
  there = record { sits = refl; asked = refl };
}

-- so KA's number does not wait
both_do_not_wait : Waits (from_empty base_sizes) (after both_asked) 0 16 → ⊥
both_do_not_wait w = w.alone 1 17 both_connected

-- ---- "The answer becomes 0 and no route is taken": KA asked for KA

own_asked : List Call
own_asked = arrive ka ∷ ask 0 ka ∷ []

-- so number 16 does not name KA
own_does_not_stand : stands (from_empty base_sizes) (after own_asked) ka 16 ka ≡ false
unfolding opened after own_asked ask
own_does_not_stand = refl

-- ---- KA asked for KB, and KB for nobody

one_asked : List Call
one_asked = arrive ka ∷ arrive kb ∷ ask 0 kb ∷ []

-- who sits in seat 0, and what it asked for under 16
ka_sits : sitter (from_empty base_sizes) (after one_asked) 0 ≡ client_of ka
unfolding opened after one_asked ask
ka_sits = refl

ka_asked : (wanted : Key) → stands (from_empty base_sizes) (after one_asked) ka 16 wanted ≡ true → kb ≡ wanted
unfolding opened after one_asked ask
ka_asked wanted e = same_sound kb wanted (itself_true (same_key kb wanted) e)
  where
    itself_true : (t : Bool) → cond t true false ≡ true → t ≡ true
    itself_true true q = refl
    itself_true false q = q

kb_asked_nobody : (number : ℕ) (wanted : Key) → stands (from_empty base_sizes) (after one_asked) kb number wanted ≡ false
unfolding opened after one_asked ask
kb_asked_nobody number wanted = refl

-- "The third wrong answer is that one request will do."
one_is_not_enough : (other number' : ℕ) → Connected (from_empty base_sizes) (after one_asked) 0 16 other number' → ⊥
one_is_not_enough other number' c =
    let k : ka ≡ c.key = (let a = c.here.sits in let b = ka_sits in cc) in
    let w : kb ≡ c.wanted = ka_asked c.wanted (subst (λ (x : Key). stands (from_empty base_sizes) (after one_asked) x 16 c.wanted ≡ true) (sym k) c.here.asked) in
    let back : stands (from_empty base_sizes) (after one_asked) kb number' c.key ≡ true =
    subst (λ (x : Key). stands (from_empty base_sizes) (after one_asked) x number' c.key ≡ true) (sym w) c.there.asked in
    true≢false (sym back ∙ kb_asked_nobody number' c.key)

one_waits : Waits (from_empty base_sizes) (after one_asked) 0 16
unfolding opened after one_asked ask
one_waits = record { key = ka; wanted = kb; here = record { sits = refl; asked = refl }; alone = one_is_not_enough }
