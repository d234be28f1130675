-- Demand 2 of nearest lists, as the host keeps them: from what `banavoge_nearest_begin` leaves of any memory, what is seen of offers, removals and held nodes read
-- is document 01's steps from the empty list, number by number and node by node (`list_steps`); no call on such a list gets 12 or 14 (`never_broken`); and with
-- nothing removed, what is read back is the k nearest of the nodes offered without refusal (`list_holds_nearest`). Assumes nothing.
use mathlib.Core.Path.{◌≡◌, refl, sym, ap, ap₂, subst, ◌∙◌}
use mathlib.Core.Bool.{Bool, true, false, cond}
use mathlib.Core.List.{List, [], ◌∷◌, ◌++◌}
use mathlib.Core.Logic.{inl, inr}
use Prim.Native.Nat.{ℕ, ◌≤◌, ◌<◌}
use native.Mathlib.Omega.{arith}
use lib.Dec.{leb}
use lib.IntN.{ℤ, pos, negsuc}
use lib.ListN.{length, get_or}
use borrow.Author.Tests.{le-leb, lt-leb, leb-true}
use Rattle.std.proofs.Common.{Option, Some, None, Result, Ok, Err}
use Rattle.refusal.specs.declared.Refusal.{Refusal}
use Rattle.refusal.specs.declared.Refusal.TheVariants.{ListSize, KeyNotHeld, ListNotWhole, UnknownFamily}
use Rattle.key.specs.declared.Key.{Key}
use Rattle.key.specs.Keys.{IsKey}
use Rattle.node.specs.declared.Node.{Node}
use Rattle.node.specs.Families.{known_family}
use Rattle.node.specs.Values.{blank_node}
use Rattle.nearest.specs.declared.NearestList.{NearestList}
use Rattle.nearest.specs.declared.Answered.{Answered}
use Rattle.nearest.specs.Lists.{held, holding, empty_of, size_right}
use Rattle.nearest.specs.Effect.{holds, without, kept}
use Rattle.nearest.specs.Calls.{begun, checked, effect_on, not_offered, taken, offered_after, offered, removed_after, removed}
use Rattle.nearest.specs.Sequence.{offers, refused_offer, accepted, Nearest, Keyed, Reached}
use Rattle.nearest.specs.Sequence as reached
use Rattle.nearest.proofs.Judge.{size_bounds, bounds_size, whole}
use Rattle.nearest.proofs.Holding.{held_length}
use Rattle.nearest.proofs.ListOf.{begun_bad}
use Rattle.nearest.proofs.KNearest.{offers_hold_nearest}
use Rattle.nearest.proofs.Kept.{reached_whole}
use Rattle.lent_list_laws.specs.Layout.{list_at, stored, Storable}
use Rattle.lent_list_laws.specs.Calls.{begun_answer, Begins, offer_answered, remove_answered}
use Rattle.lent_list.specs.Held.{held_at}
use Rattle.lent_list.specs.Held as lent
use Rattle.lent_list_laws.proofs.RoundTrips.{remove_refused_same}
use Rattle.lent_list_laws.proofs.AfterCalls.{begin_storable, offer_storable, remove_storable, stored_read, length_stored}
use Rattle.banavoge_laws.specs.Answers.{refusal_code}
use Rattle.banavoge_laws.specs.Nodes.{node_given}
use Rattle.banavoge_laws.specs.Nearest.{done_code, kept_code, held_code, HeldPlaces, held_places_of}
use Rattle.banavoge_laws.specs.Nearest as told
use Rattle.histories.specs.ListHistory.{ListCall, offering, removing, reading, ListEvent, list_event, no_held, ListStep, ListChain, none, next, ListBegun, of_size, of_bad_size, ListHistory, list_calls, list_after, event_of, list_events, list_after_all, ListSteps, NeverBroken, TakesNothingOut, NothingRemoved, offered_by, offered_in, ReadsBack, HoldsNearest}
use Rattle.histories.specs.ListHistory as list
use Rattle.histories.proofs.Answered.{below_zero, below_not}

-- ---- numbers

-- a number that is neither minus 12 nor minus 14
abbrev Unbroken : ℤ → Type 0
Unbroken z = (z ≡ refusal_code ListSize → ⊥) × (z ≡ refusal_code ListNotWhole → ⊥)

above_unbroken : (n : ℕ) → Unbroken (pos n)
above_unbroken n = (λ e. below_not ListSize n (sym e), λ e. below_not ListNotWhole n (sym e))

less_than : ℤ → ℕ
less_than (pos n) = 0
less_than (negsuc n) = n

family_unbroken : Unbroken (refusal_code UnknownFamily)
unfolding refusal_code less_than
family_unbroken = (λ e. let q : ◌≡◌ {A = ℕ} 14 11 = ap less_than e in omega arith, λ e. let q : ◌≡◌ {A = ℕ} 14 13 = ap less_than e in omega arith)

not_held_unbroken : Unbroken (refusal_code KeyNotHeld)
unfolding refusal_code less_than
not_held_unbroken = (λ e. let q : ◌≡◌ {A = ℕ} 12 11 = ap less_than e in omega arith, λ e. let q : ◌≡◌ {A = ℕ} 12 13 = ap less_than e in omega arith)

-- ---- the list in the memory

record HoldsList (target : Key) (size : ℕ) (m : List ℕ) (l : NearestList) : Type 0 where
  long : 850 ≤ length m
  is : list_at m ≡ l
  storable : Storable l
  reached : Reached target size l

-- what is stored in such memory stands there
stored_holds : {target : Key} {size : ℕ} (m m' : List ℕ) (l : NearestList) → 850 ≤ length m → Storable l → Reached target size l → m' ≡ stored l m
    → HoldsList target size m' l
stored_holds m m' l h s r e =
    let k = length_stored m h l s in
    record {
      long = let q = ap length e in omega arith;
      is = ap list_at e ∙ stored_read m h l s;
      storable = s;
      reached = r;
    }

-- ---- the beginning

record Sized (target : Key) (size : ℕ) (m : List ℕ) : Type 0 where
  least : 1 ≤ size
  most : size ≤ 16
  key : IsKey target.0
  stands : HoldsList target size m (begun target size).list

-- the answer to a beginning, by whether the size is right and the memory long enough
sized_long : (t u : Bool) → ◌≡◌ {A = Result (Unit {0}) Refusal} (Ok tt) (cond t (cond u (Ok tt) (Err ListNotWhole)) (Err ListSize)) → (t ≡ true) × (u ≡ true)
sized_long true true e = (refl, refl)
sized_long true false e = absurd (cc)
sized_long false u e = absurd (cc)

module _ (target : Key) (size : ℕ) where
  pub begun_answer_lem : (memory : List ℕ)
      → begun_answer (begun target size).answer memory ≡ cond (size_right size) (cond (leb 850 (length memory)) (Ok tt) (Err ListNotWhole)) (Err ListSize)
  unfolding begun begun_answer
  begun_answer_lem memory = go (size_right size)
    where
      go : (t : Bool)
          → begun_answer (cond {A = Answered (Unit {0})} t (record { list = empty_of target size; answer = Ok tt }) (record { list = empty_of target 8; answer = Err ListSize })).answer memory
          ≡ cond t (cond (leb 850 (length memory)) (Ok tt) (Err ListNotWhole)) (Err ListSize)
      go true = refl
      go false = refl

  pub begun_list : size_right size ≡ true → (begun target size).list ≡ empty_of target size
  unfolding begun
  begun_list e = simp e

-- of the size asked for
asked_begins : (target : Key) (size : ℕ) (memory m : List ℕ) (a : Result (Unit {0}) Refusal) → Begins target size memory m a → pos 0 ≡ done_code a → Sized target size m
unfolding done_code
asked_begins target size memory m (Err why) b z = absurd (below_not why 0 (sym z))
asked_begins target size memory m (Ok done) b z =
    let w = sized_long (size_right size) (leb 850 (length memory)) (b.answers ∙ begun_answer_lem target size memory) in
    let s = size_bounds size w.0 in
    record {
      least = s.0;
      most = s.1;
      key = b.key;
      stands = stored_holds memory m (begun target size).list (leb-true 850 (length memory) w.1) (begin_storable target size b.key) reached.begins b.leaves;
    }

-- of size 8, where a bad size was asked for
bad_begins : (target : Key) (size : ℕ) (memory m : List ℕ) (a : Result (Unit {0}) Refusal) → 850 ≤ length memory → Begins target size memory m a → refusal_code ListSize ≡ done_code a
    → Sized target 8 m
bad_begins target size memory m a h b z = go (size_right size) refl
  where
    go : (t : Bool) → size_right size ≡ t → Sized target 8 m
    go true e =
        let done : a ≡ Ok tt = b.answers ∙ begun_answer_lem target size memory ∙ simp (e, le-leb 850 (length memory) h) in
        absurd (below_not ListSize 0 (z ∙ ap done_code done ∙ (unfold done_code in refl)))
    go false e =
        record {
          least = omega arith;
          most = omega arith;
          key = b.key;
          stands =
              stored_holds memory m (begun target 8).list h (begin_storable target 8 b.key) reached.begins
              (b.leaves ∙ ap (λ (x : Answered (Unit {0})). stored x.list memory) (begun_bad target size e));
        }

begin_sized : {target : Key} {size : ℕ} {m : List ℕ} → ListBegun target size m → Sized target size m
begin_sized {target} {size} {m} (of_size memory c) = asked_begins target size memory m c.given c.relates c.codes
begin_sized {target} {size} {m} (of_bad_size asked memory h c) = bad_begins target asked memory m c.given h c.relates c.codes

-- ---- the numbers of calls on a list that keeps its rules

module _ (l : NearestList) (w : checked l ≡ Ok tt) where
  offer_unbroken : (n : Node) → Unbroken (kept_code (offered l n).answer)
  unfolding offered offered_after taken kept_code
  offer_unbroken n = rw w (go (known_family n.family) (kept (effect_on l n)))
    where
      go : (t u : Bool) → Unbroken (kept_code (cond t (record { list = (taken l n).list; answer = Ok u }) (not_offered l UnknownFamily)).answer)
      go true true = above_unbroken 1
      go true false = above_unbroken 0
      go false u = family_unbroken

  remove_unbroken : (key : Key) → Unbroken (done_code (removed l key).answer)
  unfolding removed removed_after done_code
  remove_unbroken key = rw w (go (holds key.0 (held l)))
    where
      go : (t : Bool)
          → Unbroken (done_code (cond {A = Answered (Unit {0})} t (record { list = holding l (without key.0 (held l)); answer = Ok tt }) (record { list = l; answer = Err KeyNotHeld })).answer)
      go true = above_unbroken 0
      go false = not_held_unbroken

  read_unbroken : (index : ℕ) → Unbroken (held_code (lent.held_after (checked l) l index))
  unfolding lent.held_after held_code
  read_unbroken index = rw w (go (leb l.count index))
    where
      go : (t : Bool) → Unbroken (held_code (Ok (cond t None (Some (get_or (held l) index blank_node)))))
      go true = above_unbroken 0
      go false = above_unbroken 1

-- ---- a step

-- what is seen is the step by value, and the list that it leaves stands in the memory
record Steps (target : Key) (size : ℕ) (l : NearestList) (e : ListEvent) (m' : List ℕ) : Type 0 where
  event_is : e ≡ event_of l e.call
  stands : HoldsList target size m' (list_after l e.call)
  unbroken : Unbroken e.number
  keyed : (n : Node) → e.call ≡ offering n → IsKey n.key.0

module _ {target : Key} {size : ℕ} (least : 1 ≤ size) (most : size ≤ 16) (ht : IsKey target.0) {m : List ℕ} {l : NearestList} (s : HoldsList target size m l) where
  keeps_rules : checked l ≡ Ok tt
  keeps_rules = reached_whole target size least most ht s.reached

  offer_answer_lem : (n : Node) → offer_answered m n ≡ (offered l n).answer
  unfolding offer_answered
  offer_answer_lem n = simp (le-leb 850 (length m) s.long) (ap (λ (x : NearestList). (offered x n).answer) s.is)

  remove_answer : (key : Key) → remove_answered m key ≡ (removed l key).answer
  unfolding remove_answered
  remove_answer key = simp (le-leb 850 (length m) s.long) (ap (λ (x : NearestList). (removed x key).answer) s.is)

  shown_held : (index : ℕ) → held_at m index ≡ lent.held_after (checked l) l index
  unfolding held_at
  shown_held index = simp (le-leb 850 (length m) s.long) (ap (λ (x : NearestList). lent.held_after (checked x) x index) s.is)

  step_runs : {e : ListEvent} {m' : List ℕ} → ListStep m e m' → Steps target size l e m'
  unfolding event_of list_after
  step_runs {e} {m'} (list.offers n number c q) =
      let o = c.relates in
      let z : number ≡ kept_code (offered l n).answer = c.codes ∙ ap kept_code (o.answers ∙ offer_answer_lem n) in
      rw q (record {
        event_is = ap (λ (x : ℤ). list_event (offering n) x no_held) z;
        stands =
            stored_holds m m' (offered l n).list s.long (offer_storable l s.storable n o.node) (reached.offering s.reached n o.node.1.key)
            (o.leaves ∙ ap (λ (x : NearestList). stored (offered x n).list m) s.is);
        unbroken = subst Unbroken (sym z) (offer_unbroken l keeps_rules n);
        keyed = λ x f. let g : n ≡ x = cc in subst (λ (y : Node). IsKey y.key.0) g o.node.1.key;
      })
  step_runs {e} {m'} (list.removes key number c q) =
      let r = c.relates in
      let z : number ≡ done_code (removed l key).answer = c.codes ∙ ap done_code (r.answers ∙ remove_answer key) in
      rw q (record {
        event_is = ap (λ (x : ℤ). list_event (removing key) x no_held) z;
        stands =
            stored_holds m m' (removed l key).list s.long (remove_storable l s.storable key) (reached.removing s.reached key)
            (r.leaves ∙ ap (λ (x : NearestList). stored (removed x key).list m) s.is);
        unbroken = subst Unbroken (sym z) (remove_unbroken l keeps_rules key);
        keyed = λ x f. absurd (cc);
      })
  step_runs {e} {m'} (list.reads index number before after c same q) =
      let h = shown_held index in
      let z : number ≡ held_code (lent.held_after (checked l) l index) = c.answers ∙ ap held_code h in
      let p : after ≡ told.held_after (lent.held_after (checked l) l index) before = c.leaves ∙ ap (λ (x : Result (Option Node) Refusal). told.held_after x before) h in
      rw q (record {
        event_is = ap₂ (λ (x : ℤ) (y : HeldPlaces). list_event (reading index before) x y) z p;
        stands = subst (λ (x : List ℕ). HoldsList target size x l) (sym same) s;
        unbroken = subst Unbroken (sym z) (read_unbroken l keeps_rules index);
        keyed = λ x f. absurd (cc);
      })

-- ---- any calls

-- the nodes offered, refused or not
nodes_in : List ListCall → List Node
nodes_in [] = []
nodes_in (offering n ∷ calls) = n ∷ nodes_in calls
nodes_in (removing key ∷ calls) = nodes_in calls
nodes_in (reading index before ∷ calls) = nodes_in calls

keyed_more : (call : ListCall) (calls : List ListCall) → ((n : Node) → call ≡ offering n → IsKey n.key.0) → Keyed (nodes_in calls) → Keyed (nodes_in (call ∷ calls))
unfolding nodes_in
keyed_more (offering n) calls k ks x (inl e) = subst (λ (y : Node). IsKey y.key.0) (sym e) (k n refl)
keyed_more (offering n) calls k ks x (inr i) = ks x i
keyed_more (removing key) calls k ks x i = ks x i
keyed_more (reading index before) calls k ks x i = ks x i

record RunsOn (target : Key) (size : ℕ) (l : NearestList) (events : List ListEvent) (m' : List ℕ) : Type 0 where
  events_are : events ≡ list_events l (list_calls events)
  stands : HoldsList target size m' (list_after_all l (list_calls events))
  unbroken : NeverBroken events
  keyed : Keyed (nodes_in (list_calls events))

chain_runs : {target : Key} {size : ℕ} (least : 1 ≤ size) (most : size ≤ 16) (ht : IsKey target.0) {m m' : List ℕ} {events : List ListEvent} {l : NearestList}
    → HoldsList target size m l → ListChain m events m' → RunsOn target size l events m'
unfolding list_calls list_events list_after_all nodes_in
chain_runs least most ht s none = record { events_are = refl; stands = s; unbroken = tt; keyed = λ x i. absurd i }
chain_runs {target} {size} least most ht {l = l} s (next {e = e} {events = events} step chain) =
    let one = step_runs least most ht s step in
    let rest = chain_runs least most ht one.stands chain in
    record {
      events_are = ap₂ (λ (x : ListEvent) (xs : List ListEvent). x ∷ xs) one.event_is rest.events_are;
      stands = rest.stands;
      unbroken = (one.unbroken.0, one.unbroken.1, rest.unbroken);
      keyed = keyed_more e.call (list_calls events) one.keyed rest.keyed;
    }

module _ {target : Key} {size : ℕ} {events : List ListEvent} {m' : List ℕ} (h : ListHistory target size events m') where
  sized : Sized target size h.memory
  sized = begin_sized h.begun

  runs : RunsOn target size (begun target size).list events m'
  runs = chain_runs sized.least sized.most sized.key sized.stands h.chain

  -- such a list is begun empty
  pub begun_empty : (begun target size).list ≡ empty_of target size
  begun_empty = begun_list target size (bounds_size size sized.least sized.most)

  -- DEMAND 2, OF LISTS: every number, and every node that is read, is that of document 01's steps
  pub list_steps : ListSteps target size events m'
  list_steps = record {
    events_are = runs.events_are ∙ ap (λ (l : NearestList). list_events l (list_calls events)) begun_empty;
    list_is = runs.stands.is ∙ ap (λ (l : NearestList). list_after_all l (list_calls events)) begun_empty;
  }

  -- no call gets 12 or 14
  pub never_broken : NeverBroken events
  never_broken = runs.unbroken

-- ---- what is read back

-- the nodes that stand in the memory, by `banavoge_nearest_node`
reads_back : {target : Key} {size : ℕ} (least : 1 ≤ size) (most : size ≤ 16) (ht : IsKey target.0) {m : List ℕ} {l : NearestList} → HoldsList target size m l → ReadsBack m (held l)
reads_back {target} {size} least most ht {m} {l} s = record {
  shown = λ index number before after c i.
      let k : index < l.count = let n = counted in omega arith in
      let z = c.answers ∙ ap held_code (is index ∙ node index k) in
      let p : after ≡ held_places_of (get_or (held l) index blank_node) =
      c.leaves ∙ ap (λ (x : Result (Option Node) Refusal). told.held_after x before) (is index ∙ node index k) ∙ (unfold told.held_after in refl) in
      (z ∙ (unfold held_code in refl), ap (λ (x : HeldPlaces). node_given x.family x.address x.port x.key) p);
  ended = λ index number before after c i.
      let k : l.count ≤ index = let n = counted in omega arith in
      let z = c.answers ∙ ap held_code (is index ∙ nothing index k) in
      let p = c.leaves ∙ ap (λ (x : Result (Option Node) Refusal). told.held_after x before) (is index ∙ nothing index k) in
      (z ∙ (unfold held_code in refl), p ∙ (unfold told.held_after in refl));
}
  where
    rules : checked l ≡ Ok tt
    rules = keeps_rules least most ht s

    counted : length (held l) ≡ l.count
    counted = let w = whole l rules in let a = w.within in let b = w.small in let z = s.storable.slots in held_length l (omega arith)

    is : (index : ℕ) → held_at m index ≡ lent.held_after (Ok tt) l index
    is index = shown_held least most ht s index ∙ ap (λ (a : Result (Unit {0}) Refusal). lent.held_after a l index) rules

    node : (index : ℕ) → index < l.count → lent.held_after (Ok tt) l index ≡ Ok (Some (get_or (held l) index blank_node))
    node index k = unfold lent.held_after in simp (lt-leb l.count index k)

    nothing : (index : ℕ) → l.count ≤ index → lent.held_after (Ok tt) l index ≡ Ok None
    nothing index k = unfold lent.held_after in simp (le-leb l.count index k)

-- what is read back after any calls is what the list by value holds
pub list_reads_back : {target : Key} {size : ℕ} {events : List ListEvent} {m' : List ℕ} → ListHistory target size events m'
    → ReadsBack m' (held (list_after_all (empty_of target size) (list_calls events)))
list_reads_back {target} {size} {events} {m'} h =
    subst (λ (l : NearestList). ReadsBack m' (held (list_after_all l (list_calls events)))) (begun_empty h)
    (reads_back (sized h).least (sized h).most (sized h).key (runs h).stands)

-- ---- the k nearest

-- a removal that takes nothing out leaves the list
not_removed : (l : NearestList) (key : Key) → TakesNothingOut (removing key) (done_code (removed l key).answer) → (removed l key).list ≡ l
unfolding done_code
not_removed l key out = go (removed l key).answer refl out
  where
    go : (a : Result (Unit {0}) Refusal) → (removed l key).answer ≡ a → TakesNothingOut (removing key) (done_code a) → (removed l key).list ≡ l
    go (Ok done) e out = absurd out
    go (Err why) e out = remove_refused_same l key why e

-- with nothing removed, the list is that after the offers
only_offers : (calls : List ListCall) (l : NearestList) → NothingRemoved (list_events l calls) → list_after_all l calls ≡ offers l (nodes_in calls)
unfolding list_events event_of list_after_all list_after offers nodes_in
only_offers [] l unremoved = refl
only_offers (offering n ∷ calls) l unremoved = only_offers calls (offered l n).list unremoved.1
only_offers (removing key ∷ calls) l unremoved =
    only_offers calls (removed l key).list unremoved.1 ∙ ap (λ (x : NearestList). offers x (nodes_in calls)) (not_removed l key unremoved.0)
only_offers (reading index before ∷ calls) l unremoved = only_offers calls l unremoved.1

-- an offer is refused exactly where its number is below 0
offered_number : (n : Node) (a : Result Bool Refusal) (rest : List Node) → offered_by (offering n) (kept_code a) ++ rest ≡ cond (refused_offer a) rest (n ∷ rest)
unfolding offered_by kept_code
offered_number n (Ok true) rest = refl
offered_number n (Ok false) rest = refl
offered_number n (Err why) rest = ap (λ (z : ℤ). offered_by (offering n) z ++ rest) (below_zero why).is

unrefused : (calls : List ListCall) (l : NearestList) → NothingRemoved (list_events l calls) → offered_in (list_events l calls) ≡ accepted l (nodes_in calls)
unfolding offered_in list_events event_of list_after accepted nodes_in offered_by
unrefused [] l unremoved = refl
unrefused (offering n ∷ calls) l unremoved =
    ap (λ (rest : List Node). offered_by (offering n) (kept_code (offered l n).answer) ++ rest) (unrefused calls (offered l n).list unremoved.1)
    ∙ offered_number n (offered l n).answer (accepted (offered l n).list (nodes_in calls))
unrefused (removing key ∷ calls) l unremoved =
    unrefused calls (removed l key).list unremoved.1 ∙ ap (λ (x : NearestList). accepted x (nodes_in calls)) (not_removed l key unremoved.0)
unrefused (reading index before ∷ calls) l unremoved = unrefused calls l unremoved.1

module _ {target : Key} {size : ℕ} {events : List ListEvent} {m' : List ℕ} (h : ListHistory target size events m') (unremoved : NothingRemoved events) where
  -- DEMAND 2, THE K NEAREST, of what the host offered and reads back
  pub list_holds_nearest : HoldsNearest target size (offered_in events) m'
  list_holds_nearest =
      let r = runs h in
      let s = sized h in
      let calls = list_calls events in
      let first = (begun target size).list in
      let after = list_after_all first calls in
      let news = nodes_in calls in
      let kept-all = subst NothingRemoved r.events_are unremoved in
      record {
        nodes = held after;
        nearest =
            subst (λ (x : List Node). Nearest target.0 size x (held after)) (sym (ap offered_in r.events_are ∙ unrefused calls first kept-all))
            (subst (λ (x : NearestList). Nearest target.0 size (accepted first news) (held x)) (sym (only_offers calls first kept-all))
            (offers_hold_nearest target size s.least s.most s.key news r.keyed));
        back = reads_back s.least s.most s.key r.stands;
      }
