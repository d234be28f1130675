-- `NearestList::keep` meets its contract: each way out is a case of `OfferLaws`. Assumes nothing.
use mathlib.Core.Path.{◌≡◌, ◌∙◌, sym, ap}
use mathlib.Core.List.{List, ◌++◌}
use mathlib.Core.Bool.{true, false}
use mathlib.Core.Logic.{◌⊎◌, inl, inr}
use Prim.Native.Nat.{ℕ, ◌+◌, ◌≤◌}
use native.Mathlib.Omega.{arith}
use lib.ListN.{drop, get_or}
use lib.Seq.{length-take-le}
use Rattle.std.specs.Prelude.{Ok}
use Rattle.key.specs.Keys.{same_key}
use Rattle.std.proofs.lemmas.Result.{err_from_is_err_and}
use Rattle.node.specs.declared.Node.{Node}
use Rattle.node.specs.Families.{known_family}
use Rattle.node.specs.Values.{IsNode}
use Rattle.node.proofs.Owned.{is_node}
use Rattle.nearest.specs.declared.NearestList.{NearestList}
use Rattle.nearest.specs.Lists.{node_key, held}
use Rattle.nearest.specs.Slots.{position, IsList}
use Rattle.nearest.specs.Calls.{checked}
use Rattle.nearest.proofs.Front.{no_node}
use Rattle.nearest.proofs.Members.{in_take}
use Rattle.nearest.proofs.Judge.{few_held, size_within}
use Rattle.nearest.proofs.OfferLaws.{AtPlace, place_within, offer_refused, offer_unknown, offer_replaced, offer_added, offer_put_out, offer_too_far}
use Rattle.nearest.proofs.Shifted.{opened_front}
use Rattle.nearest.proofs.NearestList.keep.Goals as goal
use Rattle.nearest.proofs.NearestList.keep.Goals.{else-place-count-via-then-place-count+else-equals, else-place-count-via-else-place-count}

-- what is known once the place is found
at_place : (list : NearestList) (new : Node) (p : ℕ) → checked list ≡ Ok tt → known_family new.family ≡ true → IsList list → IsNode new
    → p ≡ position list.target.0 (node_key new) (held list) → AtPlace list new p
at_place list new p stands known is_list is_new e =
    record {
      stands = stands;
      family = known;
      slots = is_list.slots;
      target_key = is_list.target;
      new_key = is_new.key;
      held_keys = λ x i. is_list.keys x (in_take list.count list.nodes x i);
      place = e;
    }

-- that the key does not stand at the place
abbrev Free : NearestList → Node → ℕ → Type 0
Free list new p = (list.count ≤ p) ⊎ (same_key (node_key (get_or list.nodes p no_node)) (node_key new) ≡ false)

pub returns-in_err-check : goal.returns-in_err-check
returns-in_err-check c =
    let p = err_from_is_err_and c.from_residual.result c.from_residual.ensures.1 in
    rw (p.1, p.2) (sym (offer_refused _ c.args.node _ (sym c.check.ensures ∙ c.in_err-check.was)))

pub returns-then-not-known : goal.returns-then-not-known
returns-then-not-known c = sym (offer_unknown _ c.args.node (sym c.check.ensures ∙ c.in_ok-check.was) (sym c.known.ensures ∙ c.if-not-known.true))

pub returns-then-equals : goal.returns-then-equals
returns-then-equals c =
    let at = at_place c.args.self.now c.args.node c.place-place.result (sym c.check.ensures ∙ c.in_ok-check.was) (sym c.known.ensures ∙ c.if-not-known.false) c.requires
    (is_node c.args.node c.well_formed.1.0.0 c.well_formed.1.0.1.1) (c.place-place.ensures ∙ ap (position c.args.self.now.target.0 c.args.node.key.0) c.held.ensures) in
    sym (offer_replaced c.args.self.now c.args.node _ at c.if-place-count.true (sym c.equals.ensures ∙ c.if-equals.true))

pub open_at-requires : goal.open_at-requires
open_at-requires c =
    let at = at_place c.args.self.now c.args.node c.place-place.result (sym c.check.ensures ∙ c.in_ok-check.was) (sym c.known.ensures ∙ c.if-not-known.false) c.requires
    (is_node c.args.node c.well_formed.1.0.0 c.well_formed.1.0.1.1) (c.place-place.ensures ∙ ap (position c.args.self.now.target.0 c.args.node.key.0) c.held.ensures) in
    let p = place_within c.args.self.now c.args.node _ at in
    let s = size_within c.args.self.now (sym c.check.ensures ∙ c.in_ok-check.was) in
    let n = c.requires.slots in
    let e = length-take-le (c.args.self.now.count + 1) c.args.self.now.nodes (omega arith) in
    omega arith

pub returns-then-count-self : goal.returns-then-count-self
returns-then-count-self c =
    let at = at_place c.args.self.now c.args.node c.place-place.result (sym c.check.ensures ∙ c.in_ok-check.was) (sym c.known.ensures ∙ c.if-not-known.false) c.requires
    (is_node c.args.node c.well_formed.1.0.0 c.well_formed.1.0.1.1) (c.place-place.ensures ∙ ap (position c.args.self.now.target.0 c.args.node.key.0) c.held.ensures) in
    let p = place_within c.args.self.now c.args.node _ at in
    let s = size_within c.args.self.now (sym c.check.ensures ∙ c.in_ok-check.was) in
    let n = c.requires.slots in
    let free : Free c.args.self.now c.args.node c.place-place.result =
    elim c.else-place-count.branch [
      | else-place-count-via-then-place-count+else-equals w ↦ inr (sym w.equals.ensures ∙ w.if-equals.false)
      | else-place-count-via-else-place-count w ↦ inl w.if-place-count.false
    ] in
    sym (offer_added c.args.self.now c.args.node _ at free c.if-count-self.true _
    (ap (λ (x : List Node). x ++ drop (c.args.self.now.count + 1) c.args.self.now.nodes)
    (c.open_at.ensures ∙ opened_front c.place-place.result (c.args.self.now.count + 1) c.args.node c.args.self.now.nodes (omega arith) (omega arith))))

pub returns-then-place-count-2 : goal.returns-then-place-count-2
returns-then-place-count-2 c =
    let at = at_place c.args.self.now c.args.node c.place-place.result (sym c.check.ensures ∙ c.in_ok-check.was) (sym c.known.ensures ∙ c.if-not-known.false) c.requires
    (is_node c.args.node c.well_formed.1.0.0 c.well_formed.1.0.1.1) (c.place-place.ensures ∙ ap (position c.args.self.now.target.0 c.args.node.key.0) c.held.ensures) in
    let s = few_held c.args.self.now (sym c.check.ensures ∙ c.in_ok-check.was) in
    let n = c.requires.slots in
    let free : Free c.args.self.now c.args.node c.place-place.result =
    elim c.else-place-count.branch [
      | else-place-count-via-then-place-count+else-equals w ↦ inr (sym w.equals.ensures ∙ w.if-equals.false)
      | else-place-count-via-else-place-count w ↦ inl w.if-place-count.false
    ] in
    sym (offer_put_out c.args.self.now c.args.node _ at free c.if-count-self.false c.if-place-count-2.true _
    (ap (λ (x : List Node). x ++ drop c.args.self.now.count c.args.self.now.nodes)
    (c.open_at-then-place-count-2.ensures ∙ opened_front c.place-place.result c.args.self.now.count c.args.node c.args.self.now.nodes (omega arith) (omega arith))))

pub returns : goal.returns
returns c =
    let at = at_place c.args.self.now c.args.node c.place-place.result (sym c.check.ensures ∙ c.in_ok-check.was) (sym c.known.ensures ∙ c.if-not-known.false) c.requires
    (is_node c.args.node c.well_formed.1.0.0 c.well_formed.1.0.1.1) (c.place-place.ensures ∙ ap (position c.args.self.now.target.0 c.args.node.key.0) c.held.ensures) in
    let free : Free c.args.self.now c.args.node c.place-place.result =
    elim c.else-place-count.branch [
      | else-place-count-via-then-place-count+else-equals w ↦ inr (sym w.equals.ensures ∙ w.if-equals.false)
      | else-place-count-via-else-place-count w ↦ inl w.if-place-count.false
    ] in
    sym (offer_too_far c.args.self.now c.args.node _ at free c.if-count-self.false c.if-place-count-2.false)
