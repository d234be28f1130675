-- `offer` meets its contract: each way out is a case of `CallLaws` of `lent_list_laws`. Assumes nothing.
use borrow.Author.Rules.{rules}
use mathlib.Core.Path.{◌∙◌, refl, sym, ap}
use mathlib.Core.Bool.{Bool}
use Rattle.std.specs.Prelude.{Result, Ok}
use Rattle.std.proofs.lemmas.Result.{err_from_is_err_and}
use Rattle.wire.proofs.Numbers.{bytes_each}
use Rattle.refusal.specs.declared.Refusal.{Refusal}
use Rattle.refusal.specs.declared.Refusal.TheVariants.{UnknownFamily}
use Rattle.node.proofs.Owned.{is_node}
use Rattle.nearest.specs.declared.Answered.{Answered}
use Rattle.nearest.specs.Calls.{not_offered, offered}
use Rattle.nearest.proofs.OfferLaws.{offer_unknown}
use Rattle.lent_list_laws.specs.Layout.{list_at}
use Rattle.lent_list_laws.proofs.CallLaws.{offers_refused, offers_taken}
use Rattle.lent_list.proofs.StandingLaws.{stands, offers_not_standing}
use Rattle.lent_list.proofs.offer.Goals as goal

pub returns-in_err-check : goal.returns-in_err-check
returns-in_err-check c =
    let m = c.args.memory.now in
    let g = c.well_formed.1.0 in
    let p = err_from_is_err_and c.from_residual.result c.from_residual.ensures.1 in
    rw (p.1, p.2) (offers_not_standing m _ c.args.node (g.1.1.0.1, is_node c.args.node g.0 g.1.1) (bytes_each m (λ i. search rules)) (sym c.check.ensures ∙ c.in_err-check.was))

pub returns-then-not-known : goal.returns-then-not-known
returns-then-not-known c =
    let m = c.args.memory.now in
    let g = c.well_formed.1.0 in
    let s = stands m (sym c.check.ensures ∙ c.in_ok-check.was) in
    offers_refused c.args.node m (g.1.1.0.1, is_node c.args.node g.0 g.1.1) (bytes_each m (λ i. search rules)) s.0 (not_offered (list_at m) UnknownFamily)
    (offer_unknown (list_at m) c.args.node s.1 (sym c.known.ensures ∙ c.if-not-known.true)) UnknownFamily refl

pub keep-requires : goal.keep-requires
keep-requires c = (sym c.check.ensures ∙ c.in_ok-check.was, sym c.known.ensures ∙ c.if-not-known.false)

pub returns : goal.returns
returns c =
    let m = c.args.memory.now in
    let g = c.well_formed.1.0 in
    let s = stands m (sym c.check.ensures ∙ c.in_ok-check.was) in
    let o = offered (list_at m) c.args.node in
    offers_taken c.args.node m (g.1.1.0.1, is_node c.args.node g.0 g.1.1) (bytes_each m (λ i. search rules)) s.0 (record { list = o.list; answer = Ok c.keep.result })
    (ap {B = Answered Bool} (λ (x : Result Bool Refusal). record { list = o.list; answer = x }) c.keep.ensures.result_value) _ c.keep.ensures.memory_after
