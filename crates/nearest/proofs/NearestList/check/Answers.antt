-- `NearestList::check` meets its contract: each way out is a case of `Judge`. Assumes nothing.
use mathlib.Core.Path.{◌∙◌, sym, ap}
use Rattle.nearest.specs.Lists.{all_known, rising}
use Rattle.nearest.proofs.Judge.{bad_size, too_long, unknown_held, not_rising, passes}
use Rattle.nearest.proofs.NearestList.check.Goals as goal
use Rattle.nearest.proofs.NearestList.check.Goals.{then-not-all_known-via-then-not-all_known, then-not-all_known-via-else-not-all_known+then-not-rising}

pub returns-then-not-size_right : goal.returns-then-not-size_right
returns-then-not-size_right c = bad_size _ (sym c.size_right.ensures ∙ c.if-not-size_right.true)

pub returns-then-self : goal.returns-then-self
returns-then-self c = too_long _ (sym c.size_right.ensures ∙ c.if-not-size_right.false) c.if-self.true

pub returns-then-not-all_known : goal.returns-then-not-all_known
returns-then-not-all_known c =
    let right = sym c.size_right.ensures ∙ c.if-not-size_right.false in
    elim c.then-not-all_known.branch [
      | then-not-all_known-via-then-not-all_known w ↦ unknown_held _ right c.if-self.false (sym (c.all_known.ensures ∙ ap all_known c.held.ensures) ∙ w.if-not-all_known.true)
      | then-not-all_known-via-else-not-all_known+then-not-rising w ↦
          not_rising _ right c.if-self.false (sym (c.all_known.ensures ∙ ap all_known c.held.ensures) ∙ w.if-not-all_known.false)
          (sym (w.rising.ensures ∙ ap (rising c.args.self.target.0) w.held-else-not-all_known.ensures) ∙ w.if-not-rising.true)
    ]

pub returns : goal.returns
returns c =
    passes _ (sym c.size_right.ensures ∙ c.if-not-size_right.false) c.if-self.false (sym (c.all_known.ensures ∙ ap all_known c.held.ensures) ∙ c.if-not-all_known.false)
    (sym (c.rising.ensures ∙ ap (rising c.args.self.target.0) c.held-else-not-all_known.ensures) ∙ c.if-not-rising.false)
