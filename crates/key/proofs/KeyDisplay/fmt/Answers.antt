-- `Key`'s `fmt` writes its text. Assumes nothing.
use mathlib.Core.Path.{◌∙◌, ap, ap₂, subst}
use mathlib.Core.Bool.{false}
use mathlib.Core.List.{List, []}
use Prim.Native.Nat.{ℕ, ◌-◌, ◌^◌}
use Rattle.std.specs.Prelude.{Option, Some, codes}
use Rattle.std.specs.Option.{option_map}
use Rattle.std.specs.Fmt.{DisplaysOnOk, ◌++?◌, digits, shown_prefix, radix_prefix, format_spec, padded_integral}
use Rattle.key.proofs.Printed.{of_key}
use Rattle.key.proofs.KeyDisplay.fmt.Goals as goal

pub returns-clause-writes : goal.returns-clause-writes
returns-clause-writes g c =
    subst
    (λ (hole : Option (List ℕ)). DisplaysOnOk g.W.Write.write_str_gives c.args.f.now c.write.result
    (Some (codes "key ") ++? hole ++? Some (codes "..")) c.write.new.self)
    (ap₂ (λ s text. option_map (padded_integral s false (shown_prefix s (radix_prefix c.in_radix.result.base))) text) c.laid_out.ensures c.in_radix.ensures
    ∙ ap (λ (n : ℕ). Some (padded_integral (format_spec 32 0 4 16 (2 ^ 64 - 1)) false [] (digits 16 false n))) c.shown-front.ensures.number
    ∙ ap Some (of_key c.args.self.now.0 c.shown-front.ensures.fits))
    c.write.ensures.writes
