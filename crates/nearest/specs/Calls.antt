-- Document 01, "The nearest list" and "Refusal numbers": what each call hands back, list and answer together. "List calls: 12, 14, 15 for the
-- node offered, 13." A refusal hands the list back as it stood.
use Rattle.std.specs.Prelude.{Bool, cond, ℕ, Result, Ok, Err}
use Rattle.refusal.specs.declared.Refusal.{Refusal}
use Rattle.refusal.specs.declared.Refusal.TheVariants.{ListSize, KeyNotHeld, ListNotWhole, UnknownFamily}
use Rattle.key.specs.declared.Key.{Key}
use Rattle.node.specs.declared.Node.{Node}
use Rattle.node.specs.Families.{known_family}
use Rattle.nearest.specs.declared.NearestList.{NearestList}
use Rattle.nearest.specs.declared.Answered.{Answered}
use Rattle.nearest.specs.Lists.{default_size, held, holding, empty_of, size_right, keeps_rules}
use Rattle.nearest.specs.Effect.{Effect, holds, without, effect, after_effect, kept}

-- "A list begun with a bad size is refused, and what comes back is the empty list of size 8 for that target."
unfoldable pub begun : Key → ℕ → Answered (Unit {0})
begun target size =
    cond (size_right size) (record { list = empty_of target size; answer = Ok tt }) (record { list = empty_of target default_size; answer = Err ListSize })

-- every list that comes in is tested in full: 12, then 14
unfoldable pub checked : NearestList → Result (Unit {0}) Refusal
checked l = cond (size_right l.size) (cond (keeps_rules l) (Ok tt) (Err ListNotWhole)) (Err ListSize)

-- "with a yes or no for kept"
abbrev pub offer_answer : Bool → Result Bool Refusal
offer_answer kept = Ok kept

-- a refused offer
abbrev pub not_offered : NearestList → Refusal → Answered Bool
not_offered l why = record { list = l; answer = Err why }

-- the effect of an offer to a list that keeps its rules
abbrev pub effect_on : NearestList → Node → Effect
effect_on l n = effect l.target.0 l.size n (held l)

-- an offer that is not refused: its effect is done
unfoldable pub taken : NearestList → Node → Answered Bool
taken l n = record { list = holding l (after_effect (effect_on l n) l.target.0 n (held l)); answer = offer_answer (kept (effect_on l n)) }

-- an offer after the list's test: 15
unfoldable pub offered_after : Result (Unit {0}) Refusal → NearestList → Node → Answered Bool
offered_after (Err why) l n = not_offered l why
offered_after (Ok _) l n = cond (known_family n.family) (taken l n) (not_offered l UnknownFamily)

-- "An offer hands the list back, changed or as it stood, with a yes or no for kept."
unfoldable pub offered : NearestList → Node → Answered Bool
offered l n = offered_after (checked l) l n

-- a removal after the list's test: 13
unfoldable pub removed_after : Result (Unit {0}) Refusal → NearestList → Key → Answered (Unit {0})
removed_after (Err why) l key = record { list = l; answer = Err why }
removed_after (Ok _) l key =
    cond (holds key.0 (held l)) (record { list = holding l (without key.0 (held l)); answer = Ok tt }) (record { list = l; answer = Err KeyNotHeld })

-- "Removing takes out one named key."
unfoldable pub removed : NearestList → Key → Answered (Unit {0})
removed l key = removed_after (checked l) l key
