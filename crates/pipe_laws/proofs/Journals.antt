-- One journal that begins with another.
use Rattle.std.proofs.Common.{◌≡◌, suc, ◌≤◌, List, [], ◌∷◌, ◌++◌, length, refl, ap, sym, ◌∙◌, arith, append_assoc, length-append}
use Rattle.pipe_types.specs.declared.step.Step.{Step}
use Rattle.pipe_model.specs.History.{History}
use Rattle.pipe_model.specs.Begins.{BeginsWith}

pub begins_with_itself : (whole : History) → BeginsWith whole whole
begins_with_itself whole = record { later = []; is = refl }

pub begins_through : (whole middle seen : History) → BeginsWith whole middle → BeginsWith middle seen → BeginsWith whole seen
begins_through whole middle seen a b =
    record { later = a.later ++ b.later; is = a.is ∙ (ap (λ x. a.later ++ x) b.is ∙ sym (append_assoc a.later b.later seen)) }

pub begins_after : (whole seen : History) (step : Step) → BeginsWith whole seen → BeginsWith (step ∷ whole) seen
begins_after whole seen step a = record { later = step ∷ a.later; is = ap (λ x. step ∷ x) a.is }

-- of two ends of one list the longer ends with the shorter
longer_from : (front other : List Step) (longer shorter : History) → front ++ longer ≡ other ++ shorter → length shorter ≤ length longer → BeginsWith longer shorter
longer_from [] other longer shorter e fits = record { later = other; is = e }
longer_from (x ∷ front) [] longer shorter e fits =
    absurd (let n : suc (length (front ++ longer)) ≡ length shorter = ap length e in omega (arith, length-append front longer))
longer_from (x ∷ front) (y ∷ other) longer shorter e fits =
    longer_from front other longer shorter (let t : front ++ longer ≡ other ++ shorter = cc in t) fits

pub begins_longer : (whole longer shorter : History) → BeginsWith whole longer → BeginsWith whole shorter → length shorter ≤ length longer → BeginsWith longer shorter
begins_longer whole longer shorter a b fits = longer_from a.later b.later longer shorter (sym a.is ∙ b.is) fits
