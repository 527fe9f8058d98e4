-- The fields after the begin of the drain.
use Rattle.std.proofs.Common.{◌≡◌, ◌<◌, ◌∷◌, true, refl, ap, sym, ◌∙◌}
use Rattle.std.specs.Prelude.{not}
use Rattle.std.proofs.lemmas.Bool.{ltb-true}
use Rattle.pipe_types.specs.declared.topology.Topology.{Topology}
use Rattle.pipe_types.specs.declared.step.DrainCause.{DrainCause}
use Rattle.pipe_types.specs.declared.step.DrainCause.TheVariants.{Control}
use Rattle.pipe_types.specs.declared.step.Step.TheVariants.{Drain}
use Rattle.pipe_types.specs.Numbers.{stage}
use Rattle.pipe_model.specs.History.{History, controls, controls_after}
use Rattle.pipe_model.specs.Legal.{allows, happened, has_ended, is_drain, drains_for}
use Rattle.pipe_laws.proofs.Tests.{and_right}
use Rattle.pipe_laws.proofs.Allowed.{unowed}
use Rattle.pipe_journal.specs.Recorded.{Recorded}
use Rattle.core_tables.specs.declared.rows.Totals.{Totals}
use Rattle.core_state.specs.declared.state.Core.{Core}
use Rattle.core_state.specs.Stands.{Fields}
use Rattle.core_state.proofs.Parts.{Part, TotalsAre, Says, unchanged, fields_of}

-- a control line that begins the drain is one of those that may be read
pub lines_few : (topology : Topology) (before : History) (cause : DrainCause) → allows topology before (Drain cause) ≡ true → cause ≡ Control → controls before < 10000
lines_few topology before cause h is =
    let all = unowed topology before (Drain cause) (λ x. refl) (λ x. refl) h in
    let for = ap (drains_for topology before) (sym is) ∙ and_right (not (happened is_drain before)) _ all in
    ltb-true (controls before) 10000 (and_right (not (has_ended before (stage 0))) _ for)

-- the fields once the drain has begun
pub began_fields : (core : Core) (topology : Topology) (before : History) (cause : DrainCause) (j : Recorded)
    → Fields core topology before
    → Fields (record core { journal = j; totals = record core.totals { controls = controls_after (Drain cause) core.totals.controls; quiet = 0; draining = true } }) topology (Drain cause ∷ before)
began_fields core topology before cause j x = fields_of says
  where
    says : (it : Part) → Says it (record core { journal = j; totals = record core.totals { controls = controls_after (Drain cause) core.totals.controls; quiet = 0; draining = true } }) topology (Drain cause ∷ before)
    says TotalsAre = ap (λ (y : Totals). record y { controls = controls_after (Drain cause) y.controls; quiet = 0; draining = true }) x.totals
    says it = unchanged x it
