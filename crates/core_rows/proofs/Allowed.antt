-- The limit of a stage, as its row has it.
use Rattle.std.proofs.Common.{◌≡◌, ℕ, List, Bool, false, None, Some, ap, sym, ◌∙◌}
use Rattle.std.specs.Prelude.{option_map, slice_get}
use Rattle.pipe_types.specs.Restarts.{limit_at, limit_allows, may_restart_at}
use Rattle.pipe_model.specs.History.{now}
use Rattle.pipe_model.specs.Legal.{limit_open, restart_times}
use Rattle.restart_core.specs.Restarts.{RestartLimit, Remembers}
use Rattle.core_tables.specs.declared.rows.Totals.{Totals}
use Rattle.core_state.specs.declared.state.Core.{Core}
use Rattle.core_state.specs.Stands.{Holds, limit_seen}

pub may_held : (core : Core) (l : ℕ) (held : RestartLimit) (r : Bool) → Holds core → slice_get core.restarts.items l ≡ Some held
    → ((made : List ℕ) → Remembers held made → r ≡ may_restart_at held.max held.window core.totals.now made) → r ≡ limit_open core.topology core.journal.steps l
may_held core l held r x at answers =
    let t = core.topology in
    let before = core.journal.steps in
    let limit : limit_at t l ≡ Some (limit_seen held) = sym (x.fields.set.restarts l) ∙ ap (option_map limit_seen) at in
    answers (restart_times t before l) (x.fields.restarts l held at)
    ∙ (ap (λ n. may_restart_at held.max held.window n (restart_times t before l)) (ap (λ (y : Totals). y.now) x.fields.totals)
    ∙ sym (ap (λ o. limit_allows o (now before) (restart_times t before l)) limit))

-- where there is none, no restart is allowed
pub may_none : (core : Core) (l : ℕ) → Holds core → slice_get core.restarts.items l ≡ None → false ≡ limit_open core.topology core.journal.steps l
may_none core l x at =
    let none : limit_at core.topology l ≡ None = sym (x.fields.set.restarts l) ∙ ap (option_map limit_seen) at in
    sym (ap (λ o. limit_allows o (now core.journal.steps) (restart_times core.topology core.journal.steps l)) none)
