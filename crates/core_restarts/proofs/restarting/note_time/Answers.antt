use Rattle.std.proofs.Common.{◌≡◌, ◌<◌, ◌≤◌, length, Some, refl, subst}
use Rattle.std.specs.Prelude.{slice_get, All, IfSome}
use Rattle.std.proofs.lemmas.Option.{slice_get_read}
use Rattle.core_state.specs.Stands.{limit_seen}
use Rattle.core_restarts.proofs.Times.{noted_limits, noted_times}
use Rattle.core_restarts.proofs.restarting.note_time.Goals as goal

pub made-requires-clause-allowed : goal.made-requires-clause-allowed
made-requires-clause-allowed c =
    let limits = c.args.limits.now.items in
    let was : slice_get limits c.args.at ≡ Some c.index_mut.result.now = slice_get_read limits (length limits) c.args.at c.index_mut.result.now refl c.requires.there c.index_mut.ensures.value in
    subst (λ o. IfSome o (λ limit. 0 < limit.max)) was c.requires.allowed

pub made-requires-clause-latest : goal.made-requires-clause-latest
made-requires-clause-latest c =
    let limits = c.args.limits.now.items in
    let was : slice_get limits c.args.at ≡ Some c.index_mut.result.now = slice_get_read limits (length limits) c.args.at c.index_mut.result.now refl c.requires.there c.index_mut.ensures.value in
    subst (λ o. IfSome o (λ limit. All (λ t. t ≤ c.args.now) limit.times)) was c.requires.latest

pub returns-clause-limits : goal.returns-clause-limits
returns-clause-limits c =
    let limits = c.args.limits.now.items in
    let was : slice_get limits c.args.at ≡ Some c.index_mut.result.now = slice_get_read limits (length limits) c.args.at c.index_mut.result.now refl c.requires.there c.index_mut.ensures.value in
    let same : limit_seen c.made.new.self ≡ limit_seen c.index_mut.result.now = λ i. record { max_restarts = c.made.ensures.limit.0 i; window_ms = c.made.ensures.limit.1 i } in
    noted_limits limits c.args.at c.index_mut.result.now c.made.new.self c.requires.there was same

pub returns-clause-remembered : goal.returns-clause-remembered
returns-clause-remembered c =
    let limits = c.args.limits.now.items in
    let was : slice_get limits c.args.at ≡ Some c.index_mut.result.now = slice_get_read limits (length limits) c.args.at c.index_mut.result.now refl c.requires.there c.index_mut.ensures.value in
    noted_times limits c.args.at c.index_mut.result.now c.made.new.self c.args.now c.requires.there was c.made.ensures.remembered
