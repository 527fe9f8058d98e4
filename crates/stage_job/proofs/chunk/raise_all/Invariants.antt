use Rattle.std.proofs.Common.{◌≡◌, ◌≢◌, ◌≤◌, true, IsTrue, drop, count_by}
use Rattle.pipe_types.specs.declared.topology.Kind.TheVariants.{Own}
use Rattle.pipe_types.specs.Handlers.{is_own_reason}
use Rattle.stage_callback.specs.Callbacks.{is_passed}
use Rattle.stage_job.specs.Lawful.{IsRaised}
use Rattle.stage_job.specs.Told.{raised_by}
use Rattle.stage_job.proofs.LawfulSteps.{RepliesSoFar}
use Rattle.stage_job.proofs.ToldSteps.{ToldSoFar}
use Rattle.stage_job.proofs.ChunkSteps.{OwnSoFar}
use Rattle.stage_job.proofs.chunk.raise_all.Given as goal

abbrev pub invariant-loop-message : goal.invariant-loop-message
invariant-loop-message g l =
    let now = goal.Callback-dyn g (l.callback.vtable, l.callback.value) in
    let first = goal.Callback-dyn g (l.initial.callback.vtable, l.initial.callback.value) in
    let kind = first.kind l.initial.callback.value in
    let spec = first.spec l.initial.callback.value in
    record {
      same_kind : now.kind l.callback.value ≡ kind;
      same_spec : now.spec l.callback.value ≡ spec;
      same_told : now.told l.callback.value ≡ first.told l.initial.callback.value;
      same_law : now.law l.callback.value ≡ first.law l.initial.callback.value;
      same_resets : now.resets l.callback.value ≡ first.resets l.initial.callback.value;
      no_counts : kind ≢ Own → (now.calls l.callback.value ≡ first.calls l.initial.callback.value) × (now.bad l.callback.value ≡ first.bad l.initial.callback.value);
      calls_kept : first.calls l.initial.callback.value ≤ now.calls l.callback.value;
      bad_kept : first.bad l.initial.callback.value ≤ now.bad l.callback.value;
      own : kind ≡ Own → is_own_reason l.why ≡ true → OwnSoFar spec.batchers l.messages (drop l.message-index l.messages) l.replies.items;
      lawful : RepliesSoFar (IsRaised (first.law l.initial.callback.value) l.why) l.messages (drop l.message-index l.messages) l.replies.items;
      told : IsTrue (first.told l.initial.callback.value) → ToldSoFar (raised_by l.why) (first.said l.initial.callback.value) (now.said l.callback.value) l.replies.items;
      none_passed : count_by is_passed l.replies.items ≡ 0;
    }
