use Rattle.std.proofs.Common.{◌≡◌, ◌≢◌, ◌≤◌, length, IsTrue}
use Rattle.std.specs.Vec.Iter.{into_iter_items, into_iter_len}
use Rattle.pipe_types.specs.declared.topology.Kind.TheVariants.{Own}
use Rattle.stage_job.proofs.CallCounts.{CallsSoFar}
use Rattle.stage_job.specs.Lawful.{IsLawful}
use Rattle.stage_job.specs.Told.{replies_by}
use Rattle.stage_job.proofs.LawfulSteps.{RepliesSoFar}
use Rattle.stage_job.proofs.ToldSteps.{ToldSoFar}
use Rattle.stage_job.proofs.ChunkSteps.{BuiltInSoFar, OwnSoFar}
use Rattle.stage_job.proofs.chunk.answer_all.Given as goal

abbrev pub invariant-loop-message : goal.invariant-loop-message
invariant-loop-message g l =
    let now = goal.Callback-dyn g (l.callback.vtable, l.callback.value) in
    let first = goal.Callback-dyn g (l.initial.callback.vtable, l.initial.callback.value) in
    let kind = first.kind l.initial.callback.value in
    let spec = first.spec l.initial.callback.value in
    let messages = l.fn.messages.items in
    let rest = into_iter_items l.message-iterator in
    record {
      can_next : (goal.iterator-loop-message g).can_next l.message-iterator;
      is_finite : (goal.iterator-loop-message g).is_finite l.message-iterator;
      left : length rest ≡ into_iter_len l.message-iterator;
      same_kind : now.kind l.callback.value ≡ kind;
      same_spec : now.spec l.callback.value ≡ spec;
      same_told : now.told l.callback.value ≡ first.told l.initial.callback.value;
      same_law : now.law l.callback.value ≡ first.law l.initial.callback.value;
      same_resets : now.resets l.callback.value ≡ first.resets l.initial.callback.value;
      built_in : kind ≢ Own → BuiltInSoFar spec (first.count l.initial.callback.value) messages rest (now.count l.callback.value) l.replies.items;
      no_counts : kind ≢ Own → (now.calls l.callback.value ≡ first.calls l.initial.callback.value) × (now.bad l.callback.value ≡ first.bad l.initial.callback.value);
      calls_kept : first.calls l.initial.callback.value ≤ now.calls l.callback.value;
      bad_kept : first.bad l.initial.callback.value ≤ now.bad l.callback.value;
      own : kind ≡ Own → OwnSoFar spec.batchers messages rest l.replies.items;
      lawful : RepliesSoFar (IsLawful (first.law l.initial.callback.value)) messages rest l.replies.items;
      counts : kind ≡ Own → CallsSoFar (first.calls l.initial.callback.value) (now.calls l.callback.value) (first.bad l.initial.callback.value) (now.bad l.callback.value) l.replies.items;
      told : IsTrue (first.told l.initial.callback.value) → ToldSoFar replies_by (first.said l.initial.callback.value) (now.said l.callback.value) l.replies.items;
    }
