-- What a journal says of the reads, the writes and the answers of a post.
use Rattle.std.specs.Prelude.{ℕ, ◌+◌, Bool, true, false, if◌then◌else◌, [], ◌∷◌, length, nat_lt, not, ◌&&◌, count_by}
use Rattle.std.specs.List.{list_all}
use Rattle.pipe_types.specs.declared.numbers.StageNo.{StageNo}
use Rattle.pipe_types.specs.declared.numbers.Post.{Post}
use Rattle.pipe_types.specs.declared.step.LateAnswer.TheVariants.{Wrote as WroteLate}
use Rattle.pipe_types.specs.declared.step.Step.{Step}
use Rattle.pipe_types.specs.declared.step.Step.TheVariants.{Done, Wrote, ChildEnd, Late, Restart}
use Rattle.pipe_types.specs.declared.topology.Topology.{Topology}
use Rattle.pipe_types.specs.Numbers.{post, same_stage, same_post}
use Rattle.pipe_model.specs.History.{History}
use Rattle.pipe_model.specs.Legal.{has_role, is_supervisor_role}
use Rattle.pipe_model.specs.Outside.{text_taken}
use Rattle.stage_callback.specs.Callbacks.{is_passed}
use Rattle.stage_bodies.specs.Jobs.{is_bad_end}

abbrev pub one_more : Bool → ℕ → ℕ
one_more true old = old + 1
one_more false old = old

abbrev pub short_after : Topology → History → Step → StageNo → ℕ → ℕ
short_after topology before (Wrote s bytes end) t old =
    one_more (same_stage s t && nat_lt bytes (length (text_taken topology before s end))) old
short_after topology before (Late s slot i (WroteLate bytes end)) t old =
    one_more (same_stage s t && nat_lt bytes (length (text_taken topology before s end))) old
short_after topology before _ t old = old

-- how many writes of the stage had fewer bytes than their text
abbrev pub short_writes : Topology → History → StageNo → ℕ
short_writes topology [] s = 0
short_writes topology (step ∷ before) s = short_after topology before step s (short_writes topology before s)

abbrev pub calls_after : Step → Post → ℕ → ℕ
calls_after (Done s replies) p old = if same_post p (post s 0) then old + count_by is_passed replies else old
calls_after (Wrote s bytes end) p old = one_more (same_post p (post s 0)) old
calls_after (ChildEnd s slot reply) p old = one_more (same_post p (post s slot) && is_passed reply) old
calls_after _ p old = old

-- the least calls of the post's callback: one for each message that passed, and one for each batch
abbrev pub calls_of : History → Post → ℕ
calls_of [] p = 0
calls_of (step ∷ before) p = calls_after step p (calls_of before p)

abbrev pub bad_after : Step → Post → ℕ → ℕ
bad_after (Done s replies) p old = one_more (same_post p (post s 0) && not (list_all is_passed replies)) old
bad_after (Wrote s bytes end) p old = one_more (same_post p (post s 0) && is_bad_end end) old
bad_after (ChildEnd s slot reply) p old = one_more (same_post p (post s slot) && not (is_passed reply)) old
bad_after _ p old = old

-- the least bad answers of the post's callback: one for each answer with a reply that is no pass, with a crash, or with an
-- outcome that is neither success nor the sink's failure
abbrev pub bad_of : History → Post → ℕ
bad_of [] p = 0
bad_of (step ∷ before) p = bad_after step p (bad_of before p)

abbrev pub resets_after : Topology → Step → Post → ℕ → ℕ
resets_after topology (Restart s) p old = one_more (same_stage p.stage s) old
resets_after topology (ChildEnd s slot reply) p old = one_more (same_post p (post s slot)) old
resets_after topology (Late s slot i answer) p old = one_more (same_post p (post s slot) && has_role topology s is_supervisor_role) old
resets_after topology _ p old = old

-- the resets of the post's callback: one for each restart of its stage, and one for each message of a child that was answered,
-- also late
abbrev pub resets_of : Topology → History → Post → ℕ
resets_of topology [] p = 0
resets_of topology (step ∷ before) p = resets_after topology step p (resets_of topology before p)
