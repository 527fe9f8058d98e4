-- The step that a view shows.
use Rattle.pipe_types.specs.declared.step.Step.{Step}
use Rattle.pipe_types.specs.declared.step.LateAnswer.{LateAnswer}
use Rattle.std.specs.Prelude.{replicate}
use Rattle.pipe_types.specs.declared.message.BatchEnd.{BatchEnd}
use Rattle.pipe_types.specs.declared.message.Outcome.{Outcome}
use Rattle.pipe_journal.specs.declared.view.EndView.{EndView}
use Rattle.pipe_journal.specs.declared.view.AnswerView.{AnswerView}
use Rattle.pipe_journal.specs.declared.view.StepView.{StepView}
use Rattle.pipe_journal.specs.Items.{reply_seen, records_seen, replies_seen}

abbrev pub end_seen : EndView → BatchEnd
end_seen (EndView.Outcomes outcomes) = BatchEnd.Outcomes outcomes.now
end_seen (EndView.Successes count) = BatchEnd.Outcomes (replicate count Outcome.Successful)
end_seen EndView.Crashed = BatchEnd.Crashed

abbrev pub answer_seen : AnswerView → LateAnswer
answer_seen (AnswerView.Records records) = LateAnswer.Records records.now
answer_seen AnswerView.Quiet = LateAnswer.Quiet
answer_seen (AnswerView.Source how) = LateAnswer.Source how
answer_seen (AnswerView.Wrote bytes end) = LateAnswer.Wrote bytes (end_seen end)
answer_seen AnswerView.Nothing = LateAnswer.Nothing

-- each reference stands for what it points to
abbrev pub step_seen : StepView → Step
step_seen (StepView.Ask sub n) = Step.Ask sub n
step_seen (StepView.Fetch s n) = Step.Fetch s n
step_seen (StepView.Accept s records) = Step.Accept s (records_seen records)
step_seen (StepView.Quiet s) = Step.Quiet s
step_seen (StepView.SourceEnd s how) = Step.SourceEnd s how
step_seen (StepView.Dispatch s) = Step.Dispatch s
step_seen (StepView.Take s sub k) = Step.Take s sub k
step_seen (StepView.Done s replies) = Step.Done s (replies_seen replies)
step_seen (StepView.Gather s m) = Step.Gather s m
step_seen (StepView.Close s first trigger) = Step.Close s first trigger
step_seen (StepView.Wrote s bytes end) = Step.Wrote s bytes (end_seen end)
step_seen (StepView.Child s m slot) = Step.Child s m slot
step_seen (StepView.ChildEnd s slot reply) = Step.ChildEnd s slot (reply_seen reply)
step_seen (StepView.Kill s why) = Step.Kill s why
step_seen (StepView.Late s slot incarnation answer) = Step.Late s slot incarnation (answer_seen answer)
step_seen (StepView.Restart s) = Step.Restart s
step_seen (StepView.Tick now) = Step.Tick now
step_seen (StepView.Drain cause) = Step.Drain cause
step_seen StepView.Halt = Step.Halt
step_seen (StepView.Refuse line) = Step.Refuse line
