use Rattle.pipe_top.proofs.Clauses.{fault_by}
use Rattle.pipe_top.proofs.Promises.{call_in, run_in, known_in, unwritten_in, unwritten_nine_in, usage_in, no_command_in, eight_in, none_ran_in, not_opened_in}
use Rattle.pipe_top.proofs.program.run_program.Goals as goal

pub returns-clause-known : goal.returns-clause-known
returns-clause-known g c = known_in c.write_verdict-status.result c.run_words-verdict.ensures.came c.write_verdict-status.ensures.status

pub returns-clause-run : goal.returns-clause-run
returns-clause-run g c = run_in c.run_words-verdict.ensures.came

pub returns-clause-call : goal.returns-clause-call
returns-clause-call g c =
    let w = c.write_verdict-status.ensures in
    call_in _ _ _ _ c.write_verdict-status.result c.run_words-verdict.ensures.came (record {
      status_is = w.status;
      wanting = w.wanting;
      fault = w.fault;
      output = w.out;
      output_begun = w.out_begun;
      errors = w.err;
      errors_begun = w.err_begun;
      quiet = w.quiet;
    })

pub returns-clause-usage : goal.returns-clause-usage
returns-clause-usage g c seven = usage_in c.write_verdict-status.result c.run_words-verdict.ensures.came c.write_verdict-status.ensures.status seven

pub returns-clause-no_command : goal.returns-clause-no_command
returns-clause-no_command g c none = no_command_in c.write_verdict-status.result c.run_words-verdict.ensures.came c.write_verdict-status.ensures.status none

pub returns-clause-output_fault : goal.returns-clause-output_fault
returns-clause-output_fault g c eight =
    fault_by c.run_words-verdict.result.verdict _ _ (c.write_verdict-status.ensures.fault eight (eight_in c.run_words-verdict.ensures.came))

pub returns-clause-no_run : goal.returns-clause-no_run
returns-clause-no_run g c refusal = none_ran_in c.write_verdict-status.result c.run_words-verdict.ensures.came c.write_verdict-status.ensures.status refusal

pub returns-clause-no_output : goal.returns-clause-no_output
returns-clause-no_output g c refusal told =
    unwritten_in c.write_verdict-status.result _ _ c.run_words-verdict.ensures.came c.write_verdict-status.ensures.status refusal (λ eight. c.write_verdict-status.ensures.out eight told)

pub returns-clause-memory_out : goal.returns-clause-memory_out
returns-clause-memory_out g c nine told =
    let w = c.write_verdict-status.ensures in
    unwritten_nine_in c.write_verdict-status.result _ _ c.run_words-verdict.ensures.came nine (λ eight. w.out eight told) (w.nothing nine told)

pub returns-clause-not_opened : goal.returns-clause-not_opened
returns-clause-not_opened g c unopened =
    let same = not_opened_in c.write_verdict-status.result c.run_words-verdict.ensures.came c.write_verdict-status.ensures.status unopened in
    (same.sources, same.sinks)
