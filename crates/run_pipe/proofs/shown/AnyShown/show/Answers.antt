use Rattle.std.proofs.Common.{◌∙◌, sym}
use Rattle.run_pipe.proofs.Watching.{failed_by}
use Rattle.run_pipe.proofs.shown.AnyShown.show.Goals as goal

pub returns-clause-suits : goal.returns-clause-suits
returns-clause-suits g c = λ topology fits. (c.seen.ensures.same_fit topology).1 fits

pub returns-clause-kept : goal.returns-clause-kept
returns-clause-kept g c = record {
  begun = c.seen.ensures.same_begun;
  faulty = λ t f. c.seen.ensures.cause (failed_by c.seen.result (sym c.seen.ensures.failed ∙ t));
  faults_stay = c.seen.ensures.faults_stay;
}
