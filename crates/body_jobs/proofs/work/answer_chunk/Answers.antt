use Rattle.std.proofs.Common.{refl}
use Rattle.stage_callback.proofs.Resets.{none_counted}
use Rattle.body_jobs.proofs.work.answer_chunk.Goals as goal

pub returns-in-Ok-clause-done : goal.returns-in-Ok-clause-done
returns-in-Ok-clause-done g c =
    let e = c.in-Ok.ensures in
    rw c.in-Some.is (
      record {
        kept = record {
          kind = e.same.0;
          spec = e.same.1;
          law = e.same_law.0;
          told = e.same.2;
          calls = e.never_fall.0;
          bad = e.never_fall.1;
          no_calls = λ not_own. (e.no_counts not_own).0;
          no_bad = λ not_own. (e.no_counts not_own).1;
        };
        by_rules = e.replies;
        count = e.count;
        calm = e.calm;
        shape = e.shape;
        lawful = e.lawful;
        resets = λ own. none_counted _ _ e.same_law.1;
        calls = e.calls;
        bad = e.bad;
        by_answers = e.by_answers;
      },
      refl,
      refl,
    )
