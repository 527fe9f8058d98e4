use Rattle.std.proofs.Common.{refl}
use Rattle.body_jobs.proofs.Children.{kept_on, after_reset, alone}
use Rattle.body_jobs.proofs.Sources.{untouched}
use Rattle.stage_callback.proofs.Resets.{none_counted}
use Rattle.body_jobs.proofs.work.answer_child.Goals as goal

pub returns-in-Ok-clause-done : goal.returns-in-Ok-clause-done
returns-in-Ok-clause-done g c =
    let r = c.start_over.ensures in
    let e = c.in-Ok.ensures in
    rw c.in-Some.is (
      after_reset r.kept r.zero r.no_answer r.resets (record {
        kept = record {
          kind = e.same.0;
          spec = e.same.1;
          law = e.same_law.0;
          told = e.same.2;
          calls = e.never_fall.0;
          bad = e.never_fall.1;
          no_calls = λ not_own. (e.no_counts not_own).0;
          no_bad = λ not_own. (e.no_counts not_own).1;
        };
        by_rules = e.replies;
        count = λ not_own _. e.count not_own;
        calm = e.calm;
        shape = λ own all. e.shape own (alone _ _ all);
        lawful = e.lawful;
        resets = λ own. none_counted _ _ e.same_law.1;
        calls = e.calls;
        bad = λ own some. e.bad own (alone _ _ some);
        by_answers = e.by_answers;
      }),
      refl,
      refl,
    )

pub returns-in-Err-clause-cut_off : goal.returns-in-Err-clause-cut_off
returns-in-Err-clause-cut_off g c =
    let e = c.in-Err.ensures in
    record {
      source = untouched _;
      sink = refl;
      callback = rw c.in-Some.is (kept_on c.start_over.ensures.kept (record {
        kind = e.same.0;
        spec = e.same.1;
        law = e.same_law.0;
        told = e.same.2;
        calls = e.never_fall.0;
        bad = e.never_fall.1;
        no_calls = λ not_own. (e.no_counts not_own).0;
        no_bad = λ not_own. (e.no_counts not_own).1;
      }));
    }
