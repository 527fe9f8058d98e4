use Rattle.std.proofs.Common.{◌≡◌, length, arith, inl, inr, ◌∙◌}
use Rattle.std.proofs.lemmas.List.{take_rest}
use Rattle.pipe_edges.proofs.SearchLaws.{cut_step, too_long_at, no_whole_line}
use Rattle.pipe_edges.proofs.held.cut.Goals as goal
use Rattle.pipe_edges.proofs.held.cut.Goals.{else-loop-test, then-loop-test+in-Some-2, then-loop-test+in-None}

pub loop-preserved : goal.loop-preserved
loop-preserved c =
    let before = c.loop.invariant in
    let step = cut_step c.args.bytes.now _ _ _ c.loop.used c.loop.searched c.in-Some.at _ before.cut (take_rest c.args.bytes.now c.loop.used) c.in-Some.ensures.found c.if-at-le-MAX_LINE.true (c.from_vec.ensures ∙ c.in_ok-from_slice-in-Some.ensures.items) c.in_ok-push-in-Some.ensures.items in
    record { cut = step.0; counted = omega (arith, step.1, before.counted) }

pub returns-clause-all : goal.returns-clause-all
returns-clause-all c =
    let counted : length c.loop.records.items ≡ c.loop.counter = c.loop.invariant.counted in
    let rest = take_rest c.args.bytes.now c.loop.used in
    elim c.loop-test.branch [
      | else-loop-test w ↦ record { at_most = omega arith; all_whole = inl (omega arith) }
      | then-loop-test+in-Some-2 w ↦ record {
        at_most = omega arith;
        all_whole = inr (inr (too_long_at _ w.in-Some.at (rw rest at w.in-Some.ensures.found) (omega arith)));
      }
      | then-loop-test+in-None w ↦ record {
        at_most = omega arith;
        all_whole = inr (no_whole_line _ (rw rest at w.in-None.ensures.none));
      }
    ]
