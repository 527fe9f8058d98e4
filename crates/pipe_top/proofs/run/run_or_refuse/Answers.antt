use Rattle.std.proofs.Common.{◌∙◌, sym, refl}
use Rattle.topology_needs.specs.Needs.{boxes_in, shortage_of}
use Rattle.box_stock.specs.Lends.{kinds_of}
use Rattle.pipe_top.proofs.Openings.{refused_topology}
use Rattle.pipe_top.proofs.Runnables.{case_is, enough}
use Rattle.pipe_top.proofs.run.run_or_refuse.Goals as goal

pub run_supplied-requires-clause-suffices : goal.run_supplied-requires-clause-suffices
run_supplied-requires-clause-suffices g c =
    let none = rw (c.boxes_in.ensures, c.as_slice.ensures.value) at (sym c.refusal_of.ensures.refusal ∙ c.in-None.is) in
    λ κs lives. enough (kinds_of g.C.Boxed.seen c.args.stock.items) c.args.topology none

pub returns-in-Some-clause-comes : goal.returns-in-Some-clause-comes
returns-in-Some-clause-comes g c =
    let r = c.refused in
    let why = rw (c.boxes_in.ensures, c.as_slice.ensures.value) at (sym c.refusal_of.ensures.refusal ∙ c.in-Some.is) in
    λ feeding fed. refused_topology _ _ c.args.shows c.args.live feeding c.args.topology (shortage_of c.args.topology (boxes_in (kinds_of g.C.Boxed.seen c.args.stock.items))) c.in-Some.refusal r.result.topology r.result.journal.steps r.result.verdict why r.ensures.verdict r.ensures.no_run
    (record { sources = refl; sinks = refl; clock = rw r.ensures.same_clock refl; boxes = rw r.ensures.same_boxes refl }) refl refl

pub returns-in-None-clause-comes : goal.returns-in-None-clause-comes
returns-in-None-clause-comes g c =
    let none = rw (c.boxes_in.ensures, c.as_slice.ensures.value) at (sym c.refusal_of.ensures.refusal ∙ c.in-None.is) in
    λ feeding fed. rw (case_is (boxes_in (kinds_of g.C.Boxed.seen c.args.stock.items)) c.args.shows c.args.live feeding c.args.topology none) (c.run_supplied.ensures.comes feeding fed)
