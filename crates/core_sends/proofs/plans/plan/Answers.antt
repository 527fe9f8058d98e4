use Rattle.std.proofs.Common.{◌≡◌, length, ◌∙◌, ap, sym, arith, subst, Some, false}
use Rattle.pipe_types.specs.Rooms.{AreAscending, PartsDiffer}
use Rattle.pipe_types.specs.Stages.{spec_of}
use Rattle.core_laws.specs.Columns.{part_of, is_broadcast}
use Rattle.pipe_types.specs.declared.topology.Topology.{Topology}
use Rattle.pipe_types.specs.declared.topology.StageSpec.{StageSpec}
use Rattle.pipe_types.specs.declared.numbers.StageNo.{StageNo}
use Rattle.pipe_model.specs.Flow.{waiting, kind_in}
use Rattle.core_laws.proofs.Lawful.{lawful}
use Rattle.core_laws.proofs.Parts.{rooms_differ}
use Rattle.core_sends.proofs.Queued.{live_within, waiting_read, long_queue, plan_is}
use Rattle.core_sends.proofs.plans.plan.Goals as goal

plain_here : (t : Topology) (s : StageNo) (spec : StageSpec) → spec_of t s ≡ Some spec → is_broadcast (kind_in (spec_of t s)) ≡ false → is_broadcast spec.dispatch ≡ false
plain_here t s spec there plain = sym (ap (λ o. is_broadcast (kind_in o)) there) ∙ plain

pub deliver-requires-clause-plain : goal.deliver-requires-clause-plain
deliver-requires-clause-plain c = plain_here c.args.core.now.topology c.args.stage c.in-Some.spec.now (sym c.in-Some.ensures) c.requires.plain

pub index-queue-requires : goal.index-queue-requires
index-queue-requires c =
    let w = live_within c.args.core.now.topology c.args.core.now.journal.steps c.args.stage c.requires.holds.sound c.requires.live in
    omega (arith, w.1, c.requires.holds.fields.sized.waiting)

pub deliver-requires-clause-ascending : goal.deliver-requires-clause-ascending
deliver-requires-clause-ascending c =
    let core = c.args.core.now in
    subst AreAscending (sym (c.deref.ensures.value ∙ c.in_ok-rooms.ensures)) (lawful.ascending core.topology core.journal.steps c.args.stage c.requires.holds.sound)

pub deliver-requires-clause-parts_differ : goal.deliver-requires-clause-parts_differ
deliver-requires-clause-parts_differ c =
    let core = c.args.core.now in
    subst PartsDiffer (sym (c.deref.ensures.value ∙ c.in_ok-rooms.ensures)) (rooms_differ core.topology core.journal.steps c.args.stage c.requires.holds.sound)

pub deliver-requires-clause-few : goal.deliver-requires-clause-few
deliver-requires-clause-few c =
    let core = c.args.core.now in
    let t = core.topology in
    let before = core.journal.steps in
    let w = live_within t before c.args.stage c.requires.holds.sound c.requires.live in
    let read = ap length (waiting_read core t before c.requires.holds.fields c.args.stage c.index-queue.result.now w.1 c.index-queue.ensures) in
    let long = long_queue (part_of t before (spec_of t c.args.stage)) (waiting t before c.args.stage) in
    omega (arith, read, long, c.requires.few)

pub returns : goal.returns
returns c =
    let core = c.args.core.now in
    let t = core.topology in
    let before = core.journal.steps in
    let w = live_within t before c.args.stage c.requires.holds.sound c.requires.live in
    let read = waiting_read core t before c.requires.holds.fields c.args.stage c.index-queue.result.now w.1 c.index-queue.ensures in
    let there : spec_of t c.args.stage ≡ Some c.in-Some.spec.now = sym c.in-Some.ensures in
    c.into_vec.ensures
    ∙ (c.in_ok-sent.ensures
    ∙ plan_is t before c.args.stage c.in-Some.spec.now c.index-queue.result.now.units c.deref.result.now c.args.more.now there read (c.deref.ensures.value ∙ c.in_ok-rooms.ensures) (plain_here c.args.core.now.topology c.args.stage c.in-Some.spec.now there c.requires.plain))
