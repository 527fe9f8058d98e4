use Rattle.std.proofs.Common.{sym, subst}
use Rattle.run_pipe.specs.Seen.{state_of}
use Rattle.run_pipe.specs.Whole.{IsWhole}
use Rattle.run_pipe.specs.Serves.{Serves}
use Rattle.run_pipe.proofs.Serving.{served_once, served_on, served_load, served_brings}
use Rattle.run_pipe.proofs.Views.{made_of}
use Rattle.run_pipe.proofs.pipe.Pipe.serve.Goals as goal

pub loop-init : goal.loop-init
loop-init g c = served_once g.B.Works.look c.args.brought c.hold-round.result (state_of c.args.self.now) (state_of c.hold-round.new.self) c.hold-round.ensures.rounded

pub work-requires : goal.work-requires
work-requires g c =
    let look = g.B.Works.look in
    let old = state_of c.args.self.now in
    let middle = state_of c.loop.self in
    let s = subst (λ r. Serves look c.args.brought r old middle) c.in-Job.is c.loop.invariant in
    record { fits = (served_load look c.args.brought old middle c.in-Job.load s c.requires.home).fits }

pub hold-round-requires-in-Job : goal.hold-round-requires-in-Job
hold-round-requires-in-Job g c =
    let look = g.B.Works.look in
    let old = state_of c.args.self.now in
    let middle = state_of c.loop.self in
    let s = subst (λ r. Serves look c.args.brought r old middle) c.in-Job.is c.loop.invariant in
    record { home = served_brings look c.args.brought old middle c.in-Job.load s c.work.result c.work.ensures.post c.work.ensures.outcome c.requires.home }

pub loop-preserved : goal.loop-preserved
loop-preserved g c =
    let look = g.B.Works.look in
    let i = c.self.inside in
    let old = state_of c.args.self.now in
    let middle = state_of c.loop.self in
    let s = subst (λ r. Serves look c.args.brought r old middle) c.in-Job.is c.loop.invariant in
    served_on look c.args.brought old middle c.in-Job.load s c.work.result c.work.ensures.post c.work.ensures.outcome c.hold-round-in-Job.result (state_of c.hold-round-in-Job.new.self) c.hold-round-in-Job.ensures.rounded
    (subst IsWhole (sym (made_of look g.S.ByteSource g.C.Clock g.W.Shown _ i.core i.bodies.items i.control i.clock i.watch i.end c.self.view_is)) c.self.invariant.whole)
