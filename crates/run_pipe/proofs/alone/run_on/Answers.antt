use Rattle.run_pipe.specs.Seen.{state_of}
use Rattle.run_pipe.proofs.InHands.{round_is, hand_first, may_hold, hand_fits, hand_job, hand_again, hand_waits, hand_ended}
use Rattle.run_pipe.proofs.alone.run_on.Goals as goal

pub loop-init : goal.loop-init
loop-init g c =
    record { next = tt; finite = tt; hand = hand_first g.B.Works.look (state_of c.args.pipe.now) c.requires.none_away }

pub hold-requires : goal.hold-requires
hold-requires g c =
    record { home = may_hold g.B.Works.look (state_of c.args.pipe.now) (state_of c.loop.pipe) c.loop.brought c.loop.invariant.hand c.requires.stems }

pub work-requires : goal.work-requires
work-requires g c =
    record { fits = (hand_fits g.B.Works.look _ _ _ c.loop.invariant.hand _ c.in-Job.load (round_is g.B.Works.look _ _ _ c.in-Job.is c.hold.ensures.rounded) c.requires.stems).fits }

pub loop-preserved-in-Job : goal.loop-preserved-in-Job
loop-preserved-in-Job g c =
    let r = round_is g.B.Works.look _ _ _ c.in-Job.is c.hold.ensures.rounded in
    record { next = tt; finite = tt; hand = hand_job g.B.Works.look _ _ _ c.loop.invariant.hand _ c.in-Job.load c.work.result r c.work.ensures.post c.work.ensures.outcome }

pub loop-preserved : goal.loop-preserved
loop-preserved g c =
    record { next = tt; finite = tt; hand = hand_again g.B.Works.look _ _ _ c.loop.invariant.hand _ (round_is g.B.Works.look _ _ _ c.in-Again.is c.hold.ensures.rounded) }

pub unreachable-requires : goal.unreachable-requires
unreachable-requires g c = hand_waits g.B.Works.look _ _ _ c.loop.invariant.hand _ (round_is g.B.Works.look _ _ _ c.in-Waits.is c.hold.ensures.rounded)

pub returns-in-Ended : goal.returns-in-Ended
returns-in-Ended g c =
    record { ran = hand_ended g.B.Works.look _ _ _ c.loop.invariant.hand _ (round_is g.B.Works.look _ _ _ c.in-Ended.is c.hold.ensures.rounded) }
