use Rattle.std.proofs.Common.{sym, subst}
use Rattle.run_pipe.specs.Whole.{IsWhole}
use Rattle.run_pipe.proofs.Views.{made_of}
use Rattle.run_pipe.proofs.pipe.Pipe.into_parts.Goals as goal

pub returns-clause-whole : goal.returns-clause-whole
returns-clause-whole g c =
    let i = c.self.inside in
    subst IsWhole (sym (made_of g.B.Works.look g.S.ByteSource g.C.Clock g.W.Shown _ i.core i.bodies.items i.control i.clock i.watch i.end c.self.view_is)) c.self.invariant.whole

pub returns-clause-parts : goal.returns-clause-parts
returns-clause-parts g c =
    let i = c.self.inside in
    made_of g.B.Works.look g.S.ByteSource g.C.Clock g.W.Shown _ i.core i.bodies.items i.control i.clock i.watch i.end c.self.view_is
