use Rattle.rate_gate.proofs.source.GatedSourceByteSource.at.Goals as goal

pub returns-in-Some-clause-paced : goal.returns-in-Some-clause-paced
returns-in-Some-clause-paced g c = rw (← c.self.view_is, c.in-Some.is) (c.at-in-Some.ensures.paced (g.B.ByteSource.waits c.self.inside.inner))
