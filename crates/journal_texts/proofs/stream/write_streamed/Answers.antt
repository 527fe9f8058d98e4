use Rattle.std.proofs.Common.{sym}
use Rattle.journal_texts.proofs.stream.write_streamed.Goals as goal

pub returns-clause-told : goal.returns-clause-told
returns-clause-told g c = rw (c.sink-1.given.1 (sym c.stream_text.ensures.same_reference)) c.stream_text.ensures.streamed.told

pub returns-clause-stay : goal.returns-clause-stay
returns-clause-stay g c = rw (c.sink-1.given.1 (sym c.stream_text.ensures.same_reference)) c.stream_text.ensures.streamed.stay

pub returns-clause-fault : goal.returns-clause-fault
returns-clause-fault g c failed = rw (c.sink-1.given.1 (sym c.stream_text.ensures.same_reference)) (c.stream_text.ensures.streamed.fault failed)

pub returns-clause-whole : goal.returns-clause-whole
returns-clause-whole g c whole told = rw (c.sink-1.given.1 (sym c.stream_text.ensures.same_reference)) (c.stream_text.ensures.streamed.all whole told)

pub returns-clause-begun : goal.returns-clause-begun
returns-clause-begun g c told = rw (c.sink-1.given.1 (sym c.stream_text.ensures.same_reference)) (c.stream_text.ensures.streamed.begun told)
