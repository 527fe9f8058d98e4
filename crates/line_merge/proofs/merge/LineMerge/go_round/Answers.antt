use Rattle.std.proofs.Common.{[]}
use Rattle.std.specs.Prelude.{slice_get}
use Rattle.line_merge.specs.Items.{lines_from, given_of}
use Rattle.line_merge.specs.Streams.{stream_at, merge_end_of}
use Rattle.line_merge.proofs.Merging.{merged_on, found_placed, none_placed, end_known, end_none, no_pace, sum_stays, rise_of}
use Rattle.line_merge.proofs.merge.LineMerge.go_round.Goals as goal

pub returns-in-Ok-clause-merged : goal.returns-in-Ok-clause-merged
returns-in-Ok-clause-merged g c opened given before =
    let source = g.B.ByteSource in
    let e = c.in-Ok.ensures in
    merged_on source opened c.args.self.now.streams.items c.next_round.new.streams.items (merge_end_of c.args.self.now) c.end-self.result given (given_of c.in-Ok.found) e.gives
    (rw c.end-self.ensures (end_known source c.place_after-first.result (stream_at c.args.self.now) c.next_round.new.streams.items c.in-Ok.found e.cause))
    (found_placed source c.place_after-first.result opened c.args.self.now.streams.items (merge_end_of c.args.self.now) given (slice_get c.next_round.new.streams.items) c.in-Ok.found before e.cause) before

pub returns-in-Ok-clause-unpaced : goal.returns-in-Ok-clause-unpaced
returns-in-Ok-clause-unpaced g c =
    no_pace g.B.ByteSource c.args.self.now.streams.items c.next_round.new.streams.items (merge_end_of c.args.self.now) c.end-self.result (λ k. lines_from k (given_of c.in-Ok.found)) c.in-Ok.ensures.gives

pub returns-in-Ok-clause-waits_stay : goal.returns-in-Ok-clause-waits_stay
returns-in-Ok-clause-waits_stay g c =
    sum_stays g.B.ByteSource c.args.self.now.streams.items c.next_round.new.streams.items (λ k. lines_from k (given_of c.in-Ok.found)) c.in-Ok.ensures.gives

pub returns-in-Ok-clause-rises : goal.returns-in-Ok-clause-rises
returns-in-Ok-clause-rises g c =
    rise_of g.B.ByteSource c.place_after-first.result c.args.self.now.streams.items c.next_round.new.streams.items c.in-Ok.found c.in-Ok.ensures.gives c.in-Ok.ensures.cause

pub returns-in-Err-next_round-clause-merged : goal.returns-in-Err-next_round-clause-merged
returns-in-Err-next_round-clause-merged g c opened given before =
    let known = merge_end_of c.args.self.now in
    merged_on g.B.ByteSource opened c.args.self.now.streams.items c.next_round.new.streams.items known known given [] c.in-Err-next_round.ensures.gives (end_none _ known c.in_default.is) (none_placed opened) before

pub returns-in-Err-next_round-clause-unpaced : goal.returns-in-Err-next_round-clause-unpaced
returns-in-Err-next_round-clause-unpaced g c =
    let known = merge_end_of c.args.self.now in
    no_pace g.B.ByteSource c.args.self.now.streams.items c.next_round.new.streams.items known known (λ k. []) c.in-Err-next_round.ensures.gives

pub returns-in-Err-next_round-clause-waits_stay : goal.returns-in-Err-next_round-clause-waits_stay
returns-in-Err-next_round-clause-waits_stay g c =
    sum_stays g.B.ByteSource c.args.self.now.streams.items c.next_round.new.streams.items (λ k. []) c.in-Err-next_round.ensures.gives
