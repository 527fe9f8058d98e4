use Rattle.std.proofs.Common.{◌≡◌, ◌≤◌, length, arith}
use Rattle.std.specs.Prelude.{slice_get}
use Rattle.line_merge.specs.Items.{lines_from, given_by}
use Rattle.line_merge.proofs.Ranges.{gives_then}
use Rattle.line_merge.proofs.Rounds.{in_first, round_in, none_past}
use Rattle.line_merge.proofs.tries.next_round.Goals as goal

pub returns-in-Ok-Some-clause-cause : goal.returns-in-Ok-Some-clause-cause
returns-in-Ok-Some-clause-cause g c =
    in_first g.B.ByteSource c.args.first c.len-count.result (slice_get c.args.streams.now.items) (slice_get c.try_range.new.streams.items) c.in-Ok-Some.item
    (rw c.in-Ok-Some.field-0-is at c.in-Ok-Some.ensures.cause)

pub returns-in-Ok-None-clause-gives : goal.returns-in-Ok-None-clause-gives
returns-in-Ok-None-clause-gives g c k =
    gives_then g.B.ByteSource (lines_from k (given_by c.rest_of_round.result)) (slice_get c.args.streams.now.items k) (slice_get c.try_range.new.streams.items k) (slice_get c.rest_of_round.new.streams.items k)
    (rw c.in-Ok-None.field-0-is at (c.in-Ok-None.ensures.gives k)) (c.rest_of_round.ensures.gives k)

pub returns-in-Ok-None-clause-cause : goal.returns-in-Ok-None-clause-cause
returns-in-Ok-None-clause-cause g c =
    let old = c.args.streams.now.items in
    let mid = c.try_range.new.streams.items in
    let new = c.rest_of_round.new.streams.items in
    let count = c.len-count.result in
    let same : length mid ≡ length old = c.in-Ok-None.ensures.len in
    let last : length new ≡ length mid = c.rest_of_round.ensures.len in
    let all : length old ≤ count = omega (arith, c.len-count.ensures, c.args.streams.now.ok) in
    let all_new : length new ≤ count = omega (arith, all, same, last) in
    round_in g.B.ByteSource c.args.first count (slice_get old) (slice_get mid) (slice_get new) c.rest_of_round.result
    (λ k past. none_past old count k all past) (λ k past. none_past new count k all_new past)
    (rw c.in-Ok-None.field-0-is at c.in-Ok-None.ensures.cause) c.rest_of_round.ensures.cause
