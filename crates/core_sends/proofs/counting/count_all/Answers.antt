use Rattle.std.proofs.Common.{drop, ◌∙◌, arith, get_or, ap, sym}
use Rattle.std.specs.Prelude.{option_map}
use Rattle.std.proofs.lemmas.List.{drop_all}
use Rattle.pipe_types.specs.declared.numbers.SubNo.{SubNo}
use Rattle.stage_subs.specs.Subs.{row_at, row_of, sent_more}
use Rattle.core_tables.specs.Tables.{count_between}
use Rattle.core_tables.proofs.Tables.{no_unit}
use Rattle.core_sends.proofs.Counted.{live_still, room_still, count_some, count_less, counted_step, row_none}
use Rattle.core_sends.proofs.counting.count_all.Goals as goal

pub sent-requires-clause-live : goal.sent-requires-clause-live
sent-requires-clause-live c =
    let l = c.loop-sent in
    let u : SubNo = (get_or c.args.units.now l.sent-index no_unit).sub in
    live_still (count_between (drop l.sent-index c.args.units.now) u.consumer u.producer) (count_between c.args.units.now u.consumer u.producer) u.generation
    (row_of l.subs u) (row_of c.args.subs.now u) (l.invariant u.consumer u.producer) ∙ c.requires.live l.sent-index no_unit (omega arith)

pub sent-requires-clause-within : goal.sent-requires-clause-within
sent-requires-clause-within c =
    let l = c.loop-sent in
    let u : SubNo = (get_or c.args.units.now l.sent-index no_unit).sub in
    room_still (count_between (drop l.sent-index c.args.units.now) u.consumer u.producer) (count_between c.args.units.now u.consumer u.producer) u.generation
    (row_of l.subs u) (row_of c.args.subs.now u) (l.invariant u.consumer u.producer) (c.requires.live l.sent-index no_unit (omega arith))
    (c.requires.asked l.sent-index no_unit (omega arith)) (count_some c.args.units.now l.sent-index no_unit (omega arith))
    (count_less c.args.units.now l.sent-index u.consumer u.producer)

pub loop-sent-preserved : goal.loop-sent-preserved
loop-sent-preserved c =
    let l = c.loop-sent in
    λ x y. counted_step l.subs c.sent.new.self c.args.units.now l.sent-index no_unit (omega arith) c.sent.ensures.sent x y ∙ l.invariant x y

pub returns : goal.returns
returns c =
    let l = c.loop-sent in
    λ x y. sym (row_none (row_at l.subs x y))
    ∙ (ap (λ us. option_map (sent_more (count_between us x y)) (row_at l.subs x y)) (sym (drop_all l.sent-index c.args.units.now (omega arith))) ∙ l.invariant x y)
