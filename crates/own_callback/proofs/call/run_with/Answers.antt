use Rattle.std.proofs.Common.{refl, inl, codes}
use Rattle.box_stock.specs.Lends.{kinds_of}
use Rattle.own_callback.proofs.Cased.{accepted, cased, counted, whole_run, written_first}
use Rattle.own_callback.proofs.call.run_with.Goals as goal

pub returns-clause-status : goal.returns-clause-status
returns-clause-status g c =
    (cased _ _ _ (kinds_of g.C.Boxed.seen c.args.stock.items) _ _ c.in_ok-words.ensures c.requires.least c.requires.most c.run_program-end.ensures.call c.in_ok-edges.ensures.file).has_status

pub returns-clause-ended : goal.returns-clause-ended
returns-clause-ended g c low =
    (cased _ _ _ (kinds_of g.C.Boxed.seen c.args.stock.items) _ _ c.in_ok-words.ensures c.requires.least c.requires.most c.run_program-end.ensures.call c.in_ok-edges.ensures.file).ended (inl low)

pub returns-clause-output : goal.returns-clause-output
returns-clause-output g c low =
    let call = cased _ _ _ (kinds_of g.C.Boxed.seen c.args.stock.items) _ _ c.in_ok-words.ensures c.requires.least c.requires.most c.run_program-end.ensures.call c.in_ok-edges.ensures.file in
    written_first _ _ _ c.in_ok-out.ensures.held (call.report (inl low) refl)

pub returns-clause-lines : goal.returns-clause-lines
returns-clause-lines g c low =
    accepted _ _ _ _ (codes "mem:a") c.args.lines.now
    (whole_run _ _ _ (kinds_of g.C.Boxed.seen c.args.stock.items) _ _ _ _ _ _ _ _ _ _ c.in_ok-words.ensures c.requires.least c.requires.most c.run_program-end.ensures.call c.in_ok-edges.ensures.file low)
    refl c.in_ok-edges.ensures.lines

pub returns-clause-counted : goal.returns-clause-counted
returns-clause-counted g c low =
    counted _ _ _ _ _
    (whole_run _ _ _ (kinds_of g.C.Boxed.seen c.args.stock.items) _ _ _ _ _ _ _ _ _ _ c.in_ok-words.ensures c.requires.least c.requires.most c.run_program-end.ensures.call c.in_ok-edges.ensures.file low)
    refl
