use Rattle.body_jobs.proofs.Merges.{merge_fetched, merge_unread}
use Rattle.std.specs.declared.alloc.AllocError.{AllocError}
use Rattle.body_jobs.proofs.fetch.fetch_merge.Goals as goal

pub returns-in-Ok-clause-done : goal.returns-in-Ok-clause-done
returns-in-Ok-clause-done g c =
    let f = c.in-Ok.ensures in
    merge_fetched AllocError g.S.ByteSource c.args.merge.now c.fetch.new.self c.in-Ok.fetched _ c.outcome_of.ensures
    (record { merged = f.merged; each_is_a_line = f.each_is_a_line; cause = f.cause; rises = f.rises; remembers = f.remembers; again = f.again; waits_stay = f.waits_stay; unpaced = f.unpaced })

pub returns-in-Err-clause-cut_off : goal.returns-in-Err-clause-cut_off
returns-in-Err-clause-cut_off g c =
    let f = c.in-Err.ensures in
    merge_unread g.S.ByteSource c.args.merge.now c.fetch.new.self c.in-Err.e
    (record { merged = f.merged; each_is_a_line = f.each_is_a_line; cause = f.cause; rises = f.rises; remembers = f.remembers; again = f.again; waits_stay = f.waits_stay; unpaced = f.unpaced })
