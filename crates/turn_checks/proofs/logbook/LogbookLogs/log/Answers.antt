use Rattle.std.proofs.Common.{refl, sym, ap, Some, None}
use Rattle.turn_checks.specs.Tokens.{away_from, brought_post, entry_post}
use Rattle.turn_checks.proofs.Outs.{begins_through}
use Rattle.turn_checks.proofs.Homes.{away_as}
use Rattle.turn_checks.proofs.logbook.LogbookLogs.log.Goals as goal

pub returns-in-Some-clause-stems : goal.returns-in-Some-clause-stems
returns-in-Some-clause-stems c = λ origin b. begins_through _ _ _ c.bring.ensures.begins b

pub returns-in-Some-clause-away : goal.returns-in-Some-clause-away
returns-in-Some-clause-away c = let before = away_from 0 c.args.self.now.tokens.items in
    away_as (Some c.in-Some.job.post) (brought_post c.args.brought) None None before before (away_from 0 c.bring.new.self.tokens.items) (sym (ap brought_post c.in-Some.is)) refl refl c.bring.ensures.back

pub returns-in-None-clause-stems : goal.returns-in-None-clause-stems
returns-in-None-clause-stems c = λ origin b. begins_through _ _ _ c.put_out.ensures.begins b

pub returns-in-None-clause-away : goal.returns-in-None-clause-away
returns-in-None-clause-away c = let before = away_from 0 c.args.self.now.tokens.items in
    let post = entry_post c.put_out.result in
    away_as None (brought_post c.args.brought) post post before before (away_from 0 c.put_out.new.self.tokens.items) (sym (ap brought_post c.in-None.is)) refl refl c.put_out.ensures.away
