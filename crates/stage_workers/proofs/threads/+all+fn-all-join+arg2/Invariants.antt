use Rattle.stage_workers.proofs.threads.+all+fn-all-join+arg2.Given as goal

abbrev pub decreases-all : goal.decreases-all
decreases-all g l = l.more

abbrev pub decreases-join+arg2 : goal.decreases-join+arg2
decreases-join+arg2 g l = l.rest
