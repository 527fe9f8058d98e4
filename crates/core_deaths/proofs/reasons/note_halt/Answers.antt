use Rattle.core_deaths.proofs.Deaths.{limits_are}
use Rattle.core_deaths.proofs.reasons.note_halt.Goals as goal

pub returns : goal.returns
returns c = record { killed = limits_are c.args.core.now c.note_limit.new.killed c.args.killed.now c.deref.result.now c.requires.holds c.deref.ensures.value c.requires.rows c.note_limit.ensures.killed }
