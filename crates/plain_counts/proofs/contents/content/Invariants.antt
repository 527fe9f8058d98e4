use Rattle.std.proofs.Common.{◌≡◌, take}
use Rattle.pipe_model.specs.History.{history}
use Rattle.pipe_model.specs.Content.{content}
use Rattle.std.specs.Prelude.{option_map}
use Rattle.plain_counts.specs.Seen.{message_seen}
use Rattle.plain_counts.proofs.contents.content.Given as goal

abbrev pub invariant-loop-i : goal.invariant-loop-i
invariant-loop-i l = option_map message_seen l.seen ≡ content (history (take l.i l.steps)) l.n
