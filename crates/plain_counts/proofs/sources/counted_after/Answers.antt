use Rattle.std.proofs.Common.{ℕ, ◌+◌, ◌∙◌, Bool, ap}
use Rattle.std.specs.Prelude.{nat_le, if◌then◌else◌}
use Rattle.pipe_model.specs.History.{history, now}
use Rattle.plain_counts.specs.Limits.{is_under}
use Rattle.plain_counts.proofs.Restarted.{counted_step}
use Rattle.plain_counts.proofs.sources.counted_after.Goals as goal

pub returns : goal.returns
returns c =
    let topology = c.args.topology.now in
    let step = c.args.step.now in
    let before = history c.args.before.now in
    let soon : Bool = nat_le c.args.time (now before + c.args.window_ms) in
    c.in_ok-count.ensures
    ∙ (ap (λ (b : Bool). if b then (if soon then c.args.old + 1 else c.args.old) else c.args.old) c.is_under-is_restart.ensures
    ∙ (ap (λ (n : ℕ). if is_under topology step c.args.at then (if soon then n + 1 else n) else n) c.requires
    ∙ counted_step topology c.args.window_ms c.args.time c.args.at step before))
