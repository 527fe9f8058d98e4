use Rattle.std.proofs.Common.{◌≡◌, pos, rules}
use Rattle.toml.specs.Data.{integer}
use Rattle.toml.specs.View.{view}
use Rattle.pipe_config.proofs.Upgraded.{set_view}
use Rattle.pipe_config.proofs.version2.set_version.Goals as goal

pub returns-in-Ok : goal.returns-in-Ok
returns-in-Ok c =
    let seen : view c.from.result ≡ integer (pos 2) = search (rules, c.from.ensures) in
    rw c.in-Ok.ensures.entries (set_view c.args.table.now.entries c.in_ok-key.key c.from.result _ _ c.in_ok-key.ensures.ok seen)
