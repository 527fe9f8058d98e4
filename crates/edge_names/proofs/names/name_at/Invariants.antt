use Rattle.std.proofs.Common.{◌≡◌, ◌+◌, ℕ}
use Rattle.std.specs.Prelude.{slice_get}
use denote.Text.{Utf8}
use denote.Shadow.{shadow}
use Rattle.config_rule.specs.SourceText.{parts}
use Rattle.edge_names.proofs.names.name_at.Given as goal

abbrev pub invariant-loop : goal.invariant-loop
invariant-loop l = shadow (Utf8 l.rest) × ((j k : ℕ) → j ≡ l.counter + k → slice_get (parts l.names) j ≡ slice_get (parts l.rest) k)
