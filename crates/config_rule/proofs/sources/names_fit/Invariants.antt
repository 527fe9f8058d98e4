use Rattle.std.proofs.Common.{◌≡◌, ◌+◌, length}
use Rattle.std.specs.List.{list_all}
use Rattle.config_rule.specs.SourceText.{parts, is_name}
use Rattle.config_rule.proofs.sources.names_fit.Given as goal

-- the names before the rest are none of them empty
abbrev pub invariant-loop-before : goal.invariant-loop-before
invariant-loop-before l = record {
  count : length (parts l.names) ≡ l.before + length (parts l.rest);
  named : list_all is_name (parts l.names) ≡ list_all is_name (parts l.rest);
}
