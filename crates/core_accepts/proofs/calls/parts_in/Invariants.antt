use Rattle.std.proofs.Common.{◌≡◌, take, map}
use Rattle.core_laws.specs.Enrolled.{record_part}
use Rattle.core_accepts.proofs.calls.parts_in.Given as goal

abbrev pub invariant-loop-payload : goal.invariant-loop-payload
invariant-loop-payload l = l.parts.items ≡ map (record_part l.spec) (take l.payload-index l.records)
