use Rattle.std.proofs.Common.{◌≡◌, ◌≤◌, ◌+◌, ◌*◌, drop}
use Rattle.core_rows.proofs.Fetched.{out_among}
use Rattle.core_rows.proofs.jobs.fetches_out.Given as goal

abbrev pub invariant-loop-spec : goal.invariant-loop-spec
invariant-loop-spec l =
    record {
      out : l.out + out_among l.core.journal.steps (drop l.spec-index l.spec-items) ≡ out_among l.core.journal.steps l.spec-items;
      few : l.out ≤ l.spec-index * 4294967296;
    }
