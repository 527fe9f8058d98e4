use Rattle.std.proofs.Common.{◌≡◌, ◌+◌, ◌-◌, ◌≤◌, ◌++◌, replicate, vec_len, vec_capacity}
use Rattle.pipe_types.specs.declared.message.Place.TheVariants.{Lost}
use Rattle.core_lates.proofs.losses.lose_new.Given as goal

abbrev pub invariant-loop-k : goal.invariant-loop-k
invariant-loop-k l =
    record {
      new : l.places.items ≡ l.fn.places.items ++ replicate l.k (Lost l.loss);
      room : vec_len l.places + (l.count - l.k) ≤ vec_capacity l.places;
      capacity : vec_capacity l.places ≡ vec_capacity l.fn.places;
    }
