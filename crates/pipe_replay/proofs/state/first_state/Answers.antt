use Rattle.std.proofs.Common.{length, ap, arith}
use Rattle.plain_lives.specs.Lives.{generation_by}
use Rattle.pipe_model.specs.Lives.{reason_in}
use Rattle.pipe_replay.proofs.state.first_state.Goals as goal

pub returns : goal.returns
returns c = λ topology. record {
  lives = record {
    deaths = λ s. ap (λ set. reason_in set s) c.new.ensures.items;
    generations = λ s p. ap (λ renewals. generation_by renewals s p) c.new-2.ensures.items;
  };
  tables = c.no_tables.ensures topology;
  works = c.no_works.ensures topology;
  settled = record { long = ap length c.new-3.ensures.items; each = λ i within. absurd (omega (arith, within, ap length c.new-3.ensures.items)) };
}
