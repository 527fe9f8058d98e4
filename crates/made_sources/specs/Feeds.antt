-- How producers are fed with generated records.
use Rattle.std.specs.Prelude.{ℕ, ◌-◌, Option, Some}
use Rattle.pipe_types.specs.declared.topology.StageSpec.{StageSpec}
use Rattle.pipe_edges.specs.Texts.{ended}
use Rattle.made_sources.specs.Records.{records_made}
use Rattle.edge_names.specs.Supplies.{Feed, Made as MadeFeed}
use Rattle.made_sources.specs.declared.supply.Made.{Made}

-- the producers are the first stages, and are numbered from 1: each has the records of its place, from 0
abbrev pub made_feeds : (seed count producers : ℕ) → StageSpec → Option Feed
made_feeds seed count producers spec = Some (MadeFeed (ended (records_made seed producers (spec.no.0 - 1) count)))

abbrev pub seed_of : Made → ℕ
seed_of m = m.seed

abbrev pub count_of : Made → ℕ
count_of m = m.count

abbrev pub producers_of : Made → ℕ
producers_of m = m.producers
