-- What a run opens by name, as contracts see it: from what its edges, their sources and their sinks tell of themselves.
use Rattle.pipe_edges.specs.declared.edges.Edges.{Ghosts as EdgesOf}
use Rattle.pipe_edges.specs.declared.source.ByteSource.{Ghosts as SourceOf}
use Rattle.pipe_edges.specs.declared.sink.ByteSink.{Ghosts as SinkOf}
use Rattle.stage_bodies.specs.Seen.{source_seen, sink_seen}
use Rattle.edge_names.specs.Seen.{EdgesSeen, edges_seen}

abbrev pub seen_by : {E S K O : Type 0} → EdgesOf E S K O → SourceOf S → SinkOf K → E → EdgesSeen
seen_by e s k = edges_seen e.told e.named e.asked e.faults e.sources_back e.sinks_back (source_seen s) (sink_seen k.told k.held k.faults)
