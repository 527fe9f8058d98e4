-- What edges in memory show.
use Rattle.std.specs.Prelude.{◌≡◌, ◌==◌, ◌||◌, ◌+◌, not, ℕ, Bool, List, [], length, None}
use Rattle.std.specs.List.{list_any}
use Rattle.std.specs.Option.{option_map_or}
use Rattle.pipe_edges.specs.declared.edges.EdgeKind.{EdgeKind}
use Rattle.pipe_edges.specs.declared.edges.EdgeKind.TheVariants.{File, Source, Sink}
use Rattle.mem_edges.specs.declared.named.Named.{Named}
use Rattle.mem_edges.specs.declared.source.MemSource.{MemSource}
use Rattle.mem_edges.specs.declared.sink.MemSink.{MemSink}
use Rattle.mem_edges.specs.declared.edges.MemEdges.{MemEdges}
use Rattle.mem_edges.specs.MemSource.{all_bytes}
use Rattle.mem_edges.specs.MemSink.{held_by}
use Rattle.mem_edges.specs.Shelf.{under, is_free, given_back}
use Rattle.mem_edges.specs.Calls.{calls_in}

-- the numbers of the calls that fail
abbrev pub fails_of : MemEdges → List ℕ
fails_of m = m.fails

-- the bytes that stand under a name: all those of a source, what a sink holds, or a file's
abbrev pub named_in : MemEdges → EdgeKind → List ℕ → List ℕ
named_in m File name = option_map_or (λ (n : Named (List ℕ)). n.item) (under name m.files.items) []
named_in m Source name = option_map_or (λ (n : Named MemSource). all_bytes n.item) (under name m.sources.items) []
named_in m Sink name = option_map_or (λ (n : Named MemSink). held_by n.item) (under name m.sinks.items) []

-- something of that kind stands under a name and is not open
abbrev pub is_free_in : MemEdges → EdgeKind → List ℕ → Bool
is_free_in m File name = is_free name m.files.items
is_free_in m Source name = is_free name m.sources.items
is_free_in m Sink name = is_free name m.sinks.items

-- nothing of that kind stands under a name
abbrev pub IsNew : MemEdges → EdgeKind → List ℕ → Type 0
IsNew m File name = under name m.files.items ≡ None
IsNew m Source name = under name m.sources.items ≡ None
IsNew m Sink name = under name m.sinks.items ≡ None

-- the calls that opened or read, each with its kind and name
abbrev pub asked_in : MemEdges → List (EdgeKind × List ℕ)
asked_in m = calls_in m.asked.items

abbrev pub sources_given_back : MemEdges → List (List ℕ × MemSource)
sources_given_back m = given_back m.sources.items

abbrev pub sinks_given_back : MemEdges → List (List ℕ × MemSink)
sinks_given_back m = given_back m.sinks.items

-- the next call is one of those that fail
abbrev pub fails_next : MemEdges → Bool
fails_next m = list_any (λ n. n == length (asked_in m) + 1) (fails_of m)

-- the next call fails, or nothing is there, or it is open
abbrev pub refuses : MemEdges → EdgeKind → List ℕ → Bool
refuses m kind name = fails_next m || not (is_free_in m kind name)
