-- Laws of edges in memory, by what happened to one of their shelves.
use Rattle.std.proofs.Common.{◌≡◌, Bool, ℕ, List, [], refl, ap, ◌∙◌, Option, Some, None}
use Rattle.std.specs.Option.{option_map, option_map_or}
use Rattle.pipe_edges.specs.declared.edges.EdgeKind.{EdgeKind}
use Rattle.pipe_edges.specs.declared.edges.EdgeKind.TheVariants.{File, Source, Sink}
use Rattle.mem_edges.specs.declared.named.Named.{Named}
use Rattle.mem_edges.specs.declared.source.MemSource.{MemSource}
use Rattle.mem_edges.specs.declared.sink.MemSink.{MemSink}
use Rattle.mem_edges.specs.declared.edges.MemEdges.{MemEdges}
use Rattle.mem_edges.specs.MemSource.{all_bytes}
use Rattle.mem_edges.specs.MemSink.{held_by}
use Rattle.mem_edges.specs.Shelf.{under}
use Rattle.mem_edges.specs.Opens.{Opens, Puts}
use Rattle.mem_edges.specs.Elsewhere.{SameElsewhere}
use Rattle.mem_edges.specs.MemEdges.{named_in, is_free_in, IsNew}

-- what is seen of an item, by the item alone
seen : {T : Type 0} (f : T → List ℕ) (u v : Option (Named T)) → option_map (λ (e : Named T). e.item) u ≡ option_map (λ (e : Named T). e.item) v
    → option_map_or (λ (e : Named T). f e.item) u [] ≡ option_map_or (λ (e : Named T). f e.item) v []
seen f None None h = refl
seen f None (Some y) h = cc
seen f (Some x) None h = cc
seen f (Some x) (Some y) h = ap (λ o. option_map_or f o []) h

pub seen_there : {T : Type 0} (f : T → List ℕ) (u : Option (Named T)) (item : T) → option_map (λ (e : Named T). e.item) u ≡ Some item
    → option_map_or (λ (e : Named T). f e.item) u [] ≡ f item
seen_there f None item h = cc
seen_there f (Some x) item h = ap (λ o. option_map_or f o []) h

none_there : {T : Type 0} (n : List ℕ) (before now : List (Named T)) → under n now ≡ under n before → under n before ≡ None → under n now ≡ None
none_there n before now e h = e ∙ h

-- what stands under the other names stands as before where it does so on each shelf
elsewhere_kept : (before now : MemEdges) (kind : EdgeKind) (name : List ℕ) → ((n : List ℕ) → ¬ ((File ≡ kind) × (n ≡ name)) → under n now.files.items ≡ under n before.files.items)
    → ((n : List ℕ) → ¬ ((Source ≡ kind) × (n ≡ name)) → under n now.sources.items ≡ under n before.sources.items)
    → ((n : List ℕ) → ¬ ((Sink ≡ kind) × (n ≡ name)) → under n now.sinks.items ≡ under n before.sinks.items) → SameElsewhere before now kind name
elsewhere_kept before now kind name files sources sinks = record {
  named = named;
  free = free;
  new = new;
} where
  named : (k : EdgeKind) (n : List ℕ) → ¬ ((k ≡ kind) × (n ≡ name)) → named_in now k n ≡ named_in before k n
  named File n h = rw (files n h) refl
  named Source n h = rw (sources n h) refl
  named Sink n h = rw (sinks n h) refl

  free : (k : EdgeKind) (n : List ℕ) → ¬ ((k ≡ kind) × (n ≡ name)) → is_free_in now k n ≡ is_free_in before k n
  free File n h = rw (files n h) refl
  free Source n h = rw (sources n h) refl
  free Sink n h = rw (sinks n h) refl

  new : (k : EdgeKind) (n : List ℕ) → ¬ ((k ≡ kind) × (n ≡ name)) → IsNew before k n → IsNew now k n
  new File n h i = files n h ∙ i
  new Source n h i = sources n h ∙ i
  new Sink n h i = sinks n h ∙ i

pub source_put : (before now : MemEdges) (name : List ℕ) (item : MemSource) (returned : Bool) → Puts name item returned before.sources.items now.sources.items
    → now.sinks.items ≡ before.sinks.items → now.files.items ≡ before.files.items → SameElsewhere before now Source name
source_put before now name item returned p sinks files = elsewhere_kept before now Source name (λ n h. rw files refl) (λ n h. p.others n (λ e. h (refl, e))) (λ n h. rw sinks refl)

pub sink_put : (before now : MemEdges) (name : List ℕ) (item : MemSink) (returned : Bool) → Puts name item returned before.sinks.items now.sinks.items
    → now.sources.items ≡ before.sources.items → now.files.items ≡ before.files.items → SameElsewhere before now Sink name
sink_put before now name item returned p sources files = elsewhere_kept before now Sink name (λ n h. rw files refl) (λ n h. rw sources refl) (λ n h. p.others n (λ e. h (refl, e)))

pub file_put : (before now : MemEdges) (name : List ℕ) (item : List ℕ) (returned : Bool) → Puts name item returned before.files.items now.files.items
    → now.sources.items ≡ before.sources.items → now.sinks.items ≡ before.sinks.items → SameElsewhere before now File name
file_put before now name item returned p sources sinks = elsewhere_kept before now File name (λ n h. p.others n (λ e. h (refl, e))) (λ n h. rw sources refl) (λ n h. rw sinks refl)

-- the same shelves show the same
pub same_named : (before now : MemEdges) → now.sources.items ≡ before.sources.items → now.sinks.items ≡ before.sinks.items → now.files.items ≡ before.files.items
    → (k : EdgeKind) (n : List ℕ) → named_in now k n ≡ named_in before k n
same_named before now sources sinks files File n = rw files refl
same_named before now sources sinks files Source n = rw sources refl
same_named before now sources sinks files Sink n = rw sinks refl

pub same_free : (before now : MemEdges) → now.sources.items ≡ before.sources.items → now.sinks.items ≡ before.sinks.items → now.files.items ≡ before.files.items
    → (k : EdgeKind) (n : List ℕ) → is_free_in now k n ≡ is_free_in before k n
same_free before now sources sinks files File n = rw files refl
same_free before now sources sinks files Source n = rw sources refl
same_free before now sources sinks files Sink n = rw sinks refl

-- a source that is opened leaves all bytes where they stand
pub source_opened : (before now : MemEdges) (name : List ℕ) → Opens name before.sources.items now.sources.items → now.sinks.items ≡ before.sinks.items
    → now.files.items ≡ before.files.items → (k : EdgeKind) (n : List ℕ) → named_in now k n ≡ named_in before k n
source_opened before now name o sinks files File n = rw files refl
source_opened before now name o sinks files Source n = seen all_bytes (under n now.sources.items) (under n before.sources.items) (o.stands n)
source_opened before now name o sinks files Sink n = rw sinks refl

pub source_free_after : (before now : MemEdges) (name : List ℕ) → Opens name before.sources.items now.sources.items → now.sinks.items ≡ before.sinks.items
    → now.files.items ≡ before.files.items → (k : EdgeKind) (n : List ℕ) → ¬ ((k ≡ Source) × (n ≡ name)) → is_free_in now k n ≡ is_free_in before k n
source_free_after before now name o sinks files File n h = rw files refl
source_free_after before now name o sinks files Source n h = o.others_free n (λ e. h (refl, e))
source_free_after before now name o sinks files Sink n h = rw sinks refl

pub sink_opened : (before now : MemEdges) (name : List ℕ) → Opens name before.sinks.items now.sinks.items → now.sources.items ≡ before.sources.items
    → now.files.items ≡ before.files.items → (k : EdgeKind) (n : List ℕ) → named_in now k n ≡ named_in before k n
sink_opened before now name o sources files File n = rw files refl
sink_opened before now name o sources files Source n = rw sources refl
sink_opened before now name o sources files Sink n = seen held_by (under n now.sinks.items) (under n before.sinks.items) (o.stands n)

pub sink_free_after : (before now : MemEdges) (name : List ℕ) → Opens name before.sinks.items now.sinks.items → now.sources.items ≡ before.sources.items
    → now.files.items ≡ before.files.items → (k : EdgeKind) (n : List ℕ) → ¬ ((k ≡ Sink) × (n ≡ name)) → is_free_in now k n ≡ is_free_in before k n
sink_free_after before now name o sources files File n h = rw files refl
sink_free_after before now name o sources files Source n h = rw sources refl
sink_free_after before now name o sources files Sink n h = o.others_free n (λ e. h (refl, e))
