-- What a feed of acknowledgements shows.
use Rattle.std.specs.Prelude.{◌≡◌, ℕ, Bool, false, if◌then◌else◌, IsTrue, List, [], ◌++◌, length, Option, Some, None}
use Rattle.pipe_types.specs.declared.topology.Topology.{Topology}
use Rattle.pipe_types.specs.Sound.{IsSound}
use Rattle.pipe_model.specs.History.{History}
use Rattle.journal_texts.specs.Acks.{ack_text}
use Rattle.ack_feed.specs.Lines.{sink_of, pending, has_failed}
use Rattle.ack_feed.specs.declared.lines.LineFeed.{LineFeed}
use Rattle.std.specs.declared.snapshot.Snapshot.{Snapshot}
use Rattle.ack_feed.specs.declared.feed.FeedSince.{FeedSince}

-- a feed that remembers what its sink was
abbrev pub AckFeed : Type 0 → Type 0
AckFeed K = FeedSince K (Snapshot K)

-- the topology of the journal that it goes along
abbrev pub topology_of : {K : Type 0} → AckFeed K → Topology
topology_of feed = feed.topology

-- how many steps it has seen
abbrev pub shown_of : {K : Type 0} → AckFeed K → ℕ
shown_of feed = feed.shown

-- the sink when the feed was made
abbrev pub opened_of : {K : Type 0} → AckFeed K → K
opened_of feed = feed.opened.value

abbrev pub feed_of : {K : Type 0} → AckFeed K → LineFeed K
feed_of feed = feed.feed

-- what is still to be written of the lines of these steps
abbrev pub to_come : {K : Type 0} → AckFeed K → List ℕ
to_come feed = pending feed.feed

-- all that its sink held when the feed was made
abbrev pub begun_in : {K : Type 0} → (held : K → List ℕ) → AckFeed K → List ℕ
begun_in held feed = held feed.opened.value

-- what the sink held when the feed was made, where it tells
abbrev pub begun_by : {K : Type 0} → (told : K → Bool) → (held : K → List ℕ) → AckFeed K → Option (List ℕ)
begun_by told held feed = if told (sink_of feed.feed) then Some (begun_in held feed) else None

-- all that a sink holds, where it tells
abbrev pub held_by : {K : Type 0} → (told : K → Bool) → (held : K → List ℕ) → K → Option (List ℕ)
held_by told held sink = if told sink then Some (held sink) else None

-- where the sink tells, it holds what it began with and the text of the acknowledgements of these steps, but for what is still to be written
abbrev pub Flows : {K : Type 0} → (told : K → Bool) → (held : K → List ℕ) → AckFeed K → History → Type 0
Flows told held feed steps =
    IsTrue (told (sink_of feed.feed)) → (got : List ℕ) × (held (sink_of feed.feed) ≡ begun_in held feed ++ got) × (got ++ to_come feed ≡ ack_text feed.topology steps)

-- It has seen just these steps, of a sound topology. Where the sink tells, it holds what it began with and the text of their
-- acknowledgements, but for what is still to be written; and until a write fails that is nothing.
pub record Stands {K : Type 0} (told : K → Bool) (held : K → List ℕ) (feed : AckFeed K) (steps : History) : Type 0 where
  pub sound : IsSound feed.topology
  pub seen : feed.shown ≡ length steps
  pub fed : Flows told held feed steps
  pub whole : has_failed feed.feed ≡ false → to_come feed ≡ []
