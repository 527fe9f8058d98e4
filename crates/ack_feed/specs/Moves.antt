-- A feed between two steps.
use Rattle.std.specs.Prelude.{◌≡◌, ℕ, Bool, false, List, Result, Ok, Err, length}
use Rattle.std.specs.declared.alloc.AllocError.{AllocError}
use Rattle.pipe_model.specs.Begins.{BeginsWith}
use Rattle.pipe_model.specs.History.{History}
use Rattle.pipe_journal.specs.declared.watch.WatchEnd.{WatchEnd}
use Rattle.pipe_journal.specs.declared.watch.WatchEnd.TheVariants.{Failed as WatchFailed}
use Rattle.ack_feed.specs.Fed.{is_failed}
use Rattle.ack_feed.specs.Feeds.{AckFeed, Flows}
use Rattle.ack_feed.specs.declared.lines.FeedEnd.{FeedEnd}
use Rattle.ack_feed.specs.declared.lines.FeedEnd.TheVariants.{Done, Failed}

-- of a journal it has seen a first part
pub record Follows {K : Type 0} (told : K → Bool) (held : K → List ℕ) (feed : AckFeed K) (whole : History) : Type 0 where
  pub steps : History
  pub shown : feed.shown ≡ length steps
  pub flows : Flows told held feed steps
  pub begins : BeginsWith whole steps

-- what was done with the lines of one step: they were sent and it has seen so many steps, or it has seen those before it
abbrev pub SentBy : {K : Type 0} → Result FeedEnd AllocError → (told : K → Bool) → (held : K → List ℕ) → (old new : AckFeed K) → (next : ℕ) → (before after : History) → Type 0
SentBy (Ok Done) told held old new next before after = (new.shown ≡ next) × Flows told held new after
SentBy (Ok Failed) told held old new next before after = (new.shown ≡ old.shown) × Flows told held new before
SentBy (Err error) told held old new next before after = (new.shown ≡ old.shown) × Flows told held new before

-- a write failed, and memory was there
abbrev pub ended_failed : Result FeedEnd AllocError → Bool
ended_failed (Ok end) = is_failed end
ended_failed (Err error) = false

-- after a flush that was to end so
abbrev pub watch_end : FeedEnd → WatchEnd → WatchEnd
watch_end Done wanted = wanted
watch_end Failed wanted = WatchFailed
