-- What a feed of acknowledgements makes of what its sink got.
use Rattle.std.proofs.Common.{◌≡◌, ℕ, zero, suc, ◌+◌, ◌<◌, ◌≤◌, List, [], ◌∷◌, ◌++◌, length, drop, get_or, Bool, true, false, refl, ap, sym, ◌∙◌, subst, arith}
use Rattle.std.specs.declared.alloc.AllocError.{AllocError}
use Rattle.std.specs.Prelude.{IsTrue, Result, Ok, Err, Option, Some, None, is_some, unwrap_or, if◌then◌else◌}
use Rattle.std.proofs.lemmas.List.{append-nil}
use Rattle.pipe_types.specs.declared.topology.Topology.{Topology}
use Rattle.pipe_types.specs.Sound.{IsSound}
use Rattle.pipe_model.specs.Begins.{BeginsWith}
use Rattle.pipe_model.specs.History.{History}
use Rattle.pipe_laws.proofs.Journals.{begins_with_itself}
use Rattle.pipe_laws.proofs.Lists.{Each}
use Rattle.journal_texts.specs.Acks.{ack_text}
use Rattle.pipe_journal.specs.declared.acked.AckRow.{AckRow}
use Rattle.pipe_journal.specs.Acked.{IsLog}
use Rattle.pipe_journal.specs.Watched.{StandsOn}
use Rattle.pipe_journal.specs.declared.watch.WatchEnd.{WatchEnd}
use Rattle.pipe_journal.specs.declared.watch.WatchEnd.TheVariants.{Done as WatchDone, OutOfMemory}
use Rattle.ack_texts.proofs.Cuts.{all_early}
use Rattle.ack_feed.specs.Fed.{IsFed, text_of}
use Rattle.ack_feed.specs.Feeds.{AckFeed, begun_by, begun_in, Flows, Stands, to_come}
use Rattle.ack_feed.specs.Lines.{sink_of, pending, has_failed}
use Rattle.ack_feed.specs.Moves.{Follows, SentBy, watch_end}
use Rattle.ack_feed.specs.declared.lines.FeedEnd.{FeedEnd}
use Rattle.ack_feed.specs.declared.lines.FeedEnd.TheVariants.{Done, Failed}
use Rattle.ack_feed.proofs.Feeding.{all_pending}

abbrev pub Text : Type 0
Text = List ℕ

-- what a sink got of this text
abbrev pub Got : (begun text held rest : Text) → Type 0
Got begun text held rest = (got : Text) × (held ≡ begun ++ got) × (got ++ rest ≡ text)

-- what keeps what was sent keeps what the sink got of one text
pub got_kept : (begun text held held' rest rest' : Text) → ((begun : Text) (sent : List Text) → IsFed begun sent held rest → IsFed begun sent held' rest') → Got begun text held rest → Got begun text held' rest'
got_kept begun text held held' rest rest' keeps got =
    let fed = keeps begun (text ∷ []) (got.0, got.1, got.2 ∙ sym (append-nil text)) in (fed.0, fed.1, fed.2 ∙ append-nil text)

-- and with a text sent behind it, of both
pub got_more : (begun text line held held' rest rest' : Text) → ((begun : Text) (sent : List Text) → IsFed begun sent held rest → IsFed begun (sent ++ line ∷ []) held' rest') → Got begun text held rest
    → Got begun (text ++ line) held' rest'
got_more begun text line held held' rest rest' pushes got =
    let fed = pushes begun (text ∷ []) (got.0, got.1, got.2 ∙ sym (append-nil text)) in (fed.0, fed.1, fed.2 ∙ ap (λ (t : Text). text ++ t) (append-nil line))

-- the same of a text that is the same
pub got_same : (begun text text' held rest : Text) → text ≡ text' → Got begun text held rest → Got begun text' held rest
got_same begun text text' held rest same got = (got.0, got.1, got.2 ∙ same)

-- A feed that goes on

-- one that has seen a part of a journal that is a part of another
pub follows_stands : {K : Type 0} (told : K → Bool) (held : K → Text) (feed : AckFeed K) (whole : History) → (earlier : History) × Stands told held feed earlier × BeginsWith whole earlier → Follows told held feed whole
follows_stands told held feed whole s = record { steps = s.0; shown = s.1.seen; flows = s.1.fed; begins = s.2 }

-- what is held is written, or a part of it
pub flushed : {K : Type 0} (told : K → Bool) (held : K → Text) (old new : AckFeed K) (steps : History) → new.topology ≡ old.topology → new.opened.value ≡ old.opened.value → told (sink_of new.feed) ≡ told (sink_of old.feed)
    → ((begun : Text) (sent : List Text) → IsTrue (told (sink_of old.feed)) → IsFed begun sent (held (sink_of old.feed)) (pending old.feed) → IsFed begun sent (held (sink_of new.feed)) (pending new.feed))
    → Flows told held old steps → Flows told held new steps
flushed told held old new steps same opened telling keeps flows = λ tells.
    let before : IsTrue (told (sink_of old.feed)) = sym telling ∙ tells in
    let got =
    got_kept (held old.opened.value) (ack_text old.topology steps) (held (sink_of old.feed)) (held (sink_of new.feed)) (pending old.feed) (pending new.feed) (λ b s f. keeps b s before f) (flows before) in
    (got.0, got.1 ∙ ap (λ k. held k ++ got.0) (sym opened), got.2 ∙ ap (λ (t : Topology). ack_text t steps) (sym same))

-- the lines of one step more are held
pub pushed : {K : Type 0} (told : K → Bool) (held : K → Text) (old new : AckFeed K) (before after : History) (line more : Text) → new.topology ≡ old.topology → new.opened.value ≡ old.opened.value → told (sink_of new.feed) ≡ told (sink_of old.feed)
    → ((begun : Text) (sent : List Text) → IsFed begun sent (held (sink_of old.feed)) (pending old.feed) → IsFed begun (sent ++ line ∷ []) (held (sink_of new.feed)) (pending new.feed))
    → line ≡ more → ack_text old.topology after ≡ ack_text old.topology before ++ more → Flows told held old before → Flows told held new after
pushed told held old new before after line more same opened telling pushes is text flows = λ tells.
    let got =
    got_more (held old.opened.value) (ack_text old.topology before) line (held (sink_of old.feed)) (held (sink_of new.feed)) (pending old.feed) (pending new.feed) pushes (flows (sym telling ∙ tells)) in
    let all : ack_text old.topology before ++ line ≡ ack_text new.topology after =
    ap (λ (t : Text). ack_text old.topology before ++ t) is ∙ (sym text ∙ ap (λ (t : Topology). ack_text t after) (sym same)) in
    (got.0, got.1 ∙ ap (λ k. held k ++ got.0) (sym opened), got.2 ∙ all)

-- what was done with the lines of one step, by how it ended

pub sent_done : {K : Type 0} (r : Result FeedEnd AllocError) (told : K → Bool) (held : K → Text) (old new : AckFeed K) (next : ℕ) (before after : History) → r ≡ Ok Done → SentBy r told held old new next before after → (new.shown ≡ next) × Flows told held new after
sent_done r told held old new next before after is sent = subst (λ x. SentBy x told held old new next before after) is sent

pub sent_failed : {K : Type 0} (r : Result FeedEnd AllocError) (told : K → Bool) (held : K → Text) (old new : AckFeed K) (next : ℕ) (before after : History) → r ≡ Ok Failed → SentBy r told held old new next before after → (new.shown ≡ old.shown) × Flows told held new before
sent_failed r told held old new next before after is sent = subst (λ x. SentBy x told held old new next before after) is sent

pub sent_wanting : {K : Type 0} (r : Result FeedEnd AllocError) (error : AllocError) (told : K → Bool) (held : K → Text) (old new : AckFeed K) (next : ℕ) (before after : History) → r ≡ Err error → SentBy r told held old new next before after
    → (new.shown ≡ old.shown) × Flows told held new before
sent_wanting r error told held old new next before after is sent = subst (λ x. SentBy x told held old new next before after) is sent

-- a row's place is one of the journal
pub place_within : (topology : Topology) (steps : History) (rows : List AckRow) (i count : ℕ) (d : AckRow) → IsLog topology steps rows → count ≡ length steps → i < length rows → (get_or rows i d).at < count
place_within topology steps rows i count d log is within = each rows i within (subst (λ n. Each (λ row. row.at < n) rows) (sym is) (all_early topology steps rows log))
  where
    each : (rs : List AckRow) (k : ℕ) → k < length rs → Each (λ row. row.at < count) rs → (get_or rs k d).at < count
    each [] k low early = absurd (omega (arith, low))
    each (r ∷ rs) zero low early = early.0
    each (r ∷ rs) (suc k) low early = each rs k (omega (arith, low)) early.1

-- What a feed stands for

pub begun_same : {K : Type 0} (told : K → Bool) (held : K → Text) (old new : AckFeed K) → told (sink_of new.feed) ≡ told (sink_of old.feed) → new.opened.value ≡ old.opened.value → begun_by told held new ≡ begun_by told held old
begun_same told held old new telling opened =
    ap (λ b. if b then Some (begun_in held new) else None) telling ∙ ap (λ k. if told (sink_of old.feed) then Some (held k) else None) opened

-- it has seen all
pub all_seen : {K : Type 0} (told : K → Bool) (held : K → Text) (feed : AckFeed K) (whole : History) (end : FeedEnd) (said : WatchEnd) → said ≡ watch_end end WatchDone → IsSound feed.topology
    → feed.shown ≡ length whole → Flows told held feed whole → (has_failed feed.feed ≡ false → to_come feed ≡ []) → StandsOn said (λ steps. Stands told held feed steps) whole
all_seen told held feed whole end said is sound shown flows none = subst (λ (w : WatchEnd). StandsOn w (λ steps. Stands told held feed steps) whole) (sym is) (by end)
  where
    all : Stands told held feed whole
    all = record { sound = sound; seen = shown; fed = flows; whole = none }

    by : (e : FeedEnd) → StandsOn (watch_end e WatchDone) (λ steps. Stands told held feed steps) whole
    by Done = all
    by Failed = (whole, all, begins_with_itself whole)

-- it has seen a part
pub part_stands : {K : Type 0} (told : K → Bool) (held : K → Text) (feed : AckFeed K) (whole : History) → IsSound feed.topology → Follows told held feed whole → (has_failed feed.feed ≡ false → to_come feed ≡ [])
    → (earlier : History) × Stands told held feed earlier × BeginsWith whole earlier
part_stands told held feed whole sound f none = (f.steps, record { sound = sound; seen = f.shown; fed = f.flows; whole = none }, f.begins)

-- since memory was wanting
pub part_seen : {K : Type 0} (told : K → Bool) (held : K → Text) (feed : AckFeed K) (whole : History) (end : FeedEnd) (said : WatchEnd) → said ≡ watch_end end OutOfMemory → IsSound feed.topology → Follows told held feed whole
    → (has_failed feed.feed ≡ false → to_come feed ≡ []) → StandsOn said (λ steps. Stands told held feed steps) whole
part_seen told held feed whole end said is sound f none = subst (λ (w : WatchEnd). StandsOn w (λ steps. Stands told held feed steps) whole) (sym is) (by end)
  where
    by : (e : FeedEnd) → StandsOn (watch_end e OutOfMemory) (λ steps. Stands told held feed steps) whole
    by Done = part_stands told held feed whole sound f none
    by Failed = part_stands told held feed whole sound f none

-- A feed that has seen no step

-- nothing is to be written where no line is held
pub none_to_come : (fault : Option ℕ) (lines : List Text) → is_some fault ≡ false → lines ≡ [] → drop (unwrap_or fault 0) (text_of lines) ≡ []
none_to_come fault lines whole none = all_pending fault (text_of lines) whole ∙ ap text_of none

pub flows_first : {K : Type 0} (told : K → Bool) (held : K → Text) (feed : AckFeed K) → feed.opened.value ≡ sink_of feed.feed → to_come feed ≡ [] → Flows told held feed []
flows_first told held feed same empty = λ tells. ([], ap held (sym same) ∙ sym (append-nil (held feed.opened.value)), empty)
