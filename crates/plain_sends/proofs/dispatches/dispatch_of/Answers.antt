use Rattle.std.proofs.Common.{◌≡◌, ℕ, List, ◌∙◌, ap, sym}
use Rattle.std.specs.Prelude.{Bool, map}
use Rattle.std.proofs.lemmas.Result.{IfOk-weaker}
use Rattle.pipe_types.specs.declared.numbers.SubNo.{SubNo}
use Rattle.pipe_types.specs.declared.room.Room.{Room}
use Rattle.pipe_types.specs.declared.topology.Dispatch.{Dispatch}
use Rattle.pipe_types.specs.Stages.{spec_of}
use Rattle.pipe_types.specs.Dispatchers.{ByBroadcast, served_as, picks_all, sends, serves}
use Rattle.pipe_model.specs.Flow.{kind_in, partition_in, picks_by, rooms_by, waiting_by}
use Rattle.plain_queues.specs.Flows.{topology_of, history_of}
use Rattle.plain_queues.specs.Views.{view_in}
use Rattle.plain_sends.specs.Casts.{is_cast, with_selves}
use Rattle.plain_sends.proofs.Marks.{parts_sent, parts_served, selves_sent, selves_served}
use Rattle.plain_sends.proofs.dispatches.dispatch_of.Goals.{After-is_cast, After-as_slice-marks}
use Rattle.plain_sends.proofs.dispatches.dispatch_of.Goals as goal

abbrev kind : (c : After-is_cast) → Dispatch
kind c = kind_in (spec_of (topology_of c.args.flow.now) c.args.stage)

abbrev picks : (c : After-is_cast) → ℕ → SubNo → Bool
picks c = picks_by (topology_of c.args.flow.now) (history_of c.args.flow.now) (view_in c.args.flow.now.tables.now)

abbrev part : (c : After-is_cast) → ℕ → ℕ
part c = partition_in (history_of c.args.flow.now) (view_in c.args.flow.now.tables.now) (spec_of (topology_of c.args.flow.now) c.args.stage)

kind_read : (c : After-is_cast) → is_cast (kind c) ≡ c.is_cast.result
kind_read c = sym (c.is_cast.ensures ∙ ap is_cast c.kind_of-kind.ensures)

-- what is made of the rooms and the units that were read
of_read : {A : Type 0} (f : List Room → List ℕ → A) (c : After-is_cast)
    → f c.as_slice-here.result.now c.as_slice-units.result.now ≡ f (rooms_by (topology_of c.args.flow.now) (history_of c.args.flow.now) (view_in c.args.flow.now.tables.now) c.args.stage) (waiting_by (topology_of c.args.flow.now) (history_of c.args.flow.now) (view_in c.args.flow.now.tables.now) c.args.stage)
of_read f c =
    ap (λ rooms. f rooms c.as_slice-units.result.now) (c.as_slice-here.ensures.value ∙ c.in_ok-rooms.ensures)
    ∙ ap (f (rooms_by (topology_of c.args.flow.now) (history_of c.args.flow.now) (view_in c.args.flow.now.tables.now) c.args.stage)) (c.as_slice-units.ensures.value ∙ c.in_ok-waiting.ensures)

-- what is made of the kind, the rooms and the units with their partitions
of_marked : {A : Type 0} (f : Dispatch → List Room → List (ℕ × ℕ) → A) (c : After-as_slice-marks)
    → f c.kind_of-kind.result c.as_slice-here.result.now c.as_slice-marks.result.now
    ≡ f (kind_in (spec_of (topology_of c.args.flow.now) c.args.stage)) (rooms_by (topology_of c.args.flow.now) (history_of c.args.flow.now) (view_in c.args.flow.now.tables.now) c.args.stage)
    (map {B = ℕ × ℕ} (λ n. (n, partition_in (history_of c.args.flow.now) (view_in c.args.flow.now.tables.now) (spec_of (topology_of c.args.flow.now) c.args.stage) n))
    (waiting_by (topology_of c.args.flow.now) (history_of c.args.flow.now) (view_in c.args.flow.now.tables.now) c.args.stage))
of_marked f c =
    let spec = spec_of (topology_of c.args.flow.now) c.args.stage in
    let mark = λ (ns : List ℕ). map {B = ℕ × ℕ} (λ n. (n, partition_in (history_of c.args.flow.now) (view_in c.args.flow.now.tables.now) spec n)) ns in
    ap (λ kind. f kind c.as_slice-here.result.now c.as_slice-marks.result.now) c.kind_of-kind.ensures
    ∙ (ap (λ rooms. f (kind_in spec) rooms c.as_slice-marks.result.now) (c.as_slice-here.ensures.value ∙ c.in_ok-rooms.ensures)
    ∙ ap (f (kind_in spec) (rooms_by (topology_of c.args.flow.now) (history_of c.args.flow.now) (view_in c.args.flow.now.tables.now) c.args.stage))
    (c.as_slice-marks.ensures.value ∙ (c.in_ok-marked.ensures ∙ ap mark (c.as_slice-units.ensures.value ∙ c.in_ok-waiting.ensures))))

pub returns-then-is_cast-clause-sent : goal.returns-then-is_cast-clause-sent
returns-then-is_cast-clause-sent c =
    let at = (goal.at.returns-then-is_cast-clause-sent c).After-is_cast in
    let read = of_read (λ rooms ns. sends (ByBroadcast (picks at)) rooms (with_selves ns)) at ∙ selves_sent (kind at) (picks at) (part at) (rooms_by (topology_of c.args.flow.now) (history_of c.args.flow.now) (view_in c.args.flow.now.tables.now) c.args.stage) (waiting_by (topology_of c.args.flow.now) (history_of c.args.flow.now) (view_in c.args.flow.now.tables.now) c.args.stage) (kind_read at ∙ c.if-is_cast.true) in
    IfOk-weaker c.cast.result _ _ (λ got is. is ∙ read) c.cast.ensures.sent

pub returns-then-is_cast-clause-served : goal.returns-then-is_cast-clause-served
returns-then-is_cast-clause-served c =
    let at = (goal.at.returns-then-is_cast-clause-served c).After-is_cast in
    let read = of_read (λ rooms ns. serves (ByBroadcast (picks at)) rooms (with_selves ns)) at ∙ selves_served (kind at) (picks at) (part at) _ _ (kind_read at ∙ c.if-is_cast.true) in
    IfOk-weaker c.cast.result _ _ (λ got is. is ∙ read) c.cast.ensures.served

pub returns-clause-sent : goal.returns-clause-sent
returns-clause-sent c =
    let cast = (goal.at.returns-clause-sent c).After-is_cast in
    let marked = of_marked (λ kind rooms units. sends (served_as kind picks_all) rooms units) (goal.at.returns-clause-sent c).After-as_slice-marks in
    c.in_ok-sent.ensures ∙ (marked ∙ parts_sent (kind cast) (picks cast) (part cast) (rooms_by (topology_of c.args.flow.now) (history_of c.args.flow.now) (view_in c.args.flow.now.tables.now) c.args.stage) (waiting_by (topology_of c.args.flow.now) (history_of c.args.flow.now) (view_in c.args.flow.now.tables.now) c.args.stage) (kind_read cast ∙ c.if-is_cast.false))

pub returns-clause-served : goal.returns-clause-served
returns-clause-served c =
    let cast = (goal.at.returns-clause-served c).After-is_cast in
    let marked = of_marked (λ kind rooms units. serves (served_as kind picks_all) rooms units) (goal.at.returns-clause-served c).After-as_slice-marks in
    c.in_ok-served.ensures ∙ (marked ∙ parts_served (kind cast) (picks cast) (part cast) _ _ (kind_read cast ∙ c.if-is_cast.false))
