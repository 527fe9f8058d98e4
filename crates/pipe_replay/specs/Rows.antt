-- The rows of the state that a history leaves.
use Rattle.std.specs.Prelude.{◌≡◌, ℕ, ◌+◌, ◌<◌, if◌then◌else◌, List, [], map, length, slice_index, Some, All}
use Rattle.std.specs.List.{flat_map}
use Rattle.pipe_types.specs.declared.numbers.StageNo.{StageNo}
use Rattle.pipe_types.specs.declared.numbers.SubNo.{SubNo}
use Rattle.pipe_types.specs.declared.topology.Topology.{Topology}
use Rattle.pipe_types.specs.declared.topology.StageSpec.{StageSpec}
use Rattle.pipe_types.specs.declared.state.PlaceRow.{PlaceRow}
use Rattle.pipe_types.specs.declared.state.SubRow.{SubRow}
use Rattle.pipe_types.specs.declared.state.Life.{Life}
use Rattle.pipe_types.specs.declared.state.PlainState.{PlainState}
use Rattle.pipe_types.specs.Numbers.{subscription}
use Rattle.pipe_types.specs.Stages.{feeds}
use Rattle.pipe_model.specs.History.{History, now as now_in, incarnation as incarnation_in, asked as asked_in, accepted}
use Rattle.pipe_model.specs.Lives.{generation, is_live, is_live_sub}
use Rattle.pipe_model.specs.Content.{producer_of}
use Rattle.pipe_model.specs.Flow.{place as place_in, sent as sent_in}
use Rattle.pipe_model.specs.Ledger.{handled as handled_in}
use Rattle.pipe_model.specs.Legal.{happened, is_drain, is_halt}
use Rattle.pipe_model.specs.Acknowledgements.{numbers_upto}
use Rattle.pipe_model.specs.Places.{ArePlaces, settled_at}

-- the counts of a subscription
abbrev pub sub_row : Topology → History → SubNo → SubRow
sub_row topology before u =
    record { sub = u; asked = asked_in before u; sent = sent_in topology before u; handled = handled_in topology before u; live = is_live_sub topology before u }

-- a row for each generation of a pair that feeds, from 1 to the present one
abbrev pub rows_of_pair : Topology → History → (consumer producer : StageNo) → List SubRow
rows_of_pair topology before c p =
    if feeds topology p c then map (λ g. sub_row topology before (subscription c p g)) (numbers_upto (generation topology before c p)) else []

-- those of one consumer, by producer
abbrev pub rows_of_consumer : Topology → History → (consumer : StageNo) → List StageSpec → List SubRow
rows_of_consumer topology before c specs = flat_map (λ p. rows_of_pair topology before c p.no) specs

-- those of all, by consumer
abbrev pub rows_of_all : Topology → History → List StageSpec → List SubRow
rows_of_all topology before specs = flat_map (λ c. rows_of_consumer topology before c.no topology.stages) specs

-- the incarnation of a stage, and whether it is live
abbrev pub life_of : Topology → History → StageSpec → Life
life_of topology before spec = record { stage = spec.no; incarnation = incarnation_in before spec.no; live = is_live topology before spec.no }

-- the state is the one that the history leaves
pub record IsStateOf (topology : Topology) (before : History) (state : PlainState) : Type 0 where
  pub places : ArePlaces topology before state.places
  pub subs : state.subs ≡ rows_of_all topology before topology.stages
  pub lives : state.lives ≡ map (life_of topology before) topology.stages
  pub now : state.now ≡ now_in before
  pub draining : state.draining ≡ happened is_drain before
  pub halted : state.halted ≡ happened is_halt before

-- the row is that of message n
pub record IsPlaceRow (topology : Topology) (before : History) (n : ℕ) (row : PlaceRow) : Type 0 where
  pub no : row.no.0 ≡ n
  pub producer : producer_of before n ≡ Some row.producer
  pub place : place_in topology before n ≡ Some row.place
  pub at : row.at ≡ settled_at topology before n

-- the rows are those of the first messages, in order of their numbers
pub record ArePlacesUpto (topology : Topology) (before : History) (count : ℕ) (rows : List PlaceRow) : Type 0 where
  pub numbers : map (λ row. row.no.0) rows ≡ numbers_upto count
  pub produced : All (λ row. producer_of before row.no.0 ≡ Some row.producer) rows
  pub placed : All (λ row. place_in topology before row.no.0 ≡ Some row.place) rows
  pub settled : All (λ row. row.at ≡ settled_at topology before row.no.0) rows

-- these are the places in the journal at which the accepted messages were settled
pub record SettledStand (topology : Topology) (before : History) (settled : List ℕ) : Type 0 where
  pub long : length settled ≡ accepted before
  pub each : (i : ℕ) → i < length settled → slice_index settled i ≡ settled_at topology before (i + 1)
