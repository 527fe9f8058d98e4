-- What tables show of a history.
use Rattle.std.proofs.Common.{◌≡◌, ℕ, take, ap}
use Rattle.pipe_types.specs.declared.numbers.StageNo.{StageNo}
use Rattle.pipe_types.specs.declared.numbers.SubNo.{SubNo}
use Rattle.pipe_types.specs.declared.topology.Topology.{Topology}
use Rattle.pipe_model.specs.History.{History}
use Rattle.pipe_model.specs.Flow.{view_of, place, batch, sent_to, inbox, units_on, next_units, delivered_to}
use Rattle.plain_queues.specs.declared.tables.Tables.{Tables}
use Rattle.plain_queues.specs.Views.{place_at, batch_at, view_in}

pub next_same : (topology : Topology) (before : History) (tables : Tables) → view_in tables ≡ view_of topology before → (s : StageNo) (u : SubNo) (k : ℕ)
    → next_units topology (view_in tables) s u k ≡ take k (units_on u (inbox topology before s))
next_same topology before tables same s u k = ap (λ view. next_units topology view s u k) same

pub place_same : (topology : Topology) (before : History) (tables : Tables) → view_in tables ≡ view_of topology before → (n : ℕ) → place_at tables.places.items n ≡ place topology before n
place_same topology before tables same n = ap (λ view. view.place n) same

pub batch_same : (topology : Topology) (before : History) (tables : Tables) → view_in tables ≡ view_of topology before → (b : ℕ) → batch_at tables.batches.items b ≡ batch topology before b
batch_same topology before tables same b = ap (λ view. view.batch b) same

pub sent_to_same : (topology : Topology) (before : History) (tables : Tables) → view_in tables ≡ view_of topology before → (c : StageNo) → delivered_to tables.sends.items c ≡ sent_to topology before c
sent_to_same topology before tables same c = ap (λ view. view.sent_to c) same
