use Rattle.std.proofs.Common.{◌≡◌, ℕ, ◌+◌, ◌++◌, List, length, map, replicate, ◌∙◌, ap, sym, arith, subst}
use Rattle.std.specs.Prelude.{IfOk}
use Rattle.std.proofs.lemmas.List.{length-append, length-map, length-replicate}
use Rattle.pipe_types.specs.declared.room.Sent.{Sent}
use Rattle.pipe_types.specs.declared.topology.Dispatch.{Dispatch as Kind}
use Rattle.pipe_types.specs.Dispatchers.{ByDemand, served_as, picks_all, sends_by_place}
use Rattle.core_laws.proofs.Parts.{parts_free}
use Rattle.core_sends.proofs.deliveries.deliver.Goals as goal

long : (n : ℕ) (queue : List (ℕ × ℕ)) (more : List ℕ) → n ≡ length queue + length more → length (replicate {A = ℕ} n 0) ≡ length (map {A = ℕ × ℕ} {B = ℕ} (λ unit. unit.0) queue ++ more)
long n queue more is =
    length-replicate n 0 ∙ (is ∙ sym (length-append (map {A = ℕ × ℕ} {B = ℕ} (λ unit. unit.0) queue) more ∙ ap (λ k. k + length more) (length-map queue (λ unit. unit.0))))

pub returns-in-Demand : goal.returns-in-Demand
returns-in-Demand c =
    let queue = c.args.queue.now.units in
    let more = c.args.more.now in
    let rooms = c.args.rooms.now in
    let n : ℕ = c.len.result + length c.args.more.now in
    let count : n ≡ length queue + length more = omega (arith, c.len.ensures) in
    let same : sends_by_place ByDemand rooms (replicate n 0) ≡ sends_by_place (served_as c.args.kind picks_all) rooms (map {A = ℕ × ℕ} {B = ℕ} (λ unit. unit.0) queue ++ more) =
    parts_free rooms (replicate n 0) (map {A = ℕ × ℕ} {B = ℕ} (λ unit. unit.0) queue ++ more) (long n queue more count)
    ∙ ap (λ (k : Kind). sends_by_place (served_as k picks_all) rooms (map {A = ℕ × ℕ} {B = ℕ} (λ unit. unit.0) queue ++ more)) (sym c.in-Demand.is) in
    subst (λ (ds : List Sent). IfOk c.deliver.result (λ sent. sent ≡ ds)) same c.deliver.ensures
