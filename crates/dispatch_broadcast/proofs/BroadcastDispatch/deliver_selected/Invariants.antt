use Rattle.std.proofs.Common.{◌≡◌, ℕ, ◌+◌, ◌-◌, ◌≤◌, length, [], slice_get, get_or, Some, true}
use Rattle.std.specs.Prelude.{count_by}
use Rattle.pipe_types.specs.declared.room.Room.{Room}
use Rattle.pipe_types.specs.Dispatchers.{ByBroadcast, fit_all, sends_by_place}
use Rattle.pipe_types.proofs.Sends.{turned}
use Rattle.dispatch_broadcast.specs.Picks.{picks_in, places}
use Rattle.dispatch_broadcast.proofs.BroadcastDispatch.deliver_selected.Given as goal

abbrev pub invariant-loop-units : goal.invariant-loop-units
invariant-loop-units l =
    record {
      few : l.units ≤ l.waiting;
      long : length l.left.items ≡ length l.room;
      opens : (i : ℕ) (r : Room) → slice_get l.room i ≡ Some r → get_or l.left.items i 0 + count_by (λ n. picks_in l.room l.picks n r.sub) (turned (places l.units) []) ≡ r.left;
      fit : fit_all (picks_in l.room l.picks) l.room (turned (places l.units) []) ≡ true;
      sent : l.sent.items ≡ sends_by_place (ByBroadcast (picks_in l.room l.picks)) l.room (places l.units);
    }

abbrev pub decreases-loop-units : goal.decreases-loop-units
decreases-loop-units l = l.waiting - l.units
