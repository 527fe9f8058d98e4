use Rattle.std.proofs.Common.{◌≡◌, ℕ, ◌+◌, ◌*◌, ◌<◌, ◌≤◌, ◌++◌, false, cond, filter, length, get_or, take}
use Rattle.pipe_types.specs.Dispatchers.{on_each}
use Rattle.dispatch_broadcast.specs.Picks.{picks_in}
use Rattle.dispatch_broadcast.proofs.send_picked.Given as goal

abbrev pub invariant-loop-i : goal.invariant-loop-i
invariant-loop-i l =
    record {
      sent : l.sent.items ≡ l.fn.sent.items ++ on_each l.unit (filter (λ r. picks_in l.room l.picks l.unit r.sub) (take l.i l.room));
      long : length l.left.items ≡ length l.fn.left.items;
      done : (i : ℕ) → i < l.i → get_or l.left.items i 0 + cond (get_or l.picks (l.unit * length l.room + i) false) 1 0 ≡ get_or l.fn.left.items i 0;
      rest : (i : ℕ) → l.i ≤ i → get_or l.left.items i 0 ≡ get_or l.fn.left.items i 0;
    }
