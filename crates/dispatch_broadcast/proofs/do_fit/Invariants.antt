use Rattle.std.proofs.Common.{◌≡◌, ℕ, ◌+◌, ◌<◌, ◌≤◌, true, false, get_or}
use Rattle.dispatch_broadcast.proofs.do_fit.Given as goal

abbrev pub invariant-loop-i : goal.invariant-loop-i
invariant-loop-i l = (i : ℕ) → i < l.i → get_or l.picks (l.at + i) false ≡ true → 1 ≤ get_or l.left i 0
