use Rattle.std.proofs.Common.{◌≡◌, ◌<◌, ℕ, false}
use Rattle.std.specs.Prelude.{slice_get, IfSome}
use Rattle.line_merge.specs.Streams.{is_open_in}
use Rattle.line_merge.proofs.tries.is_any_open.Given as goal

-- none of those so far is open
abbrev pub invariant-loop-stream : goal.invariant-loop-stream
invariant-loop-stream g l = (k : ℕ) → k < l.stream-index → IfSome (slice_get l.streams k) (λ s. is_open_in s ≡ false)
