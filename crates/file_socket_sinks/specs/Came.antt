-- What the system's answers come to.
use Rattle.std.specs.Prelude.{◌≡◌, ◌≢◌, ◌<◌, ℕ, Result, Ok, Err}
use Rattle.std.specs.IoError.{error_kind}
use Rattle.std.specs.declared.io.Error.{Error}
use Rattle.std.specs.declared.io.ErrorKind.TheVariants as kind
use Rattle.pipe_edges.specs.declared.source.ReadEnd.{ReadEnd}
use Rattle.pipe_edges.specs.declared.source.ReadEnd.TheVariants as read
use Rattle.pipe_edges.specs.declared.edges.EdgeEnd.{EdgeEnd}
use Rattle.pipe_edges.specs.declared.edges.EdgeEnd.TheVariants as edge

-- no bytes are the end; what would wait is not there yet; every other error is a failure
abbrev pub ReadCameTo : Result ℕ Error → ReadEnd → Type 0
ReadCameTo (Ok n) (read.Got m) = (m ≡ n) × (0 < n)
ReadCameTo (Ok n) read.End = n ≡ 0
ReadCameTo (Ok n) _ = ⊥
ReadCameTo (Err e) read.Empty = error_kind e ≡ kind.WouldBlock
ReadCameTo (Err e) read.Failed = error_kind e ≢ kind.WouldBlock
ReadCameTo (Err e) _ = ⊥

-- what was opened is handed on; every error but want of memory is a failure
abbrev pub OpenCameTo : {T : Type 0} → Result T Error → Result T EdgeEnd → Type 0
OpenCameTo (Ok opened) result = result ≡ Ok opened
OpenCameTo (Err e) (Err edge.OutOfMemory) = error_kind e ≡ kind.OutOfMemory
OpenCameTo (Err e) (Err edge.Failed) = error_kind e ≢ kind.OutOfMemory
OpenCameTo (Err e) (Ok _) = ⊥
