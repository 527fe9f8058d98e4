-- What is opened once at most.
use Rattle.std.specs.Prelude.{◌≡◌, ◌⊎◌, ◌++◌, ◌∷◌, [], List, Result, Ok, Err, Contains}
use Rattle.std.specs.IoError.{error_kind}
use Rattle.std.specs.declared.io.Error.{Error}
use Rattle.std.specs.declared.io.ErrorKind.TheVariants as kind
use Rattle.file_socket_sinks.specs.declared.opened.Identity.{Identity}

-- what is opened was not open, and is from then on; a refusal changes nothing, and comes where it is open or memory is wanted
abbrev pub OpensOnce : {T : Type 0} → Result T Error → Identity → List Identity → List Identity → Type 0
OpensOnce (Ok _) identity before now = ¬ (Contains before identity) × (now ≡ before ++ identity ∷ [])
OpensOnce (Err e) identity before now = (now ≡ before) × (Contains before identity ⊎ (error_kind e ≡ kind.OutOfMemory))
