-- What happens to a source's bytes while its lines are handed out.
use Rattle.std.specs.Prelude.{◌≡◌, ◌≤◌, ℕ, List, ◌++◌, IsTrue}
use Rattle.pipe_edges.specs.declared.source.ByteSource.{Ghosts as SourceOf}

-- From old to new some bytes were read, which the source's own bytes show where it tells them. What was held and
-- these are the text that was handed out and what is held now: no byte is lost or gained.
pub record Handed {B : Type 0} (source : SourceOf B) (old new : B) (held held' text : List ℕ) : Type 0 where
  pub same_telling : source.told new ≡ source.told old
  pub part : List ℕ
  pub all_kept : held ++ part ≡ text ++ held'
  pub from_left : IsTrue (source.told old) → source.left old ≡ part ++ source.left new
  pub into_taken : IsTrue (source.told old) → source.taken new ≡ source.taken old ++ part
  pub faults_stay : source.faults old ≤ source.faults new
  pub waits_stay : source.waits old ≤ source.waits new
