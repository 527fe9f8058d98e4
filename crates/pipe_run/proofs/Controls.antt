-- From what a control source was read to, to what the journal says of the control source that was opened.
use Rattle.std.proofs.Common.{◌≡◌, ℕ, List, ◌++◌, ap, ◌∙◌, Option, Some, None}
use Rattle.std.specs.Prelude.{IfSome}
use Rattle.pipe_types.specs.declared.topology.Topology.{Topology}
use Rattle.pipe_model.specs.History.{History}
use Rattle.pipe_laws.specs.Read.{HasNoControl}
use Rattle.stage_bodies.specs.Seen.{LineSeen}
use Rattle.run_pipe.specs.Keeping.{IsFresh, KeepsControlPartly, KeepsLinesPartly}
use Rattle.run_pipe.proofs.Obeying.{control_read}
use Rattle.edge_names.specs.Seen.{EdgesSeen}
use Rattle.edge_names.specs.Controls.{control_call}
use Rattle.edge_names.specs.Opened.{GivesLines, HasSource}
use Rattle.pipe_run.specs.Outside.{HasControl, IsControlUsed}

control_used : (topology : Topology) (edges : EdgesSeen) (before : History) (name : List ℕ) (opened now : LineSeen) → GivesLines edges name opened → KeepsLinesPartly topology before opened now → IsControlUsed topology edges before name now.source
control_used topology edges before name opened now gives k = record {
  opened = opened.source;
  given = gives.source;
  same_telling = k.1.read.same_telling;
  same_bytes = λ t. k.1.read.same_bytes t ∙ ap (λ x. x ++ opened.source.left) gives.source.nothing_taken;
  reads = control_read topology before k.0 opened now gives.source.nothing_taken gives.source.no_fault gives.source.no_wait k.1;
}

-- a control source that was opened by name is read as the journal says
pub has_control : (topology : Topology) (edges : EdgesSeen) (before : History) (name : Option (List ℕ)) (opened now : Option LineSeen) → HasSource edges (control_call name) None opened → KeepsControlPartly topology before opened now
    → HasControl topology edges before name now
has_control topology edges before (Some name) (Some opened) (Some now) lines k = control_used topology edges before name opened now lines k
has_control topology edges before (Some name) (Some opened) None lines k = absurd k
has_control topology edges before (Some name) None now lines k = absurd lines
has_control topology edges before None None None lines k = tt
has_control topology edges before None None (Some now) lines k = absurd k
has_control topology edges before None (Some opened) now lines k = cc

-- where none is named, no step comes from one
pub no_control : (topology : Topology) (edges : EdgesSeen) (before : History) (name : Option (List ℕ)) (opened now : Option LineSeen) → name ≡ None → HasSource edges (control_call name) None opened → KeepsControlPartly topology before opened now → HasNoControl before
no_control topology edges before None None None is lines k = k
no_control topology edges before None None (Some now) is lines k = absurd k
no_control topology edges before None (Some opened) now is lines k = cc
no_control topology edges before (Some name) opened now is lines k = cc

-- no line was read of a control source that was opened
pub unread : (edges : EdgesSeen) (name : Option (List ℕ)) (opened : Option LineSeen) → HasSource edges (control_call name) None opened → IfSome opened IsFresh
unread edges (Some name) (Some opened) lines = record { waiting = lines.nothing_waits; end = lines.no_end }
unread edges None (Some opened) lines = cc
unread edges name None lines = tt
