-- The topology of `flow` needs one box, of the kind of steps.
use Rattle.std.proofs.Common.{◌≡◌, ℕ, List, refl}
use Rattle.pipe_types.specs.declared.topology.Kind.TheVariants.{Steps, Lines, Own}
use Rattle.config_flow.specs.Flow.{flow_topology_of}
use Rattle.topology_needs.specs.Needs.{need_of}

pub flow_needs_steps : (source prefix : List ℕ) → need_of (flow_topology_of source prefix) Steps ≡ 1
flow_needs_steps source prefix = refl

pub flow_needs_no_lines : (source prefix : List ℕ) → need_of (flow_topology_of source prefix) Lines ≡ 0
flow_needs_no_lines source prefix = refl

pub flow_needs_no_own : (source prefix : List ℕ) → need_of (flow_topology_of source prefix) Own ≡ 0
flow_needs_no_own source prefix = refl
