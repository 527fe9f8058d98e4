-- Roles that exclude one another.
use Rattle.std.proofs.Common.{◌≡◌, true, false}
use Rattle.pipe_types.specs.declared.topology.Role.{Role}
use Rattle.pipe_types.specs.declared.topology.Role.TheVariants.{Producer, Processor, Supervisor, Batcher, BatchProcessor}
use Rattle.pipe_model.specs.Legal.{is_producer_role, is_processor_role, is_supervisor_role, is_batcher_role, is_batch_processor_role, takes_role}

pub takes_producer : (role : Role) → takes_role role ≡ true → is_producer_role role ≡ true → ⊥
takes_producer Producer h k = let x : false ≡ true = h in cc
takes_producer _ h k = let x : false ≡ true = k in cc

pub takes_supervisor : (role : Role) → takes_role role ≡ true → is_supervisor_role role ≡ true → ⊥
takes_supervisor Producer h k = let x : false ≡ true = h in cc
takes_supervisor Supervisor h k = let x : false ≡ true = h in cc
takes_supervisor _ h k = let x : false ≡ true = k in cc

pub producer_takes : (role : Role) → is_producer_role role ≡ true → takes_role role ≡ true → ⊥
producer_takes Producer h k = let x : false ≡ true = k in cc
producer_takes _ h k = let x : false ≡ true = h in cc

pub producer_supervises : (role : Role) → is_producer_role role ≡ true → is_supervisor_role role ≡ true → ⊥
producer_supervises Producer h k = let x : false ≡ true = k in cc
producer_supervises _ h k = let x : false ≡ true = h in cc

pub processor_producer : (role : Role) → is_processor_role role ≡ true → is_producer_role role ≡ true → ⊥
processor_producer Producer h k = let x : false ≡ true = h in cc
processor_producer _ h k = let x : false ≡ true = k in cc

pub processor_supervisor : (role : Role) → is_processor_role role ≡ true → is_supervisor_role role ≡ true → ⊥
processor_supervisor Producer h k = let x : false ≡ true = h in cc
processor_supervisor Supervisor h k = let x : false ≡ true = h in cc
processor_supervisor _ h k = let x : false ≡ true = k in cc

pub processor_writes : (role : Role) → is_processor_role role ≡ true → is_batch_processor_role role ≡ true → ⊥
processor_writes Producer h k = let x : false ≡ true = h in cc
processor_writes BatchProcessor h k = let x : false ≡ true = h in cc
processor_writes _ h k = let x : false ≡ true = k in cc

pub supervisor_writes : (role : Role) → is_supervisor_role role ≡ true → is_batch_processor_role role ≡ true → ⊥
supervisor_writes Supervisor h k = let x : false ≡ true = k in cc
supervisor_writes Batcher h k = let x : false ≡ true = k in cc
supervisor_writes _ h k = let x : false ≡ true = h in cc

pub supervisor_produces : (role : Role) → is_supervisor_role role ≡ true → is_producer_role role ≡ true → ⊥
supervisor_produces Producer h k = let x : false ≡ true = h in cc
supervisor_produces _ h k = let x : false ≡ true = k in cc

pub supervisor_takes : (role : Role) → is_supervisor_role role ≡ true → takes_role role ≡ true → ⊥
supervisor_takes Processor h k = let x : false ≡ true = h in cc
supervisor_takes BatchProcessor h k = let x : false ≡ true = h in cc
supervisor_takes _ h k = let x : false ≡ true = k in cc

pub supervisor_processes : (role : Role) → is_supervisor_role role ≡ true → is_processor_role role ≡ true → ⊥
supervisor_processes Processor h k = let x : false ≡ true = h in cc
supervisor_processes BatchProcessor h k = let x : false ≡ true = h in cc
supervisor_processes _ h k = let x : false ≡ true = k in cc

pub batcher_writes : (role : Role) → is_batcher_role role ≡ true → is_batch_processor_role role ≡ true → ⊥
batcher_writes Producer h k = let x : false ≡ true = h in cc
batcher_writes BatchProcessor h k = let x : false ≡ true = h in cc
batcher_writes _ h k = let x : false ≡ true = k in cc
