-- Stand-in: the laws of the journal that the core takes from elsewhere.
use Rattle.std.specs.Prelude.{◌≡◌, ℕ, ◌+◌, ◌<◌, ◌≤◌, ◌++◌, ◌∷◌, [], true, false, List, length, drop, take, replicate, All, ◌==◌}
use Rattle.pipe_types.specs.declared.numbers.StageNo.{StageNo}
use Rattle.pipe_types.specs.declared.numbers.SubNo.{SubNo}
use Rattle.pipe_types.specs.declared.topology.Topology.{Topology}
use Rattle.pipe_types.specs.declared.topology.Dispatch.TheVariants.{Demand}
use Rattle.pipe_types.specs.declared.room.Sent.{Sent}
use Rattle.pipe_types.specs.declared.step.Step.TheVariants.{Dispatch, Take, Accept}
use Rattle.pipe_types.specs.Sound.{IsSound}
use Rattle.pipe_types.specs.Stages.{spec_of}
use Rattle.pipe_types.specs.Rooms.{AreAscending}
use Rattle.pipe_types.specs.Dispatchers.{ByDemand, sends_by_place}
use Rattle.pipe_model.specs.Content.{numbers_from}
use Rattle.pipe_model.specs.History.{History, accepted, asked}
use Rattle.pipe_model.specs.Lives.{is_live, is_live_sub}
use Rattle.pipe_model.specs.Flow.{waiting, inbox, sent, kind_in, deliveries, lost_over, view_of, is_batcher, count_on, delivered_to, rooms_by, units_on}
use Rattle.pipe_model.specs.Legal.{is_legal, allows, has_role, is_processor_role}
use Rattle.pipe_model.specs.Ledger.{handled}
use Rattle.core_tables.specs.Tables.{IsNumbered}
use Rattle.core_tables.specs.Chunks.{without_first}
use Rattle.core_laws.specs.Columns.{running}
use Rattle.pipe_model.specs.Standing.{gathered_in}
use Rattle.stage_laws.specs.Numbered.{IsNumberedTopology}

-- what is sent goes on a live subscription, and is an accepted message
pub record IsSentWell (topology : Topology) (before : History) (d : Sent) : Type 0 where
  pub live : is_live_sub topology before d.sub ≡ true
  pub numbered : IsNumbered (accepted before) d

-- the stage dispatches by demand, and nothing is over its size
pub record IsByDemand (topology : Topology) (before : History) (s : StageNo) : Type 0 where
  pub kind : kind_in (spec_of topology s) ≡ Demand
  pub messages : is_batcher (spec_of topology s) ≡ false
  pub fits : lost_over topology before (view_of topology before) s ≡ []

-- what a dispatch by demand comes to
pub record DispatchLaws (topology : Topology) (before : History) (s : StageNo) : Type 0 where
  pub inbox : (c : StageNo) → inbox topology (Dispatch s ∷ before) c ≡ inbox topology before c ++ delivered_to (deliveries topology before s) c
  pub waiting_here : IsByDemand topology before s
      → waiting topology (Dispatch s ∷ before) s ≡ drop (length (deliveries topology before s)) (waiting topology before s)
  pub waiting_else : (t : StageNo) → (s.0 == t.0) ≡ false → waiting topology (Dispatch s ∷ before) t ≡ waiting topology before t
  pub running : (t : StageNo) → running topology (Dispatch s ∷ before) t ≡ running topology before t
  pub gathered : (t : StageNo) → gathered_in topology (Dispatch s ∷ before) t ≡ gathered_in topology before t
  pub well : All (IsSentWell topology before) (deliveries topology before s)
  pub asked_for : (u : SubNo) → sent topology before u + count_on (deliveries topology before s) u ≤ asked before u
  pub live : is_live topology before s ≡ true
  pub places : All (λ d. d.unit < length (waiting topology before s)) (sends_by_place ByDemand (rooms_by topology before (view_of topology before) s) (replicate (length (waiting topology before s)) 0))

-- what a take of a processor comes to; a batch processor takes batches, and no message runs in it
pub record TakeLaws (topology : Topology) (before : History) (s : StageNo) (u : SubNo) (k : ℕ) : Type 0 where
  pub live : is_live topology before s ≡ true
  pub idle : running topology before s ≡ []
  pub inbox_here : inbox topology (Take s u k ∷ before) s ≡ without_first u k (inbox topology before s)
  pub inbox_else : (t : StageNo) → (s.0 == t.0) ≡ false → inbox topology (Take s u k ∷ before) t ≡ inbox topology before t
  pub waiting : (t : StageNo) → waiting topology (Take s u k ∷ before) t ≡ waiting topology before t
  pub running_here : running topology (Take s u k ∷ before) s ≡ take k (units_on u (inbox topology before s))
  pub running_else : (t : StageNo) → (s.0 == t.0) ≡ false → running topology (Take s u k ∷ before) t ≡ running topology before t
  pub gathered : (t : StageNo) → gathered_in topology (Take s u k ∷ before) t ≡ gathered_in topology before t
  pub numbered : All (λ n. (1 ≤ n) × (n ≤ accepted before)) (take k (units_on u (inbox topology before s)))

-- what an accept comes to
pub record AcceptLaws (topology : Topology) (before : History) (s : StageNo) (records : List (List ℕ)) : Type 0 where
  pub live : is_live topology before s ≡ true
  pub waiting_here : waiting topology (Accept s records ∷ before) s ≡ waiting topology before s ++ numbers_from (accepted before + 1) records
  pub waiting_else : (t : StageNo) → (s.0 == t.0) ≡ false → waiting topology (Accept s records ∷ before) t ≡ waiting topology before t
  pub inbox : (t : StageNo) → inbox topology (Accept s records ∷ before) t ≡ inbox topology before t
  pub running : (t : StageNo) → running topology (Accept s records ∷ before) t ≡ running topology before t
  pub gathered : (t : StageNo) → gathered_in topology (Accept s records ∷ before) t ≡ gathered_in topology before t
  pub fits : accepted before + length records ≤ 2000000

pub record Laws : Type 0 where
  pub accept : (topology : Topology) (before : History) (s : StageNo) (records : List (List ℕ)) → IsSound topology → is_legal topology before ≡ true
      → allows topology before (Accept s records) ≡ true → AcceptLaws topology before s records
  pub handled : (topology : Topology) (before : History) (u : SubNo) → IsSound topology → is_legal topology before ≡ true → handled topology before u ≤ accepted before
  pub take : (topology : Topology) (before : History) (s : StageNo) (u : SubNo) (k : ℕ) → IsSound topology → is_legal topology before ≡ true
      → has_role topology s is_processor_role ≡ true → allows topology before (Take s u k) ≡ true → TakeLaws topology before s u k
  pub small : (topology : Topology) (before : History) → IsSound topology → is_legal topology before ≡ true → accepted before ≤ 2000000
  pub few : (topology : Topology) (before : History) (s : StageNo) → IsSound topology → is_legal topology before ≡ true → length (waiting topology before s) ≤ accepted before
  pub ascending : (topology : Topology) (before : History) (s : StageNo) → IsSound topology → AreAscending (rooms_by topology before (view_of topology before) s)
  pub numbered : (topology : Topology) → IsSound topology → IsNumberedTopology topology
  pub dispatch : (topology : Topology) (before : History) (s : StageNo) → IsSound topology → is_legal topology before ≡ true
      → allows topology before (Dispatch s) ≡ true → DispatchLaws topology before s
