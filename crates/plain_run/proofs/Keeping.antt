-- What a step makes of what handlers were shown and answered.
use Rattle.std.proofs.Common.{◌≡◌, ℕ, ◌<◌, ◌≤◌, List, ◌∷◌, length, take, Bool, true, false, refl, ap, sym, ◌∙◌, Some, None, Option, arith, subst, All}
use Rattle.std.specs.Prelude.{slice_get, slice_index, if◌then◌else◌, ◌==◌, ◌&&◌}
use Rattle.std.specs.declared.alloc.Global.{Global}
use Rattle.std.specs.declared.vec.Vec.{Vec}
use Rattle.std.proofs.lemmas.Bool.Decides.{nat_tests}
use Rattle.std.proofs.lemmas.Bool.{eqb-true}
use Rattle.pipe_types.specs.declared.numbers.StageNo.{StageNo}
use Rattle.pipe_types.specs.declared.numbers.SubNo.{SubNo}
use Rattle.pipe_types.specs.declared.numbers.MsgNo.{MsgNo}
use Rattle.pipe_types.specs.declared.topology.Topology.{Topology}
use Rattle.pipe_types.specs.declared.topology.StageSpec.{StageSpec}
use Rattle.pipe_types.specs.declared.message.Reply.{Reply}
use Rattle.pipe_types.specs.declared.message.BatchEnd.{BatchEnd}
use Rattle.pipe_types.specs.declared.step.Step.{Step}
use Rattle.pipe_types.specs.declared.step.Step.TheVariants.{Take, Done, Wrote, Child, Restart}
use Rattle.pipe_types.specs.Numbers.{stage, same_stage}
use Rattle.pipe_types.specs.Stages.{spec_of}
use Rattle.pipe_types.specs.Handlers.{counted}
use Rattle.pipe_model.specs.History.{History}
use Rattle.pipe_model.specs.Posts.{in_slot}
use Rattle.pipe_model.specs.Flow.{inbox, units_on}
use Rattle.pipe_model.specs.Work.{taken_units, count, batch_of}
use Rattle.pipe_model.specs.Legal.{has_role, is_processor_role}
use Rattle.pipe_laws.proofs.Tests.{same_stage-true, same_stage-self}
use Rattle.core_tables.specs.Tables.{list_at}
use Rattle.core_tables.specs.Rows.{post_at}
use Rattle.plain_run.specs.declared.works.Works.{Works}
use Rattle.plain_run.specs.Works.{WorksStand, count_with}
use Rattle.plain_run.specs.Steps.{keeps_works}

-- in a core with the same topology and steps
pub works_same : (t u : Topology) (h g : History) (works : Works) → u ≡ t → g ≡ h → WorksStand t h works → WorksStand u g works
works_same t u h g works e f w = subst (λ (x : Topology). WorksStand x g works) (sym e) (subst (λ (x : History). WorksStand t x works) (sym f) w)

-- most steps change nothing of it
pub works_kept : (topology : Topology) (before : History) (step : Step) (works : Works) → keeps_works step ≡ true → WorksStand topology before works → WorksStand topology (step ∷ before) works
works_kept topology before (Take s u k) works h w = cc
works_kept topology before (Done s replies) works h w = cc
works_kept topology before (Wrote s bytes end) works h w = cc
works_kept topology before (Child s m slot) works h w = cc
works_kept topology before (Restart s) works h w = cc
works_kept topology before step works h w = record { sized = w.sized; taken = w.taken; least = w.least; counts = w.counts; started = w.started }

-- ---- a take

here_or_else : (topology : Topology) (before : History) (t : StageNo) (u : SubNo) (k : ℕ) (s : StageNo) (old : List ℕ) (b : Bool) → (s.0 == t.0) ≡ b → old ≡ taken_units topology before s
    → (if b then take k (units_on u (inbox topology before t)) else old) ≡ (if b then take k (units_on u (inbox topology before s)) else taken_units topology before s)
here_or_else topology before t u k s old true same is = ap (λ (n : ℕ). take k (units_on u (inbox topology before (stage n)))) (sym (eqb-true s.0 t.0 same))
here_or_else topology before t u k s old false same is = is

pub works_taken : (topology : Topology) (before : History) (t : StageNo) (u : SubNo) (k : ℕ) (works : Works) (rows : Vec (Vec ℕ Global) Global) (units : List ℕ) → WorksStand topology before works
    → ((s : StageNo) → list_at rows.items s ≡ (if s.0 == t.0 then units else list_at works.taken.items s)) → length rows.items ≡ length works.taken.items
    → units ≡ take k (units_on u (inbox topology before t))
    → (has_role topology t is_processor_role ≡ true → All (λ n. 1 ≤ n) (take k (units_on u (inbox topology before t))))
    → WorksStand topology (Take t u k ∷ before) (record works { taken = rows })
works_taken topology before t u k works rows units w is len same least = record {
  sized = record { taken = len ∙ w.sized.taken; counts = w.sized.counts; started = w.sized.started };
  taken = λ s. is s ∙ (ap (λ (us : List ℕ). if s.0 == t.0 then us else list_at works.taken.items s) same ∙ here_or_else topology before t u k s (list_at works.taken.items s) (s.0 == t.0) refl (w.taken s));
  least = λ s role. low s role (same_stage s t) refl;
  counts = w.counts;
  started = w.started;
}
  where
    low : (s : StageNo) → has_role topology s is_processor_role ≡ true → (b : Bool) → same_stage s t ≡ b
        → All (λ n. 1 ≤ n) (if b then take k (units_on u (inbox topology before s)) else taken_units topology before s)
    low s role true e =
        subst (λ (x : StageNo). All (λ n. 1 ≤ n) (take k (units_on u (inbox topology before x)))) (sym (same_stage-true s t e))
        (least (subst (λ (x : StageNo). has_role topology x is_processor_role ≡ true) (same_stage-true s t e) role))
    low s role false e = w.least s role

-- ---- counts

-- a new count in the table
count_at : (s t : StageNo) (n old new : ℕ) (f : ℕ → ℕ) (at : ℕ) (b : Bool) → (s.0 == t.0) ≡ b → old ≡ at → (s.0 ≡ t.0 → n ≡ f at) → (if b then n else old) ≡ (if b then f at else at)
count_at s t n old new f at true same is told = told (eqb-true s.0 t.0 same)
count_at s t n old new f at false same is told = is

pub works_done : (topology : Topology) (before : History) (t : StageNo) (replies : List Reply) (works : Works) (counts : Vec ℕ Global) (n : ℕ) → WorksStand topology before works
    → ((s : StageNo) → slice_index counts.items s.0 ≡ (if s.0 == t.0 then n else slice_index works.counts.items s.0)) → length counts.items ≡ length works.counts.items
    → n ≡ counted (slice_index works.counts.items t.0) (length replies)
    → WorksStand topology (Done t replies ∷ before) (record works { counts = counts })
works_done topology before t replies works counts n w is len told = record {
  sized = record { taken = w.sized.taken; counts = len ∙ w.sized.counts; started = w.sized.started };
  taken = w.taken;
  least = w.least;
  counts = λ s. is s
      ∙ count_at s t n (slice_index works.counts.items s.0) n (λ m. counted m (length replies)) (count topology before s) (s.0 == t.0) refl (w.counts s)
      (λ e. told ∙ ap (λ m. counted m (length replies)) (ap (slice_index works.counts.items) (sym e) ∙ w.counts s));
  started = w.started;
}

-- the count that a batch leaves
count_wrote : (topology : Topology) (before : History) (s : StageNo) (bytes : ℕ) (end : BatchEnd)
    → count topology (Wrote s bytes end ∷ before) s ≡ count_with (spec_of topology s) (count topology before s) (batch_of topology before s)
count_wrote topology before s bytes end = by (spec_of topology s) refl
  where
    by : (o : Option StageSpec) → spec_of topology s ≡ o → count topology (Wrote s bytes end ∷ before) s ≡ count_with (spec_of topology s) (count topology before s) (batch_of topology before s)
    by None e = rw (same_stage-self s, e) refl
    by (Some spec) e = rw (same_stage-self s, e) refl

count_else : (topology : Topology) (before : History) (t s : StageNo) (bytes : ℕ) (end : BatchEnd) → same_stage s t ≡ false → count topology (Wrote t bytes end ∷ before) s ≡ count topology before s
count_else topology before t s bytes end e = rw e refl

pub works_wrote : (topology : Topology) (before : History) (t : StageNo) (bytes : ℕ) (end : BatchEnd) (works : Works) (counts : Vec ℕ Global) (n : ℕ) → WorksStand topology before works
    → ((s : StageNo) → slice_index counts.items s.0 ≡ (if s.0 == t.0 then n else slice_index works.counts.items s.0)) → length counts.items ≡ length works.counts.items
    → n ≡ count_with (spec_of topology t) (slice_index works.counts.items t.0) (batch_of topology before t)
    → WorksStand topology (Wrote t bytes end ∷ before) (record works { counts = counts })
works_wrote topology before t bytes end works counts n w is len told = record {
  sized = record { taken = w.sized.taken; counts = len ∙ w.sized.counts; started = w.sized.started };
  taken = w.taken;
  least = w.least;
  counts = λ s. is s ∙ at s (s.0 == t.0) refl;
  started = w.started;
}
  where
    at : (s : StageNo) (b : Bool) → (s.0 == t.0) ≡ b → (if b then n else slice_index works.counts.items s.0) ≡ count topology (Wrote t bytes end ∷ before) s
    at s true e =
        let here : t ≡ s = sym (same_stage-true s t e) in
        told ∙ (ap (λ m. count_with (spec_of topology t) m (batch_of topology before t)) (w.counts t)
        ∙ (sym (count_wrote topology before t bytes end) ∙ ap (count topology (Wrote t bytes end ∷ before)) here))
    at s false e = w.counts s ∙ sym (count_else topology before t s bytes end e)

pub works_restarted : (topology : Topology) (before : History) (t : StageNo) (works : Works) (counts : Vec ℕ Global) → WorksStand topology before works
    → ((s : StageNo) → slice_index counts.items s.0 ≡ (if s.0 == t.0 then 0 else slice_index works.counts.items s.0)) → length counts.items ≡ length works.counts.items
    → WorksStand topology (Restart t ∷ before) (record works { counts = counts })
works_restarted topology before t works counts w is len = record {
  sized = record { taken = w.sized.taken; counts = len ∙ w.sized.counts; started = w.sized.started };
  taken = w.taken;
  least = w.least;
  counts = λ s. is s ∙ ap (λ (m : ℕ). if s.0 == t.0 then 0 else m) (w.counts s);
  started = w.started;
}

-- ---- a child

-- which row it is
row_same : (s t : StageNo) (slot k : ℕ) → k < 16 → slot < 16 → (post_at t.0 k == post_at s.0 slot) ≡ (same_stage s t && k == slot)
row_same s t slot k low high = grind (arith, nat_tests)

pub works_started : (topology : Topology) (before : History) (t : StageNo) (m : MsgNo) (k : ℕ) (works : Works) (started : Vec (Option ℕ) Global) → WorksStand topology before works → k < 16
    → ((i : ℕ) → slice_get started.items i ≡ (if post_at t.0 k == i then Some (Some m.0) else slice_get works.started.items i)) → length started.items ≡ length works.started.items
    → WorksStand topology (Child t m k ∷ before) (record works { started = started })
works_started topology before t m k works started w low is len = record {
  sized = record { taken = w.sized.taken; counts = w.sized.counts; started = len ∙ w.sized.started };
  taken = w.taken;
  least = w.least;
  counts = w.counts;
  started = λ s slot within high.
      is (post_at s.0 slot)
      ∙ (ap (λ b. if b then Some (Some m.0) else slice_get works.started.items (post_at s.0 slot)) (row_same s t slot k low high)
      ∙ at s slot (same_stage s t && k == slot) (w.started s slot within high));
}
  where
    at : (s : StageNo) (slot : ℕ) (b : Bool) → slice_get works.started.items (post_at s.0 slot) ≡ Some (in_slot before s slot)
        → (if b then Some (Some m.0) else slice_get works.started.items (post_at s.0 slot)) ≡ Some (if b then Some m.0 else in_slot before s slot)
    at s slot true old = refl
    at s slot false old = old
