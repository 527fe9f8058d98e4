-- The times of restarts.
use Rattle.std.proofs.Common.{◌≡◌, ◌≢◌, ℕ, ◌<◌, ◌≤◌, List, [], ◌∷◌, length, set, inl, inr, Bool, true, false, Option, Some, None, refl, ap, sym, ◌∙◌, subst, arith}
use Rattle.std.specs.Prelude.{All, IfSome, if◌then◌else◌, ◌==◌, ◌⊎◌, option_map, slice_get}
use Rattle.std.proofs.lemmas.Bool.{leb-true, ltb-true}
use Rattle.std.proofs.lemmas.List.Elements.{All-nil, All-cons, All-weaker, All-take}
use Rattle.pipe_types.specs.declared.numbers.StageNo.{StageNo}
use Rattle.pipe_types.specs.declared.topology.Topology.{Topology}
use Rattle.pipe_types.specs.declared.step.Step.TheVariants.{Restart, Tick}
use Rattle.pipe_types.specs.declared.topology.RestartLimit.{RestartLimit as Allowed}
use Rattle.pipe_types.specs.Restarts.{restarts_counted, limit_at, limit_allows}
use Rattle.pipe_model.specs.History.{History, now}
use Rattle.pipe_model.specs.Legal.{is_legal, allows, limit_of, restart_times, needs_restart, no_post_out}
use Rattle.pipe_laws.proofs.Tests.{and_right}
use Rattle.pipe_laws.proofs.Allowed.{legal_before, legal_step, unowed}
use Rattle.restart_core.specs.Restarts.{RestartLimit, Remembers}
use Rattle.core_tables.specs.declared.rows.Totals.{Totals}
use Rattle.core_tables.proofs.Tables.{same_or_other, get-set_same, get-set_other}
use Rattle.core_state.specs.declared.state.Core.{Core}
use Rattle.core_state.specs.Stands.{Holds, limit_seen}

-- no restart was made later than now
pub times_past : (topology : Topology) (before : History) (l : ℕ) → is_legal topology before ≡ true → All (λ t. t ≤ now before) (restart_times topology before l)
times_past topology [] l h = All-nil (λ t. t ≤ 0)
times_past topology (Restart s ∷ before) l h = by (limit_of topology s == l) (times_past topology before l (legal_before topology before (Restart s) h))
  where
    by : (b : Bool) → All (λ t. t ≤ now before) (restart_times topology before l) → All (λ t. t ≤ now before) (if b then now before ∷ restart_times topology before l else restart_times topology before l)
    by true old = All-cons (λ t. t ≤ now before) (now before) (restart_times topology before l) (omega arith) old
    by false old = old
times_past topology (Tick t ∷ before) l h =
    let later : now before ≤ t = leb-true (now before) t (unowed topology before (Tick t) (λ s. refl) (λ s. refl) (legal_step topology before (Tick t) h)) in
    All-weaker (λ m. m ≤ now before) (λ m. m ≤ t) (λ m low. omega (arith, low, later)) (restart_times topology before l) (times_past topology before l (legal_before topology before (Tick t) h))
times_past topology (step ∷ before) l h = times_past topology before l (legal_before topology before step h)

remembered_past : (topology : Topology) (before : History) (l : ℕ) (limit : RestartLimit) → is_legal topology before ≡ true → Remembers limit (restart_times topology before l) → All (λ t. t ≤ now before) limit.times
remembered_past topology before l limit h known =
    subst (All (λ t. t ≤ now before)) (sym known.last) (All-take (λ t. t ≤ now before) limit.max (restart_times topology before l) (times_past topology before l h))

-- a restart that may come has a limit above 0
limit_some : (allowed : Option Allowed) (time : ℕ) (times : List ℕ) → limit_allows allowed time times ≡ true → IfSome allowed (λ limit. 0 < limit.max_restarts)
limit_some None time times h = cc
limit_some (Some limit) time times h =
    let few = ltb-true (restarts_counted limit.window_ms time times) limit.max_restarts h in
    omega (arith, few)

limit_there : (allowed : Option Allowed) (time : ℕ) (times : List ℕ) → limit_allows allowed time times ≡ true → (limit : Allowed) × (allowed ≡ Some limit)
limit_there None time times h = cc
limit_there (Some limit) time times h = (limit, refl)

-- the limit of a stage that may be restarted: it allows some, and its restarts were made by now
pub record Allows (core : Core) (l : ℕ) : Type 0 where
  pub limit : RestartLimit
  pub at : slice_get core.restarts.items l ≡ Some limit
  pub some : 0 < limit.max
  pub latest : All (λ t. t ≤ core.totals.now) limit.times

pub restart_allowed : (core : Core) (s : StageNo) → Holds core → allows core.topology core.journal.steps (Restart s) ≡ true → Allows core (limit_of core.topology s)
restart_allowed core s x h =
    let may = and_right (no_post_out t before s) _ (and_right (needs_restart t before s) _ (unowed t before (Restart s) (λ u. refl) (λ u. refl) h)) in
    let there = limit_there (limit_at t l) (now before) (restart_times t before l) may in
    let some = limit_some (limit_at t l) (now before) (restart_times t before l) may in
    by (slice_get core.restarts.items l) there.0 refl (x.fields.set.restarts l ∙ there.1) (subst (λ o. IfSome o (λ limit. 0 < limit.max_restarts)) there.1 some)
  where
    t : Topology
    t = core.topology

    before : History
    before = core.journal.steps

    l : ℕ
    l = limit_of core.topology s

    by : (o : Option RestartLimit) (limit : Allowed) → slice_get core.restarts.items l ≡ o → option_map limit_seen o ≡ Some limit → 0 < limit.max_restarts → Allows core l
    by None limit at seen some = cc
    by (Some held) limit at seen some =
        let is : limit_seen held ≡ limit = cc in
        let now_is = ap (λ (y : Totals). y.now) x.fields.totals in
        record {
          limit = held;
          at = at;
          some = subst (λ (a : Allowed). 0 < a.max_restarts) (sym is) some;
          latest = subst (λ (n : ℕ). All (λ m. m ≤ n) held.times) (sym now_is) (remembered_past t before l held x.legal (x.fields.restarts l held at));
        }

-- A restart that is noted

pub noted_limits : (limits : List RestartLimit) (at : ℕ) (old new : RestartLimit) → at < length limits → slice_get limits at ≡ Some old → limit_seen new ≡ limit_seen old
    → (l : ℕ) → option_map limit_seen (slice_get (set limits at new) l) ≡ option_map limit_seen (slice_get limits l)
noted_limits limits at old new there was same l = by (same_or_other l at)
  where
    by : (((l == at) ≡ true) × (l ≡ at)) ⊎ (((l == at) ≡ false) × (l ≢ at)) → option_map limit_seen (slice_get (set limits at new) l) ≡ option_map limit_seen (slice_get limits l)
    by (inl is) =
        ap (λ k. option_map limit_seen (slice_get (set limits at new) k)) is.1
        ∙ (ap (option_map limit_seen) (get-set_same limits at new there)
        ∙ (ap Some same ∙ (ap (option_map limit_seen) (sym was) ∙ ap (λ k. option_map limit_seen (slice_get limits k)) (sym is.1))))
    by (inr other) = ap (option_map limit_seen) (get-set_other limits at l new other.1)

pub noted_times : (limits : List RestartLimit) (at : ℕ) (old new : RestartLimit) (time : ℕ) → at < length limits → slice_get limits at ≡ Some old → ((made : List ℕ) → Remembers old made → Remembers new (time ∷ made))
    → (l : ℕ) (made : List ℕ) (limit : RestartLimit) → ((held : RestartLimit) → slice_get limits l ≡ Some held → Remembers held made) → slice_get (set limits at new) l ≡ Some limit
    → Remembers limit (if at == l then time ∷ made else made)
noted_times limits at old new time there was more l made limit known is = by (same_or_other at l)
  where
    by : (((at == l) ≡ true) × (at ≡ l)) ⊎ (((at == l) ≡ false) × (at ≢ l)) → Remembers limit (if at == l then time ∷ made else made)
    by (inl same) =
        let here : slice_get limits l ≡ Some old = ap (slice_get limits) (sym same.1) ∙ was in
        let both : Some new ≡ Some limit = sym (ap (slice_get (set limits at new)) (sym same.1) ∙ get-set_same limits at new there) ∙ is in
        let new_is : new ≡ limit = cc in
        subst (λ (b : Bool). Remembers limit (if b then time ∷ made else made)) (sym same.0) (subst (λ (r : RestartLimit). Remembers r (time ∷ made)) new_is (more made (known old here)))
    by (inr other) =
        subst (λ (b : Bool). Remembers limit (if b then time ∷ made else made)) (sym other.0)
        (known limit (sym (get-set_other limits at l new (λ e. other.1 (sym e))) ∙ is))
