-- How much the consumers of a stage ask for.
use Rattle.std.proofs.Common.{◌≡◌, ℕ, ◌+◌, ◌-◌, ◌<◌, List, [], ◌∷◌, length, drop, refl, ap, sym, Bool, true, false, None, Some, ◌∙◌, arith, get_or}
use Rattle.std.specs.Prelude.{◌&&◌, ◌==◌, if◌then◌else◌}
use Rattle.std.proofs.lemmas.List.{at_drop_more}
use Rattle.pipe_types.specs.declared.numbers.StageNo.{StageNo}
use Rattle.pipe_types.specs.declared.numbers.SubNo.{SubNo}
use Rattle.pipe_types.specs.declared.topology.Topology.{Topology}
use Rattle.pipe_types.specs.declared.topology.StageSpec.{StageSpec}
use Rattle.pipe_types.specs.Stages.{feeds}
use Rattle.pipe_model.specs.History.{History, asked}
use Rattle.pipe_model.specs.Lives.{is_live, current_sub, live_subs, live_subs_from, generation}
use Rattle.pipe_model.specs.Flow.{room, open_demand, sent}
use Rattle.pipe_laws.proofs.Tests.{and_left, and_right}
use Rattle.stage_subs.specs.Subs.{live_sub, room_on, room_in}
use Rattle.core_state.specs.declared.state.Core.{Core}
use Rattle.core_state.specs.Stands.{Holds}
use Rattle.core_rows.specs.Rows.{open_on, open_among}
use Rattle.core_rows.proofs.Known.{now_live, now_dead, feeds_self}

-- the open demand of a list of subscriptions
abbrev total : (SubNo → ℕ) → List SubNo → ℕ
total g [] = 0
total g (u ∷ subs) = g u + total g subs

room_total : (topology : Topology) (before : History) (s : StageNo) (subs : List SubNo) → live_subs topology before s ≡ subs → room topology before s ≡ total (open_demand topology before) subs
room_total topology before s subs e =
    let is : room topology before s ≡ total (open_demand topology before) (live_subs topology before s) = refl in
    is ∙ ap (total (open_demand topology before)) e

total_among : (topology : Topology) (before : History) (s : StageNo) (specs : List StageSpec) → total (open_demand topology before) (live_subs_from topology before s specs) ≡ open_among topology before s specs
total_among topology before s [] = refl
total_among topology before s (c ∷ specs) = by (feeds topology s c.no && is_live topology before c.no) (total_among topology before s specs)
  where
    by : (b : Bool) → total (open_demand topology before) (live_subs_from topology before s specs) ≡ open_among topology before s specs
        → total (open_demand topology before) (if b then current_sub topology before c.no s ∷ live_subs_from topology before s specs else live_subs_from topology before s specs)
        ≡ (if b then open_demand topology before (current_sub topology before c.no s) else 0) + open_among topology before s specs
    by true rest = ap (λ n. open_demand topology before (current_sub topology before c.no s) + n) rest
    by false rest = omega (arith, rest)

-- the room of a live stage is what its consumers ask for together
pub room_among : (topology : Topology) (before : History) (s : StageNo) → is_live topology before s ≡ true → open_among topology before s topology.stages ≡ room topology before s
room_among topology before s live =
    sym (room_total topology before s (live_subs_from topology before s topology.stages) (ap (λ b. if b then live_subs_from topology before s topology.stages else []) live)
    ∙ total_among topology before s topology.stages)

pub room_dead : (topology : Topology) (before : History) (s : StageNo) → is_live topology before s ≡ false → 0 ≡ room topology before s
room_dead topology before s dead = sym (room_total topology before s [] (ap (λ b. if b then live_subs_from topology before s topology.stages else []) dead))

-- one more consumer
pub among_more : (topology : Topology) (before : History) (s : StageNo) (specs : List StageSpec) (i : ℕ) (c : StageSpec) → i < length specs → c ≡ get_or specs i c
    → open_among topology before s (drop i specs) ≡ open_on topology before s c.no + open_among topology before s (drop (i + 1) specs)
among_more topology before s specs i c below is =
    at_drop_more (open_among topology before s) specs i c below
    ∙ ap (λ (q : StageSpec). open_on topology before s q.no + open_among topology before s (drop (i + 1) specs)) (sym is)

pub unfed_open : (topology : Topology) (before : History) (p c : StageNo) → feeds topology p c ≡ false → 0 ≡ open_on topology before p c
unfed_open topology before p c unfit = ap (λ b. if b && is_live topology before c then open_demand topology before (current_sub topology before c p) else 0) (sym unfit)

-- on the pair's live subscription
pub open_live : (core : Core) (p c : StageNo) (u : SubNo) → Holds core → feeds core.topology p c ≡ true → Some u ≡ live_sub core.subs c p
    → room_on core.subs u ≡ open_on core.topology core.journal.steps p c
open_live core p c u x fed is =
    let at = now_live core c p u x fed is in
    let lives : is_live core.topology core.journal.steps c ≡ true = and_left (is_live core.topology core.journal.steps c) _ (and_right (is_live core.topology core.journal.steps p) _ (and_right (feeds core.topology p c) _ at.1)) in
    ap (room_on core.subs) at.0
    ∙ (ap (λ o. room_in o (generation core.topology core.journal.steps c p)) (x.fields.subs c p fed)
    ∙ (ap (λ b. if b && generation core.topology core.journal.steps c p == generation core.topology core.journal.steps c p then demand else 0) at.1
    ∙ (ap (λ b. if b then demand else 0) (feeds_self (generation core.topology core.journal.steps c p))
    ∙ (ap (λ b. if b then demand else 0) (sym at.1)
    ∙ (ap (λ b. if true && b then open_demand core.topology core.journal.steps now else 0) (sym lives)
    ∙ ap (λ b. if b && is_live core.topology core.journal.steps c then open_demand core.topology core.journal.steps now else 0) (sym fed))))))
  where
    now : SubNo
    now = current_sub core.topology core.journal.steps c p

    demand : ℕ
    demand = asked core.journal.steps now - sent core.topology core.journal.steps now

pub open_dead : (core : Core) (p c : StageNo) → Holds core → feeds core.topology p c ≡ true → None ≡ live_sub core.subs c p
    → 0 ≡ open_on core.topology core.journal.steps p c
open_dead core p c x fed is =
    none_of (feeds core.topology p c && is_live core.topology core.journal.steps c) (open_demand core.topology core.journal.steps now) (ap (λ b. if b then demand else 0) (now_dead core c p x fed is))
  where
    now : SubNo
    now = current_sub core.topology core.journal.steps c p

    demand : ℕ
    demand = asked core.journal.steps now - sent core.topology core.journal.steps now

    none_of : (b : Bool) (n : ℕ) → n ≡ 0 → 0 ≡ (if b then n else 0)
    none_of true n e = sym e
    none_of false n e = refl
