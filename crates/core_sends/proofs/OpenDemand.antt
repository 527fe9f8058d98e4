-- The rooms of a stage, one consumer after another.
use Rattle.std.proofs.Common.{◌≡◌, ℕ, ◌+◌, ◌<◌, List, [], ◌∷◌, ◌++◌, length, map, drop, ◌-◌, Bool, true, false, refl, ap, sym, ◌∙◌, Some, None, get_or, if◌then◌else◌, arith}
use Rattle.std.specs.Prelude.{◌&&◌, ◌==◌}
use Rattle.std.proofs.lemmas.Bool.Decides.{nat_tests}
use Rattle.std.proofs.lemmas.List.{append_assoc, at_drop_more}
use Rattle.std.proofs.lemmas.Option.{same_Some}
use Rattle.pipe_types.specs.declared.numbers.StageNo.{StageNo}
use Rattle.pipe_types.specs.declared.numbers.SubNo.{SubNo}
use Rattle.pipe_types.specs.declared.room.Room.{Room}
use Rattle.pipe_types.specs.declared.topology.Topology.{Topology}
use Rattle.pipe_types.specs.declared.topology.StageSpec.{StageSpec}
use Rattle.pipe_types.specs.Numbers.{same_sub}
use Rattle.pipe_types.specs.Stages.{feeds, spec_of, spec_feeds}
use Rattle.pipe_laws.proofs.Tests.{same_sub-self}
use Rattle.stage_subs.specs.Subs.{live_sub, live_sub_in, room_on as open_on, room_in}
use Rattle.pipe_model.specs.History.{History, asked}
use Rattle.pipe_model.specs.Flow.{sent, index_in}
use Rattle.pipe_model.specs.Lives.{is_live, is_live_sub, current_sub, live_subs, live_subs_from}
use Rattle.core_state.specs.declared.state.Core.{Core}
use Rattle.core_state.specs.Stands.{Fields}
use Rattle.core_sends.specs.Rooms.{room_on, room_between, and_room}

pub rooms_more : (topology : Topology) (before : History) (s : StageNo) (rooms : List Room) (c : StageSpec) (rest : List StageSpec)
    → and_room rooms (room_between topology before s c.no) ++ map (room_on topology before) (live_subs_from topology before s rest)
    ≡ rooms ++ map (room_on topology before) (live_subs_from topology before s (c ∷ rest))
rooms_more topology before s rooms c rest = by (feeds topology s c.no && is_live topology before c.no)
  where
    by : (b : Bool)
        → and_room rooms (if b then Some (room_on topology before (current_sub topology before c.no s)) else None) ++ map (room_on topology before) (live_subs_from topology before s rest)
        ≡ rooms ++ map (room_on topology before) (if b then current_sub topology before c.no s ∷ live_subs_from topology before s rest else live_subs_from topology before s rest)
    by true = append_assoc rooms (room_on topology before (current_sub topology before c.no s) ∷ []) (map (room_on topology before) (live_subs_from topology before s rest))
    by false = refl

pub rooms_step : (topology : Topology) (before : History) (s : StageNo) (rooms : List Room) (specs : List StageSpec) (i : ℕ) (e : StageSpec) → i < length specs
    → and_room rooms (room_between topology before s (get_or specs i e).no) ++ map (room_on topology before) (live_subs_from topology before s (drop (i + 1) specs))
    ≡ rooms ++ map (room_on topology before) (live_subs_from topology before s (drop i specs))
rooms_step topology before s rooms specs i e below =
    rooms_more topology before s rooms (get_or specs i e) (drop (i + 1) specs)
    ∙ sym (at_drop_more (λ (cs : List StageSpec). rooms ++ map (room_on topology before) (live_subs_from topology before s cs)) specs i e below)

pub feeds_by : (topology : Topology) (p c : StageSpec) → spec_of topology p.no ≡ Some p → spec_of topology c.no ≡ Some c → feeds topology p.no c.no ≡ spec_feeds p c
feeds_by topology p c from to = rw (from, to) refl

pub room_none : (topology : Topology) (before : History) (p c : StageNo) → feeds topology p c ≡ false → room_between topology before p c ≡ None
room_none topology before p c h = rw h refl

pub live_is : (topology : Topology) (before : History) (s : StageNo) → is_live topology before s ≡ true
    → live_subs topology before s ≡ live_subs_from topology before s topology.stages
live_is topology before s h = rw h refl

-- a pair's present subscription is live where both stages are
current_live : (topology : Topology) (before : History) (c p : StageNo) → feeds topology p c ≡ true → is_live topology before p ≡ true
    → is_live_sub topology before (current_sub topology before c p) ≡ is_live topology before c
current_live topology before c p fed from =
    ap (λ b. b && (is_live topology before p && (is_live topology before c && same_sub (current_sub topology before c p) (current_sub topology before c p)))) fed
    ∙ (ap (λ b. b && (is_live topology before c && same_sub (current_sub topology before c p) (current_sub topology before c p))) from
    ∙ (ap (λ b. is_live topology before c && b) (same_sub-self (current_sub topology before c p)) ∙ whole (is_live topology before c)))
  where
    whole : (b : Bool) → (b && true) ≡ b
    whole true = refl
    whole false = refl

-- the live subscription that the table has of a pair
pub sub_seen : (core : Core) (topology : Topology) (before : History) (c p : StageNo) → Fields core topology before → feeds topology p c ≡ true → is_live topology before p ≡ true
    → live_sub core.subs c p ≡ (if is_live topology before c then Some (current_sub topology before c p) else None)
sub_seen core topology before c p x fed from =
    ap (λ o. live_sub_in o c p) (x.subs c p fed)
    ∙ ap (λ b. if b then Some (current_sub topology before c p) else None) (current_live topology before c p fed from)

pub room_dead : (core : Core) (topology : Topology) (before : History) (c p : StageNo) → Fields core topology before → feeds topology p c ≡ true → is_live topology before p ≡ true
    → live_sub core.subs c p ≡ None → None ≡ room_between topology before p c
room_dead core topology before c p x fed from none = by (is_live topology before c) refl
  where
    by : (b : Bool) → is_live topology before c ≡ b → None ≡ (if feeds topology p c && is_live topology before c then Some (room_on topology before (current_sub topology before c p)) else None)
    by false e = rw (fed, e) refl
    by true e =
        let wrong : None ≡ Some (current_sub topology before c p) = sym none ∙ (sub_seen core topology before c p x fed from ∙ ap (λ b. if b then Some (current_sub topology before c p) else None) e) in
        absurd cc

same_number : (n : ℕ) → (n == n) ≡ true
same_number n = grind (arith, nat_tests)

pub room_known : (core : Core) (topology : Topology) (before : History) (p c : StageSpec) (u : SubNo) (part left : ℕ) → Fields core topology before
    → spec_of topology c.no ≡ Some c → feeds topology p.no c.no ≡ true → is_live topology before p.no ≡ true
    → live_sub core.subs c.no p.no ≡ Some u → part ≡ c.index → left ≡ open_on core.subs u
    → Some (record { sub = u; part = part; left = left }) ≡ room_between topology before p.no c.no
room_known core topology before p c u part left x to fed from found index count_is = by (is_live topology before c.no) refl
  where
    by : (b : Bool) → is_live topology before c.no ≡ b
        → Some (record { sub = u; part = part; left = left }) ≡ (if feeds topology p.no c.no && is_live topology before c.no then Some (room_on topology before (current_sub topology before c.no p.no)) else None)
    by false e =
        let wrong : Some u ≡ None = sym found ∙ (sub_seen core topology before c.no p.no x fed from ∙ ap (λ b. if b then Some (current_sub topology before c.no p.no) else None) e) in
        absurd cc
    by true e =
        let cur : SubNo = current_sub topology before c.no p.no in
        let is : u ≡ cur = same_Some u cur (sym found ∙ (sub_seen core topology before c.no p.no x fed from ∙ ap (λ b. if b then Some (current_sub topology before c.no p.no) else None) e)) in
        let part_is : part ≡ index_in (spec_of topology c.no) = index ∙ sym (ap index_in to) in
        let live : is_live_sub topology before (current_sub topology before c.no p.no) ≡ true = current_live topology before c.no p.no fed from ∙ e in
        let count : left ≡ asked before cur - sent topology before cur =
        count_is ∙ (ap (open_on core.subs) is ∙ (ap (λ o. room_in o cur.generation) (x.subs c.no p.no fed)
        ∙ (ap (λ b. if b && cur.generation == cur.generation then asked before cur - sent topology before cur else 0) live
        ∙ ap (λ b. if b then asked before cur - sent topology before cur else 0) (same_number cur.generation)))) in
        rw (fed, e)
        (ap Some
        (ap (λ (v : SubNo). record { sub = v; part = part; left = left }) is
        ∙ (ap (λ n. record { sub = cur; part = n; left = left }) part_is ∙ ap (λ n. record { sub = cur; part = index_in (spec_of topology c.no); left = n }) count)))
