-- Laws of gates that are put before sources and taken off again.
use mir.Val.{bool_byte}
use Rattle.std.proofs.Common.{◌≡◌, ℕ, ◌+◌, ◌/◌, ◌<◌, ◌≤◌, Bool, true, false, cond, nat_le, ◌==◌, ◌&&◌, get_or, take, length, List, [], ◌∷◌, ◌++◌, refl, ap, sym, ◌∙◌, subst, inl, inr, arith}
use Rattle.std.specs.Prelude.{Option, Some, None, IsTrue, IfSome, option_map}
use Rattle.std.proofs.lemmas.Bool.{leb-true}
use Rattle.std.proofs.lemmas.List.{append_assoc}
use Rattle.std.proofs.lemmas.List.Filters.{length-filter_more}
use Rattle.std.proofs.lemmas.Nat.{div_below, le-div}
use Rattle.pipe_types.specs.Sound.{IsSound, are_limits, batchers, is_control, is_between, is_ordered, is_producer, is_rate, may_begin, may_go_on, producers}
use Rattle.pipe_types.specs.declared.topology.Rate.{Rate}
use Rattle.pipe_types.specs.declared.topology.StageSpec.{StageSpec}
use Rattle.pipe_types.specs.declared.topology.Topology.{Topology}
use Rattle.pipe_laws.proofs.Tests.{and_left, and_right}
use Rattle.pipe_edges.specs.Paces.{Pace, unpaced}
use Rattle.pipe_edges.specs.declared.source.ByteSource.{Ghosts as SourceOf}
use Rattle.pipe_edges.specs.declared.reading.LineEnd.{LineEnd}
use Rattle.rate_gate.specs.Fresh.{front_of}
use Rattle.rate_gate.specs.Front.{FrontSeen}
use Rattle.rate_gate.specs.Gate.{pace_of, moment_of, given_of}
use Rattle.rate_gate.specs.Gated.{GatedSeen, HoldsLastBy, taken_by, left_by, waits_by, paced_by}
use Rattle.rate_gate.specs.declared.gate.Gate.{Gate}
use Rattle.stage_bodies.specs.Seen.{SourceSeen, LineSeen, source_seen}
use Rattle.pace_laws.specs.Pacing.{IsPace}
use Rattle.edge_names.specs.Seen.{EdgesSeen}
use Rattle.edge_names.specs.Gates.{AreInner, ArePaces, IsGated, IsInner, IsShared, pace_by, pace_of_stage, without_gate}
use Rattle.edge_names.specs.Supplies.{Feed, Opened, Merged, Made}
use Rattle.edge_names.specs.Opened.{GivesFed, GivesFeed}

-- ---- taken off

inner_same : (source : SourceSeen) → IsInner source source
inner_same source = record { same_telling = refl; same_bytes = λ t. refl; same_faults = refl; gate = inl refl }

pub inner_all : (xs : List (List ℕ × SourceSeen)) → AreInner xs xs
inner_all [] = tt
inner_all (x ∷ xs) = (refl, inner_same x.1, inner_all xs)

pub inner_more : (gs is hs js : List (List ℕ × SourceSeen)) → AreInner gs is → AreInner hs js → AreInner (gs ++ hs) (is ++ js)
inner_more [] [] hs js h k = k
inner_more (g ∷ gs) (i ∷ is) hs js h k = (h.0, h.1, inner_more gs is hs js h.2 k)
inner_more [] (i ∷ is) hs js h k = absurd h
inner_more (g ∷ gs) [] hs js h k = absurd h

-- what is seen of a source in its gate
abbrev gated_seen : {S : Type 0} → SourceOf S → GatedSeen S → SourceSeen
gated_seen source g = record {
  told = source.told g.inner;
  taken = taken_by g.front (source.taken g.inner);
  left = left_by g.front (source.left g.inner);
  faults = source.faults g.inner;
  waits = waits_by g.front (source.waits g.inner);
  paced = paced_by g.front (source.waits g.inner) (source.paced g.inner);
}

pub taken_off : {S : Type 0} (source : SourceOf S) (g : GatedSeen S) (inner : S) → inner ≡ g.inner → HoldsLastBy g.front (source.told g.inner) (source.taken g.inner) → IsInner (gated_seen source g) (source_seen source inner)
taken_off source g inner is holds = rw is (by g.front holds)
  where
    by : (front : Option FrontSeen) → HoldsLastBy front (source.told g.inner) (source.taken g.inner) → IsInner (gated_seen source (record { inner = g.inner; front = front })) (source_seen source g.inner)
    by None h = record { same_telling = refl; same_bytes = λ t. refl; same_faults = refl; gate = inl refl }
    by (Some f) h = record {
      same_telling = refl;
      same_bytes = λ t. ap (λ x. x ++ source.left g.inner) (h t) ∙ append_assoc _ f.held (source.left g.inner);
      same_faults = refl;
      gate = inr (refl, refl);
    }

-- ---- put before

-- without a gate it is seen as the source
pub plain_is : {S : Type 0} (source : SourceOf S) (s : S) (g : GatedSeen S) → g.inner ≡ s → g.front ≡ None → gated_seen source g ≡ source_seen source s
plain_is source s g inner front = rw (front, inner) refl

pub gated_is : {S : Type 0} (source : SourceOf S) (gate : Option Gate) (s : S) (g : GatedSeen S) (waiting : List ℕ) (end : Option LineEnd) → IfSome gate (λ x. (moment_of x ≡ 0) × (given_of x ≡ 0)) → g.inner ≡ s → g.front ≡ option_map front_of gate
    → waiting ≡ [] → end ≡ None → IsGated (option_map pace_of gate) (source_seen source s) (record { source = gated_seen source g; waiting = waiting; end = end })
gated_is source None s g waiting end begun inner front none_waits no_end =
    rw (front, inner) (record { told = refl; taken = λ h. h; left = refl; faults = refl; waits = λ h. h; paced = λ none h. h; nothing_waits = none_waits; no_end = no_end })
gated_is source (Some gate) s g waiting end begun inner front none_waits no_end =
    rw (front, inner) (record {
      told = refl;
      taken = λ h. rw h refl;
      left = refl;
      faults = refl;
      waits = λ h. omega (arith, h);
      paced = λ none h. rw (begun.0, begun.1, none) refl;
      nothing_waits = none_waits;
      no_end = no_end;
    })

-- a source that was just supplied has no pace of its own
plain : (edges : EdgesSeen) (feed : Feed) (source : SourceSeen) → GivesFeed edges feed source → source.paced ≡ unpaced
plain edges (Opened name) source h = h.no_pace
plain edges (Made bytes) source h = h.no_pace
plain edges (Merged names) source h = absurd h

-- nor a wait
unwaited : (edges : EdgesSeen) (feed : Feed) (source : SourceSeen) → GivesFeed edges feed source → source.waits ≡ 0
unwaited edges (Opened name) source h = h.no_wait
unwaited edges (Made bytes) source h = h.no_wait
unwaited edges (Merged names) source h = absurd h

in_its_gate : (edges : EdgesSeen) (pace : Option Pace) (feed : Feed) (source : SourceSeen) (lines : LineSeen) → IsGated pace source lines → GivesFeed edges feed source → GivesFeed edges feed (without_gate lines.source)
in_its_gate edges pace (Opened name) source lines g h = record {
  nothing_taken = g.taken h.nothing_taken;
  no_fault = g.faults ∙ h.no_fault;
  no_wait = g.waits h.no_wait;
  no_pace = refl;
  given = λ t. let both = h.given t in (subst (λ (b : Bool). IsTrue b) (sym g.told) both.0, g.left ∙ both.1);
}
in_its_gate edges pace (Merged names) source lines g h = absurd h
in_its_gate edges pace (Made bytes) source lines g h = record {
  tells = subst (λ (b : Bool). IsTrue b) (sym g.told) h.tells;
  nothing_taken = g.taken h.nothing_taken;
  all_left = g.left ∙ h.all_left;
  no_fault = g.faults ∙ h.no_fault;
  no_wait = g.waits h.no_wait;
  no_pace = refl;
}

pub fed_gated : (edges : EdgesSeen) (pace : Option Pace) (feed : Feed) (source : SourceSeen) (lines : LineSeen) → IsGated pace source lines → GivesFeed edges feed source → GivesFed edges pace feed lines
fed_gated edges pace feed source lines g h = record {
  source = in_its_gate edges pace feed source lines g h;
  gate = g.paced (unwaited edges feed source h) (plain edges feed source h);
  nothing_waits = g.nothing_waits;
  no_end = g.no_end;
}

-- ---- shares

pub share_low : (allowed count : ℕ) → 1 ≤ count → allowed ≤ 1000000 → allowed / count ≤ 1000000
share_low allowed count some low =
    let below : allowed / count < 1000001 = div_below allowed count 1000001 (omega (arith, some)) (omega (arith, some, low)) in
    omega (arith, below)

pub share_least : (allowed count : ℕ) → 1 ≤ count → count ≤ allowed → 1 ≤ allowed / count
share_least allowed count some enough = le-div 1 allowed count (omega (arith, some)) (omega (arith, enough))

pub byte_is : (b : Bool) → bool_byte b ≡ cond b 1 0
byte_is true = refl
byte_is false = refl

pub cond_low : (b : Bool) → cond b 1 0 ≤ 1
cond_low true = omega arith
cond_low false = omega arith

pub count_turn : (xs : List StageSpec) (n : ℕ) (spec : StageSpec) (count more : ℕ) → n < length xs → spec ≡ get_or xs n spec → count ≡ length (producers (take n xs)) → more ≡ cond (is_producer spec.role) 1 0
    → count + more ≡ length (producers (take (n + 1) xs))
count_turn xs n spec count more within is so_far one =
    let step = length-filter_more (λ (s : StageSpec). is_producer s.role) xs n spec within in
    let one' : more ≡ cond (is_producer (get_or xs n spec).role) 1 0 = one ∙ ap (λ (s : StageSpec). cond (is_producer s.role) 1 0) is in
    omega (arith, so_far, one', step)

-- there is a producer
pub some_producer : (topology : Topology) → IsSound topology → 1 ≤ length (producers topology.stages)
some_producer topology sound = by topology.stages sound.ordered
  where
    by : (stages : List StageSpec) → is_ordered stages ≡ true → 1 ≤ length (producers stages)
    by [] h = cc
    by (s ∷ rest) h =
        let begins : may_begin s ≡ true = and_left (may_begin s) (may_go_on (length (batchers (s ∷ rest))) s rest) h in
        let rest_of : (is_producer s.role && s.index == 0) ≡ true = and_right (s.no.0 == 1) (is_producer s.role && s.index == 0) begins in
        let role : is_producer s.role ≡ true = and_left (is_producer s.role) (s.index == 0) rest_of in
        let first : length (producers (s ∷ rest)) ≡ length (producers rest) + 1 = rw role (omega arith) in
        omega (arith, first)

-- the rate has enough for each of them
pub is_shared : (topology : Topology) (count : ℕ) → count ≡ length (producers topology.stages) → IsSound topology → IfSome topology.rate (IsShared count)
is_shared topology count is sound =
    let n : ℕ = length (producers topology.stages) in
    let limits : Bool = is_between 1 2000000 topology.record_limit && is_between 1 536870912 topology.byte_limit in
    let idle : Bool = nat_le topology.idle_limit 1000000 && is_control topology.control in
    let all = and_right (are_limits topology.limits topology.stages) (idle && (limits && is_rate n topology.rate)) sound.settings in
    by topology.rate (and_right limits (is_rate n topology.rate) (and_right idle (limits && is_rate n topology.rate) all))
  where
    by : (rate : Option Rate) → is_rate (length (producers topology.stages)) rate ≡ true → IfSome rate (IsShared count)
    by None h = tt
    by (Some rate) h =
        let n : ℕ = length (producers topology.stages) in
        let allowed : Bool = is_between 1 1000000 rate.allowed in
        let interval : Bool = is_between 1 3600000 rate.interval in
        let numbers : (allowed && nat_le n rate.allowed) ≡ true = and_left (allowed && nat_le n rate.allowed) interval h in
        let time : interval ≡ true = and_right (allowed && nat_le n rate.allowed) interval h in
        let enough : n ≤ rate.allowed = leb-true n rate.allowed (and_right allowed (nat_le n rate.allowed) numbers) in
        let between : allowed ≡ true = and_left allowed (nat_le n rate.allowed) numbers in
        record {
          enough = omega (arith, is, enough);
          low = leb-true rate.allowed 1000000 (and_right (nat_le 1 rate.allowed) (nat_le rate.allowed 1000000) between);
          some = leb-true 1 rate.interval (and_left (nat_le 1 rate.interval) (nat_le rate.interval 3600000) time);
        }

-- and so each of them has a pace
pub sound_paces : (topology : Topology) → IsSound topology → ArePaces (pace_of_stage topology)
sound_paces topology sound spec = by topology.rate (is_shared topology (length (producers topology.stages)) refl sound)
  where
    by : (rate : Option Rate) → IfSome rate (IsShared (length (producers topology.stages))) → IsPace (pace_by rate (length (producers topology.stages)) spec.index)
    by None h = tt
    by (Some rate) h = h.some
