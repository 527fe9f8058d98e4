-- The calls that a run makes by name, and those that it gives up after.
use Rattle.std.proofs.Common.{◌≡◌, ℕ, suc, ◌+◌, ◌∷◌, ◌++◌, List, [], take, drop, length, Bool, arith, refl, ap, sym, ◌∙◌, subst, inl, inr}
use Rattle.std.specs.Prelude.{◌⊎◌, IsTrue, Option, Some, None}
use Rattle.std.proofs.lemmas.List.{append-nil, append_assoc}
use Rattle.std.proofs.lemmas.List.Elements.{All-nil}
use Rattle.pipe_types.specs.declared.topology.Topology.{Topology}
use Rattle.pipe_model.specs.History.{History}
use Rattle.pipe_edges.specs.declared.edges.EdgeKind.{EdgeKind}
use Rattle.pipe_edges.specs.declared.edges.EdgeKind.TheVariants.{Source, Sink}
use Rattle.stage_bodies.specs.Seen.{SourceSeen, SinkSeen, LineSeen, BodySeen}
use Rattle.edge_names.specs.Supplies.{Feeds}
use Rattle.edge_names.specs.Seen.{EdgesSeen}
use Rattle.edge_names.specs.Controls.{IsBackFirst, IsControlCut, IsCutShort, IsStageCut, IsStageUndone, IsUndone, control_call, first_sources, first_sinks, named_control, run_calls}
use Rattle.edge_names.specs.Opened.{AreUnread, Asks, IsOneFailed, calls_of, edge_calls, one}
use Rattle.edge_names.specs.Returned.{GivesOff}
use Rattle.edge_names.proofs.Undoes.{calls_parts}
use Rattle.box_stock.specs.Lends.{AreHandedOut}
use Rattle.pipe_run.specs.Outside.{AreAsked, AreUsed, HasControl, IsControlUnopened, IsOpenedInPart, IsOutside, IsStageUnopened}
use Rattle.pipe_run.specs.Whole.{HasFailed, HasWanted}

-- ---- the call of the control source

abbrev call_name : List (EdgeKind × List ℕ) → List ℕ
call_name [] = []
call_name (call ∷ calls) = call.1

abbrev later_calls : List (EdgeKind × List ℕ) → List (EdgeKind × List ℕ)
later_calls [] = []
later_calls (call ∷ calls) = calls

no_call : (front behind : List (EdgeKind × List ℕ)) (call : EdgeKind × List ℕ) → [] ≡ front ++ call ∷ behind → ⊥
no_call [] behind call e = cc
no_call (x ∷ front) behind call e = cc

record IsOnlyCall (control : Option (List ℕ)) (front : List (EdgeKind × List ℕ)) (call : EdgeKind × List ℕ) : Type 0 where
  pub named : control ≡ Some call.1
  pub first : front ≡ []
  pub alone : one (control_call control) ≡ call ∷ []

only_call : (control : Option (List ℕ)) (front behind : List (EdgeKind × List ℕ)) (call : EdgeKind × List ℕ) → one (control_call control) ≡ front ++ call ∷ behind → IsOnlyCall control front call
only_call (Some n) [] behind call e = record { named = ap Some (ap call_name e); first = refl; alone = e ∙ ap (λ rest. call ∷ rest) (sym (ap later_calls e)) }
only_call (Some n) (x ∷ front) behind call e = absurd (no_call front behind call (ap later_calls e))
only_call None front behind call e = absurd (no_call front behind call e)

none_unread : (edges : EdgesSeen) (front : List (EdgeKind × List ℕ)) (back : List (List ℕ × SourceSeen)) → front ≡ [] → AreUnread edges front back → back ≡ []
none_unread edges front [] is unread = refl
none_unread edges [] (given ∷ back) is unread = absurd unread
none_unread edges (call ∷ front) (given ∷ back) is unread = cc

unopened_control : (feeds : Feeds) (topology : Topology) (name : List ℕ) (old new : EdgesSeen) → IsOneFailed (one (control_call topology.control)) name old new → IsControlUnopened feeds topology name (edge_calls feeds topology) old new
unopened_control feeds topology name old new failed =
    let only = only_call topology.control failed.front failed.behind (failed.kind, name) failed.parts in
    record {
      call = only.named;
      to_come = refl;
      sources = failed.sources ∙ ap (λ back. old.sources_back ++ back) (none_unread old failed.front failed.back only.first failed.unread) ∙ append-nil old.sources_back;
      sinks = failed.sinks;
    }

unopened_stage : (feeds : Feeds) (topology : Topology) (name : List ℕ) (start : ℕ → Option BodySeen) (old new : EdgesSeen) → AreHandedOut topology start → (u : IsStageUndone feeds topology name start old new)
    → IsStageUnopened feeds topology name (u.behind ++ calls_of feeds (drop (u.at + 1) topology.stages)) old new
unopened_stage feeds topology name start old new handed u = record {
  at = u.at;
  kind = u.kind;
  spec = u.spec;
  here = u.here;
  front = u.front;
  behind = u.behind;
  calls = u.calls;
  to_come = refl;
  control = u.control;
  unread = u.lines;
  start = start;
  handed = handed;
  bodies = u.opened;
  opened = u.bodies;
  back = u.back;
  unread_back = u.unread;
  inner = u.inner;
  ungated = u.ungated;
  sources = u.sources;
  sinks = u.sinks;
}

regroup : {A : Type 0} (a b c x : List A) → a ++ (b ++ (c ++ x)) ≡ (a ++ (b ++ c)) ++ x
regroup a b c x = ap (λ y. a ++ y) (sym (append_assoc b c x)) ∙ sym (append_assoc a (b ++ c) x)

failed_by_stages : (feeds : Feeds) (topology : Topology) (name : List ℕ) (start : ℕ → Option BodySeen) (old new : EdgesSeen) → AreHandedOut topology start → IsUndone feeds topology name start old new → HasFailed feeds topology None name old new
failed_by_stages feeds topology name start old new handed (inl failed) =
    let only = only_call topology.control failed.front failed.behind (failed.kind, name) failed.parts in
    record {
      kind = failed.kind;
      front = [];
      rest = edge_calls feeds topology;
      calls = ap (λ (calls : List (EdgeKind × List ℕ)). calls ++ edge_calls feeds topology) only.alone;
      asks = record {
        same_telling = failed.same_telling;
        asked = λ t. failed.asked t ∙ ap (λ (front : List (EdgeKind × List ℕ)). old.asked ++ (front ++ (failed.kind, name) ∷ [])) only.first;
        faults_stay = failed.faults_stay;
      };
      fault = failed.fault;
      back = inl (unopened_control feeds topology name old new failed);
    }
failed_by_stages feeds topology name start old new handed (inr u) =
    let first = one (control_call topology.control) in
    let before = calls_of feeds (take u.at topology.stages) in
    let after = calls_of feeds (drop (u.at + 1) topology.stages) in
    let parts : edge_calls feeds topology ≡ before ++ (u.front ++ (u.kind, name) ∷ (u.behind ++ after)) =
    calls_parts feeds topology.stages u.at u.spec u.here
    ∙ ap (λ (calls : List (EdgeKind × List ℕ)). before ++ (calls ++ after)) u.calls
    ∙ ap (λ calls. before ++ calls) (append_assoc u.front ((u.kind, name) ∷ u.behind) after)
    in
    record {
      kind = u.kind;
      front = first ++ (before ++ u.front);
      rest = u.behind ++ after;
      calls = ap (λ calls. first ++ calls) parts ∙ regroup first before u.front ((u.kind, name) ∷ (u.behind ++ after));
      asks = record {
        same_telling = u.same_telling;
        asked = λ t. u.asked t ∙ ap (λ calls. old.asked ++ calls) (regroup first before u.front ((u.kind, name) ∷ []));
        faults_stay = u.faults_stay;
      };
      fault = u.fault;
      back = inr (unopened_stage feeds topology name start old new handed u);
    }

-- memory was wanting before anything was asked
nothing_asked : (feeds : Feeds) (topology : Topology) (edges : EdgesSeen) → HasWanted feeds topology None edges edges
nothing_asked feeds topology edges = record {
  front = [];
  rest = run_calls feeds topology;
  calls = refl;
  asks = record { same_telling = refl; asked = λ t. sym (append-nil edges.asked); faults_stay = omega arith };
  back = inl (record {
    made = [];
    back = [];
    cut = record { rest = one (control_call topology.control); parts = refl; of_sources = All-nil (λ (call : EdgeKind × List ℕ). call.0 ≡ Source); unread = tt };
    to_come = refl;
    sources = sym (append-nil edges.sources_back);
    sinks = refl;
  });
}

-- memory was wanting in opening
wanted_in_stages : (feeds : Feeds) (topology : Topology) (start : ℕ → Option BodySeen) (old new : EdgesSeen) → AreHandedOut topology start → IsCutShort feeds topology start old new → HasWanted feeds topology None old new
wanted_in_stages feeds topology start old new handed cut = record {
  front = cut.front;
  rest = cut.rest;
  calls = cut.calls;
  asks = record { same_telling = cut.same_telling; asked = cut.asked; faults_stay = cut.faults_stay };
  back = by_part cut.given_back;
}
  where
    by_part : IsControlCut feeds topology cut.rest old new ⊎ IsStageCut feeds topology start cut.rest old new → IsOpenedInPart feeds topology cut.rest old new
    by_part (inl control) = inl control
    by_part (inr stage) = inr (start, handed, stage)

-- ---- before the call of the live sink

failed_before : (live : Option (List ℕ)) (feeds : Feeds) (topology : Topology) (name : List ℕ) (old new : EdgesSeen) → HasFailed feeds topology None name old new → HasFailed feeds topology live name old new
failed_before None feeds topology name old new f = f
failed_before (Some n) feeds topology name old new f = record {
  kind = f.kind;
  front = f.front;
  rest = f.rest ++ (Sink, n) ∷ [];
  calls = ap (λ (calls : List (EdgeKind × List ℕ)). calls ++ (Sink, n) ∷ []) f.calls ∙ append_assoc f.front ((f.kind, name) ∷ f.rest) ((Sink, n) ∷ []);
  asks = f.asks;
  fault = f.fault;
  back = inl (f.rest, refl, f.back);
}

wanted_before : (live : Option (List ℕ)) (feeds : Feeds) (topology : Topology) (old new : EdgesSeen) → HasWanted feeds topology None old new → HasWanted feeds topology live old new
wanted_before None feeds topology old new w = w
wanted_before (Some n) feeds topology old new w = record {
  front = w.front;
  rest = w.rest ++ (Sink, n) ∷ [];
  calls = ap (λ (calls : List (EdgeKind × List ℕ)). calls ++ (Sink, n) ∷ []) w.calls ∙ append_assoc w.front w.rest ((Sink, n) ∷ []);
  asks = w.asks;
  back = inl (w.rest, refl, w.back);
}

pub failed_by : (live : Option (List ℕ)) (feeds : Feeds) (topology : Topology) (name : List ℕ) (start : ℕ → Option BodySeen) (old new : EdgesSeen) → AreHandedOut topology start → IsUndone feeds topology name start old new → HasFailed feeds topology live name old new
failed_by live feeds topology name start old new handed undone = failed_before live feeds topology name old new (failed_by_stages feeds topology name start old new handed undone)

pub unasked : (live : Option (List ℕ)) (feeds : Feeds) (topology : Topology) (edges : EdgesSeen) → HasWanted feeds topology live edges edges
unasked live feeds topology edges = wanted_before live feeds topology edges edges (nothing_asked feeds topology edges)

pub wanted : (live : Option (List ℕ)) (feeds : Feeds) (topology : Topology) (start : ℕ → Option BodySeen) (old new : EdgesSeen) → AreHandedOut topology start → IsCutShort feeds topology start old new → HasWanted feeds topology live old new
wanted live feeds topology start old new handed cut = wanted_before live feeds topology old new (wanted_in_stages feeds topology start old new handed cut)

-- ---- all calls

-- what was opened was asked for, and nothing more
pub asked_all : (calls : List (EdgeKind × List ℕ)) (sources : List (List ℕ × SourceSeen)) (sinks : List (List ℕ × SinkSeen)) (old mid new : EdgesSeen) → Asks calls old mid → GivesOff sources sinks mid new → AreAsked calls old new
asked_all calls sources sinks old mid new asks back = record {
  same_telling = back.back.same_telling ∙ asks.same_telling;
  asked = λ t. back.back.asked (subst (λ b. IsTrue b) (sym asks.same_telling) t) ∙ asks.asked t;
  faults_stay = omega (arith, asks.faults_stay, back.back.no_fault);
}

pub outside : (feeds : Feeds) (whole : Bool) (topology : Topology) (before : History) (calls : List (EdgeKind × List ℕ)) (old mid new : EdgesSeen) (control : Option LineSeen) (bodies : ℕ → Option BodySeen) (n more : ℕ) → (IsTrue whole → n ≡ suc (length topology.stages))
    → HasControl topology old before topology.control control → AreUsed feeds whole topology old before bodies
    → Asks calls old mid → GivesOff (first_sources feeds n more topology control bodies) (first_sinks feeds n topology bodies) mid new → IsBackFirst topology.control control mid new → IsOutside feeds whole topology before old new
outside feeds whole topology before calls old mid new control bodies n more all obeyed used asks back first = record {
  control = control;
  obeyed = obeyed;
  bodies = bodies;
  used = used;
  parts = n;
  more = more;
  all = all;
  inner = back.inner;
  ungated = back.ungated;
  first = by_first first;
  sources = back.back.back_sources ∙ ap (λ z. z ++ back.inner) asks.sources;
  sinks = back.back.back_sinks ∙ ap (λ z. z ++ first_sinks feeds n topology bodies) asks.sinks;
}
  where
    by_first : IsBackFirst topology.control control mid new → IsBackFirst topology.control control old new
    by_first (inl same) = inl (same ∙ asks.sources)
    by_first (inr given) = inr (given.0, given.1 ∙ ap (λ z. z ++ (named_control topology.control control ++ given.0)) asks.sources)
