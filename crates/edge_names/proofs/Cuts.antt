-- What a failed call and want of memory leave.
use Rattle.std.proofs.Common.{◌≡◌, ℕ, ◌≤◌, List, [], ◌∷◌, ◌++◌, length, take, refl, ap, sym, ◌∙◌, subst, arith, inl, inr}
use Rattle.std.specs.Prelude.{◌⊎◌, slice_get, Option, Some, Ok, Err}
use Rattle.std.proofs.lemmas.List.{append-nil}
use Rattle.std.proofs.lemmas.List.Elements.{All-cons, All-nil}
use Rattle.pipe_types.specs.Counts.{Rose}
use Rattle.pipe_types.specs.declared.topology.StageSpec.{StageSpec}
use Rattle.pipe_types.specs.declared.topology.Topology.{Topology}
use Rattle.pipe_edges.specs.declared.edges.EdgeKind.{EdgeKind}
use Rattle.pipe_edges.specs.declared.edges.EdgeKind.TheVariants.{Source}
use Rattle.pipe_edges.specs.declared.edges.EdgeEnd.TheVariants.{Failed as CallFailed, OutOfMemory}
use Rattle.stage_bodies.specs.Seen.{SourceSeen, BodySeen}
use Rattle.edge_names.specs.Seen.{EdgesSeen}
use Rattle.edge_names.specs.Named.{GivesSource, Opens}
use Rattle.edge_names.specs.declared.opening.Unopened.{Unopened}
use Rattle.edge_names.specs.declared.opening.Unopened.TheVariants.{Failed, OutOfMemory as NoMemory}
use Rattle.edge_names.specs.Opened.{Asks, AreOpened, AreUnread, FailsToOpen, IfCutOff, IfFailed, OpensOne, IsCut, IsCutOff, IsFailed, IsOneCut, IsOneFailed, IsReturned, calls_of}
use Rattle.edge_names.specs.Supplies.{Feeds, Feed, Supplied, calls_for, feed_calls, supplied}
use Rattle.edge_names.proofs.Openings.{asks_empty, asks_nothing}

abbrev pub is_source : EdgeKind × List ℕ → Type 0
is_source call = call.0 ≡ Source

-- no call was made
pub cut_nothing : (calls : List (EdgeKind × List ℕ)) (a b : EdgesSeen) → Asks [] a b → IsOneCut calls a b
cut_nothing calls a b asks = record {
  made = [];
  back = [];
  cut = record { rest = calls; parts = refl; of_sources = All-nil is_source; unread = tt };
  same_telling = asks.same_telling;
  asked = asks.asked;
  sources = asks.sources ∙ sym (append-nil a.sources_back);
  sinks = asks.sinks;
  faults_stay = asks.faults_stay;
}

pub cut_uncalled : (calls : List (EdgeKind × List ℕ)) (a : EdgesSeen) → IsOneCut calls a a
cut_uncalled calls a = cut_nothing calls a a (asks_nothing a)

pub cut_empty : {T : Type 0} (calls : List (EdgeKind × List ℕ)) (kind : EdgeKind) (name : List ℕ) (a b : EdgesSeen) → Opens {T = T} kind name a b (Err OutOfMemory) → IsOneCut calls a b
cut_empty calls kind name a b o = cut_nothing calls a b (asks_empty kind name a b o)

-- the one call of a source was made, and that went back or was let go
pub cut_back : (edges : EdgesSeen) (name : List ℕ) (source : SourceSeen) (back : List (List ℕ × SourceSeen)) → GivesSource edges name source → (back ≡ (name, source) ∷ []) ⊎ (back ≡ []) → IsCut edges ((Source, name) ∷ []) ((Source, name) ∷ []) back
cut_back edges name source back gives which = record {
  rest = [];
  parts = refl;
  of_sources = All-cons is_source (Source, name) [] refl (All-nil is_source);
  unread = by which;
}
  where
    by : (back ≡ (name, source) ∷ []) ⊎ (back ≡ []) → AreUnread edges (take (length back) ((Source, name) ∷ [])) back
    by (inl e) = subst (λ (b : List (List ℕ × SourceSeen)). AreUnread edges (take (length b) ((Source, name) ∷ [])) b) (sym e) (refl, gives, tt)
    by (inr e) = subst (λ (b : List (List ℕ × SourceSeen)). AreUnread edges (take (length b) ((Source, name) ∷ [])) b) (sym e) tt

pub cut_returned : {T : Type 0} (name : List ℕ) (source : SourceSeen) (a b c : EdgesSeen) (x : T) → Opens {T = T} Source name a b (Ok x) → GivesSource a name source → IsReturned name source b c → IsOneCut ((Source, name) ∷ []) a c
cut_returned name source a b c x o gives r = record {
  made = (Source, name) ∷ [];
  back = r.back;
  cut = cut_back a name source r.back gives r.which;
  same_telling = r.same_telling ∙ o.same_telling;
  asked = λ t. r.asked (rw o.same_telling t) ∙ o.asked t;
  sources = r.sources ∙ ap (λ z. z ++ r.back) o.sources;
  sinks = r.sinks ∙ o.sinks;
  faults_stay = let p = o.faults_stay in let q = r.no_fault in omega (arith, p, q);
}

-- the one call failed
pub failed_call : {T : Type 0} (kind : EdgeKind) (name : List ℕ) (a b : EdgesSeen) → Opens {T = T} kind name a b (Err CallFailed) → IsOneFailed ((kind, name) ∷ []) name a b
failed_call kind name a b o = record {
  kind = kind;
  front = [];
  behind = [];
  parts = refl;
  back = [];
  unread = tt;
  same_telling = o.same_telling;
  asked = o.asked;
  sources = o.sources ∙ sym (append-nil a.sources_back);
  sinks = o.sinks;
  faults_stay = o.faults_stay;
  fault = o.cause;
}

pub failed_feed : (feed : Option Feed) (name : List ℕ) (a b : EdgesSeen) → FailsToOpen feed name a b → IsOneFailed (feed_calls feed) name a b
failed_feed feed name a b h = record {
  kind = Source;
  front = [];
  behind = [];
  parts = ap feed_calls h.is;
  back = [];
  unread = tt;
  same_telling = h.asks.same_telling;
  asked = h.asks.asked;
  sources = h.asks.sources ∙ sym (append-nil a.sources_back);
  sinks = h.asks.sinks;
  faults_stay = h.asks.faults_stay;
  fault = h.fault;
}

pub rose_after : (x y z : ℕ) → x ≤ y → Rose y z → Rose x z
rose_after x y z le (inl lt) = inl (omega arith)
rose_after x y z le (inr full) = inr full

-- ---- by what ended the opening

-- opening ended at a stage, since a call of it failed, or for want of memory
abbrev pub EndsBy : Feeds → Topology → Unopened → (a c : EdgesSeen) → (start now : ℕ → Option BodySeen) → Type 0
EndsBy feeds topology u a c start now = IfFailed u (λ name. IsFailed feeds topology name a c start now) × IfCutOff u (IsCutOff feeds topology a c start now)

pub ends_by : (feeds : Feeds) (T : Type 0) (topology : Topology) (n at : ℕ) (spec : StageSpec) (u : Unopened) (a b c : EdgesSeen) (start mid now : ℕ → Option BodySeen) → slice_get topology.stages n ≡ Some spec
    → Asks (calls_of feeds (take n topology.stages)) a b → AreOpened feeds topology n a start now → OpensOne {T = T} (supplied feeds spec) at (Err u) b c mid now → EndsBy feeds topology u a c start now
ends_by feeds T topology n at spec (Failed name) a b c start mid now here asks opened one = (record { at = n; spec = spec; here = here; middle = b; asks = asks; failed = one; bodies = opened }, tt)
ends_by feeds T topology n at spec NoMemory a b c start mid now here asks opened one = (tt, record { at = n; spec = spec; here = here; middle = b; asks = asks; cut = one; bodies = opened })

-- ---- one stage

-- it did not open
pub opens_not : (T : Type 0) (u : Unopened) (what : Option Supplied) (at : ℕ) (old new : EdgesSeen) (start now : ℕ → Option BodySeen) → IfFailed u (λ name. IsOneFailed (calls_for what) name old new) → IfCutOff u (IsOneCut (calls_for what) old new)
    → OpensOne {T = T} what at (Err u) old new start now
opens_not T (Failed name) what at old new start now failed cut = failed
opens_not T NoMemory what at old new start now failed cut = cut
