-- What an opening leaves that did not come to its end.
use Rattle.std.proofs.Common.{◌≡◌, ℕ, suc, ◌+◌, ◌≤◌, List, [], ◌∷◌, ◌++◌, take, drop, length, refl, ap, sym, ◌∙◌, subst, arith, inl, inr}
use Rattle.std.specs.Prelude.{slice_get, Option, Some, None}
use Rattle.std.specs.List.{flat_map}
use Rattle.std.proofs.lemmas.List.{append-nil, append_assoc, take-append-drop, take_all}
use Rattle.pipe_types.specs.declared.topology.StageSpec.{StageSpec}
use Rattle.pipe_types.specs.declared.topology.Topology.{Topology}
use Rattle.pipe_edges.specs.declared.edges.EdgeKind.{EdgeKind}
use Rattle.stage_bodies.specs.Seen.{SourceSeen, LineSeen, BodySeen}
use Rattle.stage_bodies.specs.Jobs.{Both}
use Rattle.stage_bodies.specs.Posts.{place_at}
use Rattle.edge_names.specs.Seen.{EdgesSeen}
use Rattle.edge_names.specs.declared.opening.Unopened.{Unopened}
use Rattle.edge_names.specs.declared.opening.Unopened.TheVariants.{Failed, OutOfMemory}
use Rattle.edge_names.specs.Controls.{IsControlOpened, IsCutShort, IsStageUndone, IsUndone, control_call, first_sinks, first_sources, named_control, run_calls}
use Rattle.edge_names.specs.Opened.{AreOpened, Asks, IfCutOff, IfFailed, IsCut, IsCutOff, IsFailed, IsOneCut, IsOneFailed, IsOpened, supplied_at, calls_of, edge_calls, one}
use Rattle.edge_names.specs.Returned.{GivesOff, sinks_of, sources_of}
use Rattle.edge_names.specs.Supplies.{Feeds, Supplied, stage_calls}
use Rattle.edge_names.proofs.Cuts.{rose_after}
use Rattle.edge_names.proofs.Openings.{asks_more, calls_step, has_sink_from, has_feed_from, unread_from}

-- ---- after the control source

is_opened_from : (calls : List (EdgeKind × List ℕ)) (a b : EdgesSeen) (what : Option Supplied) (x y : Option BodySeen) → Asks calls a b → Both (IsOpened b what) x y → Both (IsOpened a what) x y
is_opened_from calls a b what (Some x) (Some y) asks h = record {
  source = has_feed_from calls a b what x.source x.source y.source asks refl h.source;
  sink = has_sink_from calls a b what x.sink x.sink y.sink asks refl h.sink;
  callback = h.callback;
}
is_opened_from calls a b what None None asks h = tt
is_opened_from calls a b what (Some x) None asks h = absurd h
is_opened_from calls a b what None (Some y) asks h = absurd h

-- what was opened later is as if it was opened at once
pub opened_from : (feeds : Feeds) (topology : Topology) (n : ℕ) (calls : List (EdgeKind × List ℕ)) (a b : EdgesSeen) (start now : ℕ → Option BodySeen) → Asks calls a b → AreOpened feeds topology n b start now → AreOpened feeds topology n a start now
opened_from feeds topology n calls a b start now asks h p few = is_opened_from calls a b (supplied_at feeds topology n p) (start (place_at p)) (now (place_at p)) asks (h p few)

-- the calls of the control source and of the stages before one
before_asks : (feeds : Feeds) (topology : Topology) (at : ℕ) (control : Option LineSeen) (a b m : EdgesSeen) → IsControlOpened topology.control a b control → Asks (calls_of feeds (take at topology.stages)) b m
    → Asks (one (control_call topology.control) ++ calls_of feeds (take at topology.stages)) a m
before_asks feeds topology at control a b m first asks = asks_more (one (control_call topology.control)) (calls_of feeds (take at topology.stages)) a b m first.asks asks

-- and then these
then_asked : {A : Type 0} (asked own before last : List A) → (asked ++ (own ++ before)) ++ last ≡ asked ++ (own ++ (before ++ last))
then_asked asked own before last = append_assoc asked (own ++ before) last ∙ ap (λ z. asked ++ z) (append_assoc own before last)

-- a failed opening that was given back is undone
pub undone : (feeds : Feeds) (topology : Topology) (name : List ℕ) (control : Option LineSeen) (a b c d : EdgesSeen) (start opened : ℕ → Option BodySeen) → IsControlOpened topology.control a b control → IsFailed feeds topology name b c start opened
    → GivesOff (named_control topology.control control ++ sources_of feeds topology.stages opened) (sinks_of feeds topology.stages opened) c d → IsStageUndone feeds topology name start a d
undone feeds topology name control a b c d start opened first failed back =
    let own = one (control_call topology.control) in
    let before = calls_of feeds (take failed.at topology.stages) in
    let m = failed.middle in
    let one = failed.failed in
    let last : List (EdgeKind × List ℕ) = one.front ++ (one.kind, name) ∷ [] in
    let asks : Asks (own ++ before) a m = before_asks feeds topology failed.at control a b m first failed.asks in
    record {
      at = failed.at;
      kind = one.kind;
      spec = failed.spec;
      here = failed.here;
      front = one.front;
      behind = one.behind;
      calls = one.parts;
      control = control;
      lines = first.lines;
      opened = opened;
      bodies = opened_from feeds topology failed.at own a b start opened first.asks failed.bodies;
      same_telling = back.back.same_telling ∙ one.same_telling ∙ asks.same_telling;
      asked = λ t. back.back.asked (rw (one.same_telling, asks.same_telling) t) ∙ one.asked (rw asks.same_telling t) ∙ ap (λ z. z ++ last) (asks.asked t) ∙ then_asked a.asked own before last;
      fault = rw back.back.no_fault (rose_after a.faults m.faults c.faults asks.faults_stay one.fault);
      faults_stay = let p = asks.faults_stay in let q = one.faults_stay in let r = back.back.no_fault in omega (arith, p, q, r);
      back = one.back;
      unread = unread_from (own ++ before) a m one.front one.back asks one.unread;
      inner = back.inner;
      ungated = back.ungated;
      sources = back.back.back_sources ∙ ap (λ z. z ++ back.inner) (one.sources ∙ ap (λ z. z ++ one.back) asks.sources) ∙ append_assoc a.sources_back one.back back.inner;
      sinks = back.back.back_sinks ∙ ap (λ z. z ++ sinks_of feeds topology.stages opened) (one.sinks ∙ asks.sinks);
    }

-- ---- the calls that were made

flat_map_append : {A B : Type 0} (f : A → List B) (xs ys : List A) → flat_map f (xs ++ ys) ≡ flat_map f xs ++ flat_map f ys
flat_map_append f [] ys = refl
flat_map_append f (x ∷ xs) ys = ap (λ z. f x ++ z) (flat_map_append f xs ys) ∙ sym (append_assoc (f x) (flat_map f xs) (flat_map f ys))

-- the calls before those of a stage, its own, and those after it
pub calls_parts : (feeds : Feeds) (stages : List StageSpec) (n : ℕ) (spec : StageSpec) → slice_get stages n ≡ Some spec → calls_of feeds stages ≡ calls_of feeds (take n stages) ++ (stage_calls feeds spec ++ calls_of feeds (drop (n + 1) stages))
calls_parts feeds stages n spec here =
    ap (calls_of feeds) (sym (take-append-drop (n + 1) stages))
    ∙ (flat_map_append (stage_calls feeds) (take (n + 1) stages) (drop (n + 1) stages)
    ∙ (ap (λ z. z ++ calls_of feeds (drop (n + 1) stages)) (sym (calls_step feeds stages n spec here)) ∙ append_assoc (calls_of feeds (take n stages)) (stage_calls feeds spec) (calls_of feeds (drop (n + 1) stages))))

-- what is still to come after the calls that were made
after_made : (calls made rest later : List (EdgeKind × List ℕ)) → calls ≡ made ++ rest → calls ++ later ≡ made ++ (rest ++ later)
after_made calls made rest later parts = ap (λ z. z ++ later) parts ∙ append_assoc made rest later

-- the calls of the control source and of the stages before one, those of its own that were made, and the others
whole_calls : (feeds : Feeds) (topology : Topology) (at : ℕ) (spec : StageSpec) (calls rest : List (EdgeKind × List ℕ)) → slice_get topology.stages at ≡ Some spec
    → stage_calls feeds spec ++ calls_of feeds (drop (at + 1) topology.stages) ≡ calls ++ rest
    → run_calls feeds topology ≡ (one (control_call topology.control) ++ (calls_of feeds (take at topology.stages) ++ calls)) ++ rest
whole_calls feeds topology at spec calls rest here to_come =
    let first = one (control_call topology.control) in
    let before = calls_of feeds (take at topology.stages) in
    ap (λ z. first ++ z) (calls_parts feeds topology.stages at spec here ∙ (ap (λ z. before ++ z) to_come ∙ sym (append_assoc before calls rest)))
    ∙ sym (append_assoc first (before ++ calls) rest)

-- ---- what was given back in order

none_more : {A : Type 0} (xs ys : List A) → xs ++ take 0 ys ≡ xs
none_more xs [] = append-nil xs
none_more xs (y ∷ ys) = append-nil xs

-- all parts are the first so many
pub all_parts : (feeds : Feeds) (topology : Topology) (control : Option LineSeen) (table : ℕ → Option BodySeen) (a b : EdgesSeen) → GivesOff (named_control topology.control control ++ sources_of feeds topology.stages table) (sinks_of feeds topology.stages table) a b
    → GivesOff (first_sources feeds (suc (length topology.stages)) 0 topology control table) (first_sinks feeds (suc (length topology.stages)) topology table) a b
all_parts feeds topology control table a b h =
    let count = length topology.stages in
    let all : topology.stages ≡ take count topology.stages = sym (take_all count topology.stages (omega arith)) in
    let named = named_control topology.control control in
    let more = sources_of feeds (take 1 (drop count topology.stages)) table in
    let whole = subst (λ (xs : List StageSpec). GivesOff (named ++ sources_of feeds xs table) (sinks_of feeds xs table) a b) all h in
    subst (λ xs. GivesOff (named ++ xs) (sinks_of feeds (take count topology.stages) table) a b) (sym (none_more (sources_of feeds (take count topology.stages) table) more)) whole

-- memory was wanting at the control source
short_first : (feeds : Feeds) (topology : Topology) (a b : EdgesSeen) (start : ℕ → Option BodySeen) → IsOneCut (one (control_call topology.control)) a b → IsCutShort feeds topology start a b
short_first feeds topology a b start cut =
    let later = edge_calls feeds topology in
    let to_come = after_made (one (control_call topology.control)) cut.made cut.cut.rest later cut.cut.parts in
    record {
      same_telling = cut.same_telling;
      front = cut.made;
      rest = cut.cut.rest ++ later;
      calls = to_come;
      asked = cut.asked;
      faults_stay = cut.faults_stay;
      given_back = inl (record {
        made = cut.made;
        back = cut.back;
        cut = cut.cut;
        to_come = to_come;
        sources = cut.sources;
        sinks = cut.sinks;
      });
    }

cut_from : (cs : List (EdgeKind × List ℕ)) (a b : EdgesSeen) (calls made : List (EdgeKind × List ℕ)) (back : List (List ℕ × SourceSeen)) → Asks cs a b → IsCut b calls made back → IsCut a calls made back
cut_from cs a b calls made back asks cut = record {
  rest = cut.rest;
  parts = cut.parts;
  of_sources = cut.of_sources;
  unread = unread_from cs a b (take (length back) made) back asks cut.unread;
}

-- memory was wanting at a stage, and the first parts of what was opened before it were given back
pub short_cut : (feeds : Feeds) (topology : Topology) (control : Option LineSeen) (n more : ℕ) (a b c d : EdgesSeen) (start opened : ℕ → Option BodySeen) → IsControlOpened topology.control a b control → IsCutOff feeds topology b c start opened
    → GivesOff (first_sources feeds n more topology control opened) (first_sinks feeds n topology opened) c d → IsCutShort feeds topology start a d
short_cut feeds topology control n more a b c d start opened first off back =
    let own = one (control_call topology.control) in
    let before = calls_of feeds (take off.at topology.stages) in
    let later = calls_of feeds (drop (off.at + 1) topology.stages) in
    let calls = stage_calls feeds off.spec in
    let cut = off.cut in
    let m = off.middle in
    let asks : Asks (own ++ before) a m = before_asks feeds topology off.at control a b m first off.asks in
    let to_come = after_made calls cut.made cut.cut.rest later cut.cut.parts in
    record {
      same_telling = back.back.same_telling ∙ cut.same_telling ∙ asks.same_telling;
      front = own ++ (before ++ cut.made);
      rest = cut.cut.rest ++ later;
      calls = whole_calls feeds topology off.at off.spec cut.made (cut.cut.rest ++ later) off.here to_come;
      asked = λ t. back.back.asked (rw (cut.same_telling, asks.same_telling) t) ∙ cut.asked (rw asks.same_telling t) ∙ ap (λ z. z ++ cut.made) (asks.asked t) ∙ then_asked a.asked own before cut.made;
      faults_stay = let p = asks.faults_stay in let q = cut.faults_stay in let r = back.back.no_fault in omega (arith, p, q, r);
      given_back = inr (record {
        at = off.at;
        spec = off.spec;
        here = off.here;
        made = cut.made;
        back = cut.back;
        parts = n;
        more = more;
        cut = inl (cut_from (own ++ before) a m calls cut.made cut.back asks cut.cut);
        to_come = to_come;
        control = control;
        lines = first.lines;
        opened = opened;
        bodies = opened_from feeds topology off.at own a b start opened first.asks off.bodies;
        inner = back.inner;
        ungated = back.ungated;
        sources = back.back.back_sources ∙ ap (λ z. z ++ back.inner) (cut.sources ∙ ap (λ z. z ++ cut.back) asks.sources) ∙ append_assoc a.sources_back cut.back back.inner;
        sinks = back.back.back_sinks ∙ ap (λ z. z ++ first_sinks feeds n topology opened) (cut.sinks ∙ asks.sinks);
      });
    }

-- a call failed, and there was no memory to give back all that was opened
short_failed : (feeds : Feeds) (topology : Topology) (name : List ℕ) (control : Option LineSeen) (n more : ℕ) (a b c d : EdgesSeen) (start opened : ℕ → Option BodySeen) → IsControlOpened topology.control a b control → IsFailed feeds topology name b c start opened
    → n ≤ length topology.stages → GivesOff (first_sources feeds n more topology control opened) (first_sinks feeds n topology opened) c d → IsCutShort feeds topology start a d
short_failed feeds topology name control n more a b c d start opened first failed left back =
    let own = one (control_call topology.control) in
    let before = calls_of feeds (take failed.at topology.stages) in
    let later = calls_of feeds (drop (failed.at + 1) topology.stages) in
    let one = failed.failed in
    let call : List (EdgeKind × List ℕ) = (one.kind, name) ∷ [] in
    let made : List (EdgeKind × List ℕ) = one.front ++ call in
    let m = failed.middle in
    let asks : Asks (own ++ before) a m = before_asks feeds topology failed.at control a b m first failed.asks in
    let parts : stage_calls feeds failed.spec ≡ made ++ one.behind = one.parts ∙ sym (append_assoc one.front call one.behind) in
    let to_come = after_made (stage_calls feeds failed.spec) made one.behind later parts in
    record {
      same_telling = back.back.same_telling ∙ one.same_telling ∙ asks.same_telling;
      front = own ++ (before ++ made);
      rest = one.behind ++ later;
      calls = whole_calls feeds topology failed.at failed.spec made (one.behind ++ later) failed.here to_come;
      asked = λ t. back.back.asked (rw (one.same_telling, asks.same_telling) t) ∙ one.asked (rw asks.same_telling t) ∙ ap (λ z. z ++ made) (asks.asked t) ∙ then_asked a.asked own before made;
      faults_stay = let p = asks.faults_stay in let q = one.faults_stay in let r = back.back.no_fault in omega (arith, p, q, r);
      given_back = inr (record {
        at = failed.at;
        spec = failed.spec;
        here = failed.here;
        made = made;
        back = one.back;
        parts = n;
        more = more;
        cut = inr (record {
          kind = one.kind;
          name = name;
          front = one.front;
          behind = one.behind;
          is = one.parts;
          are_made = refl;
          unread = unread_from (own ++ before) a m one.front one.back asks one.unread;
          fault = rw back.back.no_fault (rose_after a.faults m.faults c.faults asks.faults_stay one.fault);
          some_left = left;
        });
        to_come = to_come;
        control = control;
        lines = first.lines;
        opened = opened;
        bodies = opened_from feeds topology failed.at own a b start opened first.asks failed.bodies;
        inner = back.inner;
        ungated = back.ungated;
        sources = back.back.back_sources ∙ ap (λ z. z ++ back.inner) (one.sources ∙ ap (λ z. z ++ one.back) asks.sources) ∙ append_assoc a.sources_back one.back back.inner;
        sinks = back.back.back_sinks ∙ ap (λ z. z ++ first_sinks feeds n topology opened) (one.sinks ∙ asks.sinks);
      });
    }

-- ---- by what ended the opening

pub undone_by : (feeds : Feeds) (u : Unopened) (topology : Topology) (control : Option LineSeen) (a b c d : EdgesSeen) (start opened : ℕ → Option BodySeen) → IsControlOpened topology.control a b control → IfFailed u (λ name. IsFailed feeds topology name b c start opened)
    → GivesOff (named_control topology.control control ++ sources_of feeds topology.stages opened) (sinks_of feeds topology.stages opened) c d → IfFailed u (λ name. IsUndone feeds topology name start a d)
undone_by feeds (Failed name) topology control a b c d start opened first failed back = inr (undone feeds topology name control a b c d start opened first failed back)
undone_by feeds OutOfMemory topology control a b c d start opened first failed back = tt

pub undone_first : (feeds : Feeds) (u : Unopened) (topology : Topology) (a b : EdgesSeen) (start : ℕ → Option BodySeen) → IfFailed u (λ name. IsOneFailed (one (control_call topology.control)) name a b) → IfFailed u (λ name. IsUndone feeds topology name start a b)
undone_first feeds (Failed name) topology a b start failed = inl failed
undone_first feeds OutOfMemory topology a b start failed = tt

pub short_first_by : (feeds : Feeds) (u : Unopened) (topology : Topology) (a b : EdgesSeen) (start : ℕ → Option BodySeen) → IfCutOff u (IsOneCut (one (control_call topology.control)) a b) → IfCutOff u (IsCutShort feeds topology start a b)
short_first_by feeds (Failed name) topology a b start cut = tt
short_first_by feeds OutOfMemory topology a b start cut = short_first feeds topology a b start cut

pub short_by : (feeds : Feeds) (u : Unopened) (topology : Topology) (control : Option LineSeen) (n more : ℕ) (a b c d : EdgesSeen) (start opened : ℕ → Option BodySeen) → IsControlOpened topology.control a b control → IfCutOff u (IsCutOff feeds topology b c start opened)
    → GivesOff (first_sources feeds n more topology control opened) (first_sinks feeds n topology opened) c d → IfCutOff u (IsCutShort feeds topology start a d)
short_by feeds (Failed name) topology control n more a b c d start opened first cut back = tt
short_by feeds OutOfMemory topology control n more a b c d start opened first cut back = short_cut feeds topology control n more a b c d start opened first cut back

pub short_any : (feeds : Feeds) (u : Unopened) (topology : Topology) (control : Option LineSeen) (n more : ℕ) (a b c d : EdgesSeen) (start opened : ℕ → Option BodySeen) → IsControlOpened topology.control a b control → IfFailed u (λ name. IsFailed feeds topology name b c start opened)
    → IfCutOff u (IsCutOff feeds topology b c start opened) → n ≤ length topology.stages → GivesOff (first_sources feeds n more topology control opened) (first_sinks feeds n topology opened) c d → IsCutShort feeds topology start a d
short_any feeds (Failed name) topology control n more a b c d start opened first failed cut left back = short_failed feeds topology name control n more a b c d start opened first failed left back
short_any feeds OutOfMemory topology control n more a b c d start opened first failed cut left back = short_cut feeds topology control n more a b c d start opened first cut back
