-- What giving back adds, and what bodies keep.
use Rattle.std.proofs.Common.{◌≡◌, ℕ, zero, suc, ◌+◌, ◌*◌, ◌≤◌, ◌<◌, List, [], ◌∷◌, ◌++◌, length, take, drop, refl, ap, sym, ◌∙◌, subst, inl, inr, arith}
use Rattle.std.specs.Prelude.{slice_get, ◌==◌, Option, Some, None, Result, Ok, Err, OnOk, OnErr, if◌then◌else◌}
use Rattle.std.proofs.lemmas.List.{append-nil, append_assoc}
use Rattle.std.proofs.lemmas.List.Elements.{All-nil, All-push}
use Rattle.pipe_types.specs.Numbers.{post}
use Rattle.pipe_types.specs.declared.topology.StageSpec.{StageSpec}
use Rattle.pipe_types.specs.declared.topology.Topology.{Topology}
use Rattle.stage_bodies.specs.Seen.{SourceSeen, SinkSeen, LineSeen, BodySeen}
use Rattle.stage_bodies.specs.Jobs.{Both}
use Rattle.stage_bodies.specs.Posts.{place_at}
use Rattle.stage_laws.specs.Numbered.{IsNumberedTopology}
use Rattle.edge_names.specs.Seen.{EdgesSeen}
use Rattle.edge_names.specs.Controls.{IsBackFirst, IsGivenInPart, named_control}
use Rattle.edge_names.specs.Opened.{AreOpenedAt, IsOpened}
use Rattle.edge_names.specs.Returned.{AreCalm, GivesBack, GivesOff, IsBackInPart, IsBackUpTo, IsCalm, KeepsCallbacks, named_source, named_sink, source_in, sources_before, sources_of, sinks_of}
use Rattle.edge_names.specs.Supplies.{Feeds, Opened, Merged, Made, Supplied, Fed, Written, supplied, written}
use Rattle.edge_names.proofs.Gating.{inner_all, inner_more}
use Rattle.edge_names.proofs.Openings.{take_next, flat_map_next}

pub back_nothing : (a : EdgesSeen) → GivesBack [] [] a a
back_nothing a = record {
  same_telling = refl;
  asked = λ t. refl;
  back_sources = sym (append-nil a.sources_back);
  back_sinks = sym (append-nil a.sinks_back);
  no_fault = refl;
}

pub back_more : (xs xs' : List (List ℕ × SourceSeen)) (ys ys' : List (List ℕ × SinkSeen)) (a b c : EdgesSeen) → GivesBack xs ys a b → GivesBack xs' ys' b c → GivesBack (xs ++ xs') (ys ++ ys') a c
back_more xs xs' ys ys' a b c h k = record {
  same_telling = k.same_telling ∙ h.same_telling;
  asked = λ t. k.asked (rw h.same_telling t) ∙ h.asked t;
  back_sources = k.back_sources ∙ ap (λ z. z ++ xs') h.back_sources ∙ append_assoc a.sources_back xs xs';
  back_sinks = k.back_sinks ∙ ap (λ z. z ++ ys') h.back_sinks ∙ append_assoc a.sinks_back ys ys';
  no_fault = k.no_fault ∙ h.no_fault;
}

-- nothing more was given back
pub back_same : (xs : List (List ℕ × SourceSeen)) (ys : List (List ℕ × SinkSeen)) (a b c : EdgesSeen) → GivesBack xs ys a b → GivesBack [] [] b c → GivesBack xs ys a c
back_same xs ys a b c h k =
    let more : GivesBack (xs ++ []) (ys ++ []) a c = back_more xs [] ys [] a b c h k in
    rw (append-nil xs, append-nil ys) at more

-- ---- without gates

pub off_nothing : (a : EdgesSeen) → GivesOff [] [] a a
off_nothing a = record { inner = []; ungated = tt; back = back_nothing a }

-- sources without gates
pub off_as : (xs : List (List ℕ × SourceSeen)) (ys : List (List ℕ × SinkSeen)) (a b : EdgesSeen) → GivesBack xs ys a b → GivesOff xs ys a b
off_as xs ys a b h = record { inner = xs; ungated = inner_all xs; back = h }

pub off_more : (xs xs' : List (List ℕ × SourceSeen)) (ys ys' : List (List ℕ × SinkSeen)) (a b c : EdgesSeen) → GivesOff xs ys a b → GivesOff xs' ys' b c → GivesOff (xs ++ xs') (ys ++ ys') a c
off_more xs xs' ys ys' a b c h k = record {
  inner = h.inner ++ k.inner;
  ungated = inner_more xs h.inner xs' k.inner h.ungated k.ungated;
  back = back_more h.inner k.inner ys ys' a b c h.back k.back;
}

-- nothing more was given back
pub off_same : (xs : List (List ℕ × SourceSeen)) (ys : List (List ℕ × SinkSeen)) (a b c : EdgesSeen) → GivesOff xs ys a b → GivesBack [] [] b c → GivesOff xs ys a c
off_same xs ys a b c h k = record { inner = h.inner; ungated = h.ungated; back = back_same h.inner ys a b c h.back k }

-- the control source was given back, and the first stages
part_back : (feeds : Feeds) (topology : Topology) (control : Option LineSeen) (table : ℕ → Option BodySeen) (a b c : EdgesSeen) → GivesBack (named_control topology.control control) [] a b → IsBackInPart feeds topology table b c → IsGivenInPart feeds topology control table a c
part_back feeds topology control table a b c first part = record {
  parts = suc part.stages;
  more = part.more;
  some_left = omega (arith, part.some_left);
  back = off_more (named_control topology.control control) (sources_before feeds part.stages part.more topology.stages table) [] (sinks_of feeds (take part.stages topology.stages) table) a b c (off_as (named_control topology.control control) [] a b first) part.back;
}

pub part_back_on : (feeds : Feeds) (T E : Type 0) (r : Result T E) (topology : Topology) (control : Option LineSeen) (table : ℕ → Option BodySeen) (a b c : EdgesSeen) → GivesBack (named_control topology.control control) [] a b
    → OnErr r (IsBackInPart feeds topology table b c) → OnErr r (IsGivenInPart feeds topology control table a c)
part_back_on feeds T E (Ok done) topology control table a b c first part = tt
part_back_on feeds T E (Err error) topology control table a b c first part = part_back feeds topology control table a b c first part

-- it was given back before the others
pub back_first : {T E : Type 0} (r : Result T E) (feeds : Feeds) (topology : Topology) (control : Option LineSeen) (table : ℕ → Option BodySeen) (xs : List (List ℕ × SourceSeen)) (ys : List (List ℕ × SinkSeen)) (a b c : EdgesSeen)
    → GivesBack (named_control topology.control control) [] a b → OnOk r (GivesOff xs ys b c) → OnErr r (IsBackInPart feeds topology table b c) → IsBackFirst topology.control control a c
back_first (Ok x) feeds topology control table xs ys a b c first all part =
    let named = named_control topology.control control in
    inr (all.inner, all.back.back_sources ∙ ap (λ z. z ++ all.inner) first.back_sources ∙ append_assoc a.sources_back named all.inner)
back_first (Err x) feeds topology control table xs ys a b c first all part =
    let named = named_control topology.control control in
    let given = part.back in
    inr (given.inner, given.back.back_sources ∙ ap (λ z. z ++ given.inner) first.back_sources ∙ append_assoc a.sources_back named given.inner)

-- nothing was given back
pub none_back : (feeds : Feeds) (topology : Topology) (control : Option LineSeen) (table : ℕ → Option BodySeen) (a b : EdgesSeen) → GivesBack [] [] a b → IsGivenInPart feeds topology control table a b
none_back feeds topology control table a b back = record { parts = 0; more = 0; some_left = omega arith; back = off_as [] [] a b back }

pub none_first : (name : Option (List ℕ)) (control : Option LineSeen) (a b : EdgesSeen) → GivesBack [] [] a b → IsBackFirst name control a b
none_first name control a b back = inl (back.back_sources ∙ append-nil a.sources_back)

sources_step : (feeds : Feeds) (stages : List StageSpec) (n : ℕ) (spec : StageSpec) (was : ℕ → Option BodySeen) → slice_get stages n ≡ Some spec
    → sources_of feeds (take n stages) was ++ named_source (supplied feeds spec) (was (place_at (post spec.no 0))) ≡ sources_of feeds (take (n + 1) stages) was
sources_step feeds stages n spec was here =
    sym (ap (λ (xs : List StageSpec). sources_of feeds xs was) (take_next stages n spec here) ∙ flat_map_next (λ (s : StageSpec). named_source (supplied feeds s) (was (place_at (post s.no 0)))) (take n stages) spec)

sinks_step : (feeds : Feeds) (stages : List StageSpec) (n : ℕ) (spec : StageSpec) (was : ℕ → Option BodySeen) → slice_get stages n ≡ Some spec
    → sinks_of feeds (take n stages) was ++ named_sink (supplied feeds spec) (was (place_at (post spec.no 0))) ≡ sinks_of feeds (take (n + 1) stages) was
sinks_step feeds stages n spec was here =
    sym (ap (λ (xs : List StageSpec). sinks_of feeds xs was) (take_next stages n spec here) ∙ flat_map_next (λ (s : StageSpec). named_sink (supplied feeds s) (was (place_at (post s.no 0)))) (take n stages) spec)

here_alone : {A : Type 0} (xs : List A) (n : ℕ) (x : A) → slice_get xs n ≡ Some x → take 1 (drop n xs) ≡ x ∷ []
here_alone [] n x e = cc
here_alone (y ∷ []) zero x e = let is : y ≡ x = cc in ap (λ z. z ∷ []) is
here_alone (y ∷ z ∷ zs) zero x e = let is : y ≡ x = cc in ap (λ z. z ∷ []) is
here_alone (y ∷ ys) (suc n) x e = here_alone ys n x e

-- the sources of the stage at hand
stage_alone : (feeds : Feeds) (stages : List StageSpec) (n : ℕ) (spec : StageSpec) (was : ℕ → Option BodySeen) → slice_get stages n ≡ Some spec
    → sources_of feeds (take 1 (drop n stages)) was ≡ named_source (supplied feeds spec) (was (place_at (post spec.no 0)))
stage_alone feeds stages n spec was here =
    ap (λ (xs : List StageSpec). sources_of feeds xs was) (here_alone stages n spec here) ∙ append-nil (named_source (supplied feeds spec) (was (place_at (post spec.no 0))))

-- memory was wanting at a stage: the stages before it went back, and the first of its own sources
pub back_part : (feeds : Feeds) (topology : Topology) (n at : ℕ) (spec : StageSpec) (was now : ℕ → Option BodySeen) (a b c : EdgesSeen) → IsNumberedTopology topology → slice_get topology.stages n ≡ Some spec → n < length topology.stages
    → at ≡ spec.no.0 * 16 + 0 → ((s : ℕ) → (n + 1) * 16 ≤ s → now s ≡ was s)
    → GivesOff (sources_of feeds (take n topology.stages) was) (sinks_of feeds (take n topology.stages) was) a b
    → IsBackUpTo (named_source (supplied feeds spec) (now at)) b c
    → IsBackInPart feeds topology was a c
back_part feeds topology n at spec was now a b c numbered here within is rest h k =
    let no = numbered.numbers n spec here in
    let place = place_at (post spec.no 0) in
    let sources = sources_of feeds (take n topology.stages) was in
    let sinks = sinks_of feeds (take n topology.stages) was in
    let alone = sources_of feeds (take 1 (drop n topology.stages)) was in
    let same : now at ≡ was place = ap now is ∙ rest place (omega (arith, no)) in
    let own : named_source (supplied feeds spec) (now at) ≡ alone = ap (λ x. named_source (supplied feeds spec) x) same ∙ sym (stage_alone feeds topology.stages n spec was here) in
    let given : GivesOff (take k.count alone) [] b c = subst (λ xs. GivesOff (take k.count xs) [] b c) own k.back in
    let more : GivesOff (sources ++ take k.count alone) (sinks ++ []) a c = off_more sources (take k.count alone) sinks [] a b c h given in
    record {
      stages = n;
      more = k.count;
      some_left = within;
      back = subst (λ ys. GivesOff (sources ++ take k.count alone) ys a c) (append-nil sinks) more;
    }

-- one stage more
pub back_turn : (feeds : Feeds) (topology : Topology) (n at : ℕ) (spec : StageSpec) (was now : ℕ → Option BodySeen) (a b c : EdgesSeen) → IsNumberedTopology topology → slice_get topology.stages n ≡ Some spec
    → at ≡ spec.no.0 * 16 + 0 → ((s : ℕ) → (n + 1) * 16 ≤ s → now s ≡ was s)
    → GivesOff (sources_of feeds (take n topology.stages) was) (sinks_of feeds (take n topology.stages) was) a b
    → GivesOff (named_source (supplied feeds spec) (now at)) (named_sink (supplied feeds spec) (now at)) b c
    → GivesOff (sources_of feeds (take (n + 1) topology.stages) was) (sinks_of feeds (take (n + 1) topology.stages) was) a c
back_turn feeds topology n at spec was now a b c numbered here is rest h k =
    let no = numbered.numbers n spec here in
    let place = place_at (post spec.no 0) in
    let sources = sources_of feeds (take n topology.stages) was in
    let sinks = sinks_of feeds (take n topology.stages) was in
    let source = named_source (supplied feeds spec) (was place) in
    let sink = named_sink (supplied feeds spec) (was place) in
    let same : now at ≡ was place = ap now is ∙ rest place (omega (arith, no)) in
    let given = subst (λ x. GivesOff (named_source (supplied feeds spec) x) (named_sink (supplied feeds spec) x) b c) same k in
    let more : GivesOff (sources ++ source) (sinks ++ sink) a c = off_more sources source sinks sink a b c h given in
    let by_sources = subst (λ xs. GivesOff xs (sinks ++ sink) a c) (sources_step feeds topology.stages n spec was here) more in
    subst (λ ys. GivesOff (sources_of feeds (take (n + 1) topology.stages) was) ys a c) (sinks_step feeds topology.stages n spec was here) by_sources

pub rest_turn : (topology : Topology) (n at : ℕ) (spec : StageSpec) (was now next : ℕ → Option BodySeen) → IsNumberedTopology topology → slice_get topology.stages n ≡ Some spec
    → at ≡ spec.no.0 * 16 + 0 → ((s : ℕ) → (n + 1) * 16 ≤ s → now s ≡ was s) → ((s : ℕ) → ¬ (at ≡ s) → next s ≡ now s)
    → (s : ℕ) → (n + 1 + 1) * 16 ≤ s → next s ≡ was s
rest_turn topology n at spec was now next numbered here is rest others s le =
    let no = numbered.numbers n spec here in
    others s (λ same. omega (arith, no, is, same, le)) ∙ rest s (omega (arith, le))

both_callbacks : (x y z : Option BodySeen) → Both (λ before now. now.callback ≡ before.callback) x y → Both (λ before now. now.callback ≡ before.callback) y z → Both (λ (before now : BodySeen). now.callback ≡ before.callback) x z
both_callbacks (Some x) (Some y) (Some z) h k = k ∙ h
both_callbacks None None None h k = tt
both_callbacks (Some x) (Some y) None h k = absurd k
both_callbacks (Some x) None z h k = absurd h
both_callbacks None (Some y) z h k = absurd h
both_callbacks None None (Some z) h k = absurd k

pub callbacks_more : (x y z : ℕ → Option BodySeen) → KeepsCallbacks x y → KeepsCallbacks y z → KeepsCallbacks x z
callbacks_more x y z h k at = both_callbacks (x at) (y at) (z at) (h at) (k at)

same_callback : (x : Option BodySeen) → Both (λ (before now : BodySeen). now.callback ≡ before.callback) x x
same_callback (Some x) = refl
same_callback None = tt

pub callbacks_same : (x : ℕ → Option BodySeen) → KeepsCallbacks x x
callbacks_same x at = same_callback (x at)

one_callback : (what : Option Supplied) (edges : EdgesSeen) (x y : Option BodySeen) → Both (IsOpened edges what) x y → Both (λ (before now : BodySeen). now.callback ≡ before.callback) x y
one_callback what edges (Some x) (Some y) h = h.callback
one_callback what edges None None h = tt
one_callback what edges (Some x) None h = absurd h
one_callback what edges None (Some y) h = absurd h

pub callbacks_at : (at : ℕ) (what : Option Supplied) (edges : EdgesSeen) (x y : ℕ → Option BodySeen) → AreOpenedAt at what edges x y → KeepsCallbacks x y
callbacks_at at what edges x y h s = one_callback (if at == s then what else None) edges (x s) (y s) (h s)

-- ---- made sources

-- where no source stands, and where a sink is written
pub calm_none : (what : Option Supplied) (source : Option SourceSeen) → None ≡ source → IsCalm what source
calm_none (Some (Fed pace (Made bytes))) None e = tt
calm_none (Some (Fed pace (Made bytes))) (Some source) e = cc
calm_none (Some (Fed pace (Opened name))) source e = tt
calm_none (Some (Fed pace (Merged names))) source e = tt
calm_none (Some (Written name)) source e = tt
calm_none None source e = tt

pub calm_written : (name : Option (List ℕ)) (source : Option SourceSeen) → IsCalm (written name) source
calm_written (Some name) source = tt
calm_written None source = tt

abbrev calm_in : Feeds → (ℕ → Option BodySeen) → StageSpec → Type 0
calm_in feeds table spec = IsCalm (supplied feeds spec) (source_in (table (place_at (post spec.no 0))))

-- before the first stage, and one stage more
pub calm_start : (feeds : Feeds) (was : ℕ → Option BodySeen) → AreCalm feeds [] was
calm_start feeds was = All-nil (calm_in feeds was)

pub calm_turn : (feeds : Feeds) (topology : Topology) (n at : ℕ) (spec : StageSpec) (was now : ℕ → Option BodySeen) → IsNumberedTopology topology → slice_get topology.stages n ≡ Some spec
    → at ≡ spec.no.0 * 16 + 0 → ((s : ℕ) → (n + 1) * 16 ≤ s → now s ≡ was s)
    → AreCalm feeds (take n topology.stages) was → IsCalm (supplied feeds spec) (source_in (now at)) → AreCalm feeds (take (n + 1) topology.stages) was
calm_turn feeds topology n at spec was now numbered here is rest h k =
    let no = numbered.numbers n spec here in
    let same : now at ≡ was (place_at (post spec.no 0)) = ap now is ∙ rest (place_at (post spec.no 0)) (omega (arith, no)) in
    let calm : calm_in feeds was spec = subst (λ x. IsCalm (supplied feeds spec) (source_in x)) same k in
    subst (λ (xs : List StageSpec). AreCalm feeds xs was) (sym (take_next topology.stages n spec here)) (All-push (calm_in feeds was) (take n topology.stages) spec h calm)
