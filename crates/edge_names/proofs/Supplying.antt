-- What becomes of the sources that a supply gives and takes back.
use Rattle.std.proofs.Common.{◌≡◌, ℕ, ◌==◌, Bool, true, false, List, [], ◌∷◌, ◌++◌, refl, ap, sym, ◌∙◌, subst, inl, inr, arith}
use Rattle.std.specs.Prelude.{◌⊎◌, Option, Some, None, Result, Ok, Err, OnOk, OnErr, IsSome, option_map, if◌then◌else◌}
use Rattle.std.proofs.lemmas.List.{append-nil}
use Rattle.std.proofs.lemmas.List.Elements.{All-nil}
use Rattle.pipe_edges.specs.Paces.{Pace}
use Rattle.pipe_edges.specs.declared.edges.EdgeKind.{EdgeKind}
use Rattle.stage_bodies.specs.Seen.{SourceSeen, LineSeen, FeedSeen, Single, Merged as MergedSeen, SourcesSeen, OneSource, ManySources, sources_out, BodySeen, with_source}
use Rattle.stage_bodies.specs.Jobs.{Both}
use Rattle.edge_names.specs.Seen.{EdgesSeen}
use Rattle.edge_names.specs.Gates.{HasNoWait, IsGated, IsInner}
use Rattle.edge_names.specs.Supplies.{Feed, Opened, Merged, Made, Supplied, Fed, Written, calls_for, fed, feed_calls, given_back, merge_count, merged_names, source_call, under_names, written}
use Rattle.edge_names.specs.Opened.{Asks, AreOpenedAt, FailsToOpen, HasFeed, IfCutOff, IfFailed, IsCut, IsOneCut, IsOneFailed, IsOpened, IsSupplied, OpensOne}
use Rattle.edge_names.specs.Returned.{GivesBack, GivesOff, IsBackUpTo, IsCalm, IsCalmFeed, IsCalmOut, fed_back, feed_in, named_sink, named_source, one_source, source_in}
use Rattle.edge_names.specs.declared.opening.Unopened.{Unopened}
use Rattle.edge_names.specs.declared.opening.Unopened.TheVariants.{Failed, OutOfMemory}
use Rattle.edge_names.proofs.Cuts.{cut_back, cut_nothing, failed_feed, is_source, opens_not}
use Rattle.edge_names.proofs.Gating.{fed_gated}
use Rattle.edge_names.proofs.Merges.{up_to_none}
use Rattle.edge_names.proofs.Openings.{fed_calls}
use Rattle.edge_names.proofs.Returns.{calm_written, off_as, off_nothing}

-- ---- supplied

pub some_fed : (pace : Option Pace) (feed : Option Feed) → IsSome feed → IsSome (fed pace feed)
some_fed pace (Some feed) h = refl
some_fed pace None h = let x : false ≡ true = h in cc

same_body : (edges : EdgesSeen) (body : Option BodySeen) → Both (IsOpened edges None) body body
same_body edges (Some b) = record { source = refl; sink = refl; callback = refl }
same_body edges None = tt

same_either : {A : Type 0} (t : Bool) (x : A) → (if t then x else x) ≡ x
same_either true x = refl
same_either false x = refl

-- the body at the place has what is read, and all others are as they were
fed_body : (edges : EdgesSeen) (pace : Option Pace) (feed : Feed) (read : FeedSeen) (body : Option BodySeen) → ((old : Option FeedSeen) → HasFeed edges (Some (Fed pace feed)) old (Some read)) → Both (IsOpened edges (Some (Fed pace feed))) body (option_map (with_source read) body)
fed_body edges pace feed read (Some b) gives = record { source = gives b.source; sink = refl; callback = refl }
fed_body edges pace feed read None gives = tt

fed_table : (edges : EdgesSeen) (pace : Option Pace) (feed : Feed) (read : FeedSeen) (at : ℕ) (old new : ℕ → Option BodySeen) → ((was : Option FeedSeen) → HasFeed edges (Some (Fed pace feed)) was (Some read))
    → ((s : ℕ) → new s ≡ (if at == s then option_map (with_source read) (old s) else old s)) → AreOpenedAt at (Some (Fed pace feed)) edges old new
fed_table edges pace feed read at old new gives is s = subst (λ b. Both (IsOpened edges (if at == s then Some (Fed pace feed) else None)) (old s) b) (sym (is s)) (by (at == s))
  where
    by : (t : Bool) → Both (IsOpened edges (if t then Some (Fed pace feed) else None)) (old s) (if t then option_map (with_source read) (old s) else old s)
    by true = fed_body edges pace feed read (old s) gives
    by false = same_body edges (old s)

pub feed_opened : {T : Type 0} (x : T) (pace : Option Pace) (feed : Option Feed) (source : SourceSeen) (lines : LineSeen) (at : ℕ) (a b : EdgesSeen) (old new : ℕ → Option BodySeen) → Asks (feed_calls feed) a b → IsSupplied a feed (Some source)
    → IsGated pace source lines → ((s : ℕ) → new s ≡ (if at == s then option_map (with_source (Single lines)) (old s) else old s)) → OpensOne (fed pace feed) at (Ok x) a b old new
feed_opened x pace (Some feed) source lines at a b old new asks gives gated is = record {
  asks = asks;
  bodies = fed_table a pace feed (Single lines) at old new (λ was. fed_gated a pace feed source lines gated gives) is;
}
feed_opened x pace None source lines at a b old new asks gives gated is = absurd gives

-- the merge
pub merge_opened : {T : Type 0} (x : T) (pace : Option Pace) (names : List (List ℕ)) (read : FeedSeen) (at : ℕ) (a b : EdgesSeen) (old new : ℕ → Option BodySeen) → Asks (feed_calls (Some (Merged names))) a b
    → ((was : Option FeedSeen) → HasFeed a (Some (Fed pace (Merged names))) was (Some read)) → ((s : ℕ) → new s ≡ (if at == s then option_map (with_source read) (old s) else old s)) → OpensOne (fed pace (Some (Merged names))) at (Ok x) a b old new
merge_opened x pace names read at a b old new asks gives is = record { asks = asks; bodies = fed_table a pace (Merged names) read at old new gives is }

pub merge_ok : {T : Type 0} (x : T) (pace : Option Pace) (feed : Option Feed) (at : ℕ) (a b c : EdgesSeen) (old new : ℕ → Option BodySeen) → feed ≡ Some (Merged (merged_names feed)) → c ≡ b
    → OpensOne (fed pace (Some (Merged (merged_names feed)))) at (Ok x) a b old new → OpensOne (fed pace feed) at (Ok x) a c old new
merge_ok x pace feed at a b c old new merge same opened = subst (λ f. OpensOne (fed pace f) at (Ok x) a c old new) (sym merge) (subst (λ d. OpensOne (fed pace (Some (Merged (merged_names feed)))) at (Ok x) a d old new) (sym same) opened)

pub merge_short : (pace : Option Pace) (feed : Option Feed) (a b : EdgesSeen) → feed ≡ Some (Merged (merged_names feed)) → IsOneCut (feed_calls (Some (Merged (merged_names feed)))) a b → IsOneCut (calls_for (fed pace feed)) a b
merge_short pace feed a b merge cut = subst (λ f. IsOneCut (calls_for (fed pace f)) a b) (sym merge) cut

-- a producer without a source
pub feed_none : {T : Type 0} (x : T) (pace : Option Pace) (feed : Option Feed) (at : ℕ) (a b : EdgesSeen) (table : ℕ → Option BodySeen) → Asks (feed_calls feed) a b → IsSupplied a feed None → OpensOne (fed pace feed) at (Ok x) a b table table
feed_none x pace (Some feed) at a b table asks gives = absurd gives
feed_none x pace None at a b table asks gives = record {
  asks = asks;
  bodies = λ s. subst (λ (o : Option Supplied). Both (IsOpened a o) (table s) (table s)) (sym (same_either (at == s) None)) (same_body a (table s));
}

-- it did not open
pub feed_undone : (T : Type 0) (u : Unopened) (pace : Option Pace) (feed : Option Feed) (at : ℕ) (a b : EdgesSeen) (old new : ℕ → Option BodySeen) → IfFailed u (λ name. IsOneFailed (feed_calls feed) name a b) → IfCutOff u (IsOneCut (feed_calls feed) a b)
    → OpensOne {T = T} (fed pace feed) at (Err u) a b old new
feed_undone T u pace feed at a b old new failed cut =
    opens_not T u (fed pace feed) at a b old new (subst (λ calls. IfFailed u (λ name. IsOneFailed calls name a b)) (sym (fed_calls pace feed)) failed) (subst (λ calls. IfCutOff u (IsOneCut calls a b)) (sym (fed_calls pace feed)) cut)

one_failed : (u : Unopened) (feed : Option Feed) (a b : EdgesSeen) → IfFailed u (λ name. FailsToOpen feed name a b) → IfFailed u (λ name. IsOneFailed (feed_calls feed) name a b)
one_failed (Failed name) feed a b h = failed_feed feed name a b h
one_failed OutOfMemory feed a b h = tt

one_cut : (u : Unopened) (feed : Option Feed) (a b : EdgesSeen) → IfCutOff u (Asks [] a b) → IfCutOff u (IsOneCut (feed_calls feed) a b)
one_cut (Failed name) feed a b h = tt
one_cut OutOfMemory feed a b h = cut_nothing (feed_calls feed) a b h

pub feed_not : (T : Type 0) (u : Unopened) (pace : Option Pace) (feed : Option Feed) (at : ℕ) (a b : EdgesSeen) (old new : ℕ → Option BodySeen) → IfFailed u (λ name. FailsToOpen feed name a b) → IfCutOff u (Asks [] a b)
    → OpensOne {T = T} (fed pace feed) at (Err u) a b old new
feed_not T u pace feed at a b old new failed cut = feed_undone T u pace feed at a b old new (one_failed u feed a b failed) (one_cut u feed a b cut)

-- ---- cut off

-- calls were made, and this was given back
cut_given : (calls made : List (EdgeKind × List ℕ)) (back : List (List ℕ × SourceSeen)) (a b c : EdgesSeen) → Asks made a b → GivesBack back [] b c → IsCut a calls made back → IsOneCut calls a c
cut_given calls made back a b c asks gb cut = record {
  made = made;
  back = back;
  cut = cut;
  same_telling = gb.same_telling ∙ asks.same_telling;
  asked = λ t. gb.asked (rw asks.same_telling t) ∙ asks.asked t;
  sources = gb.back_sources ∙ ap (λ z. z ++ back) asks.sources;
  sinks = gb.back_sinks ∙ append-nil b.sinks_back ∙ asks.sinks;
  faults_stay = let p = asks.faults_stay in let q = gb.no_fault in omega (arith, p, q);
}

-- a source for which there was no memory went back, or was let go
feed_cut : {T X : Type 0} (r : Result T X) (feed : Option Feed) (source : SourceSeen) (a b c : EdgesSeen) → Asks (feed_calls feed) a b → IsSupplied a feed (Some source)
    → OnOk r (GivesBack (given_back feed (Some (OneSource source))) [] b c) → OnErr r (GivesBack [] [] b c) → IsOneCut (feed_calls feed) a c
feed_cut (Ok x) (Some (Opened name)) source a b c asks gives back none = cut_given (source_call name ∷ []) (source_call name ∷ []) ((name, source) ∷ []) a b c asks back (cut_back a name source ((name, source) ∷ []) gives (inl refl))
feed_cut (Err x) (Some (Opened name)) source a b c asks gives back none = cut_given (source_call name ∷ []) (source_call name ∷ []) [] a b c asks none (cut_back a name source [] gives (inr refl))
feed_cut (Ok x) (Some (Made bytes)) source a b c asks gives back none = cut_given [] [] [] a b c asks back (record { rest = []; parts = refl; of_sources = All-nil is_source; unread = tt })
feed_cut (Err x) (Some (Made bytes)) source a b c asks gives back none = cut_given [] [] [] a b c asks none (record { rest = []; parts = refl; of_sources = All-nil is_source; unread = tt })
feed_cut r (Some (Merged names)) source a b c asks gives back none = absurd gives
feed_cut r None source a b c asks gives back none = absurd gives

pub feed_cut_off : {T X : Type 0} (r : Result T X) (pace : Option Pace) (feed : Option Feed) (source again : SourceSeen) (a b c : EdgesSeen) → again ≡ source → Asks (feed_calls feed) a b → IsSupplied a feed (Some source)
    → OnOk r (GivesBack (given_back feed (Some (OneSource again))) [] b c) → OnErr r (GivesBack [] [] b c) → IsOneCut (calls_for (fed pace feed)) a c
feed_cut_off r pace feed source again a b c same asks gives back none =
    subst (λ calls. IsOneCut calls a c) (sym (fed_calls pace feed)) (feed_cut r feed source a b c asks gives (subst (λ s. OnOk r (GivesBack (given_back feed (Some (OneSource s))) [] b c)) same back) none)

-- ---- taken back

-- the one source out of its gate went back
pub off_one : {T X : Type 0} (r : Result T X) (feed : Option Feed) (gated inner : SourceSeen) (a b : EdgesSeen) → IsInner gated inner
    → OnOk r (GivesBack (given_back feed (Some (OneSource inner))) [] a b) → OnOk r (GivesOff (given_back feed (Some (OneSource gated))) [] a b)
off_one (Err x) feed gated inner a b is back = tt
off_one (Ok x) (Some (Opened name)) gated inner a b is back = record { inner = (name, inner) ∷ []; ungated = (refl, is, tt); back = back }
off_one (Ok x) (Some (Merged names)) gated inner a b is back = off_as [] [] a b back
off_one (Ok x) (Some (Made bytes)) gated inner a b is back = off_as [] [] a b back
off_one (Ok x) None gated inner a b is back = off_as [] [] a b back

pub up_to_one : {T X : Type 0} (r : Result T X) (xs : List (List ℕ × SourceSeen)) (a b : EdgesSeen) → OnErr r (GivesBack [] [] a b) → OnErr r (IsBackUpTo xs a b)
up_to_one (Ok x) xs a b h = tt
up_to_one (Err x) xs a b h = up_to_none xs a b h

-- those of a merge went back under its names
pub off_merge : {T X : Type 0} (r : Result T X) (feed : Option Feed) (sources : List SourceSeen) (a b : EdgesSeen) → feed ≡ Some (Merged (merged_names feed))
    → OnOk r (GivesOff (under_names (merged_names feed) sources) [] a b) → OnOk r (GivesOff (given_back feed (Some (ManySources sources))) [] a b)
off_merge r feed sources a b is back = subst (λ f. OnOk r (GivesOff (given_back f (Some (ManySources sources))) [] a b)) (sym is) back

pub up_to_merge : {T X : Type 0} (r : Result T X) (feed : Option Feed) (sources : List SourceSeen) (a b : EdgesSeen) → feed ≡ Some (Merged (merged_names feed))
    → OnErr r (IsBackUpTo (under_names (merged_names feed) sources) a b) → OnErr r (IsBackUpTo (given_back feed (Some (ManySources sources))) a b)
up_to_merge r feed sources a b is back = subst (λ f. OnErr r (IsBackUpTo (given_back f (Some (ManySources sources))) a b)) (sym is) back

-- where a feed does not fit what is taken out, nothing is given back
pub off_many : (feed : Option Feed) (sources : List SourceSeen) (a : EdgesSeen) → merge_count feed ≡ None → GivesOff (given_back feed (Some (ManySources sources))) [] a a
off_many (Some (Merged names)) sources a e = cc
off_many (Some (Opened name)) sources a e = off_nothing a
off_many (Some (Made bytes)) sources a e = off_nothing a
off_many None sources a e = off_nothing a

pub off_single : (feed : Option Feed) (source : SourceSeen) (a : EdgesSeen) → feed ≡ Some (Merged (merged_names feed)) → GivesOff (given_back feed (Some (OneSource source))) [] a a
off_single feed source a is = subst (λ f. GivesOff (given_back f (Some (OneSource source))) [] a a) (sym is) (off_nothing a)

-- ---- of a stage

fed_gives : (pace : Option Pace) (feed : Option Feed) (out : Option SourcesSeen) → fed_back (fed pace feed) out ≡ given_back feed out
fed_gives pace (Some feed) out = refl
fed_gives pace None out = refl

fed_sinks : (pace : Option Pace) (feed : Option Feed) (body : Option BodySeen) → named_sink (fed pace feed) body ≡ []
fed_sinks pace (Some feed) body = refl
fed_sinks pace None body = refl

named_gives : (pace : Option Pace) (feed : Option Feed) (out : SourcesSeen) (body : Option BodySeen) → Some out ≡ option_map sources_out (feed_in body) → given_back feed (Some out) ≡ named_source (fed pace feed) body
named_gives pace feed out body is = sym (fed_gives pace feed (Some out)) ∙ ap (fed_back (fed pace feed)) is

pub off_feed : {T X : Type 0} (r : Result T X) (pace : Option Pace) (feed : Option Feed) (out : SourcesSeen) (body : Option BodySeen) (a b : EdgesSeen) → Some out ≡ option_map sources_out (feed_in body)
    → OnOk r (GivesOff (given_back feed (Some out)) [] a b) → OnOk r (GivesOff (named_source (fed pace feed) body) (named_sink (fed pace feed) body) a b)
off_feed r pace feed out body a b is back =
    let sources = subst (λ xs. OnOk r (GivesOff xs [] a b)) (named_gives pace feed out body is) back in
    subst (λ ys. OnOk r (GivesOff (named_source (fed pace feed) body) ys a b)) (sym (fed_sinks pace feed body)) sources

pub up_to_feed : {T X : Type 0} (r : Result T X) (pace : Option Pace) (feed : Option Feed) (out : SourcesSeen) (body : Option BodySeen) (a b : EdgesSeen) → Some out ≡ option_map sources_out (feed_in body)
    → OnErr r (IsBackUpTo (given_back feed (Some out)) a b) → OnErr r (IsBackUpTo (named_source (fed pace feed) body) a b)
up_to_feed r pace feed out body a b is back = subst (λ xs. OnErr r (IsBackUpTo xs a b)) (named_gives pace feed out body is) back

none_given : (feed : Option Feed) → given_back feed None ≡ []
none_given (Some (Opened name)) = refl
none_given (Some (Merged names)) = refl
none_given (Some (Made bytes)) = refl
none_given None = refl

-- where none stood
pub off_none : (pace : Option Pace) (feed : Option Feed) (body : Option BodySeen) (a : EdgesSeen) → None ≡ option_map sources_out (feed_in body) → GivesOff (named_source (fed pace feed) body) (named_sink (fed pace feed) body) a a
off_none pace feed body a stands =
    let none : [] ≡ named_source (fed pace feed) body = sym (none_given feed) ∙ sym (fed_gives pace feed None) ∙ ap (fed_back (fed pace feed)) stands in
    let sources = subst (λ xs. GivesOff xs [] a a) none (off_nothing a) in
    subst (λ ys. GivesOff (named_source (fed pace feed) body) ys a a) (sym (fed_sinks pace feed body)) sources

pub off_written : {T X : Type 0} (r : Result T X) (edge : Option (List ℕ)) (body : Option BodySeen) (a b : EdgesSeen) → OnOk r (GivesBack [] (named_sink (written edge) body) a b) → OnOk r (GivesOff (named_source (written edge) body) (named_sink (written edge) body) a b)
off_written (Err x) edge body a b back = tt
off_written (Ok x) (Some name) body a b back = off_as [] (named_sink (Some (Written name)) body) a b back
off_written (Ok x) None body a b back = off_as [] [] a b back

-- ---- calm

-- one that was made counted nothing beside its gate
pub calm_one : {T X : Type 0} (r : Result T X) (feed : Option Feed) (gated inner : SourceSeen) → IsInner gated inner → IsCalmFeed feed inner → OnOk r (IsCalmOut feed (OneSource gated))
calm_one (Err x) feed gated inner is calm = tt
calm_one (Ok x) (Some (Made bytes)) gated inner is calm = (sym is.same_faults ∙ calm.0, by_gate is.gate)
  where
    by_gate : (inner ≡ gated) ⊎ (IsSome gated.paced.pace × (gated.paced.own ≡ inner.waits)) → HasNoWait gated
    by_gate (inl same) = inl (ap (λ (s : SourceSeen). s.waits) (sym same) ∙ calm.1)
    by_gate (inr gate) = inr (gate.0, gate.1 ∙ calm.1)
calm_one (Ok x) (Some (Opened name)) gated inner is calm = tt
calm_one (Ok x) (Some (Merged names)) gated inner is calm = tt
calm_one (Ok x) None gated inner is calm = tt

pub calm_many : (feed : Option Feed) (sources : List SourceSeen) → IsCalmOut feed (ManySources sources)
calm_many (Some (Made bytes)) sources = tt
calm_many (Some (Opened name)) sources = tt
calm_many (Some (Merged names)) sources = tt
calm_many None sources = tt

pub calm_many_on : {T X : Type 0} (r : Result T X) (feed : Option Feed) (sources : List SourceSeen) → OnOk r (IsCalmOut feed (ManySources sources))
calm_many_on (Ok x) feed sources = calm_many feed sources
calm_many_on (Err x) feed sources = tt

pub calm_merge : (feed : Option Feed) (out : SourcesSeen) → feed ≡ Some (Merged (merged_names feed)) → IsCalmOut feed out
calm_merge feed out is = subst (λ f. IsCalmOut f out) (sym is) tt

calm_read : (pace : Option Pace) (feed : Option Feed) (read : Option FeedSeen) (out : SourcesSeen) → Some out ≡ option_map sources_out read → IsCalmOut feed out → IsCalm (fed pace feed) (one_source read)
calm_read pace (Some (Opened name)) read out is calm = tt
calm_read pace (Some (Merged names)) read out is calm = tt
calm_read pace None read out is calm = tt
calm_read pace (Some (Made bytes)) None out is calm = tt
calm_read pace (Some (Made bytes)) (Some (MergedSeen merge)) out is calm = tt
calm_read pace (Some (Made bytes)) (Some (Single lines)) out is calm =
    let same : out ≡ OneSource lines.source = cc in
    subst (λ o. IsCalmOut (Some (Made bytes)) o) same calm

calm_out : (pace : Option Pace) (feed : Option Feed) (out : SourcesSeen) (body : Option BodySeen) → Some out ≡ option_map sources_out (feed_in body) → IsCalmOut feed out → IsCalm (fed pace feed) (source_in body)
calm_out pace feed out (Some body) is calm = calm_read pace feed body.source out is calm
calm_out pace feed out None is calm = cc

pub calm_fed : {T X : Type 0} (r : Result T X) (pace : Option Pace) (feed : Option Feed) (out : SourcesSeen) (body : Option BodySeen) → Some out ≡ option_map sources_out (feed_in body) → OnOk r (IsCalmOut feed out) → OnOk r (IsCalm (fed pace feed) (source_in body))
calm_fed (Ok x) pace feed out body is calm = calm_out pace feed out body is calm
calm_fed (Err x) pace feed out body is calm = tt

pub none_stood : (body : Option BodySeen) → None ≡ option_map sources_out (feed_in body) → None ≡ source_in body
none_stood None is = refl
none_stood (Some body) is = by body.source is
  where
    by : (read : Option FeedSeen) → None ≡ option_map sources_out read → None ≡ one_source read
    by None e = refl
    by (Some (Single lines)) e = cc
    by (Some (MergedSeen merge)) e = refl

pub calm_sunk : {T X : Type 0} (r : Result T X) (edge : Option (List ℕ)) (source : Option SourceSeen) → OnOk r (IsCalm (written edge) source)
calm_sunk (Ok x) edge source = calm_written edge source
calm_sunk (Err x) edge source = tt
