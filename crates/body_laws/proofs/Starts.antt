-- Bodies that nothing was done to stand where the empty journal leaves them.
use Rattle.std.proofs.Common.{◌≡◌, ℕ, [], refl, sym, ◌∙◌, Some, None, Option, arith, true}
use Rattle.std.specs.Prelude.{IfSome}
use Rattle.std.proofs.lemmas.List.{append-nil}
use Rattle.std.proofs.lemmas.List.Elements.{All-nil}
use Rattle.pipe_types.specs.declared.numbers.Post.{Post}
use Rattle.pipe_types.specs.declared.numbers.StageNo.{StageNo}
use Rattle.pipe_types.specs.declared.topology.Kind.TheVariants.{Own}
use Rattle.pipe_types.specs.declared.topology.Topology.{Topology}
use Rattle.pipe_edges.specs.Texts.{IsLine}
use Rattle.pipe_edges.specs.declared.reading.LineEnd.{LineEnd}
use Rattle.pipe_edges.specs.declared.reading.LineEnd.TheVariants as end
use Rattle.stage_callback.proofs.Resets.{none_counted}
use Rattle.stage_bodies.specs.Seen.{LineSeen, MergeSeen, waits_together, FeedSeen, Single, Merged, SinkSeen, BoxSeen, BodySeen}
use Rattle.stage_bodies.specs.Jobs.{Both}
use Rattle.stage_bodies.specs.Posts.{place_at}
use Rattle.body_laws.specs.Keeps.{KeepsSource, KeepsMerge, KeepsFeed, KeepsSink, KeepsCallback, KeepsBody, Keeps}
use Rattle.body_laws.specs.Ready.{IsUnused, IsNewFeed, IsNewMerge, IsFilled}
use Rattle.pace_laws.specs.Pacing.{IsNewGate}
use Rattle.pace_laws.proofs.Fetching.{starts as begins}
use Rattle.body_laws.proofs.Rises.{rise_none}

no_end : {A : Type 0} (now : Option LineEnd) (e : LineEnd) → now ≡ None → now ≡ Some e → A
no_end now e none is = let x : None ≡ Some e = sym none ∙ is in cc

source_starts : (s : StageNo) (a : LineSeen) → a.waiting ≡ [] → a.end ≡ None → IsNewGate a.source.paced → KeepsSource [] s true [] a a
source_starts s a empty none gate = record {
  read = record {
    same_telling = refl;
    each_is_a_line = All-nil IsLine;
    same_bytes = λ t. refl;
    to_come = λ t open_still. rw empty refl;
    at_end = λ t is. no_end a.end end.End none is;
    at_long = λ is. no_end a.end end.TooLong none is;
    at_fault = λ is. no_end a.end end.Fault none is;
    faults_stay = omega arith;
    waits_stay = omega arith;
  };
  known = tt;
  quiet = rise_none a.source.waits;
  paced = begins s a.source.paced.pace a gate.fresh gate.some empty;
}

merge_starts : (s : StageNo) (a : MergeSeen) → IsNewMerge a → KeepsMerge [] s [] a a
merge_starts s a new = record {
  given = [];
  records = refl;
  read = new.read;
  known = tt;
  quiet = rise_none (waits_together a);
  unpaced = new.unpaced;
}

sink_starts : (topology : Topology) (s : StageNo) (a : SinkSeen) → KeepsSink topology [] s a a
sink_starts topology s a = record { told = refl; held = λ t. sym (append-nil a.held); faults_stay = omega arith; short = rise_none a.faults }

callback_starts : (topology : Topology) (p : Post) (a : BoxSeen) → IfSome (Some a) (λ box. (box.kind ≡ Own → ⊥) → box.count ≡ 0) → KeepsCallback topology [] p a a
callback_starts topology p a zero_count = record {
  kept = record { kind = refl; spec = refl; law = refl; told = refl; calls = omega arith; bad = omega arith; no_calls = λ own. refl; no_bad = λ own. refl };
  count = λ own calm live. zero_count own;
  calls = λ own. rise_none a.calls;
  bad = λ own. rise_none a.bad;
  resets = λ own. none_counted a.resets a.resets refl;
  lawful = tt;
}

body_starts : (topology : Topology) (p : Post) (a : BodySeen) → IsUnused a → KeepsBody topology [] p a a
body_starts topology p a unused = record {
  source = by_source a.source unused.source;
  sink = by_sink a.sink;
  callback = by_callback a.callback unused.count;
}
  where
    by_source : (x : Option FeedSeen) → IfSome x IsNewFeed → Both (KeepsFeed [] p.stage true []) x x
    by_source (Some (Single lines)) new = source_starts p.stage lines new.waiting new.end new.gate
    by_source (Some (Merged merge)) new = merge_starts p.stage merge new
    by_source None new = tt

    by_sink : (x : Option SinkSeen) → Both (KeepsSink topology [] p.stage) x x
    by_sink (Some sink) = sink_starts topology p.stage sink
    by_sink None = tt

    by_callback : (x : Option BoxSeen) → IfSome x (λ box. (box.kind ≡ Own → ⊥) → box.count ≡ 0) → Both (KeepsCallback topology [] p) x x
    by_callback (Some box) zero_count = callback_starts topology p box zero_count
    by_callback None zero_count = tt

pub starts : (topology : Topology) (opened : ℕ → Option BodySeen) → IsFilled topology opened → Keeps topology [] opened opened
starts topology opened filled p here = by_body (opened (place_at p)) (filled.unused p here)
  where
    by_body : (x : Option BodySeen) → IfSome x IsUnused → Both (KeepsBody topology [] p) x x
    by_body (Some a) unused = body_starts topology p a unused
    by_body None unused = tt
