-- Laws of what is handed out.
use Rattle.std.proofs.Common.{◌≡◌, ℕ, List, [], ◌++◌, arith, refl, ap, sym, ◌∙◌}
use Rattle.std.specs.Prelude.{IsTrue}
use Rattle.std.proofs.lemmas.List.{append_assoc, append-nil}
use Rattle.pipe_types.specs.Lines.{lines}
use Rattle.pipe_edges.specs.declared.source.ByteSource.{Ghosts as SourceOf}
use Rattle.pipe_edges.specs.Handed.{Handed}
use Rattle.pipe_edges.specs.Texts.{joined}
use Rattle.pipe_edges.specs.Fetch.{records_of}
use Rattle.pipe_edges.specs.Stop.{fetched_of, stop_text, StopHasCause}
use Rattle.pipe_edges.specs.declared.reading.LineEnd.TheVariants as end
use Rattle.pipe_edges.specs.declared.reading.Stop.{Stop}
use Rattle.pipe_edges.specs.declared.reading.Stop.TheVariants.{Lines, Last, Ended}
use Rattle.pipe_edges.proofs.TextLaws.{lines_ended, lines_last, lines_nil}

-- nothing happened
pub handed_none : {B : Type 0} (source : SourceOf B) (old new : B) (held held' : List ℕ)
    → new ≡ old → held' ≡ held → Handed source old new held held' []
handed_none source old new held held' e f = record {
  same_telling = ap source.told e;
  part = [];
  all_kept = rw (f, append-nil) refl;
  from_left = λ t. rw e refl;
  into_taken = λ t. rw (e, append-nil) refl;
  faults_stay = rw e (omega arith);
  waits_stay = rw e (omega arith);
}

-- one text after another
pub handed_more : {B : Type 0} {source : SourceOf B} {a b c : B} {h i j s t : List ℕ}
    → Handed source a b h i s → Handed source b c i j t
    → Handed source a c h j (s ++ t)
handed_more {source = source} {a = a} {h = h} {i = i} {j = j} {s = s} {t = t} p q = record {
  same_telling = q.same_telling ∙ p.same_telling;
  part = p.part ++ q.part;
  all_kept =
      sym (append_assoc h p.part q.part) ∙ ap (λ x. x ++ q.part) p.all_kept ∙ append_assoc s i q.part ∙ ap (λ x. s ++ x) q.all_kept ∙ sym (append_assoc s t j);
  from_left = λ y. p.from_left y ∙ ap (λ x. p.part ++ x) (q.from_left (rw p.same_telling y)) ∙ sym (append_assoc p.part q.part _);
  into_taken = λ y. q.into_taken (rw p.same_telling y) ∙ ap (λ x. x ++ q.part) (p.into_taken y) ∙ append_assoc (source.taken a) p.part q.part;
  faults_stay = omega (arith, p.faults_stay, q.faults_stay);
  waits_stay = omega (arith, p.waits_stay, q.waits_stay);
}

-- what was to come is the text that was handed out and what is to come now
pub to_come : {B : Type 0} {source : SourceOf B} {a b : B} {h i s : List ℕ}
    → Handed source a b h i s → IsTrue (source.told a) → h ++ source.left a ≡ s ++ (i ++ source.left b)
to_come {source = source} {b = b} {h = h} {i = i} {s = s} p t =
    rw (p.from_left t) (sym (append_assoc h p.part (source.left b)) ∙ ap (λ x. x ++ source.left b) p.all_kept ∙ append_assoc s i (source.left b))

-- the records are the first of the lines that were to come
pub in_order_of : {B : Type 0} (source : SourceOf B) (a b : B) (h i : List ℕ) (max : ℕ) (stop : Stop)
    → Handed source a b h i (stop_text stop) → StopHasCause source a b i max stop → IsTrue (source.told a)
    → lines (h ++ source.left a) ≡ records_of (fetched_of stop) ++ lines (i ++ source.left b)
in_order_of source a b h i max (Lines rs) p cause t = rw (to_come p t) (lines_ended rs (i ++ source.left b) cause.2)
in_order_of source a b h i max (Last rs) p cause t =
    let e : h ++ source.left a ≡ joined rs ++ (i ++ source.left b) = to_come p t in
    let f : h ++ source.left a ≡ cause.line = rw (cause.alone, cause.none_held, cause.none_left t, append-nil, append-nil) at e in
    rw (f, cause.alone, cause.none_held, cause.none_left t, lines_last cause.line cause.is_line cause.some, lines_nil) refl
in_order_of source a b h i max (Ended end.End) p cause t = ap lines (to_come p t)
in_order_of source a b h i max _ p cause t = ap lines (to_come p t)
